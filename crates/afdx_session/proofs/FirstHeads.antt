-- The first of the stamps, lane by lane, and how they follow the lanes.
use Rattle.std.proofs.Common.{◌≡◌, ℕ, zero, suc, ◌+◌, ◌-◌, ◌<◌, ◌≤◌, List, [], ◌∷◌, ◌++◌, length, take, set, get_or, replicate, Option, None, refl, ap, sym, ◌∙◌, arith, subst}
use Rattle.std.proofs.Math.Seq.{take-suc, take-length, set-append_seam}
use Rattle.std.proofs.lemmas.List.{append_assoc, append-nil, map-append, map-set, length-map, length-take-le}
use Rattle.afdx_earliest.specs.Instants.{IsFirstIn}
use Rattle.afdx_table.specs.declared.rows.PortRow.{PortRow}
use Rattle.afdx_table.specs.Content.{Content}
use Rattle.afdx_session.specs.declared.lane.Lane.{Lane}
use Rattle.afdx_session.specs.Inner.Kept.{AreOfTable}
use Rattle.afdx_session.specs.Inner.Lanes.{heads_of, head_of, IsFirstOf}

-- one more lane
pub heads_more : {Z : Type 0} (lanes : List (Lane Z)) (heads : List (Option ℕ)) (n : ℕ) (l : Lane Z) (head : Option ℕ) → n < length lanes
    → heads ≡ heads_of (take n lanes) ++ replicate (length lanes - n) None → l ≡ get_or lanes n l → head ≡ head_of l.waiting.items
    → set heads n head ≡ heads_of (take (n + 1) lanes) ++ replicate (length lanes - (n + 1)) None
heads_more {Z} lanes heads n l head within are at is =
    ap (λ hs. set hs n head) (are ∙ ap (λ k. before ++ replicate k None) some)
    ∙ ap (λ k. set (before ++ None ∷ after) k head) (sym long)
    ∙ set-append_seam before None after head
    ∙ sym (append_assoc before (head ∷ []) after)
    ∙ ap (λ hs. hs ++ after) one_more
  where
    before : List (Option ℕ)
    before = heads_of (take n lanes)

    after : List (Option ℕ)
    after = replicate (length lanes - (n + 1)) None

    some : length lanes - n ≡ suc (length lanes - (n + 1))
    some = omega (arith, within)

    long : length before ≡ n
    long = length-map (take n lanes) (λ (x : Lane Z). head_of x.waiting.items) ∙ length-take-le n lanes (omega (arith, within))

    next : n + 1 ≡ suc n
    next = omega arith

    one_more : before ++ head ∷ [] ≡ heads_of (take (n + 1) lanes)
    one_more =
        ap (λ h. before ++ h ∷ []) (is ∙ ap (λ (x : Lane Z). head_of x.waiting.items) at)
        ∙ sym (map-append (λ (x : Lane Z). head_of x.waiting.items) (take n lanes) (get_or lanes n l ∷ []))
        ∙ ap (λ (ls : List (Lane Z)). heads_of ls) (sym (ap (λ k. take k lanes) next ∙ take-suc lanes n l within))

-- all of them
pub heads_all : {Z : Type 0} (lanes : List (Lane Z)) (heads : List (Option ℕ)) (n : ℕ) → length lanes ≤ n → n ≤ length lanes
    → heads ≡ heads_of (take n lanes) ++ replicate (length lanes - n) None → heads ≡ heads_of lanes
heads_all {Z} lanes heads n ge le are =
    let all : n ≡ length lanes = omega (arith, ge, le) in
    let none : length lanes - n ≡ 0 = omega (arith, ge) in
    are ∙ ap (λ k. heads_of (take n lanes) ++ replicate k None) none ∙ append-nil (heads_of (take n lanes))
    ∙ ap (λ (ls : List (Lane Z)). heads_of ls) (ap (λ k. take k lanes) all ∙ take-length lanes)

-- there are as many lanes as ports
pub lanes_long : {Z : Type 0} (t : Content) (lanes : List (Lane Z)) → AreOfTable t lanes → length lanes ≡ length t.ports
lanes_long {Z} t lanes of = sym (length-map lanes (λ (l : Lane Z). l.port)) ∙ ap (λ (ns : List ℕ). length ns) of.ports ∙ length-map t.ports (λ (p : PortRow). p.id)

-- there is no lane without a port
pub lanes_few : {Z : Type 0} (t : Content) (lanes : List (Lane Z)) → AreOfTable t lanes → length lanes ≤ 24
lanes_few t lanes of =
    let same = lanes_long t lanes of in
    let few = of.formed.few_ports in
    omega (arith, same, few)

-- the first of the stamps is that of the lanes
pub first_of_lanes : {Z : Type 0} (heads : List (Option ℕ)) (lanes : List (Lane Z)) (first : Option (ℕ × ℕ)) → heads ≡ heads_of lanes → IsFirstIn heads (length heads) first → IsFirstOf lanes first
first_of_lanes {Z} heads lanes first are is =
    subst (λ n. IsFirstIn (heads_of lanes) n first) (length-map lanes (λ (l : Lane Z). head_of l.waiting.items)) (subst (λ hs. IsFirstIn hs (length hs) first) are is)

pub set_twice : {X : Type 0} (xs : List X) (k : ℕ) (x y : X) → set (set xs k x) k y ≡ set xs k y
set_twice [] k x y = refl
set_twice (z ∷ xs) zero x y = refl
set_twice (z ∷ xs) (suc k) x y = ap (λ ys. z ∷ ys) (set_twice xs k x y)

-- where another record has come to wait, there is another stamp
pub heads_set : {Z : Type 0} (lanes mid : List (Lane Z)) (place : ℕ) (with_rest l : Lane Z) → mid ≡ set lanes place with_rest
    → set (heads_of lanes) place (head_of l.waiting.items) ≡ heads_of (set mid place l)
heads_set {Z} lanes mid place with_rest l is =
    sym (map-set (λ (x : Lane Z). head_of x.waiting.items) lanes place l)
    ∙ ap (λ (ls : List (Lane Z)). heads_of ls) (sym (set_twice lanes place with_rest l) ∙ ap (λ (ls : List (Lane Z)). set ls place l) (sym is))
