-- The stamps of the first records that wait, and what the first of them says of all that wait.
use Rattle.std.proofs.Common.{◌≡◌, ℕ, zero, suc, ◌+◌, ◌-◌, ◌<◌, ◌≤◌, List, [], ◌∷◌, ◌++◌, map, length, take, set, get_or, replicate, Option, Some, None, refl, ap, sym, ◌∙◌, arith}
use Rattle.std.proofs.Common.{inl, inr, subst}
use Rattle.std.specs.List.{AllByRecursion}
use Rattle.std.proofs.Math.Seq.{take-suc, take-length, set-append_seam}
use Rattle.std.proofs.lemmas.Bool.{cases_lt}
use Rattle.std.proofs.lemmas.List.{append_assoc, append-nil, map-append, length-map, length-take-le}
use Rattle.afdx_earliest.specs.Instants.{instant_at, IsFirstUpTo, IsFirstIn}
use Rattle.afdx_pcap.specs.Record.{Record}
use Rattle.afdx_table.specs.declared.rows.PortRow.{PortRow}
use Rattle.afdx_core.specs.Merge.{Capture, Rises}
use Rattle.afdx_session.specs.Inner.Settled.{HeadFrom, ComesFirst}
use Rattle.afdx_paced.specs.Inner.Parts.{Parts, waiting_of, head_of, heads_of}
use Rattle.afdx_paced.specs.Inner.Kept.{IsOfTable}
use Rattle.afdx_paced.specs.declared.feeder.Feeder.{Feeder}

-- ---- lane by lane

pub heads_more : (lanes : List Parts) (heads : List (Option ℕ)) (n : ℕ) (l : Parts) (head : Option ℕ) → n < length lanes
    → heads ≡ heads_of (take n lanes) ++ replicate (length lanes - n) None → l ≡ get_or lanes n l → head ≡ head_of l.waiting
    → set heads n head ≡ heads_of (take (n + 1) lanes) ++ replicate (length lanes - (n + 1)) None
heads_more lanes heads n l head within are at is =
    ap (λ hs. set hs n head) (are ∙ ap (λ k. before ++ replicate k None) some)
    ∙ ap (λ k. set (before ++ None ∷ after) k head) (sym long)
    ∙ set-append_seam before None after head
    ∙ sym (append_assoc before (head ∷ []) after)
    ∙ ap (λ hs. hs ++ after) one_more
  where
    before : List (Option ℕ)
    before = heads_of (take n lanes)

    after : List (Option ℕ)
    after = replicate (length lanes - (n + 1)) None

    some : length lanes - n ≡ suc (length lanes - (n + 1))
    some = omega (arith, within)

    long : length before ≡ n
    long = length-map (take n lanes) (λ (x : Parts). head_of x.waiting) ∙ length-take-le n lanes (omega (arith, within))

    next : n + 1 ≡ suc n
    next = omega arith

    one_more : before ++ head ∷ [] ≡ heads_of (take (n + 1) lanes)
    one_more =
        ap (λ h. before ++ h ∷ []) (is ∙ ap (λ (x : Parts). head_of x.waiting) at)
        ∙ sym (map-append (λ (x : Parts). head_of x.waiting) (take n lanes) (get_or lanes n l ∷ []))
        ∙ ap (λ (ls : List Parts). heads_of ls) (sym (ap (λ k. take k lanes) next ∙ take-suc lanes n l within))

pub heads_all : (lanes : List Parts) (heads : List (Option ℕ)) (n : ℕ) → length lanes ≤ n → n ≤ length lanes
    → heads ≡ heads_of (take n lanes) ++ replicate (length lanes - n) None → heads ≡ heads_of lanes
heads_all lanes heads n ge le are =
    let all : n ≡ length lanes = omega (arith, ge, le) in
    let none : length lanes - n ≡ 0 = omega (arith, ge) in
    are ∙ ap (λ k. heads_of (take n lanes) ++ replicate k None) none ∙ append-nil (heads_of (take n lanes))
    ∙ ap (λ (ls : List Parts). heads_of ls) (ap (λ k. take k lanes) all ∙ take-length lanes)

-- there are as many lanes as ports
pub few_lanes : {Z : Type 0} (f : Feeder Z) → IsOfTable f → length f.lanes.items ≤ 24
few_lanes f of =
    let same = sym (length-map f.lanes.items (λ (l : Parts). l.port)) ∙ ap (λ (ns : List ℕ). length ns) of.ports ∙ length-map f.switch.run.table.ports (λ (p : PortRow). p.id) in
    let few = of.formed.few_ports in
    omega (arith, same, few)

-- ---- the first of them

head_from : (n : ℕ) (rs : List Record) → ((u : ℕ) → head_of rs ≡ Some u → n ≤ u) → HeadFrom n rs
head_from n [] all = tt
head_from n (r ∷ rs) all = all r.stamp refl

no_head : (lanes : List Parts) (j : ℕ) → length lanes ≤ j → instant_at (heads_of lanes) j ≡ None
no_head [] j ge = refl
no_head (l ∷ lanes) zero ge = absurd (omega (arith, ge))
no_head (l ∷ lanes) (suc j) ge = no_head lanes j (omega (arith, ge))

all_heads : (n : ℕ) (lanes : List Parts) → ((j u : ℕ) → instant_at (heads_of lanes) j ≡ Some u → n ≤ u) → AllByRecursion (λ (w : Capture). HeadFrom n w.records) (map waiting_of lanes)
all_heads n [] all = tt
all_heads n (l ∷ lanes) all = (head_from n l.waiting (λ u. all 0 u), all_heads n lanes (λ j u. all (suc j) u))

comes_first : (t k : ℕ) (lanes : List Parts) → ((j u : ℕ) → instant_at (heads_of lanes) j ≡ Some u → t ≤ u) → ((j u : ℕ) → j < k → instant_at (heads_of lanes) j ≡ Some u → t < u)
    → ComesFirst t k (map waiting_of lanes)
comes_first t k [] sooner former = tt
comes_first t zero (l ∷ lanes) sooner former = (head_from t l.waiting (λ u. sooner 0 u), all_heads t lanes (λ j u. sooner (suc j) u))
comes_first t (suc k) (l ∷ lanes) sooner former = (
  head_from (t + 1) l.waiting (λ u is. let lt = former 0 u (omega arith) is in omega (arith, lt)),
  comes_first t k lanes (λ j u. sooner (suc j) u) (λ j u lt. former (suc j) u (omega (arith, lt))),
)

-- the first one is no later than any
none_sooner : (lanes : List Parts) (k t : ℕ) → IsFirstUpTo (heads_of lanes) (length lanes) k t → (j u : ℕ) → instant_at (heads_of lanes) j ≡ Some u → t ≤ u
none_sooner lanes k t first j u is = elim (cases_lt j (length lanes)) [
  | inl lt ↦ first.sooner j u lt is
  | inr ge ↦ absurd (none u (sym (no_head lanes j ge) ∙ is))
] where
  none : (u : ℕ) → None ≡ Some u → ⊥
  none u e = absurd cc

pub first_comes : (lanes : List Parts) (k t : ℕ) → IsFirstUpTo (heads_of lanes) (length lanes) k t → ComesFirst t k (map waiting_of lanes)
first_comes lanes k t first = comes_first t k lanes (none_sooner lanes k t first) first.former

-- ---- all that waits

records_from : (n : ℕ) (rs : List Record) → ((u : ℕ) → head_of rs ≡ Some u → n ≤ u) → Rises rs → AllByRecursion (λ (r : Record). n ≤ r.stamp) rs
records_from n [] head rises = tt
records_from n (r ∷ rs) head rises = (here, on rs rises.0) where
  here : n ≤ r.stamp
  here = head r.stamp refl

  on : (qs : List Record) → AllByRecursion (λ (q : Record). r.stamp ≤ q.stamp) qs → AllByRecursion (λ (q : Record). n ≤ q.stamp) qs
  on [] all = tt
  on (q ∷ qs) all = let le = all.0 in (omega (arith, here, le), on qs all.1)

waits_by : (n : ℕ) (lanes : List Parts) → AllByRecursion (λ (l : Parts). Rises l.waiting) lanes → ((j u : ℕ) → instant_at (heads_of lanes) j ≡ Some u → n ≤ u)
    → AllByRecursion (λ (l : Parts). AllByRecursion (λ (r : Record). n ≤ r.stamp) l.waiting) lanes
waits_by n [] rise all = tt
waits_by n (l ∷ lanes) rise all = (records_from n l.waiting (λ u. all 0 u) rise.0, waits_by n lanes rise.1 (λ j u. all (suc j) u))

-- it comes no sooner than the first of them
pub waits_after : (lanes : List Parts) (k t n : ℕ) → AllByRecursion (λ (l : Parts). Rises l.waiting) lanes → IsFirstUpTo (heads_of lanes) (length lanes) k t → n ≤ t
    → AllByRecursion (λ (l : Parts). AllByRecursion (λ (r : Record). n ≤ r.stamp) l.waiting) lanes
waits_after lanes k t n rise first le = waits_by n lanes rise (λ j u is. let sooner = none_sooner lanes k t first j u is in omega (arith, sooner, le))

-- or nothing waits
none_in : (rs : List Record) → head_of rs ≡ None → rs ≡ []
none_in [] is = refl
none_in (r ∷ rs) is = absurd cc

pub none_waits : (lanes : List Parts) → ((j : ℕ) → j < length lanes → instant_at (heads_of lanes) j ≡ None) → AllByRecursion (λ (l : Parts). l.waiting ≡ []) lanes
none_waits [] none = tt
none_waits (l ∷ lanes) none = (none_in l.waiting (none 0 (omega arith)), none_waits lanes (λ j lt. none (suc j) (omega (arith, lt))))

pub empty_from : (n : ℕ) (lanes : List Parts) → AllByRecursion (λ (l : Parts). l.waiting ≡ []) lanes → AllByRecursion (λ (l : Parts). AllByRecursion (λ (r : Record). n ≤ r.stamp) l.waiting) lanes
empty_from n [] none = tt
empty_from n (l ∷ lanes) none = (subst (λ (rs : List Record). AllByRecursion (λ (r : Record). n ≤ r.stamp) rs) (sym none.0) tt, empty_from n lanes none.1)

long_heads : (lanes : List Parts) → length (heads_of lanes) ≡ length lanes
long_heads lanes = length-map lanes (λ (l : Parts). head_of l.waiting)

-- what a list of heads says of its first is of the lanes
pub first_in_lanes : (heads : List (Option ℕ)) (lanes : List Parts) (first : Option (ℕ × ℕ)) → heads ≡ heads_of lanes → IsFirstIn heads (length heads) first
    → IsFirstIn (heads_of lanes) (length lanes) first
first_in_lanes heads lanes first are is =
    subst (λ n. IsFirstIn (heads_of lanes) n first) (long_heads lanes) (subst (λ (hs : List (Option ℕ)). IsFirstIn hs (length hs) first) are is)
