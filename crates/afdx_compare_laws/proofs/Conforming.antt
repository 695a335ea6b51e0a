-- A link whose records are what left of its frames has nothing that speaks against the switch, whatever order it was told of them in.
use Rattle.std.proofs.Common.{◌≡◌, ℕ, zero, suc, ◌+◌, ◌-◌, ◌≤◌, Bool, true, List, [], ◌∷◌, ◌++◌, map}
use Rattle.std.proofs.Common.{Option, Some, None, refl, sym, ap, subst, ◌∙◌, arith}
use Rattle.std.specs.Prelude.{slice_get}
use Rattle.std.specs.List.{AllByRecursion, list_all}
use Rattle.std.proofs.lemmas.Bool.{and_from}
use Rattle.std.proofs.lemmas.List.{append-nil}
use Rattle.afdx_pcap.specs.Record.{Record}
use Rattle.afdx_account.specs.Account.{account_terms}
use Rattle.afdx_levels.specs.Inner.Laws.{chosen, FateMayBe, AtRestIsTheAccount}
use Rattle.afdx_pairing.specs.declared.limits.Limits.{Limits}
use Rattle.afdx_pairing.specs.Events.{Numbered}
use Rattle.afdx_pairing.specs.Limits.{left_at}
use Rattle.afdx_pairing.specs.Pairing.{Pairing, at_first as pairing_at_first, end_told}
use Rattle.afdx_pairing.specs.Kept.{IsKeptFor, Sight, Came, Left, Until, own_of, passed_of, left_of, after_all, told_by_all, all_told}
use Rattle.afdx_following.specs.declared.tally.Tally.{Tally}
use Rattle.afdx_following.specs.Tally.{no_events, tallied, tally_of, conforms_in}
use Rattle.afdx_following.specs.Output.{Output, last_at, with_end}
use Rattle.afdx_following.specs.Watched.{levels_at_first, at_first, settled_by}
use Rattle.afdx_following.specs.Followed.{Notice, with_notices, own_in, left_in}
use Rattle.afdx_following.proofs.Counting.{tallied_more, conforms_where_fine}
use Rattle.afdx_following.proofs.Growing.{AreUpTo}
use Rattle.afdx_following.proofs.Ports.{records, IsPort}
use Rattle.afdx_compare.proofs.Places.{all_at}
use Rattle.afdx_compare_laws.specs.Fine.{LeavesLater, IsByEnd, AreByEnd}
use Rattle.afdx_compare_laws.specs.Fates.{Recorded, LeaveLater, IsKeptBy, is_seen, fates_seen}
use Rattle.afdx_compare_laws.specs.Conforming.{recorded_from, IsOffBy, KeptLinkConforms}
use Rattle.afdx_compare_laws.proofs.Ending.{Ends}
use Rattle.afdx_compare_laws.proofs.Fine.{kept_is_fine, first_is, rest_is}
use Rattle.afdx_compare_laws.proofs.Fates.{told_fates_explain}
use Rattle.afdx_compare_laws.proofs.Narrowing.{all_map}
use Rattle.afdx_compare_laws.proofs.Told.{limits_in, limits_at, settled_limits, notices_limits, same_limits, same_many, port_there, next_order}
use Rattle.afdx_compare_laws.proofs.Told.{Slow, fates_of, settled_told, notices_told, first_told}
use Rattle.afdx_following.proofs.Explained.{none_undecided, nothing_waits, get_mapped}

-- ---- lists

pub list_all_from : {X : Type 0} (p : X → Bool) (xs : List X) → ((k : ℕ) (x : X) → slice_get xs k ≡ Some x → p x ≡ true) → list_all p xs ≡ true
list_all_from p [] each = refl
list_all_from p (x ∷ xs) each = and_from (p x) (list_all p xs) (each 0 x refl) (list_all_from p xs (λ k y at. each (suc k) y at))

all_across : (own : List Record) (ports : List Recorded) → AllByRecursion (λ p. AllByRecursion (LeavesLater p.limits) own) ports
    → AllByRecursion (λ r. AllByRecursion (λ p. LeavesLater p.limits r) ports) own
all_across [] ports all = tt
all_across (r ∷ own) ports all = (
  all_map (λ p. AllByRecursion (LeavesLater p.limits) (r ∷ own)) (λ p. LeavesLater p.limits r) (λ p one. one.0) ports all,
  all_across own ports (all_map (λ p. AllByRecursion (LeavesLater p.limits) (r ∷ own)) (λ p. AllByRecursion (LeavesLater p.limits) own) (λ p one. one.1) ports all),
)

-- ---- what was recorded at the ports

pub recorded_limits : (last : Option ℕ) (notices : List Notice) (place : ℕ) (os : List Output) → limits_in os ≡ limits_at (recorded_from last notices place os)
recorded_limits last notices place [] = refl
recorded_limits last notices place (o ∷ os) = ap (λ (ms : List Limits). o.limits ∷ ms) (recorded_limits last notices (place + 1) os)

pub record IsOf (last : Option ℕ) (notices : List Notice) (place : ℕ) (p : Recorded) : Type 0 where
  pub last_is : p.last ≡ last_at p.limits last
  pub out_is : p.out ≡ left_in place notices

pub recorded_at : (last : Option ℕ) (notices : List Notice) (place : ℕ) (os : List Output) (k : ℕ) (p : Recorded) → slice_get (recorded_from last notices place os) k ≡ Some p
    → IsOf last notices (place + k) p
recorded_at last notices place [] k p at = absurd (let none = at in cc)
recorded_at last notices place (o ∷ os) zero p at =
    let one : Recorded = record { limits = o.limits; last = last_at o.limits last; out = left_in place notices } in
    let same : one ≡ p = cc in
    let here : place ≡ place + 0 = omega arith in
    subst (λ (x : Recorded). IsOf last notices (place + 0) x) same (record { last_is = refl; out_is = ap (λ (i : ℕ). left_in i notices) here })
recorded_at last notices place (o ∷ os) (suc k) p at =
    let next : (place + 1) + k ≡ place + suc k = omega arith in
    subst (λ (i : ℕ). IsOf last notices i p) next (recorded_at last notices (place + 1) os k p at)

-- ---- in the end all fates are told, and no record waits

-- ---- a port

sooner_by_end : (m : Limits) (last : Option ℕ) (i at : ℕ) → i ≤ at → IsByEnd m last at → IsByEnd m last i
sooner_by_end m None i at le end = tt
sooner_by_end m (Some last) i at le end = omega (arith, le, end)

by_end : (m : Limits) (last : Option ℕ) (at : ℕ) → IsByEnd m last at → (ss : List Sight) → AreUpTo m at ss → AreByEnd m last ss
by_end m last at end [] up = tt
by_end m last at end (Came n passes ∷ ss) up = by_end m last at end ss up
by_end m last at end (Left n ∷ ss) up = (sooner_by_end m last (left_at m n.frame) at up.0 end, by_end m last at end ss up.1)
by_end m last at end (Until i ∷ ss) up = (sooner_by_end m last i at up.0 end, by_end m last at end ss up.1)

ends_fine : (latest : ℕ) (passed own out : List Record) (o : Output) (p : Recorded) (last : Option ℕ) → IsPort latest passed own [] out o → o.waiting ≡ [] → o.limits ≡ p.limits
    → p.last ≡ last_at p.limits last → p.out ≡ out → Ends last o.limits latest → AllByRecursion (LeavesLater p.limits) own → IsKeptFor p.limits p.last own passed p.out
    → conforms_in (with_end last o).found.tally ≡ true
ends_fine latest passed own out o p last h none limits last_is out_is told later kept =
    let m = o.limits in
    let first = pairing_at_first m in
    let ss = h.sights in
    let end = last_at m last in
    let left : out ≡ left_of ss = sym h.left_is ∙ ap (λ (ws : List Numbered). left_of ss ++ records ws) none ∙ append-nil (left_of ss) in
    let here : IsKeptFor m end own passed out =
    subst (λ (x : Limits). IsKeptFor x (last_at x last) own passed out) (sym limits)
    (subst (λ (e : Option ℕ). IsKeptFor p.limits e own passed out) last_is (subst (λ (rs : List Record). IsKeptFor p.limits p.last own passed rs) out_is kept)) in
    let seen : IsKeptFor m end (own_of ss) (passed_of ss) (left_of ss) =
    subst (λ (rs : List Record). IsKeptFor m end rs (passed_of ss) (left_of ss)) (sym h.own_is)
    (subst (λ (rs : List Record). IsKeptFor m end own rs (left_of ss)) (sym h.passed_is) (subst (λ (rs : List Record). IsKeptFor m end own passed rs) left here)) in
    let slow = subst (λ (rs : List Record). AllByRecursion (LeavesLater m) rs) (sym h.own_is) (subst (λ (x : Limits). AllByRecursion (LeavesLater x) own) (sym limits) later) in
    let fine = kept_is_fine m end ss h.order (by_end m end (latest - m.tolerance) told ss h.up_to) slow seen in
    let tally : tallied (end_told o.pairing end) o.found.tally ≡ tally_of (all_told first end ss) =
    ap (λ (q : Pairing). tallied (end_told q end) o.found.tally) h.pairing
    ∙ ap (λ (t : Tally). tallied (end_told (after_all first ss) end) t) h.tally
    ∙ sym (tallied_more (told_by_all first ss) (end_told (after_all first ss) end) no_events) in
    ap (λ (t : Tally). conforms_in t) tally ∙ (conforms_where_fine (all_told first end ss)).1 fine

-- ---- the link

even_ports : (os : List Output) (ports : List Recorded) (tolerance : ℕ) → limits_in os ≡ limits_at ports → AllByRecursion (IsOffBy tolerance) os
    → AllByRecursion (λ p. p.limits.tolerance ≡ tolerance) ports
even_ports [] [] tolerance same off = tt
even_ports [] (p ∷ ports) tolerance same off = absurd (let never = same in cc)
even_ports (o ∷ os) [] tolerance same off = tt
even_ports (o ∷ os) (p ∷ ports) tolerance same off = (
  ap (λ (m : Limits). m.tolerance) (sym (first_is o.limits p.limits (limits_in os) (limits_at ports) same)) ∙ off.0,
  even_ports os ports tolerance (rest_is o.limits p.limits (limits_in os) (limits_at ports) same) off.1,
)

pub kept_link_conforms : FateMayBe → AtRestIsTheAccount → KeptLinkConforms
kept_link_conforms may rest account tolerance since outputs notices last fates bounded fresh off next ended later can allowed kept =
    let t = account_terms account in
    let first = at_first account tolerance since outputs in
    let l = levels_at_first account tolerance since in
    let own = own_in notices in
    let ports = recorded_from last notices 0 outputs in
    let f = with_notices notices first in
    let all = settled_by None f in
    let same : limits_in outputs ≡ limits_at ports = recorded_limits last notices 0 outputs in
    let now : limits_in f.outputs ≡ limits_at ports = notices_limits notices first ∙ same in
    let end : limits_in all.outputs ≡ limits_at ports = settled_limits None f ∙ now in
    let slow : AllByRecursion (Slow t tolerance l ports) own =
    all_across own ports later in
    let still : (k : ℕ) (p : Recorded) → slice_get ports k ≡ Some p → p.out ≡ left_in k notices =
    λ k p at. (recorded_at last notices 0 outputs k p at).out_is ∙ ap (λ (i : ℕ). left_in i notices) (let here : 0 + k ≡ k = omega arith in here) in
    let even = even_ports outputs ports tolerance same off in
    let h = notices_told t tolerance l ports last [] (λ place. []) (λ place. 0) notices first (first_told account tolerance since outputs ports last bounded fresh) next same even slow
    ended still in
    let e = settled_told t tolerance l ports last own (λ place. left_in place notices) (λ place. []) h.0 None f h.1 now (λ k p at. still k p at ∙ sym (append-nil (left_in k notices)))
    (λ k p at. tt) (λ place. tt) in
    let none : all.undecided ≡ [] = none_undecided f.undecided f in
    let done : e.done ≡ own = sym (append-nil e.done) ∙ ap (λ (ns : List Numbered). e.done ++ records ns) (sym none) ∙ sym e.own_is in
    let passed = chosen (fates_seen t tolerance (is_seen ports) l own) own in
    let seen = told_fates_explain may rest t tolerance l own fates ports (next_order notices first 0 (omega arith) next).1 later can allowed kept in
    list_all_from (λ (o : Output). conforms_in o.found.tally) (map (λ o. with_end last o) all.outputs) (λ k o get.
    let old = get_mapped (λ x. with_end last x) all.outputs k o get in
    let p = port_there all.outputs ports k old.0 (same_many all.outputs ports end) old.1.0 in
    let of = recorded_at last notices 0 outputs k p.0 p.1 in
    let late = h.0 k in
    let told = e.at_port k old.0 old.1.0 in
    let port = subst (λ (rs : List Record). IsPort late (chosen (fates_of t tolerance l ports rs) rs) rs [] (left_in k notices) old.0) done
    (subst (λ (ns : List Numbered). IsPort late (chosen (fates_of t tolerance l ports e.done) e.done) e.done ns (left_in k notices) old.0) none told.port) in
    ap (λ (x : Output). conforms_in x.found.tally) (sym old.1.1)
    ∙ ends_fine late passed own (left_in k notices) old.0 p.0 last port (nothing_waits f k old.0 old.1.0) (same_limits all.outputs ports k old.0 p.0 end old.1.0 p.1)
    of.last_is (still k p.0 p.1) told.ends (all_at (LeaveLater own) ports k p.0 p.1 later) (all_at (IsKeptBy own (fates_seen t tolerance (is_seen ports) l own)) ports k p.0 p.1 seen))
