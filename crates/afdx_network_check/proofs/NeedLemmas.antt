-- Needs that are met: the check finds no shortage; and what jitters don't touch.
use Rattle.std.proofs.Common.{◌≡◌, ℕ, zero, suc, ◌+◌, ◌*◌, ◌/◌, ◌==◌, ◌&&◌, Bool, true, false, cond, nat_le, nat_lt, List, [], ◌∷◌, ◌++◌, map, drop, length, get_or, slice_set, ◌<◌, append_assoc}
use Rattle.std.proofs.Common.{Option, Some, None, Ok, refl, ap, sym, ◌∙◌, arith}
use Rattle.std.specs.List.{AllByRecursion, list_all}
use Rattle.std.proofs.lemmas.Bool.Decides.{nat_tests}
use Rattle.std.proofs.lemmas.Bool.{eqb-true}
use Rattle.afdx_table.specs.Link.{Link, with_jitter}
use Rattle.afdx_table.specs.Content.{Content}
use Rattle.afdx_jitter.specs.declared.delays.Delays.{Delays}
use Rattle.afdx_jitter.specs.Delay.{at_once, least_jitter}
use Rattle.afdx_network_check.specs.declared.jitters.RowNeed.{RowNeed}
use Rattle.afdx_wiring.specs.Refusal.{◌>>=◌}
use Rattle.afdx_network_check.specs.Net.{Network, Row, row_in, rows_from, rows_of}
use Rattle.afdx_network_check.specs.Order.{most_rows, way_within, short_by, short_after, short_at, first_short, shortages, shortage}
use Rattle.afdx_network_check.specs.Needs.{bare_link, bare, needed, need_in, is_met}
use Rattle.afdx_network_check.proofs.Chains.{next_rows}
use Rattle.afdx_network_check.proofs.Shorts.{Found, none_at_all}

-- ---- needs that are met

left : (a b : Bool) → (a && b) ≡ true → a ≡ true
left true b h = refl
left false b h = absurd cc

right : (a b : Bool) → (a && b) ≡ true → b ≡ true
right true b h = h
right false b h = absurd cc

no_less : (has need : ℕ) → has ≡ need * 1000 → nat_lt (has / 1000) need ≡ false
no_less has need is = grind (arith, nat_tests, is)

kept_where : (r : Row) (need : ℕ) → nat_lt (r.link.jitter / 1000) need ≡ false → short_by r need ≡ None
kept_where r need h = ap (λ (b : Bool). cond b (Some (record { switch = r.switch; link = r.link.id; need = need; has = r.link.jitter / 1000 })) None) h

has_its_need : (r : Row) (o : Option (ℕ × Delays)) → nat_le (needed o) 10000 ≡ true → r.link.jitter ≡ needed o * 1000 → short_after r o ≡ Ok None
has_its_need r None few is = absurd cc
has_its_need r (Some far) few is = ap Ok (kept_where r (least_jitter far.1 far.0) (no_less r.link.jitter (least_jitter far.1 far.0) is))

each_has : (net : Network) (rs : List Row) → list_all is_met (map (need_in false net) rs) ≡ true → AllByRecursion (λ r. short_at net r ≡ Ok None) rs
each_has net [] h = tt
each_has net (r ∷ rs) h =
    let n : RowNeed = need_in false net r in
    let rest : Bool = list_all is_met (map (need_in false net) rs) in
    let met = left (is_met n) rest h in
    let few = left (nat_le n.need 10000) (n.has == n.need * 1000) met in
    let is = eqb-true n.has (n.need * 1000) (right (nat_le n.need 10000) (n.has == n.need * 1000) met) in
    (has_its_need r (way_within most_rows net r at_once) few is, each_has net rs (right (is_met n) rest h))

pub each_is : (ns : List RowNeed) → list_all is_met ns ≡ true → AllByRecursion (λ n. n.has ≡ n.need * 1000) ns
each_is [] h = tt
each_is (n ∷ ns) h =
    let rest : Bool = list_all is_met ns in
    (eqb-true n.has (n.need * 1000) (right (nat_le n.need 10000) (n.has == n.need * 1000) (left (is_met n) rest h)), each_is ns (right (is_met n) rest h))

pub none_short : (net : Network) → list_all is_met (map (need_in false net) (rows_of net)) ≡ true → shortage net ≡ Ok tt
unfolding shortage shortages
none_short net h = ap (λ (found : Found). found >>= first_short) (none_at_all net (rows_of net) (each_has net (rows_of net) h))

-- ---- what jitters don't touch

bare_still : (place jitter : ℕ) (ls : List Link) → map bare_link (with_jitter place jitter ls) ≡ map bare_link ls
bare_still place jitter [] = refl
bare_still zero jitter (l ∷ ls) = refl
bare_still (suc place) jitter (l ∷ ls) = ap (λ (rest : List Link). bare_link l ∷ rest) (bare_still place jitter ls)

pub bare_same : (t u : Content) (place jitter : ℕ) → u ≡ record t { links = with_jitter place jitter t.links } → bare u ≡ bare t
bare_same t u place jitter is = ap bare is ∙ ap (λ (links : List Link). record t { links = links }) (bare_still place jitter t.links)

pub bare_set : (ts : List Content) (i : ℕ) (t u : Content) → t ≡ get_or ts i t → bare u ≡ bare t → map bare (slice_set ts i u) ≡ map bare ts
bare_set [] i t u is same = refl
bare_set (x ∷ ts) zero t u is same = ap (λ (c : Content). c ∷ map bare ts) (same ∙ ap bare is)
bare_set (x ∷ ts) (suc i) t u is same = ap (λ (rest : List Content). bare x ∷ rest) (bare_set ts i t u is same)

-- ---- switch by switch

spread : (f : Row → RowNeed) (n : ℕ) (ls : List Link) (more : List Row) → map f (map (row_in n) ls ++ more) ≡ map (λ l. f (row_in n l)) ls ++ map f more
spread f n [] more = refl
spread f n (l ∷ ls) more = ap (λ (rest : List RowNeed). f (row_in n l) ∷ rest) (spread f n ls more)

pub needs_go : (f : Row → RowNeed) (before : List RowNeed) (n : ℕ) (ts : List Content) (t : Content) → n < length ts → t ≡ get_or ts n t
    → (before ++ map (λ l. f (row_in n l)) t.links) ++ map f (rows_from (n + 1) (drop (n + 1) ts)) ≡ before ++ map f (rows_from n (drop n ts))
needs_go f before n ts t within is =
    append_assoc before (map (λ l. f (row_in n l)) t.links) (map f (rows_from (n + 1) (drop (n + 1) ts)))
    ∙ ap (λ (rest : List RowNeed). before ++ rest) (sym (ap (map f) (next_rows n ts t within is) ∙ spread f n t.links (rows_from (n + 1) (drop (n + 1) ts))))
