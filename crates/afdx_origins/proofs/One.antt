-- A frame came first at one instant alone.
use Rattle.std.proofs.Common.{◌≡◌, ℕ, ◌==◌, List, [], ◌∷◌, slice_get, Some, None, ap, sym, ◌∙◌, subst, arith}
use Rattle.std.specs.Prelude.{Contains}
use Rattle.std.proofs.lemmas.List.Elements.{All-filter, All-contains, All-contains_itself}
use Rattle.std.proofs.lemmas.Option.{same_Some, slice_get-get_or}
use Rattle.afdx_port.specs.declared.Sent.{Sent}
use Rattle.afdx_wiring.specs.declared.layout.End.{End}
use Rattle.afdx_wiring.specs.declared.layout.Wire.{Wire}
use Rattle.afdx_network_check.specs.Net.{Network, Row}
use Rattle.afdx_network_check.specs.Order.{row_before}
use Rattle.afdx_origins.specs.declared.departure.Departure.{Departure}
use Rattle.afdx_origins.specs.Origins.{sent_from, of_link, Hop, CameOver}
use Rattle.afdx_origins.specs.Laws.{EndApart, OriginIsOne}

-- what passes a filter was there
among_all : (link : ℕ) (xs : List Sent) (x : Sent) → Contains (of_link link xs) x → Contains xs x
among_all link xs x has = All-contains (λ y. Contains xs y) (of_link link xs) x (All-filter (λ y. y.item.link == link) (λ y. Contains xs y) xs (All-contains_itself xs)) has

-- it has a place
place_of : (xs : List Sent) (x : Sent) → Contains xs x → (k : ℕ) × (slice_get xs k ≡ Some x)
place_of xs x has = (has.0, slice_get-get_or xs has.0 x has.1 ∙ ap Some has.2)

-- two copies of one port that ended at one instant are one
one_copy : (sent : List Departure) → EndApart sent → (e : End) (link : ℕ) (x y : Sent) → Contains (of_link link (sent_from sent e)) x → Contains (of_link link (sent_from sent e)) y
    → x.end ≡ y.end → x ≡ y
one_copy sent apart e link x y one other same =
    let a = place_of (sent_from sent e) x (among_all link (sent_from sent e) x one) in
    let b = place_of (sent_from sent e) y (among_all link (sent_from sent e) y other) in
    same_Some x y (sym a.1 ∙ ap (slice_get (sent_from sent e)) (apart e a.0 b.0 x y a.1 b.1 same) ∙ b.1)

one_over : (net : Network) (sent : List Departure) → EndApart sent → (r : Row) (x : Sent) (hops more : List Hop) (first other : ℕ) → CameOver net sent r x hops first → CameOver net sent r x more other
    → first ≡ other
one_over net sent apart r x [] [] first other h g = sym h.1 ∙ g.1
one_over net sent apart r x [] (that ∷ more) first other h g = absurd (differ (sym h.0 ∙ g.0)) where
  differ : None ≡ Some that.wire → ⊥
  differ e = absurd cc
one_over net sent apart r x (hop ∷ hops) [] first other h g = absurd (differ (sym g.0 ∙ h.0)) where
  differ : None ≡ Some hop.wire → ⊥
  differ e = absurd cc
one_over net sent apart r x (hop ∷ hops) (that ∷ more) first other h g =
    let wire : hop.wire ≡ that.wire = same_Some hop.wire that.wire (sym h.0 ∙ g.0) in
    let row : hop.row ≡ that.row = same_Some hop.row that.row (sym h.1 ∙ ap (λ (w : Wire). row_before net r.link.id w) wire ∙ g.1) in
    let delays = ap (λ (w : Wire). w.delay) wire in
    let here = h.3 in
    let there = g.3 in
    let ends : hop.copy.end ≡ that.copy.end = omega (arith, delays, here, there) in
    let left = subst (λ (w : Wire). Contains (of_link r.link.id (sent_from sent w.from)) hop.copy) wire h.2 in
    let copy : hop.copy ≡ that.copy = one_copy sent apart that.wire.from r.link.id hop.copy that.copy left g.2 ends in
    one_over net sent apart that.row that.copy hops more first other
    (subst (λ (y : Sent). CameOver net sent that.row y hops first) copy (subst (λ (q : Row). CameOver net sent q hop.copy hops first) row h.4)) g.4

pub origin_is_one : OriginIsOne
origin_is_one net sent apart r x first other h g = one_over net sent apart r x h.0 g.0 first other h.1 g.1
