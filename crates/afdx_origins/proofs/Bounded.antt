-- No delay from end to end is greater than the sum of the bounds and cables on the way.
use Rattle.std.proofs.Common.{◌≡◌, ℕ, suc, ◌≤◌, ◌+◌, Bool, true, false, cond, List, [], ◌∷◌, Option, Some, None, refl, ap, sym, ◌∙◌, subst, arith}
use Rattle.std.specs.Prelude.{All, Contains, IfSome, option_and_then, slice_get}
use Rattle.std.specs.Option.{option_map}
use Rattle.std.specs.List.{AllZip}
use Rattle.std.proofs.lemmas.List.Elements.{All-cons, All-nil, All-contains}
use Rattle.std.proofs.lemmas.Option.{same_Some}
use Rattle.afdx_port.specs.declared.Sent.{Sent}
use Rattle.afdx_table.specs.Link.{Link, leads_to}
use Rattle.afdx_table.specs.Content.{Content, link_row}
use Rattle.afdx_table.specs.Inner.Found.{LinksAreFound}
use Rattle.afdx_measure.specs.declared.delays.Delays.{Delays}
use Rattle.afdx_measure.specs.Delays.{summary_of, RangeIsOfDelays}
use Rattle.afdx_jitter.specs.declared.delays.Delays.{Delays as Bounds}
use Rattle.afdx_wiring.specs.declared.layout.End.{End}
use Rattle.afdx_wiring.specs.declared.layout.Wire.{Wire}
use Rattle.afdx_network_check.specs.Net.{Network, Row, Back, row_in, row_at, IsWayBack, AreDelays}
use Rattle.afdx_network_check.specs.Order.{leading, row_before}
use Rattle.afdx_origins.specs.declared.departure.Departure.{Departure}
use Rattle.afdx_origins.specs.Origins.{sent_from, of_link, Hop, CameOver, IsDelay}
use Rattle.afdx_origins.specs.Laws.{KeepBounds, NoneTakesMoreThanItsWay}

none_some : {X : Type 0} (x : X) → None ≡ Some x → ⊥
none_some x e = absurd cc

-- the number of a row that is found
number_of : LinksAreFound → (net : Network) (switch link : ℕ) (r : Row) → row_at net switch link ≡ Some r → r.link.id ≡ link
number_of found net switch link r is = by (slice_get net.tables switch) is where
  of_row : (t : Content) (o : Option Link) → link_row t link ≡ o → option_map (row_in switch) o ≡ Some r → r.link.id ≡ link
  of_row t None none is = absurd (none_some r is)
  of_row t (Some l) row is = ap (λ (q : Row). q.link.id) (sym (same_Some (row_in switch l) r is)) ∙ (found.is_row t link l row).0

  by : (o : Option Content) → option_and_then (λ (t : Content). option_map (row_in switch) (link_row t link)) o ≡ Some r → r.link.id ≡ link
  by None is = absurd (none_some r is)
  by (Some t) is = of_row t (link_row t link) refl is

-- the row before is one that leads to the wire
leads_before : (net : Network) (link : ℕ) (w : Wire) (r : Row) → row_before net link w ≡ Some r → (row_at net w.from.switch link ≡ Some r)
leads_before net link w r is = by (row_at net w.from.switch link) refl is where
  chosen : (q : Row) (b : Bool) → cond b (Some q) None ≡ Some r → q ≡ r
  chosen q true e = same_Some q r e
  chosen q false e = absurd (none_some r e)

  by : (o : Option Row) → row_at net w.from.switch link ≡ o → option_and_then (leading w.from.port) o ≡ Some r → row_at net w.from.switch link ≡ Some r
  by None at e = absurd (none_some r e)
  by (Some q) at e = at ∙ ap Some (chosen q (leads_to w.from.port q.link) e)

-- a copy has ended, and come to the end of a line behind its port, within the bounds and cables from the source on
in_bounds : LinksAreFound → (net : Network) (sent : List Departure) → KeepBounds net sent → (link : ℕ) (b : Back) (backs : List Back) (d : Bounds) (x : Sent) (hops : List Hop) (first : ℕ)
    → row_at net b.wire.from.switch link ≡ Some b.row → IsWayBack net b.row backs → AreDelays net (b ∷ backs) d → Contains (of_link link (sent_from sent b.wire.from)) x
    → CameOver net sent b.row x hops first → x.end + b.wire.delay ≤ first + d.most
in_bounds found net sent keep link b [] d x [] first row way delays has came =
    let bound = delays.2 in
    let kept = All-contains (λ (y : Sent). y.end ≤ y.item.stamp + bound) (of_link link (sent_from sent b.wire.from)) x (keep b.wire.from link b.row delays.1 bound row delays.5 delays.6) has in
    let none = ap (λ (e : Bounds). e.most) delays.7 in
    let sum = ap (λ (e : Bounds). e.most) delays.8 in
    let stamp = came.1 in
    omega (arith, kept, none, sum, stamp)
in_bounds found net sent keep link b (back ∷ more) d x [] first row way delays has came = absurd (none_some back.wire (sym came.0 ∙ way.0))
in_bounds found net sent keep link b [] d x (hop ∷ hops) first row way delays has came = absurd (none_some hop.wire (sym way ∙ came.0))
in_bounds found net sent keep link b (back ∷ more) d x (hop ∷ hops) first row way delays has came =
    let bound = delays.2 in
    let kept = All-contains (λ (y : Sent). y.end ≤ y.item.stamp + bound) (of_link link (sent_from sent b.wire.from)) x (keep b.wire.from link b.row delays.1 bound row delays.5 delays.6) has in
    let number : b.row.link.id ≡ link = number_of found net b.wire.from.switch link b.row row in
    let wire : hop.wire ≡ back.wire = same_Some hop.wire back.wire (sym came.0 ∙ way.0) in
    let before : row_at net hop.wire.from.switch b.row.link.id ≡ Some hop.row = leads_before net b.row.link.id hop.wire hop.row came.1 in
    let same : hop.row ≡ back.row = same_Some hop.row back.row (sym before ∙ ap (λ (w : Wire). row_at net w.from.switch b.row.link.id) wire ∙ way.1) in
    let there : row_at net back.wire.from.switch link ≡ Some back.row = ap (row_at net back.wire.from.switch) (sym number) ∙ way.1 in
    let left : Contains (of_link link (sent_from sent back.wire.from)) hop.copy
    = subst (λ n. Contains (of_link n (sent_from sent back.wire.from)) hop.copy) number (subst (λ (w : Wire). Contains (of_link b.row.link.id (sent_from sent w.from)) hop.copy) wire came.2) in
    let earlier = in_bounds found net sent keep link back more delays.3 hop.copy hops first there way.3 delays.7 left
    (subst (λ (q : Row). CameOver net sent q hop.copy hops first) same came.4) in
    let cable = ap (λ (w : Wire). w.delay) wire in
    let at = came.3 in
    let sum = ap (λ (e : Bounds). e.most) delays.8 in
    omega (arith, kept, earlier, cable, at, sum)

-- so are all delays there
all_in_bounds : LinksAreFound → (net : Network) (sent : List Departure) → KeepBounds net sent → (link : ℕ) (e : End) (r : Row) (backs : List Back) (d : Bounds)
    → row_at net e.switch link ≡ Some r → IsWayBack net r backs → AreDelays net (record { wire = record { from = e; to = e; delay = 0; down = false }; row = r } ∷ backs) d
    → (xs : List Sent) (ns : List ℕ) → ((x : Sent) → Contains xs x → Contains (of_link link (sent_from sent e)) x) → AllZip (IsDelay net sent link e) xs ns → All (λ n. n ≤ d.most) ns
all_in_bounds found net sent keep link e r backs d row way delays [] [] among h = All-nil (λ n. n ≤ d.most)
all_in_bounds found net sent keep link e r backs d row way delays [] (n ∷ ns) among h = absurd h
all_in_bounds found net sent keep link e r backs d row way delays (x ∷ xs) [] among h = absurd h
all_in_bounds found net sent keep link e r backs d row way delays (x ∷ xs) (n ∷ ns) among h =
    let one = h.0 in
    let same : one.row ≡ r = same_Some one.row r (sym one.row_is ∙ row) in
    let first : Contains (x ∷ xs) x = (0, omega arith, refl) in
    let within = in_bounds found net sent keep link (record { wire = record { from = e; to = e; delay = 0; down = false }; row = r }) backs d x one.came.0 one.first row way delays (among x first)
    (subst (λ (q : Row). CameOver net sent q x one.came.0 one.first) same one.came.1) in
    let is = one.delay_is in
    All-cons (λ m. m ≤ d.most) n ns (omega (arith, within, is))
    (all_in_bounds found net sent keep link e r backs d row way delays xs ns (λ y has. among y (let lt = has.1 in (suc has.0, omega (arith, lt), has.2))) h.1)

pub none_takes_more : LinksAreFound → RangeIsOfDelays → NoneTakesMoreThanItsWay
none_takes_more found ranges net sent keep w link e d along summary = by summary.0 summary.2 all where
  line : Wire
  line = record { from = e; to = e; delay = 0; down = false }

  r : Row
  r = along.0

  all : All (λ n. n ≤ w.delays.most) summary.0
  all = all_in_bounds found net sent keep link e r along.1 w.delays (leads_before net link line r along.2) along.3 along.4.delays (of_link link (sent_from sent e)) summary.0 (λ x has. has) summary.1

  by : (ns : List ℕ) → d ≡ summary_of ns → All (λ n. n ≤ w.delays.most) ns → IfSome d.range (λ range. range.greatest ≤ w.delays.most)
  by [] is all = subst (λ (x : Delays). IfSome x.range (λ range. range.greatest ≤ w.delays.most)) (sym is) tt
  by (n ∷ ns) is all = subst (λ (x : Delays). IfSome x.range (λ range. range.greatest ≤ w.delays.most)) (sym is)
      (All-contains (λ m. m ≤ w.delays.most) (n ∷ ns) _ all (ranges (n ∷ ns)).1.is_one)
