-- What is noted at the port of a number, and whether ports have handed out all.
use Rattle.std.proofs.Common.{◌≡◌, ℕ, ◌<◌, ◌≤◌, ◌==◌, false, true, List, length, get_or, slice_get, slice_index, Option, Some, None, Bor, refl, ap, sym, ◌∙◌, arith, subst, inl, inr}
use Rattle.std.specs.Prelude.{MatchOption}
use Rattle.std.specs.Option.{option_copied, is_some}
use Rattle.std.proofs.lemmas.Bool.{eq-eqb}
use Rattle.std.proofs.lemmas.Option.{slice_get_cases, slice_get_within, slice_get_past, slice_get-get_or, get_or_from_slice_get}
use Rattle.afdx_table.specs.declared.rows.PortRow.{PortRow}
use Rattle.afdx_table.specs.Content.{port_row}
use Rattle.afdx_table.specs.WellFormed.{IsWellFormed}
use Rattle.afdx_table.specs.Inner.Distinct.{PortsAreDistinct}
use Rattle.afdx_port.specs.declared.Sent.{Sent}
use Rattle.afdx_core.specs.State.{Run, sent_in, next_at, next_by, place_of, IsNextOf}
use Rattle.afdx_measure.specs.declared.gauges.AtPort.{AtPort}
use Rattle.afdx_measure.specs.declared.gauges.Gauges.{Gauges}
use Rattle.afdx_measure.specs.Handed.{AllHandedOut}
use Rattle.afdx_measure.specs.Inner.Gauged.{IsGaugedAt, IsOfPort, AreGauged}
use Rattle.afdx_measure.proofs.Numbered.{found_at, none_passes, past_all, placed}

-- what is at the place of a port is noted of it
pub gauged_there : {Z : Type 0} (r : Run) (g : Gauges Z) (port place : ℕ) (o : Option (Bor (AtPort Z))) → AreGauged r g → place_of r port ≡ Some place
    → option_copied o ≡ slice_get g.ports.items place → MatchOption o (port_row r.table port ≡ None) (λ at. IsOfPort r port at.now)
gauged_there {Z} r g port place o h found there = by o there where
  by : (o : Option (Bor (AtPort Z))) → option_copied o ≡ slice_get g.ports.items place → MatchOption o (port_row r.table port ≡ None) (λ at. IsOfPort r port at.now)
  by None there = elim ((slice_get_cases g.ports.items place).1) [
    | inl some ↦ absurd (let is = some.2 in (cc))
    | inr past ↦ let le = past.0 in past_all (λ (q : PortRow). q.id == port) r.table.ports place found (omega (arith, le, h.many))
  ]
  by (Some at) there = elim ((slice_get_cases r.table.ports place).1) [
    | inl row ↦ record {
      place = place;
      row = row.0;
      row_is = found_at (λ (q : PortRow). q.id == port) r.table.ports place row.0 found row.2;
      there = row.2;
      gauged = subst (IsGaugedAt r place row.0) (get_or_from_slice_get g.ports.items place at.now at.now (sym there)) (h.each place row.0 at.now row.2);
    }
    | inr past ↦ absurd (let within = slice_get_within g.ports.items place at.now (sym there) in let le = past.0 in omega (arith, within, le, h.many))
  ]

-- ---- what was handed out

-- a port that has nothing next has nothing next at its place
pub none_at : PortsAreDistinct → (r : Run) (k : ℕ) (p : PortRow) → IsWellFormed r.table → slice_get r.table.ports k ≡ Some p → next_by r (place_of r p.id) ≡ None → next_at r k ≡ None
none_at distinct r k p formed here none = by (place_of r p.id) refl where
  by : (o : Option ℕ) → place_of r p.id ≡ o → next_at r k ≡ None
  by None missed =
      let fails = none_passes (λ (q : PortRow). q.id == p.id) r.table.ports k p missed here in
      let passes = eq-eqb p.id p.id (λ i. p.id) in
      absurd (cc)
  by (Some j) found =
      let same : j ≡ k = placed (λ (q : PortRow). q.id) r.table.ports (distinct r.table.ports formed.ports_rise) p.id j k p found here (λ i. p.id) in
      ap (next_at r) (sym same) ∙ sym (ap (next_by r) found) ∙ none

-- nor has any place that is no port's
pub none_past : (r : Run) (k : ℕ) → length r.table.ports ≤ k → next_at r k ≡ None
none_past r k past = ap (λ (o : Option PortRow). slice_get (sent_in r o) (slice_index r.handed k)) (slice_get_past r.table.ports k past)

-- a port that answers that it has nothing next
none_left : (r : Run) (port : ℕ) (o : Option (ℕ × Sent)) → IsNextOf r port o → is_some o ≡ false → next_by r (place_of r port) ≡ None
none_left r port None next none = next
none_left r port (Some x) next none = absurd (cc)

-- and one that answers that it has something next
pub some_left : (r : Run) (port : ℕ) (o : Option (ℕ × Sent)) → IsNextOf r port o → is_some o ≡ true → AllHandedOut r → ⊥
some_left r port None next some all = absurd (let never = some in (cc))
some_left r port (Some x) next some all = absurd (let none = all x.0 in let is = next.1 in (cc))

pub none_here : PortsAreDistinct → (r : Run) (rows : List PortRow) (k : ℕ) (d : PortRow) (o : Option (ℕ × Sent)) → rows ≡ r.table.ports → IsWellFormed r.table → k < length rows
    → IsNextOf r (get_or rows k d).id o → is_some o ≡ false → next_at r k ≡ None
none_here distinct r rows k d o is formed lt next none =
    let p = get_or rows k d in
    none_at distinct r k p formed (ap (λ (ps : List PortRow). slice_get ps k) (sym is) ∙ slice_get-get_or rows k d lt) (none_left r p.id o next none)
