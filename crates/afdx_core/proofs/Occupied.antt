-- What the buffers of output ports hold.
use Rattle.std.proofs.Common.{◌≡◌, ℕ, ◌<◌, ◌≤◌, false, List, length, get_or, slice_get, option_map, ap, sym, ◌∙◌, arith, subst}
use Rattle.std.proofs.lemmas.List.{length-map}
use Rattle.std.proofs.lemmas.Option.{slice_get_past}
use Rattle.afdx_units.specs.Time.{is_before}
use Rattle.afdx_table.specs.declared.rows.PortRow.{PortRow}
use Rattle.afdx_table.specs.Content.{Content}
use Rattle.afdx_port.specs.Service.{Event, instant, reach, service}
use Rattle.afdx_port.specs.Admission.{occupied}
use Rattle.afdx_port.specs.Content.{done, advanced}
use Rattle.afdx_port.specs.Lagging.{has_due}
use Rattle.afdx_port.specs.Inner.Lagging.{AdvanceLeavesNothingDue}
use Rattle.afdx_core.specs.declared.step.Row.{Row}
use Rattle.afdx_core.specs.declared.engine.Engine.{Engine}
use Rattle.afdx_core.specs.State.{occupied_in}
use Rattle.afdx_core.specs.Inner.OutputPorts.{OutletValue, Out, seen}
use Rattle.afdx_core.specs.Inner.Engine.{Follows, run_of, IsKeptEngine}
use Rattle.afdx_core.proofs.Calls.{some_of, row_at}
use Rattle.afdx_core.proofs.Lagging.{on_time}

-- of an output port that follows nothing is due
nothing_due : AdvanceLeavesNothingDue → (t : Content) (rows : List Row) (latest : ℕ) (o : Out) → Follows t rows latest false o → has_due latest o.content ≡ false
nothing_due leaves t rows latest o h =
    let c = o.content in
    let same : done c ≡ done (advanced latest c) = h.done_is ∙ sym (ap done (on_time t rows latest latest o h)) in
    ap (λ (es : List Event). is_before (reach c.settings latest) (option_map instant (slice_get (service c.settings 0 c.admitted) (length es)))) same
    ∙ leaves c latest h.finished_is

module _ {Z : Type 0} (e : Engine Z) (kept : IsKeptEngine e) (is_open : e.finished ≡ false) (place : ℕ) (os : List (OutletValue Z)) (same : os ≡ e.output_ports.items) where
  follows : (d : OutletValue Z) → place < length e.output_ports.items → Follows e.table e.log.rows.items e.latest false (seen (get_or e.output_ports.items place d))
  follows d lt = subst (λ b. Follows e.table e.log.rows.items e.latest b (seen (get_or e.output_ports.items place d))) is_open (kept.contents place d lt)

  -- the output port at this place may be asked
  pub record MayBeAsked (xs : List (OutletValue Z)) : Type 0 where
    pub within : place < length xs
    pub still_open : (d : OutletValue Z) → (get_or xs place d).port.content.finished ≡ false
    pub in_order : (d : OutletValue Z) → (get_or xs place d).port.content.horizon ≤ e.latest
    pub none_due : (d : OutletValue Z) → has_due e.latest (get_or xs place d).port.content ≡ false

  pub may_be_asked : AdvanceLeavesNothingDue → place < length e.output_ports.items → MayBeAsked os
  may_be_asked leaves lt = subst (λ xs. MayBeAsked xs) (sym same) (record {
    within = lt;
    still_open = λ d. (follows d lt).finished_is;
    in_order = λ d. (follows d lt).horizon;
    none_due = λ d. nothing_due leaves e.table e.log.rows.items e.latest (seen (get_or e.output_ports.items place d)) (follows d lt);
  })

  -- it answers for the port
  pub answers : (n : ℕ) → place < length e.output_ports.items
      → ((d : OutletValue Z) → n ≡ occupied (get_or os place d).port.content.settings (reach (get_or os place d).port.content.settings e.latest) (get_or os place d).port.content.admitted)
      → n ≡ occupied_in (run_of e) (slice_get e.table.ports place)
  answers n lt says =
      let d = some_of e.output_ports.items place lt in
      let h = follows d lt in
      says d ∙ ap (λ (xs : List (OutletValue Z)). occupied (get_or xs place d).port.content.settings (reach (get_or xs place d).port.content.settings e.latest)
      (get_or xs place d).port.content.admitted) same
      ∙ (λ i. occupied (h.settings i) (reach (h.settings i) e.latest) (h.admitted i)) ∙ sym (ap (occupied_in (run_of e)) (row_at e place d kept lt))

pub none_answers : {Z : Type 0} (e : Engine Z) (place : ℕ) → IsKeptEngine e → length e.output_ports.items ≤ place → 0 ≡ occupied_in (run_of e) (slice_get e.table.ports place)
none_answers e place kept le =
    let long : length e.output_ports.items ≡ length e.table.ports = sym (length-map e.output_ports.items (λ (o : OutletValue _). o.row)) ∙ ap (λ (ps : List PortRow). length ps) kept.ports in
    sym (ap (occupied_in (run_of e)) (slice_get_past e.table.ports place (omega (arith, le, long))))
