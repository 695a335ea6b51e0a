-- Ports keep to their lines.
use Rattle.std.proofs.Common.{◌≡◌, ℕ, Bool, true, false, cond, List, [], map, slice_get, Option, Some, None, is_some, option_and_then, option_map, refl, ap, sym, ◌∙◌, arith, subst}
use Rattle.std.specs.Prelude.{Contains, IfSome}
use Rattle.std.proofs.lemmas.Bool.{both_ways}
use Rattle.std.proofs.lemmas.List.Elements.{All-contains}
use Rattle.std.proofs.lemmas.List.{get_or-map, length-map}
use Rattle.std.proofs.lemmas.Option.{same_Some, slice_get-map}
use Rattle.afdx_units.specs.declared.line.Speed.{Speed}
use Rattle.afdx_pcap.specs.Record.{Record}
use Rattle.afdx_table.specs.declared.rows.PortRow.{PortRow}
use Rattle.afdx_table.specs.Content.{Content, port_row}
use Rattle.afdx_core.specs.Merge.{Capture, records_of, merged}
use Rattle.afdx_session.specs.Output.{output_of}
use Rattle.afdx_filter.specs.Frame.{frame_of}
use Rattle.afdx_serial.specs.Laws.{ExactStampsKeepToTheLine}
use Rattle.afdx_session.specs.Lined.{RecordsKeepToLine, RecordsKeepToLineWithin}
use Rattle.afdx_wiring.specs.declared.layout.End.{End}
use Rattle.afdx_wiring.specs.declared.layout.Wire.{Wire}
use Rattle.afdx_network_check.specs.Net.{Network, wire_to, is_wired, port_at, stamp_rounding, rounding_at}
use Rattle.afdx_network_check.specs.Rules.{Joins}
use Rattle.afdx_network.specs.Way.{delayed}
use Rattle.afdx_network.specs.Runs.{SwitchRun, Given}
use Rattle.afdx_network.specs.Laws.{IsFittingRun}
use Rattle.afdx_network.specs.LinedWay.{WiresKeepToLines}
use Rattle.afdx_network.specs.LinedRun.{PortsKeepToLines}
use Rattle.afdx_network.specs.Inner.Sites.{end_at}
use Rattle.afdx_network.proofs.Found.{ports_are_found}
use Rattle.afdx_network.proofs.Rows.{wire_goes_there}
use Rattle.afdx_network.proofs.Started.{text_of}
use Rattle.afdx_network.proofs.Texts.{numbers_rise, read_at}
use Rattle.afdx_network.proofs.Agreement.{Ground, table_at, formed_at, behind, none_comes}

module _ (g : Ground) (wires : WiresKeepToLines) (net : Network) (given : Given) (runs : List SwitchRun) (acc : IsFittingRun net given runs) (n : ℕ) (run : SwitchRun)
    (run_is : slice_get runs n ≡ Some run) (q : PortRow) (at : Contains run.table.ports q) where
  over : (w : Wire) → wire_to net (end_at n q.id) ≡ Some w → w.down ≡ false → RecordsKeepToLine q.speed (records_of run.outcome.read q.id)
  over w is up =
      let there = wire_goes_there net (end_at n q.id) w is in
      let b = behind g net given runs acc w run there.1 up (ap (λ (e : End). slice_get runs e.switch) there.0 ∙ run_is) in
      let joins = All-contains (Joins net) net.layout.wires w acc.accepted.fits.wires there.1 in
      let start_there : port_at net w.from ≡ Some b.port
      = ap (option_and_then (λ (t : Content). port_row t w.from.port)) (table_at g net given runs acc w.from.switch b.here b.here_is)
      ∙ ap (port_row b.here.table) (sym b.number) ∙ ports_are_found b.here.table b.port (formed_at g net given runs acc w.from.switch b.here b.here_is) b.has in
      let goal_there : port_at net w.to ≡ Some q
      = ap (port_at net) there.0 ∙ ap (option_and_then (λ (t : Content). port_row t q.id)) (table_at g net given runs acc n run run_is)
      ∙ ports_are_found run.table q (formed_at g net given runs acc n run run_is) at in
      let goal : joins.goal ≡ q = same_Some joins.goal q (sym joins.goal_is ∙ goal_there) in
      let start : joins.start ≡ b.port = same_Some joins.start b.port (sym joins.start_is ∙ start_there) in
      let speed : b.port.speed ≡ q.speed = ap (λ (p : PortRow). p.speed) (sym start) ∙ sym joins.speed ∙ ap (λ (p : PortRow). p.speed) goal in
      let records : records_of run.outcome.read q.id ≡ map (delayed w.delay) (output_of b.here.table (merged b.here.outcome.read) b.port)
      = ap (λ (read : List Capture). records_of read q.id) (sym run.plain.0) ∙ ap (λ (e : End). records_of run.isolated.read e.port) (sym there.0) ∙ b.comes
      ∙ ap (λ (out : PortRow → List Record). map (delayed w.delay) (out b.port)) b.here.plain.1 in
      subst (λ (s : Speed). RecordsKeepToLine s (records_of run.outcome.read q.id)) speed
      (subst (λ (rs : List Record). RecordsKeepToLine b.port.speed rs) (sym records) (wires b.here.table (merged b.here.outcome.read) b.port w.delay))

  -- over a wire that is down there comes nothing
  nothing : (w : Wire) → wire_to net (end_at n q.id) ≡ Some w → w.down ≡ true → RecordsKeepToLine q.speed (records_of run.outcome.read q.id)
  nothing w is down =
      let there = wire_goes_there net (end_at n q.id) w is in
      let records : records_of run.outcome.read q.id ≡ []
      = ap (λ (read : List Capture). records_of read q.id) (sym run.plain.0) ∙ ap (λ (e : End). records_of run.isolated.read e.port) (sym there.0)
      ∙ none_comes g net given runs acc w run there.1 down (ap (λ (e : End). slice_get runs e.switch) there.0 ∙ run_is) in
      subst (λ (rs : List Record). RecordsKeepToLine q.speed rs) (sym records) (λ i j d less within. absurd (omega (arith, within)))

  keeps : is_wired net n q.id ≡ true → RecordsKeepToLine q.speed (records_of run.outcome.read q.id)
  keeps on = by (wire_to net (end_at n q.id)) refl on where
    by : (o : Option Wire) → wire_to net (end_at n q.id) ≡ o → is_some o ≡ true → RecordsKeepToLine q.speed (records_of run.outcome.read q.id)
    by None is on = absurd (both_ways false refl on)
    by (Some w) is on = at_wire w.down refl where
      at_wire : (b : Bool) → w.down ≡ b → RecordsKeepToLine q.speed (records_of run.outcome.read q.id)
      at_wire false up = over w is up
      at_wire true down = nothing w is down

  -- ---- an end system's port

  number_among : Contains (map (λ (p : PortRow). p.id) run.table.ports) q.id
  number_among =
      let within = at.1 in (
        at.0,
        omega (arith, within, length-map run.table.ports (λ (p : PortRow). p.id)),
        get_or-map (λ (p : PortRow). p.id) run.table.ports at.0 q q.id at.1 ∙ ap (λ (p : PortRow). p.id) at.2,
      )

  text_there : (bytes : List ℕ) × Contains run.texts (q.id, bytes)
  text_there = text_of run.texts q.id (subst (λ (ns : List ℕ). Contains ns q.id) (sym run.outcome.ports) number_among)

  -- what was given for it came over its line, where the file says so
  given_there : wire_to net (end_at n q.id) ≡ None → net.layout.one_line ≡ true → RecordsKeepToLineWithin stamp_rounding q.speed (records_of run.outcome.read q.id)
  given_there no_wire said =
      let text = text_there in
      let formed = formed_at g net given runs acc n run run_is in
      let texts_are = slice_get-map (λ (r : SwitchRun). r.texts) runs n ∙ ap (option_map (λ (r : SwitchRun). r.texts)) run_is in
      let fed = acc.run.fed.others (end_at n q.id) run.texts (q.id, text.0) no_wire texts_are refl text.1 in
      let there : port_at net (end_at n q.id) ≡ Some q
      = ap (option_and_then (λ (t : Content). port_row t q.id)) (table_at g net given runs acc n run run_is) ∙ ports_are_found run.table q formed at in
      let read = read_at run.texts run.outcome.read q.id text.0 run.outcome.are_read (numbers_rise run.table run.texts formed run.outcome.ports) text.1 in
      subst (λ (rs : List Record). RecordsKeepToLineWithin stamp_rounding q.speed rs) (sym read.all)
      (acc.run.lines said (end_at n q.id) q read.records (record { row_is = there; no_wire = no_wire; text = (q.id, text.0); is_given = fed; port = refl; capture = read.capture }))

  abbrev KeepsWithin : Option ℕ → Type 0
  KeepsWithin o = IfSome o (λ rounding. RecordsKeepToLineWithin rounding q.speed (records_of run.outcome.read q.id))

  keeps_within : ExactStampsKeepToTheLine → KeepsWithin (rounding_at net n q.id)
  keeps_within exact = by (wire_to net (end_at n q.id)) (net.layout.one_line) refl refl where
    by : (o : Option Wire) (said : Bool) → wire_to net (end_at n q.id) ≡ o → net.layout.one_line ≡ said
        → KeepsWithin (cond (is_some o) (Some 0) (cond said (Some stamp_rounding) None))
    by (Some w) said is is_said = exact 0 q.speed (map frame_of (records_of run.outcome.read q.id)) (keeps (ap is_some is))
    by None true is is_said = given_there is is_said
    by None false is is_said = tt

pub ports_keep : Ground → ExactStampsKeepToTheLine → WiresKeepToLines → PortsKeepToLines
ports_keep g exact wires net given runs acc n run run_is = λ q at. keeps_within g wires net given runs acc n run run_is q at exact
