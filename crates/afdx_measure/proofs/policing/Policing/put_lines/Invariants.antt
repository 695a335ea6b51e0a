use Rattle.std.proofs.Common.{◌≡◌, ◌++◌, drop, string_bytes}
use Rattle.std.specs.Prelude.{flat_map}
use Rattle.afdx_core.specs.State.{Run}
use Rattle.afdx_measure.specs.Policing.{spell_lines}
use Rattle.afdx_measure.specs.Inner.Policed.{IsPoliced}
use Rattle.afdx_measure.proofs.policing.Policing.put_lines.Given as goal

abbrev pub invariant-loop-place : goal.invariant-loop-place
invariant-loop-place g l = (r : Run) → r.table ≡ l.table → IsPoliced r l.self
    → string_bytes l.initial.text ++ flat_map (spell_lines r) r.table.links ≡ string_bytes l.text ++ flat_map (spell_lines r) (drop l.place r.table.links)
