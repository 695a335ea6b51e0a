use Rattle.std.proofs.Common.{◌≡◌, ◌++◌, drop, string_bytes}
use Rattle.std.specs.Prelude.{flat_map}
use Rattle.afdx_spells.specs.Lines.{spell_line}
use Rattle.afdx_measure.proofs.policing.put_spell_lines.Given as goal

abbrev pub invariant-loop-spell : goal.invariant-loop-spell
invariant-loop-spell g l = string_bytes l.initial.text ++ flat_map (spell_line l.link) l.spells ≡ string_bytes l.text ++ flat_map (spell_line l.link) (drop l.spell-index l.spells)
