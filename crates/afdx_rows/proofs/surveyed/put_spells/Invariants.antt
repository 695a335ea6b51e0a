use Rattle.std.proofs.Common.{◌≡◌, ◌++◌, drop, string_bytes}
use Rattle.std.specs.Prelude.{flat_map}
use Rattle.afdx_rows.specs.Spells.{spell_row}
use Rattle.afdx_rows.proofs.Columns.{names_in}
use Rattle.afdx_rows.proofs.surveyed.put_spells.Given as goal

abbrev pub invariant-loop-spell : goal.invariant-loop-spell
invariant-loop-spell g l =
    string_bytes l.initial.text ++ flat_map (spell_row (names_in l.columns) l.switch (l.stamp_columns.0.now, l.stamp_columns.1.now) l.link) l.spells
    ≡ string_bytes l.text ++ flat_map (spell_row (names_in l.columns) l.switch (l.stamp_columns.0.now, l.stamp_columns.1.now) l.link) (drop l.spell-index l.spells)
