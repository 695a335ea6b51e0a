use Rattle.std.proofs.Common.{◌≡◌, ◌++◌, drop, string_bytes}
use Rattle.std.specs.Prelude.{flat_map}
use Rattle.afdx_rows.specs.Spells.{spell_rows}
use Rattle.afdx_rows.proofs.Columns.{names_in}
use Rattle.afdx_rows.proofs.surveyed.put_all_spells.Given as goal

abbrev pub invariant-loop-place : goal.invariant-loop-place
invariant-loop-place g l =
    string_bytes l.initial.text ++ flat_map (spell_rows (names_in l.columns) l.switch (l.stamp_columns.0.now, l.stamp_columns.1.now) l.survey.run) l.survey.run.table.links
    ≡ string_bytes l.text ++ flat_map (spell_rows (names_in l.columns) l.switch (l.stamp_columns.0.now, l.stamp_columns.1.now) l.survey.run) (drop l.place l.survey.run.table.links)
