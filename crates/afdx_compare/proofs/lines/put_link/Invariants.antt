use Rattle.std.proofs.Common.{◌≡◌, ◌++◌, drop, flat_map, string_bytes}
use Rattle.afdx_compare.specs.Report.{output_text}
use Rattle.afdx_compare.proofs.lines.put_link.Given as goal

abbrev pub invariant-loop-output : goal.invariant-loop-output
invariant-loop-output g l =
    string_bytes l.initial.text ++ flat_map (output_text l.form l.link l.followed.unsure) l.output-items
    ≡ string_bytes l.text ++ flat_map (output_text l.form l.link l.followed.unsure) (drop l.output-index l.output-items)
