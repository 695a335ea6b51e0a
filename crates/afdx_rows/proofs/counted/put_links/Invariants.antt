use Rattle.std.proofs.Common.{◌≡◌, ◌++◌, drop, string_bytes}
use Rattle.std.specs.Prelude.{flat_map}
use Rattle.afdx_rows.specs.Counts.{link_row}
use Rattle.afdx_rows.proofs.Columns.{names_in}
use Rattle.afdx_rows.proofs.counted.put_links.Given as goal

abbrev pub invariant-loop-link : goal.invariant-loop-link
invariant-loop-link g l =
    string_bytes l.initial.text ++ flat_map (link_row (names_in l.columns) l.switch) l.links
    ≡ string_bytes l.text ++ flat_map (link_row (names_in l.columns) l.switch) (drop l.link-index l.links)
