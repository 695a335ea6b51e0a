use Rattle.std.proofs.Common.{◌≡◌, ◌++◌, drop, string_bytes}
use Rattle.std.specs.Prelude.{flat_map}
use Rattle.afdx_count.specs.Report.{link_line}
use Rattle.afdx_count.proofs.report.put_links.Given as goal

abbrev pub invariant-loop-link : goal.invariant-loop-link
invariant-loop-link g l = string_bytes l.initial.text ++ flat_map link_line l.links ≡ string_bytes l.text ++ flat_map link_line (drop l.link-index l.links)
