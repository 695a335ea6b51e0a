use Rattle.std.proofs.Common.{◌≡◌, ◌++◌, codes, drop}
use Rattle.afdx_network_report.specs.Lines.{report_of, with_before}
use Rattle.afdx_network_report.proofs.reports.push_report.Given as goal

abbrev pub invariant-loop-byte : goal.invariant-loop-byte
invariant-loop-byte l = l.initial.text.items ++ report_of l.name l.report ≡ l.text.items ++ with_before (l.name ++ codes " ") l.begins (drop l.byte-index l.byte-items)
