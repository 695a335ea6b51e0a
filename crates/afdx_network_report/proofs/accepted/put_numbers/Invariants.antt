use Rattle.std.proofs.Common.{◌≡◌, ◌++◌, drop, string_bytes}
use Rattle.afdx_network_report.specs.Lines.{numbers_text}
use Rattle.afdx_network_report.proofs.accepted.put_numbers.Given as goal

abbrev pub invariant-loop-number : goal.invariant-loop-number
invariant-loop-number l = string_bytes l.initial.text ++ numbers_text l.numbers ≡ string_bytes l.text ++ numbers_text (drop l.number-index l.numbers)
