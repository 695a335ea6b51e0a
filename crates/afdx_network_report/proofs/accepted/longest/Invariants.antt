use Rattle.std.proofs.Common.{◌≡◌, ℕ, drop}
use Rattle.std.specs.Prelude.{fold, max}
use Rattle.afdx_network_check.specs.declared.ways.Way.{Way}
use Rattle.afdx_network_report.specs.Lines.{longest}
use Rattle.afdx_network_report.proofs.accepted.longest.Given as goal

abbrev pub invariant-loop-way : goal.invariant-loop-way
invariant-loop-way l = longest l.ways ≡ fold (λ (most : ℕ) (w : Way). max most w.delays.most) l.most (drop l.way-index l.ways)
