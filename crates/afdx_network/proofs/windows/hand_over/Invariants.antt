use Rattle.afdx_network.proofs.Settling.{AreGone}
use Rattle.afdx_network.proofs.windows.hand_over.Given as goal

-- what has left the switches before a place has gone
abbrev pub invariant-loop-site : goal.invariant-loop-site
invariant-loop-site g l = AreGone g.F.NewFile.contents l.initial.sites l.sites l.initial.files l.files l.site-index l.first
