use Rattle.afdx_network.proofs.Handed.{AreHanded}
use Rattle.afdx_network.proofs.site.hand_over_all.Given as goal

-- those before a place have gone to their files
abbrev pub invariant-loop-place : goal.invariant-loop-place
invariant-loop-place g l = AreHanded g.F.NewFile.contents l.initial.outputs l.outputs l.initial.files l.files l.place
