use Rattle.std.proofs.Common.{drop}
use Rattle.afdx_arguments.proofs.LinkLemmas.{AreSoFar, texts_of}
use Rattle.afdx_arguments.proofs.arguments.links_in.Given as goal

abbrev pub invariant-loop-text : goal.invariant-loop-text
invariant-loop-text l = AreSoFar (texts_of l.texts) (texts_of (drop l.text-index l.texts)) l.links.items
