use Rattle.afdx_earliest.proofs.Firsts.{grouped_fresh, instants_fresh}
use Rattle.afdx_earliest.proofs.instants.Instants.new.Goals as goal

pub invariant_of-result : goal.invariant_of-result
invariant_of-result c = grouped_fresh c.args.places c.requires

pub returns : goal.returns
returns c = instants_fresh c.args.places c.requires
