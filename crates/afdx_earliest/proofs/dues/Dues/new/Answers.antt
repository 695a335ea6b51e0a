use Rattle.afdx_earliest.proofs.Firsts.{instants_fresh}
use Rattle.afdx_earliest.proofs.Marks.{kept_fresh}
use Rattle.afdx_earliest.proofs.dues.Dues.new.Goals as goal

pub invariant_of-result : goal.invariant_of-result
invariant_of-result c = kept_fresh c.args.places c.requires

pub returns : goal.returns
returns c = instants_fresh c.args.places c.requires
