use Rattle.std.proofs.Common.{arith}
use Rattle.afdx_measure.proofs.Past.{none_past}
use Rattle.afdx_measure.proofs.policing.Policing.spells_at.Goals as goal

pub returns-then-place-len-clause-no_link : goal.returns-then-place-len-clause-no_link
returns-then-place-len-clause-no_link g c = λ r is none.
    let past = none_past r.table.links c.args.place none in
    let many = is.spells.many in
    absurd (omega (arith, past, many))
