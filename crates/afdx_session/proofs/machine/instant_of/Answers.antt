use Rattle.std.proofs.Common.{rules}
use Rattle.afdx_session.proofs.machine.instant_of.Goals as goal

pub returns-in-Some : goal.returns-in-Some
returns-in-Some c = rw c.in-Some.is (first_of (cc, search rules))
