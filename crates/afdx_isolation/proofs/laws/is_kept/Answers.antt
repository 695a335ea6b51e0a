use Rattle.afdx_isolation.proofs.Keeping.{kept_none, kept_later, kept_pass, has_room}
use Rattle.afdx_isolation.proofs.laws.is_kept.Goals as goal

pub returns-clause-first : goal.returns-clause-first
returns-clause-first c = kept_none

pub returns-clause-time : goal.returns-clause-time
returns-clause-time c = λ s flows items now d level after paid slow grow h. kept_later c.ground.ensures s flows paid slow items now d level after grow h

pub returns-clause-item : goal.returns-clause-item
returns-clause-item c = λ s flows items x level after paid slow r debits h. kept_pass c.ground.ensures s flows paid slow items x level after r debits h

pub returns-clause-room : goal.returns-clause-room
returns-clause-room c = λ s flows items x level after paid slow buffer r debits h. has_room c.ground.ensures s flows paid slow buffer items x level after r debits h
