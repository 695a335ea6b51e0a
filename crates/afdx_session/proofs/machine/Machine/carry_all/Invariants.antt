use Rattle.std.proofs.Common.{◌≡◌}
use Rattle.afdx_session.specs.Inner.Kept.{IsOfSameTable}
use Rattle.afdx_session.specs.Inner.Lent.{texts_over, taken_by, left_in, IsCarrying}
use Rattle.afdx_session.proofs.machine.Machine.carry_all.Given as goal

abbrev pub invariant-loop-self : goal.invariant-loop-self
invariant-loop-self g l = record {
  carrying : IsCarrying l.self;
  same : IsOfSameTable l.fn.self.switch l.self.switch;
  texts : texts_over l.self.lanes.items ≡ texts_over l.fn.self.lanes.items;
  taken : taken_by l.self.lanes.items ≡ taken_by l.fn.self.lanes.items;
}

abbrev pub decreases-loop-self : goal.decreases-loop-self
decreases-loop-self g l = left_in l.self.lanes.items
