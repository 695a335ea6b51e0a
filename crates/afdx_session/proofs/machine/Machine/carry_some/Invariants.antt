use Rattle.std.proofs.Common.{◌≡◌, ◌+◌, ◌≤◌}
use Rattle.afdx_session.specs.Inner.Kept.{IsOfSameTable}
use Rattle.afdx_session.specs.Inner.Lanes.{heads_of}
use Rattle.afdx_session.specs.Inner.Lent.{texts_over, taken_by, left_in, IsCarrying}
use Rattle.afdx_session.proofs.machine.Machine.carry_some.Given as goal

abbrev pub invariant-loop : goal.invariant-loop
invariant-loop g l = record {
  carrying : IsCarrying l.self;
  same : IsOfSameTable l.fn.self.switch l.self.switch;
  texts : texts_over l.self.lanes.items ≡ texts_over l.fn.self.lanes.items;
  taken : taken_by l.self.lanes.items ≡ taken_by l.fn.self.lanes.items;
  heads : l.heads ≡ heads_of l.self.lanes.items;
  fewer : left_in l.self.lanes.items + l.counter ≤ left_in l.fn.self.lanes.items;
}
