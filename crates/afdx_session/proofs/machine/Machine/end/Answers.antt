use Rattle.std.proofs.Common.{arith, sym, subst}
use Rattle.afdx_session.specs.Inner.Kept.{AreOfTable}
use Rattle.afdx_session.proofs.Intakes.{half_touched}
use Rattle.afdx_session.proofs.Ending.{all_ended_touched}
use Rattle.afdx_session.proofs.Calls.{half_of_table}
use Rattle.afdx_session.proofs.machine.Machine.end.Goals as goal

pub make_round-requires-clause-of : goal.make_round-requires-clause-of
make_round-requires-clause-of g c =
    let m = c.args.self.now in
    subst (λ s. AreOfTable s.run.table c.close_all.new.self.lanes.items) (sym c.close_all.ensures.switch)
    (half_of_table m.switch.run.table m.lanes.items c.close_all.new.self.lanes.items c.close_all.ensures.half c.requires.of)

pub returns-in_err-make_round-clause-half : goal.returns-in_err-make_round-clause-half
returns-in_err-make_round-clause-half g c = half_touched _ _ _ c.close_all.ensures.half c.make_round.ensures.touched

pub returns-in_err-with_capacity-clause-half : goal.returns-in_err-with_capacity-clause-half
returns-in_err-with_capacity-clause-half g c = half_touched _ _ _ c.close_all.ensures.half c.make_round.ensures.touched

pub returns-clause-half : goal.returns-clause-half
returns-clause-half g c = half_touched _ _ _ c.close_all.ensures.half c.make_round.ensures.touched

pub returns-clause-ok : goal.returns-clause-ok
returns-clause-ok g c =
    let room = c.in_ok-with_capacity.ensures.capacity in
    let count = c.len.ensures in
    let long = c.make_round.new.self.lanes.ok.0 in (
      c.in_ok-make_round.ensures.ok,
      all_ended_touched _ _ _ c.in_ok-close_all.ensures.ok.1 c.make_round.ensures.touched,
      c.in_ok-with_capacity.ensures.items,
      omega
          (arith, room, count, long),
    )
