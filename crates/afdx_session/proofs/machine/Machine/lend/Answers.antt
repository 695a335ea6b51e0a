use Rattle.std.proofs.Common.{subst}
use Rattle.afdx_session.specs.Inner.View.{AreLent}
use Rattle.afdx_session.proofs.ReadUp.{touched_read_up}
use Rattle.afdx_session.proofs.Calls.{is_ready}
use Rattle.afdx_session.proofs.Lending.{lent_settled, over_lent, over_read, none_taken}
use Rattle.afdx_session.proofs.machine.Machine.lend.Goals as goal

pub returns-clause-ok : goal.returns-clause-ok
returns-clause-ok g c =
    let have = c.in_ok-carry_captures.ensures.ok in
    let mid = c.carry_captures.new.self in
    let gone = c.make_round.new.self in
    let next = c.settle.new.self in (
      is_ready gone next c.settle.ensures.lanes c.settle.ensures.switch c.settle.ensures.counts c.in_ok-make_round.ensures.ok
          (touched_read_up mid.lanes.items gone.lanes.items c.make_round.ensures.touched (over_read mid.lanes.items have.carrying.over have.all)),
      subst (λ ts. AreLent ts next.lanes.items) have.over
          (lent_settled _ mid.lanes.items gone.lanes.items next.lanes.items (over_lent mid.lanes.items have.carrying.over have.all
          (none_taken _ c.args.self.now.lanes.items mid.lanes.items c.requires.fresh c.in_ok-carry_captures.ensures.taken)) c.make_round.ensures.touched c.settle.ensures.lanes),
    )
