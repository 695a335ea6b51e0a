use Rattle.std.proofs.Common.{refl}
use Rattle.std.proofs.lemmas.Result.{on_ok_weaker}
use Rattle.afdx_session.proofs.Intakes.{all_touched_both, touched_of}
use Rattle.afdx_session.proofs.Rounds.{same_both}
use Rattle.afdx_session.proofs.Calls.{handed_same, handed_stays, drained_back, machine_runs, touched_table}
use Rattle.afdx_session.proofs.machine.Machine.make_round.Goals as goal

pub drain_all-requires : goal.drain_all-requires
drain_all-requires g c = handed_stays c.args.self.now.switch c.reach_frontier.new.self.switch c.reach_frontier.ensures.same c.requires.handed

pub returns-clause-touched : goal.returns-clause-touched
returns-clause-touched g c =
    let mid = c.reach_frontier.new.self in
    all_touched_both c.args.self.now.lanes.items mid.lanes.items _ c.reach_frontier.ensures.touched
    (touched_of mid.lanes.items _ (drained_back mid.lanes _ c.drain_all.new.lanes c.deref_mut.ensures.value c.drain_all.ensures.grown))

pub returns-clause-same : goal.returns-clause-same
returns-clause-same g c =
    let mid = c.reach_frontier.new.self in
    same_both _ mid.switch _ c.reach_frontier.ensures.same (handed_same mid.switch c.drain_all.new.switch c.drain_all.ensures.hands)

pub returns-clause-ok : goal.returns-clause-ok
returns-clause-ok g c =
    let mid = c.reach_frontier.new.self in
    on_ok_weaker c.drain_all.result
    (λ out. machine_runs mid mid.switch c.drain_all.new.switch c.deref_mut.result.now c.drain_all.new.lanes c.in_ok-reach_frontier.ensures.ok
    (touched_table c.args.self.now mid c.reach_frontier.ensures.touched c.reach_frontier.ensures.same c.requires.of) refl c.drain_all.ensures.hands
    c.deref_mut.ensures.value c.drain_all.ensures.grown out) c.drain_all.ensures.out
