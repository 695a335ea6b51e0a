use Rattle.std.proofs.Common.{sym, ◌∙◌}
use Rattle.std.proofs.lemmas.Result.{on_ok_weaker}
use Rattle.afdx_session.proofs.Calls.{handed_stays, touched_table}
use Rattle.afdx_session.proofs.Putting.{touched_length, runs_since}
use Rattle.afdx_session.proofs.machine.Machine.make_round_into.Goals as goal

pub drain_into_files-requires-clause-of : goal.drain_into_files-requires-clause-of
drain_into_files-requires-clause-of g c =
    touched_table c.args.self.now c.reach_frontier.new.self c.reach_frontier.ensures.touched c.reach_frontier.ensures.same c.requires.of

pub drain_into_files-requires-clause-handed : goal.drain_into_files-requires-clause-handed
drain_into_files-requires-clause-handed g c = handed_stays c.args.self.now.switch c.reach_frontier.new.self.switch c.reach_frontier.ensures.same c.requires.handed

pub drain_into_files-requires-clause-files : goal.drain_into_files-requires-clause-files
drain_into_files-requires-clause-files g c =
    c.requires.files ∙ sym (touched_length c.args.self.now.lanes.items c.reach_frontier.new.self.lanes.items c.reach_frontier.ensures.touched)

pub returns : goal.returns
returns g c =
    let mid = c.reach_frontier.new.self in
    record {
      ok = on_ok_weaker c.drain_into_files.result
          (λ runs. runs_since g.F.NewFile.contents c.args.self.now mid c.drain_into_files.new.self c.args.files.now c.drain_into_files.new.files c.reach_frontier.ensures.touched
          c.reach_frontier.ensures.same runs) c.drain_into_files.ensures.ok;
    }
