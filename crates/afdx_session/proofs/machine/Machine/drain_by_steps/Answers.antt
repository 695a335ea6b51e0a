use Rattle.std.proofs.Common.{sym, ◌∙◌}
use Rattle.afdx_session.proofs.Parts.{proceeds_hands, proceeds_then}
use Rattle.afdx_session.proofs.machine.Machine.drain_by_steps.Goals as goal

pub returns-then-not-advance_to : goal.returns-then-not-advance_to
returns-then-not-advance_to g c =
    let was = c.loop-instant.invariant in
    let came = c.advance_to.ensures in
    record {
      ok = (
        proceeds_hands g.F.NewFile.contents c.args.self.now c.loop-instant.self c.advance_to.new.self c.args.files.now c.loop-instant.files was.proceeds came,
        came.left ∙ was.read,
      );
    }

pub drain_and_hand_over-requires-clause-files : goal.drain_and_hand_over-requires-clause-files
drain_and_hand_over-requires-clause-files g c =
    let on = proceeds_hands g.F.NewFile.contents c.args.self.now c.loop-instant.self c.advance_to.new.self c.args.files.now c.loop-instant.files c.loop-instant.invariant.proceeds
    c.advance_to.ensures in
    on.long ∙ c.requires.files ∙ sym on.many

pub loop-instant-preserved : goal.loop-instant-preserved
loop-instant-preserved g c =
    let was = c.loop-instant.invariant in
    let came = c.advance_to.ensures in
    let put = c.in_ok-drain_and_hand_over.ensures.ok in
    let start = c.args.self.now in
    record {
      proceeds = proceeds_then g.F.NewFile.contents start c.advance_to.new.self c.drain_and_hand_over.new.self c.args.files.now c.loop-instant.files c.drain_and_hand_over.new.files
          (proceeds_hands g.F.NewFile.contents start c.loop-instant.self c.advance_to.new.self c.args.files.now c.loop-instant.files was.proceeds came) put.0;
      read = put.1 ∙ came.left ∙ was.read;
    }
