use Rattle.std.proofs.Common.{◌∙◌}
use Rattle.std.proofs.lemmas.Result.{on_ok_weaker}
use Rattle.afdx_session.proofs.Parts.{proceeds_out}
use Rattle.afdx_session.proofs.machine.Machine.drain_and_hand_over.Goals as goal

pub returns : goal.returns
returns g c =
    let out = c.in_ok-drain_or_keep.ensures.ok in
    let over = c.hand_over.ensures in
    record {
      ok = on_ok_weaker c.hand_over.result
          (λ puts. (
            proceeds_out g.F.NewFile.contents c.args.self.now c.drain_or_keep.new.self c.hand_over.new.self c.args.files.now c.hand_over.new.files out puts over.switch over.counts,
            puts.left ∙ out.left,
          )) over.puts;
    }
