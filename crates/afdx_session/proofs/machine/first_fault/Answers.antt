use Rattle.afdx_session.specs.Texts.{texts_of}
use Rattle.afdx_session.proofs.Carrying.{no_one_fault}
use Rattle.afdx_session.proofs.machine.first_fault.Goals as goal

pub unreachable-requires : goal.unreachable-requires
unreachable-requires g c =
    no_one_fault c.each_file_has_one_reading.ensures.not_both (texts_of c.args.captures.now) c.in-Capture.field-0 c.in-Capture.field-1 c.in-Ok.ensures.ok
    (rw c.in-Capture.is at c.requires)
