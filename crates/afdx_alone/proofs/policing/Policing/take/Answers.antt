use Rattle.std.proofs.Common.{[], refl, sym}
use Rattle.afdx_alone.proofs.Progress.{opens}
use Rattle.afdx_alone.proofs.Stopping.{left_short, last_rest, behind_header, short_header}
use Rattle.afdx_alone.proofs.policing.Policing.take.Goals as goal

pub take_records-requires-in-Ok-clause-polices : goal.take_records-requires-in-Ok-clause-polices
take_records-requires-in-Ok-clause-polices g c =
    (c.requires.polices.0, opens _ _ c.args.bytes.now c.args.self.now c.in-Ok.format c.in_default.is c.requires.polices.1 (sym c.in-Ok.ensures.header))

pub returns-in-Ok-clause-taken : goal.returns-in-Ok-clause-taken
returns-in-Ok-clause-taken g c = λ all polices.
    c.take_records-in-Ok.ensures.taken all (opens _ _ c.args.bytes.now c.args.self.now c.in-Ok.format c.in_default.is polices (sym c.in-Ok.ensures.header))

pub returns-in-Err-clause-left : goal.returns-in-Err-clause-left
returns-in-Err-clause-left g c =
    left_short c.args.bytes.now c.args.bytes.now c.args.ended c.in-Err.fault _ c.unless_they_wait.result c.unless_they_wait.ensures
    (λ cut. short_header c.args.bytes.now c.in-Err.fault cut (sym c.in-Err.ensures.header))

pub returns-in-Err-clause-last : goal.returns-in-Err-clause-last
returns-in-Err-clause-last g c =
    last_rest c.args.bytes.now c.args.bytes.now c.args.ended c.in-Err.fault c.unless_they_wait.result c.unless_they_wait.ensures c.args.bytes.now ([], refl)

pub returns-in-Ok-clause-last : goal.returns-in-Ok-clause-last
returns-in-Ok-clause-last g c = behind_header c.args.bytes.now c.take_records-in-Ok.result c.take_records-in-Ok.ensures.last
