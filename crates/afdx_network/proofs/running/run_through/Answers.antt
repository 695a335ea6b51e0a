use Rattle.std.proofs.Common.{subst}
use Rattle.afdx_network.specs.Given.{IsFaultOver, IsUncheckedRefusal}
use Rattle.afdx_network.specs.Inner.Windows.{IsStop}
use Rattle.afdx_network.proofs.Answering.{of_error}
use Rattle.afdx_network.proofs.Answered.{run_over}
use Rattle.afdx_network.proofs.Stopping.{intake_refuses, stop_refuses}
use Rattle.afdx_network.proofs.running.run_through.Goals as goal

pub returns-in_err-intake-clause-err : goal.returns-in_err-intake-clause-err
returns-in_err-intake-clause-err g c =
    let net = c.args.network.now in
    let why = c.in_err-intake.field-0.0 in
    of_error (IsFaultOver g.R.Read.remaining net c.args.readers.now (IsUncheckedRefusal net)) c.from_residual.result why c.from_residual.ensures
    (intake_refuses c.each_file_has_one_reading.ensures.one_list g.R.Read.remaining net c.args.readers.now why c.requires.readers c.in_err-intake.ensures.err)

pub go_on-requires-clause-taken : goal.go_on-requires-clause-taken
go_on-requires-clause-taken g c = (c.args.readers.now, c.in_ok-intake.ensures.ok)

pub end-requires : goal.end-requires
end-requires g c =
    let h = c.in-Ok.ensures.ok c.args.readers.now c.in_ok-intake.ensures.ok in
    (c.args.network.now, c.args.readers.now, h.through.came, h.through.taken)

pub returns-in_ok-end-in-Ok-clause-ok : goal.returns-in_ok-end-in-Ok-clause-ok
returns-in_ok-end-in-Ok-clause-ok g c =
    let net = c.args.network.now in
    let first = c.args.readers.now in
    let h = c.in-Ok.ensures.ok first c.in_ok-intake.ensures.ok in
    run_over c.each_file_has_one_reading.ensures.one_list g.R.Read.remaining g.F.NewFile.contents net first c.go_on.new.readers c.go_on.new.intake
    c.args.files.now c.go_on.new.files c.in-Ok.sites.items h
    (c.in_ok-end-in-Ok.ensures.ok net first h.through.came h.through.taken)

pub returns-in_ok-end-in-Ok-clause-noted : goal.returns-in_ok-end-in-Ok-clause-noted
returns-in_ok-end-in-Ok-clause-noted g c = λ none_sent. c.in-Ok.ensures.noted none_sent

pub returns-in_err-end-in-Ok-clause-err : goal.returns-in_err-end-in-Ok-clause-err
returns-in_err-end-in-Ok-clause-err g c =
    let net = c.args.network.now in
    let first = c.args.readers.now in
    let h = c.in-Ok.ensures.ok first c.in_ok-intake.ensures.ok in
    let why = c.in_err-end-in-Ok.field-0.0 in
    of_error (IsFaultOver g.R.Read.remaining net first (IsUncheckedRefusal net)) c.from_residual-in_err-end-in-Ok.result why c.from_residual-in_err-end-in-Ok.ensures
    (intake_refuses c.each_file_has_one_reading.ensures.one_list g.R.Read.remaining net first why c.requires.readers (c.in_err-end-in-Ok.ensures.err net first h.through.came h.through.taken))

pub returns-in-Err-Intake-clause-err : goal.returns-in-Err-Intake-clause-err
returns-in-Err-Intake-clause-err g c =
    let net = c.args.network.now in
    let first = c.args.readers.now in
    intake_refuses c.each_file_has_one_reading.ensures.one_list g.R.Read.remaining net first c.in-Err-Intake.fault c.requires.readers
    (subst (IsStop g.R.Read.remaining net first c.go_on.new.readers c.go_on.new.intake) c.in-Err-Intake.field-0-is (c.in-Err-Intake.ensures.err first c.in_ok-intake.ensures.ok))

pub end-requires-in-Err-Run : goal.end-requires-in-Err-Run
end-requires-in-Err-Run g c =
    let net = c.args.network.now in
    let first = c.args.readers.now in
    let s = subst (IsStop g.R.Read.remaining net first c.go_on.new.readers c.go_on.new.intake) c.in-Err-Run.field-0-is (c.in-Err-Run.ensures.err first c.in_ok-intake.ensures.ok) in
    (net, first, s.came, s.taken)

pub returns-in_ok-end-in-Err-Run-clause-err : goal.returns-in_ok-end-in-Err-Run-clause-err
returns-in_ok-end-in-Err-Run-clause-err g c =
    let net = c.args.network.now in
    let first = c.args.readers.now in
    let s = subst (IsStop g.R.Read.remaining net first c.go_on.new.readers c.go_on.new.intake) c.in-Err-Run.field-0-is (c.in-Err-Run.ensures.err first c.in_ok-intake.ensures.ok) in
    stop_refuses c.each_file_has_one_reading.ensures.one_list g.R.Read.remaining net first c.go_on.new.readers c.go_on.new.intake c.in-Err-Run.fault s
    (c.in_ok-end-in-Err-Run.ensures.ok net first s.came s.taken)

pub returns-in_err-end-in-Err-Run-clause-err : goal.returns-in_err-end-in-Err-Run-clause-err
returns-in_err-end-in-Err-Run-clause-err g c =
    let net = c.args.network.now in
    let first = c.args.readers.now in
    let s = subst (IsStop g.R.Read.remaining net first c.go_on.new.readers c.go_on.new.intake) c.in-Err-Run.field-0-is (c.in-Err-Run.ensures.err first c.in_ok-intake.ensures.ok) in
    let why = c.in_err-end-in-Err-Run.field-0.0 in
    of_error (IsFaultOver g.R.Read.remaining net first (IsUncheckedRefusal net)) c.from_residual-in_err-end-in-Err-Run.result why c.from_residual-in_err-end-in-Err-Run.ensures
    (intake_refuses c.each_file_has_one_reading.ensures.one_list g.R.Read.remaining net first why c.requires.readers (c.in_err-end-in-Err-Run.ensures.err net first s.came s.taken))
