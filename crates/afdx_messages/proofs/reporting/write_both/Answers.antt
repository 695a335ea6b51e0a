use Rattle.std.proofs.KnownBytes.{Appends-trans}
use Rattle.afdx_messages.proofs.ReportingLemmas.{begins_with, goes_on_with}
use Rattle.afdx_messages.proofs.reporting.write_both.Goals as goal

pub returns-in_err-write_bytes-clause-prefix : goal.returns-in_err-write_bytes-clause-prefix
returns-in_err-write_bytes-clause-prefix g c = begins_with _ _ c.args.line.now c.args.more.now (rw c.as_bytes.ensures.value at c.in_err-write_bytes.ensures.prefix)

pub returns-in_err-write_bytes-2-clause-prefix : goal.returns-in_err-write_bytes-2-clause-prefix
returns-in_err-write_bytes-2-clause-prefix g c =
    goes_on_with _ _ _ c.args.line.now c.args.more.now (rw c.as_bytes.ensures.value at c.in_ok-write_bytes.ensures.all) (rw c.as_bytes-2.ensures.value at c.in_err-write_bytes-2.ensures.prefix)

pub returns-clause-all : goal.returns-clause-all
returns-clause-all g c =
    Appends-trans _ _ _ c.args.line.now c.args.more.now (rw c.as_bytes.ensures.value at c.in_ok-write_bytes.ensures.all) (rw c.as_bytes-2.ensures.value at c.in_ok-write_bytes-2.ensures.all)

pub returns-clause-prefix : goal.returns-clause-prefix
returns-clause-prefix g c =
    goes_on_with _ _ _ c.args.line.now c.args.more.now (rw c.as_bytes.ensures.value at c.in_ok-write_bytes.ensures.all) (rw c.as_bytes-2.ensures.value at c.in_ok-write_bytes-2.ensures.prefix)
