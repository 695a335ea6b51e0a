use Rattle.std.proofs.Common.{refl, inl}
use Rattle.afdx_messages.specs.declared.failure.Failure.TheVariants as failure
use Rattle.afdx_messages.proofs.ReportingLemmas.{made, said, found_told}
use Rattle.afdx_messages.proofs.reporting.report.Goals as goal

pub returns-in-Found-clause-reported : goal.returns-in-Found-clause-reported
returns-in-Found-clause-reported g c = rw c.in-Found.is (failure.Found, inl refl, refl, found_told _ _)

pub returns-in-Usage-clause-reported : goal.returns-in-Usage-clause-reported
returns-in-Usage-clause-reported g c =
    rw c.in-Usage.is (rw c.write_line.ensures.status
    (said failure.Usage _ _ _ _ _ _ _ refl refl (rw c.in-Usage.is at c.more_of-more.ensures) c.write_line.ensures.line))

pub returns-in-Read-clause-reported : goal.returns-in-Read-clause-reported
returns-in-Read-clause-reported g c =
    rw c.in-Read.is (rw c.write_line-in-Read.ensures.status
    (said failure.Read _ _ _ _ _ _ _ refl refl (rw c.in-Read.is at c.more_of-more.ensures) c.write_line-in-Read.ensures.line))

pub returns-in-Write-clause-reported : goal.returns-in-Write-clause-reported
returns-in-Write-clause-reported g c =
    rw c.in-Write.is (rw c.write_line-in-Write.ensures.status
    (said failure.Write _ _ _ _ _ _ _ refl refl (rw c.in-Write.is at c.more_of-more.ensures) c.write_line-in-Write.ensures.line))

pub returns-in-Memory-clause-reported : goal.returns-in-Memory-clause-reported
returns-in-Memory-clause-reported g c =
    rw c.in-Memory.is (rw c.write_line-in-Memory.ensures.status
    (said failure.Memory _ _ _ _ _ _ _ refl refl c.more_of-memory.ensures c.write_line-in-Memory.ensures.line))

pub returns-in-Argument-clause-reported : goal.returns-in-Argument-clause-reported
returns-in-Argument-clause-reported g c =
    rw c.in-Argument.is (
    made (failure.Argument c.in-Argument.fault) _ _ _ _ _ _ _ _ _ tt c.argument_line.ensures refl
    (rw c.in-Argument.is at c.more_of-more.ensures) c.more_of-memory.ensures c.write_made.ensures)

pub returns-in-Table-clause-reported : goal.returns-in-Table-clause-reported
returns-in-Table-clause-reported g c =
    rw c.in-Table.is (
    made (failure.Table c.in-Table.refusal) _ _ _ _ _ _ _ _ _ tt c.table_line.ensures refl
    (rw c.in-Table.is at c.more_of-more.ensures) c.more_of-memory.ensures c.write_made-in-Table.ensures)

pub returns-in-Capture-clause-reported : goal.returns-in-Capture-clause-reported
returns-in-Capture-clause-reported g c =
    rw c.in-Capture.is (
    made (failure.Capture c.in-Capture.fault) _ _ _ _ _ _ _ _ _ tt c.capture_line.ensures refl
    (rw c.in-Capture.is at c.more_of-more.ensures) c.more_of-memory.ensures c.write_made-in-Capture.ensures)

pub returns-in-PortCapture-clause-reported : goal.returns-in-PortCapture-clause-reported
returns-in-PortCapture-clause-reported g c =
    rw c.in-PortCapture.is (
    made (failure.PortCapture c.in-PortCapture.port c.in-PortCapture.fault) _ _ _ _ _ _ _ _ _ tt c.capture_line-line.ensures refl
    (rw c.in-PortCapture.is at c.more_of-more.ensures) c.more_of-memory.ensures c.write_made-in-PortCapture.ensures)

pub returns-in-OutputCapture-clause-reported : goal.returns-in-OutputCapture-clause-reported
returns-in-OutputCapture-clause-reported g c =
    rw c.in-OutputCapture.is (
    made (failure.OutputCapture c.in-OutputCapture.port c.in-OutputCapture.fault) _ _ _ _ _ _ _ _ _ tt c.output_line-line.ensures refl
    (rw c.in-OutputCapture.is at c.more_of-more.ensures) c.more_of-memory.ensures c.write_made-in-OutputCapture.ensures)

pub returns-in-Get-clause-reported : goal.returns-in-Get-clause-reported
returns-in-Get-clause-reported g c =
    rw c.in-Get.is (
    made (failure.Get c.in-Get.name) _ _ _ _ _ _ _ _ _ tt (rw c.deref.ensures at c.device_line.ensures) refl
    (rw c.in-Get.is at c.more_of-more.ensures) c.more_of-memory.ensures c.write_made-in-Get.ensures)

pub returns-in-Put-clause-reported : goal.returns-in-Put-clause-reported
returns-in-Put-clause-reported g c =
    rw c.in-Put.is (
    made (failure.Put c.in-Put.name) _ _ _ _ _ _ _ _ _ tt (rw c.deref-in-Put.ensures at c.device_line-in-Put.ensures) refl
    (rw c.in-Put.is at c.more_of-more.ensures) c.more_of-memory.ensures c.write_made-in-Put.ensures)

pub returns-in-Load-clause-reported : goal.returns-in-Load-clause-reported
returns-in-Load-clause-reported g c =
    rw c.in-Load.is (
    made (failure.Load c.in-Load.fault) _ _ _ _ _ _ _ _ _ tt c.load_line.ensures refl
    (rw c.in-Load.is at c.more_of-more.ensures) c.more_of-memory.ensures c.write_made-in-Load.ensures)

pub returns-in-Network-clause-reported : goal.returns-in-Network-clause-reported
returns-in-Network-clause-reported g c =
    rw c.in-Network.is (
    made (failure.Network c.in-Network.refusal) _ _ _ _ _ _ _ _ _ tt c.network_failure_line.ensures c.network_status.ensures
    (rw c.in-Network.is at c.more_of-more.ensures) c.more_of-memory.ensures c.write_made-in-Network.ensures)
