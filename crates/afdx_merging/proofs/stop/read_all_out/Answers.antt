use Rattle.afdx_merging.specs.Inner.Merging.{IsUnread}
use Rattle.std.proofs.Common.{set}
use Rattle.afdx_merging.proofs.Failing.{of_error}
use Rattle.afdx_merging.proofs.Stopping.{unread_here}
use Rattle.afdx_merging.proofs.stop.read_all_out.Goals as goal

pub returns-in_err-read_out-clause-err : goal.returns-in_err-read_out-clause-err
returns-in_err-read_out-clause-err g c =
    let rem = g.R.Read.remaining in
    let at = c.loop-place.place in
    let later = c.read_out.new.reader in
    let why = c.in_err-read_out.field-0.0 in
    of_error (IsUnread rem (set c.loop-place.readers at later) c.args.from c.args.to) c.from_residual.result why c.from_residual.ensures
    (unread_here rem c.loop-place.readers c.args.from c.args.to at later why c.loop-place-test.true c.loop-place.invariant.ends c.in_err-read_out.ensures.err)
