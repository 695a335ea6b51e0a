use Rattle.std.proofs.Common.{◌≡◌, List, length, sym, subst, arith}
use Rattle.afdx_merging.specs.Read.{HasFirstFault}
use Rattle.afdx_merging.specs.declared.lane.LaneFault.TheVariants as lane_fault
use Rattle.afdx_merging.specs.Inner.Merging.{AreAtEnd, AreStoppedAt, IsUnread}
use Rattle.afdx_merging.proofs.Failing.{of_error}
use Rattle.afdx_merging.proofs.Stopping.{first_of_all, ends_all, unread_after, unread_more}
use Rattle.afdx_merging.proofs.stop.fault_of_all.Goals as goal

pub returns-clause-ok : goal.returns-clause-ok
returns-clause-ok g c = λ first stopped.
    let rem = g.R.Read.remaining in
    let found = c.in_ok-found.ensures.ok first stopped.long stopped.before in
    let many : length c.fault_before.new.readers ≡ length c.read_all_out.new.readers = sym c.in_ok-read_all_out.ensures.many in (
      subst (λ f. HasFirstFault rem first f.0 f.1) (sym c.unwrap_or.ensures)
          (first_of_all c.early_faults_stay.ensures rem first c.args.readers.now c.args.lanes.now c.args.place c.args.why c.in_ok-found.found found.0 stopped),
      ends_all rem c.fault_before.new.readers c.read_all_out.new.readers c.args.place (length c.read_all_out.new.readers) found.1 c.in_ok-read_all_out.ensures.others
          (subst (λ n. AreAtEnd rem c.read_all_out.new.readers c.args.place n) many c.in_ok-read_all_out.ensures.ends),
    )

pub returns-in_err-found-clause-err : goal.returns-in_err-found-clause-err
returns-in_err-found-clause-err g c =
    let rem = g.R.Read.remaining in
    let readers = c.args.readers.now in
    let why = c.in_err-found.field-0.0 in
    of_error (λ fault. (first : List g.row.R.Denot) → AreStoppedAt rem first readers c.args.lanes.now c.args.place (lane_fault.Capture c.args.why)
    → IsUnread rem c.fault_before.new.readers 0 (length readers) fault) c.from_residual.result why c.from_residual.ensures
    (λ first stopped. let within = stopped.within in
    unread_more rem c.fault_before.new.readers c.args.place (length readers) why (omega (arith, within)) (c.in_err-found.ensures.err first stopped.long stopped.before))

pub returns-in_err-read_all_out-clause-err : goal.returns-in_err-read_all_out-clause-err
returns-in_err-read_all_out-clause-err g c =
    let rem = g.R.Read.remaining in
    let readers = c.args.readers.now in
    let mid = c.fault_before.new.readers in
    let now = c.read_all_out.new.readers in
    let why = c.in_err-read_all_out.field-0.0 in
    let out = c.from_residual-in_err-read_all_out in
    let many = c.in_ok-found.ensures.many in
    of_error (λ fault. (first : List g.row.R.Denot) → AreStoppedAt rem first readers c.args.lanes.now c.args.place (lane_fault.Capture c.args.why) → IsUnread rem now 0 (length readers) fault) out.result why
    out.ensures
    (λ first stopped. unread_after rem mid now c.args.place (length readers) why (c.in_ok-found.ensures.ok first stopped.long stopped.before).1 c.in_err-read_all_out.ensures.others
    (subst (λ n. IsUnread rem now c.args.place n why) many c.in_err-read_all_out.ensures.err))
