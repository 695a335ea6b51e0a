use Rattle.std.proofs.Common.{◌≡◌, length, ap, ◌∙◌, subst, arith}
use Rattle.afdx_table.specs.WellFormed.{IsWellFormed}
use Rattle.afdx_trace.proofs.Taking.{one_more, took_is, taken_more, taken_all}
use Rattle.afdx_trace.proofs.flags.all_taken.Goals as goal

pub loop-port-init : goal.loop-port-init
loop-port-init g c = record { long = ap length c.new-all.ensures.items; each = λ port number lt within. absurd (omega (arith, lt)) }

pub loop-port-preserved : goal.loop-port-preserved
loop-port-preserved g c =
    let r = c.args.done.now.run in
    let port = c.loop-port.port in
    let count : length c.rows-count.result.now ≡ length r.rows = ap length c.rows-count.ensures.rows in
    record {
      long = ap length c.in_ok-push.ensures.items ∙ one_more c.loop-port.all.items c.in_ok-flags.flags port c.loop-port.invariant.long;
      each = rw c.in_ok-push.ensures.items (taken_more r c.loop-port.all.items c.in_ok-flags.flags port c.loop-port.invariant.long
          (λ number within. c.in_ok-flags.ensures number (omega (arith, count, within)) ∙ took_is r port number c.sent.result.now c.aged.result.now c.sent.ensures.sent c.aged.ensures.aged)
          c.loop-port.invariant.each);
    }

pub returns : goal.returns
returns g c =
    taken_all c.args.done.now.run c.loop-port.all.items c.loop-port.port (subst IsWellFormed c.table.ensures c.know_the_table.ensures) (omega (arith, c.loop-port-test.false))
    c.loop-port.invariant.long c.loop-port.invariant.each
