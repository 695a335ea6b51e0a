use Rattle.std.proofs.Common.{sym, ◌∙◌}
use Rattle.afdx_network.proofs.NewLines.{none_pushed, one_pushed, none_more, all_pushed}
use Rattle.afdx_network.proofs.one_line.push_lines.Goals.{then-is_open+in_ok-push, else-is_open}
use Rattle.afdx_network.proofs.one_line.push_lines.Goals as goal

pub loop-row-init : goal.loop-row-init
loop-row-init c = record { ports = c.ports-row-items.ensures.ports; lines = none_pushed c.args.network.now c.args.switch c.args.lines.now.items }

pub loop-row-preserved : goal.loop-row-preserved
loop-row-preserved c =
    let net = c.args.network.now in
    let rows = c.ports-row-items.result.now in
    let old = c.args.lines.now.items in
    let l = c.loop-row in
    elim c.if-is_open.branch [
      | then-is_open+in_ok-push w ↦
          rw w.lines-is (record {
            ports = l.invariant.ports;
            lines = one_pushed net c.args.switch rows l.row-index _ old l.lines.items w.push.new.self.items w.new.result c.loop-row-test.true (sym c.is_open.ensures ∙ w.if-is_open.true)
                (w.new.ensures.speed, w.new.ensures.none) w.in_ok-push.ensures.items l.invariant.lines;
          })
      | else-is_open w ↦
          rw w.lines-is (record {
            ports = l.invariant.ports;
            lines = none_more net c.args.switch rows l.row-index _ old l.lines.items c.loop-row-test.true (sym c.is_open.ensures ∙ w.if-is_open.false) l.invariant.lines;
          })
    ]

pub returns-clause-lines : goal.returns-clause-lines
returns-clause-lines c =
    let l = c.loop-row in
    all_pushed c.args.network.now c.args.switch c.args.table.now c.ports-row-items.result.now l.row-index c.args.lines.now.items l.lines.items l.invariant.ports c.loop-row-test.false l.invariant.lines
