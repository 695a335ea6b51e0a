use Rattle.std.proofs.Common.{sym, ap, subst, ◌∙◌}
use Rattle.afdx_wiring.specs.File.{Layout}
use Rattle.afdx_network.proofs.NewLines.{AreNewTo, new_none, new_more, new_all}
use Rattle.afdx_network.proofs.one_line.given_lines.Goals as goal

pub loop-switch-init : goal.loop-switch-init
loop-switch-init c =
    let net = c.args.network.now in
    let tables = c.tables-table-items.result.now in
    record {
      tables = c.tables-table-items.ensures.tables;
      lines = subst (AreNewTo net 0 tables) (sym c.new-lines.ensures.items) (new_none net tables);
    }

pub loop-switch-preserved : goal.loop-switch-preserved
loop-switch-preserved c =
    let l = c.loop-switch in
    let more = c.in_ok-push_lines.ensures.lines in
    record {
      tables = l.invariant.tables;
      lines = new_more c.args.network.now c.tables-table-items.result.now l.switch c.table-item.result l.lines.items c.push_lines.new.lines.items more.0 l.invariant.tables c.loop-switch-test.true
          c.table-item.is c.push_lines.ensures.formed more.1 more.2 l.invariant.lines;
    }

pub returns : goal.returns
returns c =
    let l = c.loop-switch in
    let said = sym (ap (λ (layout : Layout). layout.one_line) (c.behind-network.view_is ∙ c.layout.ensures.layout)) ∙ c.if-not-layout.false in
    new_all c.args.network.now c.tables-table-items.result.now l.switch l.lines.items said l.invariant.tables c.loop-switch-test.false l.invariant.lines
