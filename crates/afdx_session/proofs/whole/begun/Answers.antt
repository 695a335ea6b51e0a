use Rattle.std.proofs.Common.{sym, ap, subst}
use Rattle.afdx_table.specs.Content.{Content}
use Rattle.afdx_core.specs.State.{State}
use Rattle.afdx_measure.specs.Wanted.{keeps_lists}
use Rattle.afdx_session.specs.Texts.{AreOfPorts, texts_of}
use Rattle.afdx_session.specs.Outcome.{table_in, is_cleared}
use Rattle.afdx_session.specs.Inner.View.{AreFreshLanes}
use Rattle.afdx_session.proofs.Fresh.{fresh_kept}
use Rattle.afdx_session.proofs.whole.begun.Goals as goal

pub returns-clause-ok : goal.returns-clause-ok
returns-clause-ok g c =
    let texts = texts_of c.args.captures.now in
    let made = c.in_ok-machine.ensures in
    let ports = subst (λ (t : Content). AreOfPorts t texts) c.table.ensures.table (c.are_of_ports.ensures.are.0 c.if-not-are_of_ports.false) in
    record {
      ports = subst (λ (s : State). AreOfPorts s.run.table texts) (sym made.fresh.0) ports;
      table = ap (λ (s : State). s.run.table) made.fresh.0;
      accepted = ap (λ (s : State). s.accepted) made.fresh.0;
      lists = ap (λ (s : State). s.keeps) made.fresh.0;
      fresh = subst (λ (s : State). AreFreshLanes s.run.table.ports c.in_ok-machine.machine.lanes.items) (sym made.fresh.0) made.fresh.2;
      kept = fresh_kept c.starts_with_none.ensures (is_cleared c.args.plan) (keeps_lists c.args.wanted)
          (table_in c.args.plan) c.in_ok-machine.machine made.formed made.accepted made.fresh.0 made.fresh.1
          made.fresh.2;
    }
