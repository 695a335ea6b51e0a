use Rattle.std.proofs.Common.{◌≡◌, ◌==◌, None, sym, subst}
use Rattle.std.specs.Prelude.{MatchOption}
use Rattle.afdx_table.specs.declared.rows.PortRow.{PortRow}
use Rattle.afdx_table.specs.Content.{port_row}
use Rattle.afdx_core.specs.State.{State}
use Rattle.afdx_measure.specs.Handed.{AllHandedOut}
use Rattle.afdx_measure.specs.Inner.Gauged.{IsOfPort}
use Rattle.afdx_measure.proofs.Asked.{gauged_there}
use Rattle.afdx_measure.proofs.Numbered.{absent}
use Rattle.afdx_measure.proofs.measuring.Measures.at.Goals as goal

pub returns-in-Some : goal.returns-in-Some
returns-in-Some g c = record {
  at = subst (λ (s : State). MatchOption c.at.result (port_row s.run.table c.args.port ≡ None) (λ a. IsOfPort s.run c.args.port a.now)) c.self.view_is
      (gauged_there c.self.inside.relayed.run c.self.inside.gauges c.args.port c.in-Some.place c.at.result c.self.invariant.0 (sym c.in-Some.ensures) c.at.ensures);
  all = subst (λ (s : State). AllHandedOut s.run) c.self.view_is c.self.invariant.1;
}

pub returns-in-None : goal.returns-in-None
returns-in-None g c = record {
  at = subst (λ (s : State). port_row s.run.table c.args.port ≡ None) c.self.view_is
      (absent (λ (p : PortRow). p.id == c.args.port) c.self.inside.relayed.run.table.ports (sym c.in-None.ensures));
  all = subst (λ (s : State). AllHandedOut s.run) c.self.view_is c.self.invariant.1;
}
