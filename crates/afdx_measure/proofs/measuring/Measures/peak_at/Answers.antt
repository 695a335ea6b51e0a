use Rattle.std.proofs.Common.{sym, ap, ◌∙◌}
use Rattle.std.proofs.lemmas.Option.{same_Some}
use Rattle.afdx_table.specs.declared.rows.PortRow.{PortRow}
use Rattle.afdx_measure.specs.Ports.{peak_at}
use Rattle.afdx_measure.proofs.Past.{none_some}
use Rattle.afdx_measure.proofs.measuring.Measures.peak_at.Goals as goal

pub returns-in-Some : goal.returns-in-Some
returns-in-Some g c =
    let r = c.args.self.now.run in
    let o = c.in-Some.ensures.at in
    record {
      there = λ p is. o.gauged.peak ∙ ap (λ (q : PortRow). peak_at r q) (same_Some o.row p (sym o.row_is ∙ is));
      no_port = λ none. absurd (none_some none o.row_is);
    }
