use Rattle.std.proofs.Common.{List, [], Option, sym, ap, ◌∙◌, arith}
use Rattle.afdx_table.specs.declared.rows.PortRow.{PortRow}
use Rattle.afdx_port.specs.declared.Sent.{Sent}
use Rattle.afdx_core.specs.State.{sent_in}
use Rattle.afdx_measure.specs.Delays.{delays_of, summary_of}
use Rattle.afdx_measure.proofs.Handing.{all_handed}
use Rattle.afdx_measure.proofs.Past.{none_past, read_past, none_some}
use Rattle.afdx_measure.proofs.measuring.Measures.delays_at.Goals as goal

pub returns-in-Some : goal.returns-in-Some
returns-in-Some g c =
    let r = c.args.self.now.run in
    let o = c.in-Some.ensures.at in
    record {
      there = λ l here.
          c.delays_of.ensures ∙ o.gauged.delays c.args.link l (summary_of []) here
          ∙ ap (λ (xs : List Sent). summary_of (delays_of l.id xs)) (all_handed r o.place o.row c.in-Some.ensures.all o.there o.gauged.handed)
          ∙ ap (λ (p : Option PortRow). summary_of (delays_of l.id (sent_in r p))) (sym o.row_is);
      no_link = λ none.
          let long = o.gauged.long in
          let past = none_past r.table.links c.args.link none in
          c.delays_of.ensures ∙ read_past c.in-Some.at.now.delays.items c.args.link (summary_of []) (omega (arith, long, past));
      no_port = λ none. absurd (none_some none o.row_is);
    }
