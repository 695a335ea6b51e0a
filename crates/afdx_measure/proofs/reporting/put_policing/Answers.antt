use Rattle.std.proofs.Common.{List, ℕ, ◌++◌, sym, ap, subst, ◌∙◌, append_assoc}
use Rattle.std.specs.Prelude.{flat_map, string_bytes}
use Rattle.std.proofs.lemmas.Result.{on_ok_weaker}
use Rattle.afdx_core.specs.State.{State}
use Rattle.afdx_measure.specs.declared.policing.Span.{Span}
use Rattle.afdx_measure.specs.Policing.{spell_lines, span_line, policing_of}
use Rattle.afdx_measure.specs.Inner.Policed.{EndsAre}
use Rattle.afdx_measure.proofs.reporting.put_policing.Goals as goal

pub returns : goal.returns
returns g c =
    let r = c.survey.inside.measures.run in
    let h = c.survey.invariant in
    let spells = flat_map (spell_lines r) r.table.links in
    let before = string_bytes c.args.text.now in
    let lines = c.in_ok-put_lines.ensures r (sym c.table.ensures) h in
    let ends = subst (λ (s : Span). EndsAre s.ends r) (sym c.span.ensures) h.ends in
    on_ok_weaker c.put_span_line.result
    (λ is. is ∙ ap (λ (t : List ℕ). t ++ span_line r.rows) lines ∙ append_assoc before spells (span_line r.rows) ∙ ap (λ (s : State). before ++ policing_of s.run) c.survey.view_is)
    (c.put_span_line.ensures r (ap (λ (s : Span). s.count) c.span.ensures ∙ h.count) ends)
