use Rattle.std.proofs.Common.{ℕ, List, [], ◌∷◌, codes, decimal, map, sym, ap, ◌∙◌}
use Rattle.std.specs.Prelude.{string_bytes}
use Rattle.std.proofs.lemmas.Result.{on_ok_weaker}
use Rattle.afdx_trace.specs.Csv.{joined_by, optional}
use Rattle.afdx_trace.specs.Inner.Lines.{whole_of}
use Rattle.afdx_trace.proofs.Told.{untold, line_told}
use Rattle.afdx_trace.proofs.tracing.Tracing.tell.Goals as goal

pub returns-then-not-has-clause-line : goal.returns-then-not-has-clause-line
returns-then-not-has-clause-line g c = λ t before count number fields.
    untold c.args.self.now.shown t before c.args.row.now (whole_of c.args.self.now.lines) (sym c.has.ensures ∙ c.if-not-has.true)

pub returns-clause-line : goal.returns-clause-line
returns-clause-line g c =
    let old = c.args.self.now.lines in
    let fate = c.args.fate.now in
    on_ok_weaker c.hand_over.result
    (λ whole t before count number fields.
    whole
    ∙ line_told c.args.self.now.shown t before c.args.row.now old.gone.items (string_bytes old.text) (string_bytes c.put_frame.new.text) (string_bytes c.put_fate.new.text)
    (fate.word.now ∷ optional fate.early ∷ joined_by (codes ";") (map decimal c.deref.result.now) ∷ []) (sym c.has.ensures ∙ c.if-not-has.false)
    (c.in_ok-put_frame.ensures before count number) c.in_ok-put_fate.ensures
    (ap (λ (ports : List ℕ). fate.word.now ∷ optional fate.early ∷ joined_by (codes ";") (map decimal ports) ∷ []) c.deref.ensures.0 ∙ fields)) c.hand_over.ensures.whole
