use Rattle.std.proofs.Common.{ℕ, List, take, slice_get, slice_index_or, Some, ap, sym, ◌∙◌, arith}
use Rattle.std.proofs.lemmas.Option.{slice_get_past}
use Rattle.afdx_port.specs.declared.Offer.{Offer}
use Rattle.afdx_core.specs.Inner.Offers.{answered}
use Rattle.afdx_core.proofs.Answered.{length_kept, answer_kept}
use Rattle.afdx_core.proofs.offers.Offers.get.Goals as goal

pub returns-then-place-self : goal.returns-then-place-self
returns-then-place-self c =
    let o = c.self.inside in
    ap (λ (answer : Offer). Some (slice_index_or o.ports c.args.place 0, answer)) c.answer_of.ensures
    ∙ sym (answer_kept o.ports o.len o.full c.self.invariant c.args.place c.if-place-self.true)
    ∙ ap (λ (os : List (ℕ × Offer)). slice_get os c.args.place) c.self.view_is

pub returns-else-place-self : goal.returns-else-place-self
returns-else-place-self c =
    let o = c.self.inside in
    let count = length_kept o.ports o.len o.full c.self.invariant in
    sym (slice_get_past (answered o.full 0 (take o.len o.ports)) c.args.place (omega (arith, count, c.if-place-self.false)))
    ∙ ap (λ (os : List (ℕ × Offer)). slice_get os c.args.place) c.self.view_is
