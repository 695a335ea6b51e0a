use Rattle.std.proofs.Common.{ℕ, ◌+◌, ◌*◌, ◌%◌, ◌^◌, List, [], ◌∷◌, ◌++◌, take, set, bit_or, ap, sym, ◌∙◌, subst}
use Rattle.afdx_port.specs.declared.Offer.{Offer}
use Rattle.afdx_core.specs.Inner.Offers.{answered, AreKept}
use Rattle.afdx_core.proofs.Answered.{has_room, kept_more, answered_with}
use Rattle.afdx_core.proofs.offers.Offers.push.Goals as goal

pub bounds-self-inside-place : goal.bounds-self-inside-place
bounds-self-inside-place c = let o = c.self.inside in has_room o.ports o.len o.full c.self.invariant c.args.self.now c.self.view_is c.requires

pub invariant_of-self : goal.invariant_of-self
invariant_of-self c =
    let o = c.self.inside in
    let fits = has_room o.ports o.len o.full c.self.invariant c.args.self.now c.self.view_is c.requires in
    subst (λ (bit : ℕ). AreKept (set o.ports o.len c.args.port) (o.len + 1) (bit_or o.full (bit * 2 ^ o.len % 2 ^ 32))) (sym c.bit_of.ensures)
    (kept_more o.ports o.len o.full c.self.invariant fits c.args.port c.args.offer)

pub returns : goal.returns
returns c =
    let o = c.self.inside in
    let fits = has_room o.ports o.len o.full c.self.invariant c.args.self.now c.self.view_is c.requires in
    ap (λ (bit : ℕ). answered (bit_or o.full (bit * 2 ^ o.len % 2 ^ 32)) 0 (take (o.len + 1) (set o.ports o.len c.args.port))) c.bit_of.ensures
    ∙ answered_with o.ports o.len o.full c.self.invariant fits c.args.port c.args.offer
    ∙ ap (λ (os : List (ℕ × Offer)). os ++ (c.args.port, c.args.offer) ∷ []) c.self.view_is
