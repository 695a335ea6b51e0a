use Rattle.std.proofs.Common.{◌≡◌, ap, sym, false, true}
use Rattle.afdx_paced.proofs.Calls.{going_is, gone_seen}
use Rattle.afdx_paced.proofs.paced.Paced.go_to.Goals as goal

pub come_to-requires-clause-going : goal.come_to-requires-clause-going
come_to-requires-clause-going g c =
    let s = c.self.inside in
    c.self.invariant.1 (going_is s.feeder s.reached s.failed c.args.self.now c.self.view_is c.requires.going)

pub come_to-requires-clause-in_order : goal.come_to-requires-clause-in_order
come_to-requires-clause-in_order g c = rw (ap (λ v. v.reached) (sym c.self.view_is)) at c.requires.in_order

pub invariant_of-self : goal.invariant_of-self
invariant_of-self g c = (c.come_to.ensures.of, λ e. absurd (differ e)) where
  differ : true ≡ false → ⊥
  differ e = cc

pub invariant_of-self-2 : goal.invariant_of-self-2
invariant_of-self-2 g c = (c.come_to.ensures.of, λ e. c.in_ok-come_to.ensures.ok.0)

pub returns-clause-ok : goal.returns-clause-ok
returns-clause-ok g c =
    let s = c.self.inside in
    gone_seen s.feeder c.come_to.new.self s.reached s.failed c.args.instant c.args.self.now c.self.view_is c.requires.going c.come_to.ensures.same c.in_ok-come_to.ensures.ok.1
