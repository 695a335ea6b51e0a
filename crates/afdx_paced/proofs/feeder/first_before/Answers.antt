use Rattle.std.proofs.Common.{◌≡◌, ℕ, Some, None, sym, ◌∙◌, arith}
use Rattle.afdx_paced.proofs.feeder.first_before.Goals as goal

pub returns-in_err-place : goal.returns-in_err-place
returns-in_err-place c = rw c.from_residual.ensures (λ place at within is. absurd (differ (sym (c.in_err-place.ensures place within) ∙ is))) where
  differ : {at : ℕ} → None ≡ Some at → ⊥
  differ e = cc

pub returns-then-ns-bound : goal.returns-then-ns-bound
returns-then-ns-bound c = record {
  stamp = c.in_ok-place.stamp;
  first = c.in_ok-place.ensures;
  before = omega (arith, c.if-ns-bound.true, c.ns.ensures.same, c.ns-bound.ensures.same);
}

pub returns-else-ns-bound : goal.returns-else-ns-bound
returns-else-ns-bound c = λ place at within is.
    let first = c.in_ok-place.ensures in
    let le = first.sooner place at within is in
    omega (arith, le, c.if-ns-bound.false, c.ns.ensures.same, c.ns-bound.ensures.same)
