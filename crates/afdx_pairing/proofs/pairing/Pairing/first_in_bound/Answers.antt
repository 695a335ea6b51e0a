use Rattle.std.proofs.Common.{◌≡◌, ℕ, ◌-◌, Some, None, sym, ap, subst, ◌∙◌}
use Rattle.std.specs.List.{position}
use Rattle.afdx_pairing.specs.Limits.{left_at, most_of, in_bound}
use Rattle.afdx_pairing.specs.Pairing.{Pairing}
use Rattle.afdx_pairing.proofs.Firsts.{none_within, bound_none, bound_early, bound_first}
use Rattle.afdx_pairing.proofs.pairing.Pairing.first_in_bound.Goals as goal

pub returns-in_err-place-clause-place : goal.returns-in_err-place-clause-place
returns-in_err-place-clause-place g c =
    let m = c.self.inside.limits in
    let left = c.args.left.now.frame in
    let from : c.saturating_sub-from.result ≡ left_at m left - most_of m =
    c.saturating_sub-from.ensures ∙ ap (λ (n : ℕ). n - c.most.result) c.left_at-at.ensures.left ∙ ap (λ (n : ℕ). left_at m left - n) c.most.ensures.most in
    let none = bound_none m left c.bytes.result.now c.saturating_sub-from.result c.self.inside.waiting c.bytes.ensures.bytes from c.in_err-place.ensures.place in
    rw c.from_residual.ensures (subst (λ (p : Pairing). None ≡ position (λ n. in_bound p.limits n.frame left) p.waiting) c.self.view_is none)

pub returns-in_err-get-clause-place : goal.returns-in_err-get-clause-place
returns-in_err-get-clause-place g c = absurd (none_within c.self.inside.waiting c.in_ok-place.place (sym c.in_err-get.ensures) c.in_ok-place.ensures.some)

pub returns-then-is_early-clause-place : goal.returns-then-is_early-clause-place
returns-then-is_early-clause-place g c =
    let m = c.self.inside.limits in
    let left = c.args.left.now.frame in
    let from : c.saturating_sub-from.result ≡ left_at m left - most_of m =
    c.saturating_sub-from.ensures ∙ ap (λ (n : ℕ). n - c.most.result) c.left_at-at.ensures.left ∙ ap (λ (n : ℕ). left_at m left - n) c.most.ensures.most in
    let none = bound_early m left c.bytes.result.now c.saturating_sub-from.result c.self.inside.waiting c.in_ok-place.place c.in_ok-get.field-0.now c.bytes.ensures.bytes from
    c.first_from.ensures.in_order c.in_ok-place.ensures.place c.in_ok-get.ensures (sym c.is_early.ensures ∙ c.if-is_early.true) in
    subst (λ (p : Pairing). None ≡ position (λ n. in_bound p.limits n.frame left) p.waiting) c.self.view_is none

pub returns-clause-place : goal.returns-clause-place
returns-clause-place g c =
    let m = c.self.inside.limits in
    let left = c.args.left.now.frame in
    let from : c.saturating_sub-from.result ≡ left_at m left - most_of m =
    c.saturating_sub-from.ensures ∙ ap (λ (n : ℕ). n - c.most.result) c.left_at-at.ensures.left ∙ ap (λ (n : ℕ). left_at m left - n) c.most.ensures.most in
    let first = bound_first m left c.bytes.result.now c.saturating_sub-from.result c.self.inside.waiting c.in_ok-place.place c.in_ok-get.field-0.now c.bytes.ensures.bytes from
    c.in_ok-place.ensures.place c.in_ok-get.ensures (sym c.is_early.ensures ∙ c.if-is_early.false) in
    subst (λ (p : Pairing). Some c.in_ok-place.place ≡ position (λ n. in_bound p.limits n.frame left) p.waiting) c.self.view_is first
