use Rattle.std.proofs.Common.{◌≡◌, ◌<◌, ◌≤◌, ℕ, ◌-◌, ◌*◌, Some, None, arith, sym, ap, subst, ◌∙◌}
use Rattle.std.specs.List.{position}
use Rattle.afdx_pairing.specs.Limits.{left_at, most_of, came_within}
use Rattle.afdx_pairing.specs.Pairing.{Pairing}
use Rattle.afdx_pairing.proofs.Firsts.{none_within, times_none, times_late, times_first}
use Rattle.afdx_pairing.proofs.pairing.Pairing.first_within.Goals as goal

pub returns-in_err-place-clause-place : goal.returns-in_err-place-clause-place
returns-in_err-place-clause-place g c =
    let m = c.self.inside.limits in
    let left = c.args.left.now.frame in
    let from : c.saturating_sub-from.result ≡ left_at m left - c.args.times * most_of m =
    c.saturating_sub-from.ensures ∙ ap (λ (n : ℕ). n - c.from.result * c.most.result) c.left_at-at.ensures.left ∙ ap (λ (n : ℕ). left_at m left - n * c.most.result) c.from.ensures
    ∙ ap (λ (n : ℕ). left_at m left - c.args.times * n) c.most.ensures.most in
    let none = times_none m c.args.times left c.bytes.result.now c.saturating_sub-from.result c.args.frames.now c.bytes.ensures.bytes from c.in_err-place.ensures.place in
    rw c.from_residual.ensures (
    subst (λ (p : Pairing). None ≡ position (λ n. came_within p.limits c.args.times n.frame left) c.args.frames.now) c.self.view_is none)

pub returns-in_err-get-clause-place : goal.returns-in_err-get-clause-place
returns-in_err-get-clause-place g c = absurd (none_within c.args.frames.now c.in_ok-place.place (sym c.in_err-get.ensures) c.in_ok-place.ensures.some)

pub returns-then-from-clause-place : goal.returns-then-from-clause-place
returns-then-from-clause-place g c =
    let m = c.self.inside.limits in
    let left = c.args.left.now.frame in
    let from : c.saturating_sub-from.result ≡ left_at m left - c.args.times * most_of m =
    c.saturating_sub-from.ensures ∙ ap (λ (n : ℕ). n - c.from.result * c.most.result) c.left_at-at.ensures.left ∙ ap (λ (n : ℕ). left_at m left - n * c.most.result) c.from.ensures
    ∙ ap (λ (n : ℕ). left_at m left - c.args.times * n) c.most.ensures.most in
    let late : left_at m left ≤ c.in_ok-get.field-0.now.frame.stamp = omega (arith, c.if-from.true, c.left_at-at.ensures.left, c.from-2.ensures, c.ns.ensures.instant, c.stamp.ensures) in
    let none = times_late m c.args.times left c.bytes.result.now c.saturating_sub-from.result c.args.frames.now c.in_ok-place.place c.in_ok-get.field-0.now c.bytes.ensures.bytes from
    c.first_from.ensures.in_order c.in_ok-place.ensures.place c.in_ok-get.ensures late in
    subst (λ (p : Pairing). None ≡ position (λ n. came_within p.limits c.args.times n.frame left) c.args.frames.now) c.self.view_is none

pub returns-clause-place : goal.returns-clause-place
returns-clause-place g c =
    let m = c.self.inside.limits in
    let left = c.args.left.now.frame in
    let from : c.saturating_sub-from.result ≡ left_at m left - c.args.times * most_of m =
    c.saturating_sub-from.ensures ∙ ap (λ (n : ℕ). n - c.from.result * c.most.result) c.left_at-at.ensures.left ∙ ap (λ (n : ℕ). left_at m left - n * c.most.result) c.from.ensures
    ∙ ap (λ (n : ℕ). left_at m left - c.args.times * n) c.most.ensures.most in
    let sooner : c.in_ok-get.field-0.now.frame.stamp < left_at m left = omega (arith, c.if-from.false, c.left_at-at.ensures.left, c.from-2.ensures, c.ns.ensures.instant, c.stamp.ensures) in
    let first = times_first m c.args.times left c.bytes.result.now c.saturating_sub-from.result c.args.frames.now c.in_ok-place.place c.in_ok-get.field-0.now c.bytes.ensures.bytes from
    c.in_ok-place.ensures.place c.in_ok-get.ensures sooner in
    subst (λ (p : Pairing). Some c.in_ok-place.place ≡ position (λ n. came_within p.limits c.args.times n.frame left) c.args.frames.now) c.self.view_is first
