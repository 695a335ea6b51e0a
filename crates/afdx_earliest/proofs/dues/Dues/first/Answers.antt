use Rattle.std.proofs.Common.{ℕ, ◌≤◌, List, length, Option, None, Some, sym, subst, arith}
use Rattle.afdx_units.specs.Time.{stamp_end}
use Rattle.afdx_earliest.specs.Instants.{IsFirstIn}
use Rattle.afdx_earliest.proofs.Firsts.{none_at_all, first_of_all}
use Rattle.afdx_earliest.proofs.dues.Dues.first.Goals as goal

pub returns-in_err-stamp : goal.returns-in_err-stamp
returns-in_err-stamp c =
    let d = c.self.inside in
    let kept = c.self.invariant in
    let r = c.first_from-first.result in
    let late : stamp_end ≤ r.1 = omega (arith, c.in_err-stamp.ensures) in
    rw c.from_residual.ensures (subst (λ (is : List (Option ℕ)). IsFirstIn is (length is) None) c.self.view_is
    (none_at_all d.places d.numbers kept.long kept.few r.0 r.1 c.first_from-first.ensures late))

pub returns : goal.returns
returns c =
    let d = c.self.inside in
    let kept = c.self.invariant in
    let r = c.first_from-first.result in
    let same = c.in_ok-stamp.ensures.1 in
    let now = subst (λ (is : List (Option ℕ)). IsFirstIn is (length is) (Some (r.0, r.1))) c.self.view_is
    (first_of_all d.places d.numbers kept.long kept.few r.0 r.1 c.first_from-first.ensures kept.no_place c.in_ok-stamp.ensures.0) in
    subst (λ t. IsFirstIn c.args.self.now (length c.args.self.now) (Some (r.0, t))) (sym same) now
