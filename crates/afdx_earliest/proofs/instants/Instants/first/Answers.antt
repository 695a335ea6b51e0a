use Rattle.std.proofs.Common.{◌≡◌, ℕ, ◌*◌, ◌≤◌, List, length, Option, None, Some, sym, subst, arith}
use Rattle.afdx_units.specs.Time.{stamp_end}
use Rattle.afdx_earliest.specs.Instants.{IsFirstIn}
use Rattle.afdx_earliest.specs.Inner.Groups.{IsFirstFrom}
use Rattle.afdx_earliest.proofs.Firsts.{none_at_all, first_of_all}
use Rattle.afdx_earliest.proofs.instants.Instants.first.Goals as goal

pub returns-in_err-stamp : goal.returns-in_err-stamp
returns-in_err-stamp c =
    let d = c.self.inside in
    let l = c.loop-group in
    let all : l.group * 6 ≡ 24 = omega (arith, c.loop-group-test.false, l.auto.group-end) in
    let is = subst (λ n. IsFirstFrom d.numbers 0 n l.first l.least) all l.invariant in
    let late : stamp_end ≤ l.least = omega (arith, c.in_err-stamp.ensures) in
    rw c.from_residual.ensures (subst (λ (is : List (Option ℕ)). IsFirstIn is (length is) None) c.self.view_is
    (none_at_all d.places d.numbers c.self.invariant.long c.self.invariant.few l.first l.least is late))

pub returns : goal.returns
returns c =
    let d = c.self.inside in
    let l = c.loop-group in
    let all : l.group * 6 ≡ 24 = omega (arith, c.loop-group-test.false, l.auto.group-end) in
    let is = subst (λ n. IsFirstFrom d.numbers 0 n l.first l.least) all l.invariant in
    let same = c.in_ok-stamp.ensures.1 in
    let now = subst (λ (is : List (Option ℕ)). IsFirstIn is (length is) (Some (l.first, l.least))) c.self.view_is
    (first_of_all d.places d.numbers c.self.invariant.long c.self.invariant.few l.first l.least is c.self.invariant.no_place c.in_ok-stamp.ensures.0) in
    subst (λ t. IsFirstIn c.args.self.now (length c.args.self.now) (Some (l.first, t))) (sym same) now
