use Rattle.std.proofs.Common.{rules, ◌≡◌, ℕ, List, Option, sym, ap, subst, ◌∙◌}
use Rattle.std.specs.List.{AllByRecursion}
use Rattle.afdx_account.specs.Account.{account_terms}
use Rattle.afdx_table.specs.Link.{Link}
use Rattle.afdx_load.specs.Load.{terms_of}
use Rattle.afdx_following.specs.Watch.{unknown_since}
use Rattle.afdx_following.specs.Output.{Output, IsFresh}
use Rattle.afdx_following.specs.Watched.{at_first}
use Rattle.afdx_compare.specs.Comparison.{outputs_first}
use Rattle.afdx_compare.proofs.Making.{first_fresh}
use Rattle.afdx_compare.proofs.comparison.link_of.Goals as goal

pub new-requires-clause-fresh : goal.new-requires-clause-fresh
new-requires-clause-fresh g c =
    let m = c.args.making.now in
    subst (λ (os : List Output). AllByRecursion IsFresh os) (sym c.in_ok-outputs.ensures) (first_fresh m.watch m.table.now m.outputs m.keeps _ _)

pub returns : goal.returns
returns g c =
    let m = c.args.making.now in
    let l = c.args.link.now in
    let account = c.new-account.result in
    let outputs : c.in_ok-outputs.outputs.items ≡ outputs_first m.watch m.table.now m.outputs m.keeps l.priority l.to = search rules in
    record {
      account = account;
      terms = subst (λ (x : Link). account_terms account ≡ terms_of x) c.link.view_is c.new-account.ensures.terms;
      first = c.new.ensures ∙ ap (λ (since : Option ℕ). at_first account m.watch.tolerance since c.in_ok-outputs.outputs.items) c.unknown_since-since.ensures
          ∙ ap (λ (os : List Output). at_first account m.watch.tolerance (unknown_since m.watch) os) outputs;
    }
