use Rattle.std.proofs.Common.{List, get_or, ap, ◌∙◌, subst}
use Rattle.std.specs.Prelude.{IfNone, IfSome, Contains}
use Rattle.afdx_origins.specs.declared.at_link.AtLink.{AtLink}
use Rattle.afdx_origins.specs.Inner.Known.{NoneCame}
use Rattle.afdx_origins.proofs.at_switch.AtSwitch.first_of.Goals as goal

pub returns-clause-came : goal.returns-clause-came
returns-clause-came c = λ a.
    subst (λ (x : AtLink). IfSome c.first_of.result (λ first. Contains x.coming.items (record { at = c.args.at; first = first })))
    (c.in_ok-get.ensures.lookup.3.1 a ∙ ap (λ (xs : List AtLink). get_or xs c.args.place a) c.deref.ensures.value) c.first_of.ensures.came

pub returns-clause-none : goal.returns-clause-none
returns-clause-none c = λ a within.
    subst (λ (x : AtLink). IfNone c.first_of.result (NoneCame x.coming.items c.args.at))
    (c.in_ok-get.ensures.lookup.3.1 a ∙ ap (λ (xs : List AtLink). get_or xs c.args.place a) c.deref.ensures.value) c.first_of.ensures.none
