use Rattle.std.proofs.Common.{List, sym, subst, inl, inr}
use Rattle.std.specs.Prelude.{Contains}
use Rattle.std.proofs.lemmas.List.Elements.{Contains-append_left, Contains-append_right, Contains-append_cases}
use Rattle.afdx_origins.specs.declared.at_link.Coming.{Coming}
use Rattle.afdx_origins.specs.Inner.Known.{NoneCame}
use Rattle.afdx_origins.proofs.Found.{some_weaker, none_weaker}
use Rattle.afdx_origins.proofs.at_link.AtLink.first_of.Goals as goal

pub returns-in-Some-clause-came : goal.returns-in-Some-clause-came
returns-in-Some-clause-came c =
    let front = c.as_slices.result.0.now in
    let back = c.as_slices.result.1.now in
    let frame : Coming = record { at = c.args.at; first = c.in-Some.first } in
    subst (λ (xs : List Coming). Contains xs frame) c.as_slices.ensures.items (Contains-append_right front back frame c.in-Some.ensures.came)

pub returns-in-None-clause-came : goal.returns-in-None-clause-came
returns-in-None-clause-came c =
    let front = c.as_slices.result.0.now in
    let back = c.as_slices.result.1.now in
    some_weaker (λ first. Contains front (record { at = c.args.at; first = first }))
    (λ first. Contains c.args.self.now.coming.items (record { at = c.args.at; first = first })) c.first_in-in-None.result
    (λ first has. let frame : Coming = record { at = c.args.at; first = first } in
    subst (λ (xs : List Coming). Contains xs frame) c.as_slices.ensures.items (Contains-append_left front back frame has)) c.first_in-in-None.ensures.came

pub returns-in-None-clause-none : goal.returns-in-None-clause-none
returns-in-None-clause-none c =
    let front = c.as_slices.result.0.now in
    let back = c.as_slices.result.1.now in
    let at = c.args.at in
    none_weaker (NoneCame front at) (NoneCame c.args.self.now.coming.items at) c.first_in-in-None.result
    (λ none first has. let frame : Coming = record { at = at; first = first } in
    elim (Contains-append_cases front back frame (subst (λ (xs : List Coming). Contains xs frame) (sym c.as_slices.ensures.items) has)) [
      | inl there ↦ none first there
      | inr there ↦ c.in-None.ensures.none first there
    ]) c.first_in-in-None.ensures.none
