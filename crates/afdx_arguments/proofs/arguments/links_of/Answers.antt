use Rattle.std.proofs.Common.{List, [], ℕ, Option, codes, ap, sym, subst, ◌∙◌}
use Rattle.std.specs.Prelude.{IfOk, MatchOption, unwrap_or}
use Rattle.clap.specs.Words.{Text, found_of}
use Rattle.clap.proofs.WalkLemmas.{raw_values-rows}
use Rattle.afdx_arguments.specs.Requests.{AreLinks}
use Rattle.afdx_arguments.proofs.arguments.links_of.Goals as goal

abbrev or_none : Option (List Text) → List Text
or_none texts = unwrap_or texts []

pub returns-in-Some : goal.returns-in-Some
returns-in-Some c =
    let is = ap or_none (c.in-Some.ensures ∙ raw_values-rows (found_of c.args.matches.now) (codes "link")) in
    subst (λ (texts : List Text). IfOk c.links_in.result (λ found. MatchOption found ((links : List ℕ) → AreLinks texts links → ⊥) (λ links. AreLinks texts links.items))) is
    c.links_in.ensures

pub returns-in-None : goal.returns-in-None
returns-in-None c =
    let is = ap or_none (c.in-None.ensures ∙ raw_values-rows (found_of c.args.matches.now) (codes "link")) in
    subst (λ (texts : List Text). AreLinks texts c.new.result.items) is (subst (λ (links : List ℕ). AreLinks [] links) (sym c.new.ensures.items) tt)
