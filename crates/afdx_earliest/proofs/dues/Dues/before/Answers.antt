use Rattle.std.proofs.Common.{subst, rules, to_z, of_z, w64, ◌∙◌}
use mir.Val.{SFits}
use Rattle.std.proofs.lemmas.Int.{to_z-of_z}
use Rattle.afdx_earliest.specs.Dues.{AreMarked}
use Rattle.afdx_earliest.proofs.Marks.{all_but, marked_all}
use Rattle.afdx_earliest.proofs.dues.Dues.before.Goals as goal

pub returns : goal.returns
returns c =
    let d = c.self.inside in
    let low = c.later_of-low in
    let middle = c.later_of-middle in
    let high = c.later_of-high in
    let last = c.last_before-last.result in
    let fits : SFits w64 last = search rules in
    let all = marked_all c.args.instant d.places d.numbers c.self.invariant (to_z w64 (of_z w64 last)) (to_z-of_z w64 last fits ∙ c.last_before-last.ensures)
    low.result middle.result high.result low.ensures.small middle.ensures.small high.ensures.small low.ensures.marks middle.ensures.marks high.ensures.marks in
    subst (λ is. AreMarked c.args.instant is (all_but low.result middle.result high.result)) c.self.view_is all
