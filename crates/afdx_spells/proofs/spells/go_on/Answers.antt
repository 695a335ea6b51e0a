use Rattle.std.proofs.Common.{◌≡◌, ◌+◌, ◌-◌, ◌++◌, ◌∷◌, [], length, take, ap, sym, ◌∙◌, arith}
use Rattle.afdx_spells.specs.declared.spell.Spell.{Spell}
use Rattle.afdx_spells.specs.Spells.{goes_on}
use Rattle.afdx_spells.proofs.Ending.{by_other, last_is, notes_last}
use Rattle.afdx_spells.proofs.spells.go_on.Goals as goal

pub returns-clause-ok : goal.returns-clause-ok
returns-clause-ok c = λ gap frames are on.
    let x = c.args.frame.now in
    let all = c.args.all.now in
    let k = length all - 1 in
    let some = c.requires in
    let is : k + 1 ≡ length all = omega (arith, some) in
    let last = c.index-all-place.result in
    let n = notes_last gap frames x all k last is are in
    by_other all k c.with.result is ∙ ap (λ (s : Spell). take k all ++ s ∷ []) (c.with.ensures n.first n.rest (c.index-all-place.is ∙ n.last_is))
    ∙ n.joined (sym (ap (λ o. goes_on gap o x) (last_is all k last is)) ∙ on)
