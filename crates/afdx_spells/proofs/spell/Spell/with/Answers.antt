use Rattle.std.proofs.Common.{◌+◌, min, max, ap, ◌∙◌}
use Rattle.afdx_spells.specs.declared.spell.Spell.{Spell}
use Rattle.afdx_spells.proofs.Longer.{longer}
use Rattle.afdx_spells.proofs.spell.Spell.with.Goals as goal

pub returns : goal.returns
returns c = λ x frames is.
    let y = c.args.frame.now in
    (λ i. record { count = (is i).count + 1; first = (is i).first; last = y.at; least = c.min.result; greatest = c.max.result })
    ∙ longer x frames y c.min.result c.max.result (c.min.ensures ∙ ap (λ (s : Spell). min s.least y.early) is) (c.max.ensures ∙ ap (λ (s : Spell). max s.greatest y.early) is)
