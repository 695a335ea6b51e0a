use Rattle.std.proofs.Common.{rules, List, ◌++◌, take, ap, ◌∙◌}
use Rattle.afdx_pairing.specs.declared.event.Event.{Event}
use Rattle.afdx_pairing.specs.Pairing.{gone_by, missing}
use Rattle.afdx_pairing.proofs.Taking.{left_is, left_tells}
use Rattle.afdx_pairing.proofs.pairing.Pairing.left.Goals as goal

pub returns-clause-ok : goal.returns-clause-ok
returns-clause-ok g c =
    left_is c.args.self.now c.keep.new.self c.take.new.self c.left_at-at.result c.args.left (search rules) c.keep.ensures.kept c.take.ensures.paired

pub returns-clause-told : goal.returns-clause-told
returns-clause-told g c =
    left_tells c.args.events.now.items c.keep.new.events.items c.take.new.events.items c.args.self.now c.keep.new.self c.left_at-at.result c.args.left
    (search rules) c.keep.ensures.kept
    (c.keep.ensures.told
    ∙ ap (λ (told : List Event). told ++ missing (take (gone_by c.args.self.now.limits c.left_at-at.result c.args.self.now.waiting) c.args.self.now.waiting)) c.reserve.ensures.items)
    c.take.ensures.told
