use Rattle.std.proofs.Common.{arith}
use Rattle.afdx_core.proofs.Occupied.{may_be_asked, answers, none_answers}
use Rattle.afdx_core.proofs.engine.Engine.occupied.Goals as goal

pub occupied_at-requires : goal.occupied_at-requires
occupied_at-requires g c =
    let e = c.args.self.now in
    let asked = may_be_asked e c.requires.kept c.requires.still_open c.args.place c.deref.result.now c.deref.ensures.value c.lagging_ports_follow.ensures.none_due (omega arith) in
    record { place = asked.within; still_open = asked.still_open; in_order = asked.in_order; none_due = asked.none_due }

pub returns-then-place-len : goal.returns-then-place-len
returns-then-place-len g c = answers c.args.self.now c.requires.kept c.requires.still_open c.args.place c.deref.result.now c.deref.ensures.value c.occupied_at.result
    (omega arith) c.occupied_at.ensures

pub returns-else-place-len : goal.returns-else-place-len
returns-else-place-len g c = none_answers c.args.self.now c.args.place c.requires.kept (omega arith)
