use Rattle.std.proofs.Common.{ap, sym, ◌∙◌, arith, length, List}
use Rattle.afdx_session.specs.declared.lane.Lane.{Lane}
use Rattle.afdx_session.proofs.FirstHeads.{lanes_few}
use Rattle.afdx_session.specs.Inner.Lanes.{limit_at, heads_of}
use Rattle.afdx_session.proofs.Rounds.{gives_none, own_limit, round_of, round_going, rounds_on, same_both, some_went, none_went, limit_after}
use Rattle.afdx_session.proofs.Intakes.{all_touched_both}
use Rattle.afdx_session.proofs.machine.Machine.give_settled.Goals as goal

pub loop-init : goal.loop-init
loop-init g c = record {
  gives = gives_none c.args.self.now c.requires.going;
  limit = c.limit_of-limit.ensures ∙ ap (λ ls. limit_at ls) c.deref.ensures.value;
  heads = c.heads_of-heads.ensures ∙ ap (λ (ls : List (Lane _)). heads_of ls) c.deref-2.ensures.value;
}

pub give_next-requires-clause-of : goal.give_next-requires-clause-of
give_next-requires-clause-of g c = round_of c.args.self.now c.loop.self c.loop.invariant.gives c.requires.of

pub give_next-requires-clause-going : goal.give_next-requires-clause-going
give_next-requires-clause-going g c = round_going c.args.self.now c.loop.self c.loop.invariant.gives

pub give_next-requires-clause-limit : goal.give_next-requires-clause-limit
give_next-requires-clause-limit g c = own_limit _ c.loop.self.lanes.items c.loop.invariant.limit

pub returns-in_err-give_next-clause-touched : goal.returns-in_err-give_next-clause-touched
returns-in_err-give_next-clause-touched g c = all_touched_both c.args.self.now.lanes.items c.loop.self.lanes.items _ c.loop.invariant.gives.touched c.give_next.ensures.touched

pub returns-in_err-give_next-clause-same : goal.returns-in_err-give_next-clause-same
returns-in_err-give_next-clause-same g c = same_both c.args.self.now.switch c.loop.self.switch _ c.loop.invariant.gives.same c.give_next.ensures.same

pub loop-preserved : goal.loop-preserved
loop-preserved g c = record {
  gives = rounds_on c.args.self.now c.loop.self _ _ c.loop.invariant.gives c.give_next.ensures.touched c.give_next.ensures.same c.in_ok-give_next.ensures.ok;
  limit = limit_after _ c.loop.self _ _ c.in_ok-give_next.ensures.ok c.loop.invariant.limit;
  heads = c.in_ok-give_next.ensures.heads;
}

pub loop-smaller : goal.loop-smaller
loop-smaller g c =
    let went = some_went _ (sym c.is_some.ensures ∙ c.if-is_some.true) in
    c.in_ok-give_next.ensures.ok.fewer went.0 went.1

pub returns-clause-touched : goal.returns-clause-touched
returns-clause-touched g c = all_touched_both c.args.self.now.lanes.items c.loop.self.lanes.items _ c.loop.invariant.gives.touched c.give_next.ensures.touched

pub returns-clause-same : goal.returns-clause-same
returns-clause-same g c = same_both c.args.self.now.switch c.loop.self.switch _ c.loop.invariant.gives.same c.give_next.ensures.same

pub returns-clause-ok : goal.returns-clause-ok
returns-clause-ok g c = let round = c.in_ok-give_next.ensures.ok in (round.going, round.none (none_went _ (sym c.is_some.ensures ∙ c.if-is_some.false)))

pub heads_of-heads-requires : goal.heads_of-heads-requires
heads_of-heads-requires g c =
    let few = lanes_few c.args.self.now.switch.run.table c.args.self.now.lanes.items c.requires.of in
    let same = ap (λ (ls : List (Lane _)). length ls) c.deref-2.ensures.value in
    omega (arith, few, same)
