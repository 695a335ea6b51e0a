use Rattle.std.proofs.Common.{ap, sym, refl, subst, ◌∙◌, List, None}
use Rattle.std.specs.Vec.{with_items}
use Rattle.afdx_session.specs.declared.lane.Lane.{Lane}
use Rattle.afdx_session.specs.Inner.Lanes.{heads_of}
use Rattle.afdx_session.specs.Inner.Kept.{AreTouched}
use Rattle.afdx_session.proofs.Goings.{none_there, none_in}
use Rattle.afdx_session.proofs.Given.{none_else}
use Rattle.afdx_session.proofs.Intakes.{all_touched_none}
use Rattle.afdx_session.proofs.Rounds.{goes_within, goes_from, none_here, heads_gone, round_arrives, round_touched, round_goes, round_ends}
use Rattle.afdx_session.proofs.machine.Machine.give_next.Goals as goal

pub index-lane-requires : goal.index-lane-requires
index-lane-requires g c = goes_within _ c.args.self.now.lanes _ _ _ _ c.deref_mut.ensures.value c.in-Some-take_settled.ensures.some

pub give-requires-clause-early : goal.give-requires-clause-early
give-requires-clause-early g c =
    let m = c.args.self.now in
    let from = goes_from _ m.lanes _ _ _ _ c.index-lane.result.now _ c.deref_mut.ensures.value c.in-Some-take_settled.ensures.some c.index-lane.ensures in
    (round_arrives c.by_stamp_is_ordered.ensures _ m (with_items m.lanes c.take_settled.new.lanes).items _ _ c.requires.limit c.requires.going from.goes).early

pub give-requires-clause-none_else : goal.give-requires-clause-none_else
give-requires-clause-none_else g c =
    let m = c.args.self.now in
    let new = (with_items m.lanes c.take_settled.new.lanes).items in
    let from = goes_from _ m.lanes _ _ _ _ c.index-lane.result.now _ c.deref_mut.ensures.value c.in-Some-take_settled.ensures.some c.index-lane.ensures in
    none_else m.switch.run.table m.lanes.items new m.switch m.counts _ _ c.requires.of (round_arrives c.by_stamp_is_ordered.ensures _ m new _ _ c.requires.limit c.requires.going from.goes)

pub returns-in_err-give-in-Some-take_settled-clause-touched : goal.returns-in_err-give-in-Some-take_settled-clause-touched
returns-in_err-give-in-Some-take_settled-clause-touched g c =
    let m = c.args.self.now in
    let from = goes_from _ m.lanes _ _ _ _ c.index-lane.result.now _ c.deref_mut.ensures.value c.in-Some-take_settled.ensures.some c.index-lane.ensures in
    round_touched _ m.lanes.items (with_items m.lanes c.take_settled.new.lanes).items c.give.new.self.lanes.items _ _ from.goes (ap (λ w. w.items) c.give.ensures.lanes)

pub returns-in_ok-give-in-Some-take_settled-clause-touched : goal.returns-in_ok-give-in-Some-take_settled-clause-touched
returns-in_ok-give-in-Some-take_settled-clause-touched g c =
    let m = c.args.self.now in
    let from = goes_from _ m.lanes _ _ _ _ c.index-lane.result.now _ c.deref_mut.ensures.value c.in-Some-take_settled.ensures.some c.index-lane.ensures in
    round_touched _ m.lanes.items (with_items m.lanes c.take_settled.new.lanes).items c.give.new.self.lanes.items _ _ from.goes (ap (λ w. w.items) c.give.ensures.lanes)

pub returns-in_ok-give-in-Some-take_settled-clause-ok : goal.returns-in_ok-give-in-Some-take_settled-clause-ok
returns-in_ok-give-in-Some-take_settled-clause-ok g c =
    let m = c.args.self.now in
    let given = c.in_ok-give-in-Some-take_settled.ensures.ok in
    let from = goes_from _ m.lanes _ _ _ _ c.index-lane.result.now _ c.deref_mut.ensures.value c.in-Some-take_settled.ensures.some c.index-lane.ensures in
    round_goes c.by_stamp_is_ordered.ensures c.arrivals_change_nothing_earlier.ensures.admission c.stamps_keep_their_order.ensures.instants c.note_counts_one_more.ensures _ m c.give.new.self
    (with_items m.lanes c.take_settled.new.lanes).items _ _ given.0 c.in-Some.place c.requires.of c.requires.limit
    c.requires.going from.goes from.here (ap (λ w. w.items) c.give.ensures.lanes) c.give.ensures.same given.1 given.2 given.3

pub returns-in-None-clause-touched : goal.returns-in-None-clause-touched
returns-in-None-clause-touched g c =
    let v = c.args.self.now.lanes in
    subst (λ ls. AreTouched v.items ls) (sym (none_here v _ c.take_settled.new.lanes c.deref_mut.ensures.value c.in-None.ensures.none.0)) (all_touched_none v.items)

pub returns-in-None-clause-ok : goal.returns-in-None-clause-ok
returns-in-None-clause-ok g c =
    let m = c.args.self.now in
    let none = c.in-None.ensures.none in
    round_ends c.args.limit m _ _ c.requires.limit c.requires.going (none_here m.lanes _ c.take_settled.new.lanes c.deref_mut.ensures.value none.0) refl refl
    (none_in c.args.limit _ m.lanes.items _ c.deref_mut.ensures.value none.1)

pub returns-in_default-clause-touched : goal.returns-in_default-clause-touched
returns-in_default-clause-touched g c = all_touched_none c.args.self.now.lanes.items

pub returns-in_default-clause-ok : goal.returns-in_default-clause-ok
returns-in_default-clause-ok g c =
    let m = c.args.self.now in
    round_ends c.args.limit m m None c.requires.limit c.requires.going refl refl refl
    (none_there c.args.limit m.lanes.items c.args.heads.now c.first.result c.requires.heads c.first.ensures c.in_default.is)

pub returns-in_ok-give-in-Some-take_settled-clause-heads : goal.returns-in_ok-give-in-Some-take_settled-clause-heads
returns-in_ok-give-in-Some-take_settled-clause-heads g c =
    let m = c.args.self.now in
    let new = (with_items m.lanes c.take_settled.new.lanes).items in
    let from = goes_from _ m.lanes _ _ _ _ c.index-lane.result.now _ c.deref_mut.ensures.value c.in-Some-take_settled.ensures.some c.index-lane.ensures in
    c.set.ensures
    ∙ heads_gone _ c.args.heads.now m.lanes.items new c.in-Some.place _ _ c.index-lane.result.now _ c.head_of.result c.requires.heads from c.index-lane.ensures c.head_of.ensures
    ∙ ap (λ (ls : List (Lane _)). heads_of ls) (sym (ap (λ w. w.items) c.give.ensures.lanes))

pub returns-in-None-clause-heads : goal.returns-in-None-clause-heads
returns-in-None-clause-heads g c =
    let v = c.args.self.now.lanes in
    c.requires.heads ∙ ap (λ (ls : List (Lane _)). heads_of ls) (sym (none_here v _ c.take_settled.new.lanes c.deref_mut.ensures.value c.in-None.ensures.none.0))
