use Rattle.std.proofs.Common.{rules, refl, ap, sym, ◌∙◌, List, None}
use Rattle.std.specs.Vec.{with_items}
use Rattle.afdx_session.specs.declared.lane.Lane.{Lane}
use Rattle.afdx_session.specs.declared.machine.Machine.{Machine}
use Rattle.afdx_session.specs.Inner.Lanes.{heads_of}
use Rattle.afdx_session.proofs.Goings.{none_there, none_in}
use Rattle.afdx_session.proofs.Given.{none_else}
use Rattle.afdx_session.proofs.Rounds.{goes_from, none_here, round_arrives, round_touched, round_goes, round_ends}
use Rattle.afdx_session.proofs.Carrying.{heads_drawn, no_limit, went_gone, went_on, gone_at, gone_lane, carries_one, carries_none, carries_fault, same_table}
use Rattle.afdx_session.proofs.machine.Machine.carry_one.Goals as goal

pub returns-in_default-clause-ok : goal.returns-in_default-clause-ok
returns-in_default-clause-ok g c =
    let m = c.args.self.now in
    carries_none m m c.requires.carrying (same_table m.switch)
    (round_ends None m m None (no_limit m.lanes.items c.requires.carrying.over) c.requires.carrying.going refl refl refl
    (none_there None m.lanes.items c.args.heads.now c.first.result c.requires.heads c.first.ensures c.in_default.is))

pub draw-requires : goal.draw-requires
draw-requires g c =
    let m = c.args.self.now in
    let new = (with_items m.lanes c.take_settled.new.lanes).items in
    let from = goes_from _ m.lanes _ _ _ _ c.index_mut-lane.result.now _ c.deref_mut.ensures.value c.in-Some-take_settled.ensures.some c.index_mut-lane.ensures.value in
    let gone = went_gone _ m.lanes.items new _ c.in-Some.place _ from in
    went_on m.switch.run.table m.lanes.items new m.switch m.counts c.in-Some.place c.index_mut-lane.result.now c.requires.carrying.going gone
    (gone_at m.lanes.items new c.in-Some.place c.index_mut-lane.result.now _ gone c.index_mut-lane.ensures.value)

pub returns-in_err-draw-in-Some-take_settled-clause-err : goal.returns-in_err-draw-in-Some-take_settled-clause-err
returns-in_err-draw-in-Some-take_settled-clause-err g c =
    let m = c.args.self.now in
    let new = (with_items m.lanes c.take_settled.new.lanes).items in
    let from = goes_from _ m.lanes _ _ _ _ c.index_mut-lane.result.now _ c.deref_mut.ensures.value c.in-Some-take_settled.ensures.some c.index_mut-lane.ensures.value in
    let gone = went_gone _ m.lanes.items new _ c.in-Some.place _ from in
    let at = gone_at m.lanes.items new c.in-Some.place c.index_mut-lane.result.now _ gone c.index_mut-lane.ensures.value in
    let why = carries_fault m.lanes.items new c.in-Some.place c.index_mut-lane.result.now c.in_err-draw-in-Some-take_settled.field-0.0
    (round_touched _ m.lanes.items new new _ _ from.goes refl)
    (gone_lane m.lanes.items new c.in-Some.place c.index_mut-lane.result.now c.requires.carrying.over gone at) c.in_err-draw-in-Some-take_settled.ensures.err in
    search rules

pub give-requires-clause-early : goal.give-requires-clause-early
give-requires-clause-early g c =
    let m = c.args.self.now in
    let from = goes_from _ m.lanes _ _ _ _ c.index_mut-lane.result.now _ c.deref_mut.ensures.value c.in-Some-take_settled.ensures.some c.index_mut-lane.ensures.value in
    (round_arrives c.by_stamp_is_ordered.ensures _ m (with_items m.lanes c.take_settled.new.lanes).items _ _ (no_limit m.lanes.items c.requires.carrying.over)
    c.requires.carrying.going from.goes).early

pub give-requires-clause-none_else : goal.give-requires-clause-none_else
give-requires-clause-none_else g c =
    let m = c.args.self.now in
    let new = (with_items m.lanes c.take_settled.new.lanes).items in
    let from = goes_from _ m.lanes _ _ _ _ c.index_mut-lane.result.now _ c.deref_mut.ensures.value c.in-Some-take_settled.ensures.some c.index_mut-lane.ensures.value in
    none_else m.switch.run.table m.lanes.items new m.switch m.counts _ _ c.requires.carrying.of
    (round_arrives c.by_stamp_is_ordered.ensures _ m new _ _ (no_limit m.lanes.items c.requires.carrying.over) c.requires.carrying.going from.goes)

pub returns-in_ok-give-in-Some-take_settled-clause-heads : goal.returns-in_ok-give-in-Some-take_settled-clause-heads
returns-in_ok-give-in-Some-take_settled-clause-heads g c =
    let m = c.args.self.now in
    let new = (with_items m.lanes c.take_settled.new.lanes).items in
    let from = goes_from _ m.lanes _ _ _ _ c.index_mut-lane.result.now _ c.deref_mut.ensures.value c.in-Some-take_settled.ensures.some c.index_mut-lane.ensures.value in
    c.set.ensures
    ∙ heads_drawn c.args.heads.now m.lanes.items new c.in-Some.place c.draw.new.self c.head_of.result c.requires.heads (went_gone _ m.lanes.items new _ c.in-Some.place _ from) c.head_of.ensures
    ∙ ap (λ (ls : List (Lane _)). heads_of ls) (sym (ap (λ w. w.items) c.give.ensures.lanes))

pub returns-in_ok-give-in-Some-take_settled-clause-ok : goal.returns-in_ok-give-in-Some-take_settled-clause-ok
returns-in_ok-give-in-Some-take_settled-clause-ok g c =
    let m = c.args.self.now in
    let given = c.in_ok-give-in-Some-take_settled.ensures.ok in
    let lanes = with_items m.lanes c.take_settled.new.lanes in
    let mid : Machine _ = record { switch = c.give.new.self.switch; counts = c.give.new.self.counts; lanes = lanes } in
    let from = goes_from _ m.lanes _ _ _ _ c.index_mut-lane.result.now _ c.deref_mut.ensures.value c.in-Some-take_settled.ensures.some c.index_mut-lane.ensures.value in
    let gone = went_gone _ m.lanes.items lanes.items _ c.in-Some.place _ from in
    let round = round_goes c.by_stamp_is_ordered.ensures c.arrivals_change_nothing_earlier.ensures.admission c.stamps_keep_their_order.ensures.instants c.note_counts_one_more.ensures
    _ m mid lanes.items _ _ given.0 c.in-Some.place
    c.requires.carrying.of (no_limit m.lanes.items c.requires.carrying.over) c.requires.carrying.going from.goes from.here refl c.give.ensures.same given.1 given.2 given.3 in
    carries_one c.by_stamp_is_ordered.ensures c.merged_is_a_merge.ensures c.merged_is_by_stamp_and_port.ensures c.in_ok-draw-in-Some-take_settled.field-0
    m mid c.give.new.self c.in-Some.place c.index_mut-lane.result.now
    c.draw.new.self c.requires.carrying (round_touched _ m.lanes.items lanes.items lanes.items _ _ from.goes refl) c.give.ensures.same round
    (gone_at m.lanes.items lanes.items c.in-Some.place c.index_mut-lane.result.now _ gone c.index_mut-lane.ensures.value)
    c.draw.ensures.read_on c.in_ok-draw-in-Some-take_settled.ensures.ok (ap (λ w. w.items) c.give.ensures.lanes) refl refl

pub returns-in-None-clause-heads : goal.returns-in-None-clause-heads
returns-in-None-clause-heads g c =
    let v = c.args.self.now.lanes in
    c.requires.heads ∙ ap (λ (ls : List (Lane _)). heads_of ls) (sym (none_here v _ c.take_settled.new.lanes c.deref_mut.ensures.value c.in-None.ensures.none.0))

pub returns-in-None-clause-ok : goal.returns-in-None-clause-ok
returns-in-None-clause-ok g c =
    let m = c.args.self.now in
    let none = c.in-None.ensures.none in
    let next : Machine _ = record { switch = m.switch; counts = m.counts; lanes = with_items m.lanes c.take_settled.new.lanes } in
    carries_none m next c.requires.carrying (same_table m.switch)
    (round_ends None m next _ (no_limit m.lanes.items c.requires.carrying.over) c.requires.carrying.going (none_here m.lanes _ c.take_settled.new.lanes c.deref_mut.ensures.value none.0) refl refl
    (none_in None _ m.lanes.items _ c.deref_mut.ensures.value none.1))
