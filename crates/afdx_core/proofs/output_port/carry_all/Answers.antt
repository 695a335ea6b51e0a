use Rattle.std.proofs.Common.{rules, ◌+◌, ◌<◌, ◌≡◌, true, false, length, get_or, refl, sym, arith, ap, ◌∙◌, subst}
use Rattle.afdx_units.specs.Time.{is_before}
use Rattle.afdx_port.specs.Content.{due, advanced}
use Rattle.afdx_earliest.specs.Dues.{AreMarked}
use Rattle.afdx_core.specs.Inner.OutputPorts.{Out, seen}
use Rattle.afdx_core.specs.Inner.Copies.{newly_aged}
use Rattle.afdx_core.proofs.Outs.{more_room}
use Rattle.afdx_core.proofs.Counts.{thinned_none, thinned_step, one_of, due_copies, holds_step, carried_yes}
use Rattle.afdx_core.proofs.Walk.{way_start, way_step, way_end, reached, within_marked, none_marked, marked_still, within_ports, is_due_then, dues_set, latency_still, can_still}
use Rattle.afdx_core.proofs.output_port.carry_all.Goals as goal

pub loop-place-init : goal.loop-place-init
loop-place-init g c = record {
  way = way_start c.args.at c.args.output_ports.now;
  can = c.requires.can;
  latency = c.requires.latency;
  dues = c.requires.dues;
  marked = subst (λ t. AreMarked (t + c.args.latency) c.args.dues.now c.before-due.result) c.ns.ensures.same c.before-due.ensures;
  holds = c.requires.holds;
  thinned = thinned_none c.args.store.now.held;
  room = refl;
  port_room = λ k d. omega arith;
}

pub bounds-output_ports-place : goal.bounds-output_ports-place
bounds-output_ports-place g c =
    let l = c.loop-place in
    within_ports (c.args.at + c.args.latency) l.dues l.output_ports l.due _ c.in-Some.place l.invariant.dues l.invariant.marked c.in-Some.ensures

pub offset_bounds-output_ports-place : goal.offset_bounds-output_ports-place
offset_bounds-output_ports-place g c =
    let l = c.loop-place in
    let until = c.args.at + c.args.latency in
    let lt : c.in-Some.place < length l.output_ports = within_ports until l.dues l.output_ports l.due _ c.in-Some.place l.invariant.dues l.invariant.marked c.in-Some.ensures in
    let all : c.in-Some.place < length c.args.output_ports.now = omega (arith, lt, l.invariant.way.len) in
    search (rules, all)

pub carry-requires : goal.carry-requires
carry-requires g c =
    let l = c.loop-place in
    let until = c.args.at + c.args.latency in
    let lt : c.in-Some.place < length l.output_ports = within_ports until l.dues l.output_ports l.due _ c.in-Some.place l.invariant.dues l.invariant.marked c.in-Some.ensures in
    record {
      can = l.invariant.can c.in-Some.place c.index-output_ports-place.result lt;
      holds = λ i. one_of l.store.held l.output_ports c.in-Some.place c.index-output_ports-place.result i lt l.invariant.holds;
    }

pub set-requires : goal.set-requires
set-requires g c =
    let l = c.loop-place in
    within_marked (c.args.at + c.args.latency) l.dues l.due _ c.in-Some.place l.invariant.marked c.in-Some.ensures

pub loop-place-preserved : goal.loop-place-preserved
loop-place-preserved g c =
    let l = c.loop-place in
    let until = c.args.at + c.args.latency in
    let lt : c.in-Some.place < length l.output_ports = within_ports until l.dues l.output_ports l.due _ c.in-Some.place l.invariant.dues l.invariant.marked c.in-Some.ensures in
    let at = c.args.at in
    let os = l.output_ports in
    let k = c.in-Some.place in
    let d = c.index-output_ports-place.result in
    let o = get_or os k d in
    let o' = c.carry.new.self in
    let due_now : _ ≡ true = is_due_then c.args.latency at d l.dues os l.due _ k l.invariant.latency l.invariant.dues l.invariant.marked c.in-Some.ensures in
    let seen_is = c.carry.ensures.seen ∙ carried_yes at (seen o) due_now in
    let items = newly_aged o.port.content o'.port.content in
    let same = due_copies c.events_follow_the_line.ensures.parts c.each_has_one_event.ensures c.events_come_in_parts.ensures.sent c.events_come_in_parts.ensures.aged
    c.lagging_ports_follow.ensures.advance o o' at (l.invariant.can k d lt) seen_is in
    let late : is_before until c.due.result ≡ false =
    ap (is_before until) (c.due.ensures ∙ ap (λ (r : Out). due r.content) c.carry.ensures.seen)
    ∙ sym (reached c.args.latency at (advanced at o.port.content) (l.invariant.latency k d lt))
    ∙ c.lagging_ports_follow.ensures.none_due o.port.content at (l.invariant.can k d lt).still_open in
    record {
      way = way_step at k d o' c.args.output_ports.now os lt l.invariant.way due_now c.carry.ensures.seen;
      can = can_still c.lagging_ports_follow.ensures.advance at k d o' os lt l.invariant.can c.carry.ensures.seen;
      latency = latency_still c.args.latency at k d o' os lt l.invariant.latency c.carry.ensures.seen;
      dues = c.set.ensures ∙ dues_set l.dues os k o' c.due.result l.invariant.dues c.due.ensures;
      marked = marked_still until l.dues c.set.new.self l.due _ k c.due.result l.invariant.marked c.in-Some.ensures c.set.ensures late;
      holds = holds_step l.store.held c.carry.new.store.held os k d o' items lt l.invariant.holds c.carry.ensures.store same;
      thinned = thinned_step items c.args.store.now.held l.store.held c.carry.new.store.held l.invariant.thinned c.carry.ensures.store;
      room = c.carry.ensures.room ∙ l.invariant.room;
      port_room = λ j x. more_room os k j d x o' lt c.carry.ensures.port_room (l.invariant.port_room j x);
    }

pub loop-place-smaller : goal.loop-place-smaller
loop-place-smaller g c = c.in-Some.ensures.fewer

pub returns : goal.returns
returns g c =
    let l = c.loop-place in
    record {
      output_ports = way_end c.args.latency c.args.at l.dues c.args.output_ports.now l.output_ports l.invariant.latency l.invariant.dues
          (none_marked (c.args.at + c.args.latency) l.dues l.due l.invariant.marked c.in_default.ensures.0) l.invariant.way;
      dues = l.invariant.dues;
      holds = l.invariant.holds;
      thinned = l.invariant.thinned;
      room = l.invariant.room;
      port_room = l.invariant.port_room;
    }
