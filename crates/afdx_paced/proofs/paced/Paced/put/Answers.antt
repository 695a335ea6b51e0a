use Rattle.std.proofs.Common.{◌≡◌, ◌||◌, nat_lt, List, set, refl, ap, sym, ◌∙◌, arith, rules, false}
use Rattle.std.specs.Vec.{with_item}
use Rattle.afdx_session.proofs.Numbered.{set_same}
use Rattle.afdx_session.proofs.Sessions.{of_error}
use Rattle.afdx_paced.specs.declared.paced.PacedFault.{PacedFault}
use Rattle.afdx_paced.specs.declared.paced.PacedFault.TheVariants.{Memory}
use Rattle.afdx_paced.specs.Paced.{Paced, put_refusal, not_of_memory}
use Rattle.afdx_paced.specs.Inner.Kept.{paced_of, IsCut}
use Rattle.afdx_paced.specs.Inner.Parts.{Parts, lanes_of, joined}
use Rattle.afdx_paced.specs.declared.feeder.Feeder.{Feeder}
use Rattle.afdx_paced.proofs.Lists.{all_at}
use Rattle.afdx_paced.proofs.Places.{is_of}
use Rattle.afdx_paced.proofs.Putting.{puts, of_table_set, going_same}
use Rattle.afdx_paced.proofs.Calls.{placed_at, not_placed, place_fits, lane_read, refused_at, refused_port, in_time, put_seen, going_is}
use Rattle.afdx_paced.proofs.paced.Paced.put.Goals as goal

pub index-requires : goal.index-requires
index-requires g c =
    let lt = place_fits (is_of c.args.port) c.deref.result.now c.self.inside.feeder.lanes.items c.in-Some.place c.deref.ensures.value (sym c.in-Some.ensures) in
    let long = c.self.inside.feeder.lanes.ok.0 in
    omega (arith, lt, long)

pub index_mut-requires : goal.index_mut-requires
index_mut-requires g c =
    let lt = place_fits (is_of c.args.port) c.deref.result.now c.self.inside.feeder.lanes.items c.in-Some.place c.deref.ensures.value (sym c.in-Some.ensures) in
    let long = c.self.inside.feeder.lanes.ok.0 in
    omega (arith, lt, long)

pub returns-in_default-clause-err : goal.returns-in_default-clause-err
returns-in_default-clause-err g c =
    let s = c.self.inside in
    let going = going_is s.feeder s.reached s.failed c.args.self.now c.self.view_is c.requires.going in
    let view = rw going at c.self.view_is in (
      refused_port s.feeder s.reached c.args.self.now c.args.port c.args.frame.stamp view
          (not_placed s.feeder c.deref.result.now c.args.port c.deref.ensures.value (sym c.place_of.ensures ∙ c.in_default.is)),
      refl,
    )

pub returns-then-is_early-clause-err : goal.returns-then-is_early-clause-err
returns-then-is_early-clause-err g c =
    let s = c.self.inside in
    let going = going_is s.feeder s.reached s.failed c.args.self.now c.self.view_is c.requires.going in
    let view = rw going at c.self.view_is in
    let is = placed_at s.feeder c.deref.result.now c.args.port c.in-Some.place c.deref.ensures.value c.self.invariant.0 (sym c.in-Some.ensures) in
    let lane = lane_read s.feeder.switch.run.table.ports s.feeder.lanes.items c.args.port c.in-Some.place c.index.result.now _ is c.index.ensures in (
      refused_at s.feeder s.reached c.args.self.now c.args.port c.in-Some.place c.args.frame.stamp c.last-last.result _ is view (c.self.invariant.1 going)
          (c.last-last.ensures ∙ ap (λ (l : Parts). l.last) (sym lane))
          (ap (λ n. nat_lt n s.reached || nat_lt n c.last-last.result) (sym c.stamp.ensures) ∙ sym c.is_early.ensures ∙ c.if-is_early.true),
      search rules,
    )

pub invariant_of-self : goal.invariant_of-self
invariant_of-self g c =
    let s = c.self.inside in
    let going = going_is s.feeder s.reached s.failed c.args.self.now c.self.view_is c.requires.going in
    let view = rw going at c.self.view_is in
    let is = placed_at s.feeder c.deref.result.now c.args.port c.in-Some.place c.deref.ensures.value c.self.invariant.0 (sym c.in-Some.ensures) in
    let lane = lane_read s.feeder.switch.run.table.ports s.feeder.lanes.items c.args.port c.in-Some.place c.index_mut.result.now _ is c.index_mut.ensures.value in
    let written = ap (set s.feeder.lanes.items c.in-Some.place) (c.in_err-join.ensures.err ∙ sym lane) in
    let same = written ∙ set_same s.feeder.lanes.items c.in-Some.place is.lane is.at in (
      of_table_set s.feeder _ c.in-Some.place is.lane is.lane is.at refl written refl refl c.self.invariant.0,
      λ e. going_same s.reached s.feeder _ refl refl same (c.self.invariant.1 going),
    )

pub returns-in_err-join-clause-err : goal.returns-in_err-join-clause-err
returns-in_err-join-clause-err g c =
    let s = c.self.inside in
    let going = going_is s.feeder s.reached s.failed c.args.self.now c.self.view_is c.requires.going in
    let view = rw going at c.self.view_is in
    let is = placed_at s.feeder c.deref.result.now c.args.port c.in-Some.place c.deref.ensures.value c.self.invariant.0 (sym c.in-Some.ensures) in
    let lane = lane_read s.feeder.switch.run.table.ports s.feeder.lanes.items c.args.port c.in-Some.place c.index_mut.result.now _ is c.index_mut.ensures.value in
    let seen = lane_read s.feeder.switch.run.table.ports s.feeder.lanes.items c.args.port c.in-Some.place c.index.result.now _ is c.index.ensures in
    let last = c.last-last.ensures ∙ ap (λ (l : Parts). l.last) (sym seen) in
    let same = ap (set s.feeder.lanes.items c.in-Some.place) (c.in_err-join.ensures.err ∙ sym lane) ∙ set_same s.feeder.lanes.items c.in-Some.place is.lane is.at in
    let back : List Parts → Paced = λ ls. record { table = s.feeder.switch.run.table; lanes = lanes_of ls; reached = s.reached; failed = s.failed; keeps = s.feeder.switch.keeps } in
    let new : Feeder g.row.A.Denot = record { switch = s.feeder.switch; counts = s.feeder.counts; lanes = with_item s.feeder.lanes c.in-Some.place c.join.new.self } in
    let refused : PacedFault → Type 0
    = λ fault. (put_refusal c.args.self.now c.args.port c.args.frame.stamp ≡ not_of_memory fault) × (paced_of new s.reached s.failed ≡ c.args.self.now) in
    of_error refused c.from_residual.result Memory c.from_residual.ensures (
      refused_at s.feeder s.reached c.args.self.now c.args.port c.in-Some.place c.args.frame.stamp c.last-last.result false is view (c.self.invariant.1 going) last
          (ap (λ n. nat_lt n s.reached || nat_lt n c.last-last.result) (sym c.stamp.ensures) ∙ sym c.is_early.ensures ∙ c.if-is_early.false),
      ap back same ∙ c.self.view_is,
    )

pub invariant_of-self-2 : goal.invariant_of-self-2
invariant_of-self-2 g c =
    let s = c.self.inside in
    let going = going_is s.feeder s.reached s.failed c.args.self.now c.self.view_is c.requires.going in
    let view = rw going at c.self.view_is in
    let is = placed_at s.feeder c.deref.result.now c.args.port c.in-Some.place c.deref.ensures.value c.self.invariant.0 (sym c.in-Some.ensures) in
    let lane = lane_read s.feeder.switch.run.table.ports s.feeder.lanes.items c.args.port c.in-Some.place c.index_mut.result.now _ is c.index_mut.ensures.value in
    let seen = lane_read s.feeder.switch.run.table.ports s.feeder.lanes.items c.args.port c.in-Some.place c.index.result.now _ is c.index.ensures in
    let last = c.last-last.ensures ∙ ap (λ (l : Parts). l.last) (sym seen) in
    let lanes = ap (set s.feeder.lanes.items c.in-Some.place) (c.in_ok-join.ensures.ok ∙ ap (joined c.args.frame) (sym lane)) in
    let own = all_at (IsCut s.reached) s.feeder.lanes.items c.in-Some.place is.lane (c.self.invariant.1 going).cut is.at in
    let after = in_time s.reached c.args.frame.stamp c.last-last.result
    (ap (λ n. nat_lt n s.reached || nat_lt n c.last-last.result) (sym c.stamp.ensures) ∙ sym c.is_early.ensures ∙ c.if-is_early.false) in
    let le = after.1 in
    let known = own.sorted.last in (
      of_table_set s.feeder _ c.in-Some.place is.lane (joined c.args.frame is.lane) is.at refl lanes refl refl c.self.invariant.0,
      λ e. puts c.later_records_change_nothing.ensures s.reached s.feeder _ c.args.port c.in-Some.place c.args.frame is c.requires.not_late after.0 (omega (arith, le, last, known)) refl refl lanes
          (c.self.invariant.1 going),
    )

pub returns-clause-ok : goal.returns-clause-ok
returns-clause-ok g c =
    let s = c.self.inside in
    let going = going_is s.feeder s.reached s.failed c.args.self.now c.self.view_is c.requires.going in
    let view = rw going at c.self.view_is in
    let is = placed_at s.feeder c.deref.result.now c.args.port c.in-Some.place c.deref.ensures.value c.self.invariant.0 (sym c.in-Some.ensures) in
    let lane = lane_read s.feeder.switch.run.table.ports s.feeder.lanes.items c.args.port c.in-Some.place c.index_mut.result.now _ is c.index_mut.ensures.value in
    let seen = lane_read s.feeder.switch.run.table.ports s.feeder.lanes.items c.args.port c.in-Some.place c.index.result.now _ is c.index.ensures in
    let last = c.last-last.ensures ∙ ap (λ (l : Parts). l.last) (sym seen) in
    let lanes = ap (set s.feeder.lanes.items c.in-Some.place) (c.in_ok-join.ensures.ok ∙ ap (joined c.args.frame) (sym lane)) in
    let new : Feeder g.row.A.Denot = record { switch = s.feeder.switch; counts = s.feeder.counts; lanes = with_item s.feeder.lanes c.in-Some.place c.join.new.self } in (
      refused_at s.feeder s.reached c.args.self.now c.args.port c.in-Some.place c.args.frame.stamp c.last-last.result _ is view (c.self.invariant.1 going) last
          (ap (λ n. nat_lt n s.reached || nat_lt n c.last-last.result) (sym c.stamp.ensures) ∙ sym c.is_early.ensures ∙ c.if-is_early.false),
      ap (paced_of new s.reached) going ∙ put_seen s.feeder new s.reached c.args.self.now c.args.port c.in-Some.place c.args.frame is view refl lanes,
    )
