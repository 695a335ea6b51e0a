use Rattle.std.proofs.Common.{◌∙◌, sym, subst}
use Rattle.afdx_session.specs.Inner.Kept.{AreOfTable}
use Rattle.afdx_session.proofs.Calls.{half_of_table}
use Rattle.afdx_session.proofs.Carrying.{all_ended_are_read}
use Rattle.afdx_session.proofs.Into.{ends, ends_into}
use Rattle.afdx_session.proofs.machine.Machine.end_into.Goals as goal

pub give_settled-requires-clause-of : goal.give_settled-requires-clause-of
give_settled-requires-clause-of g c =
    let m = c.args.self.now in
    subst (λ s. AreOfTable s.run.table c.close_all.new.self.lanes.items) (sym c.close_all.ensures.switch)
    (half_of_table m.switch.run.table m.lanes.items c.close_all.new.self.lanes.items c.close_all.ensures.half c.requires.of)

pub drain_by_steps-requires-clause-carrying : goal.drain_by_steps-requires-clause-carrying
drain_by_steps-requires-clause-carrying g c =
    let went = c.in_ok-give_settled.ensures.ok in
    let end =
    ends c.requires.ready.0 c.args.self.now c.close_all.new.self c.give_settled.new.self went.1.0 c.requires.ready.1.marked c.requires.of c.requires.handed c.close_all.ensures.switch
    c.close_all.ensures.half c.in_ok-close_all.ensures.ok.1 c.give_settled.ensures.touched c.give_settled.ensures.same went.0 went.1.1 in
    end.gone.carrying

pub drain_by_steps-requires-clause-all : goal.drain_by_steps-requires-clause-all
drain_by_steps-requires-clause-all g c =
    let went = c.in_ok-give_settled.ensures.ok in
    let end =
    ends c.requires.ready.0 c.args.self.now c.close_all.new.self c.give_settled.new.self went.1.0 c.requires.ready.1.marked c.requires.of c.requires.handed c.close_all.ensures.switch
    c.close_all.ensures.half c.in_ok-close_all.ensures.ok.1 c.give_settled.ensures.touched c.give_settled.ensures.same went.0 went.1.1 in
    all_ended_are_read c.give_settled.new.self.lanes.items end.gone.all

pub drain_by_steps-requires-clause-files : goal.drain_by_steps-requires-clause-files
drain_by_steps-requires-clause-files g c =
    let went = c.in_ok-give_settled.ensures.ok in
    let end =
    ends c.requires.ready.0 c.args.self.now c.close_all.new.self c.give_settled.new.self went.1.0 c.requires.ready.1.marked c.requires.of c.requires.handed c.close_all.ensures.switch
    c.close_all.ensures.half c.in_ok-close_all.ensures.ok.1 c.give_settled.ensures.touched c.give_settled.ensures.same went.0 went.1.1 in
    c.requires.files ∙ sym end.many

pub returns-clause-ok : goal.returns-clause-ok
returns-clause-ok g c =
    let went = c.in_ok-give_settled.ensures.ok in
    let end =
    ends c.requires.ready.0 c.args.self.now c.close_all.new.self c.give_settled.new.self went.1.0 c.requires.ready.1.marked c.requires.of c.requires.handed c.close_all.ensures.switch
    c.close_all.ensures.half c.in_ok-close_all.ensures.ok.1 c.give_settled.ensures.touched c.give_settled.ensures.same went.0 went.1.1 in
    let out = c.in_ok-drain_by_steps.ensures.ok in
    ends_into g.F.NewFile.contents c.args.self.now c.give_settled.new.self c.drain_by_steps.new.self c.args.files.now c.drain_by_steps.new.files end out.0 out.1
