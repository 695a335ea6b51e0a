use Rattle.std.proofs.Common.{refl, subst, ◌∙◌, true}
use Rattle.afdx_table.specs.Content.{Content}
use Rattle.afdx_session.specs.Texts.{AreOfPorts, texts_of}
use Rattle.afdx_session.specs.Outcome.{table_in, IsRefusal}
use Rattle.afdx_session.proofs.Sessions.{of_error}
use Rattle.afdx_session.proofs.WholeRuns.{kept_lent, lent_fault, is_refusal}
use Rattle.afdx_session.proofs.whole.carry.Goals as goal

pub lend-requires-clause-of : goal.lend-requires-clause-of
lend-requires-clause-of g c = c.in_ok-machine.ensures.ok.kept.of

pub lend-requires-clause-handed : goal.lend-requires-clause-handed
lend-requires-clause-handed g c = c.in_ok-machine.ensures.ok.kept.handed

pub lend-requires-clause-running : goal.lend-requires-clause-running
lend-requires-clause-running g c = (c.in_ok-machine.ensures.ok.kept.ready refl).running

pub returns-in_err-lend-clause-err : goal.returns-in_err-lend-clause-err
returns-in_err-lend-clause-err g c =
    let t = table_in c.args.plan in
    let texts = texts_of c.args.captures.now in
    let begun = c.in_ok-machine.ensures.ok in
    let fault = c.in_err-lend.field-0.0 in
    let ports = subst (λ (u : Content). AreOfPorts u texts) begun.table begun.ports in
    of_error (λ e. IsRefusal t texts e) c.from_residual-in_err-lend.result fault c.from_residual-in_err-lend.ensures (is_refusal t texts fault ports c.in_err-lend.ensures.err)

pub end-requires-clause-of : goal.end-requires-clause-of
end-requires-clause-of g c =
    let texts = texts_of c.args.captures.now in
    let begun = c.in_ok-machine.ensures.ok in
    let ports = subst (λ (u : Content). AreOfPorts u texts) begun.table begun.ports in
    (kept_lent c.by_stamp_is_ordered.ensures c.arrivals_change_nothing_earlier.ensures.admission c.stamps_keep_their_order.ensures.instants c.all_start_before_the_last_instant.ensures
    c.in_ok-machine.machine c.lend.new.self (table_in c.args.plan) texts begun.kept begun.table ports c.lend.ensures.same c.in_ok-lend.ensures.ok.0 c.in_ok-lend.ensures.ok.1).of

pub end-requires-clause-handed : goal.end-requires-clause-handed
end-requires-clause-handed g c =
    let texts = texts_of c.args.captures.now in
    let begun = c.in_ok-machine.ensures.ok in
    let ports = subst (λ (u : Content). AreOfPorts u texts) begun.table begun.ports in
    (kept_lent c.by_stamp_is_ordered.ensures c.arrivals_change_nothing_earlier.ensures.admission c.stamps_keep_their_order.ensures.instants c.all_start_before_the_last_instant.ensures
    c.in_ok-machine.machine c.lend.new.self (table_in c.args.plan) texts begun.kept begun.table ports c.lend.ensures.same c.in_ok-lend.ensures.ok.0 c.in_ok-lend.ensures.ok.1).handed

pub end-requires-clause-ready : goal.end-requires-clause-ready
end-requires-clause-ready g c = (true, c.in_ok-lend.ensures.ok.0)

pub returns-in_err-room-clause-err : goal.returns-in_err-room-clause-err
returns-in_err-room-clause-err g c =
    let t = table_in c.args.plan in
    let texts = texts_of c.args.captures.now in
    let begun = c.in_ok-machine.ensures.ok in
    let fault = c.in_err-room.field-0.0 in
    let ports = subst (λ (u : Content). AreOfPorts u texts) begun.table begun.ports in
    of_error (λ e. IsRefusal t texts e) c.from_residual-in_err-room.result fault c.from_residual-in_err-room.ensures
    (is_refusal t texts fault ports (lent_fault c.lend.new.self texts fault c.in_ok-lend.ensures.ok.1 c.in_ok-lend.ensures.ok.0 c.in_err-room.ensures.err))

pub returns-clause-ok : goal.returns-clause-ok
returns-clause-ok g c =
    let texts = texts_of c.args.captures.now in
    let begun = c.in_ok-machine.ensures.ok in
    let ports = subst (λ (u : Content). AreOfPorts u texts) begun.table begun.ports in
    record {
      lent = c.lend.new.self;
      table = c.lend.ensures.same.table ∙ begun.table;
      accepted = c.lend.ensures.same.accepted ∙ begun.accepted;
      ports = ports;
      kept = kept_lent c.by_stamp_is_ordered.ensures c.arrivals_change_nothing_earlier.ensures.admission c.stamps_keep_their_order.ensures.instants c.all_start_before_the_last_instant.ensures
          c.in_ok-machine.machine c.lend.new.self (table_in c.args.plan) texts begun.kept begun.table ports c.lend.ensures.same c.in_ok-lend.ensures.ok.0 c.in_ok-lend.ensures.ok.1;
      captures = c.in_ok-lend.ensures.ok.1;
      same = c.end.ensures.same;
      half = c.end.ensures.half;
      ended = c.in_ok-room.ensures.ok.1;
      running = c.in_ok-room.ensures.ok.0;
    }
