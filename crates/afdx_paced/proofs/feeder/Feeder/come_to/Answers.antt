use Rattle.std.proofs.Common.{refl, sym, arith}
use Rattle.afdx_session.proofs.Calls.{ok_reported, err_reported}
use Rattle.afdx_paced.proofs.Coming.{begins, ends, of_table_on, same_on}
use Rattle.afdx_paced.proofs.feeder.Feeder.come_to.Goals as goal

pub give_before-requires-clause-passing : goal.give_before-requires-clause-passing
give_before-requires-clause-passing g c = begins c.merges_are_cut.ensures c.by_stamp_is_ordered.ensures c.args.since c.args.until c.args.self.now c.requires.in_order c.requires.going

pub unreachable-requires : goal.unreachable-requires
unreachable-requires g c =
    err_reported c.advance.result _ ⊥ (sym c.if-is_err.ensures.value) c.advance.ensures.err
    (λ e back. let le = c.in_ok-give_before.ensures.ok.passing.latest in let lt = back.0 in omega (arith, le, lt))

pub returns-clause-of : goal.returns-clause-of
returns-clause-of g c =
    let came = ok_reported c.advance.result _ (sym c.if-is_err.ensures.value) c.advance.ensures.ok in
    of_table_on c.give_before.new.self _ c.args.until refl came.1 c.give_before.ensures.of

pub returns-clause-same : goal.returns-clause-same
returns-clause-same g c =
    let came = ok_reported c.advance.result _ (sym c.if-is_err.ensures.value) c.advance.ensures.ok in
    same_on c.args.self.now.switch c.give_before.new.self.switch c.advance.new.self c.args.until c.give_before.ensures.same came.1 came.2

pub returns-clause-ok : goal.returns-clause-ok
returns-clause-ok g c =
    let came = ok_reported c.advance.result _ (sym c.if-is_err.ensures.value) c.advance.ensures.ok in
    let passed = c.in_ok-give_before.ensures.ok in (
      ends c.merges_are_cut.ensures c.out_goes_on.ensures c.args.since c.args.until c.args.self.now c.give_before.new.self _ c.requires.in_order c.requires.going passed
          c.give_before.ensures.same refl refl came.1 came.2,
      record { lanes = passed.comes.lanes },
    )
