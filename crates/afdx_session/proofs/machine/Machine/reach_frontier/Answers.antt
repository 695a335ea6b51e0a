use Rattle.std.proofs.Common.{ap, sym, ◌∙◌, subst}
use Rattle.afdx_table.specs.Content.{Content}
use Rattle.afdx_session.specs.Inner.Lanes.{limit_at}
use Rattle.afdx_session.specs.Inner.Kept.{HasCome}
use Rattle.afdx_session.proofs.Rounds.{same_both}
use Rattle.afdx_session.proofs.Calls.{ok_reported, err_reported, advanced_same, machine_comes, machine_no_back}
use Rattle.afdx_session.proofs.machine.Machine.reach_frontier.Goals as goal

pub unreachable-requires : goal.unreachable-requires
unreachable-requires g c =
    let mid = c.give_settled.new.self in
    let settled = c.in_ok-give_settled.ensures.ok in
    let limit = c.limit_of.ensures ∙ ap (λ ls. limit_at ls) c.deref.ensures.value in
    err_reported c.advance.result _ ⊥ (sym c.if-is_err.ensures.value) c.advance.ensures.err
    (λ e back. machine_no_back mid c.limit_of.result c.instant_of-frontier.result settled.0 limit c.instant_of-frontier.ensures back.0)

pub returns-clause-same : goal.returns-clause-same
returns-clause-same g c =
    let mid = c.give_settled.new.self in
    let came = ok_reported c.advance.result _ (sym c.if-is_err.ensures.value) c.advance.ensures.ok in
    same_both _ mid.switch _ c.give_settled.ensures.same (advanced_same mid.switch c.advance.new.self c.instant_of-frontier.result came.1 came.2)

pub returns-clause-ok : goal.returns-clause-ok
returns-clause-ok g c =
    let mid = c.give_settled.new.self in
    let settled = c.in_ok-give_settled.ensures.ok in
    let limit = c.limit_of.ensures ∙ ap (λ ls. limit_at ls) c.deref.ensures.value in
    let came = ok_reported c.advance.result _ (sym c.if-is_err.ensures.value) c.advance.ensures.ok in
    let same = advanced_same mid.switch c.advance.new.self c.instant_of-frontier.result came.1 came.2 in
    subst (λ (t : Content). HasCome t mid.lanes.items c.advance.new.self mid.counts) (sym same.table)
    (machine_comes c.by_stamp_is_ordered.ensures mid c.advance.new.self c.limit_of.result c.instant_of-frontier.result settled.1.0 settled.0 limit settled.1.1
    c.instant_of-frontier.ensures came.1 came.2)
