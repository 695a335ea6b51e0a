use Rattle.std.specs.Prelude.{IfSome}
use Rattle.afdx_table.specs.Link.{Link}
use Rattle.afdx_table.specs.WellFormed.{IsLink}
use Rattle.std.proofs.Common.{◌≡◌, Option, Bor, subst, List, ◌++◌, ◌∷◌, [], arith, sym, ◌∙◌}
use Rattle.afdx_core.specs.declared.step.Row.{Row}
use Rattle.afdx_core.specs.Rows.{passes}
use Rattle.afdx_core.specs.Kept.{AccountsAgree}
use Rattle.afdx_trace.proofs.Placing.{IsAt, is_at, is_credited, comes_early}
use Rattle.afdx_trace.proofs.tracing.pass.Goals as goal
use Rattle.afdx_trace.proofs.tracing.pass.Goals.{After-unwrap-link, After-police}

-- the link at the place
at : (c : After-unwrap-link) → IsAt c.args.table.now c.args.row.now.verdict c.args.place c.unwrap-link.result.now
at c =
    is_at c.args.table.now c.args.row.now.verdict c.args.place c.link_at.result c.unwrap-link.result c.links_are_at_their_places.ensures c.links_are_found.ensures
    c.requires.place c.link_at.ensures.link c.unwrap-link.ensures

-- what the link's account answers, and that the accounts agree with the frame
answers : (c : After-police) (before : List Row) → AccountsAgree c.args.table.now.links before c.args.row.now.stamp c.args.accounts.now
    → IsAt c.args.table.now c.args.row.now.verdict c.args.place c.unwrap-link.result.now
    → (c.police.result ≡ passes c.unwrap-link.result.now before c.args.row.now)
    × AccountsAgree c.args.table.now.links (before ++ c.args.row.now ∷ []) c.args.row.now.stamp c.police.new.accounts
answers c before agree n =
    c.police.ensures c.args.table.now.links before c.args.row.now.stamp c.unwrap-link.result.now agree c.link_at.ensures.well_formed.links_distinct n.within (omega arith) n.at n.clean

pub early_by-early-requires-clause-in_order : goal.early_by-early-requires-clause-in_order
early_by-early-requires-clause-in_order c =
    let n = at (goal.at.early_by-early-requires-clause-in_order c).After-unwrap-link in
    (c.requires.agree.1.each c.args.place c.unwrap-link.result.now c.index-accounts-place.result n.within).since

pub early_by-early-requires-clause-credited : goal.early_by-early-requires-clause-credited
early_by-early-requires-clause-credited c =
    let n = at (goal.at.early_by-early-requires-clause-credited c).After-unwrap-link in
    is_credited c.args.table.now.ports c.link_at.result c.unwrap-link.result _ c.requires.agree.0 c.args.row.now.stamp _ c.link_at.ensures.limits c.unwrap-link.ensures n.at
    (c.requires.agree.1.each c.args.place c.unwrap-link.result.now c.index-accounts-place.result n.within)

pub police-requires-clause-in_order : goal.police-requires-clause-in_order
police-requires-clause-in_order c a =
    let n = at (goal.at.police-requires-clause-in_order c).After-unwrap-link in
    (c.requires.agree.1.each c.args.place c.unwrap-link.result.now a n.within).since

pub returns-then-police-clause-passed : goal.returns-then-police-clause-passed
returns-then-police-clause-passed c = λ before agree.
    let p = goal.at.returns-then-police-clause-passed c in
    let n = at p.After-unwrap-link in
    record { names = n.names; is_passed = sym (answers p.After-police before agree n).0 ∙ c.if-police.true }

pub returns-then-police-clause-agree : goal.returns-then-police-clause-agree
returns-then-police-clause-agree c = λ before agree.
    let p = goal.at.returns-then-police-clause-agree c in
    (answers p.After-police before agree (at p.After-unwrap-link)).1

pub returns-else-police-clause-policed : goal.returns-else-police-clause-policed
returns-else-police-clause-policed c = λ before agree.
    let l = c.unwrap-link.result.now in
    let p = goal.at.returns-else-police-clause-policed c in
    let n = at p.After-unwrap-link in
    record {
      link = l;
      names = n.names;
      is_policed = sym (answers p.After-police before agree n).0 ∙ c.if-police.false;
      is_early = comes_early _ l _ before c.args.row.now.stamp c.args.row.now c.early_by-early.result (agree.each c.args.place l c.index-accounts-place.result n.within) n.at
          c.early_by-early.ensures.by_windows;
    }

pub returns-else-police-clause-agree : goal.returns-else-police-clause-agree
returns-else-police-clause-agree c = λ before agree.
    let p = goal.at.returns-else-police-clause-agree c in
    (answers p.After-police before agree (at p.After-unwrap-link)).1

pub returns-then-police-clause-limits : goal.returns-then-police-clause-limits
returns-then-police-clause-limits c =
    subst (λ (r : Option (Bor Link)). IfSome r (λ (x : Bor Link). IsLink c.args.table.now.ports x.now)) c.unwrap-link.ensures c.link_at.ensures.limits

pub returns-then-police-clause-well_formed : goal.returns-then-police-clause-well_formed
returns-then-police-clause-well_formed c = c.link_at.ensures.well_formed

pub returns-else-police-clause-well_formed : goal.returns-else-police-clause-well_formed
returns-else-police-clause-well_formed c = c.link_at.ensures.well_formed
