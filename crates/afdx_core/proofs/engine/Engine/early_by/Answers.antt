use Rattle.std.proofs.Common.{◌<◌, length, get_or, arith}
use Rattle.afdx_core.specs.Inner.Engine.{run_of}
use Rattle.afdx_core.proofs.Calls.{some_of}
use Rattle.afdx_core.proofs.Early.{has_account, may_be_asked, says, nothing_early}
use Rattle.afdx_core.proofs.engine.Engine.early_by.Goals as goal

pub early_at-requires : goal.early_at-requires
early_at-requires g c =
    let e = c.args.self.now in
    let lt : c.args.place < length e.table.links = omega arith in
    let d = some_of e.table.links c.args.place lt in
    let has = has_account (run_of e) e.accounts.items c.args.place d c.link_count.ensures.well_formed c.requires.kept.accounts lt in
    let asked = may_be_asked (run_of e) e.accounts.items c.deref.result.now c.args.place c.args.at (get_or e.table.links c.args.place d) has c.requires.in_order c.deref.ensures.value in
    record { place = asked.within; in_order = asked.in_order; credited = asked.credited }

pub returns-then-place-link_count : goal.returns-then-place-link_count
returns-then-place-link_count g c =
    let e = c.args.self.now in
    let lt : c.args.place < length e.table.links = omega arith in
    let d = some_of e.table.links c.args.place lt in
    let has = has_account (run_of e) e.accounts.items c.args.place d c.link_count.ensures.well_formed c.requires.kept.accounts lt in
    says (run_of e) e.accounts.items c.deref.result.now c.args.place (get_or e.table.links c.args.place d) c.args.at c.args.size c.early_at.result has c.deref.ensures.value c.early_at.ensures

pub returns-else-place-link_count : goal.returns-else-place-link_count
returns-else-place-link_count g c =
    let e = c.args.self.now in
    nothing_early (run_of e) c.args.place c.args.at c.args.size (omega arith)
