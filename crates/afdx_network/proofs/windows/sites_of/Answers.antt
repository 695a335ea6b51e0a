use Rattle.std.proofs.Common.{◌≡◌, ◌+◌, ◌++◌, ◌∷◌, [], ℕ, List, take, get_or, sym, ◌∙◌, subst}
use Rattle.std.specs.List.{AllZip}
use Rattle.std.proofs.lemmas.List.{take_more, take_all}
use Rattle.std.proofs.lemmas.List.Elements.{All-from_recursion}
use Rattle.afdx_table.specs.Content.{Content}
use Rattle.afdx_measure.specs.Wanted.{keeps_lists}
use Rattle.afdx_network.specs.Inner.Sites.{gone_of}
use Rattle.afdx_network.specs.Inner.Noted.{NoneHasLeft}
use Rattle.afdx_network.proofs.Beginning.{IsNew, all_begin, all_early, none_gone_yet, none_left_yet, as_many_files}
use Rattle.afdx_network.proofs.Choosing.{zip_more}
use Rattle.afdx_network.proofs.SoFar.{none_so_far}
use Rattle.afdx_network.proofs.windows.sites_of.Goals as goal

pub loop-table-preserved : goal.loop-table-preserved
loop-table-preserved c =
    let at = c.loop-table in
    let n = at.table-index in
    let items = c.tables-table-items.result.now in
    let d = c.table-item.result in
    let s = c.in_ok-new.field-0 in
    record {
      tables = at.invariant.tables;
      new = subst (AllZip (IsNew (keeps_lists c.args.wanted)) (take (n + 1) items)) (sym c.in_ok-push.ensures.items)
          (subst (λ (ts : List Content). AllZip (IsNew (keeps_lists c.args.wanted)) ts (at.sites.items ++ s ∷ [])) (sym (take_more items n d c.loop-table-test.true))
          (zip_more (IsNew (keeps_lists c.args.wanted)) (take n items) at.sites.items (get_or items n d) s at.invariant.new
          (subst (λ (t : Content). IsNew (keeps_lists c.args.wanted) t s) c.table-item.is (record { fresh = c.in_ok-new.ensures.fresh; formed = c.in_ok-new.ensures.well_formed }))));
    }

pub returns-clause-ok : goal.returns-clause-ok
returns-clause-ok c =
    let at = c.loop-table in
    let items = c.tables-table-items.result.now in
    let net = c.args.network.now in
    let new = subst (λ (ts : List Content). AllZip (IsNew (keeps_lists c.args.wanted)) ts at.sites.items)
    (take_all at.table-index items c.loop-table-test.false ∙ at.invariant.tables) at.invariant.new in
    let so_far = none_so_far c.what_is_written_is_a_capture.ensures net in
    (so_far.0, so_far.1, all_begin (keeps_lists c.args.wanted) net at.sites.items new so_far.0 c.tables-table-items.ensures.ports c.requires.one_each so_far.1)

pub returns-clause-early : goal.returns-clause-early
returns-clause-early c = λ place.
    let at = c.loop-table in
    let items = c.tables-table-items.result.now in
    let new = subst (λ (ts : List Content). AllZip (IsNew (keeps_lists c.args.wanted)) ts at.sites.items)
    (take_all at.table-index items c.loop-table-test.false ∙ at.invariant.tables) at.invariant.new in
    all_early (keeps_lists c.args.wanted) c.args.network.now at.sites.items new place

pub returns-clause-gone : goal.returns-clause-gone
returns-clause-gone c =
    let at = c.loop-table in
    let items = c.tables-table-items.result.now in
    let new = subst (λ (ts : List Content). AllZip (IsNew (keeps_lists c.args.wanted)) ts at.sites.items)
    (take_all at.table-index items c.loop-table-test.false ∙ at.invariant.tables) at.invariant.new in
    All-from_recursion (λ (bytes : List ℕ). bytes ≡ []) (gone_of at.sites.items) (none_gone_yet (keeps_lists c.args.wanted) c.args.network.now.tables at.sites.items new)

pub returns-clause-ports : goal.returns-clause-ports
returns-clause-ports c =
    let at = c.loop-table in
    let items = c.tables-table-items.result.now in
    let new = subst (λ (ts : List Content). AllZip (IsNew (keeps_lists c.args.wanted)) ts at.sites.items)
    (take_all at.table-index items c.loop-table-test.false ∙ at.invariant.tables) at.invariant.new in
    as_many_files (keeps_lists c.args.wanted) 0 c.args.network.now.tables at.sites.items new

pub returns-clause-none_left : goal.returns-clause-none_left
returns-clause-none_left c =
    let at = c.loop-table in
    let items = c.tables-table-items.result.now in
    let new = subst (λ (ts : List Content). AllZip (IsNew (keeps_lists c.args.wanted)) ts at.sites.items)
    (take_all at.table-index items c.loop-table-test.false ∙ at.invariant.tables) at.invariant.new in
    All-from_recursion (NoneHasLeft (keeps_lists c.args.wanted)) at.sites.items (none_left_yet (keeps_lists c.args.wanted) c.args.network.now.tables at.sites.items new)
