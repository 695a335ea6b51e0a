use Rattle.std.proofs.Common.{◌≡◌, ℕ, List, [], ◌∷◌, length, get_or, slice_get, Some, sym, ◌∙◌, ap, subst, arith}
use Rattle.std.proofs.lemmas.List.{length-append}
use Rattle.std.proofs.lemmas.Option.{get_or_from_slice_get}
use Rattle.afdx_table.specs.Content.{Content}
use Rattle.afdx_origins.specs.declared.at_switch.AtSwitch.{AtSwitch}
use Rattle.afdx_origins.specs.Inner.Known.{IsFreshSwitch}
use Rattle.afdx_measure.proofs.Fresh.{each_pushed}
use Rattle.afdx_origins.proofs.Starting.{known_fresh}
use Rattle.afdx_origins.proofs.origins.nothing_known.Goals as goal

pub loop-table-preserved : goal.loop-table-preserved
loop-table-preserved c =
    let at = c.loop-table in
    let tables = c.args.network.now.tables in
    let own = c.in_ok-new.field-0 in
    let table = c.table-item.result in
    let grown = c.in_ok-push.ensures.items in
    let count = ap (λ (xs : List AtSwitch). length xs) grown in
    let long = length-append at.switches.items (own ∷ []) in
    let many = at.invariant.many in
    let read = c.table-item.is ∙ ap (λ (ts : List Content). get_or ts at.table-index table) c.tables-table-items.ensures.tables ∙ ap (λ n. get_or tables n table) (sym many) in
    record {
      tables = at.invariant.tables;
      many = omega (arith, count, long, many);
      each = each_pushed (λ (k : ℕ) (s : AtSwitch). (t : Content) → slice_get tables k ≡ Some t → IsFreshSwitch t s) at.switches.items c.push.new.self.items own grown at.invariant.each
          (λ t there. subst (λ (u : Content). IsFreshSwitch u own) (read ∙ get_or_from_slice_get tables (length at.switches.items) t table there) c.in_ok-new.ensures);
    }

pub returns : goal.returns
returns c =
    let at = c.loop-table in
    let past = c.loop-table-test.false in
    let end = at.auto.table-index-end in
    let count = at.invariant.many in
    let same = ap (λ (ts : List Content). length ts) at.invariant.tables in
    known_fresh c.args.network.now at.switches.items (omega (arith, past, end, count, same)) at.invariant.each
