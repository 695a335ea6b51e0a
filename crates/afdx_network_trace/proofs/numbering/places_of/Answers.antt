use Rattle.std.proofs.Common.{◌≡◌, ◌<◌, ◌+◌, ℕ, List, ◌++◌, length, take, drop, get_or, refl, sym, ◌∙◌, ap, subst, arith}
use Rattle.std.specs.List.{count_by}
use Rattle.std.proofs.lemmas.List.{get_or-replicate, length-set}
use Rattle.afdx_core.specs.Rows.{each_after}
use Rattle.afdx_network_trace.specs.First.{places_of}
use Rattle.afdx_network_trace.proofs.Placing.{at_port, one_place, places_more, counts_more}
use Rattle.afdx_network_trace.proofs.numbering.places_of.Goals as goal

pub loop-row-init : goal.loop-row-init
loop-row-init c = record {
  places = ap (λ (xs : List ℕ). xs ++ places_of c.args.rows.now) (sym c.new-places.ensures.items);
  long = refl;
  counts = λ port lt. get_or-replicate 256 port 0 0 lt;
}

pub loop-row-preserved : goal.loop-row-preserved
loop-row-preserved c =
    let at = c.loop-row in
    let rows = c.args.rows.now in
    let i = at.row-index in
    let row = c.row-item.result in
    let here = c.from-port.result in
    let count = get_or at.counts here 0 in
    let lt : i < length rows = omega (arith, c.loop-row-test.true) in
    let is : get_or rows i row ≡ row = sym c.row-item.is in
    let port : row.in_port ≡ here = sym c.from-port.ensures in
    let small : here < 256 = omega arith in
    let counted = at.invariant.counts here small ∙ ap (λ n. count_by (at_port n) (take i rows)) (sym port) in
    record {
      places = places_more rows i row at.places.items count lt is counted at.invariant.places
          ∙ ap (λ (xs : List ℕ). xs ++ each_after one_place (take (i + 1) rows) (drop (i + 1) rows)) (sym c.in_ok-push.ensures.items);
      long = length-set _ _ _ ∙ at.invariant.long;
      counts = λ q small_too. counts_more rows i row here at.counts lt is port (subst (λ n. here < n) (sym at.invariant.long) small) at.invariant.counts q small_too;
    }
