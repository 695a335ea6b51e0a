use Rattle.std.proofs.Common.{◌≡◌, ◌==◌, ◌∷◌, [], All, List, length, slice_get, position, refl, sym, ap, ◌∙◌, arith, subst}
use Rattle.std.proofs.lemmas.List.{get_or-replicate, length-append}
use Rattle.std.proofs.lemmas.Option.{get_or_from_slice_get}
use Rattle.afdx_table.specs.declared.rows.PortRow.{PortRow}
use Rattle.afdx_table.specs.WellFormed.{IsPort}
use Rattle.afdx_core.proofs.Lists.{All-from}
use Rattle.afdx_trace.specs.Shown.{shown_of}
use Rattle.afdx_trace.specs.Arrivals.{arrivals_heading}
use Rattle.afdx_trace.proofs.Begun.{AreFresh, none_fresh, fresh_at, next_fresh, all_fresh, no_lines, first_line, fresh_gone}
use Rattle.afdx_trace.proofs.tracing.Tracing.new.Goals as goal

pub new-requires-clause-latency : goal.new-requires-clause-latency
new-requires-clause-latency g c = omega (arith, c.latency.ensures.latency, c.latency.ensures.well_formed.latency_most)

pub new-requires-clause-port : goal.new-requires-clause-port
new-requires-clause-port g c =
    let all = All-from IsPort c.args.table.ports c.ports-row-items.ensures.well_formed.ports in
    subst (All IsPort) (sym c.ports-row-items.ensures.ports) all c.loop-row.row-index _ (omega (arith, c.loop-row-test.true))

pub loop-row-preserved : goal.loop-row-preserved
loop-row-preserved g c =
    let rows = c.ports-row-items.result.now in
    let i = c.loop-row.row-index in
    let old = c.loop-row.ports.items in
    let many = c.loop-row.invariant.many in
    record {
      rows = c.ports-row-items.ensures.ports;
      many = (let grown = ap length c.in_ok-push.ensures.items in let one = length-append old (c.new.result ∷ []) in omega (arith, grown, one, many));
      fresh = next_fresh c.args.table.latency rows old _ c.new.result c.in_ok-push.ensures.items
          (λ p here. fresh_at c.args.table.latency _ p _ c.new.result c.latency.ensures.latency
          (get_or_from_slice_get rows i p _ (ap (slice_get rows) (sym many) ∙ here)) c.new.ensures)
          c.loop-row.invariant.fresh;
    }

pub loop-row-init : goal.loop-row-init
loop-row-init g c = record {
  rows = c.ports-row-items.ensures.ports;
  many = ap length c.new-ports.ensures.items;
  fresh = none_fresh c.args.table.latency c.ports-row-items.result.now c.new-ports.result.items c.new-ports.ensures.items;
}

pub places_of-places-requires : goal.places_of-places-requires
places_of-places-requires g c = subst (All IsPort) (sym c.ports.ensures.ports) (All-from IsPort c.args.table.ports c.ports.ensures.well_formed.ports)

pub returns-clause-tells : goal.returns-clause-tells
returns-clause-tells g c =
    let t = c.args.table in
    let is = c.loop-row.invariant in
    let ports = c.loop-row.ports.items in
    let shown = shown_of c.args.selection.now [] in
    let all : length ports ≡ length t.ports = (let rows = ap length is.rows in let many = is.many in omega (arith, rows, many, c.loop-row-test.false, c.loop-row.auto.row-index-end)) in
    record {
      table = refl;
      selected = refl;
      shown = c.of.ensures;
      still_open = refl;
      accounts = c.in_ok-accounts.ensures;
      records = λ port lt. get_or-replicate 256 port 0 0 lt;
      count = refl;
      rows = (cc);
      places = λ port. c.places_of-places.ensures port ∙ ap (λ (rows : List PortRow). position (λ (p : PortRow). p.id == port) rows) c.ports.ensures.ports;
      ports = all_fresh shown t ports c.ports.ensures.well_formed.latency_most all (subst (λ (rows : List PortRow). AreFresh t.latency rows ports) is.rows is.fresh);
      lines = no_lines shown t _ (first_line c.new-lines.result.gone.items _ _ arrivals_heading c.new-lines.ensures.whole c.in_ok-push_str.ensures.bytes);
    }

pub returns-clause-fresh : goal.returns-clause-fresh
returns-clause-fresh g c =
    let t = c.args.table in
    let is = c.loop-row.invariant in
    let ports = c.loop-row.ports.items in
    let all : length ports ≡ length t.ports = (let rows = ap length is.rows in let many = is.many in omega (arith, rows, many, c.loop-row-test.false, c.loop-row.auto.row-index-end)) in
    record { arrivals = c.new-lines.ensures.gone; ports = fresh_gone t.latency t.ports ports all (subst (λ (rows : List PortRow). AreFresh t.latency rows ports) is.rows is.fresh) }
