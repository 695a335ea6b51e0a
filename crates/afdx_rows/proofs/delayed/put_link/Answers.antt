use Rattle.std.proofs.Common.{◌≡◌, ◌++◌, get_or, string_bytes, ap, ◌∙◌}
use Rattle.std.proofs.lemmas.Option.{slice_get-get_or}
use Rattle.afdx_table.specs.Link.{Link}
use Rattle.afdx_table.specs.Content.{Content}
use Rattle.afdx_measure.specs.Report.{bound_at}
use Rattle.afdx_rows.specs.Delays.{delays_row, row_at}
use Rattle.afdx_rows.proofs.Columns.{names_in}
use Rattle.afdx_rows.proofs.Gathering.{one_more}
use Rattle.afdx_rows.proofs.delayed.put_link.Goals as goal

pub loop-port-preserved : goal.loop-port-preserved
loop-port-preserved g c =
    let r = c.args.measures.now.run in
    let l = c.args.link.now in
    let columns = names_in c.args.columns.now in
    let ports = c.as_slice-port-items.result.now in
    let port = get_or ports c.loop-port.port-index 0 in
    let id = ap (λ (x : Link). x.id) c.link.view_is in
    let delays = c.delays_at-delays.ensures.there l c.requires.place in
    let bound = c.bound_at-bound.ensures ∙ ap (λ (t : Content). bound_at c.args.promised t port c.link.inside.priority) c.requires.loads
    ∙ ap (λ (x : Link). bound_at c.args.promised r.table port x.priority) c.link.view_is in
    let grown : string_bytes c.put_delays.new.text ≡ string_bytes c.loop-port.text ++ row_at columns c.args.promised r l port
    = c.in_ok-put_delays.ensures ∙ (λ i. string_bytes c.loop-port.text ++ delays_row columns (id i) port (delays i) (bound i)) in (
      c.loop-port.invariant.0,
      one_more (row_at columns c.args.promised r l) ports c.loop-port.port-index port (string_bytes c.args.text.now) (string_bytes c.loop-port.text) (string_bytes c.put_delays.new.text)
          (slice_get-get_or ports c.loop-port.port-index 0 c.loop-port-test.true) grown c.loop-port.invariant.1,
    )
