use Rattle.std.proofs.Common.{List, [], ◌++◌, take, string_bytes, sym, ap, ◌∙◌, subst, arith}
use Rattle.afdx_core.specs.declared.step.Row.{Row}
use Rattle.afdx_core.specs.Rows.{each_after}
use Rattle.afdx_trace.specs.declared.shown.Shown.{Shown}
use Rattle.afdx_trace.specs.Shown.{shown_of}
use Rattle.afdx_trace.specs.Arrivals.{arrivals_heading, shown_line}
use Rattle.afdx_trace.specs.Inner.Tracing.{Traces}
use Rattle.afdx_trace.proofs.Fated.{traces_later, take_next, comes_next, reported_next, reported_all}
use Rattle.afdx_trace.proofs.arrival_lines.arrivals.Goals as goal

pub trace-requires-clause-traces : goal.trace-requires-clause-traces
trace-requires-clause-traces g c =
    let i = c.loop-number.invariant in
    let rows = c.rows-rows.result.now in
    let n = c.loop-number.number in
    let x = c.index-rows-number.result in
    traces_later c.args.done.now.run (take n rows) i.0 x.stamp c.loop-number.tracer
    (comes_next rows n x i.0 c.loop-number-test.true c.index-rows-number.is i.2).0 i.1

pub loop-number-preserved : goal.loop-number-preserved
loop-number-preserved g c =
    let i = c.loop-number.invariant in
    let r = c.args.done.now.run in
    let shown = c.of-shown.result in
    let rows = c.rows-rows.result.now in
    let n = c.loop-number.number in
    let x = c.index-rows-number.result in
    let lt = c.loop-number-test.true in
    let is = c.index-rows-number.is in (
      x.stamp,
      subst (λ (before : List Row). Traces r before x.stamp c.trace.new.self) (sym (take_next rows n x lt is)) c.in_ok-trace.ensures.traces,
      (comes_next rows n x i.0 lt is i.2).1,
      reported_next (shown_line shown r) rows n x (arrivals_heading ++ each_after (shown_line shown r) [] rows) (string_bytes c.loop-number.text)
          (string_bytes c.trace.new.text) lt is i.3 c.in_ok-trace.ensures.text,
    )

pub returns : goal.returns
returns g c =
    let r = c.args.done.now.run in
    let shown = c.of-shown.result in
    let rows = c.rows-rows.result.now in
    let rows_are = c.rows-rows.ensures.rows in
    reported_all (shown_line shown r) rows c.loop-number.number (arrivals_heading ++ each_after (shown_line shown r) [] rows) (string_bytes c.loop-number.text)
    (omega (arith, c.loop-number-test.false)) c.loop-number.invariant.3
    ∙ ap (λ (all : List Row). arrivals_heading ++ each_after (shown_line shown r) [] all) rows_are
    ∙ ap (λ (s : Shown). arrivals_heading ++ each_after (shown_line s r) [] r.rows) (c.of-shown.ensures ∙ ap (shown_of c.args.selection.now) rows_are)
