use Rattle.std.proofs.Common.{rules, arith, sym, ◌∙◌, string_bytes}
use Rattle.afdx_trace.proofs.Departing.{left_aged, left_sent, all_reported}
use Rattle.afdx_trace.proofs.departure_lines.put_events.Goals as goal

pub loop-sent-preserved-then-ages_next : goal.loop-sent-preserved-then-ages_next
loop-sent-preserved-then-ages_next g c = record {
  counted = c.loop-sent.invariant.counted;
  lines = left_aged c.args.shown.now c.args.port c.args.settings.now c.args.sent.now c.loop-sent.sent.now c.args.aged.now c.loop-sent.aged.now c.split.result.0.now c.split.result.1.now
      c.loop-sent.number
      (string_bytes c.args.text.now) (string_bytes c.loop-sent.text) (string_bytes c.put_aged.new.text)
      (sym c.ages_next.ensures ∙ c.if-ages_next.true) c.split.ensures.parts c.in_ok-put_aged.ensures c.loop-sent.invariant.lines;
}

pub loop-sent-preserved : goal.loop-sent-preserved
loop-sent-preserved g c = record {
  counted = omega (arith, c.loop-sent.invariant.counted, c.split-else-ages_next.ensures.len);
  lines = left_sent c.args.shown.now c.args.port c.args.settings.now c.args.sent.now c.loop-sent.sent.now c.split-else-ages_next.result.0.now c.split-else-ages_next.result.1.now c.args.aged.now
      c.loop-sent.aged.now
      c.loop-sent.number (string_bytes c.args.text.now) (string_bytes c.loop-sent.text) (string_bytes c.put_sent.new.text)
      (sym c.ages_next.ensures ∙ c.if-ages_next.false) c.split-else-ages_next.ensures.parts c.in_ok-put_sent.ensures c.loop-sent.invariant.lines;
}

pub returns : goal.returns
returns g c =
    all_reported c.args.shown.now c.args.port c.args.settings.now c.args.sent.now c.loop-sent.sent.now c.args.aged.now c.loop-sent.aged.now c.loop-sent.number
    (string_bytes c.args.text.now) (string_bytes c.loop-sent.text)
    (search rules) (search rules) c.loop-sent.invariant.lines
