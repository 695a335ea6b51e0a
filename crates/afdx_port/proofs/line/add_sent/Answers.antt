use Rattle.std.proofs.Common.{not, ap, sym, ◌∙◌, arith}
use Rattle.afdx_past.specs.Seen.{Seen}
use Rattle.afdx_units.specs.Line.{is_high}
use Rattle.afdx_port.specs.declared.Sent.{Sent}
use Rattle.afdx_port.specs.declared.Tally.{Tally}
use Rattle.afdx_port.specs.Inner.Tally.{one_more}
use Rattle.afdx_port.proofs.Tallied.{below, sent_more}
use Rattle.afdx_port.proofs.line.add_sent.Goals as goal

pub note-requires-clause-high : goal.note-requires-clause-high
note-requires-clause-high g c =
    let lt = below (λ (x : Sent). is_high x.item.priority) c.args.list.now.items _ c.args.sent _ (ap (λ (h : Seen Sent). h.items) c.push.ensures) c.len-all.ensures.count in
    omega (arith, lt, ap (λ (t : Tally). t.high) c.requires.tally)

pub note-requires-clause-low : goal.note-requires-clause-low
note-requires-clause-low g c =
    let lt = below (λ (x : Sent). not (is_high x.item.priority)) c.args.list.now.items _ c.args.sent _ (ap (λ (h : Seen Sent). h.items) c.push.ensures) c.len-all.ensures.count in
    omega (arith, lt, ap (λ (t : Tally). t.low) c.requires.tally)

pub returns-clause-tally : goal.returns-clause-tally
returns-clause-tally g c = c.note.ensures ∙ ap (one_more c.args.sent.item.priority) c.requires.tally ∙ sym (sent_more c.args.list.now.items c.args.sent)
