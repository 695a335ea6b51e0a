use Rattle.std.proofs.Common.{arith}
use Rattle.afdx_port.proofs.Course.{waits_from}
use Rattle.afdx_port.proofs.line.Line.go_on_to.Goals as goal

pub returns-clause-sound : goal.returns-clause-sound
returns-clause-sound g c =
    let s = c.requires.sound in
    let q = c.args.self.now.waiting in
    record {
      delay = s.delay;
      latency = s.latency;
      buffer = s.buffer;
      queued = s.queued;
      small = s.small;
      bytes = s.bytes;
      start = λ some. omega (arith, s.start some, c.reach.ensures, waits_from c.reach.result c.args.self.now.ready q.high.items q.low.items (omega (arith, some)) (rw c.reach.ensures c.requires.none_due));
      sent_tally = s.sent_tally;
      aged_tally = s.aged_tally;
      on_line_is = s.on_line_is;
    }
