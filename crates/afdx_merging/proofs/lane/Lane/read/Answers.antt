use Rattle.std.proofs.Common.{sym, ap, ◌∙◌}
use Rattle.afdx_pcap.specs.Reading.{Reading}
use Rattle.afdx_merging.proofs.Reading.{unless_err, reads_on}
use Rattle.afdx_merging.proofs.lane.Lane.read.Goals as goal

pub returns-else-is_err-clause-ok : goal.returns-else-is_err-clause-ok
returns-else-is_err-clause-ok g c = λ first given read.
    let old = c.args.self.now in
    let fed = unless_err c.feed.result _ (sym c.is_err.ensures.value ∙ c.if-is_err.false) c.feed.ensures.ok in
    reads_on c.taken_records_are_the_first.ensures.stays g.R.Read.remaining first c.args.reader.now c.read.new.self old
    (record { clock = old.clock; reader = c.feed.new.self; head = old.head; count = old.count }) given _ c.requires.still_open c.in-Ok.ensures.bytes.0
    (ap (λ (x : Reading). record { clock = old.clock; reader = x; head = old.head; count = old.count }) fed) read
