use Rattle.std.proofs.Common.{◌≡◌, ◌-◌, length}
use Rattle.afdx_pcap.specs.Reading.{whole_reading}
use Rattle.afdx_pcap.proofs.whole.record_count.Given as goal

abbrev pub invariant-loop-reader : goal.invariant-loop-reader
invariant-loop-reader g l = l.reader ≡ whole_reading l.bytes l.count

abbrev pub decreases-loop-reader : goal.decreases-loop-reader
decreases-loop-reader g l = length l.reader.bytes - l.reader.given
