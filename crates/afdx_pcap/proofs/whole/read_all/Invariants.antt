use Rattle.std.proofs.Common.{◌≡◌, ◌-◌, ◌≤◌, length, List}
use Rattle.std.specs.Prelude.{vec_capacity}
use Rattle.afdx_pcap.specs.Capture.{IsCapture}
use Rattle.afdx_pcap.specs.Record.{Record}
use Rattle.afdx_pcap.specs.Reading.{HasTaken, as_taking, whole_reading}
use Rattle.afdx_pcap.proofs.whole.read_all.Given as goal

abbrev pub invariant-loop-reader : goal.invariant-loop-reader
invariant-loop-reader g l = record {
  reader : l.reader ≡ whole_reading l.bytes (length l.all.items);
  taken : HasTaken (as_taking (whole_reading l.bytes (length l.all.items))) l.all.items;
  room : (rs : List Record) × IsCapture l.bytes rs × (length rs ≤ vec_capacity l.all);
}

abbrev pub decreases-loop-reader : goal.decreases-loop-reader
decreases-loop-reader g l = length l.reader.bytes - l.reader.given
