use Rattle.std.proofs.Common.{◌≡◌, length, min, take}
use Rattle.afdx_pcap.specs.Text.{capture_text}
use Rattle.afdx_pcap.proofs.writing.text_length.Given as goal

abbrev pub invariant-loop-record : goal.invariant-loop-record
invariant-loop-record g l = l.total ≡ min (length (capture_text (take l.record-index l.records))) (18446744073709551615)
