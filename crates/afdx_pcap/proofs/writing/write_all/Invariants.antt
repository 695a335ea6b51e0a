use Rattle.std.proofs.Common.{◌≡◌, ◌++◌, take}
use Rattle.std.specs.List.{flat_map, All}
use Rattle.afdx_pcap.specs.Record.{IsWithinLimit}
use Rattle.afdx_pcap.specs.Text.{header_text, record_text}
use Rattle.afdx_pcap.proofs.writing.write_all.Given as goal

abbrev pub invariant-loop-record : goal.invariant-loop-record
invariant-loop-record g l = record {
  text : l.out.items ≡ header_text ++ flat_map record_text (take l.record-index l.records);
  limits : All IsWithinLimit (take l.record-index l.records);
}
