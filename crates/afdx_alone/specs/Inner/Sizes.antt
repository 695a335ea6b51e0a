-- How many bytes wait for the rest of a record, and how many there is room for.
use Rattle.std.specs.Prelude.{ℕ, ◌+◌}
use Rattle.afdx_pcap.specs.Record.{captured_limit}

-- pcap 2.4: a record's header; profile: and what it holds at most
abbrev pub longest_record : ℕ
longest_record = 16 + captured_limit

-- profile: beside the longest record a read of 65,536 bytes
abbrev pub window_size : ℕ
window_size = longest_record + 65536
