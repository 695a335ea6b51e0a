-- What is read of a text that was written.
use Rattle.std.specs.Prelude.{◌≡◌, List, length, All}
use Rattle.afdx_units.specs.Time.{IsInstant}
use Rattle.afdx_pcap.specs.Record.{Record, IsWithinLimit}
use Rattle.afdx_pcap.specs.Capture.{IsCapture}
use Rattle.afdx_pcap.specs.Text.{capture_text}

-- if a written text is a capture, it is one of the records that were written: nothing is asked of their order, nor of the last
-- second, since a text in which stamps fall or lie in the last second is no capture
abbrev pub WrittenTextsReadBack : Type 0
WrittenTextsReadBack = (rs qs : List Record) → All IsWithinLimit rs → All (λ r. IsInstant r.stamp) rs → All (λ r. r.original ≡ length r.bytes) rs
    → IsCapture (capture_text rs) qs → qs ≡ rs
