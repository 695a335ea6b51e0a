-- What comes over a cable of a capture: it can be read where its frames come soon enough.
use Rattle.std.proofs.Common.{ℕ, ◌+◌, ◌≤◌, List, [], ◌∷◌, map, arith}
use Rattle.std.specs.Prelude.{All}
use Rattle.std.specs.List.{AllByRecursion}
use Rattle.afdx_pcap.specs.Record.{Record, IsWithinLimit}
use Rattle.afdx_pcap.specs.Text.{capture_text, AreReadable}
use Rattle.afdx_pcap.specs.Capture.{IsCapture}
use Rattle.afdx_network.specs.Way.{delayed}

pub all_later : (m cable : ℕ) (out : List Record) → AllByRecursion (λ (e : Record). e.stamp ≤ m) out → AllByRecursion (λ (q : Record). q.stamp ≤ m + cable) (map (delayed cable) out)
all_later m cable [] all = tt
all_later m cable (e ∷ out) all = let by = all.0 in (omega (arith, by), all_later m cable out all.1)

-- what is written of records that can be read is a capture of them
abbrev pub AreWritten : Type 0
AreWritten = (rs : List Record) → AreReadable 0 rs → All IsWithinLimit rs → IsCapture (capture_text rs) rs
