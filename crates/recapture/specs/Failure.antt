-- What a failure says of the input and the output.
use Rattle.std.specs.Prelude.{◌≢◌, ℕ, List, Option, IfSome, ⊤}
use Rattle.std.specs.Io.KnownBytes.{Keeps}
use Rattle.afdx_pcap.specs.declared.fault.PcapFault.TheVariants.{Memory}
use Rattle.afdx_pcap.specs.Fault.{IsFault}
use Rattle.recapture.specs.declared.Failure.{Failure}
use Rattle.recapture.specs.declared.Failure.TheVariants.{Capture, Device}

-- a capture that was refused has this fault, and nothing was written; of a failure of the device nothing is said
abbrev pub Explains : Option (List ℕ) → Option (List ℕ) → Option (List ℕ) → Failure → Type 0
Explains input old new (Capture fault) = Keeps old new × (fault ≢ Memory → IfSome input (λ xs. IsFault xs fault))
Explains input old new Device = ⊤
