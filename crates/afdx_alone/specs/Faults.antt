-- Why there is no answer to an input.
use Rattle.std.specs.Prelude.{ℕ, List, Option, ⊤}
use Rattle.afdx_folder.specs.Input.{AreGiven}
use Rattle.afdx_pcap.specs.declared.fault.PcapFault.{PcapFault}
use Rattle.afdx_pcap.specs.declared.fault.PcapFault.TheVariants as pcap
use Rattle.afdx_pcap.specs.Fault.{IsFault}
use Rattle.afdx_alone.specs.declared.fault.AloneFault.{AloneFault}
use Rattle.afdx_alone.specs.declared.fault.AloneFault.TheVariants.{Memory, Capture}
use Rattle.afdx_alone.specs.declared.fault.ReadFault.{ReadFault}
use Rattle.afdx_alone.specs.declared.fault.ReadFault.TheVariants.{Device, Alone}

-- the fault that a capture's fault is reported as
abbrev pub fault_of : PcapFault → AloneFault
fault_of pcap.Memory = Memory
fault_of fault = Capture fault

-- the first thing that is wrong with the input; or memory ran out
abbrev pub IsFaultOf : List ℕ → AloneFault → Type 0
IsFaultOf input Memory = ⊤
IsFaultOf input (Capture fault) = IsFault input fault

-- the first thing that is wrong with what a reader gives; or memory ran out, or the reader failed
abbrev pub IsReadFault : Option (List ℕ) → ReadFault → Type 0
IsReadFault input Device = ⊤
IsReadFault input (Alone Memory) = ⊤
IsReadFault input (Alone (Capture fault)) = (bytes : List ℕ) × AreGiven input bytes × IsFault bytes fault
