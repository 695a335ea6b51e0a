-- The code of each failure, and what follows its line if failures are explained (profile).
use Rattle.std.specs.Prelude.{ℕ, Bool, true, false, codes, List, [], Option, Some, None, unwrap_or}
use Rattle.std.specs.Option.{option_and_then}
use Rattle.afdx_pcap.specs.declared.fault.PcapFault.{PcapFault}
use Rattle.afdx_pcap.specs.declared.fault.PcapFault.TheVariants as fault
use Rattle.afdx_table.specs.declared.fault.TableFault.{TableFault}
use Rattle.afdx_table.specs.declared.fault.TableFault.TheVariants as table
use Rattle.afdx_load.specs.declared.fault.Rule.{Rule}
use Rattle.afdx_load.specs.declared.fault.Rule.TheVariants.{Rate, Buffer, HighDelay, LowDelay}
use Rattle.afdx_wiring.specs.declared.fault.NetworkFault.{NetworkFault}
use Rattle.afdx_wiring.specs.declared.fault.NetworkFault.TheVariants as net
use Rattle.afdx_messages.specs.declared.argument.ArgumentFault.{ArgumentFault}
use Rattle.afdx_messages.specs.declared.argument.ArgumentFault.TheVariants as argument
use Rattle.afdx_messages.specs.declared.network_failure.JitterRule.TheVariants as jitter
use Rattle.afdx_messages.specs.declared.network_failure.NetworkFailure.{NetworkFailure}
use Rattle.afdx_messages.specs.declared.network_failure.NetworkFailure.TheVariants as network
use Rattle.afdx_messages.specs.declared.failure.Failure.{Failure}
use Rattle.afdx_messages.specs.declared.failure.Failure.TheVariants as failure
use Rattle.afdx_remedies.specs.Entries.{entry_of}

-- the code of an option that does not fit the table
abbrev pub argument_code : ArgumentFault → List ℕ
argument_code (argument.Latency least limit) = codes "A1"
argument_code (argument.Ports port) = codes "A2"
argument_code (argument.Offset port) = codes "A2"
argument_code (argument.LeftOut port) = codes "A3"
argument_code (argument.Span from until) = codes "A4"

-- the code of a table's refusal
abbrev pub table_code : TableFault → List ℕ
table_code table.Memory = codes "memory"
table_code table.Toml = codes "C2"
table_code (table.UnknownKey at) = codes "C3"
table_code (table.MissingKey at key) = codes "C4"
table_code (table.Kind at key) = codes "C5"
table_code (table.Range at key) = codes "C6"
table_code table.Constant = codes "C7"
table_code (table.TwicePort at) = codes "C8"
table_code (table.TwiceLink at) = codes "C9"
table_code (table.NoSuchPort at) = codes "C10"
table_code (table.ToEmpty at) = codes "C11"
table_code (table.ToTwice at) = codes "C12"
table_code (table.ToOwnPort at) = codes "C13"
table_code (table.TooMany key) = codes "C14"

-- the code of a capture's fault
abbrev pub capture_code : PcapFault → List ℕ
capture_code fault.Memory = codes "memory"
capture_code fault.NoHeader = codes "P2"
capture_code fault.Magic = codes "P3"
capture_code fault.Version = codes "P4"
capture_code (fault.LinkType number) = codes "P5"
capture_code (fault.CutHeader n) = codes "P6"
capture_code (fault.Huge n) = codes "P7"
capture_code (fault.Fraction n) = codes "P8"
capture_code (fault.Late n) = codes "P9"
capture_code (fault.Backwards n) = codes "P10"
capture_code (fault.CutData n) = codes "P11"

-- the code of the rule that a port's load breaks
abbrev pub rule_code : Rule → List ℕ
rule_code Rate = codes "L1"
rule_code Buffer = codes "L2"
rule_code HighDelay = codes "L3"
rule_code LowDelay = codes "L4"

-- the code of a network's refusal
abbrev pub fault_code : NetworkFault → List ℕ
fault_code net.Memory = codes "memory"
fault_code net.Toml = codes "G1"
fault_code (net.UnknownKey at) = codes "G2"
fault_code (net.MissingKey at key) = codes "G2"
fault_code (net.Kind at key) = codes "G2"
fault_code (net.Range at key) = codes "G2"
fault_code (net.TwiceSwitch at) = codes "G3"
fault_code (net.NoSuchSwitch at) = codes "G3"
fault_code (net.TwiceFrom at) = codes "G3"
fault_code (net.TwiceTo at) = codes "G3"
fault_code (net.OwnPort at) = codes "G3"
fault_code (net.NoSuchPort at) = codes "G3"
fault_code (net.Latency switch) = codes "G3"
fault_code (net.Load switch why) = rule_code why.rule
fault_code (net.Constant at) = codes "G4"
fault_code (net.Speed at) = codes "G4"
fault_code (net.NoRow at link) = codes "G5"
fault_code (net.From at link) = codes "G6"
fault_code (net.Size at link) = codes "G7"
fault_code (net.Bag at link) = codes "G7"
fault_code (net.Police at link) = codes "G7"
fault_code (net.NoSource switch link) = codes "G8"
fault_code (net.TwiceSource link) = codes "G9"
fault_code (net.Jitter short) = codes "J1"
fault_code (net.NoJitter short) = codes "J2"

-- the code of a failure of a network's command
abbrev pub network_code : NetworkFailure → List ℕ
network_code (network.Refused fault name) = fault_code fault
network_code (network.Table refusal name) = table_code refusal
network_code (network.Capture port fault name) = capture_code fault
network_code (network.Rows jitter.Jitter shorts names) = codes "J1"
network_code (network.Rows jitter.NoJitter shorts names) = codes "J2"
network_code (network.Line port number name) = codes "R2"

-- what has no line has no code
abbrev pub code_of : Failure → Option (List ℕ)
code_of failure.Found = None
code_of failure.Usage = Some (codes "usage")
code_of (failure.Argument f) = Some (argument_code f)
code_of (failure.Table refusal) = Some (table_code refusal)
code_of (failure.Load f) = Some (rule_code f.rule)
code_of (failure.Capture f) = Some (capture_code f)
code_of (failure.PortCapture port f) = Some (capture_code f)
code_of (failure.OutputCapture port f) = Some (capture_code f)
code_of (failure.Network f) = Some (network_code f)
code_of (failure.Get name) = Some (codes "get")
code_of (failure.Put name) = Some (codes "put")
code_of failure.Read = Some (codes "read")
code_of failure.Write = Some (codes "write")
code_of failure.Memory = Some (codes "memory")

-- the entry of the failure's code, if failures are explained
abbrev pub more_of : Failure → (is_explained : Bool) → List ℕ
more_of f false = []
more_of f true = unwrap_or (option_and_then entry_of (code_of f)) []
