-- The lines of faults, and the status of a network's (profile).
use Rattle.std.specs.Prelude.{ℕ, zero, suc, codes, List, [], ◌++◌, ◌-◌, map, flat_map, take, length, slice_get, Option, Some, None, option_map, string_bytes}
use Rattle.std.specs.Fmt.{decimal}
use Rattle.afdx_pcap.specs.declared.fault.PcapFault.{PcapFault}
use Rattle.afdx_pcap.specs.declared.fault.PcapFault.TheVariants as fault
use Rattle.afdx_table.specs.Names.{key_text, place_text}
use Rattle.afdx_table.specs.declared.fault.TableFault.{TableFault}
use Rattle.afdx_table.specs.declared.fault.TableFault.TheVariants as table
use Rattle.afdx_load.specs.declared.fault.Rule.{Rule}
use Rattle.afdx_load.specs.declared.fault.Rule.TheVariants.{Rate, Buffer, HighDelay, LowDelay}
use Rattle.afdx_load.specs.declared.fault.LoadFault.{LoadFault}
use Rattle.afdx_wiring.specs.declared.fault.NetworkFault.{NetworkFault}
use Rattle.afdx_wiring.specs.declared.fault.NetworkFault.TheVariants as net
use Rattle.afdx_wiring.specs.declared.fault.Short.{Short}
use Rattle.afdx_wiring.specs.Lines.{as_line}
use Rattle.afdx_wiring.specs.Names.{key_text as wiring_key_text, place_text as wiring_place_text}
use Rattle.afdx_messages.specs.declared.argument.ArgumentFault.{ArgumentFault}
use Rattle.afdx_messages.specs.declared.argument.ArgumentFault.TheVariants as argument
use Rattle.afdx_messages.specs.declared.network_failure.JitterRule.{JitterRule}
use Rattle.afdx_messages.specs.declared.network_failure.JitterRule.TheVariants as jitter
use Rattle.afdx_messages.specs.declared.network_failure.NetworkFailure.{NetworkFailure}
use Rattle.afdx_messages.specs.declared.network_failure.NetworkFailure.TheVariants as network

-- what is reported where memory ran out
abbrev pub memory_text : List ℕ
memory_text = codes "afdx: memory"

-- ---- of an option that does not fit the table

-- the refusal, and the option with its value: of a latency the microseconds, beside the most that it may have; of a span both instants, in
-- nanoseconds; else the port
abbrev pub argument_text : ArgumentFault → List ℕ
argument_text (argument.Latency least limit) = codes "afdx: argument A1 Latency, --least-latency " ++ decimal least ++ codes ", limit " ++ decimal limit
argument_text (argument.Ports port) = codes "afdx: argument A2 NoSuchPort, --ports " ++ decimal port
argument_text (argument.Offset port) = codes "afdx: argument A2 NoSuchPort, --offset " ++ decimal port
argument_text (argument.LeftOut port) = codes "afdx: argument A3 LeftOut, --offset " ++ decimal port
argument_text (argument.Span from until) = codes "afdx: argument A4 Span, --from " ++ decimal from ++ codes ", --until " ++ decimal until

-- the line of an option that does not fit the table
abbrev pub argument_line : ArgumentFault → List ℕ
argument_line f = as_line (argument_text f)

-- ---- of a table

-- what is reported of the table: the refusal, its place and its key
abbrev pub refusal_text : TableFault → List ℕ
refusal_text table.Memory = codes "C1 Memory"
refusal_text table.Toml = codes "C2 Toml"
refusal_text (table.UnknownKey at) = codes "C3 UnknownKey, " ++ place_text at
refusal_text (table.MissingKey at key) = codes "C4 MissingKey, " ++ place_text at ++ codes ", " ++ key_text key
refusal_text (table.Kind at key) = codes "C5 Kind, " ++ place_text at ++ codes ", " ++ key_text key
refusal_text (table.Range at key) = codes "C6 Range, " ++ place_text at ++ codes ", " ++ key_text key
refusal_text table.Constant = codes "C7 Constant"
refusal_text (table.TwicePort at) = codes "C8 TwicePort, " ++ place_text at
refusal_text (table.TwiceLink at) = codes "C9 TwiceLink, " ++ place_text at
refusal_text (table.NoSuchPort at) = codes "C10 NoSuchPort, " ++ place_text at
refusal_text (table.ToEmpty at) = codes "C11 ToEmpty, " ++ place_text at
refusal_text (table.ToTwice at) = codes "C12 ToTwice, " ++ place_text at
refusal_text (table.ToOwnPort at) = codes "C13 ToOwnPort, " ++ place_text at
refusal_text (table.TooMany key) = codes "C14 TooMany, " ++ key_text key

-- the refusal of a table, after what it is of
abbrev pub table_text : TableFault → List ℕ
table_text refusal = codes "afdx: table " ++ refusal_text refusal

-- the line of a table's refusal
abbrev pub table_line : TableFault → List ℕ
table_line refusal = as_line (table_text refusal)

-- ---- of a capture

-- the code and the name of a capture's fault
abbrev pub fault_text : PcapFault → List ℕ
fault_text fault.Memory = codes "P1 Memory"
fault_text fault.NoHeader = codes "P2 NoHeader"
fault_text fault.Magic = codes "P3 Magic"
fault_text fault.Version = codes "P4 Version"
fault_text (fault.LinkType number) = codes "P5 LinkType " ++ decimal number
fault_text (fault.CutHeader n) = codes "P6 CutHeader"
fault_text (fault.Huge n) = codes "P7 Huge"
fault_text (fault.Fraction n) = codes "P8 Fraction"
fault_text (fault.Late n) = codes "P9 Late"
fault_text (fault.Backwards n) = codes "P10 Backwards"
fault_text (fault.CutData n) = codes "P11 CutData"

-- the record that a fault lies in, counted from 1
abbrev pub record_of : PcapFault → Option ℕ
record_of (fault.CutHeader n) = Some n
record_of (fault.Huge n) = Some n
record_of (fault.Fraction n) = Some n
record_of (fault.Late n) = Some n
record_of (fault.Backwards n) = Some n
record_of (fault.CutData n) = Some n
record_of _ = None

-- a further part of a line, if it has one
abbrev pub part : List ℕ → Option ℕ → List ℕ
part name None = []
part name (Some n) = name ++ decimal n

-- what is reported of a capture's fault, with these words before the port's number if it is a port's
abbrev pub text_of : List ℕ → Option ℕ → PcapFault → List ℕ
text_of name port f = codes "afdx: capture " ++ fault_text f ++ part name port ++ part (codes ", record ") (record_of f)

-- what is reported of the fault of a capture that came in, at a port or by itself
abbrev pub capture_text : Option ℕ → PcapFault → List ℕ
capture_text port f = text_of (codes ", port ") port f

-- the line of the fault of a capture that came in
abbrev pub capture_line : Option ℕ → PcapFault → List ℕ
capture_line port f = as_line (capture_text port f)

-- the line of the fault of a capture of what left at a port
abbrev pub output_line : ℕ → PcapFault → List ℕ
output_line port f = as_line (text_of (codes ", output ") (Some port) f)

-- ---- of a load

-- the code and the name of the rule that a load breaks
abbrev pub rule_text : Rule → List ℕ
rule_text Rate = codes "L1 Rate"
rule_text Buffer = codes "L2 Buffer"
rule_text HighDelay = codes "L3 HighDelay"
rule_text LowDelay = codes "L4 LowDelay"

-- what is reported of a load: the rule, the port, what it needs and what it has
abbrev pub load_fault_text : LoadFault → List ℕ
load_fault_text f = codes "afdx: load " ++ rule_text f.rule ++ codes ", port " ++ decimal f.port ++ codes ", need " ++ decimal f.need ++ codes ", limit " ++ decimal f.limit

-- the line of a load that breaks a rule
abbrev pub load_line : LoadFault → List ℕ
load_line f = as_line (load_fault_text f)

-- ---- of a network

-- the name of a switch, if a refusal is of one
abbrev pub switch_part : Option (List ℕ) → List ℕ
switch_part None = []
switch_part (Some name) = codes ", switch " ++ name

-- the number of a link
abbrev pub link_part : ℕ → List ℕ
link_part link = codes ", link " ++ decimal link

-- a rule that a network breaks, after what it is of
abbrev pub network_rule : List ℕ → List ℕ
network_rule rule = codes "afdx: network " ++ rule

-- the row of a link at a switch, and the jitter in microseconds that it needs
abbrev pub short_text : List ℕ → Option (List ℕ) → Short → List ℕ
short_text rule name short = network_rule rule ++ switch_part name ++ link_part short.link ++ codes ", need " ++ decimal short.need

-- what is reported of a refusal, which may be of the switch of this name
abbrev pub network_text : Option (List ℕ) → NetworkFault → List ℕ
network_text name net.Memory = memory_text
network_text name net.Toml = network_rule (codes "G1 Toml")
network_text name (net.UnknownKey at) = network_rule (codes "G2 UnknownKey") ++ codes ", " ++ wiring_place_text at
network_text name (net.MissingKey at key) = network_rule (codes "G2 MissingKey") ++ codes ", " ++ wiring_place_text at ++ codes ", " ++ wiring_key_text key
network_text name (net.Kind at key) = network_rule (codes "G2 Kind") ++ codes ", " ++ wiring_place_text at ++ codes ", " ++ wiring_key_text key
network_text name (net.Range at key) = network_rule (codes "G2 Range") ++ codes ", " ++ wiring_place_text at ++ codes ", " ++ wiring_key_text key
network_text name (net.TwiceSwitch at) = network_rule (codes "G3 TwiceSwitch") ++ codes ", " ++ wiring_place_text at
network_text name (net.NoSuchSwitch at) = network_rule (codes "G3 NoSuchSwitch") ++ codes ", " ++ wiring_place_text at
network_text name (net.TwiceFrom at) = network_rule (codes "G3 TwiceFrom") ++ codes ", " ++ wiring_place_text at
network_text name (net.TwiceTo at) = network_rule (codes "G3 TwiceTo") ++ codes ", " ++ wiring_place_text at
network_text name (net.OwnPort at) = network_rule (codes "G3 OwnPort") ++ codes ", " ++ wiring_place_text at
network_text name (net.NoSuchPort at) = network_rule (codes "G3 NoSuchPort") ++ codes ", " ++ wiring_place_text at
network_text name (net.Latency switch) = network_rule (codes "G3 Latency") ++ switch_part name
network_text name (net.Load switch why) = load_fault_text why ++ switch_part name
network_text name (net.Constant at) = network_rule (codes "G4 Constant") ++ codes ", " ++ wiring_place_text at
network_text name (net.Speed at) = network_rule (codes "G4 Speed") ++ codes ", " ++ wiring_place_text at
network_text name (net.NoRow at link) = network_rule (codes "G5 NoRow") ++ codes ", " ++ wiring_place_text at ++ link_part link
network_text name (net.From at link) = network_rule (codes "G6 From") ++ codes ", " ++ wiring_place_text at ++ link_part link
network_text name (net.Size at link) = network_rule (codes "G7 Size") ++ codes ", " ++ wiring_place_text at ++ link_part link
network_text name (net.Bag at link) = network_rule (codes "G7 Bag") ++ codes ", " ++ wiring_place_text at ++ link_part link
network_text name (net.Police at link) = network_rule (codes "G7 Police") ++ codes ", " ++ wiring_place_text at ++ link_part link
network_text name (net.NoSource switch link) = network_rule (codes "G8 NoSource") ++ switch_part name ++ link_part link
network_text name (net.TwiceSource link) = network_rule (codes "G9 TwiceSource") ++ link_part link
network_text name (net.Jitter short) = short_text (codes "J1 Jitter") name short ++ codes ", has " ++ decimal short.has
network_text name (net.NoJitter short) = short_text (codes "J2 NoJitter") name short

-- ---- of rows that a rule of jitters refuses

-- the refusal of the row by this rule
abbrev pub row_fault : JitterRule → Short → NetworkFault
row_fault jitter.Jitter short = net.Jitter short
row_fault jitter.NoJitter short = net.NoJitter short

-- the code and the name of a rule of jitters
abbrev pub jitter_rule : JitterRule → List ℕ
jitter_rule jitter.Jitter = codes "J1 Jitter"
jitter_rule jitter.NoJitter = codes "J2 NoJitter"

-- the line of a row, if the switches have these names
abbrev pub row_line : JitterRule → List (List ℕ) → Short → List ℕ
row_line rule names short = as_line (network_text (slice_get names short.switch) (row_fault rule short))

-- how many more there are, if any are
abbrev pub rest_line : JitterRule → (rest : ℕ) → List ℕ
rest_line rule zero = []
rest_line rule (suc n) = as_line (network_rule (jitter_rule rule) ++ codes ", and " ++ decimal (suc n) ++ codes " more")

-- profile: a line for each, up to 100, and one that says how many more there are
abbrev pub rows_lines : JitterRule → List (List ℕ) → List Short → List ℕ
rows_lines rule names shorts = flat_map (row_line rule names) (take 100 shorts) ++ rest_line rule (length shorts - 100)

-- ---- of a line of an end system

-- the line of an end system's port: the switch, the port and the record that came too soon
abbrev pub line_line : (port number : ℕ) → (name : List ℕ) → List ℕ
line_line port number name = as_line (network_rule (codes "R2 Line") ++ switch_part (Some name) ++ codes ", port " ++ decimal port ++ codes ", record " ++ decimal number)

-- ---- of a failure

-- the lines of a failure of a network's command
abbrev pub network_failure_line : NetworkFailure → List ℕ
network_failure_line (network.Refused fault name) = as_line (network_text (option_map string_bytes name) fault)
network_failure_line (network.Table refusal name) = as_line (table_text refusal ++ switch_part (Some (string_bytes name)))
network_failure_line (network.Capture port fault name) = as_line (capture_text (Some port) fault ++ switch_part (Some (string_bytes name)))
network_failure_line (network.Rows rule shorts names) = rows_lines rule (map string_bytes names.items) shorts.items
network_failure_line (network.Line port number name) = line_line port number (string_bytes name)

-- the status for a network's refusal: 5 for memory, 4 for a rule of loads or jitters that is broken, else 3
abbrev pub fault_status : NetworkFault → ℕ
fault_status net.Memory = 5
fault_status (net.Load switch why) = 4
fault_status (net.Jitter short) = 4
fault_status (net.NoJitter short) = 4
fault_status _ = 3

-- the status for a failure of a network's command: 4 also for a record that came too soon over its line
abbrev pub network_status : NetworkFailure → ℕ
network_status (network.Refused fault name) = fault_status fault
network_status (network.Rows rule shorts names) = 4
network_status (network.Line port number name) = 4
network_status _ = 3
