-- What is given for a run of a network, and why there is no run.
use Rattle.std.specs.Prelude.{◌≡◌, ℕ, ◌+◌, ◌*◌, ◌<◌, ◌≤◌, Bool, true, not, List, [], ◌∷◌, ◌++◌, length, map, filter, flat_map, take, slice_get, Option, is_some, Some, All, Contains, ◌⊎◌}
use Rattle.afdx_units.specs.declared.line.Speed.{Speed}
use Rattle.afdx_units.specs.Time.{second, last_second}
use Rattle.afdx_pcap.specs.declared.fault.PcapFault.{PcapFault}
use Rattle.afdx_pcap.specs.declared.fault.PcapFault.TheVariants.{Late}
use Rattle.afdx_pcap.specs.Record.{Record}
use Rattle.afdx_pcap.specs.Capture.{IsCapture}
use Rattle.afdx_table.specs.declared.rows.PortRow.{PortRow}
use Rattle.afdx_table.specs.Content.{Content}
use Rattle.afdx_load.specs.Accepted.{IsAccepted}
use Rattle.afdx_session.specs.Texts.{Text}
use Rattle.afdx_session.specs.Reading.{IsSound, IsFirstFault}
use Rattle.afdx_session.specs.Lined.{RecordsKeepToLineWithin}
use Rattle.afdx_merging.specs.Read.{AreRead}
use Rattle.afdx_wiring.specs.declared.layout.End.{End}
use Rattle.afdx_wiring.specs.declared.layout.Wire.{Wire}
use Rattle.afdx_network_check.specs.Net.{Network, wire_to, stamp_rounding}
use Rattle.afdx_network.specs.declared.fault.NetworkRunFault.{NetworkRunFault}
use Rattle.afdx_network.specs.declared.fault.NetworkRunFault.TheVariants as fault
use Rattle.afdx_network.specs.Runs.{Given, AreGivenAt, KeepsItsLine, KeepTheirLines}

-- ---- what has to be given

-- no wire goes to the port
abbrev pub is_open : Network → ℕ → ℕ → Bool
is_open net switch port = not (is_some (wire_to net (record { switch = switch; port = port })))

-- profile: an end system's capture for each port of the switch to which no wire goes, by rising number, and no other
abbrev pub AreOpen : Network → ℕ → Content → List Text → Type 0
AreOpen net switch t texts = map (λ text. text.0) texts ≡ filter (is_open net switch) (map (λ p. p.id) t.ports)

-- the switch at this place has the captures that its table and the wires ask for
pub record IsGivenAt (net : Network) (given : Given) (switch : ℕ) : Type 0 where
  pub table : Content
  pub texts : List Text
  pub table_is : slice_get net.tables switch ≡ Some table
  pub texts_is : slice_get given switch ≡ Some texts
  pub of_open : AreOpen net switch table texts

-- the captures of each switch are given, and of no other
pub record AreGiven (net : Network) (given : Given) : Type 0 where
  pub each : (switch : ℕ) → switch < length net.tables → IsGivenAt net given switch
  pub no_more : length given ≡ length net.tables

-- each text that was given is a capture
abbrev pub AreSound : Given → Type 0
AreSound given = All (All IsSound) given

-- ---- readers

-- the ports to which no wire goes, by switch, of which so many come before these, and then by rising number
abbrev pub ends_from : Network → ℕ → List Content → List End
ends_from net n [] = []
ends_from net n (t ∷ tables) = map (λ port. record { switch = n; port = port }) (filter (is_open net n) (map (λ p. p.id) t.ports)) ++ ends_from net (n + 1) tables

-- the ports to which no wire goes, by switch and then by rising number
abbrev pub open_ends : Network → List End
open_ends net = ends_from net 0 net.tables

-- all ports, by switch, of which so many come before these, and then by rising number
abbrev pub all_from : ℕ → List Content → List End
all_from n [] = []
all_from n (t ∷ tables) = map (λ p. record { switch = n; port = p.id }) t.ports ++ all_from (n + 1) tables

-- all ports of a network, by switch and then by rising number
abbrev pub all_ends : Network → List End
all_ends net = all_from 0 net.tables

-- the readers give these captures, one for each port to which no wire goes
pub record AreGivenBy {R : Type 0} (remaining : R → Option (List ℕ)) (net : Network) (readers : List R) (given : Given) : Type 0 where
  pub are : AreGiven net given
  pub read : AreRead remaining readers (flat_map (map (λ text. text.1)) given)

-- ---- orders

-- no two wires go to one port
abbrev pub NoneShareAPort : Network → Type 0
NoneShareAPort net = All (λ w. wire_to net w.to ≡ Some w) net.layout.wires

-- the wires have an order: each switch has one of 64 places in it, and each wire goes to a later place than it comes from; and no two go
-- to one port
pub record HasOrder (net : Network) : Type 0 where
  pub place : ℕ → ℕ
  pub few : (switch : ℕ) → place switch < 64
  pub rises : All (λ w. place w.from.switch < place w.to.switch) net.layout.wires
  pub one_each : NoneShareAPort net

-- each frame that was given came at least 64 seconds before the last second that pcap can hold
abbrev pub NoneComesLate : Given → Type 0
NoneComesLate given = (texts : List Text) (text : Text) (records : List Record) → Contains given texts → Contains texts text → IsCapture text.1 records
    → All (λ r. r.stamp + 64 * second ≤ last_second) records

-- no frame can be late at a switch: the wires have an order, each takes at most a millisecond, and none was given late
pub record NoneIsLateAnywhere (net : Network) (given : Given) : Type 0 where
  pub order : HasOrder net
  pub delays : All (λ w. w.delay ≤ 1000000) net.layout.wires
  pub early : NoneComesLate given

-- ---- refusals

-- the first given text that is no capture, by switch and then by port, and its first fault
pub record IsFirstUnsound (given : Given) (switch port : ℕ) (why : PcapFault) : Type 0 where
  pub texts : List Text
  pub texts_is : slice_get given switch ≡ Some texts
  pub before : All (All IsSound) (take switch given)
  pub first : IsFirstFault texts port why

-- this record, from 1, is the first that came too soon: those before it came over the line, and with it they did not
pub record IsBreachAt (speed : Speed) (records : List Record) (number : ℕ) : Type 0 where
  pub earlier : ℕ
  pub number_is : number ≡ earlier + 1
  pub kept : RecordsKeepToLineWithin stamp_rounding speed (take earlier records)
  pub broken : RecordsKeepToLineWithin stamp_rounding speed (take number records) → ⊥

-- the file says that end systems have one line each; this is the first port of which it is not so, by switch and then by port, and this is
-- the first record there that came too soon
pub record IsFirstBreach (net : Network) (given : Given) (switch port number : ℕ) : Type 0 where
  pub said : net.layout.one_line ≡ true
  pub place : ℕ
  pub end_is : slice_get (open_ends net) place ≡ Some (record { switch = switch; port = port })
  pub before : All (KeepsItsLine net given) (take place (open_ends net))
  pub row : PortRow
  pub records : List Record
  pub are : AreGivenAt net given (record { switch = switch; port = port }) row records
  pub breach : IsBreachAt row.speed records number

-- the fault is that of a record in the last second that pcap can hold, or later
abbrev pub IsLate : PcapFault → Type 0
IsLate (Late number) = Unit {0}
IsLate _ = ⊥

-- a record comes late over a wire: one goes to the port, and no two go to one port
pub record ComesLate (net : Network) (switch port : ℕ) (why : PcapFault) : Type 0 where
  pub wire : Wire
  pub wire_is : wire_to net (record { switch = switch; port = port }) ≡ Some wire
  pub one_each : NoneShareAPort net
  pub late : IsLate why

-- why there is no run: a text is no capture; or one did not come over one line, though the file says so; or two wires go to one port; or a
-- record comes late over a wire, unless `none_late` holds. Memory may run out at any time; a reader's failure is no reason here
abbrev pub IsRefusalUnless : Type 0 → Network → Given → NetworkRunFault → Type 0
IsRefusalUnless none_late net given fault.Memory = Unit {0}
IsRefusalUnless none_late net given (fault.Read place) = ⊥
IsRefusalUnless none_late net given (fault.Capture switch port why) =
    AreGiven net given × (IsFirstUnsound given switch port why ⊎ (AreSound given × KeepTheirLines net given × ComesLate net switch port why × (none_late → ⊥)))
IsRefusalUnless none_late net given fault.WrongWires = AreGiven net given × AreSound given × KeepTheirLines net given × (NoneShareAPort net → ⊥)
IsRefusalUnless none_late net given (fault.Line switch port number) = AreGiven net given × AreSound given × IsFirstBreach net given switch port number

-- why there is no run of a network whose loads are accepted: what comes over a wire is a capture if no frame can be late
abbrev pub IsRefusal : Network → Given → NetworkRunFault → Type 0
IsRefusal net given why = IsRefusalUnless (NoneIsLateAnywhere net given) net given why

-- why there is no run of any network: what comes over a wire is a capture if no frame can be late and the loads are accepted
abbrev pub IsUncheckedRefusal : Network → Given → NetworkRunFault → Type 0
IsUncheckedRefusal net given why = IsRefusalUnless (NoneIsLateAnywhere net given × All IsAccepted net.tables) net given why

-- why there is none over what readers give: memory ran out or a reader failed, which may be at any time; or there is no run over what they
-- give
abbrev pub IsFaultOver : {R : Type 0} → (R → Option (List ℕ)) → Network → List R → (Given → NetworkRunFault → Type 0) → NetworkRunFault → Type 0
IsFaultOver remaining net readers Refused fault.Memory = Unit {0}
IsFaultOver remaining net readers Refused (fault.Read place) = place < length readers
IsFaultOver remaining net readers Refused why = (given : Given) × AreGivenBy remaining net readers given × Refused given why

-- what stops the run on its way: memory ran out, or a record comes late over a wire
abbrev pub IsWireFault : Network → NetworkRunFault → Type 0
IsWireFault net fault.Memory = Unit {0}
IsWireFault net (fault.Read place) = ⊥
IsWireFault net (fault.Capture switch port why) = ComesLate net switch port why
IsWireFault net fault.WrongWires = ⊥
IsWireFault net (fault.Line switch port number) = ⊥
