-- A run of a network: each switch's run over captures that agree with the wires.
use Rattle.std.specs.Prelude.{◌≡◌, ℕ, true, false, List, [], ◌∷◌, map, slice_get, Contains, Some, None}
use Rattle.afdx_pcap.specs.Record.{Record}
use Rattle.afdx_pcap.specs.Text.{capture_text}
use Rattle.afdx_pcap.specs.Capture.{IsCapture}
use Rattle.afdx_table.specs.declared.rows.PortRow.{PortRow}
use Rattle.afdx_table.specs.Content.{Content}
use Rattle.afdx_core.specs.Merge.{merged}
use Rattle.afdx_session.specs.Texts.{Text}
use Rattle.afdx_session.specs.Output.{output_of}
use Rattle.afdx_session.specs.Outcome.{Results, IsOutcome}
use Rattle.afdx_session.specs.Headline.{IsIsolated}
use Rattle.afdx_session.specs.Lined.{RecordsKeepToLineWithin}
use Rattle.afdx_wiring.specs.declared.layout.Wire.{Wire}
use Rattle.afdx_wiring.specs.declared.layout.End.{End}
use Rattle.afdx_network_check.specs.Net.{Network, port_at, wire_to, stamp_rounding}
use Rattle.afdx_network.specs.Way.{delayed}

-- the headline is of the records that were read and of the outputs
abbrev pub IsPlain : (t : Content) (texts : List Text) (results : Results) → IsOutcome t texts results → IsIsolated t texts results → Type 0
IsPlain t texts results outcome isolated = (isolated.read ≡ outcome.read) × (isolated.out ≡ output_of t (merged outcome.read))

-- a switch's run: its table, the texts that came in, what they led to, and the headline of it
pub record SwitchRun : Type 0 where
  pub table : Content
  pub texts : List Text
  pub results : Results
  pub outcome : IsOutcome table texts results
  pub isolated : IsIsolated table texts results
  pub plain : IsPlain table texts results outcome isolated

-- what left at the start of a wire, as the capture there has it, comes in at the wire's end, later by the wire's delay
pub record Brings (left : List Results) (came : List (List Text)) (w : Wire) : Type 0 where
  pub here : Results
  pub there : List Text
  pub bytes : List ℕ
  pub records : List Record
  pub here_is : slice_get left w.from.switch ≡ Some here
  pub there_is : slice_get came w.to.switch ≡ Some there
  pub written : Contains here.captures (w.from.port, bytes)
  pub read : IsCapture bytes records
  pub comes : Contains there (w.to.port, capture_text (map (delayed w.delay) records))

-- over a wire that is down there comes nothing: a capture of no frames
pub record BringsNothing (came : List (List Text)) (w : Wire) : Type 0 where
  pub there : List Text
  pub there_is : slice_get came w.to.switch ≡ Some there
  pub comes : Contains there (w.to.port, capture_text [])

-- the captures that were given for the ports without a wire, by switch
abbrev pub Given : Type 0
Given = List (List Text)

-- the text is among those that were given for the switch
pub record IsGiven (given : Given) (switch : ℕ) (text : Text) : Type 0 where
  pub texts : List Text
  pub texts_is : slice_get given switch ≡ Some texts
  pub has : Contains texts text

-- these texts come in at the switches if these results left them: over a wire what left at its start, over a wire that is down a capture of
-- no frames, and at any other port what was given
pub record IsFedBy (net : Network) (given : Given) (left : List Results) (came : List (List Text)) : Type 0 where
  pub wires : (w : Wire) → Contains net.layout.wires w → w.down ≡ false → Brings left came w
  pub down : (w : Wire) → Contains net.layout.wires w → w.down ≡ true → BringsNothing came w
  pub others : (e : End) (texts : List Text) (text : Text) → wire_to net e ≡ None → slice_get came e.switch ≡ Some texts
      → text.0 ≡ e.port → Contains texts text → IsGiven given e.switch text

-- these are the records of what was given for a port without a wire
pub record AreGivenAt (net : Network) (given : Given) (e : End) (row : PortRow) (records : List Record) : Type 0 where
  pub row_is : port_at net e ≡ Some row
  pub no_wire : wire_to net e ≡ None
  pub text : Text
  pub is_given : IsGiven given e.switch text
  pub port : text.0 ≡ e.port
  pub capture : IsCapture text.1 records

-- what was given for the port came over one line, by stamps that may be rounded down
abbrev pub KeepsItsLine : Network → Given → End → Type 0
KeepsItsLine net given e = (row : PortRow) (records : List Record) → AreGivenAt net given e row records → RecordsKeepToLineWithin stamp_rounding row.speed records

-- profile: what was given for each port came over one line, if the network file says that end systems have one line each
abbrev pub KeepTheirLines : Network → Given → Type 0
KeepTheirLines net given = net.layout.one_line ≡ true → (e : End) → KeepsItsLine net given e

-- the runs are over the network's tables, what came in at them agrees with the wires and with what was given, and that is as the file says
pub record IsNetworkRun (net : Network) (given : Given) (runs : List SwitchRun) : Type 0 where
  pub tables : map (λ (run : SwitchRun). run.table) runs ≡ net.tables
  pub lines : KeepTheirLines net given
  pub fed : IsFedBy net given (map (λ (run : SwitchRun). run.results) runs) (map (λ (run : SwitchRun). run.texts) runs)

-- each table was run over what came in at its switch, and led to this
abbrev pub AreRuns : List Content → List (List Text) → List Results → Type 0
AreRuns [] [] [] = Unit {0}
AreRuns (t ∷ tables) (texts ∷ came) (results ∷ left) =
    (outcome : IsOutcome t texts results) × (isolated : IsIsolated t texts results) × IsPlain t texts results outcome isolated × AreRuns tables came left
AreRuns _ _ _ = ⊥

-- each table was run over what came in at its switch, and led to this, whether its load is accepted or not
abbrev pub AreOutcomes : List Content → List (List Text) → List Results → Type 0
AreOutcomes [] [] [] = Unit {0}
AreOutcomes (t ∷ tables) (texts ∷ came) (results ∷ left) = IsOutcome t texts results × AreOutcomes tables came left
AreOutcomes _ _ _ = ⊥

-- each table was run, what came in at the switches and what left them agrees with the wires, and what was given is as the file says
pub record IsUncheckedRunOf (net : Network) (given : Given) (came : List (List Text)) (left : List Results) : Type 0 where
  pub outcomes : AreOutcomes net.tables came left
  pub lines : KeepTheirLines net given
  pub fed : IsFedBy net given left came

-- what came in at the switches and what left them is a run of the network
pub record IsRunOf (net : Network) (given : Given) (came : List (List Text)) (left : List Results) : Type 0 where
  pub runs : List SwitchRun
  pub came_is : map (λ (run : SwitchRun). run.texts) runs ≡ came
  pub left_is : map (λ (run : SwitchRun). run.results) runs ≡ left
  pub run : IsNetworkRun net given runs
