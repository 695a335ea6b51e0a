-- What is known of a run of a network of which nothing goes out.
use Rattle.std.specs.Prelude.{◌≡◌, ℕ, true, List, [], ◌∷◌, slice_get, Some}
use Rattle.afdx_port.specs.declared.Sent.{Sent}
use Rattle.afdx_measure.specs.declared.delays.Delays.{Delays}
use Rattle.afdx_table.specs.declared.rows.PortRow.{PortRow}
use Rattle.afdx_table.specs.Content.{Content, port_row}
use Rattle.afdx_count.specs.Tally.{Tally}
use Rattle.afdx_core.specs.Isolation.{IsRun}
use Rattle.afdx_core.specs.Merge.{merged}
use Rattle.afdx_core.specs.State.{State, sent_in}
use Rattle.afdx_session.specs.Texts.{Text}
use Rattle.afdx_session.specs.Output.{rows_of}
use Rattle.afdx_session.specs.Outcome.{Results, IsOutcome}
use Rattle.afdx_wiring.specs.declared.layout.End.{End}
use Rattle.afdx_network_check.specs.Net.{Network, port_at}
use Rattle.afdx_origins.specs.declared.departure.Departure.{Departure}
use Rattle.afdx_origins.specs.Origins.{Origins, sent_from, IsSummary}
use Rattle.afdx_origins.specs.Laws.{KeepBounds}
use Rattle.afdx_network.specs.Runs.{Given, IsUncheckedRunOf}
use Rattle.afdx_network.specs.Laws.{IsOfFile, IsFittingNetwork}
use Rattle.afdx_network.specs.Inner.Sites.{end_at}

-- a switch of the network over the texts that came in there: the counts of its outcome, and a finished switch that took the program's merge
-- of their records
pub record IsEnded (t : Content) (texts : List Text) (left : Results) (both : Tally × State) : Type 0 where
  pub outcome : IsOutcome t texts left
  pub counts : both.0 ≡ left.counts
  pub table : both.1.run.table ≡ t
  pub rows : both.1.run.rows ≡ rows_of t (merged outcome.read)
  pub is_run : IsRun both.1.run
  pub all : both.1.run.finished ≡ true

-- all switches of the network have ended so, in file order
abbrev pub AreEnded : List Content → List (List Text) → List Results → List (Tally × State) → Type 0
AreEnded [] [] [] [] = Unit {0}
AreEnded (t ∷ tables) (texts ∷ came) (results ∷ left) (both ∷ switches) = IsEnded t texts results both × AreEnded tables came left switches
AreEnded _ _ _ _ = ⊥

-- the copies that were noted of each port are those that it sent, in their order
pub record HaveSent (net : Network) (switches : List (Tally × State)) (o : Origins) : Type 0 where
  pub network : o.net ≡ net
  pub each : (switch : ℕ) (both : Tally × State) (p : PortRow) → slice_get switches switch ≡ Some both → port_row both.1.run.table p.id ≡ Some p
      → sent_from o.sent (end_at switch p.id) ≡ sent_in both.1.run (Some p)

-- if the tables fit together and are accepted, no copy that was noted has ended later than its port's bound allows
abbrev pub WatchedRunsKeepBounds : Type 0
WatchedRunsKeepBounds = (net : Network) (given : Given) (came : List (List Text)) (left : List Results) (switches : List (Tally × State)) (o : Origins) → IsOfFile net → IsFittingNetwork net
    → IsUncheckedRunOf net given came left → AreEnded net.tables came left switches → HaveSent net switches o → KeepBounds net o.sent

-- no port of the network sent two copies that ended at one instant
abbrev pub PortsEndApart : Network → List Departure → Type 0
PortsEndApart net sent = (e : End) (p : PortRow) (j k : ℕ) (x y : Sent) → port_at net e ≡ Some p
    → slice_get (sent_from sent e) j ≡ Some x → slice_get (sent_from sent e) k ≡ Some y → x.end ≡ y.end → j ≡ k

-- whatever the tables are, no two copies that were noted of one port ended at one instant
abbrev pub WatchedRunsEndApart : Type 0
WatchedRunsEndApart = (net : Network) (came : List (List Text)) (left : List Results) (switches : List (Tally × State)) (o : Origins)
    → AreEnded net.tables came left switches → HaveSent net switches o → PortsEndApart net o.sent

-- so what is reported of the delays of a link at a port is one thing
abbrev pub WatchedDelaysAreOne : Type 0
WatchedDelaysAreOne = (net : Network) (came : List (List Text)) (left : List Results) (switches : List (Tally × State)) (o : Origins) → IsOfFile net
    → AreEnded net.tables came left switches → HaveSent net switches o
    → (link : ℕ) (e : End) (d other : Delays) → IsSummary net o.sent link e d → IsSummary net o.sent link e other → d ≡ other
