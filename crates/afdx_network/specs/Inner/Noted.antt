-- What is noted of the copies that ports send, in the course of a network's run.
use Rattle.std.specs.Prelude.{Bool, ◌≡◌, ◌⊎◌, ◌++◌, ℕ, List, [], length, slice_get, Option, Some, None}
use Rattle.afdx_port.specs.declared.Sent.{Sent}
use Rattle.afdx_table.specs.declared.rows.PortRow.{PortRow}
use Rattle.afdx_count.specs.Tally.{Tally}
use Rattle.afdx_count.specs.Run.{counts_of}
use Rattle.afdx_core.specs.State.{State}
use Rattle.afdx_session.specs.Output.{rows_of}
use Rattle.afdx_paced.specs.Paced.{Lane, Paced, arrivals, sends_up_to, lane_at, HasTakenAll}
use Rattle.afdx_wiring.specs.declared.layout.End.{End}
use Rattle.afdx_network_check.specs.Net.{Network}
use Rattle.afdx_origins.specs.Origins.{Origins, sent_from, after_sending}
use Rattle.afdx_network.specs.Inner.Sites.{Site, end_at, AtPorts}

-- a port sent a copy, or none, and it was noted; or all that was noted was let go
abbrev pub IsNotedOnce : End → Option Sent → Option Origins → Option Origins → Type 0
IsNotedOnce from None old new = new ≡ old
IsNotedOnce from (Some x) None new = new ≡ None
IsNotedOnce from (Some x) (Some o) new = (new ≡ None) ⊎ (new ≡ Some (after_sending from x o))

-- what was noted of a port is what it sends up to the instant that its switch has come to, as much of it as has left
pub record IsNotedAt (o : Origins) (switch : ℕ) (v : Paced) (p : PortRow) (l : Lane) : Type 0 where
  pub rest : List Sent
  pub first : sends_up_to v (Some v.reached) p ≡ sent_from o.sent (end_at switch p.id) ++ rest
  pub many : length (sent_from o.sent (end_at switch p.id)) ≡ length l.left

-- what was noted of each port of each switch is so, and all keep their lists or none does
pub record AreNotedAt (net : Network) (keeps : Bool) (o : Origins) (sites : List Site) : Type 0 where
  pub network : o.net ≡ net
  pub kept : (switch : ℕ) (s : Site) → slice_get sites switch ≡ Some s → s.paced.keeps ≡ keeps
  pub each : (switch : ℕ) (s : Site) → slice_get sites switch ≡ Some s → AtPorts (IsNotedAt o switch s.paced) s.paced

-- nothing has left any port of a switch, which keeps its lists or not
pub record NoneHasLeft (keeps : Bool) (s : Site) : Type 0 where
  pub kept : s.paced.keeps ≡ keeps
  pub each : (port : ℕ) (l : Lane) → lane_at s.paced port ≡ Some l → l.left ≡ []

-- what was noted is so, if anything is noted
abbrev pub AreNoted : Network → (keeps : Bool) → List Site → Option Origins → Type 0
AreNoted net keeps sites None = Unit {0}
AreNoted net keeps sites (Some o) = AreNotedAt net keeps o sites

-- if copies are noted and none was sent at first, what ports send was noted, or all that was noted was let go
abbrev pub HasNoted : Network → (keeps : Bool) → (old new : Option Origins) → List Site → Type 0
HasNoted net keeps old new sites = old ≡ Some (record { net = net; sent = [] }) → AreNoted net keeps sites new

-- a switch from which all has left has come to these counts and to this end
pub record HasEnded (s : Site) (both : Tally × State) : Type 0 where
  pub counts : both.0 ≡ counts_of s.paced.table (rows_of s.paced.table (arrivals s.paced))
  pub switch : HasTakenAll s.paced both.1.run
  pub kept : both.1.keeps ≡ s.paced.keeps
