-- A network in the course of a run: what came in at each switch so far, and what left it.
use Rattle.std.specs.Prelude.{◌≡◌, ◌+◌, ◌-◌, ◌*◌, ◌<◌, ◌≤◌, ◌∷◌, ◌++◌, Bool, false, if◌then◌else◌, ℕ, List, [], length, map, flat_map, set, slice_get, slice_set, Option, Some, None}
use Rattle.std.specs.Prelude.{option_and_then, All, Contains}
use Rattle.std.specs.Prelude.{Result, MatchResult}
use Rattle.std.specs.List.{AllByRecursion, position_or_len}
use Rattle.afdx_units.specs.Time.{last_second, earlier_of, is_before}
use Rattle.afdx_units.specs.Line.{cost_of, least_size}
use Rattle.afdx_pcap.specs.Record.{Record, IsWithinLimit}
use Rattle.afdx_pcap.specs.Text.{record_text, capture_text, AreReadable}
use Rattle.afdx_pcap.specs.Capture.{IsCapture}
use Rattle.afdx_table.specs.declared.rows.PortRow.{PortRow}
use Rattle.afdx_table.specs.Content.{Content, port_row}
use Rattle.afdx_table.specs.WellFormed.{IsWellFormed}
use Rattle.afdx_count.specs.Tally.{Tally}
use Rattle.afdx_count.specs.Run.{counts_of}
use Rattle.afdx_session.specs.Texts.{Text}
use Rattle.afdx_session.specs.Output.{rows_of}
use Rattle.afdx_session.specs.Outcome.{Results}
use Rattle.afdx_paced.specs.Paced.{Lane, Paced, fresh_paced, lane_at, arrivals, out_up_to, put_refusal, after_put, after_going, GoesOut, NoneGoesOut, IsNext}
use Rattle.afdx_wiring.specs.declared.layout.End.{End}
use Rattle.afdx_wiring.specs.declared.layout.Wire.{Wire}
use Rattle.afdx_wiring.specs.File.{is_end}
use Rattle.afdx_network_check.specs.Net.{Network, wire_to}
use Rattle.afdx_network.specs.declared.fault.NetworkRunFault.{NetworkRunFault}
use Rattle.afdx_network.specs.declared.fault.NetworkRunFault.TheVariants as fault
use Rattle.afdx_network.specs.Way.{delayed}
use Rattle.afdx_load.specs.Accepted.{IsAccepted}
use Rattle.afdx_network.specs.Runs.{Given}
use Rattle.afdx_network.specs.Given.{NoneIsLateAnywhere, IsLate}

-- a switch that is fed by time, the captures of what left its ports so far, how much of each has gone to its file, and an instant before
-- which nothing happens there
pub record Site : Type 0 where
  pub paced : Paced
  pub left : List Text
  pub gone : List (List ℕ)
  pub next : Option ℕ

-- the port of this number at the switch at a place
abbrev pub end_at : ℕ → ℕ → End
end_at switch port = record { switch = switch; port = port }

-- what left each port, as a capture
abbrev pub left_texts : List Lane → List Text
left_texts lanes = map (λ l. (l.port, capture_text l.left)) lanes

-- the lane of a port of one of the switches
abbrev pub lane_there : List Site → End → Option Lane
lane_there sites e = option_and_then (λ s. lane_at s.paced e.port) (slice_get sites e.switch)

-- a fact of the row and of the lane of each port of a switch
abbrev pub AtPorts : (PortRow → Lane → Type 0) → Paced → Type 0
AtPorts P v = (port : ℕ) (p : PortRow) (l : Lane) → port_row v.table port ≡ Some p → lane_at v port ≡ Some l → P p l

-- ---- a switch

-- what came in at a port so far: what was given for it is read whole; what came over a wire can be written
pub record IsCame (net : Network) (switch : ℕ) (own : List Text) (l : Lane) : Type 0 where
  pub given : wire_to net (end_at switch l.port) ≡ None → (bytes : List ℕ) × Contains own (l.port, bytes) × IsCapture bytes l.came
  pub brought : (w : Wire) → wire_to net (end_at switch l.port) ≡ Some w → AreReadable 0 l.came × All IsWithinLimit l.came

-- what has left a port is the first part of what leaves it up to the instant that its switch has come to
abbrev pub IsPrefix : Paced → PortRow → Lane → Type 0
IsPrefix v p l = (rest : List Record) × (out_up_to v (Some v.reached) p ≡ l.left ++ rest)

-- a switch in the course of a run
pub record IsRunning (s : Site) : Type 0 where
  pub formed : IsWellFormed s.paced.table
  pub going : s.paced.failed ≡ false
  pub ports : map (λ (l : Lane). l.port) s.paced.lanes ≡ map (λ (p : PortRow). p.id) s.paced.table.ports
  pub left : s.left ≡ left_texts s.paced.lanes
  pub next : IsNext s.paced s.next
  pub prefix : AtPorts (IsPrefix s.paced) s.paced

-- the switch at a place in the network
pub record IsSite (net : Network) (given : Given) (switch : ℕ) (s : Site) : Type 0 where
  pub own : List Text
  pub table_is : slice_get net.tables switch ≡ Some s.paced.table
  pub own_is : slice_get given switch ≡ Some own
  pub running : IsRunning s
  pub came : AllByRecursion (IsCame net switch own) s.paced.lanes

-- all that leaves the ports of a switch up to an instant has left; all that ever leaves them, if there is none
abbrev pub HasSent : Option ℕ → Site → Type 0
HasSent h s = AtPorts (λ p l. length (out_up_to s.paced h p) ≤ length l.left) s.paced

-- all that leaves the port of a number up to an instant has left; all that ever leaves it, if there is none
abbrev pub HasSentAt : Option ℕ → ℕ → Site → Type 0
HasSentAt h port s = (p : PortRow) (l : Lane) → port_row s.paced.table port ≡ Some p → lane_at s.paced port ≡ Some l → length (out_up_to s.paced h p) ≤ length l.left

-- how many records leave a port up to the instant that its switch has come to and have not left yet
abbrev pub behind : Paced → Option PortRow → Option Lane → ℕ
behind v None l = 0
behind v (Some p) None = 0
behind v (Some p) (Some l) = length (out_up_to v (Some v.reached) p) - length l.left

-- ---- all switches

-- what comes at the end of a wire of what left at its start
abbrev pub carried : Wire → List Record → List Record
carried w left = if w.down then [] else map (delayed w.delay) left

-- what came in at the end of a wire is what left at its start, later by the wire's delay; nothing, if the wire is down
pub record IsCarried (sites : List Site) (w : Wire) : Type 0 where
  pub start : Lane
  pub there : Lane
  pub start_is : lane_there sites w.from ≡ Some start
  pub there_is : lane_there sites w.to ≡ Some there
  pub same : there.came ≡ carried w start.left

-- the place of the first wire that goes to the same port
abbrev pub wire_place : List Wire → Wire → ℕ
wire_place wires w = position_or_len (λ v. is_end v.to w.to) wires

-- what leaves a port goes over the wire at this place: it begins there, is the first to its port, and is not down
abbrev pub GoesOver : List Wire → (place : ℕ) → End → Wire → Type 0
GoesOver wires place from w = (w.from ≡ from) × (wire_place wires w ≡ place) × (w.down ≡ false)

-- in the course of it: a record that left a port has gone over the port's wires up to a place, and waits at the others
pub record IsPending (sites : List Site) (from : End) (frame : Record) (wires : List Wire) (k : ℕ) (w : Wire) : Type 0 where
  pub start : Lane
  pub there : Lane
  pub start_is : lane_there sites w.from ≡ Some start
  pub there_is : lane_there sites w.to ≡ Some there
  pub done : (w.from ≡ from → wire_place wires w < k) → there.came ≡ carried w start.left
  pub waits : w.from ≡ from → k ≤ wire_place wires w → there.came ++ carried w (frame ∷ []) ≡ carried w start.left

-- each switch of the network has its site
pub record AreSites (net : Network) (given : Given) (sites : List Site) : Type 0 where
  pub each : (switch : ℕ) (s : Site) → slice_get sites switch ≡ Some s → IsSite net given switch s
  pub all : length sites ≡ length net.tables

-- each switch of the network has its site, and whatever left has gone over the wires
pub record AreCarried (net : Network) (given : Given) (sites : List Site) : Type 0 where
  pub are : AreSites net given sites
  pub wires : All (IsCarried sites) net.layout.wires

-- ---- a window

-- in a window that begins at one instant and ends at another, a switch has come no further than its end, and all that leaves up to its
-- beginning has left
pub record IsIn (begin end : ℕ) (s : Site) : Type 0 where
  pub reached : s.paced.reached ≤ end
  pub sent : HasSent (Some begin) s

-- a switch has come to an instant, and all that leaves up to there has left
abbrev pub HasCome : ℕ → Site → Type 0
HasCome end s = IsIn end end s

-- a time is no longer than the least from an arrival at the switch where a wire begins to the arrival that it causes at the wire's end
abbrev pub IsWithin : Network → (look : ℕ) → Wire → Type 0
IsWithin net look w = (t : Content) (p : PortRow) → slice_get net.tables w.from.switch ≡ Some t → port_row t w.from.port ≡ Some p
    → look ≤ t.latency + cost_of p.speed least_size + w.delay

-- a time above 0 that is no longer than that of any wire
pub record IsLook (net : Network) (look : ℕ) : Type 0 where
  pub positive : 0 < look
  pub least : All (IsWithin net look) net.layout.wires

-- the switches in a window, which is no longer than that
pub record AreInWindow (net : Network) (given : Given) (begin end : ℕ) (sites : List Site) : Type 0 where
  pub carried : AreCarried net given sites
  pub one_each : All (λ w. wire_to net w.to ≡ Some w) net.layout.wires
  pub look : ℕ
  pub is_look : IsLook net look
  pub short : end ≤ begin + look
  pub inside : All (IsIn begin end) sites

-- in the course of a record's way over the wires of a port
pub record AreInCarry (net : Network) (given : Given) (begin end : ℕ) (from : End) (frame : Record) (k : ℕ) (sites : List Site) : Type 0 where
  pub are : AreSites net given sites
  pub inside : All (IsIn begin end) sites
  pub wires : All (IsPending sites from frame net.layout.wires k) net.layout.wires

-- before this instant nothing can happen at these switches; nothing at all, if there is none
abbrev pub IsFirst : List Site → Option ℕ → Type 0
IsFirst sites None = All (λ s. s.next ≡ None) sites
IsFirst sites (Some n) = All (λ s. is_before n s.next ≡ false) sites

-- the switches between two windows: all have come to an instant, and what was given so far came in
pub record HaveCome (net : Network) (given : Given) (h : ℕ) (sites : List Site) : Type 0 where
  pub carried : AreCarried net given sites
  pub one_each : All (λ w. wire_to net w.to ≡ Some w) net.layout.wires
  pub come : All (HasCome h) sites

-- a switch has a port's capture at this place
pub record IsPortAt (sites : List Site) (e : End) (place : ℕ) : Type 0 where
  pub site : Site
  pub at : slice_get sites e.switch ≡ Some site
  pub text : List ℕ
  pub text_is : slice_get site.left place ≡ Some (e.port, text)

-- ---- what calls do

-- a record came in at a port
abbrev pub after_putting : ℕ → Record → Site → Site
after_putting port frame s = record { paced = after_put port frame s.paced; left = s.left; gone = s.gone; next = earlier_of s.next (Some frame.stamp) }

-- a switch at which nothing came in, which keeps its lists or not
pub record IsFresh (keeps : Bool) (t : Content) (s : Site) : Type 0 where
  pub paced : s.paced ≡ fresh_paced keeps t
  pub left : s.left ≡ map (λ p. (p.id, capture_text [])) t.ports
  pub gone : s.gone ≡ map (λ p. []) t.ports
  pub next : IsNext s.paced s.next

-- the switch went to an instant, and its next one may be another
pub record WentTo (h : ℕ) (old new : Site) : Type 0 where
  pub paced : new.paced ≡ after_going h old.paced
  pub left : new.left ≡ old.left
  pub gone : new.gone ≡ old.gone
  pub next : IsNext new.paced new.next

-- the next record that left the port at a place, or none, went to its capture
pub record HandsOut (old new : Site) (place port : ℕ) (out : Record) : Type 0 where
  pub out_is : GoesOut old.paced new.paced port out
  pub text : List ℕ
  pub was : slice_get old.left place ≡ Some (port, text)
  pub left : new.left ≡ set old.left place (port, text ++ record_text out)
  pub gone : new.gone ≡ old.gone
  pub next : new.next ≡ old.next

-- the next record that left the port at a place went to its capture, if there was one
abbrev pub IsHandedOut : Site → Site → (place port : ℕ) → Option Record → Type 0
IsHandedOut old new place port None = NoneGoesOut old.paced new.paced port × (new.left ≡ old.left) × (new.gone ≡ old.gone) × (new.next ≡ old.next)
IsHandedOut old new place port (Some out) = HandsOut old new place port out

-- more may have gone to the files of a switch, which is as it was otherwise
pub record HandsOver (old new : Site) : Type 0 where
  pub paced : new.paced ≡ old.paced
  pub left : new.left ≡ old.left
  pub next : new.next ≡ old.next
  pub long : length new.gone ≡ length old.gone

-- what has gone to the files of each switch
abbrev pub gone_at : List Site → List (List (List ℕ))
gone_at sites = map (λ s. s.gone) sites

-- what has gone to the files of all of them, file by file
abbrev pub gone_of : List Site → List (List ℕ)
gone_of sites = flat_map (λ all. all) (gone_at sites)

-- the whole captures of all switches
abbrev pub texts_of : List Site → List (List ℕ)
texts_of sites = flat_map (λ s. map (λ text. text.1) s.left) sites

-- a switch from which all has left has led to these captures and counts
pub record HasLed (s : Site) (results : Results) : Type 0 where
  pub captures : results.captures ≡ s.left
  pub counts : results.counts ≡ counts_of s.paced.table (rows_of s.paced.table (arrivals s.paced))

-- the counts of what came in at these switches
abbrev pub counts_at : List Site → List Tally
counts_at sites = map (λ s. counts_of s.paced.table (rows_of s.paced.table (arrivals s.paced))) sites

-- the port at a wire's end takes a record, later by the wire's delay
pub record CanCome (sites : List Site) (w : Wire) (frame : Record) : Type 0 where
  pub site : Site
  pub at : slice_get sites w.to.switch ≡ Some site
  pub fine : put_refusal site.paced w.to.port (frame.stamp + w.delay) ≡ None

-- a record came at a wire's end, later by the wire's delay
pub record CameOver (old new : List Site) (w : Wire) (frame : Record) : Type 0 where
  pub site : Site
  pub at : slice_get old w.to.switch ≡ Some site
  pub fine : put_refusal site.paced w.to.port (frame.stamp + w.delay) ≡ None
  pub early : frame.stamp + w.delay < last_second
  pub small : IsWithinLimit frame
  pub new_is : new ≡ slice_set old w.to.switch (after_putting w.to.port (delayed w.delay frame) site)

-- why a record did not come over a wire: memory ran out, or it would come in the last second that pcap can hold, or later
abbrev pub IsLateFault : Wire → Record → NetworkRunFault → Type 0
IsLateFault w frame fault.Memory = Unit {0}
IsLateFault w frame (fault.Capture switch port why) = (switch ≡ w.to.switch) × (port ≡ w.to.port) × (last_second ≤ frame.stamp + w.delay) × IsLate why
IsLateFault w frame (fault.Read place) = ⊥
IsLateFault w frame fault.WrongWires = ⊥
IsLateFault w frame (fault.Line switch port number) = ⊥

-- a switch goes on within a window: what leaves it up to the window's end stays as it was, and no less has left
pub record SendsOn (end : ℕ) (old new : Site) : Type 0 where
  pub table : new.paced.table ≡ old.paced.table
  pub reached : new.paced.reached ≡ old.paced.reached
  pub out : (h : ℕ) (p : PortRow) → h ≤ end → out_up_to new.paced (Some h) p ≡ out_up_to old.paced (Some h) p
  pub left : (port : ℕ) (l : Lane) → lane_at new.paced port ≡ Some l → (was : Lane) × (lane_at old.paced port ≡ Some was) × (length was.left ≤ length l.left)

-- all switches go on within a window
pub record SendOn (end : ℕ) (old new : List Site) : Type 0 where
  pub all : length new ≡ length old
  pub each : (n : ℕ) (s : Site) → slice_get new n ≡ Some s → (was : Site) × (slice_get old n ≡ Some was) × SendsOn end was s

-- how many records still wait to be handed out at a port, up to the instant that its switch has come to
abbrev pub waits_at : Option Site → ℕ → ℕ
waits_at None port = 0
waits_at (Some s) port = behind s.paced (port_row s.paced.table port) (lane_at s.paced port)

-- a record that left a port of a switch went over the port's wires within a window; or there was none, and all had left there
pub record Carries (net : Network) (given : Given) (begin end : ℕ) (from : End) (more : Bool) (old new : List Site) : Type 0 where
  pub window : AreInWindow net given begin end new
  pub on : SendOn end old new
  pub none : more ≡ false → (s : Site) → slice_get new from.switch ≡ Some s → HasSentAt (Some s.paced.reached) from.port s

-- a switch came to the end of a window, and all that left it went on
pub record Visits (net : Network) (given : Given) (begin end switch : ℕ) (old new : List Site) : Type 0 where
  pub window : AreInWindow net given begin end new
  pub others : (n : ℕ) (s : Site) → (n ≡ switch → ⊥) → slice_get new n ≡ Some s → (was : Site) × (slice_get old n ≡ Some was) × SendsOn end was s
  pub here : (s : Site) → slice_get new switch ≡ Some s → HasCome end s

-- ---- how late frames are

-- 64 seconds before the last second that pcap can hold
abbrev pub latest : ℕ
latest = 4294967231000000000

-- 64 seconds before the last second, and so many switches and cables later, each of which takes at most 501 ms
abbrev pub after_hops : ℕ → ℕ
after_hops n = latest + n * 501000000

-- no record came in at a switch later than its place allows
abbrev pub AreEarly : (place : ℕ → ℕ) → List Site → Type 0
AreEarly place sites = (n : ℕ) (s : Site) → slice_get sites n ≡ Some s → AllByRecursion (λ (l : Lane). AllByRecursion (λ (r : Record). r.stamp ≤ after_hops (place n)) l.came) s.paced.lanes

-- if the loads are accepted, no frame can be late and none was late before a call, none is late after it, and it fails for lack of memory alone
abbrev pub StayEarly : {X : Type 0} → Network → Given → List Site → List Site → Result X NetworkRunFault → Type 0
StayEarly net given old new result = (none : NoneIsLateAnywhere net given) → All IsAccepted net.tables → AreEarly none.order.place old
    → MatchResult result (λ _. AreEarly none.order.place new) (λ why. why ≡ fault.Memory)
