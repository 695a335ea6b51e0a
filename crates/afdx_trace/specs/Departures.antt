-- What became of the copies at each port, as comma-separated values (profile).
use Rattle.std.specs.Prelude.{◌≡◌, ℕ, ◌≤◌, ◌+◌, ◌-◌, ◌<◌, codes, decimal, Bool, true, false, nat_le, List, [], ◌∷◌, ◌++◌, length, slice_get, flat_map, Option, Some, if◌then◌else◌}
use Rattle.std.specs.List.{AllByRecursion}
use Rattle.std.specs.Io.KnownBytes.{Appends}
use Rattle.afdx_table.specs.declared.rows.PortRow.{PortRow}
use Rattle.afdx_table.specs.Names.{priority_text}
use Rattle.afdx_port.specs.declared.Settings.{Settings}
use Rattle.afdx_port.specs.declared.Item.{Item}
use Rattle.afdx_port.specs.declared.Sent.{Sent}
use Rattle.afdx_port.specs.declared.Aged.{Aged}
use Rattle.afdx_port.specs.Service.{Event, sending, aging, instant, came}
use Rattle.afdx_port.specs.Content.{done}
use Rattle.afdx_isolation.specs.Table.{settings_of}
use Rattle.afdx_core.specs.State.{Run, port_in}
use Rattle.afdx_trace.specs.declared.shown.Selection.{Selection}
use Rattle.afdx_trace.specs.declared.shown.Shown.{Shown}
use Rattle.afdx_trace.specs.Csv.{next_field}
use Rattle.afdx_trace.specs.Shown.{is_shown, shown_of}

-- the first line: the names of the columns
abbrev pub departures_heading : List ℕ
departures_heading = codes "port,record,frame,link,priority,size,came,start,left,delay,outcome\n"

-- the fields of a copy, each after a comma: it came at the instant at which it was queued
abbrev pub item_fields : Shown → Settings → Item → List ℕ
item_fields shown s x = flat_map next_field (decimal x.number ∷ decimal x.link ∷ priority_text x.priority ∷ decimal x.size ∷ decimal (came s x - shown.origin) ∷ [])

-- a copy that a port sent, as the record of this number of its output; its delay is reckoned from the stamp of its frame
abbrev pub sent_line : Shown → ℕ → Settings → ℕ → Sent → List ℕ
sent_line shown port s number x = decimal port ++ next_field (decimal number) ++ item_fields shown s x.item
    ++ flat_map next_field (decimal (x.begin - shown.origin) ∷ decimal (x.end - shown.origin) ∷ decimal (x.end - x.item.stamp) ∷ codes "sent\n" ∷ [])

-- a copy that a port discarded for its age at an instant: it is no record, and leaves at no instant
abbrev pub aged_line : Shown → ℕ → Settings → Aged → List ℕ
aged_line shown port s x = decimal port ++ next_field [] ++ item_fields shown s x.item ++ flat_map next_field (decimal (x.at - shown.origin) ∷ [] ∷ [] ∷ codes "aged\n" ∷ [])

-- the line of a copy of a link that is shown
abbrev pub if_shown : Shown → Item → List ℕ → List ℕ
if_shown shown x line = if is_shown shown (Some x.link) then line else []

-- the lines of a port's events in order, if so many copies were sent before them
abbrev pub event_lines : Shown → ℕ → Settings → ℕ → List Event → List ℕ
event_lines shown port s before [] = []
event_lines shown port s before (sending x ∷ events) = if_shown shown x.item (sent_line shown port s (before + 1) x) ++ event_lines shown port s (before + 1) events
event_lines shown port s before (aging x ∷ events) = if_shown shown x.item (aged_line shown port s x) ++ event_lines shown port s before events

-- the lines of a port: of all copies that it sent or discarded so far
abbrev pub port_lines : Shown → Run → PortRow → List ℕ
port_lines shown r p = event_lines shown p.id (settings_of r.table.latency p) 0 (done (port_in r p))

-- a heading, then what is shown of each port by rising number
abbrev pub departures_text : Selection → Run → List ℕ
departures_text selection r = departures_heading ++ flat_map (port_lines (shown_of selection r.rows) r) r.table.ports

-- ---- files

-- since the start the lines of each port of a finished run were appended to the file at its place
pub record LinesAreAppended {F : Type 0} (contents : F → Option (List ℕ)) (s : Selection) (r : Run) (start now : List F) : Type 0 where
  pub long : length now ≡ length start
  pub each : (k : ℕ) (p : PortRow) (f g : F) → slice_get r.table.ports k ≡ Some p → slice_get start k ≡ Some f → slice_get now k ≡ Some g
      → Appends (contents f) (contents g) (port_lines (shown_of s r.rows) r p)

-- ---- the order of events

-- whether of the next sent and the next discarded copy the discarded one comes first
abbrev pub ages_next : List Sent → List Aged → Bool
ages_next sent [] = false
ages_next [] (a ∷ aged) = true
ages_next (x ∷ sent) (a ∷ aged) = nat_le a.at x.begin

-- no event lies at an earlier instant than one before it in the list. After a copy was sent, none lies at the instant of its start either
abbrev pub AreInOrder : List Event → Type 0
AreInOrder [] = Unit {0}
AreInOrder (sending x ∷ events) = AllByRecursion (λ event. x.begin < instant event) events × AreInOrder events
AreInOrder (aging x ∷ events) = AllByRecursion (λ event. x.at ≤ instant event) events × AreInOrder events
