-- What came and what left, link by link and port by port (profile).
use Rattle.std.specs.Prelude.{◌≡◌, ℕ, ◌-◌, ◌==◌, min, nat_le, Bool, ◌&&◌, List, [], ◌∷◌, ◌++◌, map, length, Option, Some, None, slice_get, if◌then◌else◌}
use Rattle.std.specs.List.{list_all, position}
use Rattle.std.specs.Option.{option_map_or}
use Rattle.std.specs.Str.{bytes_eq}
use Rattle.afdx_units.specs.declared.line.Priority.{Priority}
use Rattle.afdx_account.specs.declared.account.Account.{Account}
use Rattle.afdx_account.specs.Account.{account_terms}
use Rattle.afdx_pcap.specs.Record.{Record}
use Rattle.afdx_frame.specs.Address.{constant_of, link_of}
use Rattle.afdx_table.specs.declared.rows.PortRow.{PortRow}
use Rattle.afdx_table.specs.Link.{Link}
use Rattle.afdx_table.specs.Content.{Content, port_row, link_place}
use Rattle.afdx_filter.specs.Verdict.{verdict_of}
use Rattle.afdx_filter.specs.Place.{place_named}
use Rattle.afdx_load.specs.Load.{load_of, terms_of}
use Rattle.afdx_isolation.specs.Table.{bound_of}
use Rattle.afdx_grouping.specs.Scatter.{scattered}
use Rattle.afdx_pairing.specs.declared.event.Mark.{Mark}
use Rattle.afdx_pairing.specs.Events.{Numbered, mark_of}
use Rattle.afdx_following.specs.declared.watch.Watch.{Watch}
use Rattle.afdx_following.specs.declared.watch.Start.{Start}
use Rattle.afdx_following.specs.declared.watch.Start.TheVariants.{Rest, Cut}
use Rattle.afdx_following.specs.Watch.{has_frame, has_record, limits_of, unknown_since, last_record}
use Rattle.afdx_following.specs.Tally.{up}
use Rattle.afdx_following.specs.Output.{Output, output_at}
use Rattle.afdx_following.specs.Watched.{Watched, at_first, conforms, changed_at, with_own, with_record, with_ends}
use Rattle.afdx_recordings.specs.declared.recordings.Recordings.{Recordings}
use Rattle.afdx_recordings.specs.declared.outputs.Outputs.{Outputs}
use Rattle.afdx_recordings.specs.Recordings.{gap_of, is_recorded}
use Rattle.afdx_compare.specs.declared.sources.Source.{Source}

-- what was recorded at an output port: how many records count, how many of these are of no link that leads there, and these themselves if they are kept
pub record Port : Type 0 where
  pub seen : ℕ
  pub foreign : ℕ
  pub rows : List Mark

-- a port at which nothing was recorded yet
abbrev pub no_records : Port
no_records = record { seen = 0; foreign = 0; rows = [] }

-- a port after one more record that counts
abbrev pub with_seen : Port → Port
with_seen p = record p { seen = up p.seen }

-- a port after one more record that is of no link that leads there, which is noted if such are kept
abbrev pub with_foreign : Bool → Mark → Port → Port
with_foreign keeps mark p = record p { foreign = up p.foreign; rows = p.rows ++ (if keeps then mark ∷ [] else []) }

-- a comparison: what is known of the switch, its links and its ports, each by its place in the table
pub record Comparison : Type 0 where
  pub table : Content
  pub watch : Watch
  pub keeps : Bool
  pub links : List Watched
  pub ports : List Port

-- ---- at first

-- what is known of the switch where the recordings begin: it was at rest, or they begin at an instant in its course
abbrev pub start_of : Bool → ℕ → Start
start_of rest from = if rest then Rest else Cut from

-- what is known of the recorders and of the switch, if the recordings begin at this instant; times in ns
abbrev pub watch_of : Content → Recordings → ℕ → Watch
watch_of t r from = record {
  least = r.least;
  scatter = t.latency - r.least;
  tolerance = r.tolerance;
  gap = gap_of r.stamps;
  start = start_of r.rest from;
  until = r.until;
}

-- a port's bound for a priority at a switch whose latency varies so; it has one for each link of an accepted table, of at most 0.5 s
abbrev pub bound_in : ℕ → Content → PortRow → Priority → ℕ
bound_in scatter t p priority = min (option_map_or (λ b. b) (bound_of (scattered scatter (load_of t.latency p.speed p.id t.links)) priority) 0) 18446744073709551615

-- a port to which a link of this priority leads, before anything has left there; none if the table has no such port
abbrev pub output_first : Watch → Content → Bool → Priority → ℕ → Option PortRow → List Output
output_first w t keeps priority port None = []
output_first w t keeps priority port (Some row) = output_at port (limits_of w (bound_in w.scatter t row priority) row.speed) keeps ∷ []

-- the ports to which a link leads and that were recorded, in the link's order, before anything has left there
abbrev pub outputs_first : Watch → Content → Outputs → Bool → Priority → List ℕ → List Output
outputs_first w t recorded keeps priority [] = []
outputs_first w t recorded keeps priority (port ∷ ports) =
    (if is_recorded recorded port then output_first w t keeps priority port (port_row t port) else []) ++ outputs_first w t recorded keeps priority ports

-- a link of which nothing came and nothing left
pub record IsFirstOf (w : Watch) (t : Content) (recorded : Outputs) (keeps : Bool) (l : Link) (f : Watched) : Type 0 where
  pub account : Account
  pub terms : account_terms account ≡ terms_of l
  pub first : f ≡ at_first account w.tolerance (unknown_since w) (outputs_first w t recorded keeps l.priority l.to)

-- nothing came of any link of the table, and nothing left: the links are in the table's order
abbrev pub AreFirstOf : Watch → Content → Outputs → Bool → List Link → List Watched → Type 0
AreFirstOf w t recorded keeps [] [] = Unit {0}
AreFirstOf w t recorded keeps [] (f ∷ fs) = ⊥
AreFirstOf w t recorded keeps (l ∷ ls) [] = ⊥
AreFirstOf w t recorded keeps (l ∷ ls) (f ∷ fs) = IsFirstOf w t recorded keeps l f × AreFirstOf w t recorded keeps ls fs

-- a table whose recordings begin at an instant, of which nothing was read
pub record IsBegun (t : Content) (r : Recordings) (from : ℕ) (keeping : Bool) (c : Comparison) : Type 0 where
  pub table : c.table ≡ t
  pub watch : c.watch ≡ watch_of t r from
  pub keeps : c.keeps ≡ keeping
  pub links : AreFirstOf (watch_of t r from) t r.outputs keeping t.links c.links
  pub ports : c.ports ≡ map (λ p. no_records) t.ports

-- ---- what came

-- the place of the link whose own frame this is, which came at the port of a number; none if it is no link's
abbrev pub place_of_own : Content → ℕ → Record → Option ℕ
place_of_own t port r = place_named t (verdict_of t port r)

-- a comparison after a frame came that is a link's own, or no link's
abbrev pub own_came : Option ℕ → Numbered → Comparison → Comparison
own_came None n c = c
own_came (Some place) n c = record c { links = changed_at place (with_own n) c.links }

-- a comparison after a frame came at the port of a number: it is handed to its link, if it counts
abbrev pub with_came : ℕ → Numbered → Comparison → Comparison
with_came port n c = if has_frame c.watch n.frame.stamp then own_came (place_of_own c.table port n.frame) n c else c

-- ---- what left

-- ARINC 664 Part 7: the place of the link that a record names by an address of six bytes, the first four of which are the table's constant field
abbrev pub place_of_named : Content → List ℕ → Option ℕ
place_of_named t bytes = if nat_le 6 (length bytes) && bytes_eq (constant_of bytes) t.constant then link_place t (link_of bytes) else None

-- the link at a place with the place of the port among those of the link's ports that were recorded
abbrev pub led_to : ℕ → Option ℕ → Option (ℕ × ℕ)
led_to link None = None
led_to link (Some place) = Some (link, place)

-- the two places of a link and of the port of this number; none if the link does not lead there
abbrev pub output_among : ℕ → ℕ → Option Watched → Option (ℕ × ℕ)
output_among port link None = None
output_among port link (Some f) = led_to link (position (λ o. o.port == port) f.outputs)

-- the place of the link that a record at the port of a number is of, and the port's place there; none if it is of no link that leads to the
-- port
abbrev pub link_among : ℕ → List Watched → Option ℕ → Option (ℕ × ℕ)
link_among port links None = None
link_among port links (Some link) = output_among port link (slice_get links link)

-- the two places of a record that left at the port of a number, by its bytes
abbrev pub link_at : ℕ → List ℕ → Comparison → Option (ℕ × ℕ)
link_at port bytes c = link_among port c.links (place_of_named c.table bytes)

-- a comparison after a record left at the port at a place: it is handed to its link, or else counted as foreign
abbrev pub record_left : ℕ → Option (ℕ × ℕ) → Numbered → Comparison → Comparison
record_left place None n c = record c { ports = changed_at place (with_foreign c.keeps (mark_of n)) c.ports }
record_left place (Some (link, output)) n c = record c { links = changed_at link (with_record output n) c.links }

-- a comparison after a record left at a capture's port, if it counts
abbrev pub with_left : Source → Numbered → Comparison → Comparison
with_left s n c =
    if has_record c.watch n.frame.stamp
    then record_left s.place (link_at s.port n.frame.bytes c) n (record c { ports = changed_at s.place with_seen c.ports })
    else c

-- ---- the end

-- a comparison whose recordings' end is known by now
abbrev pub with_until : ℕ → Comparison → Comparison
with_until at c = record c { watch = record c.watch { until = Some at } }

-- a comparison after the end of the recordings: each link tells what became of the frames that still wait
abbrev pub with_end : Comparison → Comparison
with_end c = record c { links = map (with_ends (last_record c.watch)) c.links }

-- nothing speaks against the switch
abbrev pub conform : Comparison → Bool
conform c = list_all (λ p. p.foreign == 0) c.ports && list_all (λ f. conforms f) c.links
