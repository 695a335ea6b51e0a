-- What recordings of a switch have to keep to: the headline's relation, if recordings begin and end somewhere, stamps have noise and
-- latencies vary (profile). It never says that our switch made the records, so it can be asked of any switch.
use Rattle.std.specs.Prelude.{◌≡◌, ℕ, ◌+◌, ◌*◌, true, false, Bool, List, [], map, filter, Option, Some, None, All, Contains}
use Rattle.std.specs.Option.{option_map}
use Rattle.afdx_units.specs.Line.{tick_of}
use Rattle.afdx_pcap.specs.Record.{Record}
use Rattle.afdx_frame.specs.Address.{link_of}
use Rattle.afdx_table.specs.declared.rows.PortRow.{PortRow}
use Rattle.afdx_table.specs.Link.{Link, leads_to}
use Rattle.afdx_table.specs.Content.{Content}
use Rattle.afdx_account.specs.Policing.{Terms}
use Rattle.afdx_filter.specs.Frame.{frame_of}
use Rattle.afdx_load.specs.Load.{load_of, terms_of}
use Rattle.afdx_isolation.specs.Table.{bound_of}
use Rattle.afdx_levels.specs.Levels.{Levels, at_rest, unknown, Allowed}
use Rattle.afdx_levels.specs.Inner.Laws.{chosen}
use Rattle.afdx_pairing.specs.Kept.{IsKeptFor}
use Rattle.afdx_following.specs.declared.watch.Watch.{Watch}
use Rattle.afdx_following.specs.declared.watch.Start.TheVariants.{Rest}
use Rattle.afdx_following.specs.Watch.{has_frame, has_record, limits_of, unknown_since, last_record}
use Rattle.afdx_core.specs.Merge.{Capture}
use Rattle.afdx_session.specs.Headline.{own_records, records_for}
use Rattle.afdx_grouping.specs.Scatter.{scattered}

-- what is known of an account from which on its frames count: at rest it was full, else nothing is known at an instant
abbrev pub levels_since : Terms → ℕ → Option ℕ → Levels
levels_since terms tolerance None = at_rest terms tolerance
levels_since terms tolerance (Some since) = unknown terms tolerance since

-- what is known of a link's account from which on its frames count
abbrev pub levels_of : Watch → Link → Levels
levels_of w l = levels_since (terms_of l) w.tolerance (unknown_since w)

-- a link's own frames that count
abbrev pub own_within : Watch → Content → Link → List Capture → List Record
own_within w t l read = filter (λ r. has_frame w r.stamp) (own_records t l read)

-- of what was recorded at a port, what counts
abbrev pub recorded : Watch → List Record → List Record
recorded w out = filter (λ r. has_record w r.stamp) out

-- the instant up to which at a port the line was free again after a record, if not all had left
abbrev pub last_at : Watch → PortRow → Option ℕ
last_at w p = option_map (λ last. last + w.gap * tick_of p.speed) (last_record w)

-- a port's bound for a link's priority, at a switch whose latency varies so
abbrev pub bound_at : Watch → Content → PortRow → Link → Option ℕ
bound_at w t p l = bound_of (scattered w.scatter (load_of t.latency p.speed p.id t.links)) l.priority

-- what was recorded at a port of a link that leads there, if its account did this with its frames that count (true: passed)
abbrev pub IsKeptAt : Watch → Content → List Capture → PortRow → List Record → Link → List Bool → Type 0
IsKeptAt w t read p out l fates =
    let own = own_within w t l read in
    (bound : ℕ) × (bound_at w t p l ≡ Some bound) × IsKeptFor (limits_of w bound p.speed) (last_at w p) own (chosen fates own) (records_for l (recorded w out))

-- what was recorded at these ports of the table, if these captures came in
pub record IsKeptWithin (w : Watch) (t : Content) (ports : List PortRow) (read : List Capture) (out : PortRow → List Record) : Type 0 where
  -- what each link's account did with its frames, the same at all ports: one level at the instant from which on they count explains it
  pub fates : Link → List Bool
  pub are_allowed : (l : Link) → Contains t.links l → Allowed (terms_of l) w.tolerance (levels_of w l) (map frame_of (own_within w t l read)) (fates l)
  -- for a link that leads to a port what left is what its account passed, one by one, in order and within the bounds
  pub kept : (p : PortRow) → Contains ports p → (l : Link) → Contains t.links l → leads_to p.id l ≡ true → IsKeptAt w t read p (out p) l (fates l)
  -- for any other link there is nothing, and nothing for what is no link of the table
  pub none_else : (p : PortRow) → Contains ports p → (l : Link) → Contains t.links l → leads_to p.id l ≡ false → records_for l (recorded w (out p)) ≡ []
  pub of_links : (p : PortRow) → Contains ports p → All (λ r. (l : Link) × Contains t.links l × (link_of r.bytes ≡ l.id)) (recorded w (out p))

-- our own switch, over whole captures: it is at rest, takes the table's latency for each frame, and its stamps are exact
abbrev pub exactly : Content → Watch
exactly t = record { least = t.latency; scatter = 0; tolerance = 0; gap = 0; start = Rest; until = None }
