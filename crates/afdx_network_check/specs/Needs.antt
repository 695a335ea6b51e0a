-- The jitters that the rows of a network need (profile).
use Rattle.std.specs.Prelude.{◌≡◌, ℕ, ◌≤◌, ◌*◌, ◌/◌, ◌%◌, ◌==◌, ◌&&◌, Bool, true, false, nat_le, nat_lt, List, map, filter, find, All, Option, Some, None, option_map, Ok}
use Rattle.std.specs.List.{AllZip}
use Rattle.afdx_account.specs.Policing.{parts}
use Rattle.afdx_table.specs.Link.{Link}
use Rattle.afdx_table.specs.Content.{Content}
use Rattle.afdx_table.specs.WellFormed.{IsWellFormed}
use Rattle.afdx_load.specs.Load.{load_of}
use Rattle.afdx_jitter.specs.declared.delays.Delays.{Delays}
use Rattle.afdx_jitter.specs.Delay.{at_once, least_jitter}
use Rattle.afdx_wiring.specs.declared.fault.Short.{Short}
use Rattle.afdx_network_check.specs.declared.jitters.RowNeed.{RowNeed}
use Rattle.afdx_network_check.specs.Net.{Network, Row, rows_of, IsSource}
use Rattle.afdx_network_check.specs.Order.{most_rows, source_within, way_within, misfit, shortage}
use Rattle.afdx_network_check.specs.Rules.{HasJitters}

-- ---- networks that differ in their jitters alone

-- a row without its jitter
abbrev pub bare_link : Link → Link
bare_link l = record l { jitter = 0 }

-- a table without its jitters
abbrev pub bare : Content → Content
bare t = record t { links = map bare_link t.links }

-- the files say the same, and so do the tables but for the jitters
abbrev pub DiffersInJitters : Network → Network → Type 0
DiffersInJitters net other = (other.layout ≡ net.layout) × (map bare other.tables ≡ map bare net.tables)

-- ---- what a row has and needs

-- whole microseconds that a row needs to begin with: the jitter of its source; if no way within reason leads to it, more than any table has
abbrev pub first_needed : (source : Option Row) → ℕ
first_needed None = 1000000000
first_needed (Some source) = source.link.jitter / 1000

-- what is enough for a row after the whole way from its source, in whole microseconds; if there is no such way, more than any table has
abbrev pub needed : (far : Option (ℕ × Delays)) → ℕ
needed None = 1000000000
needed (Some far) = least_jitter far.1 far.0

-- a row, with what it has in ns and what it needs in microseconds
abbrev pub row_with_need : Row → (need : ℕ) → RowNeed
row_with_need r need = record { switch = r.switch; link = r.link.id; has = r.link.jitter; need = need }

-- what a row needs: to begin with (true), or by the jitters that rows have by now
abbrev pub need_in : (start : Bool) → Network → Row → RowNeed
need_in true net r = row_with_need r (first_needed (source_within most_rows net r))
need_in false net r = row_with_need r (needed (way_within most_rows net r at_once))

-- the row needs more than the greatest jitter that a table can have, 10,000 microseconds
abbrev pub is_past : RowNeed → Bool
is_past n = nat_lt 10000 n.need

-- a row, what it needs, and the greatest jitter that a table can have, in microseconds
abbrev pub past_short : RowNeed → Short
past_short n = record { switch = n.switch; link = n.link; need = n.need; has = 10000 }

-- the first row that needs more than a table can have
abbrev pub past_of : List RowNeed → Option Short
past_of needs = option_map past_short (find is_past needs)

-- all rows that need more than a table can have
abbrev pub all_past : List RowNeed → List Short
all_past needs = map past_short (filter is_past needs)

-- the row has just what it needs, and a table can have that
abbrev pub is_met : RowNeed → Bool
is_met n = nat_le n.need 10000 && (n.has == n.need * 1000)

-- ---- jitters that are enough

-- at each port, the links that lead there ask for no more than its line
abbrev pub KeepsToLines : Network → Type 0
KeepsToLines net = All (λ t. All (λ p. (load_of t.latency p.speed p.id t.links).rate ≤ parts) t.ports) net.tables

-- tables have jitters in whole microseconds
abbrev pub IsWhole : Network → Type 0
IsWhole net = All (λ r. r.link.jitter % 1000 ≡ 0) (rows_of net)

-- the other network differs from this one in its jitters alone, and not in those of the rows that end systems feed. Its jitters are
-- enough, and tables can have them
pub record Suffices (net other : Network) : Type 0 where
  pub alike : DiffersInJitters net other
  pub sources : AllZip (λ r s. IsSource net r → s.link.jitter ≡ r.link.jitter) (rows_of net) (rows_of other)
  pub well_formed : All IsWellFormed other.tables
  pub whole : IsWhole other
  pub enough : HasJitters other

-- row by row, no jitter is above that of the other network
abbrev pub IsBelow : Network → Network → Type 0
IsBelow net other = AllZip (λ r s. r.link.jitter ≤ s.link.jitter) (rows_of net) (rows_of other)

-- ---- what is promised

-- the needs of all rows of a network that differs from this one in its jitters alone. If none is past what tables can have, the check
-- accepts that network; and they are the least that are enough, or none are, if this network fits and keeps to its lines
pub record AreNeeds (net : Network) (needs : List RowNeed) (past : Option Short) : Type 0 where
  pub turn : Network
  pub alike : DiffersInJitters net turn
  pub rows : needs ≡ map (need_in false turn) (rows_of turn)
  pub past_is : past ≡ past_of needs
  pub met : past ≡ None → All (λ n. n.has ≡ n.need * 1000) needs × (shortage turn ≡ Ok tt) × HasJitters turn
  pub suffices : past ≡ None → IsWhole net → Suffices net turn
  pub least : misfit net ≡ Ok tt → KeepsToLines net → (other : Network) → Suffices net other → (past ≡ None) × IsBelow turn other
