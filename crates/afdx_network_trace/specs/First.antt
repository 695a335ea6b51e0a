-- The numbers that frames had among the arrivals at their first switches (profile). The first record at the end of a wire is the
-- first copy that left at its start, the second record is the second copy, and so on.
use Rattle.std.specs.Prelude.{◌≡◌, ℕ, zero, suc, ◌<◌, ◌==◌, List, [], ◌∷◌, length, slice_get, slice_index_or, Option, Some, None, option_map, option_and_then}
use Rattle.std.specs.List.{count_by}
use Rattle.afdx_table.specs.Content.{port_row}
use Rattle.afdx_port.specs.declared.Sent.{Sent}
use Rattle.afdx_core.specs.declared.step.Row.{Row}
use Rattle.afdx_core.specs.Rows.{each_after}
use Rattle.afdx_core.specs.State.{State, sent_in}
use Rattle.afdx_wiring.specs.declared.layout.End.{End}
use Rattle.afdx_wiring.specs.declared.layout.Wire.{Wire}
use Rattle.afdx_network_check.specs.Net.{Network, wire_to}

-- an arrival's place among those of its port, counted from 0
abbrev pub place_of : List Row → Row → ℕ
place_of before row = count_by (λ other. other.in_port == row.in_port) before

-- the places of all arrivals of a switch, each among those of its port
abbrev pub places_of : List Row → List ℕ
places_of rows = each_after (λ before row. place_of before row ∷ []) [] rows

-- the place of the arrival with this number at a switch, among those of its port
abbrev pub place_at : List State → (switch number : ℕ) → Option ℕ
place_at runs switch number = option_and_then (λ s. slice_get (places_of s.run.rows) number) (slice_get runs switch)

-- the arrival with this number at a switch
abbrev pub row_at : List State → (switch number : ℕ) → Option Row
row_at runs switch number = option_and_then (λ s. slice_get s.run.rows number) (slice_get runs switch)

-- the wire over which an arrival came; none if it came from an end system
abbrev pub wire_of : Network → List State → (switch number : ℕ) → Option Wire
wire_of net runs switch number = option_and_then (λ (row : Row). wire_to net (record { switch = switch; port = row.in_port })) (row_at runs switch number)

-- the copy at a place of what a port sent
abbrev pub copy_at : List State → End → (place : ℕ) → Option Sent
copy_at runs e place = option_and_then (λ s. slice_get (sent_in s.run (port_row s.run.table e.port)) place) (slice_get runs e.switch)

-- the number that an arrival's frame had at the switch where the wire begins
abbrev pub number_before : List State → Wire → (switch number : ℕ) → Option ℕ
number_before runs w switch number = option_map (λ (x : Sent). x.item.number) (option_and_then (copy_at runs w.from) (place_at runs switch number))

-- the number at the first switch: this one, unless a wire leads there too
abbrev pub first_or : ℕ → Option ℕ → ℕ
first_or own None = own
first_or own (Some first) = first

-- one step back over the wire of an arrival; none if it came over none
abbrev pub first_by : (ℕ → ℕ → Option ℕ) → List State → (switch number : ℕ) → Option Wire → Option ℕ
first_by further runs switch number None = None
first_by further runs switch number (Some w) = option_map (λ own. first_or own (further w.from.switch own)) (number_before runs w switch number)

-- the number that an arrival's frame had at its first switch, over at most n switches; none if this is its first
abbrev pub first_within : ℕ → Network → List State → (switch number : ℕ) → Option ℕ
first_within zero net runs switch number = None
first_within (suc n) net runs switch number = first_by (first_within n net runs) runs switch number (wire_of net runs switch number)

-- the number that an arrival's frame had at its first switch: a way has at most 64; none if this is its first
unfoldable pub first_number : Network → List State → (switch number : ℕ) → Option ℕ
first_number net runs switch number = first_within 64 net runs switch number

-- these are the numbers that all arrivals of a switch had at their first switches, in order
pub record AreFirstNumbers (net : Network) (runs : List State) (switch : ℕ) (rows : List Row) (firsts : List (Option ℕ)) : Type 0 where
  pub many : length firsts ≡ length rows
  pub each : (number : ℕ) (first : Option ℕ) → number < length firsts → slice_index_or firsts number first ≡ first_number net runs switch number

-- these are those numbers of each switch
pub record HaveFirstNumbers (net : Network) (runs : List State) (firsts : List (List (Option ℕ))) : Type 0 where
  pub many : length firsts ≡ length runs
  pub each : (switch : ℕ) (s : State) (all : List (Option ℕ)) → slice_get runs switch ≡ Some s → slice_get firsts switch ≡ Some all → AreFirstNumbers net runs switch s.run.rows all
