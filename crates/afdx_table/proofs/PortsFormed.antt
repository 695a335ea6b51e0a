-- The ports of a table are well formed.
use Rattle.std.proofs.Common.{◌≡◌, ℕ, ◌+◌, ◌*◌, ◌<◌, ◌≤◌, nat_lt, cond, false, List, [], ◌∷◌, length, Ok, Err, refl, ap, subst, inl, inr, arith}
use Rattle.std.specs.List.{AllByRecursion}
use Rattle.std.proofs.lemmas.Bool.{cases_Bool}
use Rattle.std.proofs.lemmas.Bool.Decides.{nat_tests}
use Rattle.toml.specs.Data.{Members}
use Rattle.afdx_table.specs.declared.fault.At.{At}
use Rattle.afdx_table.specs.declared.fault.At.TheVariants as place
use Rattle.afdx_table.specs.declared.fault.Key.{Key}
use Rattle.afdx_table.specs.declared.fault.Key.TheVariants as key
use Rattle.afdx_table.specs.declared.fault.TableFault.TheVariants.{Range, TwicePort}
use Rattle.afdx_table.specs.declared.rows.PortRow.{PortRow}
use Rattle.afdx_table.specs.Refusal.{or_refuse}
use Rattle.afdx_table.specs.Names.{speed_of}
use Rattle.afdx_table.specs.Fields.{known_at, number_at, bounded, bounded_at}
use Rattle.afdx_table.specs.Ports.{has_port, with_port, port_keys, port_at, ports_from}
use Rattle.afdx_table.specs.WellFormed.{IsPort, Rises}
use Rattle.afdx_table.proofs.Steps.{steps}

-- ---- one port

abbrev pub IsWithin : ℕ → ℕ → ℕ → Type 0
IsWithin low high n = (low ≤ n) × (n ≤ high)

pub bounded-within : (at : At) (k : Key) (low high m n : ℕ) → bounded at k low high m ≡ Ok n → IsWithin low high n
unfolding bounded
bounded-within at k low high m n h = grind (arith, nat_tests)

pub bounded_at-within : (at : At) (k : Key) (low high : ℕ) (ms : Members) (n : ℕ) → bounded_at at k low high ms ≡ Ok n → IsWithin low high n
unfolding bounded_at
bounded_at-within at k low high ms n h =
    let s = steps (number_at at k ms) _ n h in
    bounded-within at k low high s.value n s.rest

-- a row within the limits, of a new number
abbrev pub IsNewPort : List PortRow → PortRow → Type 0
IsNewPort before row = IsPort row × (has_port before row.id ≡ false)

-- the last step
pub fresh_port : (at : At) (before : List PortRow) (new row : PortRow) → (cond (has_port before new.id) (Err (TwicePort at)) (Ok new)) ≡ Ok row → (new ≡ row) × (has_port before new.id ≡ false)
fresh_port at before new row h = elim (cases_Bool (has_port before new.id)) [
  | inl twice ↦ let g = rw twice at h in absurd cc
  | inr fresh ↦ let g = rw fresh at h in (cc, fresh)
]

pub port_at-formed : (version : ℕ) (at : At) (before : List PortRow) (ms : Members) (row : PortRow) → port_at version at before ms ≡ Ok row → IsNewPort before row
unfolding port_at
port_at-formed version at before ms row h =
    let s1 = steps (known_at at port_keys ms) _ row h in
    let s2 = steps (bounded_at at key.Id 1 24 ms) _ row s1.rest in
    let s3 = steps (number_at at key.Mbit ms) _ row s2.rest in
    let s4 = steps (or_refuse (Range at key.Mbit) (speed_of version s3.value)) _ row s3.rest in
    let s5 = steps (bounded_at at key.Buffer 0 16777216 ms) _ row s4.rest in
    let s6 = steps (bounded_at at key.MaxDelay 1 500000 ms) _ row s5.rest in
    let new : PortRow = record { id = s2.value; speed = s4.value; buffer = s5.value; max_delay = s6.value * 1000 } in
    let last = fresh_port at before new row s6.rest in
    let id = bounded_at-within at key.Id 1 24 ms s2.value s2.first in
    let buffer = bounded_at-within at key.Buffer 0 16777216 ms s5.value s5.first in
    let delay = bounded_at-within at key.MaxDelay 1 500000 ms s6.value s6.first in
    let new_port : IsNewPort before new = (
      record { id_least = id.0; id_most = id.1; buffer_most = buffer.1; delay_least = omega arith; delay_most = omega arith },
      last.1,
    ) in
    subst (IsNewPort before) {x = new} last.0 new_port

-- ---- a port in its place

abbrev pub AreAbove : ℕ → List PortRow → Type 0
AreAbove id ps = AllByRecursion (λ q. id < q.id) ps

above-less : (a b : ℕ) (ps : List PortRow) → a < b → AreAbove b ps → AreAbove a ps
above-less a b [] lt h = tt
above-less a b (p ∷ ps) lt h = (omega (arith, h.0), above-less a b ps lt h.1)

above-with : (id : ℕ) (row : PortRow) (ps : List PortRow) → id < row.id → AreAbove id ps → AreAbove id (with_port row ps)
above-with id row [] lt h = (lt, tt)
above-with id row (p ∷ ps) lt h =
    elim (cases_Bool (nat_lt row.id p.id)) [
      | inl below ↦ rw below (lt, h)
      | inr above ↦ rw above (h.0, above-with id row ps lt h.1)
    ]

-- the head is no port of this number, and not above it
head-below : (row p : PortRow) (ps : List PortRow) → nat_lt row.id p.id ≡ false → has_port (p ∷ ps) row.id ≡ false → (p.id < row.id) × (has_port ps row.id ≡ false)
head-below row p ps above fresh = (grind (arith, nat_tests), grind (arith, nat_tests))

rises-with : (row : PortRow) (ps : List PortRow) → Rises ps → has_port ps row.id ≡ false → Rises (with_port row ps)
rises-with row [] h fresh = (tt, tt)
rises-with row (p ∷ ps) h fresh =
    elim (cases_Bool (nat_lt row.id p.id)) [
      | inl below ↦
          let lt : row.id < p.id = grind (arith, nat_tests) in
          rw below ((lt, above-less row.id p.id ps lt h.0), h)
      | inr above ↦
          let under = head-below row p ps above fresh in
          rw above (above-with p.id row ps under.0 h.0, rises-with row ps h.1 under.1)
    ]

are_ports-with : (row : PortRow) (ps : List PortRow) → IsPort row → AllByRecursion IsPort ps → AllByRecursion IsPort (with_port row ps)
are_ports-with row [] good h = (good, tt)
are_ports-with row (p ∷ ps) good h =
    elim (cases_Bool (nat_lt row.id p.id)) [
      | inl below ↦ rw below (good, h)
      | inr above ↦ rw above (h.0, are_ports-with row ps good h.1)
    ]

length-with : (row : PortRow) (ps : List PortRow) → length (with_port row ps) ≡ length ps + 1
length-with row [] = refl
length-with row (p ∷ ps) =
    elim (cases_Bool (nat_lt row.id p.id)) [
      | inl below ↦ rw below (omega arith)
      | inr above ↦ let more = length-with row ps in rw above (omega arith)
    ]

-- ---- all ports

pub record ArePorts (ps : List PortRow) : Type 0 where
  pub limits : AllByRecursion IsPort ps
  pub rise : Rises ps

pub ports_from-formed : (version n : ℕ) (before : List PortRow) (tables : List Members) (ports : List PortRow) → ArePorts before → ports_from version n before tables ≡ Ok ports → ArePorts ports
    × (length ports ≡ length before + length tables)
unfolding ports_from
ports_from-formed version n before [] ports good h =
    let same : before ≡ ports = cc in
    (subst ArePorts same good, omega (arith, ap length same))
ports_from-formed version n before (ms ∷ rest) ports good h =
    let s = steps (port_at version (place.Port (n + 1)) before ms) _ ports h in
    let new = port_at-formed version (place.Port (n + 1)) before ms s.value s.first in
    let more : ArePorts (with_port s.value before) = record {
      limits = are_ports-with s.value before new.0 good.limits;
      rise = rises-with s.value before good.rise new.1;
    } in
    let all = ports_from-formed version (n + 1) (with_port s.value before) rest ports more s.rest in
    (all.0, omega (arith, all.1, length-with s.value before))
