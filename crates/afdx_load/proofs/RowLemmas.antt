-- The links of a well-formed table lead to places, each once, and their frames are long.
use Rattle.std.proofs.Common.{◌≡◌, ℕ, ◌≤◌, ◌<◌, true, false, ◌==◌, nat_eq, List, [], ◌∷◌, refl, inl, inr, arith}
use Rattle.std.specs.Prelude.{All}
use Rattle.std.specs.List.{AllByRecursion, IsDistinct, list_any}
use Rattle.std.proofs.lemmas.Bool.{cases_Bool, lt-ltb}
use Rattle.std.proofs.lemmas.Bool.Decides.{nat_tests}
use Rattle.std.proofs.lemmas.List.Elements.{All-from_recursion}
use Rattle.afdx_table.specs.declared.rows.PortRow.{PortRow}
use Rattle.afdx_table.specs.Link.{Link}
use Rattle.afdx_table.specs.Content.{Content}
use Rattle.afdx_table.specs.Ports.{has_port}
use Rattle.afdx_table.specs.WellFormed.{IsPort, IsLink, IsWellFormed}
use Rattle.afdx_load.specs.Inner.Slots.{are_slots}

-- ---- ports

found_small : (p : PortRow) (n : ℕ) → IsPort p → (p.id == n) ≡ true → n < 25
found_small p n h e = let most : p.id ≤ 24 = h.id_most in grind (arith, nat_tests)

pub port_small : (ports : List PortRow) (n : ℕ) → AllByRecursion IsPort ports → has_port ports n ≡ true → n < 25
port_small [] n h k = absurd cc
port_small (p ∷ ps) n h k = elim (cases_Bool (p.id == n)) [
  | inl here ↦ found_small p n h.0 here
  | inr later ↦ port_small ps n h.1 (rw later at k)
]

not_any : (n : ℕ) (ns : List ℕ) → AllByRecursion (λ m. nat_eq n m ≡ false) ns → list_any (λ m. m == n) ns ≡ false
not_any n [] h = refl
not_any n (m ∷ ms) h =
    let apart : (m == n) ≡ false = let other = h.0 in grind (arith, nat_tests) in
    rw apart (not_any n ms h.1)

pub slots_fit : (ports : List PortRow) (ns : List ℕ) → AllByRecursion IsPort ports → AllByRecursion (λ p. has_port ports p ≡ true) ns → IsDistinct nat_eq ns → are_slots ns ≡ true
unfolding IsDistinct
slots_fit ports [] ps are once = refl
slots_fit ports (n ∷ ns) ps are once =
    rw (lt-ltb n 25 (port_small ports n ps are.0), not_any n ns once.0) (slots_fit ports ns ps are.1 once.1)

-- ---- links

abbrev pub IsLong : Link → Type 0
IsLong link = 64 ≤ link.max_size

pub all_long : (c : Content) → IsWellFormed c → All IsLong c.links
all_long c well k d within = (All-from_recursion (IsLink c.ports) c.links well.links k d within).size_least
