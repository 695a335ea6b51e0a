-- A virtual link (ARINC 664 Part 7), as contracts see it.
use Rattle.std.specs.Prelude.{ℕ, zero, suc, ◌==◌, Bool, List, [], ◌∷◌}
use Rattle.std.specs.List.{list_any}
use Rattle.afdx_units.specs.declared.bag.Bag.{Bag}
use Rattle.afdx_units.specs.declared.line.Priority.{Priority}
use Rattle.afdx_units.specs.declared.police.Police.{Police}

-- a virtual link: its number, where it comes in and leads to, its gap, jitter and greatest frame, its priority, and how it is policed
pub record Link : Type 0 where
  pub id : ℕ
  -- the port at which its frames come in
  pub from : ℕ
  -- the ports at which they leave, in the order of the table
  pub to : List ℕ
  pub bag : Bag
  -- in nanoseconds
  pub jitter : ℕ
  -- in bytes, the frame check sequence counted and the line overhead not
  pub max_size : ℕ
  pub priority : Priority
  pub police : Police

-- the links, of which the one at this place has this jitter, in nanoseconds
abbrev pub with_jitter : (place jitter : ℕ) → List Link → List Link
with_jitter place jitter [] = []
with_jitter zero jitter (l ∷ links) = record l { jitter = jitter } ∷ links
with_jitter (suc place) jitter (l ∷ links) = l ∷ with_jitter place jitter links

-- whether a list of port numbers names a port
abbrev pub names_port : ℕ → List ℕ → Bool
names_port port ports = list_any (λ p. p == port) ports

-- the link leads to the port
abbrev pub leads_to : ℕ → Link → Bool
leads_to port link = names_port port link.to
