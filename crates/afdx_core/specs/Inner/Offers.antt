-- Ports with their answers, which are kept as the bits of a number.
use Rattle.std.specs.Prelude.{◌≡◌, ℕ, suc, ◌==◌, ◌≤◌, if◌then◌else◌, List, [], ◌∷◌, length}
use Rattle.std.specs.Int.{bit_at}
use Rattle.afdx_port.specs.declared.Offer.{Offer}
use Rattle.afdx_port.specs.declared.Offer.TheVariants.{Full, Queued}

-- the bit of an answer
abbrev pub bit_of : Offer → ℕ
bit_of Queued = 0
bit_of Full = 1

-- the answer that a bit stands for
abbrev pub answer_of_bit : ℕ → Offer
answer_of_bit bit = if bit == 1 then Full else Queued

-- these ports, each with its answer: the bits from a place on
abbrev pub answered : ℕ → ℕ → List ℕ → List (ℕ × Offer)
answered full place [] = []
answered full place (port ∷ ports) = (port, answer_of_bit (bit_at full place)) ∷ answered full (suc place) ports

-- there is room for 24 ports, and no bit for one that is not there
pub record AreKept (ports : List ℕ) (len full : ℕ) : Type 0 where
  pub long : length ports ≡ 24
  pub few : len ≤ 24
  pub no_bit : (place : ℕ) → len ≤ place → bit_at full place ≡ 0
