-- What a switch did with an arrival.
use Rattle.std.specs.Prelude.{ℕ, List}
use Rattle.afdx_port.specs.declared.Offer.{Offer}
use Rattle.afdx_core.specs.declared.step.Fate.{Fate}

-- what a switch did with one arrival
pub record Step : Type 0 where
  -- how many arrivals came before it
  pub number : ℕ
  pub in_port : ℕ
  pub fate : Fate
  -- the answers of the ports that its link leads to, in the link's order; none if it was not passed
  pub offers : List (ℕ × Offer)
