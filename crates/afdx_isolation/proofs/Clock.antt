-- The port's clock: beside its order, all that the proofs know of the instant by which what came by a stamp is queued.
use Rattle.std.proofs.Common.{◌≡◌, ℕ, ◌+◌, ◌-◌, refl, arith}
use Rattle.afdx_port.specs.declared.Settings.{Settings}
use Rattle.afdx_port.specs.declared.Item.{Item}
use Rattle.afdx_port.specs.Service.{reach, came}

-- age and the bounds count from the stamp
pub came-is : (s : Settings) (item : Item) → came s item ≡ item.stamp + s.latency
unfolding reach
came-is s item = refl

pub reach-gap : (s : Settings) (t u : ℕ) → reach s u - reach s t ≡ u - t
unfolding reach
reach-gap s t u = omega arith
