-- A port that lags: what its calls carry out, and when they would carry out nothing.
use Rattle.std.specs.Prelude.{ℕ, ◌≤◌, ◌≡◌, false, List, ◌++◌}
use Rattle.afdx_port.specs.declared.Item.{Item}
use Rattle.afdx_port.specs.Service.{Event}
use Rattle.afdx_port.specs.Content.{Content, done, offered, advanced, closed}
use Rattle.afdx_port.specs.Lagging.{has_due}

-- the laws: if a port has nothing to carry out before a stamp, an advance to it carries out nothing
abbrev pub NothingDueStays : Type 0
NothingDueStays = (c : Content) (to : ℕ) → c.finished ≡ false → c.horizon ≤ to → has_due to c ≡ false → done (advanced to c) ≡ done c

-- what an advance carries out comes after what was carried out before
abbrev pub AdvanceAdds : Type 0
AdvanceAdds = (c : Content) (to : ℕ) → c.finished ≡ false → c.horizon ≤ to → (more : List Event) × (done (advanced to c) ≡ done c ++ more)

-- what the end carries out comes after what was carried out before
abbrev pub FinishAdds : Type 0
FinishAdds = (c : Content) → (more : List Event) × (done (closed c) ≡ done c ++ more)

-- an offer carries out what an advance to its stamp does
abbrev pub OfferAdvances : Type 0
OfferAdvances = (c : Content) (x : Item) → c.finished ≡ false → c.horizon ≤ x.stamp → done (offered x c) ≡ done (advanced x.stamp c)

-- after an advance to a stamp a port has nothing more to carry out before it
abbrev pub AdvanceLeavesNothingDue : Type 0
AdvanceLeavesNothingDue = (c : Content) (to : ℕ) → c.finished ≡ false → has_due to (advanced to c) ≡ false
