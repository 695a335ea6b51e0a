-- What stays true of a port while its accounts pay for what it is offered.
use Rattle.std.specs.Prelude.{ℕ, ◌+◌, ◌≡◌, true, List, [], ◌∷◌, ◌++◌, All}
use Rattle.afdx_port.specs.declared.Settings.{Settings}
use Rattle.afdx_port.specs.declared.Item.{Item}
use Rattle.afdx_port.specs.Service.{came, service}
use Rattle.afdx_port.specs.Admission.{fits}
use Rattle.afdx_port.specs.Inner.Course.{line_at}
use Rattle.afdx_port.specs.Inner.Order.{InOrder}
use Rattle.afdx_port.specs.Inner.Work.{HaveCome}
use Rattle.afdx_account.specs.Policing.{parts}
use Rattle.afdx_isolation.specs.Inner.Flow.{Flow, IsPaidFor, IsWithinRate, HasBuffer, demand_of}
use Rattle.afdx_isolation.specs.Inner.Potential.{KeepsPotentials, EndsBy, BeginsAs}
use Rattle.afdx_isolation.specs.Inner.Account.{AreWithinCaps, Grow, AreDebited, IsOfAFlow}

-- what is true at `now` if these items were admitted and the accounts have these levels
pub record IsKeptLevel (s : Settings) (flows : List Flow) (items : List Item) (now : ℕ) (level : Flow → ℕ) : Type 0 where
  pub come : HaveCome s now items
  pub of_flows : All (IsOfAFlow flows) items
  pub in_order : InOrder s items
  pub potentials : KeepsPotentials s flows now level (line_at s now items)
  pub ends : All (BeginsAs s (EndsBy parts s (demand_of s flows))) (service s 0 items)

-- what is kept is true of a new port
abbrev pub IsKeptAtFirst : Type 0
IsKeptAtFirst = (s : Settings) (flows : List Flow) (now : ℕ) (level : Flow → ℕ) → AreWithinCaps flows level → IsKeptLevel s flows [] now level

-- it stays true while time passes
abbrev pub IsKeptOverTime : Type 0
IsKeptOverTime = (s : Settings) (flows : List Flow) (items : List Item) (now d : ℕ) (level after : Flow → ℕ) → All (IsPaidFor s) flows → IsWithinRate s flows
    → Grow flows d level after → IsKeptLevel s flows items now level → IsKeptLevel s flows items (now + d) after

-- it stays true with an item that its account has paid for
abbrev pub IsKeptByWhatIsPaidFor : Type 0
IsKeptByWhatIsPaidFor = (s : Settings) (flows : List Flow) (items : List Item) (x : Item) (level after : Flow → ℕ) → All (IsPaidFor s) flows → IsWithinRate s flows
    → IsOfAFlow flows x → AreDebited flows x level after → IsKeptLevel s flows items (came s x) level → IsKeptLevel s flows (items ++ x ∷ []) (came s x) after

-- an item that its account has paid for fits into a buffer that holds the bursts and one frame
abbrev pub WhatIsPaidForFits : Type 0
WhatIsPaidForFits = (s : Settings) (flows : List Flow) (items : List Item) (x : Item) (level after : Flow → ℕ) → All (IsPaidFor s) flows → IsWithinRate s flows → HasBuffer s flows
    → IsOfAFlow flows x → AreDebited flows x level after → IsKeptLevel s flows items (came s x) level → fits s items x ≡ true
