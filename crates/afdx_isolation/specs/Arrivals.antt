-- The clean arrivals of all links: what one link's own are, and how its account sees them.
use Rattle.std.specs.Prelude.{ℕ, nat_eq, List, filter}
use Rattle.afdx_account.specs.declared.frame.Frame.{Frame}
use Rattle.afdx_port.specs.declared.Item.{Item}

-- the arrivals of one link
abbrev pub own : ℕ → List Item → List Item
own id arrivals = filter (λ x. nat_eq x.link id) arrivals

-- an arrival as its account sees it
abbrev pub frame_of_item : Item → Frame
frame_of_item x = record { stamp = x.stamp; size = x.size }
