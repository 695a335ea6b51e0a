-- The clean arrivals of all links, in order, and what one port is offered of them: what the policing of its flows passes.
use Rattle.std.specs.Prelude.{ℕ, ◌≤◌, ◌≡◌, Bool, false, ◌&&◌, ◌||◌, nat_eq, if◌then◌else◌, List, [], ◌∷◌, ◌++◌, map, Contains}
use Rattle.afdx_units.specs.Line.{least_size}
use Rattle.afdx_account.specs.Policing.{conforms, passed_of, passed_frames}
use Rattle.afdx_account.specs.Level.{InOrder, headroom}
use Rattle.afdx_port.specs.declared.Item.{Item}
use Rattle.afdx_isolation.specs.Inner.Flow.{Flow}
use Rattle.afdx_isolation.specs.Arrivals.{own, frame_of_item}

-- the stamps do not fall
abbrev pub StampsDoNotFall : List Item → Type 0
StampsDoNotFall arrivals = InOrder 0 (map frame_of_item arrivals)

-- an arrival of a flow has its priority, and a size that it allows
abbrev pub IsClean : List Flow → Item → Type 0
IsClean flows x = (flow : Flow) → Contains flows flow → x.link ≡ flow.id → (flow.priority ≡ x.priority) × (least_size ≤ x.size) × (x.size ≤ flow.largest)

-- the arrivals of a flow that its policing passes
abbrev pub passed : Flow → List Item → List Item
passed flow arrivals = passed_of frame_of_item flow.terms (own flow.id arrivals)

-- x is of this flow, and its policing passes it after these arrivals
abbrev pub is_passed : List Item → Item → Flow → Bool
is_passed before x flow = nat_eq x.link flow.id && conforms flow.terms (passed_frames flow.terms (map frame_of_item (own flow.id before))) (frame_of_item x)

-- x is of one of the port's flows, whose policing passes it
abbrev pub joins : List Flow → List Item → Item → Bool
joins [] before x = false
joins (flow ∷ flows) before x = is_passed before x flow || joins flows before x

-- what the port is offered of these arrivals, which come after those before them
abbrev pub feed_after : List Flow → List Item → List Item → List Item
feed_after flows before [] = []
feed_after flows before (x ∷ arrivals) = if joins flows before x then x ∷ feed_after flows (before ++ x ∷ []) arrivals else feed_after flows (before ++ x ∷ []) arrivals

-- what the port is offered of all arrivals
abbrev pub feed_of : List Flow → List Item → List Item
feed_of flows arrivals = feed_after flows [] arrivals

-- what a flow's account, full at first, holds at `now` after these arrivals
abbrev pub level_after : List Item → ℕ → Flow → ℕ
level_after before now flow = headroom flow.terms (passed_frames flow.terms (map frame_of_item (own flow.id before))) now
