-- What holds of a port that can give what its flows ask for, whatever arrives.
use Rattle.std.specs.Prelude.{ℕ, ◌+◌, ◌≤◌, ◌≡◌, true, List, [], ◌++◌, map, All, Contains}
use Rattle.afdx_units.specs.declared.line.Priority.{Priority}
use Rattle.afdx_units.specs.declared.line.Priority.TheVariants.{High, Low}
use Rattle.afdx_account.specs.declared.frame.Frame.{Frame}
use Rattle.afdx_port.specs.declared.Settings.{Settings}
use Rattle.afdx_port.specs.declared.Item.{Item}
use Rattle.afdx_port.specs.declared.Sent.{Sent}
use Rattle.afdx_port.specs.Service.{Event, sending, aging, reach, item_of, service, sent_of, aged_of}
use Rattle.afdx_port.specs.Admission.{admitted}
use Rattle.afdx_port.specs.Content.{Content, done}
use Rattle.afdx_port.specs.Inner.Course.{line_at}
use Rattle.afdx_port.specs.Inner.Work.{item_cost}
use Rattle.afdx_isolation.specs.Inner.Flow.{Flow, Demand, IsPaidFor, IsWithinRate, HasBuffer, IsWithinDelay, CarriesFlows, AreDistinct, demand_of, bound}
use Rattle.afdx_isolation.specs.Inner.Potential.{KeepsPotentials}
use Rattle.afdx_isolation.specs.Inner.Account.{IsOfAFlow}
use Rattle.afdx_isolation.specs.Arrivals.{own, frame_of_item}
use Rattle.afdx_isolation.specs.Inner.Arrivals.{StampsDoNotFall, IsClean, passed, feed_of, level_after}

-- arrivals at the switch of this port: the flows are policed at prices that pay for line time, no two have one number,
-- and of all clean arrivals, of these flows and of others, the stamps do not fall
pub record Arrive (s : Settings) (flows : List Flow) (arrivals : List Item) : Type 0 where
  pub paid : All (IsPaidFor s) flows
  pub distinct : AreDistinct flows
  pub stamps : StampsDoNotFall arrivals
  pub clean : All (IsClean flows) arrivals

-- a sending that ends no sooner than the latency and its line time, and no later than its bound, after its item came
pub record IsInBound (s : Settings) (demand : Demand) (x : Sent) : Type 0 where
  pub least : x.item.stamp + s.latency + item_cost s x.item ≤ x.end
  pub most : x.end ≤ x.item.stamp + bound demand x.item.priority

-- the item is not discarded for its age, but sent within its bound
abbrev pub IsTimely : Settings → Demand → Event → Type 0
IsTimely s demand (sending x) = IsInBound s demand x
IsTimely s demand (aging x) = ⊥

-- at each instant from the last arrival on the potentials hold, if the flows ask for no more than the line gives
abbrev pub PotentialsHold : Type 0
PotentialsHold = (s : Settings) (flows : List Flow) (arrivals : List Item) (now : ℕ) → Arrive s flows arrivals → IsWithinRate s flows
    → All (λ (x : Item). x.stamp ≤ now) arrivals
    → KeepsPotentials s flows (reach s now) (level_after arrivals now) (line_at s (reach s now) (feed_of flows arrivals))

-- the first potential gives that all fits into the buffer: no copy is Full
abbrev pub NoneIsFull : Type 0
NoneIsFull = (s : Settings) (flows : List Flow) (arrivals : List Item) → Arrive s flows arrivals → IsWithinRate s flows → HasBuffer s flows
    → admitted s (feed_of flows arrivals) ≡ feed_of flows arrivals

-- if the bound of a priority is within the greatest delay, no item of it is Aged, and each is sent within the bound
abbrev pub KeepsBound : Priority → Type 0
KeepsBound priority = (s : Settings) (flows : List Flow) (arrivals : List Item) → Arrive s flows arrivals → IsWithinRate s flows → IsWithinDelay s flows priority
    → All (λ event. (item_of event).priority ≡ priority → IsTimely s (demand_of s flows) event) (service s 0 (feed_of flows arrivals))

-- the second potential gives the high bound: no high copy is Aged
abbrev pub HighKeepsBound : Type 0
HighKeepsBound = KeepsBound High

-- the third potential gives the low bound: no low copy is Aged
abbrev pub LowKeepsBound : Type 0
LowKeepsBound = KeepsBound Low

-- all that the port makes of these arrivals in the end: no copy is Full, none is Aged, each is sent within its bound,
-- and what leaves for a link is exactly what the link's policing passes of its own arrivals, in their order
pub record IsIsolatedPort (s : Settings) (flows : List Flow) (arrivals : List Item) : Type 0 where
  pub none_full : admitted s (feed_of flows arrivals) ≡ feed_of flows arrivals
  pub timely : All (IsTimely s (demand_of s flows)) (service s 0 (admitted s (feed_of flows arrivals)))
  pub exactly_passed : (flow : Flow) → Contains flows flow
      → own flow.id (map item_of (service s 0 (admitted s (feed_of flows arrivals)))) ≡ passed flow arrivals

-- the law of one port: if it carries its flows, it isolates them, whatever arrives
abbrev pub Isolates : Type 0
Isolates = (s : Settings) (flows : List Flow) (arrivals : List Item) → Arrive s flows arrivals → CarriesFlows s flows → IsIsolatedPort s flows arrivals

-- of each link a prefix of what its policing passes of its own arrivals has left, in order; once the port is finished, all of it
abbrev pub PrefixLeaves : List Flow → List Item → Content → Type 0
PrefixLeaves flows arrivals c = (flow : Flow) → Contains flows flow → (rest : List Item)
    × (own flow.id (map (λ (x : Sent). x.item) (sent_of (done c))) ++ rest ≡ passed flow arrivals)
    × (c.finished ≡ true → rest ≡ [])

-- what a port has done so far if it was offered what these arrivals gave it
pub record IsIsolatedSoFar (flows : List Flow) (arrivals : List Item) (c : Content) : Type 0 where
  pub none_full : c.admitted ≡ feed_of flows arrivals
  pub none_aged : aged_of (done c) ≡ []
  pub of_flows : All (λ (x : Sent). IsOfAFlow flows x.item) (sent_of (done c))
  pub in_bound : All (IsInBound c.settings (demand_of c.settings flows)) (sent_of (done c))
  pub prefix : PrefixLeaves flows arrivals c

-- at each instant before the end too, a port that carries its flows isolates them
abbrev pub IsolatesSoFar : Type 0
IsolatesSoFar = (c : Content) (flows : List Flow) (arrivals : List Item) → Arrive c.settings flows arrivals → CarriesFlows c.settings flows
    → c.admitted ≡ admitted c.settings (feed_of flows arrivals) → IsIsolatedSoFar flows arrivals c

-- the frames that leave a port for a link
abbrev pub frames_for : ℕ → Settings → List Flow → List Item → List Frame
frames_for id s flows arrivals = map frame_of_item (own id (map item_of (service s 0 (admitted s (feed_of flows arrivals)))))

-- the frames that leave for a link are the same at two ports, of two tables and two lists of arrivals, if the link's terms and its own
-- frames are the same, whatever the other links are and send
abbrev pub OthersChangeNothing : Type 0
OthersChangeNothing = (s s' : Settings) (flows flows' : List Flow) (flow flow' : Flow) (arrivals arrivals' : List Item)
    → Arrive s flows arrivals → CarriesFlows s flows → Arrive s' flows' arrivals' → CarriesFlows s' flows'
    → Contains flows flow → Contains flows' flow' → flow.terms ≡ flow'.terms → map frame_of_item (own flow.id arrivals) ≡ map frame_of_item (own flow'.id arrivals')
    → frames_for flow.id s flows arrivals ≡ frames_for flow'.id s' flows' arrivals'
