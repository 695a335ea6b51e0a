-- The laws of the accounts and of the port on which the laws of this crate rest.
use Rattle.afdx_account.specs.Inner.Laws.{NextFrameJoinsWhereItConforms, PassedByTheirFrames, HeadroomIsCredited, HeadroomDecides, HeadroomIsDebited}
use Rattle.afdx_port.specs.declared.Item.{Item}
use Rattle.afdx_port.specs.Inner.Admission.{EarlierEventsStay}
use Rattle.afdx_port.specs.Inner.Course.{LineGoesOn, ArrivalJoinsTheLine, EventsAreInParts, EventsFollowTheLine, WorkIsOfTheLine, EventsAreOfItems, SentIsOfItems, WaitingIsOfItems}
use Rattle.afdx_port.specs.Inner.Events.{SentInTime}
use Rattle.afdx_port.specs.Inner.Order.{ReachesInOrder, KeepsOrder}
use Rattle.afdx_port.specs.Inner.Work.{WorkBoundsBytes}

-- all of these laws together
pub record Ground : Type 0 where
  pub credited : HeadroomIsCredited
  pub decides : HeadroomDecides
  pub debited : HeadroomIsDebited
  pub next_frame : NextFrameJoinsWhereItConforms
  pub by_frames : PassedByTheirFrames Item
  pub earlier_stay : EarlierEventsStay
  pub goes_on : LineGoesOn
  pub joins : ArrivalJoinsTheLine
  pub in_parts : EventsAreInParts
  pub follow : EventsFollowTheLine
  pub work : WorkIsOfTheLine
  pub waiting : WaitingIsOfItems
  pub events : EventsAreOfItems
  pub sent : SentIsOfItems
  pub order : KeepsOrder
  pub reaches : ReachesInOrder
  pub sent_in_time : SentInTime
  pub bytes : WorkBoundsBytes
