-- Records with their numbers, as contracts see them.
use Rattle.std.specs.Prelude.{ℕ, Bool, true, false}
use Rattle.afdx_pcap.specs.Record.{Record}
use Rattle.afdx_pairing.specs.declared.event.Mark.{Mark}
use Rattle.afdx_pairing.specs.declared.event.Event.{Event}
use Rattle.afdx_pairing.specs.declared.event.Event.TheVariants.{Kept, Early, Late, Missing, After, Extra, Before}

-- a record, and its number in its capture
pub record Numbered : Type 0 where
  pub number : ℕ
  pub frame : Record

-- the number and the stamp of a record, as they are reported
abbrev pub mark_of : Numbered → Mark
mark_of n = record { number = n.number; stamp = n.frame.stamp }

-- a record of this number, at this instant by the clock that all records are compared by
abbrev pub numbered_of : ℕ → ℕ → Record → Numbered
numbered_of number stamp r = record { number = number; frame = record r { stamp = stamp } }

-- an event that speaks against a switch
abbrev pub differs : Event → Bool
differs (Kept pair) = false
differs (Early pair) = true
differs (Late pair) = true
differs (Missing came) = true
differs (After came) = false
differs (Extra left policed) = true
differs (Before left) = false
