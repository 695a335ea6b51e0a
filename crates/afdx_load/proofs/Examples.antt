-- Worked examples of the definitions, which compute.
use Rattle.std.proofs.Common.{◌≡◌, ℕ, ◌*◌, List, [], ◌∷◌, Some, None, refl}
use Rattle.afdx_units.specs.declared.bag.Bag.TheVariants.{Ms1}
use Rattle.afdx_units.specs.declared.line.Speed.TheVariants.{Ten, Hundred}
use Rattle.afdx_units.specs.declared.line.Priority.{Priority}
use Rattle.afdx_units.specs.declared.line.Priority.TheVariants.{High, Low}
use Rattle.afdx_units.specs.declared.police.Police.TheVariants.{Byte, Frame}
use Rattle.afdx_table.specs.Link.{Link}
use Rattle.afdx_table.specs.declared.rows.PortRow.{PortRow}
use Rattle.afdx_load.specs.Load.{rate_of, burst_of, time_of, links_load, load_of}
use Rattle.afdx_account.specs.Policing.{parts}
use Rattle.afdx_load.specs.Bounds.{high_bound, low_bound}
use Rattle.afdx_load.specs.Accepted.{fault_at, first_fault}
use Rattle.afdx_load.specs.declared.fault.Rule.TheVariants.{Rate, LowDelay}

-- 1518 bytes each millisecond from port 1 to port 2
worked : Priority → Link
worked priority = record { id = 10; from = 1; to = 2 ∷ []; bag = Ms1; jitter = 0; max_size = 1518; priority = priority; police = Byte }

mixed : List Link
mixed = worked Low ∷ worked High ∷ []

-- what one link asks for
rate : rate_of Hundred (worked Low) ≡ 326430720
unfolding worked
rate = refl

burst : burst_of Hundred (worked Low) ≡ 159390 * parts
unfolding worked
burst = refl

longest : time_of Hundred (worked Low) ≡ 123040
unfolding worked
longest = refl

-- the same link, policed by frames
framed : Link
framed = record { id = 10; from = 1; to = 2 ∷ []; bag = Ms1; jitter = 0; max_size = 1518; priority = Low; police = Frame }

frame_rate : rate_of Hundred framed ≡ 251985920
unfolding framed
frame_rate = refl

frame_burst : burst_of Hundred framed ≡ 123040 * parts
unfolding framed
frame_burst = refl

-- the bounds of a mixed port
high : high_bound (load_of 0 Hundred 2 mixed) ≡ Some 282430
unfolding mixed worked links_load
high = refl

low : low_bound (load_of 0 Hundred 2 mixed) ≡ Some 379224
unfolding mixed worked links_load
low = refl

-- a port to which nothing leads has none
elsewhere : low_bound (load_of 0 Hundred 1 mixed) ≡ None
unfolding mixed worked links_load
elsewhere = refl

port : ℕ → PortRow
port max_delay = record { id = 2; speed = Hundred; buffer = 100000; max_delay = max_delay }

-- the first fault
late : first_fault 0 mixed (port 283000 ∷ []) ≡ Some (record { port = 2; rule = LowDelay; need = 379224; limit = 283000 })
unfolding mixed worked port links_load fault_at
late = refl

in_time : first_fault 0 mixed (port 380000 ∷ []) ≡ None
unfolding mixed worked port links_load fault_at
in_time = refl

slow : first_fault 0 (worked Low ∷ []) (record { id = 2; speed = Ten; buffer = 100000; max_delay = 500000000 } ∷ []) ≡ Some (record { port = 2; rule = Rate; need = 3264307200; limit = 2048000000 })
unfolding worked links_load fault_at
slow = refl
