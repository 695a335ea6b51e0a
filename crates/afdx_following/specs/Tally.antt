-- The numbers of a link at an output port (profile).
use Rattle.std.specs.Prelude.{◌≡◌, ◌↔◌, ℕ, ◌+◌, ◌==◌, ◌&&◌, min, max, Bool, true, List, [], ◌∷◌, Option, Some, None}
use Rattle.std.specs.List.{AllByRecursion}
use Rattle.afdx_pairing.specs.declared.event.Event.{Event}
use Rattle.afdx_pairing.specs.declared.event.Event.TheVariants.{Kept, Early, Late, Missing, After, Extra, Before}
use Rattle.afdx_pairing.specs.Kept.{IsFine}
use Rattle.afdx_following.specs.declared.tally.Range.{Range}
use Rattle.afdx_following.specs.declared.tally.Tally.{Tally}

-- a count with one more; a counter of 64 bits stays at its greatest value
abbrev pub up : ℕ → ℕ
up n = min (n + 1) 18446744073709551615

-- the least and the greatest delay in ns, with one more
abbrev pub widened : Option Range → ℕ → Option Range
widened None delay = Some (record { least = delay; greatest = delay })
widened (Some r) delay = Some (record { least = min r.least delay; greatest = max r.greatest delay })

-- the numbers before any event
abbrev pub no_events : Tally
no_events = record { kept = 0; early = 0; late = 0; missing = 0; after = 0; extra = 0; before = 0; delays = None }

-- one more event counts in the number of its kind; a pair's delay counts in the range too
abbrev pub with_event : Event → Tally → Tally
with_event (Kept pair) t = record t { kept = up t.kept; delays = widened t.delays pair.delay }
with_event (Early pair) t = record t { early = up t.early; delays = widened t.delays pair.delay }
with_event (Late pair) t = record t { late = up t.late; delays = widened t.delays pair.delay }
with_event (Missing came) t = record t { missing = up t.missing }
with_event (After came) t = record t { after = up t.after }
with_event (Extra left policed) t = record t { extra = up t.extra }
with_event (Before left) t = record t { before = up t.before }

-- the numbers with all of these events
abbrev pub tallied : List Event → Tally → Tally
tallied [] t = t
tallied (e ∷ events) t = tallied events (with_event e t)

-- the numbers of these events alone
abbrev pub tally_of : List Event → Tally
tally_of events = tallied events no_events

-- the frames that the account passed: those that were paired, and those that are missing or may leave after the end
abbrev pub passed_in : Tally → ℕ
passed_in t = t.kept + t.early + t.late + t.missing + t.after

-- the records that left: those that were paired, and those that are extra or may be of frames from before the beginning
abbrev pub seen_in : Tally → ℕ
seen_in t = t.kept + t.early + t.late + t.extra + t.before

-- nothing speaks against the switch
abbrev pub conforms_in : Tally → Bool
conforms_in t = (t.missing == 0) && (t.extra == 0) && (t.early == 0) && (t.late == 0)

-- nothing speaks against the switch exactly if nothing of what was told does
abbrev pub ConformsWhereFine : Type 0
ConformsWhereFine = (events : List Event) → (conforms_in (tally_of events) ≡ true) ↔ AllByRecursion IsFine events
