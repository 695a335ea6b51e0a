-- What holds of the events of a port, and of the ports that refused a copy.
use Rattle.std.specs.Prelude.{◌≡◌, ℕ, true, false, List, ◌∷◌, ◌++◌, map, filter}
use Rattle.afdx_port.specs.declared.Offer.{Offer}
use Rattle.afdx_port.specs.Content.{Content, done, answers_full}
use Rattle.afdx_core.specs.declared.step.Row.{Row}
use Rattle.afdx_core.specs.Rows.{named}
use Rattle.afdx_core.specs.State.{Run, offers_of}
use Rattle.afdx_trace.specs.Arrivals.{full_in}
use Rattle.afdx_trace.specs.Departures.{AreInOrder}

-- what a port has carried out is in order of its instants. If one copy is discarded at the instant at which another starts, the discarded one is first
abbrev pub EventsAreInOrder : Type 0
EventsAreInOrder = (c : Content) → AreInOrder (done c)

-- of these answers of ports, the ports that answered Full
abbrev pub full_ports : List (ℕ × Offer) → List ℕ
full_ports offers = map (λ o. o.0) (filter (λ o. answers_full o.1) offers)

-- a run when it had taken these of its arrivals
abbrev pub run_before : Run → List Row → Run
run_before r before = record { table = r.table; rows = before; latest = r.latest; handed = r.handed; finished = false }

-- once all is carried out, the ports that are reported to have refused a copy of an arrival are those that answered Full to it: whose
-- buffer had no room for it
abbrev pub FullIsExact : Type 0
FullIsExact = (r : Run) → r.finished ≡ true → (before after : List Row) (row : Row) → r.rows ≡ before ++ row ∷ after
    → full_in r (named r.table row.verdict) before row ≡ full_ports (offers_of (run_before r before) row)
