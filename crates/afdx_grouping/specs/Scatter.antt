-- What a latency that varies does to the links of a port: frames that came apart may be queued at once (profile).
use Rattle.std.specs.Prelude.{◌≡◌, ◌↔◌, ℕ, ◌+◌, ◌*◌, ◌<◌, ◌≤◌, List, [], ◌∷◌, Option, None, option_map, All}
use Rattle.std.specs.Option.{option_or}
use Rattle.afdx_serial.specs.Curves.{Straight, Curve, curve_at}
use Rattle.afdx_table.specs.declared.rows.PortRow.{PortRow}
use Rattle.afdx_table.specs.Link.{Link}
use Rattle.afdx_table.specs.Content.{Content}
use Rattle.afdx_load.specs.Load.{Load, load_of}
use Rattle.afdx_load.specs.Accepted.{Carries, IsAccepted, fault_at}
use Rattle.afdx_load.specs.declared.fault.LoadFault.{LoadFault}

-- ---- loads

-- a load if latencies differ by at most so many nanoseconds: at the queues each link has as much more jitter
abbrev pub scattered : ℕ → Load → Load
scattered d load = record load { burst = load.burst + load.rate * d; high_burst = load.high_burst + load.high_rate * d }

-- each port with links carries their load if latencies differ as much
abbrev pub IsAcceptedWith : ℕ → Content → Type 0
IsAcceptedWith d c = All (λ row. let load = load_of c.latency row.speed row.id c.links in 0 < load.highs + load.lows → Carries row (scattered d load)) c.ports

-- the fault of the first port that has one; a table's ports rise, so that it is the lowest
abbrev pub first_scattered_fault : ℕ → ℕ → List Link → List PortRow → Option LoadFault
first_scattered_fault d latency links [] = None
first_scattered_fault d latency links (row ∷ rows) =
    option_or (fault_at row (scattered d (load_of latency row.speed row.id links))) (first_scattered_fault d latency links rows)

-- ---- curves

-- what comes to the queues in a window came to the switch in one that is so many ns longer
abbrev pub later_line : ℕ → Straight → Straight
later_line d a = record { burst = a.burst + a.rate * d; rate = a.rate }

-- a curve of the queues, both of whose lines came to the switch in a window that is so many ns longer
abbrev pub later : ℕ → Curve → Curve
later d c = record { paid = later_line d c.paid; brought = option_map (later_line d) c.brought }

-- ---- laws

-- a curve that is later by so much is the curve of a window that is longer by it
abbrev pub LaterIsALongerWindow : Type 0
LaterIsALongerWindow = (d : ℕ) (c : Curve) (window : ℕ) → curve_at (later d c) window ≡ curve_at c (window + d)

-- if latencies do not differ, a load stays as it is, and a table is accepted as by its check
abbrev pub NothingIsScattered : Type 0
NothingIsScattered = ((load : Load) → scattered 0 load ≡ load) × ((c : Content) → IsAcceptedWith 0 c ↔ IsAccepted c)

-- a table is accepted, if latencies differ so, exactly if no port has a fault
abbrev pub AcceptedHasNoScatteredFault : Type 0
AcceptedHasNoScatteredFault = (d : ℕ) (c : Content) → IsAcceptedWith d c ↔ (first_scattered_fault d c.latency c.links c.ports ≡ None)

-- a table that is accepted if latencies differ so much is accepted if they differ by less
abbrev pub LessScatterIsAccepted : Type 0
LessScatterIsAccepted = (d e : ℕ) (c : Content) → d ≤ e → IsAcceptedWith e c → IsAcceptedWith d c
