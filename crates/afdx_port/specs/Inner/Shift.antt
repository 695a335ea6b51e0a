-- What a latency changes: it moves all that a port does (profile).
use Rattle.std.specs.Prelude.{ℕ, ◌+◌, ◌-◌, ◌≤◌, ◌≡◌, List, map}
use Rattle.afdx_port.specs.declared.Settings.{Settings}
use Rattle.afdx_port.specs.declared.Item.{Item}
use Rattle.afdx_port.specs.Service.{Event, sending, aging, service}
use Rattle.afdx_port.specs.Admission.{admitted}

-- the port that queues at once, and gives its items the rest of the delay
abbrev pub at_once : Settings → Settings
at_once s = record { speed = s.speed; buffer = s.buffer; max_delay = s.max_delay - s.latency; latency = 0 }

-- an event, d nanoseconds later
abbrev pub later_by : ℕ → Event → Event
later_by d (sending x) = sending (record { item = x.item; begin = x.begin + d; end = x.end + d })
later_by d (aging x) = aging (record { item = x.item; at = x.at + d })

-- the laws: if the latency is within the greatest delay, the events are those of such a port, each one latency later
abbrev pub LatencyMovesEvents : Type 0
LatencyMovesEvents = (s : Settings) (items : List Item) → s.latency ≤ s.max_delay → service s 0 items ≡ map (later_by s.latency) (service (at_once s) 0 items)

-- if the latency is within the greatest delay, the same items are admitted
abbrev pub LatencyAdmitsTheSame : Type 0
LatencyAdmitsTheSame = (s : Settings) (feed : List Item) → s.latency ≤ s.max_delay → admitted s feed ≡ admitted (at_once s) feed
