-- Outages: switches and wires that are down, over which nothing comes (profile). The tables are judged, and the ways found, as with none.
use Rattle.std.specs.Prelude.{◌&&◌, ◌||◌, Bool, false, not, List, map, filter}
use Rattle.std.specs.List.{list_any}
use Rattle.afdx_wiring.specs.declared.layout.End.{End}
use Rattle.afdx_wiring.specs.declared.layout.Wire.{Wire}
use Rattle.afdx_network_check.specs.declared.ways.Way.{Way}
use Rattle.afdx_wiring.specs.File.{Switch, Layout, is_down, is_end}
use Rattle.afdx_network_check.specs.Net.{Network}
use Rattle.afdx_network_check.specs.Ways.{AreWaysOf}

-- ---- what comes

-- a link's frames go no further at this output port: its switch is down, or the wire from there
abbrev pub is_cut : Layout → End → Bool
is_cut l e = is_down l.switches e.switch || list_any (λ w. is_end w.from e && w.down) l.wires

-- the way uses something that is down: what its link sends does not come to its end
abbrev pub is_lost : Layout → Way → Bool
is_lost l w = list_any (is_cut l) w.ports.items

-- the ways that use nothing that is down
abbrev pub up_of : Layout → List Way → List Way
up_of l ways = filter (λ w. not (is_lost l w)) ways

-- the ways that use something that is down
abbrev pub lost_of : Layout → List Way → List Way
lost_of l ways = filter (is_lost l) ways

-- ---- the same with none

-- a switch that is not down
abbrev pub up_switch : Switch → Switch
up_switch s = record s { down = false }

-- a wire that is not down
abbrev pub up_wire : Wire → Wire
up_wire w = record w { down = false }

-- the network of the same file with nothing down
abbrev pub all_up : Network → Network
all_up net = record net { layout = record net.layout { switches = map up_switch net.layout.switches; wires = map up_wire net.layout.wires } }

-- an outage changes no way, neither those that use what is down nor the others
abbrev pub OutagesChangeNoWay : Type 0
OutagesChangeNoWay = (net : Network) (ways : List Way) → AreWaysOf net ways → AreWaysOf (all_up net) ways
