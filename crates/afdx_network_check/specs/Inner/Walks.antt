-- The ways of a network whose loads are accepted, as the code finds them.
use Rattle.std.specs.Prelude.{◌≡◌, ℕ, List, Some, IsSome, Contains}
use Rattle.afdx_wiring.specs.declared.layout.Wire.{Wire}
use Rattle.afdx_network_check.specs.declared.exit.Exit.{Exit}
use Rattle.afdx_network_check.specs.declared.ways.Way.{Way}
use Rattle.afdx_network_check.specs.Net.{Network, Row, Back, rows_of, IsWayBack, source_of}
use Rattle.afdx_network_check.specs.Order.{row_before, hop_on}
use Rattle.afdx_network_check.specs.Ways.{line_of, IsWayOver}

-- the way of a row's link from its source to the row
abbrev pub IsWayTo : Network → Row → Way → Type 0
IsWayTo net r w = (backs : List Back) × IsWayBack net r backs × IsWayOver net (source_of r backs) backs w

-- each row has a bound at the port of a line on which it sends its link
abbrev pub HopsAreThere : Network → Type 0
HopsAreThere net = (id : ℕ) (line : Wire) (r : Row) → row_before net id line ≡ Some r → IsSome (hop_on net r line.from.port line.delay)

-- the exit is that of a row of the network
pub record HasRow (net : Network) (x : Exit) : Type 0 where
  pub row : Row
  pub known : Contains (rows_of net) row
  pub switch : row.switch ≡ x.switch
  pub number : row.link.id ≡ x.link
  pub leads : row_before net x.link (line_of x) ≡ Some row
