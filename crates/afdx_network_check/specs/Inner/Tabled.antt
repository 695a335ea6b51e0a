-- Each row of a network is of the table at its switch's place.
use Rattle.std.specs.Prelude.{Contains}
use Rattle.afdx_network_check.specs.Net.{Network, Row, IsRowOf, rows_of}

-- each row of a network is of the table at its switch's place
abbrev pub RowsAreOfTables : Type 0
RowsAreOfTables = (net : Network) (r : Row) → Contains (rows_of net) r → IsRowOf 0 net.tables r
