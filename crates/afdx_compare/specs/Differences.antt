-- The file of differences, as comma-separated values with a line feed after each row (profile).
use Rattle.std.specs.Prelude.{ℕ, ◌+◌, ℤ, pos, negsuc, codes, decimal, List, [], ◌∷◌, ◌++◌, flat_map, Option, Some, None, slice_get}
use Rattle.std.specs.Option.{option_map}
use Rattle.afdx_table.specs.declared.rows.PortRow.{PortRow}
use Rattle.afdx_pairing.specs.declared.event.Mark.{Mark}
use Rattle.afdx_merging.specs.declared.clock.Clock.{Clock}
use Rattle.afdx_merging.specs.Merge.{moved}
use Rattle.afdx_recordings.specs.declared.recordings.Recordings.{Recordings}
use Rattle.afdx_recordings.specs.declared.offsets.Offsets.{Offsets}
use Rattle.afdx_recordings.specs.Recordings.{offset_at}
use Rattle.afdx_compare.specs.declared.row.Kind.{Kind}
use Rattle.afdx_compare.specs.declared.row.Kind.TheVariants.{Missing, Extra, Early, Late, Foreign}
use Rattle.afdx_compare.specs.declared.row.Row.{Row}
use Rattle.afdx_compare.specs.Comparison.{Port, Comparison}
use Rattle.afdx_compare.specs.Rows.{rows_at}

-- the first line: the names of the columns
abbrev pub heading : List ℕ
heading = codes "port,link,kind,record_in,stamp_in,record_out,stamp_out,delay,bound\n"

-- ---- columns

-- the word for what speaks against the switch
abbrev pub kind_text : Kind → List ℕ
kind_text Missing = codes "missing"
kind_text Extra = codes "extra"
kind_text Early = codes "early"
kind_text Late = codes "late"
kind_text Foreign = codes "foreign"

-- a column that is not the first
abbrev pub column : List ℕ → List ℕ
column text = codes "," ++ text

-- a number, or nothing
abbrev pub optional : Option ℕ → List ℕ
optional None = []
optional (Some n) = decimal n

-- the number of a frame or a record in its capture, and its stamp
abbrev pub mark_columns : Option Mark → List ℕ
mark_columns None = column [] ++ column []
mark_columns (Some mark) = column (decimal mark.number) ++ column (decimal mark.stamp)

-- what takes an offset off stamps again
abbrev pub clock_back : ℤ → Clock
clock_back (pos ns) = record { later = 0; sooner = ns; delay = 0 }
clock_back (negsuc ns) = record { later = ns + 1; sooner = 0; delay = 0 }

-- a record, with its stamp as it was before the offset was added
abbrev pub without : ℤ → Mark → Mark
without offset mark = record mark { stamp = moved (clock_back offset) mark.stamp }

-- ---- rows

-- the port, the link and the kind
abbrev pub kind_columns : ℕ → Row → List ℕ
kind_columns port r = decimal port ++ column (optional r.link) ++ column (kind_text r.kind)

-- the delay and the bound, which end the row
abbrev pub bound_columns : Row → List ℕ
bound_columns r = column (optional r.delay) ++ column (optional r.bound) ++ codes "\n"

-- the row of the port of a number, whose recorder's stamps had this offset added
abbrev pub row_line : ℤ → ℕ → Row → List ℕ
row_line offset port r = kind_columns port r ++ mark_columns r.came ++ mark_columns (option_map (without offset) r.left) ++ bound_columns r

-- the rows of a port, in the order in which they were found
abbrev pub port_rows : Offsets → Comparison → PortRow → Port → List ℕ
port_rows offsets c row p = flat_map (row_line (offset_at offsets row.id) row.id) (rows_at row.id c p)

-- the rows of the port at a place of the table
abbrev pub place_rows : Offsets → Comparison → Option PortRow → Port → List ℕ
place_rows offsets c None p = []
place_rows offsets c (Some row) p = port_rows offsets c row p

-- the rows of ports that are in the table from this place on
abbrev pub all_rows : Offsets → Comparison → ℕ → List Port → List ℕ
all_rows offsets c place [] = []
all_rows offsets c place (p ∷ ps) = place_rows offsets c (slice_get c.table.ports place) p ++ all_rows offsets c (place + 1) ps

-- a heading, and the rows of all ports, by rising number
abbrev pub differences_of : Recordings → Comparison → List ℕ
differences_of r c = heading ++ all_rows r.offsets c 0 c.ports
