-- What speaks against a switch, row by row, and the order of rows (profile).
use Rattle.std.specs.Prelude.{ℕ, ◌+◌, ◌==◌, nat_lt, List, [], ◌∷◌, ◌++◌, map, flat_map, Option, Some, None, option_to_list, slice_get, if◌then◌else◌}
use Rattle.std.specs.Option.{option_or, option_map_or}
use Rattle.afdx_table.specs.Link.{Link}
use Rattle.afdx_pairing.specs.declared.event.Mark.{Mark}
use Rattle.afdx_pairing.specs.declared.event.Event.{Event}
use Rattle.afdx_pairing.specs.declared.event.Event.TheVariants.{Kept, Early, Late, Missing, After, Extra, Before}
use Rattle.afdx_following.specs.Output.{Output}
use Rattle.afdx_following.specs.Watched.{Watched}
use Rattle.afdx_compare.specs.declared.row.Kind.{Kind}
use Rattle.afdx_compare.specs.declared.row.Kind.TheVariants as kind
use Rattle.afdx_compare.specs.declared.row.Row.{Row}
use Rattle.afdx_compare.specs.Comparison.{Port, Comparison}

-- ---- rows

-- the row of a link with this bound: what it is, the frame that came, the record that left, and the delay, as far as there are such
abbrev pub link_row : ℕ → ℕ → Kind → Option Mark → Option Mark → Option ℕ → Row
link_row link bound what came left delay = record { link = Some link; kind = what; came = came; left = left; delay = delay; bound = Some bound }

-- the row of what was found of a link, if it speaks against the switch; an extra record has the policed frame of its bytes beside it
abbrev pub row_of : ℕ → ℕ → Event → Option Row
row_of link bound (Early pair) = Some (link_row link bound kind.Early (Some pair.came) (Some pair.left) (Some pair.delay))
row_of link bound (Late pair) = Some (link_row link bound kind.Late (Some pair.came) (Some pair.left) (Some pair.delay))
row_of link bound (Missing came) = Some (link_row link bound kind.Missing (Some came) None None)
row_of link bound (Extra left policed) = Some (link_row link bound kind.Extra policed (Some left) None)
row_of link bound (Kept pair) = None
row_of link bound (After came) = None
row_of link bound (Before left) = None

-- the row of a record of no link that leads to its port
abbrev pub foreign_row : Mark → Row
foreign_row left = record { link = None; kind = kind.Foreign; came = None; left = Some left; delay = None; bound = None }

-- ---- the rows of a port

-- the rows of what was found of a link
abbrev pub event_rows : ℕ → ℕ → List Event → List Row
event_rows link bound events = flat_map (λ e. option_to_list (row_of link bound e)) events

-- the rows of a link at an output port, if it is the one of this number
abbrev pub output_rows : ℕ → ℕ → Output → List Row
output_rows port link o = if o.port == port then event_rows link o.limits.bound o.found.differences else []

-- the rows of a link at the port of a number, which is among its own if it was recorded and the link leads there
abbrev pub link_rows : ℕ → ℕ → Watched → List Row
link_rows port link f = flat_map (output_rows port link) f.outputs

-- the rows of the link at a place of the table
abbrev pub row_rows : ℕ → Option Link → Watched → List Row
row_rows port None f = []
row_rows port (Some l) f = link_rows port l.id f

-- the rows of links that are in the table from this place on
abbrev pub links_rows : ℕ → List Link → ℕ → List Watched → List Row
links_rows port ls place [] = []
links_rows port ls place (f ∷ fs) = row_rows port (slice_get ls place) f ++ links_rows port ls (place + 1) fs

-- ---- their order

-- the instant by which a row is in order: that of the record that left, or of the frame if none left
abbrev pub instant_of : Row → ℕ
instant_of r = option_map_or (λ mark. mark.stamp) (option_or r.left r.came) 0

-- a row before the first of these that is no sooner
abbrev pub with_row : Row → List Row → List Row
with_row r [] = r ∷ []
with_row r (s ∷ rows) = if nat_lt (instant_of s) (instant_of r) then s ∷ with_row r rows else r ∷ s ∷ rows

-- rows by their instants; of equal ones the first stays first
abbrev pub in_order : List Row → List Row
in_order [] = []
in_order (r ∷ rows) = with_row r (in_order rows)

-- all rows of the port of a number: of equal instants those of links come in the table's order, and then those of no link
abbrev pub rows_at : ℕ → Comparison → Port → List Row
rows_at port c p = in_order (links_rows port c.table.links 0 c.links ++ map foreign_row p.rows)
