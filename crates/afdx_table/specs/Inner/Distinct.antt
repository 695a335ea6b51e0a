-- The numbers of ports are different.
use Rattle.std.specs.Prelude.{nat_eq, List, map}
use Rattle.std.specs.List.{IsDistinct}
use Rattle.afdx_table.specs.declared.rows.PortRow.{PortRow}
use Rattle.afdx_table.specs.WellFormed.{Rises}

-- ports whose numbers rise have different numbers
abbrev pub PortsAreDistinct : Type 0
PortsAreDistinct = (ports : List PortRow) → Rises ports → IsDistinct nat_eq (map (λ p. p.id) ports)
