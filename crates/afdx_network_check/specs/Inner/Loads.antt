-- The bounds of a network's ports, as the code keeps them.
use Rattle.std.specs.Prelude.{ℕ, ◌+◌, List, [], ◌∷◌}
use Rattle.afdx_table.specs.Content.{Content}
use Rattle.afdx_load.specs.declared.delays.Bounds.{Bounds}
use Rattle.afdx_grouping.specs.Groups.{lesser_bounds}
use Rattle.afdx_network_check.specs.Net.{Network, rounding_at, scatter_at}

-- the bounds of the ports of a switch with this table
abbrev pub switch_bounds : Network → ℕ → Content → List Bounds
switch_bounds net n t = lesser_bounds (scatter_at net n t) (rounding_at net n) t

-- the bounds of all ports, by switch, of which n come before these
abbrev pub bounds_from : Network → ℕ → List Content → List (List Bounds)
bounds_from net n [] = []
bounds_from net n (t ∷ ts) = switch_bounds net n t ∷ bounds_from net (n + 1) ts
