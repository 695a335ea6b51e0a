-- A layout that is read is within the limits of the file.
use Rattle.std.specs.Prelude.{◌≡◌, ℕ, ◌≤◌, List, length, find, All, Some, Ok}
use Rattle.afdx_wiring.specs.File.{Layout, is_end, layout_of}

-- at most 64 switches, and each wire of at most a millisecond
abbrev pub LayoutsAreWithinLimits : Type 0
LayoutsAreWithinLimits = (bytes : List ℕ) (l : Layout) → layout_of bytes ≡ Ok l → (length l.switches ≤ 64) × All (λ w. w.delay ≤ 1000000) l.wires

-- each wire is the first one that goes to its port
abbrev pub NoPortHasTwoWires : Type 0
NoPortHasTwoWires = (bytes : List ℕ) (l : Layout) → layout_of bytes ≡ Ok l → All (λ w. find (λ v. is_end v.to w.to) l.wires ≡ Some w) l.wires
