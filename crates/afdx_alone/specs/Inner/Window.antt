-- What contracts see of a window.
use Rattle.std.specs.Prelude.{ℕ, List, slice_range}
use Rattle.afdx_alone.specs.declared.window.Window.{Window}

-- the bytes that a window shows
abbrev pub items : Window → List ℕ
items w = slice_range w.bytes w.start w.end
