use Rattle.std.proofs.Common.{◌≤◌, ◌+◌, ◌*◌, ℕ, List, length}
use Rattle.std.specs.Io.KnownBytes.{Consumes}
use Rattle.afdx_alone.specs.Inner.Polices.{Polices}
use Rattle.afdx_alone.specs.Inner.Sizes.{longest_record, window_size}
use Rattle.afdx_alone.specs.Inner.Window.{items}
use Rattle.afdx_alone.proofs.answer.read_alone.Given as goal

-- of what was read all but the window was taken
abbrev pub invariant-loop-turn : goal.invariant-loop-turn
invariant-loop-turn g l = ((all : List ℕ) × Consumes (g.R.Read.remaining l.fn.input) (g.R.Read.remaining l.input) all × Polices l.link all (items l.window) l.policing)
    × (length (items l.window) ≤ longest_record) × (l.policing.count + length (items l.window) ≤ window_size * l._turn)
