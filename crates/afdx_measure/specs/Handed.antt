-- What ports handed out.
use Rattle.std.specs.Prelude.{◌≡◌, ℕ, None}
use Rattle.afdx_core.specs.State.{Run, next_at}

-- each port handed out all that it sent so far
abbrev pub AllHandedOut : Run → Type 0
AllHandedOut r = (place : ℕ) → next_at r place ≡ None
