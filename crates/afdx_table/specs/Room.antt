-- What a text says, if anything.
use Rattle.std.specs.Prelude.{ℕ, List}
use Rattle.std.specs.Str.{IsUtf8}
use Rattle.toml.specs.Errors.{IsBlank}

-- a text that has more than white space and comments
abbrev pub SaysSomething : List ℕ → Type 0
SaysSomething bytes = IsUtf8 bytes × (IsBlank bytes → ⊥)
