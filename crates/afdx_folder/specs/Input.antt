-- What a reader gives.
use Rattle.std.specs.Prelude.{◌≡◌, ℕ, List, Option, IfSome}

-- these are all the bytes that a reader gives, if that is known
abbrev pub AreGiven : Option (List ℕ) → List ℕ → Type 0
AreGiven input bytes = IfSome input (λ all. bytes ≡ all)
