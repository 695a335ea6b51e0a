-- The list of what a run is to fail on (profile).
use Rattle.std.specs.Prelude.{◌≡◌, ◌==◌, ◌+◌, ℕ, Bool, true, false, codes, List, length, count_by, Option, Some, None}
use Rattle.std.specs.List.{slice_split}
use Rattle.std.specs.Str.{bytes_eq}
use Rattle.clap.specs.Words.{Text}
use Rattle.afdx_arguments.specs.declared.fail_on.FailOn.{FailOn}

-- the words of a list, between its commas
abbrev pub words_of : Text → List Text
words_of list = slice_split (λ b. b == 44) list

-- a word that is chosen is there once, another not at all
abbrev pub times : Bool → ℕ
times true = 1
times false = 0

-- the list has each word that is chosen once, and nothing else
pub record IsListOf (list : Text) (chosen : FailOn) : Type 0 where
  pub policed : count_by (λ w. bytes_eq w (codes "policed")) (words_of list) ≡ times chosen.policed
  pub filtered : count_by (λ w. bytes_eq w (codes "filtered")) (words_of list) ≡ times chosen.filtered
  pub lost : count_by (λ w. bytes_eq w (codes "lost")) (words_of list) ≡ times chosen.lost
  pub only : length (words_of list) ≡ times chosen.policed + times chosen.filtered + times chosen.lost

-- nothing is chosen if there is no list
abbrev pub Chooses : Option Text → FailOn → Type 0
Chooses None chosen = chosen ≡ record { policed = false; filtered = false; lost = false }
Chooses (Some list) chosen = IsListOf list chosen
