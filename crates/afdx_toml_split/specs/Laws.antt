-- The laws, as their functions state them.
use Rattle.std.specs.Prelude.{◌≡◌, ℕ, List, ◌∷◌, Some, None}
use Rattle.toml.specs.Data.{Members, get_member}
use Rattle.toml.specs.Parse.{parse_document}
use Rattle.afdx_toml_split.specs.Joined.{link, joined, AreRead, HasLinks}

-- what the text before the first element says, and each element by itself, is what the whole text says
abbrev pub LinksAreReadApart : Type 0
LinksAreReadApart =
    (head : List ℕ) (top : Members) (text : List ℕ) (texts : List (List ℕ)) (ms : Members) (tables : List Members)
    → parse_document head ≡ Some top → get_member link top ≡ None → AreRead (text ∷ texts) (ms ∷ tables)
    → (whole : Members) × (parse_document (joined head (text ∷ texts)) ≡ Some whole) × HasLinks top (ms ∷ tables) whole
