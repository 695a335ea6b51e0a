-- Links that are read one by one, each from its own text.
use Rattle.std.specs.Prelude.{◌≡◌, ℕ, ◌+◌, ◌≤◌, List, ◌∷◌, length, Ok}
use Rattle.toml.specs.Data.{Members}
use Rattle.afdx_toml_split.specs.Joined.{joined, AreRead}
use Rattle.afdx_table.specs.declared.rows.PortRow.{PortRow}
use Rattle.afdx_table.specs.Link.{Link}
use Rattle.afdx_table.specs.Links.{links_from}

-- the text is one link's or several links' texts, and these are the links with those before them, of which n were read
abbrev pub AreReadApart : ℕ → List PortRow → ℕ → List Link → List ℕ → List Link → Type 0
AreReadApart version ports n before text links =
    (this : List ℕ) × (texts : List (List ℕ)) × (ms : Members) × (tables : List Members)
    × (text ≡ joined this texts) × AreRead (this ∷ texts) (ms ∷ tables) × (n + length (ms ∷ tables) ≤ 4096)
    × (links_from version ports n before (ms ∷ tables) ≡ Ok links)
