-- A text of TOML 1.1 that ends in the elements of the array of tables `link`, each under its header, and what they say by themselves.
use Rattle.std.specs.Prelude.{◌≡◌, ℕ, Bool, true, false, ◌&&◌, not, if◌then◌else◌, List, [], ◌∷◌, ◌++◌, codes, Some, is_some}
use Rattle.toml_parser.specs.Lexical.{line_feed}
use Rattle.toml.specs.Data.{Data, table, array, as_table, Items, no_items, item, Members, no_members, member, same_key, get_member}
use Rattle.toml.specs.Parse.{ends_line, parse_document}

-- the key of the array
abbrev pub link : List ℕ
link = codes "link"

-- the header of an element
abbrev pub header : List ℕ
header = codes "[[link]]"

-- the texts, with the header on a line of its own before each but the first
abbrev pub joined : List ℕ → List (List ℕ) → List ℕ
joined text [] = text
joined text (next ∷ rest) = text ++ line_feed ∷ (header ++ joined next rest)

-- the last item is a table
abbrev pub ends_in_table : Items → Bool
ends_in_table no_items = false
ends_in_table (item d no_items) = is_some (as_table d)
ends_in_table (item d (item e ds)) = ends_in_table (item e ds)

-- neither a table nor an array that ends in one
abbrev pub is_plain : Data → Bool
is_plain (table ms) = false
is_plain (array ds) = not (ends_in_table ds)
is_plain _ = true

-- every value is plain
abbrev pub are_plain : Members → Bool
are_plain no_members = true
are_plain (member k d ms) = is_plain d && are_plain ms

-- each text leaves the line of the header before it to that header, and is read by itself as the table beside it, which is plain
abbrev pub AreRead : List (List ℕ) → List Members → Type 0
AreRead [] [] = Unit {0}
AreRead [] (ms ∷ tables) = ⊥
AreRead (text ∷ texts) [] = ⊥
AreRead (text ∷ texts) (ms ∷ tables) = (ends_line text ≡ true) × (parse_document text ≡ Some ms) × (are_plain ms ≡ true) × AreRead texts tables

-- the tables as the items of an array
abbrev pub items_of : List Members → Items
items_of [] = no_items
items_of (ms ∷ tables) = item (table ms) (items_of tables)

-- every key passes
abbrev pub all_keys : (List ℕ → Bool) → Members → Bool
all_keys p no_members = true
all_keys p (member k d ms) = p k && all_keys p ms

-- the whole has what the top has, and under the array's key these tables
pub record HasLinks (top : Members) (tables : List Members) (whole : Members) : Type 0 where
  pub values : (k : List ℕ) → get_member k whole ≡ (if same_key k link then Some (array (items_of tables)) else get_member k top)
  pub keys : (p : List ℕ → Bool) → all_keys p whole ≡ (p link && all_keys p top)
