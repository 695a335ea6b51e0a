-- The keys and values of a table as they stand in its text, and what a table's values are read from.
use Rattle.std.specs.Prelude.{◌≡◌, ℕ, suc, true, List, [], ◌∷◌, length, Some}
use Rattle.toml.specs.Data.{Members}
use Rattle.toml.specs.View.{view, table_view}
use Rattle.toml.specs.Tables.{Nodes, no_nodes, value, insert, close}
use Rattle.toml.specs.Parse.{lines}
use Rattle.toml.specs.declared.value.Value.{Value}
use Rattle.afdx_toml_split.specs.Joined.{are_plain}
use Rattle.afdx_table.specs.declared.fault.Key.{Key}
use Rattle.afdx_table.specs.declared.values.Source.{Source}
use Rattle.afdx_table.specs.declared.values.Source.TheVariants.{Tree, Pairs}
use Rattle.afdx_table.specs.Names.{key_text}

-- the nodes with these pairs, put in one after the other
abbrev pub nodes_after : Nodes → List (Key × Value) → Nodes
nodes_after ns [] = ns
nodes_after ns (p ∷ ps) = nodes_after (insert (key_text p.0) (value (view p.1)) ns) ps

-- the nodes of these pairs
abbrev pub nodes_in : List (Key × Value) → Nodes
nodes_in ps = nodes_after no_nodes ps

-- what the text says after these pairs makes them those, and what was plain stays so
abbrev pub ReadsLines : List (Key × Value) → List ℕ → List (Key × Value) → Type 0
ReadsLines before text after =
    (lines (suc (length text)) (nodes_in before, []) text ≡ Some (nodes_in after, []))
    × (are_plain (close (nodes_in before)) ≡ true → are_plain (close (nodes_in after)) ≡ true)

-- what a source says
abbrev pub members_of : Source → Members
members_of (Tree t) = table_view t.now
members_of (Pairs ps) = close (nodes_in ps.now)
