-- What one more arrival adds, after what the arrivals before it came to.
use Rattle.std.specs.Prelude.{◌≡◌, ℕ, List, [], ◌∷◌, ◌++◌}
use Rattle.afdx_table.specs.Content.{Content}
use Rattle.afdx_port.specs.declared.Item.{Item}
use Rattle.afdx_core.specs.declared.step.Row.{Row}
use Rattle.afdx_core.specs.Rows.{fate_of, fates_of, copies, each_after, feed_of}

-- one more arrival adds its fate, and no other fate changes
abbrev pub OneMoreFateIsAppended : Type 0
OneMoreFateIsAppended = (t : Content) (rows : List Row) (row : Row) → fates_of t (rows ++ row ∷ []) ≡ fates_of t rows ++ fate_of t rows row ∷ []

-- one more arrival adds the copies of it that a port may be offered
abbrev pub NewCopiesAreAppended : Type 0
NewCopiesAreAppended = (t : Content) (port : ℕ) (rows : List Row) (row : Row) → feed_of t port (rows ++ row ∷ []) ≡ feed_of t port rows ++ copies t port rows row

-- one more item adds what f makes of it and those before it
abbrev pub OneMoreItemIsAppended : Type 0
OneMoreItemIsAppended = (f : List Item → Item → List Item) (items : List Item) (item : Item) → each_after f [] (items ++ item ∷ []) ≡ each_after f [] items ++ f items item
