-- What an arrival that is no link's does to the accounts.
use Rattle.std.specs.Prelude.{◌≡◌, ℕ, ◌≤◌, List, ◌∷◌, [], ◌++◌, None}
use Rattle.afdx_table.specs.Content.{Content}
use Rattle.afdx_account.specs.declared.account.Account.{Account}
use Rattle.afdx_core.specs.declared.step.Row.{Row}
use Rattle.afdx_core.specs.Rows.{named}
use Rattle.afdx_core.specs.Kept.{AccountsAgree}

-- an arrival that is no link's leaves the accounts as they are
abbrev pub FilteredTouchNoAccount : Type 0
FilteredTouchNoAccount = (t : Content) (rows : List Row) (latest : ℕ) (row : Row) (accounts : List Account)
    → named t row.verdict ≡ None → latest ≤ row.stamp → AccountsAgree t.links rows latest accounts → AccountsAgree t.links (rows ++ row ∷ []) row.stamp accounts
