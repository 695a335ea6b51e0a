-- What is kept of the arrivals before the one that is reported, and what is reported of it.
use Rattle.std.specs.Prelude.{◌≡◌, ℕ, ◌<◌, ◌==◌, true, false, List, count_by, slice_index_or, Some}
use Rattle.afdx_table.specs.Link.{Link}
use Rattle.afdx_table.specs.Content.{Content}
use Rattle.afdx_account.specs.Policing.{passed_frames}
use Rattle.afdx_account.specs.Early.{early_by}
use Rattle.afdx_load.specs.Load.{terms_of}
use Rattle.afdx_core.specs.declared.step.Row.{Row}
use Rattle.afdx_core.specs.Rows.{named, passes, account_frames, frame_of_row}
use Rattle.afdx_core.specs.State.{Run}
use Rattle.afdx_core.specs.Kept.{AccountsAgree}
use Rattle.afdx_trace.specs.declared.tracer.Tracer.{Tracer}
use Rattle.afdx_trace.specs.Inner.Taken.{AreTaken}

-- how many of these arrivals came in at each port
abbrev pub AreCounted : List Row → List ℕ → Type 0
AreCounted before records = (port : ℕ) → port < 256 → slice_index_or records port 0 ≡ count_by (λ row. row.in_port == port) before

-- a link's frame that is passed, after these arrivals, is offered to these ports
pub record IsPassed (t : Content) (before : List Row) (row : Row) (to : List ℕ) : Type 0 where
  pub link : Link
  pub names : named t row.verdict ≡ Some link
  pub is_passed : passes link before row ≡ true
  pub leads : to ≡ link.to

-- a frame that is passed by this link, after these arrivals
pub record PassesOn (t : Content) (before : List Row) (row : Row) (l : Link) : Type 0 where
  pub names : named t row.verdict ≡ Some l
  pub is_passed : passes l before row ≡ true

-- a frame that is policed came so early
pub record IsPoliced (t : Content) (before : List Row) (row : Row) (early : ℕ) : Type 0 where
  pub link : Link
  pub names : named t row.verdict ≡ Some link
  pub is_policed : passes link before row ≡ false
  pub is_early : early ≡ early_by (terms_of link) (passed_frames (terms_of link) (account_frames link.id before)) (frame_of_row row)

-- what a tracer keeps agrees with these arrivals: the accounts, how many came in at each port, and what ports took
pub record Traces {Z : Type 0} (r : Run) (before : List Row) (latest : ℕ) (t : Tracer Z) : Type 0 where
  pub accounts : AccountsAgree r.table.links before latest t.accounts.items
  pub records : AreCounted before t.records
  pub taken : AreTaken r t.taken.items
