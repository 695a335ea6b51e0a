-- What ports are offered of a link, and what they send of it.
use Rattle.std.specs.Prelude.{◌≡◌, ℕ, ◌==◌, true, List, map, filter, Some, All, Contains}
use Rattle.afdx_table.specs.declared.rows.PortRow.{PortRow}
use Rattle.afdx_table.specs.Link.{Link, leads_to}
use Rattle.afdx_table.specs.Content.{Content, link_row}
use Rattle.afdx_table.specs.WellFormed.{IsWellFormed}
use Rattle.afdx_filter.specs.declared.outcome.Verdict.{Verdict}
use Rattle.afdx_filter.specs.declared.outcome.Verdict.TheVariants.{Clean}
use Rattle.afdx_account.specs.declared.frame.Frame.{Frame}
use Rattle.afdx_account.specs.Policing.{passed_frames}
use Rattle.afdx_port.specs.declared.Item.{Item}
use Rattle.afdx_load.specs.Load.{terms_of}
use Rattle.afdx_core.specs.declared.step.Row.{Row}
use Rattle.afdx_core.specs.Rows.{says_clean, named, account_frames, feed_of}
use Rattle.afdx_core.specs.State.{Run, sent_in}
use Rattle.afdx_isolation.specs.Arrivals.{frame_of_item}

-- the frames of a link among these items
abbrev pub part_of : ℕ → List Item → List Frame
part_of i items = map frame_of_item (filter (λ item. item.link == i) items)

-- a port that a link leads to is offered exactly what the link's policing passes of its own frames, in order
abbrev pub FeedIsPassed : Type 0
FeedIsPassed = (t : Content) (i port : ℕ) (l : Link) (rows : List Row) → link_row t i ≡ Some l → leads_to port l ≡ true
    → part_of i (feed_of t port rows) ≡ passed_frames (terms_of l) (account_frames i rows)

-- the verdict on a clean frame names a link of the table, and no other verdict names one
pub record VerdictsNameLinks : Type 0 where
  pub named_link : (t : Content) (v : Verdict) (l : Link) → named t v ≡ Some l → (v ≡ Clean l.id) × (link_row t l.id ≡ Some l) × Contains t.links l
  pub clean : (i : ℕ) (v : Verdict) → says_clean i v ≡ true → v ≡ Clean i

-- a copy that a port sent of a link has the link's priority
abbrev pub CopiesHaveTheirLinksPriority : Type 0
CopiesHaveTheirLinksPriority = (r : Run) (p : PortRow) (l : Link) → IsWellFormed r.table → Contains r.table.links l
    → All (λ x. x.item.link ≡ l.id → x.item.priority ≡ l.priority) (sent_in r (Some p))
