-- What each call adds at a port.
use Rattle.std.specs.Prelude.{◌≡◌, ℕ, ◌+◌, ◌≤◌, true, false, List, [], ◌∷◌, ◌++◌, Some}
use Rattle.afdx_table.specs.declared.rows.PortRow.{PortRow}
use Rattle.afdx_table.specs.Link.{Link, leads_to}
use Rattle.afdx_account.specs.Policing.{passed_frames}
use Rattle.afdx_account.specs.Early.{early_by}
use Rattle.afdx_load.specs.Load.{terms_of}
use Rattle.afdx_port.specs.declared.Item.{Item}
use Rattle.afdx_port.specs.declared.Sent.{Sent}
use Rattle.afdx_port.specs.declared.Offer.{Offer}
use Rattle.afdx_port.specs.declared.Offer.TheVariants.{Full, Queued}
use Rattle.afdx_port.specs.Service.{came}
use Rattle.afdx_port.specs.Admission.{occupied}
use Rattle.afdx_isolation.specs.Table.{settings_of}
use Rattle.afdx_core.specs.declared.step.Row.{Row}
use Rattle.afdx_core.specs.Rows.{named, passes, copy_of, copies, frame_of_row, account_frames}
use Rattle.afdx_core.specs.State.{Run, port_in, sent_in, occupied_in, early_in, answer_of, after_row, after_advance, after_finish}
use Rattle.afdx_core.specs.Isolation.{IsRun}

-- what each port had sent is a prefix of what it has sent later
abbrev pub GoesOn : Run → Run → Type 0
GoesOn old new = (p : PortRow) → (more : List Sent) × (sent_in new (Some p) ≡ sent_in old (Some p) ++ more)

-- each arrival keeps what ports had sent
abbrev pub ArrivalsGoOn : Type 0
ArrivalsGoOn = (r : Run) (row : Row) → r.finished ≡ false → r.latest ≤ row.stamp → GoesOn r (after_row row r)

-- each advance keeps what ports had sent
abbrev pub AdvancesGoOn : Type 0
AdvancesGoOn = (r : Run) (to : ℕ) → r.finished ≡ false → r.latest ≤ to → GoesOn r (after_advance to r)

-- the end keeps what ports had sent
abbrev pub FinishGoesOn : Type 0
FinishGoesOn = (r : Run) → r.finished ≡ false → GoesOn r (after_finish r)

-- the port has queued this copy of an arrival: its buffer holds it beside what it held then
pub record Joins (r : Run) (row : Row) (p : PortRow) (x : Item) : Type 0 where
  pub admitted : (port_in (after_row row r) p).admitted ≡ (port_in r p).admitted ++ x ∷ []
  pub bytes : occupied_in (after_row row r) (Some p) ≡ x.size + occupied (settings_of r.table.latency p) (came (settings_of r.table.latency p) x) (port_in r p).admitted

-- the port admitted nothing of this arrival
abbrev pub StaysOut : Run → Row → PortRow → Type 0
StaysOut r row p = (port_in (after_row row r) p).admitted ≡ (port_in r p).admitted

-- what its answer says has become of the copy: the port queued it, or admitted nothing
abbrev pub BecomesOf : Run → Row → PortRow → Item → Offer → Type 0
BecomesOf r row p x Queued = Joins r row p x
BecomesOf r row p x Full = StaysOut r row p

-- a passed frame's copy joins at a port of its link if the port answers that it queued it; other ports admit nothing
pub record ArrivalsJoin : Type 0 where
  pub offered : (r : Run) (row : Row) (p : PortRow) (l : Link) → IsRun (after_row row r) → named r.table row.verdict ≡ Some l → passes l r.rows row ≡ true → leads_to p.id l ≡ true
      → BecomesOf r row p (copy_of l r.rows row) (answer_of r (copy_of l r.rows row) (Some p))
  pub others : (r : Run) (row : Row) (p : PortRow) → copies r.table p.id r.rows row ≡ [] → StaysOut r row p

-- by how much a policed frame came too early is the same after it was taken as before
abbrev pub PolicedComeEarly : Type 0
PolicedComeEarly = (r : Run) (row : Row) (l : Link) → named r.table row.verdict ≡ Some l → passes l r.rows row ≡ false
    → early_in (after_row row r) (Some l) (frame_of_row row) ≡ early_by (terms_of l) (passed_frames (terms_of l) (account_frames l.id r.rows)) (frame_of_row row)
