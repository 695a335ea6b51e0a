-- What a comparison keeps between its calls.
use Rattle.std.specs.Prelude.{◌≡◌, ℕ, ◌+◌, ◌*◌, ◌≤◌, true, length, Some, slice_get}
use Rattle.std.specs.List.{AllByRecursion}
use Rattle.afdx_units.specs.Line.{tick_of}
use Rattle.afdx_account.specs.Account.{account_terms}
use Rattle.afdx_table.specs.declared.rows.PortRow.{PortRow}
use Rattle.afdx_table.specs.Link.{Link}
use Rattle.afdx_table.specs.Content.{Content, port_row}
use Rattle.afdx_table.specs.WellFormed.{IsWellFormed}
use Rattle.afdx_load.specs.Load.{terms_of}
use Rattle.afdx_pairing.specs.declared.limits.Limits.{Limits}
use Rattle.afdx_pairing.specs.Events.{Numbered}
use Rattle.afdx_following.specs.declared.watch.Watch.{Watch}
use Rattle.afdx_following.specs.Watch.{has_record}
use Rattle.afdx_following.specs.Watched.{Watched}
use Rattle.afdx_compare.specs.declared.sources.Source.{Source}
use Rattle.afdx_compare.specs.Comparison.{Comparison}

-- the limits at the port of a number are those of its line and of the recorders
pub record IsLimited (w : Watch) (t : Content) (port : ℕ) (m : Limits) : Type 0 where
  pub row : PortRow
  pub is_row : port_row t port ≡ Some row
  pub speed : m.speed ≡ row.speed
  pub gap : m.gap ≡ w.gap
  pub tolerance : m.tolerance ≡ w.tolerance

-- a link is policed as the table says, and its ports are the table's
pub record IsOf (w : Watch) (t : Content) (l : Link) (f : Watched) : Type 0 where
  pub terms : account_terms f.account ≡ terms_of l
  pub outputs : AllByRecursion (λ o. IsLimited w t o.port o.limits) f.outputs

-- a comparison has each link and port of its well-formed table at its place, and each link is so
pub record IsSound (c : Comparison) : Type 0 where
  pub formed : IsWellFormed c.table
  pub many_links : length c.links ≡ length c.table.links
  pub many_ports : length c.ports ≡ length c.table.ports
  pub each : (place : ℕ) (l : Link) (f : Watched) → slice_get c.table.links place ≡ Some l → slice_get c.links place ≡ Some f → IsOf c.watch c.table l f

-- nothing came or left after an instant
abbrev pub IsBy : ℕ → Comparison → Type 0
IsBy at c = AllByRecursion (λ f. f.latest ≤ at) c.links

-- the latest instant at which by the stamps the line of a port was free again after a record
abbrev pub due_of : Watch → PortRow → Numbered → ℕ
due_of w p n = n.frame.stamp + w.gap * tick_of p.speed + w.tolerance

-- a record is of this source's port, and if it counts nothing came or left after it
pub record IsInTurn (s : Source) (n : Numbered) (c : Comparison) : Type 0 where
  pub row : PortRow
  pub there : slice_get c.table.ports s.place ≡ Some row
  pub number : row.id ≡ s.port
  pub in_order : has_record c.watch n.frame.stamp ≡ true → IsBy (due_of c.watch row n) c
