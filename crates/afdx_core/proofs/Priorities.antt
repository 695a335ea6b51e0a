-- What a port sends of a link has the link's priority.
use Rattle.std.proofs.Common.{◌≡◌, ℕ, Bool, true, false, cond, ◌&&◌, List, [], ◌∷◌, ◌++◌, Option, Some, None, refl, sym, ap, ◌∙◌}
use Rattle.std.specs.Prelude.{All, Contains}
use Rattle.std.proofs.lemmas.List.Elements.{All-nil, All-cons, All-head, All-tail, All-append, All-weaker, All-contains}
use Rattle.std.proofs.lemmas.Option.{same_Some}
use Rattle.afdx_table.specs.declared.rows.PortRow.{PortRow}
use Rattle.afdx_table.specs.Link.{Link, leads_to}
use Rattle.afdx_table.specs.Content.{Content, link_row}
use Rattle.afdx_table.specs.WellFormed.{IsWellFormed}
use Rattle.afdx_table.specs.Inner.Found.{LinksAreFound}
use Rattle.afdx_port.specs.declared.Settings.{Settings}
use Rattle.afdx_port.specs.declared.Item.{Item}
use Rattle.afdx_port.specs.declared.Sent.{Sent}
use Rattle.afdx_port.specs.Admission.{fits, admit, admit_all}
use Rattle.afdx_port.specs.Inner.Course.{SentIsOfItems}
use Rattle.afdx_isolation.specs.Table.{settings_of}
use Rattle.afdx_core.specs.declared.step.Row.{Row}
use Rattle.afdx_core.specs.Rows.{named, passes, copy_of, copies_by, copies, each_after, feed_of}
use Rattle.afdx_core.specs.State.{Run, port_in, sent_in}
use Rattle.afdx_core.proofs.Isolating.{named_by}

-- what holds of all that is offered holds of all that is admitted
pub all_admitted : (P : Item → Type 0) (s : Settings) (items feed : List Item) → All P items → All P feed → All P (admit_all s items feed)
all_admitted P s items [] h all = h
all_admitted P s items (x ∷ feed) h all = all_admitted P s (admit s items x) feed (by (fits s items x)) (All-tail P x feed all) where
  by : (joins : Bool) → All P (cond joins (items ++ x ∷ []) items)
  by true = All-append P items (x ∷ []) h (All-cons P x [] (All-head P x feed all) (All-nil P))
  by false = h

abbrev IsAs : Link → Item → Type 0
IsAs l x = x.link ≡ l.id → x.priority ≡ l.priority

module _ (links : LinksAreFound) (t : Content) (well : IsWellFormed t) (l : Link) (among : Contains t.links l) where
  copy_is : (before : List Row) (row : Row) (m : Link) → named t row.verdict ≡ Some m → IsAs l (copy_of m before row)
  copy_is before row m is = λ same. ap (λ (k : Link). k.priority) (same_Some m l (sym (named_by links t row.verdict m is).1 ∙ ap (link_row t) same ∙ links.found t well l among))

  copies_are : (port : ℕ) (before : List Row) (row : Row) (o : Option Link) → named t row.verdict ≡ o → All (IsAs l) (copies_by o port before row)
  copies_are port before row None is = All-nil (IsAs l)
  copies_are port before row (Some m) is = by (passes m before row && leads_to port m) where
    by : (offered : Bool) → All (IsAs l) (cond offered (copy_of m before row ∷ []) [])
    by true = All-cons (IsAs l) (copy_of m before row) [] (copy_is before row m is) (All-nil (IsAs l))
    by false = All-nil (IsAs l)

  offered_are : (port : ℕ) (before rows : List Row) → All (IsAs l) (each_after (copies t port) before rows)
  offered_are port before [] = All-nil (IsAs l)
  offered_are port before (row ∷ rows) =
      All-append (IsAs l) (copies t port before row) (each_after (copies t port) (before ++ row ∷ []) rows) (copies_are port before row (named t row.verdict) refl)
      (offered_are port (before ++ row ∷ []) rows)

  feed_is : (port : ℕ) (rows : List Row) → All (IsAs l) (feed_of t port rows)
  unfolding feed_of
  feed_is port rows = offered_are port [] rows

pub have_their_priority : LinksAreFound → SentIsOfItems → (r : Run) (p : PortRow) (l : Link) → IsWellFormed r.table → Contains r.table.links l
    → All (λ (x : Sent). IsAs l x.item) (sent_in r (Some p))
have_their_priority links sent r p l well among =
    let items = (port_in r p).admitted in
    let all : All (IsAs l) items = all_admitted (IsAs l) (settings_of r.table.latency p) [] (feed_of r.table p.id r.rows) (All-nil (IsAs l)) (feed_is links r.table well l among p.id r.rows) in
    All-weaker (λ (x : Sent). Contains items x.item) (λ (x : Sent). IsAs l x.item) (λ x one. All-contains (IsAs l) items x.item all one) (sent_in r (Some p)) (sent (port_in r p))
