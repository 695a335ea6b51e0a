-- What ports are offered, and so what they admit, comes in the order of the stamps.
use Rattle.std.proofs.Common.{ℕ, ◌≤◌, Bool, true, false, cond, ◌&&◌, List, [], ◌∷◌, ◌++◌, map, Option, Some, None, arith}
use Rattle.std.specs.Prelude.{All, AllPairs}
use Rattle.std.proofs.lemmas.List.Kept.{AllPairs-cons}
use Rattle.std.proofs.lemmas.List.Elements.{All-nil, All-cons, All-weaker}
use Rattle.afdx_account.specs.Level.{InOrder}
use Rattle.afdx_table.specs.Link.{Link, leads_to}
use Rattle.afdx_table.specs.Content.{Content}
use Rattle.afdx_table.specs.declared.rows.PortRow.{PortRow}
use Rattle.afdx_port.specs.declared.Item.{Item}
use Rattle.afdx_port.specs.Inner.Admission.{AdmittedInOrder}
use Rattle.afdx_isolation.specs.Table.{settings_of}
use Rattle.afdx_core.specs.declared.step.Row.{Row}
use Rattle.afdx_core.specs.Rows.{frame_of_row, named, passes, copy_of, copies_by, copies, each_after, feed_of}
use Rattle.afdx_core.specs.State.{Run, admitted_in}
use Rattle.afdx_core.specs.Isolation.{IsRun}

record From (from : ℕ) (items : List Item) : Type 0 where
  later : All (λ (x : Item). from ≤ x.stamp) items
  order : AllPairs (λ (a : Item) (b : Item). a.stamp ≤ b.stamp) items

none_from : (from : ℕ) → From from []
none_from from = record { later = All-nil (λ (x : Item). from ≤ x.stamp); order = λ i j d lt within. absurd (omega (arith, within)) }

sooner : (from later : ℕ) (items : List Item) → from ≤ later → From later items → From from items
sooner from later items le h = record { later = All-weaker (λ (x : Item). later ≤ x.stamp) (λ (x : Item). from ≤ x.stamp) (λ x more. omega (arith, le, more)) items h.later; order = h.order }

one_more : (from : ℕ) (x : Item) (items : List Item) → from ≤ x.stamp → From x.stamp items → From from (x ∷ items)
one_more from x items le h = record {
  later = All-cons (λ (y : Item). from ≤ y.stamp) x items le (sooner from x.stamp items le h).later;
  order = AllPairs-cons (λ (a : Item) (b : Item). a.stamp ≤ b.stamp) x items h.later h.order;
}

offered_from : (t : Content) (port from : ℕ) (before rows : List Row) → InOrder from (map frame_of_row rows) → From from (each_after (copies t port) before rows)
offered_from t port from before [] order = none_from from
offered_from t port from before (row ∷ rows) order = by_link (named t row.verdict) (offered_from t port row.stamp (before ++ row ∷ []) rows order.1)
  where
    more : List Item
    more = each_after (copies t port) (before ++ row ∷ []) rows

    by_copy : (l : Link) (b : Bool) → From row.stamp more → From from (cond b (copy_of l before row ∷ []) [] ++ more)
    by_copy l true h = one_more from (copy_of l before row) more order.0 h
    by_copy l false h = sooner from row.stamp more order.0 h

    by_link : (o : Option Link) → From row.stamp more → From from (copies_by o port before row ++ more)
    by_link None h = sooner from row.stamp more order.0 h
    by_link (Some l) h = by_copy l (passes l before row && leads_to port l) h

feed_rises : (t : Content) (port : ℕ) (rows : List Row) → InOrder 0 (map frame_of_row rows) → AllPairs (λ (a : Item) (b : Item). a.stamp ≤ b.stamp) (feed_of t port rows)
unfolding feed_of
feed_rises t port rows order = (offered_from t port 0 [] rows order).order

pub admitted_rise : AdmittedInOrder → (r : Run) (o : Option PortRow) → IsRun r → AllPairs (λ (a : Item) (b : Item). a.stamp ≤ b.stamp) (admitted_in r o)
admitted_rise law r None run = λ i j d lt within. absurd (omega (arith, within))
admitted_rise law r (Some p) run = law (settings_of r.table.latency p) (feed_of r.table p.id r.rows) (feed_rises r.table p.id r.rows run.stamps)
