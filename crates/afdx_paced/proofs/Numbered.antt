-- What a port sends came with an arrival: the numbers of its frames are below that of the arrivals.
use Rattle.std.proofs.Common.{◌≡◌, ℕ, ◌+◌, ◌<◌, ◌≤◌, List, [], ◌∷◌, ◌++◌, length, slice_get, Option, Some, None, arith, subst}
use Rattle.std.specs.Prelude.{All, Contains}
use Rattle.std.specs.List.{AllByRecursion}
use Rattle.std.proofs.lemmas.List.{length_push}
use Rattle.std.proofs.lemmas.List.Elements.{All-contains, All-from_recursion}
use Rattle.std.proofs.lemmas.Option.{slice_get_within, get_or_from_slice_get}
use Rattle.afdx_table.specs.declared.rows.PortRow.{PortRow}
use Rattle.afdx_table.specs.Link.{Link}
use Rattle.afdx_table.specs.Content.{Content}
use Rattle.afdx_port.specs.declared.Item.{Item}
use Rattle.afdx_port.specs.declared.Sent.{Sent}
use Rattle.afdx_port.specs.Service.{sent_of}
use Rattle.afdx_port.specs.Content.{done}
use Rattle.afdx_port.specs.Inner.Course.{SentIsOfItems}
use Rattle.afdx_core.specs.declared.step.Row.{Row}
use Rattle.afdx_core.specs.Rows.{named, copy_of, copies_by, copies, each_after, feed_of}
use Rattle.afdx_core.specs.State.{Run, port_in, sent_in}
use Rattle.afdx_session.proofs.Numbered.{all_cond, admit_all_of, all_append}

-- what holds at each place
pub each_at : {X : Type 0} (P : X → Type 0) (xs : List X) (k : ℕ) (x : X) → All P xs → slice_get xs k ≡ Some x → P x
each_at P xs k x all at = subst P (get_or_from_slice_get xs k x x at) (all k x (slice_get_within xs k x at))

abbrev Below : ℕ → Item → Type 0
Below n item = item.number < n

one_copy : (n : ℕ) (link : Option Link) (port : ℕ) (earlier : List Row) (row : Row) → length earlier < n → AllByRecursion (Below n) (copies_by link port earlier row)
one_copy n None port earlier row lt = tt
one_copy n (Some l) port earlier row lt = all_cond (Below n) _ (copy_of l earlier row ∷ []) [] (lt, tt) tt

copies_numbered : (n : ℕ) (t : Content) (port : ℕ) (earlier rows : List Row) → length earlier + length rows ≤ n → AllByRecursion (Below n) (each_after (copies t port) earlier rows)
copies_numbered n t port earlier [] le = tt
copies_numbered n t port earlier (row ∷ rows) le =
    all_append (Below n) (copies t port earlier row) (each_after (copies t port) (earlier ++ row ∷ []) rows)
    (one_copy n (named t row.verdict) port earlier row (omega (arith, le)))
    (copies_numbered n t port (earlier ++ row ∷ []) rows (omega (arith, le, length_push earlier row)))

feed_numbered : (t : Content) (port : ℕ) (rows : List Row) → AllByRecursion (Below (length rows)) (feed_of t port rows)
unfolding feed_of
feed_numbered t port rows = copies_numbered (length rows) t port [] rows (omega arith)

pub sent_numbered : SentIsOfItems → (r : Run) (p : PortRow) (k : ℕ) (x : Sent) → slice_get (sent_in r (Some p)) k ≡ Some x → x.item.number < length r.rows
sent_numbered of_items r p k x at =
    let c = port_in r p in
    let items = admit_all_of (Below (length r.rows)) c.settings [] (feed_of r.table p.id r.rows) tt (feed_numbered r.table p.id r.rows) in
    All-contains (Below (length r.rows)) c.admitted x.item (All-from_recursion (Below (length r.rows)) c.admitted items)
    (each_at (λ (s : Sent). Contains c.admitted s.item) (sent_of (done c)) k x (of_items c) at)
