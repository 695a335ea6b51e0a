-- The ports that refused a copy are those that answered Full to it.
use Rattle.std.proofs.Common.{◌≡◌, ℕ, suc, ◌+◌, ◌<◌, ◌==◌, nat_lt, ◌||◌, ◌&&◌, not, Bool, true, false, cond, List, [], ◌∷◌, ◌++◌, length, map, filter, Option, None, Some, refl, sym, ap, ◌∙◌}
use Rattle.std.proofs.Common.{arith}
use Rattle.std.proofs.Common.{append_assoc, append-nil}
use Rattle.std.specs.Prelude.{count_by, find}
use Rattle.std.specs.List.{list_any}
use Rattle.std.proofs.lemmas.List.{length-append}
use Rattle.std.proofs.lemmas.List.Folds.{list_any-append}
use Rattle.std.proofs.lemmas.List.Sums.{length-filter}
use Rattle.std.proofs.lemmas.Bool.{eq-eqb, ne_eqb}
use Rattle.std.proofs.lemmas.Bool.Decides.{nat_tests}
use Rattle.afdx_table.specs.declared.rows.PortRow.{PortRow}
use Rattle.afdx_table.specs.Link.{Link, names_port, leads_to}
use Rattle.afdx_table.specs.Content.{Content, port_row}
use Rattle.afdx_port.specs.declared.Settings.{Settings}
use Rattle.afdx_port.specs.declared.Item.{Item}
use Rattle.afdx_port.specs.declared.Sent.{Sent}
use Rattle.afdx_port.specs.declared.Aged.{Aged}
use Rattle.afdx_port.specs.declared.Offer.{Offer}
use Rattle.afdx_port.specs.declared.Offer.TheVariants.{Queued, Full}
use Rattle.afdx_port.specs.Service.{Event, sending, aging, item_of as item_in, service, sent_of, aged_of}
use Rattle.afdx_port.specs.Admission.{fits, admit, admit_all, admitted}
use Rattle.afdx_port.specs.Content.{done, answers_full}
use Rattle.afdx_port.specs.Inner.Admission.{AdmittedInParts}
use Rattle.afdx_port.specs.Inner.Events.{EachHasOneEvent}
use Rattle.afdx_isolation.specs.Table.{settings_of}
use Rattle.afdx_core.specs.declared.step.Row.{Row}
use Rattle.afdx_core.specs.Rows.{each_after, named, passes, copy_of, copies_by, copies, feed_of}
use Rattle.afdx_core.specs.State.{Run, sent_in, aged_in, answer_of, offers_by}
use Rattle.afdx_trace.specs.Arrivals.{took, refusing, full_in}
use Rattle.afdx_trace.specs.Inner.Laws.{full_ports, run_before, FullIsExact}

abbrev is_copy : ℕ → Item → Bool
is_copy k x = x.number == k

zero_more : (n : ℕ) → 0 + n ≡ n
zero_more n = omega arith

both_false : (a b : Bool) → a ≡ false → b ≡ false → (a || b) ≡ false
both_false a b no_a no_b = ap (λ (x : Bool). x || b) no_a ∙ no_b

either_false : (a b : Bool) → (a || b) ≡ false → (a ≡ false) × (b ≡ false)
either_false true b h = absurd (let e : true ≡ false = h in cc)
either_false false b h = (refl, h)

-- ---- a copy that was taken has an event, as its item

grouped : (a b c : Bool) → ((a || b) || c) ≡ (a || (b || c))
grouped true b c = refl
grouped false b c = refl

swapped : (a b c : Bool) → (a || (b || c)) ≡ (b || (a || c))
swapped true true c = refl
swapped true false c = refl
swapped false b c = refl

events_of : (k : ℕ) (events : List Event) → (list_any (λ (x : Sent). x.item.number == k) (sent_of events) || list_any (λ (x : Aged). x.item.number == k) (aged_of events))
    ≡ list_any (λ e. is_copy k (item_in e)) events
events_of k [] = refl
events_of k (sending x ∷ events) =
    grouped (is_copy k x.item) (list_any (λ (y : Sent). y.item.number == k) (sent_of events)) (list_any (λ (y : Aged). y.item.number == k) (aged_of events))
    ∙ ap (λ (b : Bool). is_copy k x.item || b) (events_of k events)
events_of k (aging x ∷ events) =
    swapped (list_any (λ (y : Sent). y.item.number == k) (sent_of events)) (is_copy k x.item) (list_any (λ (y : Aged). y.item.number == k) (aged_of events))
    ∙ ap (λ (b : Bool). is_copy k x.item || b) (events_of k events)

one_more : (n : ℕ) → true ≡ nat_lt 0 (suc n)
one_more n = grind (arith, nat_tests)

any_is_kept : {X : Type 0} (p : X → Bool) (xs : List X) → list_any p xs ≡ nat_lt 0 (length (filter p xs))
any_is_kept p [] = refl
any_is_kept p (x ∷ xs) = by (p x) (any_is_kept p xs) where
  by : (b : Bool) → list_any p xs ≡ nat_lt 0 (length (filter p xs)) → (b || list_any p xs) ≡ nat_lt 0 (length (cond b (x ∷ filter p xs) (filter p xs)))
  by true others = one_more (length (filter p xs))
  by false others = others

any_is_some : {X : Type 0} (p : X → Bool) (xs : List X) → list_any p xs ≡ nat_lt 0 (count_by p xs)
any_is_some p xs = any_is_kept p xs ∙ ap (nat_lt 0) (length-filter p xs)

served : EachHasOneEvent → (s : Settings) (items : List Item) (k : ℕ) → list_any (λ e. is_copy k (item_in e)) (service s 0 items) ≡ list_any (is_copy k) items
served one s items k =
    any_is_some (λ e. is_copy k (item_in e)) (service s 0 items) ∙ ap (nat_lt 0) (one s 0 items (is_copy k)) ∙ sym (any_is_some (is_copy k) items)

took_admitted : EachHasOneEvent → (r : Run) (port : ℕ) (p : PortRow) (k : ℕ) → r.finished ≡ true → port_row r.table port ≡ Some p
    → took r port k ≡ list_any (is_copy k) (admitted (settings_of r.table.latency p) (feed_of r.table p.id r.rows))
took_admitted one r port p k ends row =
    ap (λ (o : Option PortRow). list_any (λ (x : Sent). x.item.number == k) (sent_in r o) || list_any (λ (x : Aged). x.item.number == k) (aged_in r o)) row
    ∙ by r.finished ends where
      s : Settings
      s = settings_of r.table.latency p

      items : List Item
      items = admitted s (feed_of r.table p.id r.rows)

      by : (finished : Bool) → finished ≡ true
          → (list_any (λ (x : Sent). x.item.number == k) (sent_of (done (record { settings = s; admitted = items; horizon = r.latest; finished = finished })))
          || list_any (λ (x : Aged). x.item.number == k) (aged_of (done (record { settings = s; admitted = items; horizon = r.latest; finished = finished }))))
          ≡ list_any (is_copy k) items
      by true e = events_of k (service s 0 items) ∙ served one s items k
      by false e = absurd (cc)

-- ---- what a port is offered of other arrivals is no copy of this one

none_of_row : (t : Content) (port k : ℕ) (before : List Row) (row : Row) → (length before == k) ≡ false → list_any (is_copy k) (copies t port before row) ≡ false
none_of_row t port k before row other = by (named t row.verdict) where
  by : (o : Option Link) → list_any (is_copy k) (copies_by o port before row) ≡ false
  by None = refl
  by (Some l) = offered (passes l before row && leads_to port l) where
    offered : (b : Bool) → list_any (is_copy k) (cond b (copy_of l before row ∷ []) []) ≡ false
    offered true = ap (λ (x : Bool). x || false) other
    offered false = refl

none_of_rows : (t : Content) (port k : ℕ) (before rows : List Row) → ((i : ℕ) → i < length rows → (length before + i == k) ≡ false)
    → list_any (is_copy k) (each_after (copies t port) before rows) ≡ false
none_of_rows t port k before [] others = refl
none_of_rows t port k before (row ∷ rows) others =
    let first : length before ≡ length before + 0 = omega arith in
    let longer = length-append before (row ∷ []) in
    list_any-append (is_copy k) (copies t port before row) (each_after (copies t port) (before ++ row ∷ []) rows)
    ∙ both_false _ _ (none_of_row t port k before row (ap (λ (n : ℕ). n == k) first ∙ others 0 (omega arith)))
    (none_of_rows t port k (before ++ row ∷ []) rows (λ i lt.
    let same : length (before ++ row ∷ []) + i ≡ length before + suc i = omega (arith, longer) in
    ap (λ (n : ℕ). n == k) same ∙ others (suc i) (omega (arith, lt))))

-- ---- a feed in parts

pub each-append : {X Y : Type 0} (f : List X → X → List Y) (before xs ys : List X) → each_after f before (xs ++ ys) ≡ each_after f before xs ++ each_after f (before ++ xs) ys
each-append f before [] ys = ap (λ before. each_after f before ys) (sym (append-nil before))
each-append f before (x ∷ xs) ys =
    ap (λ more. f before x ++ more) (each-append f (before ++ x ∷ []) xs ys ∙ ap (λ all. each_after f (before ++ x ∷ []) xs ++ each_after f all ys) (append_assoc before (x ∷ []) xs))
    ∙ sym (append_assoc (f before x) (each_after f (before ++ x ∷ []) xs) (each_after f (before ++ x ∷ xs) ys))

or_nothing : (a b : Bool) → b ≡ false → (a || (b || false)) ≡ a
or_nothing true b h = refl
or_nothing false b h = ap (λ (x : Bool). x || false) h

-- an item of another number changes nothing
none_joins : (k : ℕ) (s : Settings) (items feed : List Item) → list_any (is_copy k) feed ≡ false → list_any (is_copy k) (admit_all s items feed) ≡ list_any (is_copy k) items
none_joins k s items [] none = refl
none_joins k s items (x ∷ feed) none =
    let parts = either_false (is_copy k x) (list_any (is_copy k) feed) none in
    none_joins k s (admit s items x) feed parts.1 ∙ by (fits s items x) parts.0 where
      by : (b : Bool) → is_copy k x ≡ false → list_any (is_copy k) (cond b (items ++ x ∷ []) items) ≡ list_any (is_copy k) items
      by true other = list_any-append (is_copy k) items (x ∷ []) ∙ or_nothing (list_any (is_copy k) items) (is_copy k x) other
      by false other = refl

-- the first of this number is there where it fitted
joins : (k : ℕ) (s : Settings) (items : List Item) (x : Item) → list_any (is_copy k) items ≡ false → is_copy k x ≡ true → list_any (is_copy k) (admit s items x) ≡ fits s items x
joins k s items x none same = by (fits s items x) where
  by : (b : Bool) → list_any (is_copy k) (cond b (items ++ x ∷ []) items) ≡ b
  by true = list_any-append (is_copy k) items (x ∷ []) ∙ ap (λ (a : Bool). a || (is_copy k x || false)) none ∙ ap (λ (b : Bool). b || false) same
  by false = none

-- ---- one port

module _ (one : EachHasOneEvent) (in_parts : AdmittedInParts) (r : Run) (ends : r.finished ≡ true) (before after : List Row) (row : Row) (is : r.rows ≡ before ++ row ∷ after) (l : Link)
    (names : named r.table row.verdict ≡ Some l) (passed : passes l before row ≡ true) where
  at_port : (p : PortRow) → leads_to p.id l ≡ true
      → list_any (is_copy (length before)) (admitted (settings_of r.table.latency p) (feed_of r.table p.id r.rows))
      ≡ fits (settings_of r.table.latency p) (admitted (settings_of r.table.latency p) (feed_of r.table p.id before)) (copy_of l before row)
  unfolding feed_of
  at_port p leads =
      ap (λ (feed : List Item). list_any (is_copy k) (admitted s feed)) parts ∙ ap (list_any (is_copy k)) (in_parts s [] first (x ∷ later))
      ∙ none_joins k s (admit s (admitted s first) x) later none_later
      ∙ joins k s (admitted s first) x (none_joins k s [] first none_first) (eq-eqb k k refl) where
        k : ℕ
        k = length before

        s : Settings
        s = settings_of r.table.latency p

        x : Item
        x = copy_of l before row

        first : List Item
        first = each_after (copies r.table p.id) [] before

        later : List Item
        later = each_after (copies r.table p.id) (before ++ row ∷ []) after

        offered : copies r.table p.id before row ≡ x ∷ []
        offered = ap (λ (o : Option Link). copies_by o p.id before row) names ∙ ap (λ (b : Bool). cond b (x ∷ []) []) (ap (λ (b : Bool). b && leads_to p.id l) passed ∙ leads)

        parts : each_after (copies r.table p.id) [] r.rows ≡ first ++ x ∷ later
        parts = ap (each_after (copies r.table p.id) []) is ∙ each-append (copies r.table p.id) [] before (row ∷ after) ∙ ap (λ (xs : List Item). first ++ (xs ++ later)) offered

        none_first : list_any (is_copy k) first ≡ false
        none_first = none_of_rows r.table p.id k [] before (λ i lt. ap (λ (n : ℕ). n == k) (zero_more i) ∙ ne_eqb i k (λ e. omega (arith, lt, e)))

        none_later : list_any (is_copy k) later ≡ false
        none_later = none_of_rows r.table p.id k (before ++ row ∷ []) after (λ i lt. ne_eqb (length (before ++ row ∷ []) + i) k (λ e. omega (arith, length-append before (row ∷ []), e)))

  found_id : (ports : List PortRow) (port : ℕ) (p : PortRow) → find (λ (q : PortRow). q.id == port) ports ≡ Some p → p.id ≡ port
  found_id [] port p found = absurd (cc)
  found_id (q ∷ qs) port p found = by (q.id == port) refl found (found_id qs port p) where
    same : (a b : ℕ) → (a == b) ≡ true → a ≡ b
    same a b e = grind (arith, nat_tests)

    by : (b : Bool) → (q.id == port) ≡ b → cond b (Some q) (find (λ (o : PortRow). o.id == port) qs) ≡ Some p → (find (λ (o : PortRow). o.id == port) qs ≡ Some p → p.id ≡ port) → p.id ≡ port
    by true e found others = let here : q ≡ p = (cc) in ap (λ (o : PortRow). o.id) (sym here) ∙ same q.id port e
    by false e found others = others found

  -- a port's answer to the copy
  abbrev answer_at : ℕ → Offer
  answer_at port = answer_of (run_before r before) (copy_of l before row) (port_row r.table port)

  refuses : (port : ℕ) → leads_to port l ≡ true → not (took r port (length before)) ≡ answers_full (answer_at port)
  refuses port leads = by (port_row r.table port) refl where
    reported : (b : Bool) → not b ≡ answers_full (cond b Queued Full)
    reported true = refl
    reported false = refl

    by : (o : Option PortRow) → port_row r.table port ≡ o → not (took r port (length before)) ≡ answers_full (answer_of (run_before r before) (copy_of l before row) o)
    by None none = ap (λ (o : Option PortRow). not (list_any (λ (x : Sent). x.item.number == length before) (sent_in r o) || list_any (λ (x : Aged). x.item.number == length before) (aged_in r o)))
        none
    by (Some p) row_is =
        ap not (took_admitted one r port p (length before) ends row_is
        ∙ at_port p (ap (λ (n : ℕ). leads_to n l) (found_id r.table.ports port p row_is) ∙ leads))
        ∙ reported (fits (settings_of r.table.latency p) (admitted (settings_of r.table.latency p) (feed_of r.table p.id before)) (copy_of l before row))

  -- ---- all ports of the link

  all_refuse : (ports : List ℕ) → ((port : ℕ) → names_port port ports ≡ true → leads_to port l ≡ true)
      → refusing r (length before) ports ≡ full_ports (map (λ port. (port, answer_at port)) ports)
  all_refuse [] among = refl
  all_refuse (port ∷ ports) among =
      ap (λ (b : Bool). cond b (port ∷ refusing r (length before) ports) (refusing r (length before) ports))
      (refuses port (among port (ap (λ (b : Bool). b || names_port port ports) (eq-eqb port port refl))))
      ∙ ap (λ (others : List ℕ). cond (answers_full (answer_at port)) (port ∷ others) others) (all_refuse ports (λ q in_them. among q (later q in_them)))
      ∙ kept (answers_full (answer_at port)) where
        or_true : (a b : Bool) → b ≡ true → (a || b) ≡ true
        or_true true b h = refl
        or_true false b h = h

        later : (q : ℕ) → names_port q ports ≡ true → names_port q (port ∷ ports) ≡ true
        later q among_others = or_true (port == q) (names_port q ports) among_others

        answers : List (ℕ × Offer)
        answers = map (λ (q : ℕ). (q, answer_at q)) ports

        kept : (b : Bool) → cond b (port ∷ full_ports answers) (full_ports answers)
            ≡ map (λ (o : ℕ × Offer). o.0) (cond b ((port, answer_at port) ∷ filter (λ (o : ℕ × Offer). answers_full o.1) answers) (filter (λ (o : ℕ × Offer). answers_full o.1) answers))
        kept true = refl
        kept false = refl

pub full_is_exact : EachHasOneEvent → AdmittedInParts → FullIsExact
full_is_exact one in_parts r ends before after row is = by (named r.table row.verdict) refl where
  by : (o : Option Link) → named r.table row.verdict ≡ o → full_in r o before row ≡ full_ports (offers_by (run_before r before) o row)
  by None none = refl
  by (Some l) names = passed (passes l before row) refl where
    passed : (b : Bool) → passes l before row ≡ b
        → cond b (refusing r (length before) l.to) []
        ≡ full_ports (cond b (map (λ (port : ℕ). (port, answer_of (run_before r before) (copy_of l before row) (port_row r.table port))) l.to) [])
    passed true e = all_refuse one in_parts r ends before after row is l names e l.to (λ port among. among)
    passed false e = refl
