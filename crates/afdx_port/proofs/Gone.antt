-- What has gone from the buffer: reported by what was sent and discarded in the end, whose instants do not fall.
use Rattle.std.proofs.Common.{◌≡◌, ℕ, suc, zero, ◌+◌, ◌≤◌, true, false, cond, List, [], ◌∷◌, ◌++◌, refl, ap, sym, ◌∙◌, arith}
use Rattle.std.specs.Prelude.{filter, nat_lt, nat_le, sum_by, All, AllPairs}
use Rattle.std.specs.List.{AllByRecursion}
use Rattle.std.proofs.lemmas.List.Sums.{sum_by-cons, sum_by-append}
use Rattle.std.proofs.lemmas.List.Filters.{sum_by-filter_both}
use Rattle.std.proofs.lemmas.List.Kept.{AllPairs-cons}
use Rattle.std.proofs.lemmas.List.Elements.{filter-append, All-nil, All-cons, All-weaker, recursion_from_All}
use Rattle.afdx_port.specs.declared.Settings.{Settings}
use Rattle.afdx_port.specs.declared.Item.{Item}
use Rattle.afdx_port.specs.declared.Sent.{Sent}
use Rattle.afdx_port.specs.declared.Aged.{Aged}
use Rattle.afdx_port.specs.Service.{came, Event, sending, aging, item_of, free_after, next, others, service, before, sent_of, aged_of}
use Rattle.afdx_port.specs.Admission.{is_gone, occupied}
use Rattle.afdx_port.specs.Inner.Order.{InOrder}
use Rattle.afdx_port.specs.Inner.Progress.{left}
use Rattle.afdx_port.specs.Inner.Gone.{gone}
use Rattle.afdx_port.proofs.Turns.{free_after-next, service-step, by_events}
use Rattle.afdx_port.proofs.Earlier.{earlier_events}
use Rattle.afdx_port.proofs.Parts.{split}
use Rattle.afdx_port.proofs.Room.{stays, bytes, left_stays, sum_by-service}

-- of all events, those before t alone have gone by t
gone_before : (s : Settings) (t : ℕ) (items : List Item) → bytes (filter (is_gone t) (service s 0 items)) ≡ bytes (filter (is_gone t) (before t (service s 0 items)))
gone_before s t items =
    let done = before t (service s 0 items) in
    let rest = service s (left s t 0 items).free (left s t 0 items).waiting in
    let none : bytes (filter (is_gone t) rest) ≡ 0 =
    let both = sum_by-filter_both (is_gone t) (stays t) (λ e. refl) (λ event. (item_of event).size) rest in
    let all = ap bytes (left_stays s t 0 items) in
    omega (arith, both, all) in
    let parts = ap (λ es. bytes (filter (is_gone t) es)) (split s t 0 items)
    ∙ ap bytes (filter-append (is_gone t) done rest)
    ∙ sum_by-append (λ event. (item_of event).size) (filter (is_gone t) done) (filter (is_gone t) rest) in
    omega (arith, parts, none)

-- by what was sent and discarded
gone_is : (t : ℕ) (es : List Event) → bytes (filter (is_gone t) es) ≡ gone t (sent_of es) (aged_of es)
gone_is t [] = refl
gone_is t (sending x ∷ es) =
    let more = filter (λ (y : Sent). nat_le y.end t) (sent_of es) in
    let aged = sum_by (λ (a : Aged). a.item.size) (filter (λ (a : Aged). nat_lt a.at t) (aged_of es)) in
    elim (nat_le x.end t) as (λ b. bytes (cond b (sending x ∷ filter (is_gone t) es) (filter (is_gone t) es)) ≡ sum_by (λ (y : Sent). y.item.size) (cond b (x ∷ more) more) + aged) [
      | true ↦
          let one = sum_by-cons (λ event. (item_of event).size) (sending x) (filter (is_gone t) es) in
          let two = sum_by-cons (λ (y : Sent). y.item.size) x more in
          omega (arith, one, two, gone_is t es)
      | false ↦ gone_is t es
    ]
gone_is t (aging a ∷ es) =
    let more = filter (λ (b : Aged). nat_lt b.at t) (aged_of es) in
    let sent = sum_by (λ (x : Sent). x.item.size) (filter (λ (x : Sent). nat_le x.end t) (sent_of es)) in
    elim (nat_lt a.at t) as (λ b. bytes (cond b (aging a ∷ filter (is_gone t) es) (filter (is_gone t) es)) ≡ sent + sum_by (λ (y : Aged). y.item.size) (cond b (a ∷ more) more)) [
      | true ↦
          let one = sum_by-cons (λ event. (item_of event).size) (aging a) (filter (is_gone t) es) in
          let two = sum_by-cons (λ (y : Aged). y.item.size) a more in
          omega (arith, one, two, gone_is t es)
      | false ↦ gone_is t es
    ]

from_there : (s : Settings) (items later : List Item) (x : Item) → InOrder s (items ++ x ∷ later) → InOrder s (x ∷ later)
from_there s [] later x order = order
from_there s (y ∷ items) later x order = from_there s items later x (λ i j d lt within. order (suc i) (suc j) d (omega (arith, lt)) (omega (arith, within)))

all_later : (s : Settings) (later : List Item) (x : Item) → InOrder s (x ∷ later) → AllByRecursion (λ (y : Item). came s x ≤ came s y) (x ∷ later)
all_later s later x order =
    (omega arith, recursion_from_All (λ (y : Item). came s x ≤ came s y) later (λ k d within. order zero (suc k) d (omega arith) (omega (arith, within))))

pub occupied_is_not_gone : (s : Settings) (items later : List Item) (x : Item) → InOrder s (items ++ x ∷ later)
    → occupied s (came s x) items + gone (came s x) (sent_of (service s 0 (items ++ x ∷ later))) (aged_of (service s 0 (items ++ x ∷ later))) ≡ sum_by (λ item. item.size) items
occupied_is_not_gone s items later x order =
    let t = came s x in
    let all = service s 0 (items ++ x ∷ later) in
    let now = service s 0 items in
    let same = ap (λ es. bytes (filter (is_gone t) es)) (earlier_events s t 0 items (x ∷ later) (all_later s later x (from_there s items later x order))) in
    let is = gone_before s t items ∙ sym same ∙ sym (gone_before s t (items ++ x ∷ later)) ∙ gone_is t all in
    let both = sum_by-filter_both (is_gone t) (stays t) (λ e. refl) (λ event. (item_of event).size) now in
    let each = sum_by-service (λ item. item.size) s 0 items in
    omega (arith, is, both, each)

-- ---- in order

record SentFrom (free : ℕ) (sent : List Sent) : Type 0 where
  later : All (λ (x : Sent). free ≤ x.end) sent
  order : AllPairs (λ (a : Sent) (b : Sent). a.end ≤ b.end) sent

sent_step : (free : ℕ) (e : Event) (es : List Event) → free ≤ free_after e → SentFrom (free_after e) (sent_of es) → SentFrom free (sent_of (e ∷ es))
sent_step free (sending x) es le h = record {
  later = All-cons (λ (y : Sent). free ≤ y.end) x (sent_of es) le (All-weaker (λ (y : Sent). x.end ≤ y.end) (λ (y : Sent). free ≤ y.end) (λ y more. omega (arith, le, more)) (sent_of es) h.later);
  order = AllPairs-cons (λ (a : Sent) (b : Sent). a.end ≤ b.end) x (sent_of es) h.later h.order;
}
sent_step free (aging a) es le h = record {
  later = All-weaker (λ (y : Sent). a.at ≤ y.end) (λ (y : Sent). free ≤ y.end) (λ y more. omega (arith, le, more)) (sent_of es) h.later;
  order = h.order;
}

record AgedFrom (free : ℕ) (aged : List Aged) : Type 0 where
  later : All (λ (x : Aged). free ≤ x.at) aged
  order : AllPairs (λ (a : Aged) (b : Aged). a.at ≤ b.at) aged

aged_step : (free : ℕ) (e : Event) (es : List Event) → free ≤ free_after e → AgedFrom (free_after e) (aged_of es) → AgedFrom free (aged_of (e ∷ es))
aged_step free (aging x) es le h = record {
  later = All-cons (λ (y : Aged). free ≤ y.at) x (aged_of es) le (All-weaker (λ (y : Aged). x.at ≤ y.at) (λ (y : Aged). free ≤ y.at) (λ y more. omega (arith, le, more)) (aged_of es) h.later);
  order = AllPairs-cons (λ (a : Aged) (b : Aged). a.at ≤ b.at) x (aged_of es) h.later h.order;
}
aged_step free (sending s) es le h = record {
  later = All-weaker (λ (y : Aged). s.end ≤ y.at) (λ (y : Aged). free ≤ y.at) (λ y more. omega (arith, le, more)) (aged_of es) h.later;
  order = h.order;
}

from_free : (s : Settings) (free : ℕ) (items : List Item) → SentFrom free (sent_of (service s free items)) × AgedFrom free (aged_of (service s free items))
from_free s = by_events s (λ free items. SentFrom free (sent_of (service s free items)) × AgedFrom free (aged_of (service s free items)))
    (λ free. (
      record { later = All-nil (λ (x : Sent). free ≤ x.end); order = λ i j d lt within. absurd (omega (arith, within)) },
      record { later = All-nil (λ (x : Aged). free ≤ x.at); order = λ i j d lt within. absurd (omega (arith, within)) },
    ))
    (λ free first rest ih.
    let e = next s free first rest in
    let more = service s (free_after e) (others s free first rest) in
    let le : free ≤ free_after e = omega (arith, free_after-next s free first rest) in
    rw (service-step s free first rest) (sent_step free e more le ih.0, aged_step free e more le ih.1))

pub sent_end_in_order : (s : Settings) (items : List Item) → AllPairs (λ (a : Sent) (b : Sent). a.end ≤ b.end) (sent_of (service s 0 items))
sent_end_in_order s items = (from_free s 0 items).0.order

pub aged_in_order : (s : Settings) (items : List Item) → AllPairs (λ (a : Aged) (b : Aged). a.at ≤ b.at) (aged_of (service s 0 items))
aged_in_order s items = (from_free s 0 items).1.order
