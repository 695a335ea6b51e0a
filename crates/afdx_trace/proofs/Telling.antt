-- One more event of a port is told.
use Rattle.std.proofs.Common.{◌≡◌, ℕ, zero, suc, ◌+◌, ◌<◌, ◌≤◌, true, false, List, [], ◌∷◌, ◌++◌, length, drop, slice_get, Option, None, Some, refl, sym, ap, ◌∙◌, arith, subst}
use Rattle.std.specs.Prelude.{Result, Ok, Err}
use Rattle.std.specs.Option.{option_map}
use Rattle.std.proofs.lemmas.Option.{same_Some}
use Rattle.afdx_port.specs.declared.Settings.{Settings}
use Rattle.afdx_port.specs.declared.Sent.{Sent}
use Rattle.afdx_port.specs.declared.Aged.{Aged}
use Rattle.afdx_port.specs.Service.{Event, sending, aging, sent_of, aged_of}
use Rattle.afdx_port.specs.Content.{Content as Port, done}
use Rattle.afdx_port.specs.Inner.Progress.{event_of}
use Rattle.afdx_port.specs.Inner.Events.{SentInParts, AgedInParts}
use Rattle.afdx_trace.specs.declared.shown.Shown.{Shown}
use Rattle.afdx_trace.specs.declared.traced_port.TracedPort.{TracedPort}
use Rattle.afdx_trace.specs.Departures.{if_shown, sent_line, aged_line}
use Rattle.afdx_trace.specs.Inner.Laws.{EventsAreInOrder}
use Rattle.afdx_trace.specs.Inner.Lines.{whole_of}
use Rattle.afdx_trace.specs.Inner.Telling.{AreTold, IsTelling, HasToldAll, IsFirstOf, TellsMore, IsSamePort}
use Rattle.afdx_trace.proofs.Parting.{more_left, sent_told, aged_told}

get_after : {X : Type 0} (n : ℕ) (xs : List X) → slice_get (drop n xs) 0 ≡ slice_get xs n
get_after zero [] = refl
get_after zero (x ∷ xs) = refl
get_after (suc n) [] = refl
get_after (suc n) (x ∷ xs) = get_after n xs

-- the events that are left begin with the first of them
begins : {Z : Type 0} (shown : Shown) (o : TracedPort Z) (sent : Option Sent) (aged : Option Aged) (next : Option (Result Sent Aged)) (left : List Event)
    → sent ≡ slice_get (sent_of (done o.flow.content)) o.sent → aged ≡ slice_get (drop o.aged (aged_of (done o.flow.content))) 0 → IsFirstOf sent aged next → IsTelling shown o left
    → option_map event_of next ≡ slice_get left 0
begins shown o sent aged next left sent_is aged_is first is =
    first left is.told.order
    (ap (λ (xs : List Sent). slice_get xs 0) is.told.sent_left ∙ get_after o.sent (sent_of (done o.flow.content)) ∙ sym sent_is)
    (ap (λ (xs : List Aged). slice_get xs 0) is.told.aged_left ∙ sym aged_is)

pub tells_none : {Z : Type 0} (shown : Shown) (o : TracedPort Z) (sent : Option Sent) (aged : Option Aged) → sent ≡ slice_get (sent_of (done o.flow.content)) o.sent
    → aged ≡ slice_get (drop o.aged (aged_of (done o.flow.content))) 0 → IsFirstOf sent aged None → (left : List Event) → IsTelling shown o left → TellsMore shown false left o
tells_none shown o sent aged sent_is aged_is first [] is = (refl, is)
tells_none shown o sent aged sent_is aged_is first (event ∷ left) is = absurd (let e : None ≡ Some event = begins shown o sent aged None (event ∷ left) sent_is aged_is first is in cc)

-- the same port, where its lines and the counts of what was told may differ
module _ {Z : Type 0} (shown : Shown) (o n : TracedPort Z) (same : IsSamePort o n) (sent_first : n.flow.sent_first ≡ o.flow.sent_first) (aged_first : n.flow.aged_first ≡ o.flow.aged_first) where
  moved : (sent aged : ℕ) (lines : List ℕ) (left : List Event) → AreTold shown o.row.id o.settings (done o.flow.content) sent aged lines left
      → AreTold shown n.row.id n.settings (done n.flow.content) sent aged lines left
  moved sent aged lines left told =
      subst (λ (c : Port). AreTold shown n.row.id n.settings (done c) sent aged lines left) (sym same.content)
      (subst (λ (s : Settings). AreTold shown n.row.id s (done o.flow.content) sent aged lines left) (sym same.settings)
      (subst (λ port. AreTold shown port o.settings (done o.flow.content) sent aged lines left) (sym (ap (λ p. p.id) same.row)) told))

  latency : o.settings.latency ≤ 100000 → n.settings.latency ≤ 100000
  latency le = subst (λ (s : Settings). s.latency ≤ 100000) (sym same.settings) le

  pub tells_sent : (sent : Option Sent) (aged : Option Aged) (x : Sent) → sent ≡ slice_get (sent_of (done o.flow.content)) o.sent
      → aged ≡ slice_get (drop o.aged (aged_of (done o.flow.content))) 0 → IsFirstOf sent aged (Some (Ok x)) → n.sent ≡ o.sent + 1 → n.aged ≡ o.aged
      → whole_of n.lines ≡ whole_of o.lines ++ if_shown shown x.item (sent_line shown o.row.id o.settings (o.sent + 1) x)
      → (left : List Event) → IsTelling shown o left → TellsMore shown true left n
  tells_sent sent aged x sent_is aged_is first count_sent count_aged lines [] is =
      absurd (let e : Some (sending x) ≡ None = begins shown o sent aged (Some (Ok x)) [] sent_is aged_is first is in cc)
  tells_sent sent aged x sent_is aged_is first count_sent count_aged lines (event ∷ left) is =
      let head : sending x ≡ event = same_Some (sending x) event (begins shown o sent aged (Some (Ok x)) (event ∷ left) sent_is aged_is first is) in
      let told = subst (λ (e : Event). AreTold shown o.row.id o.settings (done o.flow.content) o.sent o.aged (whole_of o.lines) (e ∷ left)) (sym head) is.told in (
        event,
        left,
        refl,
        record {
          told = moved n.sent n.aged (whole_of n.lines) left
              (subst (λ k. AreTold shown o.row.id o.settings (done o.flow.content) n.sent k (whole_of n.lines) left) (sym count_aged)
              (sent_told shown o.row.id o.settings (done o.flow.content) left x o.sent o.aged n.sent (whole_of o.lines) (whole_of n.lines) count_sent lines told));
          sent_first = (let before = is.sent_first in omega (arith, before, sent_first, count_sent));
          aged_first = (let before = is.aged_first in omega (arith, before, aged_first, count_aged));
          latency = latency is.latency;
        },
      )

  pub tells_aged : (sent : Option Sent) (aged : Option Aged) (a : Aged) → sent ≡ slice_get (sent_of (done o.flow.content)) o.sent
      → aged ≡ slice_get (drop o.aged (aged_of (done o.flow.content))) 0 → IsFirstOf sent aged (Some (Err a)) → n.aged ≡ o.aged + 1 → n.sent ≡ o.sent
      → whole_of n.lines ≡ whole_of o.lines ++ if_shown shown a.item (aged_line shown o.row.id o.settings a)
      → (left : List Event) → IsTelling shown o left → TellsMore shown true left n
  tells_aged sent aged a sent_is aged_is first count_aged count_sent lines [] is =
      absurd (let e : Some (aging a) ≡ None = begins shown o sent aged (Some (Err a)) [] sent_is aged_is first is in cc)
  tells_aged sent aged a sent_is aged_is first count_aged count_sent lines (event ∷ left) is =
      let head : aging a ≡ event = same_Some (aging a) event (begins shown o sent aged (Some (Err a)) (event ∷ left) sent_is aged_is first is) in
      let told = subst (λ (e : Event). AreTold shown o.row.id o.settings (done o.flow.content) o.sent o.aged (whole_of o.lines) (e ∷ left)) (sym head) is.told in (
        event,
        left,
        refl,
        record {
          told = moved n.sent n.aged (whole_of n.lines) left
              (subst (λ k. AreTold shown o.row.id o.settings (done o.flow.content) k n.aged (whole_of n.lines) left) (sym count_sent)
              (aged_told shown o.row.id o.settings (done o.flow.content) left a o.sent o.aged n.aged (whole_of o.lines) (whole_of n.lines) count_aged lines told));
          sent_first = (let before = is.sent_first in omega (arith, before, sent_first, count_sent));
          aged_first = (let before = is.aged_first in omega (arith, before, aged_first, count_aged));
          latency = latency is.latency;
        },
      )

-- ---- what calls of a port carry out is left to tell

pub carried : {Z : Type 0} → SentInParts → AgedInParts → EventsAreInOrder → (shown : Shown) (o n : TracedPort Z) (more : List Event) → n.row ≡ o.row → n.settings ≡ o.settings
    → n.sent ≡ o.sent → n.aged ≡ o.aged → n.lines ≡ o.lines → n.flow.sent_first ≡ o.flow.sent_first → n.flow.aged_first ≡ o.flow.aged_first
    → done n.flow.content ≡ done o.flow.content ++ more → HasToldAll shown o → IsTelling shown n more
carried sents ageds order shown o n more row settings sent aged lines sent_first aged_first adds told = record {
  told =
      subst (λ port. AreTold shown port n.settings (done n.flow.content) n.sent n.aged (whole_of n.lines) more) (sym (ap (λ p. p.id) row))
      (subst (λ (s : Settings). AreTold shown o.row.id s (done n.flow.content) n.sent n.aged (whole_of n.lines) more) (sym settings)
      (subst (λ k. AreTold shown o.row.id o.settings (done n.flow.content) k n.aged (whole_of n.lines) more) (sym sent)
      (subst (λ k. AreTold shown o.row.id o.settings (done n.flow.content) o.sent k (whole_of n.lines) more) (sym aged)
      (subst (λ l. AreTold shown o.row.id o.settings (done n.flow.content) o.sent o.aged (whole_of l) more) (sym lines)
      (more_left sents ageds shown o.row.id o.settings (done o.flow.content) (done n.flow.content) more o.sent o.aged (whole_of o.lines) adds (order n.flow.content) told.told)))));
  sent_first = (let before = told.sent_first in omega (arith, before, sent_first, sent));
  aged_first = (let before = told.aged_first in omega (arith, before, aged_first, aged));
  latency = subst (λ (s : Settings). s.latency ≤ 100000) (sym settings) told.latency;
}

-- ---- fewer are left

count_events : (events : List Event) → length (sent_of events) + length (aged_of events) ≡ length events
count_events [] = refl
count_events (sending x ∷ events) =
    let rest = count_events events in
    let one : suc (length (sent_of events)) + length (aged_of events) ≡ suc (length (sent_of events) + length (aged_of events)) = omega arith in
    one ∙ ap suc rest
count_events (aging a ∷ events) =
    let rest = count_events events in
    let one : length (sent_of events) + suc (length (aged_of events)) ≡ suc (length (sent_of events) + length (aged_of events)) = omega arith in
    one ∙ ap suc rest

count_left : {Z : Type 0} (shown : Shown) (o : TracedPort Z) (left : List Event) → IsTelling shown o left
    → length (drop o.sent (sent_of (done o.flow.content))) + length (drop o.aged (aged_of (done o.flow.content))) ≡ length left
count_left shown o left is =
    ap (λ (xs : List Sent). length xs + length (drop o.aged (aged_of (done o.flow.content)))) (sym is.told.sent_left)
    ∙ ap (λ (xs : List Aged). length (sent_of left) + length xs) (sym is.told.aged_left) ∙ count_events left

pub fewer_left : {Z : Type 0} (shown : Shown) (o n : TracedPort Z) (first : Event) (later : List Event) → IsTelling shown o (first ∷ later) → IsTelling shown n later
    → length (drop n.sent (sent_of (done n.flow.content))) + length (drop n.aged (aged_of (done n.flow.content)))
    < length (drop o.sent (sent_of (done o.flow.content))) + length (drop o.aged (aged_of (done o.flow.content)))
fewer_left shown o n first later was is = let before = count_left shown o (first ∷ later) was in let after = count_left shown n later is in omega (arith, before, after)

-- where lines go to a file, or some of what was sent and discarded is let go, nothing else changes
pub still_telling : {Z : Type 0} (shown : Shown) (o n : TracedPort Z) (left : List Event) → n.row ≡ o.row → n.settings ≡ o.settings → n.flow.content ≡ o.flow.content → n.sent ≡ o.sent
    → n.aged ≡ o.aged
    → n.flow.sent_first ≤ n.sent → n.flow.aged_first ≤ n.aged → whole_of n.lines ≡ whole_of o.lines → IsTelling shown o left → IsTelling shown n left
still_telling shown o n left row settings content sent aged sent_first aged_first lines is = record {
  told =
      subst (λ (c : Port). AreTold shown n.row.id n.settings (done c) n.sent n.aged (whole_of n.lines) left) (sym content)
      (subst (λ port. AreTold shown port n.settings (done o.flow.content) n.sent n.aged (whole_of n.lines) left) (sym (ap (λ p. p.id) row))
      (subst (λ (s : Settings). AreTold shown o.row.id s (done o.flow.content) n.sent n.aged (whole_of n.lines) left) (sym settings)
      (subst (λ k. AreTold shown o.row.id o.settings (done o.flow.content) k n.aged (whole_of n.lines) left) (sym sent)
      (subst (λ k. AreTold shown o.row.id o.settings (done o.flow.content) o.sent k (whole_of n.lines) left) (sym aged)
      (subst (λ whole. AreTold shown o.row.id o.settings (done o.flow.content) o.sent o.aged whole left) (sym lines) is.told)))));
  sent_first = sent_first;
  aged_first = aged_first;
  latency = subst (λ (s : Settings). s.latency ≤ 100000) (sym settings) is.latency;
}
