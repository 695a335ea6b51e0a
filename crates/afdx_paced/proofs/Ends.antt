-- What a port has not sent when it comes to an instant.
use Rattle.std.proofs.Common.{◌≡◌, ℕ, zero, suc, ◌+◌, ◌-◌, max, ◌≤◌, nat_lt, List, [], ◌∷◌, ◌++◌, length, refl, ap, sym, ◌∙◌, subst, arith, inl, inr}
use Rattle.std.specs.List.{AllByRecursion}
use Rattle.std.proofs.lemmas.Bool.{cases_Bool}
use Rattle.std.proofs.lemmas.Bool.Decides.{nat_tests}
use Rattle.std.proofs.lemmas.List.Elements.{filter-append}
use Rattle.afdx_units.specs.Line.{cost_of}
use Rattle.afdx_port.specs.declared.Settings.{Settings}
use Rattle.afdx_port.specs.declared.Item.{Item}
use Rattle.afdx_port.specs.declared.Sent.{Sent}
use Rattle.afdx_port.specs.Service.{Event, sending, aging, instant, fate, next, others, came, in_turn, free_after, serve, service, before, sent_of}
use Rattle.afdx_port.specs.Inner.Events.{SentInParts}
use Rattle.afdx_port.specs.Inner.Course.{EventsAreInParts}
use Rattle.afdx_paced.specs.Laws.{NothingEndsBefore}

-- what is sent ends its line time after its start
abbrev Costs : Settings → Event → Type 0
Costs s (sending x) = x.end ≡ x.begin + cost_of s.speed x.item.size
Costs s (aging a) = Unit {0}

fate_costs : (s : Settings) (b : ℕ) (x : Item) → Costs s (fate s b x)
fate_costs s b x =
    elim (cases_Bool (nat_lt s.max_delay (b - x.stamp))) [
      | inl old ↦ rw old tt
      | inr in_time ↦ rw in_time refl
    ]

next_costs : (s : Settings) (free : ℕ) (first : Item) (rest : List Item) → Costs s (next s free first rest)
unfolding next
next_costs s free first rest = fate_costs s (max free (came s first)) (in_turn s free first rest)

serve_costs : (count : ℕ) (s : Settings) (free : ℕ) (items : List Item) → AllByRecursion (Costs s) (serve count s free items)
serve_costs zero s free items = tt
serve_costs (suc count) s free [] = tt
serve_costs (suc count) s free (first ∷ rest) =
    (next_costs s free first rest, serve_costs count s (free_after (next s free first rest)) (others s free first rest))

second_of : (P : Event → Type 0) (first second : List Event) → AllByRecursion P (first ++ second) → AllByRecursion P second
second_of P [] second all = all
second_of P (e ∷ first) second all = second_of P first second all.1

-- where none lies before t, each lies at t or later
none_before : (t : ℕ) (events : List Event) → before t events ≡ [] → AllByRecursion (λ e. t ≤ instant e) events
none_before t [] none = tt
none_before t (e ∷ events) none =
    elim (cases_Bool (nat_lt (instant e) t)) [
      | inl early ↦ absurd (let kept : before t (e ∷ events) ≡ e ∷ before t events = rw early refl in cc)
      | inr late ↦
          let rest : before t (e ∷ events) ≡ before t events = rw late refl in
          (grind (arith, nat_tests), none_before t events (sym rest ∙ none))
    ]

no_more : (xs ys : List Event) → xs ≡ xs ++ ys → ys ≡ []
no_more [] ys same = sym same
no_more (x ∷ xs) ys same = no_more xs ys (cc)

twice : (t : ℕ) (events : List Event) → before t (before t events) ≡ before t events
twice t [] = refl
twice t (e ∷ events) =
    elim (cases_Bool (nat_lt (instant e) t)) [
      | inl early ↦ rw (early, early) (ap (λ (rest : List Event). e ∷ rest) (twice t events))
      | inr late ↦ rw late (twice t events)
    ]

ends : (s : Settings) (t : ℕ) (events : List Event) → AllByRecursion (Costs s) events → AllByRecursion (λ e. t ≤ instant e) events
    → AllByRecursion (λ (x : Sent). t + cost_of s.speed x.item.size ≤ x.end) (sent_of events)
ends s t [] costs late = tt
ends s t (sending x ∷ events) costs late = let cost = costs.0 in let here = late.0 in (omega (arith, cost, here), ends s t events costs.1 late.1)
ends s t (aging a ∷ events) costs late = ends s t events costs.1 late.1

pub nothing_ends_before : SentInParts → EventsAreInParts → NothingEndsBefore
nothing_ends_before parts split s t items =
    let events = service s 0 items in
    let two = split s t items in
    let later = two.0 in
    let is : events ≡ before t events ++ later = two.1 in
    let none : before t later ≡ [] =
    no_more (before t events) (before t later)
    (ap (before t) is ∙ filter-append (λ (e : Event). nat_lt (instant e) t) (before t events) later ∙ ap (λ (first : List Event). first ++ before t later) (twice t events)) in
    let costs : AllByRecursion (Costs s) later = second_of (Costs s) (before t events) later (subst (AllByRecursion (Costs s)) is (serve_costs (length items) s 0 items)) in
    (sent_of later, ap sent_of is ∙ parts (before t events) later, ends s t later costs (none_before t later none))
