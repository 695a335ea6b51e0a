-- The lines of a port's events, one after the other.
use Rattle.std.proofs.Common.{◌≡◌, ℕ, ◌+◌, ◌<◌, ◌≤◌, nat_le, Bool, true, false, List, [], ◌∷◌, ◌++◌, length, get_or, drop, refl, sym, ap, ◌∙◌, arith, append_assoc, append-nil}
use Rattle.std.specs.List.{AllByRecursion}
use Rattle.std.proofs.lemmas.Bool.{le-leb}
use Rattle.std.proofs.lemmas.Bool.Decides.{nat_tests}
use Rattle.afdx_port.specs.declared.Settings.{Settings}
use Rattle.afdx_port.specs.declared.Sent.{Sent}
use Rattle.afdx_port.specs.declared.Aged.{Aged}
use Rattle.afdx_port.specs.Service.{Event, sending, aging, instant, sent_of, aged_of}
use Rattle.afdx_trace.specs.declared.shown.Shown.{Shown}
use Rattle.afdx_trace.specs.Departures.{if_shown, sent_line, aged_line, event_lines, ages_next, AreInOrder}

-- the events that are left, where these lists have what is left of them
pub record Left (shown : Shown) (port : ℕ) (s : Settings) (all : List Event) (sent : List Sent) (aged : List Aged) (number : ℕ) (start text : List ℕ) : Type 0 where
  pub events : List Event
  pub order : AreInOrder events
  pub sent_is : sent_of events ≡ sent
  pub aged_is : aged_of events ≡ aged
  pub text_is : start ++ event_lines shown port s 0 all ≡ text ++ event_lines shown port s number events

-- the loop's invariant: so for all events that the lists may be of
abbrev pub LeftOf : Shown → ℕ → Settings → List Sent → List Aged → List Sent → List Aged → ℕ → List ℕ → List ℕ → Type 0
LeftOf shown port s sent₀ aged₀ sent aged number start text = (all : List Event) → AreInOrder all → sent_of all ≡ sent₀ → aged_of all ≡ aged₀
    → Left shown port s all sent aged number start text

aged_late : (t : ℕ) (events : List Event) (a : Aged) (aged : List Aged) → AllByRecursion (λ event. t < instant event) events → aged_of events ≡ a ∷ aged → t < a.at
aged_late t [] a aged late is = absurd (let e : [] ≡ a ∷ aged = is in cc)
aged_late t (sending x ∷ events) a aged late is = aged_late t events a aged late.1 is
aged_late t (aging x ∷ events) a aged late is =
    let h = late.0 in let e : x ∷ aged_of events ≡ a ∷ aged = is in let same : x.at ≡ a.at = ap (λ (xs : List Aged). (get_or xs 0 a).at) e in omega (arith, h, same)

sent_late : (t : ℕ) (events : List Event) (x : Sent) (sent : List Sent) → AllByRecursion (λ event. t ≤ instant event) events → sent_of events ≡ x ∷ sent → t ≤ x.begin
sent_late t [] x sent late is = absurd (let e : [] ≡ x ∷ sent = is in cc)
sent_late t (aging a ∷ events) x sent late is = sent_late t events x sent late.1 is
sent_late t (sending y ∷ events) x sent late is =
    let h = late.0 in let e : y ∷ sent_of events ≡ x ∷ sent = is in let same : y.begin ≡ x.begin = ap (λ (xs : List Sent). (get_or xs 0 x).begin) e in omega (arith, h, same)

-- ---- which is next

not_both : {A : Type 0} → false ≡ true → A
not_both e = absurd (cc)

-- whether the first of some events was discarded
abbrev pub starts_aged : List Event → Bool
starts_aged [] = false
starts_aged (sending x ∷ events) = false
starts_aged (aging x ∷ events) = true

after_sent : (x : Sent) (events : List Event) (aged : List Aged) → AllByRecursion (λ event. x.begin < instant event) events → aged_of events ≡ aged → ages_next (x ∷ sent_of events) aged ≡ false
after_sent x events [] late is = refl
after_sent x events (a ∷ aged) late is = let later = aged_late x.begin events a aged late is in not_le a.at x.begin later where
  not_le : (m n : ℕ) → n < m → nat_le m n ≡ false
  not_le m n lt = grind (arith, nat_tests)

after_aged : (a : Aged) (events : List Event) (sent : List Sent) → AllByRecursion (λ event. a.at ≤ instant event) events → sent_of events ≡ sent → ages_next sent (a ∷ aged_of events) ≡ true
after_aged a events [] late is = refl
after_aged a events (x ∷ sent) late is = le-leb a.at x.begin (sent_late a.at events x sent late is)

pub ages_next-starts : (events : List Event) → AreInOrder events → ages_next (sent_of events) (aged_of events) ≡ starts_aged events
ages_next-starts [] order = refl
ages_next-starts (sending x ∷ events) order = after_sent x events (aged_of events) order.0 refl
ages_next-starts (aging a ∷ events) order = after_aged a events (sent_of events) order.0 refl

-- ---- one line more

grown : (start all text line more longer : List ℕ) → start ++ all ≡ text ++ (line ++ more) → longer ≡ text ++ line → start ++ all ≡ longer ++ more
grown start all text line more longer before is = before ∙ sym (append_assoc text line more) ∙ sym (ap (λ (t : List ℕ). t ++ more) is)

one_aged : (shown : Shown) (port : ℕ) (s : Settings) (all events : List Event) (sent : List Sent) (a : Aged) (aged : List Aged) (number : ℕ) (start text longer : List ℕ) → starts_aged events ≡ true
    → AreInOrder events
    → sent_of events ≡ sent → aged_of events ≡ a ∷ aged → start ++ event_lines shown port s 0 all ≡ text ++ event_lines shown port s number events
    → longer ≡ text ++ if_shown shown a.item (aged_line shown port s a)
    → Left shown port s all sent aged number start longer
one_aged shown port s all [] sent a aged number start text longer next order sent_is aged_is before is = not_both next
one_aged shown port s all (sending x ∷ events) sent a aged number start text longer next order sent_is aged_is before is = not_both next
one_aged shown port s all (aging b ∷ events) sent a aged number start text longer next order sent_is aged_is before is = record {
  events = events;
  order = order.1;
  sent_is = sent_is;
  aged_is = ap (drop 1) aged_is;
  text_is = grown start (event_lines shown port s 0 all) text (if_shown shown b.item (aged_line shown port s b)) (event_lines shown port s number events) longer before
      (is ∙ ap (λ (xs : List Aged). text ++ if_shown shown (get_or xs 0 a).item (aged_line shown port s (get_or xs 0 a))) (sym aged_is));
}

one_sent : (shown : Shown) (port : ℕ) (s : Settings) (all events : List Event) (x : Sent) (sent : List Sent) (aged : List Aged) (number : ℕ) (start text longer : List ℕ) → starts_aged events ≡ false
    → AreInOrder events
    → sent_of events ≡ x ∷ sent → aged_of events ≡ aged → start ++ event_lines shown port s 0 all ≡ text ++ event_lines shown port s number events
    → longer ≡ text ++ if_shown shown x.item (sent_line shown port s (number + 1) x)
    → Left shown port s all sent aged (number + 1) start longer
one_sent shown port s all [] x sent aged number start text longer next order sent_is aged_is before is = absurd (let none : 0 ≡ length (x ∷ sent) = ap length sent_is in omega (arith, none))
one_sent shown port s all (aging a ∷ events) x sent aged number start text longer next order sent_is aged_is before is = not_both (sym next)
one_sent shown port s all (sending y ∷ events) x sent aged number start text longer next order sent_is aged_is before is = record {
  events = events;
  order = order.1;
  sent_is = ap (drop 1) sent_is;
  aged_is = aged_is;
  text_is = grown start (event_lines shown port s 0 all) text (if_shown shown y.item (sent_line shown port s (number + 1) y)) (event_lines shown port s (number + 1) events) longer before
      (is ∙ ap (λ (xs : List Sent). text ++ if_shown shown (get_or xs 0 x).item (sent_line shown port s (number + 1) (get_or xs 0 x))) (sym sent_is));
}

-- what the lists say of the events
reported : (shown : Shown) (port : ℕ) (s : Settings) (all : List Event) (sent : List Sent) (aged : List Aged) (number : ℕ) (start text : List ℕ) (l : Left shown port s all sent aged number start text)
    → ages_next sent aged ≡ starts_aged l.events
reported shown port s all sent aged number start text l = sym (ap (λ (xs : List Sent). ages_next xs aged) l.sent_is) ∙ sym (ap (ages_next (sent_of l.events)) l.aged_is)
    ∙ ages_next-starts l.events l.order

pub left_aged : (shown : Shown) (port : ℕ) (s : Settings) (sent₀ sent : List Sent) (aged₀ before_aged : List Aged) (a : Aged) (aged : List Aged) (number : ℕ) (start text longer : List ℕ)
    → ages_next sent before_aged ≡ true → before_aged ≡ a ∷ aged
    → longer ≡ text ++ if_shown shown a.item (aged_line shown port s a) → LeftOf shown port s sent₀ aged₀ sent before_aged number start text
    → LeftOf shown port s sent₀ aged₀ sent aged number start longer
left_aged shown port s sent₀ sent aged₀ before_aged a aged number start text longer next parts is before all order sent_is aged_is =
    let l = before all order sent_is aged_is in
    one_aged shown port s all l.events sent a aged number start text longer (sym (reported shown port s all sent before_aged number start text l) ∙ next) l.order l.sent_is
    (l.aged_is ∙ parts) l.text_is is

pub left_sent : (shown : Shown) (port : ℕ) (s : Settings) (sent₀ before_sent : List Sent) (x : Sent) (sent : List Sent) (aged₀ aged : List Aged) (number : ℕ) (start text longer : List ℕ)
    → ages_next before_sent aged ≡ false → before_sent ≡ x ∷ sent
    → longer ≡ text ++ if_shown shown x.item (sent_line shown port s (number + 1) x) → LeftOf shown port s sent₀ aged₀ before_sent aged number start text
    → LeftOf shown port s sent₀ aged₀ sent aged (number + 1) start longer
left_sent shown port s sent₀ before_sent x sent aged₀ aged number start text longer next parts is before all order sent_is aged_is =
    let l = before all order sent_is aged_is in
    one_sent shown port s all l.events x sent aged number start text longer (sym (reported shown port s all before_sent aged number start text l) ∙ next) l.order
    (l.sent_is ∙ parts) l.aged_is l.text_is is

-- no event is left
none_sent : (sent : List Sent) → length sent ≡ 0 → sent ≡ []
none_sent [] none = refl
none_sent (x ∷ sent) none = absurd (omega (arith, none))

none_aged : (aged : List Aged) → length aged ≡ 0 → aged ≡ []
none_aged [] none = refl
none_aged (a ∷ aged) none = absurd (omega (arith, none))

none_left : (shown : Shown) (port : ℕ) (s : Settings) (events : List Event) (number : ℕ) → sent_of events ≡ [] → aged_of events ≡ [] → event_lines shown port s number events ≡ []
none_left shown port s [] number no_sent no_aged = refl
none_left shown port s (sending x ∷ events) number no_sent no_aged = absurd (let none : length (x ∷ sent_of events) ≡ 0 = ap length no_sent in omega (arith, none))
none_left shown port s (aging a ∷ events) number no_sent no_aged = absurd (let none : length (a ∷ aged_of events) ≡ 0 = ap length no_aged in omega (arith, none))

pub all_reported : (shown : Shown) (port : ℕ) (s : Settings) (sent₀ sent : List Sent) (aged₀ aged : List Aged) (number : ℕ) (start text : List ℕ) → length sent ≡ 0 → length aged ≡ 0
    → LeftOf shown port s sent₀ aged₀ sent aged number start text
    → (events : List Event) → AreInOrder events → sent_of events ≡ sent₀ → aged_of events ≡ aged₀ → text ≡ start ++ event_lines shown port s 0 events
all_reported shown port s sent₀ sent aged₀ aged number start text no_sent no_aged before events order sent_is aged_is =
    let l = before events order sent_is aged_is in
    sym (l.text_is ∙ ap (λ (t : List ℕ). text ++ t) (none_left shown port s l.events number (l.sent_is ∙ none_sent sent no_sent) (l.aged_is ∙ none_aged aged no_aged)) ∙ append-nil text)
