-- Events of a port that come behind those that were told.
use Rattle.std.proofs.Common.{◌≡◌, ℕ, zero, suc, ◌+◌, ◌<◌, ◌≤◌, List, [], ◌∷◌, ◌++◌, length, drop, refl, sym, ap, ◌∙◌, arith, append_assoc, append-nil, subst}
use Rattle.std.proofs.lemmas.List.{length-append}
use Rattle.afdx_port.specs.declared.Settings.{Settings}
use Rattle.afdx_port.specs.declared.Sent.{Sent}
use Rattle.afdx_port.specs.declared.Aged.{Aged}
use Rattle.afdx_port.specs.Service.{Event, sending, aging, sent_of, aged_of}
use Rattle.afdx_port.specs.Inner.Events.{SentInParts, AgedInParts}
use Rattle.afdx_trace.specs.declared.shown.Shown.{Shown}
use Rattle.afdx_trace.specs.Departures.{if_shown, sent_line, aged_line, event_lines, AreInOrder}
use Rattle.afdx_trace.specs.Inner.Telling.{AreTold}

-- ---- lists

drop_front : {X : Type 0} (xs ys : List X) → drop (length xs) (xs ++ ys) ≡ ys
drop_front [] ys = refl
drop_front (x ∷ xs) ys = drop_front xs ys

-- where none is left after so many, these are all
none_left : {X : Type 0} (n : ℕ) (xs : List X) → [] ≡ drop n xs → n ≤ length xs → n ≡ length xs
none_left zero [] none le = refl
none_left zero (x ∷ xs) none le = absurd (let e : [] ≡ x ∷ xs = none in cc)
none_left (suc n) [] none le = absurd (omega (arith, le))
none_left (suc n) (x ∷ xs) none le = ap suc (none_left n xs none (omega (arith, le)))

-- the one after so many, and those after it
drop_one : {X : Type 0} (n : ℕ) (x : X) (xs more : List X) → x ∷ more ≡ drop n xs → (more ≡ drop (n + 1) xs) × (n < length xs)
drop_one zero x [] more is = absurd (let e : x ∷ more ≡ [] = is in cc)
drop_one zero x (y ∷ xs) more is = (ap (drop 1) is, omega arith)
drop_one (suc n) x [] more is = absurd (let e : x ∷ more ≡ [] = is in cc)
drop_one (suc n) x (y ∷ xs) more is = let rest = drop_one n x xs more is in
    (rest.0 ∙ ap (λ (k : ℕ). drop k (y ∷ xs)) (let e : suc (n + 1) ≡ suc n + 1 = omega arith in e), (let lt = rest.1 in omega (arith, lt)))

-- ---- lines

-- the lines of events in two parts
pub lines_in_parts : (shown : Shown) (port : ℕ) (s : Settings) (n : ℕ) (xs ys : List Event)
    → event_lines shown port s n (xs ++ ys) ≡ event_lines shown port s n xs ++ event_lines shown port s (n + length (sent_of xs)) ys
lines_in_parts shown port s n [] ys = ap (λ (m : ℕ). event_lines shown port s m ys) (let e : n ≡ n + 0 = omega arith in e)
lines_in_parts shown port s n (sending x ∷ xs) ys =
    let line = if_shown shown x.item (sent_line shown port s (n + 1) x) in
    let number : (n + 1) + length (sent_of xs) ≡ n + suc (length (sent_of xs)) = omega arith in
    ap (λ (lines : List ℕ). line ++ lines) (lines_in_parts shown port s (n + 1) xs ys
    ∙ ap (λ (m : ℕ). event_lines shown port s (n + 1) xs ++ event_lines shown port s m ys) number)
    ∙ sym (append_assoc line (event_lines shown port s (n + 1) xs) (event_lines shown port s (n + suc (length (sent_of xs))) ys))
lines_in_parts shown port s n (aging a ∷ xs) ys =
    let line = if_shown shown a.item (aged_line shown port s a) in
    ap (λ (lines : List ℕ). line ++ lines) (lines_in_parts shown port s n xs ys)
    ∙ sym (append_assoc line (event_lines shown port s n xs) (event_lines shown port s (n + length (sent_of xs)) ys))

-- events behind others are in order, where all are
rest_in_order : (xs ys : List Event) → AreInOrder (xs ++ ys) → AreInOrder ys
rest_in_order [] ys order = order
rest_in_order (sending x ∷ xs) ys order = rest_in_order xs ys order.1
rest_in_order (aging a ∷ xs) ys order = rest_in_order xs ys order.1

-- ---- more events

-- where all were told, those that are carried out later are left
pub more_left : SentInParts → AgedInParts → (shown : Shown) (port : ℕ) (s : Settings) (all later more : List Event) (sent aged : ℕ) (lines : List ℕ) → later ≡ all ++ more → AreInOrder later
    → AreTold shown port s all sent aged lines [] → AreTold shown port s later sent aged lines more
more_left sents ageds shown port s all later more sent aged lines is order told =
    subst (λ (events : List Event). AreTold shown port s events sent aged lines more) (sym is) (record {
      order = rest_in_order all more (subst AreInOrder is order);
      sent_left = sym (ap (drop sent) (sents all more) ∙ ap (λ (n : ℕ). drop n (sent_of all ++ sent_of more)) count_sent ∙ drop_front (sent_of all) (sent_of more));
      aged_left = sym (ap (drop aged) (ageds all more) ∙ ap (λ (n : ℕ). drop n (aged_of all ++ aged_of more)) count_aged ∙ drop_front (aged_of all) (aged_of more));
      many_sent = (let parts = ap length (sents all more) in let longer = length-append (sent_of all) (sent_of more) in omega (arith, parts, longer, count_sent));
      many_aged = (let parts = ap length (ageds all more) in let longer = length-append (aged_of all) (aged_of more) in omega (arith, parts, longer, count_aged));
      text = lines_in_parts shown port s 0 all more
          ∙ ap (λ (text : List ℕ). text ++ event_lines shown port s (0 + length (sent_of all)) more) (told.text ∙ append-nil lines)
          ∙ ap (λ (n : ℕ). lines ++ event_lines shown port s n more) (let e : 0 + length (sent_of all) ≡ sent = omega (arith, count_sent) in e);
    }) where
      count_sent : sent ≡ length (sent_of all)
      count_sent = none_left sent (sent_of all) told.sent_left told.many_sent

      count_aged : aged ≡ length (aged_of all)
      count_aged = none_left aged (aged_of all) told.aged_left told.many_aged

-- ---- one more is told

grown : (all lines line more longer : List ℕ) → all ≡ lines ++ (line ++ more) → longer ≡ lines ++ line → all ≡ longer ++ more
grown all lines line more longer before is = before ∙ sym (append_assoc lines line more) ∙ sym (ap (λ (text : List ℕ). text ++ more) is)

pub sent_told : (shown : Shown) (port : ℕ) (s : Settings) (all left : List Event) (x : Sent) (sent aged later : ℕ) (lines longer : List ℕ) → later ≡ sent + 1
    → longer ≡ lines ++ if_shown shown x.item (sent_line shown port s (sent + 1) x) → AreTold shown port s all sent aged lines (sending x ∷ left) → AreTold shown port s all later aged longer left
sent_told shown port s all left x sent aged later lines longer next is told =
    let one = drop_one sent x (sent_of all) (sent_of left) told.sent_left in
    subst (λ (n : ℕ). AreTold shown port s all n aged longer left) (sym next) (record {
      order = told.order.1;
      sent_left = one.0;
      aged_left = told.aged_left;
      many_sent = (let lt = one.1 in omega (arith, lt));
      many_aged = told.many_aged;
      text = grown (event_lines shown port s 0 all) lines (if_shown shown x.item (sent_line shown port s (sent + 1) x)) (event_lines shown port s (sent + 1) left) longer told.text is;
    })

pub aged_told : (shown : Shown) (port : ℕ) (s : Settings) (all left : List Event) (a : Aged) (sent aged later : ℕ) (lines longer : List ℕ) → later ≡ aged + 1
    → longer ≡ lines ++ if_shown shown a.item (aged_line shown port s a) → AreTold shown port s all sent aged lines (aging a ∷ left) → AreTold shown port s all sent later longer left
aged_told shown port s all left a sent aged later lines longer next is told =
    let one = drop_one aged a (aged_of all) (aged_of left) told.aged_left in
    subst (λ (n : ℕ). AreTold shown port s all sent n longer left) (sym next) (record {
      order = told.order.1;
      sent_left = told.sent_left;
      aged_left = one.0;
      many_sent = told.many_sent;
      many_aged = (let lt = one.1 in omega (arith, lt));
      text = grown (event_lines shown port s 0 all) lines (if_shown shown a.item (aged_line shown port s a)) (event_lines shown port s sent left) longer told.text is;
    })
