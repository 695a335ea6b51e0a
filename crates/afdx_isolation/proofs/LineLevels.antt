-- The supply of the lines of a port: that it does not grow over time, and that each item takes its line time from it.
use Rattle.std.proofs.Common.{◌≡◌, ℕ, zero, suc, ◌+◌, ◌-◌, ◌*◌, ◌≤◌, Bool, true, false, cond, List, [], ◌∷◌, get_or, refl, ap, sym, ◌∙◌, subst, arith, ⊎_elim}
use Rattle.std.specs.Prelude.{filter, sum_by, All, Contains, Option, Some, None, IfSome}
use Rattle.std.proofs.lemmas.Bool.{cases_Bool}
use Rattle.std.proofs.lemmas.List.Sums.{sum_by-cons}
use Rattle.std.proofs.lemmas.List.Elements.{All-head, All-tail, All-weaker, All-contains, All-filter}
use Rattle.std.proofs.Math.Nat.{mul-le-mul_left}
use Rattle.afdx_units.specs.declared.line.Speed.{Speed}
use Rattle.afdx_units.specs.declared.line.Speed.TheVariants.{Ten, Hundred, Thousand}
use Rattle.afdx_units.specs.Line.{cost_of, is_high}
use Rattle.afdx_serial.specs.Serial.{KnownLine}
use Rattle.afdx_port.specs.declared.Settings.{Settings}
use Rattle.afdx_port.specs.declared.Item.{Item}
use Rattle.afdx_port.specs.Inner.Work.{item_cost}
use Rattle.afdx_account.specs.Policing.{parts}
use Rattle.afdx_isolation.specs.Inner.Flow.{Flow, IsPaidFor, high_flows, rates, bursts}
use Rattle.afdx_isolation.specs.Inner.Potential.{held}
use Rattle.afdx_isolation.specs.Inner.Account.{AreWithinCaps, Grow, AreDebited, IsOfAFlow, charge}
use Rattle.afdx_isolation.specs.Inner.Supply.{GoesOnTo, IsTakenFrom}
use Rattle.afdx_isolation.specs.Inner.Lines.{Line, flows_on, line_weight, limited, paid_in, all_in, high_in, full, all_at_hand, high_at_hand, AreEnough, demand_by, supply_of, AreOnLines}
use Rattle.afdx_isolation.specs.Inner.Lines.{AreCredited, AreCharged}
use Rattle.afdx_isolation.proofs.Sums.{grown, capped, pays, falls, among_filter, high_part}

-- ---- sums over lines

sums_fall : {X : Type 0} (f f' : X → ℕ) (xs : List X) → All (λ x. f' x ≤ f x) xs → sum_by f' xs ≤ sum_by f xs
sums_fall f f' [] h = omega arith
sums_fall f f' (x ∷ xs) h =
    let here = All-head (λ x. f' x ≤ f x) x xs h in
    let ih = sums_fall f f' xs (All-tail (λ x. f' x ≤ f x) x xs h) in
    omega (arith, here, ih, sum_by-cons f x xs, sum_by-cons f' x xs)

sums_pay : {X : Type 0} (f f' : X → ℕ) (c : ℕ) (xs : List X) (one : X) → All (λ x. f' x ≤ f x) xs → Contains xs one → c + f' one ≤ f one → c + sum_by f' xs ≤ sum_by f xs
sums_pay f f' c [] one h (k, lt, is) pay = absurd (omega (arith, lt))
sums_pay f f' c (x ∷ xs) one h (zero, lt, is) pay =
    let here : c + f' x ≤ f x = subst (λ y. c + f' y ≤ f y) (sym is) pay in
    let ih = sums_fall f f' xs (All-tail (λ x. f' x ≤ f x) x xs h) in
    omega (arith, here, ih, sum_by-cons f x xs, sum_by-cons f' x xs)
sums_pay f f' c (x ∷ xs) one h (suc k, lt, is) pay =
    let here = All-head (λ x. f' x ≤ f x) x xs h in
    let ih = sums_pay f f' c xs one (All-tail (λ x. f' x ≤ f x) x xs h) (k, omega (arith, lt), is) pay in
    omega (arith, here, ih, sum_by-cons f x xs, sum_by-cons f' x xs)

-- ---- one line

-- no more is at hand by the same instant
limited_later : (known : Option KnownLine) (here : Speed) (level level' spare window window' accounts accounts' : ℕ) → accounts' ≤ accounts → level' + window' ≤ level + window
    → limited known here level' spare window' accounts' ≤ limited known here level spare window accounts
limited_later None here level level' spare window window' accounts accounts' less still = less
limited_later (Some there) here level level' spare window window' accounts accounts' less still =
    let brings = mul-le-mul_left (line_weight here there.speed) still in
    omega (arith, brings, less)

-- a nanosecond of line time there is so many parts of one here
weighs : (here there : Speed) (size : ℕ) → line_weight here there * cost_of there size ≡ parts * cost_of here size
weighs Ten Ten size = omega arith
weighs Ten Hundred size = omega arith
weighs Ten Thousand size = omega arith
weighs Hundred Ten size = omega arith
weighs Hundred Hundred size = omega arith
weighs Hundred Thousand size = omega arith
weighs Thousand Ten size = omega arith
weighs Thousand Hundred size = omega arith
weighs Thousand Thousand size = omega arith

limited_pays : (known : Option KnownLine) (here : Speed) (size level level' spare window accounts accounts' : ℕ) → parts * cost_of here size + accounts' ≤ accounts
    → IfSome known (λ there. cost_of there.speed size + level' ≤ level)
    → parts * cost_of here size + limited known here level' spare window accounts' ≤ limited known here level spare window accounts
limited_pays None here size level level' spare window accounts accounts' pay charged = pay
limited_pays (Some there) here size level level' spare window accounts accounts' pay charged =
    let w = line_weight here there.speed in
    let some : w * (cost_of there.speed size + level' + window) ≤ w * (level + window) = let le : cost_of there.speed size + level' + window ≤ level + window = omega (arith, charged) in
    mul-le-mul_left w le in
    let split : w * (cost_of there.speed size + level' + window) ≡ w * cost_of there.speed size + w * (level' + window) = spread w (cost_of there.speed size) level' window in
    omega (arith, some, split, weighs here there.speed size, pay) where
      spread : (w a b c : ℕ) → w * (a + b + c) ≡ w * a + w * (b + c)
      spread w a b c = omega arith

-- what accounts pay for by the same instant
paid_later : (flows : List Flow) (level after : Flow → ℕ) (d window : ℕ) → Grow flows d level after → paid_in after flows window ≤ paid_in level flows (d + window)
paid_later flows level after d window grow =
    let more = grown flows d level after grow in
    let split : rates flows * (d + window) ≡ rates flows * d + rates flows * window = omega arith in
    omega (arith, more, split)

module _ (s : Settings) (flows : List Flow) (lines : List Line) where
  on_grow : (line : Line) (d : ℕ) (level after : Flow → ℕ) → Grow flows d level after → Grow (flows_on line flows) d level after
  on_grow line d level after grow = All-filter (λ flow. line.has flow.id) (λ flow. (after flow ≤ flow.terms.cap) × (after flow ≤ level flow + flow.terms.rate * d)) flows grow

  high_grow : (some : List Flow) (d : ℕ) (level after : Flow → ℕ) → Grow some d level after → Grow (high_flows some) d level after
  high_grow some d level after grow = All-filter (λ flow. is_high flow.priority) (λ flow. (after flow ≤ flow.terms.cap) × (after flow ≤ level flow + flow.terms.rate * d)) some grow

  caps_of : (some : List Flow) (d : ℕ) (level after : Flow → ℕ) → Grow some d level after → AreWithinCaps some after
  caps_of some d level after grow k x lt = (grow k x lt).0

  -- ---- time passes
  module _ (now to : ℕ) (le : now ≤ to) (level after : Flow → ℕ) (grow : Grow flows (to - now) level after) where
    all_fall : (hand hand' : Line → ℕ) (v : ℕ) → to ≤ v → AreCredited lines (all_at_hand flows) (to - now) hand hand'
        → sum_by (all_in s flows after hand' (v - to)) lines ≤ sum_by (all_in s flows level hand (v - now)) lines
    all_fall hand hand' v later credited =
        sums_fall (all_in s flows level hand (v - now)) (all_in s flows after hand' (v - to)) lines
        (All-weaker (λ (line : Line). (hand' line ≤ all_at_hand flows line) × (hand' line ≤ hand line + (to - now)))
        (λ line. all_in s flows after hand' (v - to) line ≤ all_in s flows level hand (v - now) line)
        (λ line more.
        let on = flows_on line flows in
        let window : (to - now) + (v - to) ≡ v - now = omega (arith, le, later) in
        let accounts : paid_in after on (v - to) ≤ paid_in level on (v - now)
        = subst (λ w. paid_in after on (v - to) ≤ paid_in level on w) window (paid_later on level after (to - now) (v - to) (on_grow line (to - now) level after grow)) in
        limited_later line.known s.speed (hand line) (hand' line) (bursts (high_flows on)) (v - now) (v - to) (paid_in level on (v - now)) (paid_in after on (v - to)) accounts
        (omega (arith, more.1, window))) lines credited)

    high_fall : (hand hand' : Line → ℕ) (v : ℕ) → to ≤ v → AreCredited lines (high_at_hand flows) (to - now) hand hand'
        → sum_by (high_in s flows after hand' (v - to)) lines ≤ sum_by (high_in s flows level hand (v - now)) lines
    high_fall hand hand' v later credited =
        sums_fall (high_in s flows level hand (v - now)) (high_in s flows after hand' (v - to)) lines
        (All-weaker (λ (line : Line). (hand' line ≤ high_at_hand flows line) × (hand' line ≤ hand line + (to - now)))
        (λ line. high_in s flows after hand' (v - to) line ≤ high_in s flows level hand (v - now) line)
        (λ line more.
        let on = high_flows (flows_on line flows) in
        let window : (to - now) + (v - to) ≡ v - now = omega (arith, le, later) in
        let accounts : paid_in after on (v - to) ≤ paid_in level on (v - now)
        = subst (λ w. paid_in after on (v - to) ≤ paid_in level on w) window
        (paid_later on level after (to - now) (v - to) (high_grow (flows_on line flows) (to - now) level after (on_grow line (to - now) level after grow))) in
        limited_later line.known s.speed (hand line) (hand' line) 0 (v - now) (v - to) (paid_in level on (v - now)) (paid_in after on (v - to)) accounts
        (omega (arith, more.1, window))) lines credited)

  -- ---- within the caps
  module _ (burst high_burst : ℕ) (enough : AreEnough s flows lines burst high_burst) (after : Flow → ℕ) (caps : AreWithinCaps flows after) where
    pub all_cover : (to v : ℕ) (hand : Line → ℕ) → to ≤ v → All (λ line. hand line ≤ all_at_hand flows line) lines
        → parts * to + sum_by (all_in s flows after hand (v - to)) lines ≤ parts * v + burst
    all_cover to v hand later small =
        let less = sums_fall (all_in s flows full (all_at_hand flows) (v - to)) (all_in s flows after hand (v - to)) lines
        (All-weaker (λ (line : Line). hand line ≤ all_at_hand flows line) (λ line. all_in s flows after hand (v - to) line ≤ all_in s flows full (all_at_hand flows) (v - to) line)
        (λ line fits.
        let on = flows_on line flows in
        let most = capped on after (All-filter (λ flow. line.has flow.id) (λ flow. after flow ≤ flow.terms.cap) flows caps) in
        limited_later line.known s.speed (all_at_hand flows line) (hand line) (bursts (high_flows on)) (v - to) (v - to) (paid_in full on (v - to)) (paid_in after on (v - to)) (omega (arith, most))
        (omega (arith, fits))) lines small) in
        let fits = enough.all (v - to) in
        let split : parts * to + parts * (v - to) ≡ parts * v = omega (arith, later) in
        omega (arith, less, fits, split)

    pub high_cover : (to v : ℕ) (hand : Line → ℕ) → to ≤ v → All (λ line. hand line ≤ high_at_hand flows line) lines
        → parts * to + sum_by (high_in s flows after hand (v - to)) lines ≤ parts * v + high_burst
    high_cover to v hand later small =
        let less = sums_fall (high_in s flows full (high_at_hand flows) (v - to)) (high_in s flows after hand (v - to)) lines
        (All-weaker (λ (line : Line). hand line ≤ high_at_hand flows line) (λ line. high_in s flows after hand (v - to) line ≤ high_in s flows full (high_at_hand flows) (v - to) line)
        (λ line fits.
        let on = high_flows (flows_on line flows) in
        let most = capped on after (All-filter (λ flow. is_high flow.priority) (λ flow. after flow ≤ flow.terms.cap) (flows_on line flows)
        (All-filter (λ flow. line.has flow.id) (λ flow. after flow ≤ flow.terms.cap) flows caps)) in
        limited_later line.known s.speed (high_at_hand flows line) (hand line) 0 (v - to) (v - to) (paid_in full on (v - to)) (paid_in after on (v - to)) (omega (arith, most))
        (omega (arith, fits))) lines small) in
        let fits = enough.high (v - to) in
        let split : parts * to + parts * (v - to) ≡ parts * v = omega (arith, later) in
        omega (arith, less, fits, split)

  pub goes_on : (burst high_burst : ℕ) → AreEnough s flows lines burst high_burst → (now to : ℕ) → now ≤ to → (level after : Flow → ℕ) (all_hand all_hand' high_hand high_hand' : Line → ℕ)
      → Grow flows (to - now) level after → AreCredited lines (all_at_hand flows) (to - now) all_hand all_hand' → AreCredited lines (high_at_hand flows) (to - now) high_hand high_hand'
      → GoesOnTo parts (demand_by s flows burst high_burst) now to (supply_of s flows lines level all_hand high_hand now) (supply_of s flows lines after all_hand' high_hand' to)
  goes_on burst high_burst enough now to le level after all_hand all_hand' high_hand high_hand' grow credited high_credited =
      let caps = caps_of flows (to - now) level after grow in
      record {
        all_falls = λ v later. all_fall now to le level after grow all_hand all_hand' v later credited;
        high_falls = λ v later. high_fall now to le level after grow high_hand high_hand' v later high_credited;
        level_grows = grown (high_flows flows) (to - now) level after (high_grow flows (to - now) level after grow);
        all_covered = λ v later. all_cover burst high_burst enough after caps to v all_hand' later
            (All-weaker (λ (line : Line). (all_hand' line ≤ all_at_hand flows line) × (all_hand' line ≤ all_hand line + (to - now))) (λ line. all_hand' line ≤ all_at_hand flows line)
            (λ line both. both.0) lines credited);
        high_covered = λ v later. high_cover burst high_burst enough after caps to v high_hand' later
            (All-weaker (λ (line : Line). (high_hand' line ≤ high_at_hand flows line) × (high_hand' line ≤ high_hand line + (to - now))) (λ line. high_hand' line ≤ high_at_hand flows line)
            (λ line both. both.0) lines high_credited);
      }

  -- ---- an item comes
  module _ (paid : All (IsPaidFor s) flows) (on_lines : AreOnLines lines flows) (x : Item) (r : IsOfAFlow flows x) (level after : Flow → ℕ) (debits : AreDebited flows x level after) where
    abbrev cost : ℕ
    cost = parts * item_cost s x

    price : cost ≤ r.flow.weight * r.flow.terms.price x.size
    price = (All-contains (IsPaidFor s) flows r.flow paid r.among).pays x.size r.least r.largest

    on_debits : (line : Line) → AreDebited (flows_on line flows) x level after
    on_debits line = All-filter (λ flow. line.has flow.id) (λ flow. after flow + charge x flow ≤ level flow) flows debits

    high_debits : (some : List Flow) → AreDebited some x level after → AreDebited (high_flows some) x level after
    high_debits some h = All-filter (λ flow. is_high flow.priority) (λ flow. after flow + charge x flow ≤ level flow) some h

    -- the item's line
    own_line : (line : Line) × Contains lines line × (line.has r.flow.id ≡ true)
    own_line = All-contains (λ flow. (line : Line) × Contains lines line × (line.has flow.id ≡ true)) flows r.flow on_lines r.among

    own_has : own_line.0.has x.link ≡ true
    own_has = subst (λ id. own_line.0.has id ≡ true) r.same own_line.2

    on_own : Contains (flows_on own_line.0 flows) r.flow
    on_own = among_filter (λ flow. own_line.0.has flow.id) flows r.flow r.among own_line.2

    pub all_pay : (now v : ℕ) (hand hand' : Line → ℕ) → AreCharged lines x true hand hand'
        → cost + sum_by (all_in s flows after hand' (v - now)) lines ≤ sum_by (all_in s flows level hand (v - now)) lines
    all_pay now v hand hand' charged =
        let one = own_line.0 in
        let on = flows_on one flows in
        let here = All-contains (λ line. (hand' line ≤ hand line) × (true ≡ true → line.has x.link ≡ true → IfSome line.known (λ there. cost_of there.speed x.size + hand' line ≤ hand line)))
        lines one charged own_line.1 in
        let gives = pays on x r.flow on_own r.same level after (on_debits one) in
        sums_pay (all_in s flows level hand (v - now)) (all_in s flows after hand' (v - now)) cost lines one
        (All-weaker (λ (line : Line). (hand' line ≤ hand line) × (true ≡ true → line.has x.link ≡ true → IfSome line.known (λ there. cost_of there.speed x.size + hand' line ≤ hand line)))
        (λ line. all_in s flows after hand' (v - now) line ≤ all_in s flows level hand (v - now) line)
        (λ line less.
        let most = falls (flows_on line flows) x level after (on_debits line) in
        limited_later line.known s.speed (hand line) (hand' line) (bursts (high_flows (flows_on line flows))) (v - now) (v - now) (paid_in level (flows_on line flows) (v - now))
        (paid_in after (flows_on line flows) (v - now)) (omega (arith, most)) (omega (arith, less.0))) lines charged)
        own_line.1
        (limited_pays one.known s.speed x.size (hand one) (hand' one) (bursts (high_flows on)) (v - now) (paid_in level on (v - now)) (paid_in after on (v - now)) (omega (arith, gives, price))
        (here.1 refl own_has))

    pub high_pay : is_high x.priority ≡ true → (now v : ℕ) (hand hand' : Line → ℕ) → AreCharged lines x true hand hand'
        → cost + sum_by (high_in s flows after hand' (v - now)) lines ≤ sum_by (high_in s flows level hand (v - now)) lines
    high_pay is now v hand hand' charged =
        let one = own_line.0 in
        let on = high_flows (flows_on one flows) in
        let here = All-contains (λ line. (hand' line ≤ hand line) × (true ≡ true → line.has x.link ≡ true → IfSome line.known (λ there. cost_of there.speed x.size + hand' line ≤ hand line)))
        lines one charged own_line.1 in
        let gives = pays on x r.flow (among_filter (λ flow. is_high flow.priority) (flows_on one flows) r.flow on_own (ap is_high r.priority ∙ is)) r.same level after
        (high_debits (flows_on one flows) (on_debits one)) in
        sums_pay (high_in s flows level hand (v - now)) (high_in s flows after hand' (v - now)) cost lines one
        (All-weaker (λ (line : Line). (hand' line ≤ hand line) × (true ≡ true → line.has x.link ≡ true → IfSome line.known (λ there. cost_of there.speed x.size + hand' line ≤ hand line)))
        (λ line. high_in s flows after hand' (v - now) line ≤ high_in s flows level hand (v - now) line)
        (λ line less.
        let most = falls (high_flows (flows_on line flows)) x level after (high_debits (flows_on line flows) (on_debits line)) in
        limited_later line.known s.speed (hand line) (hand' line) 0 (v - now) (v - now) (paid_in level (high_flows (flows_on line flows)) (v - now))
        (paid_in after (high_flows (flows_on line flows)) (v - now)) (omega (arith, most)) (omega (arith, less.0))) lines charged)
        own_line.1
        (limited_pays one.known s.speed x.size (hand one) (hand' one) 0 (v - now) (paid_in level on (v - now)) (paid_in after on (v - now)) (omega (arith, gives, price)) (here.1 refl own_has))

    pub high_less : (counts : Bool) (now v : ℕ) (hand hand' : Line → ℕ) → AreCharged lines x counts hand hand'
        → sum_by (high_in s flows after hand' (v - now)) lines ≤ sum_by (high_in s flows level hand (v - now)) lines
    high_less counts now v hand hand' charged =
        sums_fall (high_in s flows level hand (v - now)) (high_in s flows after hand' (v - now)) lines
        (All-weaker (λ (line : Line). (hand' line ≤ hand line) × (counts ≡ true → line.has x.link ≡ true → IfSome line.known (λ there. cost_of there.speed x.size + hand' line ≤ hand line)))
        (λ line. high_in s flows after hand' (v - now) line ≤ high_in s flows level hand (v - now) line)
        (λ line less.
        let most = falls (high_flows (flows_on line flows)) x level after (high_debits (flows_on line flows) (on_debits line)) in
        limited_later line.known s.speed (hand line) (hand' line) 0 (v - now) (v - now) (paid_in level (high_flows (flows_on line flows)) (v - now))
        (paid_in after (high_flows (flows_on line flows)) (v - now)) (omega (arith, most)) (omega (arith, less.0))) lines charged)

  -- what the high accounts hold is within what may come at once
  abbrev high_held : (after : Flow → ℕ) (line : Line) (some : List Flow) → ℕ
  high_held after line some = held after (high_flows (flows_on line some))

  held_on_lines : (after : Flow → ℕ) (some : List Flow) → AreOnLines lines some → held after (high_flows some) ≤ sum_by (λ line. high_held after line some) lines
  held_on_lines after [] on = omega arith
  held_on_lines after (k ∷ some) on =
      let ih = held_on_lines after some (All-tail (λ flow. (line : Line) × Contains lines line × (line.has flow.id ≡ true)) k some on) in
      let own = All-head (λ flow. (line : Line) × Contains lines line × (line.has flow.id ≡ true)) k some on in
      ⊎_elim
      (λ (is : is_high k.priority ≡ true).
      let more = sums_pay (λ line. high_held after line (k ∷ some)) (λ line. high_held after line some) (k.weight * after k) lines own.0 (each k some) own.1 (adds k some own.0 own.2 is) in
      let front : held after (high_flows (k ∷ some)) ≡ k.weight * after k + held after (high_flows some)
      = ap (λ v. held after (cond v (k ∷ high_flows some) (high_flows some))) is ∙ sum_by-cons (λ flow. flow.weight * after flow) k (high_flows some) in
      omega (arith, more, ih, front))
      (λ (is : is_high k.priority ≡ false).
      let more = sums_fall (λ line. high_held after line (k ∷ some)) (λ line. high_held after line some) lines (each k some) in
      let front : held after (high_flows (k ∷ some)) ≡ held after (high_flows some) = ap (λ v. held after (cond v (k ∷ high_flows some) (high_flows some))) is in
      omega (arith, more, ih, front))
      (cases_Bool (is_high k.priority)) where
        grows : (k : Flow) (some : List Flow) (line : Line) → held after (high_flows (flows_on line some)) + cond (line.has k.id) (cond (is_high k.priority) (k.weight * after k) 0) 0
            ≤ held after (high_flows (flows_on line (k ∷ some)))
        grows k some line =
            elim (line.has k.id) as (λ v. held after (high_flows (flows_on line some)) + cond v (cond (is_high k.priority) (k.weight * after k) 0) 0
            ≤ held after (filter (λ flow. is_high flow.priority) (cond v (k ∷ flows_on line some) (flows_on line some)))) [
              | true ↦ elim (is_high k.priority) as (λ p. held after (high_flows (flows_on line some)) + cond p (k.weight * after k) 0
                  ≤ held after (cond p (k ∷ high_flows (flows_on line some)) (high_flows (flows_on line some)))) [
                    | true ↦ omega (arith, sum_by-cons (λ flow. flow.weight * after flow) k (high_flows (flows_on line some)))
                    | false ↦ omega arith
                  ]
              | false ↦ omega arith
            ]

        each : (k : Flow) (some : List Flow) → All (λ line. high_held after line some ≤ high_held after line (k ∷ some)) lines
        each k some i d lt = let h = grows k some (get_or lines i d) in omega (arith, h)

        adds : (k : Flow) (some : List Flow) (line : Line) → line.has k.id ≡ true → is_high k.priority ≡ true → k.weight * after k + high_held after line some ≤ high_held after line (k ∷ some)
        adds k some line has is =
            let h = grows k some line in
            let front : cond (line.has k.id) (cond (is_high k.priority) (k.weight * after k) 0) 0 ≡ k.weight * after k = ap (λ v. cond v (cond (is_high k.priority) (k.weight * after k) 0) 0) has
            ∙ ap (λ v. cond v (k.weight * after k) 0) is in
            omega (arith, h, front)

  -- no less may come over a line than a number within both
  limited_most : (known : Option KnownLine) (here : Speed) (level spare window accounts low : ℕ) → low ≤ accounts → low ≤ spare → low ≤ limited known here level spare window accounts
  limited_most None here level spare window accounts low paid' spared = paid'
  limited_most (Some there) here level spare window accounts low paid' spared = omega (arith, paid', spared)

  pub takes : (paid : All (IsPaidFor s) flows) → AreOnLines lines flows → (x : Item) → IsOfAFlow flows x → (level after : Flow → ℕ) → AreDebited flows x level after → AreWithinCaps flows after
      → (now : ℕ) (all_hand all_hand' high_hand high_hand' : Line → ℕ) → AreCharged lines x true all_hand all_hand' → AreCharged lines x (is_high x.priority) high_hand high_hand'
      → IsTakenFrom parts s now x (supply_of s flows lines level all_hand high_hand now) (supply_of s flows lines after all_hand' high_hand' now)
  takes paid on_lines x r level after debits caps now all_hand all_hand' high_hand high_hand' charged high_charged = record {
    all_pays = λ v later. all_pay paid on_lines x r level after debits now v all_hand all_hand' charged;
    high_pays = λ is v later. high_pay paid on_lines x r level after debits is now v high_hand high_hand' (subst (λ b. AreCharged lines x b high_hand high_hand') is high_charged);
    level_pays = λ is.
        let high = All-filter (λ flow. is_high flow.priority) (λ flow. after flow + charge x flow ≤ level flow) flows debits in
        let gives = pays (high_flows flows) x r.flow (among_filter (λ flow. is_high flow.priority) flows r.flow r.among (ap is_high r.priority ∙ is)) r.same level after high in
        omega (arith, gives, (All-contains (IsPaidFor s) flows r.flow paid r.among).pays x.size r.least r.largest);
    high_falls = λ v later. high_less paid on_lines x r level after debits (is_high x.priority) now v high_hand high_hand' high_charged;
    level_falls = falls (high_flows flows) x level after (All-filter (λ flow. is_high flow.priority) (λ flow. after flow + charge x flow ≤ level flow) flows debits);
    part =
        let held' = held_on_lines after flows on_lines in
        let more = sums_fall (all_in s flows after all_hand' (now - now)) (λ line. high_held after line flows) lines (λ i d lt.
        let line = get_or lines i d in
        let on = flows_on line flows in
        let most = capped (high_flows on) after (All-filter (λ flow. is_high flow.priority) (λ flow. after flow ≤ flow.terms.cap) on
        (All-filter (λ flow. line.has flow.id) (λ flow. after flow ≤ flow.terms.cap) flows caps)) in
        limited_most line.known s.speed (all_hand' line) (bursts (high_flows on)) (now - now) (paid_in after on (now - now)) (high_held after line flows)
        (omega (arith, high_part (λ flow. flow.weight * after flow) on)) (omega (arith, most))) in
        omega (arith, held', more);
  }
