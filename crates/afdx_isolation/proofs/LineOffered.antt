-- What a port is offered over its lines stays within their supply: by induction over the arrivals.
use Rattle.std.proofs.Common.{◌≡◌, ℕ, zero, suc, ◌+◌, ◌-◌, ◌*◌, ◌<◌, ◌≤◌, Bool, true, false, cond, List, [], ◌∷◌, ◌++◌, get_or, refl, ap, sym, ◌∙◌, subst, arith, ⊎_elim, append-nil, append_assoc}
use Rattle.std.specs.Prelude.{nat_le, ◌&&◌, map, filter, All, Contains, Option, Some, None, IfSome}
use Rattle.std.specs.List.{AllByRecursion}
use Rattle.std.proofs.lemmas.Bool.{cases_Bool}
use Rattle.std.proofs.lemmas.Bool.Decides.{nat_tests}
use Rattle.std.proofs.lemmas.List.{map-append}
use Rattle.std.proofs.lemmas.List.Elements.{All-nil, All-cons, All-head, All-tail, All-weaker, All-push, All-contains, filter-append, recursion_from_All}
use Rattle.afdx_units.specs.Line.{cost_of, is_high}
use Rattle.afdx_account.specs.declared.frame.Frame.{Frame}
use Rattle.afdx_account.specs.Policing.{parts, conforms, passed_frames}
use Rattle.afdx_account.specs.Level.{InOrder, headroom, NoneLater}
use Rattle.afdx_serial.specs.Serial.{KnownLine, KeepsToLineWithin, line_terms}
use Rattle.afdx_serial.specs.Laws.{WhatKeepsToALineIsPassed, WhatKeepsToALineIsTested, PartsKeepToTheLine, FirstOnesKeepToTheLine, OthersKeepToTheLine}
use Rattle.afdx_port.specs.declared.Settings.{Settings}
use Rattle.afdx_port.specs.declared.Item.{Item}
use Rattle.afdx_port.specs.Service.{reach, came, item_of, service}
use Rattle.afdx_port.specs.Admission.{admit_all, admitted}
use Rattle.afdx_port.specs.Inner.Work.{item_cost}
use Rattle.afdx_isolation.specs.Inner.Flow.{Flow, Demand, IsPaidFor, AreDistinct, high_flows, low_flows, bound}
use Rattle.afdx_isolation.specs.Inner.Account.{AreWithinCaps, Grow, IsOfAFlow}
use Rattle.afdx_isolation.specs.Inner.Supply.{Supply, IsKeptSupply}
use Rattle.afdx_isolation.specs.Inner.Lines.{Line, flows_on, largest_of, line_cap, all_at_hand, high_at_hand, AreEnough, demand_by, supply_of, AreOnLines, frames_over, KeepToLines}
use Rattle.afdx_isolation.specs.Inner.Lines.{AreCredited, AreCharged}
use Rattle.afdx_isolation.specs.Inner.LineClaims.{CarriesLines, IsIsolatedBy}
use Rattle.afdx_isolation.specs.Arrivals.{own, frame_of_item}
use Rattle.afdx_isolation.specs.Inner.Arrivals.{IsClean, joins, feed_after, feed_of, level_after}
use Rattle.afdx_isolation.specs.Inner.Claims.{Arrive, IsTimely}
use Rattle.afdx_isolation.specs.Inner.Ground.{Ground}
use Rattle.afdx_isolation.proofs.Clock.{reach-gap}
use Rattle.afdx_isolation.proofs.Sums.{among_filter, within_longest, low_leaves}
use Rattle.afdx_isolation.proofs.Levels.{Early, early_later, early_push, grow_by, debits_joined, grow_kept}
use Rattle.afdx_isolation.proofs.Keeping.{ordered}
use Rattle.afdx_isolation.proofs.Offered.{of_a_flow, latest, by_latest, exactly, kept}
use Rattle.afdx_isolation.proofs.Served.{kept_none, kept_wait, kept_pass, has_room, in_time}
use Rattle.afdx_isolation.proofs.LineLevels.{goes_on, takes, all_cover, high_cover}

-- ---- lists

-- ---- the frames of a line that count

abbrev pub counted : (Item → Bool) → List Item → List Frame
counted p items = map frame_of_item (filter p items)

module _ (p : Item → Bool) where
  counted-push : (items : List Item) (x : Item) → counted p (items ++ x ∷ []) ≡ cond (p x) (counted p items ++ frame_of_item x ∷ []) (counted p items)
  counted-push items x =
      ap (map frame_of_item) (filter-append p items (x ∷ []))
      ∙ (elim (p x) as (λ v. map frame_of_item (filter p items ++ cond v (x ∷ []) []) ≡ cond v (counted p items ++ frame_of_item x ∷ []) (counted p items)) [
        | true ↦ map-append frame_of_item (filter p items) (x ∷ [])
        | false ↦ ap (map frame_of_item) (append-nil (filter p items))
      ])

  all_counted : (P : Item → Type 0) (Q : Frame → Type 0) → ((x : Item) → p x ≡ true → P x → Q (frame_of_item x)) → (items : List Item) → All P items → All Q (counted p items)
  all_counted P Q step [] h = All-nil Q
  all_counted P Q step (x ∷ items) h =
      let ih = all_counted P Q step items (All-tail P x items h) in
      let here = All-head P x items h in
      decide (p x) refl ih (λ is. step x is here) where
        decide : (v : Bool) → p x ≡ v → All Q (counted p items) → (p x ≡ true → Q (frame_of_item x)) → All Q (map frame_of_item (cond v (x ∷ filter p items) (filter p items)))
        decide true is ih here = All-cons Q (frame_of_item x) (counted p items) (here is) ih
        decide false is ih here = ih

-- what a line has at hand after these frames
abbrev pub hand_of : Option KnownLine → ℕ → List Frame → ℕ → ℕ
hand_of None largest frames now = 0
hand_of (Some there) largest frames now = headroom (line_terms there.speed there.rounding largest) (passed_frames (line_terms there.speed there.rounding largest) frames) now

-- what is known of lines
pub record LineLaws : Type 0 where
  pub passed : WhatKeepsToALineIsPassed
  pub tested : WhatKeepsToALineIsTested
  pub some : PartsKeepToTheLine Item
  pub first : FirstOnesKeepToTheLine
  pub others : OthersKeepToTheLine

-- frames on a line, no later than an instant, of no more than so many bytes
pub record AreOn (known : Option KnownLine) (largest : ℕ) (frames : List Frame) : Type 0 where
  pub keep : IfSome known (λ there. KeepsToLineWithin there.rounding there.speed frames)
  pub small : All (λ f. f.size ≤ largest) frames

abbrev cap_of : Option KnownLine → ℕ → ℕ
cap_of None largest = 0
cap_of (Some there) largest = cost_of there.speed largest + there.rounding

cap_is : (known : Option KnownLine) (flows : List Flow) → cap_of known (largest_of flows) ≡ line_cap known flows
cap_is None flows = refl
cap_is (Some there) flows = refl

module _ (g : Ground) (laws : LineLaws) where
  credit : (known : Option KnownLine) (largest : ℕ) (frames : List Frame) (now later : ℕ) → now ≤ later → NoneLater frames now
      → (hand_of known largest frames later ≤ cap_of known largest) × (hand_of known largest frames later ≤ hand_of known largest frames now + (later - now))
  credit None largest frames now later le early = (omega arith, omega arith)
  credit (Some there) largest frames now later le early =
      let e = g.credited (line_terms there.speed there.rounding largest) frames now later le early in
      (omega (arith, e), omega (arith, e))

  charge : (known : Option KnownLine) (largest : ℕ) (frames : List Frame) (f : Frame) → NoneLater frames f.stamp → AreOn known largest frames → AreOn known largest (frames ++ f ∷ [])
      → (hand_of known largest (frames ++ f ∷ []) f.stamp ≤ hand_of known largest frames f.stamp)
      × IfSome known (λ there. cost_of there.speed f.size + hand_of known largest (frames ++ f ∷ []) f.stamp ≤ hand_of known largest frames f.stamp)
  charge None largest frames f early on more = (omega arith, tt)
  charge (Some there) largest frames f early on more =
      let t = line_terms there.speed there.rounding largest in
      let old : passed_frames t frames ≡ frames = laws.passed there.rounding there.speed largest frames on.keep on.small in
      let new : passed_frames t (frames ++ f ∷ []) ≡ frames ++ f ∷ [] = laws.passed there.rounding there.speed largest (frames ++ f ∷ []) more.keep more.small in
      let h-old : headroom t (passed_frames t frames) f.stamp ≡ headroom t frames f.stamp = ap (λ fs. headroom t fs f.stamp) old in
      let h-new : headroom t (passed_frames t (frames ++ f ∷ [])) f.stamp ≡ headroom t (frames ++ f ∷ []) f.stamp = ap (λ fs. headroom t fs f.stamp) new in
      let push = g.debited t frames f in
      let fits : nat_le (t.price f.size) (headroom t (passed_frames t frames) f.stamp) ≡ true
      = sym (g.decides t frames f early) ∙ ap (λ fs. conforms t fs f) old ∙ laws.tested there.rounding there.speed largest frames f more.keep more.small in
      let le = below _ _ fits in
      (omega (arith, h-old, h-new, push, le), omega (arith, h-old, h-new, push, le)) where
        below : (m n : ℕ) → nat_le m n ≡ true → m ≤ n
        below m n h = grind (arith, nat_tests)

  -- where the item may count or not
  charge_if : (known : Option KnownLine) (largest : ℕ) (p : Item → Bool) (items : List Item) (x : Item) → NoneLater (counted p items) x.stamp → AreOn known largest (counted p items)
      → AreOn known largest (counted p (items ++ x ∷ []))
      → (hand_of known largest (counted p (items ++ x ∷ [])) x.stamp ≤ hand_of known largest (counted p items) x.stamp)
      × (p x ≡ true → IfSome known (λ there. cost_of there.speed x.size + hand_of known largest (counted p (items ++ x ∷ [])) x.stamp ≤ hand_of known largest (counted p items) x.stamp))
  charge_if known largest p items x early on more = ⊎_elim
      (λ (is : p x ≡ true).
      let e : counted p (items ++ x ∷ []) ≡ counted p items ++ frame_of_item x ∷ [] = counted-push p items x ∙ ap (λ v. cond v (counted p items ++ frame_of_item x ∷ []) (counted p items)) is in
      let h = charge known largest (counted p items) (frame_of_item x) early on (subst (AreOn known largest) e more) in
      subst (λ fs. (hand_of known largest fs x.stamp ≤ hand_of known largest (counted p items) x.stamp)
      × (p x ≡ true → IfSome known (λ there. cost_of there.speed x.size + hand_of known largest fs x.stamp ≤ hand_of known largest (counted p items) x.stamp))) (sym e)
      (h.0, λ _. h.1))
      (λ (is : p x ≡ false).
      let e : counted p (items ++ x ∷ []) ≡ counted p items = counted-push p items x ∙ ap (λ v. cond v (counted p items ++ frame_of_item x ∷ []) (counted p items)) is in
      subst (λ fs. (hand_of known largest fs x.stamp ≤ hand_of known largest (counted p items) x.stamp)
      × (p x ≡ true → IfSome known (λ there. cost_of there.speed x.size + hand_of known largest fs x.stamp ≤ hand_of known largest (counted p items) x.stamp))) (sym e)
      (omega arith, λ yes'. absurd (both (p x) yes' is)))
      (cases_Bool (p x)) where
        both : (b : Bool) → b ≡ true → b ≡ false → ⊥
        both b h k = grind (arith, nat_tests)

-- ---- some of what keeps to a line

abbrev Kept : Option KnownLine → List Frame → Type 0
Kept known frames = IfSome known (λ there. KeepsToLineWithin there.rounding there.speed frames)

filter_twice : (p q : Item → Bool) (items : List Item) → filter (λ x. q x && p x) items ≡ filter p (filter q items)
filter_twice p q [] = refl
filter_twice p q (x ∷ items) = by (q x) (filter_twice p q items) where
  by : (b : Bool) → filter (λ x. q x && p x) items ≡ filter p (filter q items)
      → cond (b && p x) (x ∷ filter (λ x. q x && p x) items) (filter (λ x. q x && p x) items) ≡ filter p (cond b (x ∷ filter q items) (filter q items))
  by true ih = ap (λ xs. cond (p x) (x ∷ xs) xs) ih
  by false ih = ih

some_keep : PartsKeepToTheLine Item → (known : Option KnownLine) (p q : Item → Bool) (items : List Item) → Kept known (counted q items) → Kept known (counted (λ x. q x && p x) items)
some_keep some None p q items keeps = tt
some_keep some (Some there) p q items keeps =
    subst (λ xs. KeepsToLineWithin there.rounding there.speed (map frame_of_item xs)) (sym (filter_twice p q items)) (some frame_of_item there.rounding there.speed p (filter q items) keeps)

front_keeps : FirstOnesKeepToTheLine → (known : Option KnownLine) (p : Item → Bool) (items rest : List Item) → Kept known (counted p (items ++ rest)) → Kept known (counted p items)
front_keeps first None p items rest keeps = tt
front_keeps first (Some there) p items rest keeps =
    first there.rounding there.speed (counted p items) (counted p rest)
    (subst (KeepsToLineWithin there.rounding there.speed) (ap (map frame_of_item) (filter-append p items rest) ∙ map-append frame_of_item (filter p items) (filter p rest)) keeps)

skip_keeps : OthersKeepToTheLine → (known : Option KnownLine) (p : Item → Bool) (items : List Item) (x : Item) (rest : List Item) → Kept known (counted p (items ++ x ∷ rest))
    → Kept known (counted p (items ++ rest))
skip_keeps others None p items x rest keeps = tt
skip_keeps others (Some there) p items x rest keeps =
    subst (KeepsToLineWithin there.rounding there.speed) (sym (joined items rest)) (by (p x) (subst (KeepsToLineWithin there.rounding there.speed) (joined items (x ∷ rest)) keeps)) where
      joined : (xs ys : List Item) → counted p (xs ++ ys) ≡ counted p xs ++ counted p ys
      joined xs ys = ap (map frame_of_item) (filter-append p xs ys) ∙ map-append frame_of_item (filter p xs) (filter p ys)

      by : (b : Bool) → KeepsToLineWithin there.rounding there.speed (counted p items ++ map frame_of_item (cond b (x ∷ filter p rest) (filter p rest)))
          → KeepsToLineWithin there.rounding there.speed (counted p items ++ counted p rest)
      by true keeps = others there.rounding there.speed (counted p items) (frame_of_item x) (counted p rest) keeps
      by false keeps = keeps

within_largest : (flows : List Flow) (k : Flow) → Contains flows k → k.largest ≤ largest_of flows
within_largest [] k (i, lt, is) = absurd (omega (arith, lt))
within_largest (f ∷ flows) k (zero, lt, is) = let e : f.largest ≡ k.largest = ap (λ (f : Flow). f.largest) is in omega (arith, e)
within_largest (f ∷ flows) k (suc i, lt, is) = let ih = within_largest flows k (i, omega (arith, lt), is) in omega (arith, ih)

first_of_two : (a b : Bool) → a && b ≡ true → a ≡ true
first_of_two a b h = grind (arith, nat_tests)

second_of_two : (a b : Bool) → a && b ≡ true → b ≡ true
second_of_two a b h = grind (arith, nat_tests)

both_of_two : (a b : Bool) → a ≡ true → b ≡ true → a && b ≡ true
both_of_two a b h k = grind (arith, nat_tests)

-- none of a list is later
abbrev Soon : List Item → ℕ → Type 0
Soon items now = All (λ (x : Item). x.stamp ≤ now) items

module _ (g : Ground) (laws : LineLaws) (s : Settings) (flows : List Flow) (lines : List Line) (burst high_burst : ℕ)
    (paid : All (IsPaidFor s) flows) (apart : AreDistinct flows) (on_lines : AreOnLines lines flows) (enough : AreEnough s flows lines burst high_burst) where
  abbrev demand : Demand
  demand = demand_by s flows burst high_burst

  abbrev p_all : Line → Item → Bool
  p_all line = λ x. line.has x.link

  abbrev p_high : Line → Item → Bool
  p_high line = λ x. line.has x.link && is_high x.priority

  abbrev all_hand : List Item → ℕ → Line → ℕ
  all_hand items now = λ line. hand_of line.known (largest_of (flows_on line flows)) (counted (p_all line) items) now

  abbrev high_hand : List Item → ℕ → Line → ℕ
  high_hand items now = λ line. hand_of line.known (largest_of (high_flows (flows_on line flows))) (counted (p_high line) items) now

  abbrev supply : List Item → List Item → ℕ → Supply
  supply before items now = supply_of s flows lines (level_after before now) (all_hand items now) (high_hand items now) (reach s now)

  abbrev Keeps : List Item → List Item → ℕ → Type 0
  Keeps before items now = IsKeptSupply s flows demand items (reach s now) (supply before items now)

  cost_most : (x : Item) → IsOfAFlow flows x → item_cost s x ≤ demand.largest
  cost_most x r = within_longest s flows r.flow x.size r.among r.largest

  cost_most_low : (x : Item) → IsOfAFlow flows x → is_high x.priority ≡ false → item_cost s x ≤ demand.low_largest
  cost_most_low x r low = within_longest s (low_flows flows) r.flow x.size
      (among_filter (λ flow. Rattle.std.specs.Prelude.not (is_high flow.priority)) flows r.flow r.among (ap Rattle.std.specs.Prelude.not (ap is_high r.priority ∙ low))) r.largest

  -- the items over a line keep to it, where that is known
  abbrev Keep : Line → List Item → Type 0
  Keep line items = IfSome line.known (λ there. KeepsToLineWithin there.rounding there.speed (frames_over line items))

  early_of : (p : Item → Bool) (items : List Item) (now : ℕ) → Soon items now → NoneLater (counted p items) now
  early_of p items now soon = recursion_from_All (λ (f : Frame). f.stamp ≤ now) (counted p items) (all_counted p (λ (x : Item). x.stamp ≤ now) (λ (f : Frame). f.stamp ≤ now) (λ x is h. h) items soon)

  on_all : (line : Line) (items : List Item) → Keep line items → All (IsOfAFlow flows) items → AreOn line.known (largest_of (flows_on line flows)) (counted (p_all line) items)
  on_all line items keeps of_flows = record {
    keep = keeps;
    small = all_counted (p_all line) (IsOfAFlow flows) (λ (f : Frame). f.size ≤ largest_of (flows_on line flows))
        (λ x is r.
        let here = within_largest (flows_on line flows) r.flow (among_filter (λ flow. line.has flow.id) flows r.flow r.among (ap line.has r.same ∙ is)) in
        let small = r.largest in
        omega (arith, here, small)) items of_flows;
  }

  on_high : (line : Line) (items : List Item) → Keep line items → All (IsOfAFlow flows) items → AreOn line.known (largest_of (high_flows (flows_on line flows))) (counted (p_high line) items)
  on_high line items keeps of_flows = record {
    keep = some_keep laws.some line.known (λ (x : Item). is_high x.priority) (p_all line) items keeps;
    small = all_counted (p_high line) (IsOfAFlow flows) (λ (f : Frame). f.size ≤ largest_of (high_flows (flows_on line flows)))
        (λ x is r.
        let there = among_filter (λ flow. line.has flow.id) flows r.flow r.among (ap line.has r.same ∙ first_of_two (line.has x.link) (is_high x.priority) is) in
        let here = within_largest (high_flows (flows_on line flows)) r.flow
        (among_filter (λ flow. is_high flow.priority) (flows_on line flows) r.flow there (ap is_high r.priority ∙ second_of_two (line.has x.link) (is_high x.priority) is)) in
        let small = r.largest in
        omega (arith, here, small)) items of_flows;
  }

  credited : (items : List Item) (now later : ℕ) → now ≤ later → Soon items now → AreCredited lines (all_at_hand flows) (reach s later - reach s now) (all_hand items now) (all_hand items later)
  credited items now later le soon i d lt =
      let line = get_or lines i d in
      let c = credit g laws line.known (largest_of (flows_on line flows)) (counted (p_all line) items) now later le (early_of (p_all line) items now soon) in
      (omega (arith, c.0, cap_is line.known (flows_on line flows)), omega (arith, c.1, reach-gap s now later))

  high_credited : (items : List Item) (now later : ℕ) → now ≤ later → Soon items now
      → AreCredited lines (high_at_hand flows) (reach s later - reach s now) (high_hand items now) (high_hand items later)
  high_credited items now later le soon i d lt =
      let line = get_or lines i d in
      let c = credit g laws line.known (largest_of (high_flows (flows_on line flows))) (counted (p_high line) items) now later le (early_of (p_high line) items now soon) in
      (omega (arith, c.0, cap_is line.known (high_flows (flows_on line flows))), omega (arith, c.1, reach-gap s now later))

  -- levels change, and no item comes
  moves : (before after items : List Item) (now later : ℕ) → now ≤ later → Grow flows (reach s later - reach s now) (level_after before now) (level_after after later) → Soon items now
      → Keeps before items now → Keeps after items later
  moves before after items now later le grow soon h =
      kept_wait g s flows demand cost_most cost_most_low items (reach s now) (reach s later) (supply before items now) (supply after items later) (g.reaches s now later le)
      (goes_on s flows lines burst high_burst enough (reach s now) (reach s later) (g.reaches s now later le) (level_after before now) (level_after after later)
      (all_hand items now) (all_hand items later) (high_hand items now) (high_hand items later) grow (credited items now later le soon) (high_credited items now later le soon)) h

  until : (before items : List Item) (now later : ℕ) → now ≤ later → Early before now → Soon items now → Keeps before items now → Keeps before items later
  until before items now later le early soon h =
      moves before before items now later le (subst (λ d. Grow flows d (level_after before now) (level_after before later)) (sym (reach-gap s now later))
      (grow_by g flows before now later le early)) soon h

  charged : (items : List Item) (x : Item) → Soon items x.stamp → KeepToLines lines (items ++ x ∷ []) → All (IsOfAFlow flows) items → All (IsOfAFlow flows) (items ++ x ∷ [])
      → AreCharged lines x true (all_hand items x.stamp) (all_hand (items ++ x ∷ []) x.stamp)
  charged items x soon keeps of_flows of_all i d lt =
      let line = get_or lines i d in
      let p = keeps i d lt in
      let c = charge_if g laws line.known (largest_of (flows_on line flows)) (p_all line) items x (early_of (p_all line) items x.stamp soon)
      (on_all line items (front_keeps laws.first line.known (p_all line) items (x ∷ []) p) of_flows) (on_all line (items ++ x ∷ []) p of_all) in
      (c.0, λ _ has. c.1 has)

  high_charged : (items : List Item) (x : Item) → Soon items x.stamp → KeepToLines lines (items ++ x ∷ []) → All (IsOfAFlow flows) items → All (IsOfAFlow flows) (items ++ x ∷ [])
      → AreCharged lines x (is_high x.priority) (high_hand items x.stamp) (high_hand (items ++ x ∷ []) x.stamp)
  high_charged items x soon keeps of_flows of_all i d lt =
      let line = get_or lines i d in
      let p = keeps i d lt in
      let c = charge_if g laws line.known (largest_of (high_flows (flows_on line flows))) (p_high line) items x (early_of (p_high line) items x.stamp soon)
      (on_high line items (front_keeps laws.first line.known (p_all line) items (x ∷ []) p) of_flows) (on_high line (items ++ x ∷ []) p of_all) in
      (c.0, λ is has. c.1 (both_of_two (line.has x.link) (is_high x.priority) has is))

  taking : (before items : List Item) (x : Item) → IsClean flows x → Early before x.stamp → Soon items x.stamp → KeepToLines lines (items ++ x ∷ []) → All (IsOfAFlow flows) items
      → joins flows before x ≡ true
      → Rattle.afdx_isolation.specs.Inner.Supply.IsTakenFrom parts s (came s x) x (supply before items x.stamp) (supply (before ++ x ∷ []) (items ++ x ∷ []) x.stamp)
  taking before items x clean early soon keeps of_flows is =
      let r = of_a_flow flows before x clean is in
      let of_all = All-push (IsOfAFlow flows) items x of_flows r in
      let after = before ++ x ∷ [] in
      let caps : AreWithinCaps flows (level_after after x.stamp) = λ k d lt. (grow_by g flows after x.stamp x.stamp (omega arith) (early_push before x early) k d lt).0 in
      takes s flows lines paid on_lines x r (level_after before x.stamp) (level_after after x.stamp) (debits_joined g flows apart before x early is) caps (came s x)
      (all_hand items x.stamp) (all_hand (items ++ x ∷ []) x.stamp) (high_hand items x.stamp) (high_hand (items ++ x ∷ []) x.stamp)
      (charged items x soon keeps of_flows of_all) (high_charged items x soon keeps of_flows of_all)

  -- an arrival joins, or does not
  taken : (before items : List Item) (x : Item) → IsClean flows x → Early before x.stamp → Soon items x.stamp → KeepToLines lines (items ++ x ∷ []) → Keeps before items x.stamp
      → (v : Bool) → joins flows before x ≡ v → Keeps (before ++ x ∷ []) (cond v (items ++ x ∷ []) items) x.stamp
  taken before items x clean early soon keeps h true is =
      kept_pass g s flows demand cost_most cost_most_low items x (supply before items x.stamp) (supply (before ++ x ∷ []) (items ++ x ∷ []) x.stamp) (of_a_flow flows before x clean is)
      (taking before items x clean early soon keeps h.of_flows is) h
  taken before items x clean early soon keeps h false is =
      moves before (before ++ x ∷ []) items x.stamp x.stamp (omega arith)
      (subst (λ d. Grow flows d (level_after before x.stamp) (level_after (before ++ x ∷ []) x.stamp)) (sym (reach-gap s x.stamp x.stamp)) (grow_kept g flows before x early is)) soon h

  gathered : (v : Bool) (x : Item) (items rest : List Item) → cond v (items ++ x ∷ []) items ++ rest ≡ items ++ cond v (x ∷ rest) rest
  gathered true x items rest = append_assoc items (x ∷ []) rest
  gathered false x items rest = refl

  soon_next : (v : Bool) (x : Item) (items : List Item) → Soon items x.stamp → Soon (cond v (items ++ x ∷ []) items) x.stamp
  soon_next true x items soon = All-push (λ (y : Item). y.stamp ≤ x.stamp) items x soon (omega arith)
  soon_next false x items soon = soon

  soon_later : (items : List Item) (now later : ℕ) → now ≤ later → Soon items now → Soon items later
  soon_later items now later le soon = All-weaker (λ (x : Item). x.stamp ≤ now) (λ (x : Item). x.stamp ≤ later) (λ x h. omega (arith, h, le)) items soon

  lines_here : (items : List Item) (x : Item) (rest : List Item) → KeepToLines lines (items ++ x ∷ rest) → KeepToLines lines (items ++ x ∷ [])
  lines_here items x rest keeps i d lt =
      let line = get_or lines i d in
      front_keeps laws.first line.known (p_all line) (items ++ x ∷ []) rest (subst (Keep line) (sym (append_assoc items (x ∷ []) rest)) (keeps i d lt))

  lines_next : (v : Bool) (items : List Item) (x : Item) (rest : List Item) → KeepToLines lines (items ++ x ∷ rest) → KeepToLines lines (cond v (items ++ x ∷ []) items ++ rest)
  lines_next true items x rest keeps i d lt = subst (Keep (get_or lines i d)) (sym (append_assoc items (x ∷ []) rest)) (keeps i d lt)
  lines_next false items x rest keeps i d lt = let line = get_or lines i d in skip_keeps laws.others line.known (p_all line) items x rest (keeps i d lt)

  pub kept_all : (before arrivals items : List Item) (now to : ℕ) → Early before now → Soon items now → KeepToLines lines (items ++ arrivals) → now ≤ to → InOrder now (map frame_of_item arrivals)
      → AllByRecursion (λ (x : Item). x.stamp ≤ to) arrivals → All (IsClean flows) arrivals
      → Keeps before items now → Keeps (before ++ arrivals) (items ++ feed_after flows before arrivals) to
  kept_all before [] items now to early soon keeps le order late clean h =
      subst (λ xs. Keeps (before ++ []) xs to) (sym (append-nil items))
      (subst (λ bs. Keeps bs items to) (sym (append-nil before)) (until before items now to le early soon h))
  kept_all before (x ∷ arrivals) items now to early soon keeps le order late clean h =
      let v = joins flows before x in
      let next = before ++ x ∷ [] in
      let early' = early_later before now x.stamp order.0 early in
      let soon' = soon_later items now x.stamp order.0 soon in
      let here = until before items now x.stamp order.0 early soon h in
      let after = taken before items x (All-head (IsClean flows) x arrivals clean) early' soon' (lines_here items x arrivals keeps) here v refl in
      let rest = kept_all next arrivals (cond v (items ++ x ∷ []) items) x.stamp to (early_push before x early') (soon_next v x items soon') (lines_next v items x arrivals keeps) late.0 order.1 late.1
      (All-tail (IsClean flows) x arrivals clean) after in
      subst (λ xs. Keeps (before ++ x ∷ arrivals) xs to) (gathered v x items (feed_after flows next arrivals))
      (subst (λ bs. Keeps bs (cond v (items ++ x ∷ []) items ++ feed_after flows next arrivals) to) (append_assoc before (x ∷ []) arrivals) rest)

  abbrev HasRoom : Type 0
  HasRoom = burst + parts * demand.largest ≤ parts * (Rattle.afdx_units.specs.Line.tick_of s.speed * s.buffer)

  room_for : HasRoom → (before items : List Item) (x : Item) → IsClean flows x → Early before x.stamp → Soon items x.stamp → KeepToLines lines (items ++ x ∷ []) → Keeps before items x.stamp
      → (v : Bool) → joins flows before x ≡ v → (rest : List Item) → admit_all s items (cond v (x ∷ rest) rest) ≡ admit_all s (cond v (items ++ x ∷ []) items) rest
  room_for buffer before items x clean early soon keeps h true is rest =
      let room = has_room g s flows demand cost_most cost_most_low buffer items x (supply before items x.stamp) (supply (before ++ x ∷ []) (items ++ x ∷ []) x.stamp)
      (of_a_flow flows before x clean is)
      (taking before items x clean early soon keeps h.of_flows is) h in
      ap (λ v. admit_all s (cond v (items ++ x ∷ []) items) rest) room
  room_for buffer before items x clean early soon keeps h false is rest = refl

  pub full_none : HasRoom → (before arrivals items : List Item) (now : ℕ) → Early before now → Soon items now → KeepToLines lines (items ++ arrivals) → InOrder now (map frame_of_item arrivals)
      → All (IsClean flows) arrivals
      → Keeps before items now → admit_all s items (feed_after flows before arrivals) ≡ items ++ feed_after flows before arrivals
  full_none buffer before [] items now early soon keeps order clean h = sym (append-nil items)
  full_none buffer before (x ∷ arrivals) items now early soon keeps order clean h =
      let v = joins flows before x in
      let next = before ++ x ∷ [] in
      let rest = feed_after flows next arrivals in
      let early' = early_later before now x.stamp order.0 early in
      let soon' = soon_later items now x.stamp order.0 soon in
      let here = until before items now x.stamp order.0 early soon h in
      let own-clean = All-head (IsClean flows) x arrivals clean in
      let lines' = lines_here items x arrivals keeps in
      let after = taken before items x own-clean early' soon' lines' here v refl in
      room_for buffer before items x own-clean early' soon' lines' here v refl rest
      ∙ full_none buffer next arrivals (cond v (items ++ x ∷ []) items) x.stamp (early_push before x early') (soon_next v x items soon') (lines_next v items x arrivals keeps) order.1
      (All-tail (IsClean flows) x arrivals clean) after
      ∙ gathered v x items rest

  -- at first
  pub first : Keeps [] [] 0
  first = kept_none s flows demand (reach s 0) (supply [] [] 0)
      (λ v later. all_cover s flows lines burst high_burst enough (level_after [] 0) (λ k d lt. omega arith) (reach s 0) v (all_hand [] 0) later
      (λ i d lt. let line = get_or lines i d in full_hand line.known (flows_on line flows)))
      (λ v later. high_cover s flows lines burst high_burst enough (level_after [] 0) (λ k d lt. omega arith) (reach s 0) v (high_hand [] 0) later
      (λ i d lt. let line = get_or lines i d in full_hand line.known (high_flows (flows_on line flows)))) where
        full_hand : (known : Option KnownLine) (flows : List Flow) → hand_of known (largest_of flows) [] 0 ≤ line_cap known flows
        full_hand None flows = omega arith
        full_hand (Some there) flows = omega arith

pub lines_isolate : (g : Ground) → LineLaws → (s : Settings) (flows : List Flow) (lines : List Line) (burst high_burst : ℕ) (arrivals : List Item)
    → Arrive s flows arrivals → KeepToLines lines arrivals → CarriesLines s flows lines burst high_burst → IsIsolatedBy s flows (demand_by s flows burst high_burst) arrivals
lines_isolate g laws s flows lines burst high_burst arrivals arrive apart carries =
    let demand' = demand_by s flows burst high_burst in
    let feed = feed_of flows arrivals in
    let start = first g laws s flows lines burst high_burst arrive.paid arrive.distinct carries.on_lines carries.enough in
    let none : All (λ (x : Item). x.stamp ≤ 0) [] = All-nil (λ (x : Item). x.stamp ≤ 0) in
    let all = kept_all g laws s flows lines burst high_burst arrive.paid arrive.distinct carries.on_lines carries.enough [] arrivals [] 0 (latest arrivals) (λ id. tt) none apart
    (omega arith) arrive.stamps
    (by_latest arrivals (latest arrivals) (omega arith)) arrive.clean start in
    let room : admitted s feed ≡ feed = full_none g laws s flows lines burst high_burst arrive.paid arrive.distinct carries.on_lines carries.enough carries.buffer [] arrivals [] 0
    (λ id. tt) none apart arrive.stamps arrive.clean start in
    let old = kept g s flows arrivals arrive carries.rate in
    record {
      none_full = room;
      timely = subst (λ xs. All (IsTimely s demand') (service s 0 xs)) (sym room) (λ k d lt.
          let event = get_or (service s 0 feed) k d in
          let priority = (item_of event).priority in
          let r = All-contains (IsOfAFlow flows) feed (item_of event) all.of_flows (g.events s 0 feed k d lt) in
          in_time g s flows demand' (cost_most g laws s flows lines burst high_burst arrive.paid arrive.distinct carries.on_lines carries.enough)
          (cost_most_low g laws s flows lines burst high_burst arrive.paid arrive.distinct carries.on_lines carries.enough) refl feed _ _ priority
          (λ low. leaves r.flow r.among (ap is_high (r.priority ∙ low)))
          (All-contains (λ (flow : Flow). flow.priority ≡ priority → bound demand' priority ≤ s.max_delay) flows r.flow (carries.delay priority) r.among r.priority) all k d lt refl);
      exactly_passed = λ flow among.
          ap (λ xs. own flow.id (map item_of (service s 0 xs))) room
          ∙ ordered g s flows arrive.paid carries.rate arrive.distinct feed _ _ old flow among
          ∙ exactly g flows arrive.distinct flow among arrivals;
    } where
      leaves : (flow : Flow) → Contains flows flow → is_high flow.priority ≡ false → (demand_by s flows burst high_burst).high_rate < parts
      leaves flow among low =
          let own' = All-contains (IsPaidFor s) flows flow arrive.paid among in
          let slow = carries.rate in
          omega (arith, slow, low_leaves flows flow among low own'.credited)
