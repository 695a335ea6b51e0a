-- What is kept within a supply is kept over time and with each item that takes its line time from it, and what follows from it.
use Rattle.std.proofs.Common.{◌≡◌, ℕ, ◌+◌, ◌-◌, ◌*◌, ◌<◌, ◌≤◌, true, false, cond, List, [], ◌∷◌, ◌++◌, get_or, refl, ap, sym, ◌∙◌, subst, arith, ⊎_elim, append-nil}
use Rattle.std.specs.Prelude.{max, not, nat_lt, sum_by, All}
use Rattle.std.specs.List.{AllByRecursion}
use Rattle.std.proofs.lemmas.Bool.{cases_Bool, cases_lt}
use Rattle.std.proofs.lemmas.List.Sums.{sum_by_push}
use Rattle.std.proofs.lemmas.List.Elements.{All-nil, All-append, All-push, All-weaker, All-same, All-filter, recursion_from_All}
use Rattle.std.proofs.lemmas.List.Quantifiers.{all_pairs_push}
use Rattle.afdx_units.specs.declared.line.Priority.{Priority}
use Rattle.afdx_units.specs.declared.line.Priority.TheVariants.{Low}
use Rattle.afdx_units.specs.Line.{tick_of, is_high}
use Rattle.afdx_port.specs.declared.Settings.{Settings}
use Rattle.afdx_port.specs.declared.Item.{Item}
use Rattle.afdx_port.specs.Service.{came, instant, item_of, service, before, free_after, fate}
use Rattle.afdx_port.specs.Admission.{occupied, fits}
use Rattle.afdx_port.specs.Inner.Progress.{LineState}
use Rattle.afdx_port.specs.Inner.Order.{highs, lows, line_up, in_line}
use Rattle.afdx_port.specs.Inner.Course.{line_at, rest_in_line}
use Rattle.afdx_port.specs.Inner.Work.{item_cost, work, HaveCome}
use Rattle.afdx_account.specs.Policing.{parts}
use Rattle.afdx_isolation.specs.Inner.Flow.{Flow, Demand, bound}
use Rattle.afdx_isolation.specs.Inner.Potential.{costs, EndsBy, BeginsAs}
use Rattle.afdx_isolation.specs.Inner.Account.{IsOfAFlow}
use Rattle.afdx_isolation.specs.Inner.Supply.{Supply, IsWithinSupply, KeepsSupply, GoesOnTo, IsTakenFrom, IsKeptSupply}
use Rattle.afdx_isolation.specs.Inner.Claims.{IsTimely}
use Rattle.afdx_isolation.specs.Inner.Ground.{Ground}
use Rattle.afdx_isolation.proofs.Supplied.{supply_waits, supply_high_start, supply_low_start, supply_rest, supply_high, supply_low}
use Rattle.afdx_isolation.proofs.Waiting.{LinedUp, highs-high, highs-low, lows-high, lows-low, lined_at, start_at, highs-line_up, lows-line_up, fate_free, choose_yes, choose_no}
use Rattle.afdx_isolation.proofs.Ends.{ends_from, timely}
use Rattle.afdx_isolation.proofs.Queued.{line_none, waiting_all, highs-push, lows-push, costs_parts, tick_some, fits_by}

module _ (s : Settings) (demand : Demand) (to : ℕ) (u : Supply)
    (covered : (v : ℕ) → to ≤ v → parts * to + u.all v ≤ parts * v + demand.burst) (high_covered : (v : ℕ) → to ≤ v → parts * to + u.high v ≤ parts * v + demand.high_burst) where
  abbrev AtStart : ℕ → List Item → Type 0
  AtStart start items = IsWithinSupply parts s demand to start u (highs items) (lows items)

  abbrev IsShort : Item → Type 0
  IsShort item = is_high item.priority ≡ false → item_cost s item ≤ demand.low_largest

  -- one start before `to`
  starts : (b : ℕ) (x : Item) (items : List Item) → (is_high x.priority ≡ false → highs items ≡ []) → IsShort x → b ≤ to
      → AtStart b (x ∷ items) → AtStart (free_after (fate s b x)) items
  starts b x items lined short before' h =
      let end = free_after (fate s b x) in
      let le = (fate_free s b x).1 in
      ⊎_elim
      (λ (is : is_high x.priority ≡ true).
      supply_high_start parts s demand to b end u x (highs items) (lows items) le
      (subst (λ ys. IsWithinSupply parts s demand to b u (x ∷ highs items) ys) (lows-high x items is)
      (subst (λ xs. IsWithinSupply parts s demand to b u xs (lows (x ∷ items))) (highs-high x items is) h)))
      (λ (is : is_high x.priority ≡ false).
      let none : highs items ≡ [] = lined is in
      subst (λ xs. IsWithinSupply parts s demand to end u xs (lows items)) (sym none)
      (supply_low_start parts s demand to b end u x (lows items) le before' (short is) high_covered
      (subst (λ ys. IsWithinSupply parts s demand to b u [] ys) (lows-low x items is)
      (subst (λ xs. IsWithinSupply parts s demand to b u xs (lows (x ∷ items))) (highs-low x items is ∙ none) h))))
      (cases_Bool (is_high x.priority))

  abbrev AtRest : LineState → Type 0
  AtRest q = AtStart (max q.free to) q.waiting

  -- all starts before `to`
  pub supply_starts : (b : ℕ) (items : List Item) → LinedUp items → AllByRecursion IsShort items → AtStart b items → AtRest (rest_in_line s to b items)
  supply_starts b [] lined short h = supply_rest parts s demand to b u covered high_covered h
  supply_starts b (x ∷ items) lined short h =
      let end = free_after (fate s b x) in
      ⊎_elim
      (λ (lt : b < to).
      subst AtRest (sym (choose_yes (rest_in_line s to end items) (record { free = b; waiting = x ∷ items }) lt))
      (supply_starts end items lined.1 short.1 (starts b x items lined.0 short.0 (omega arith) h)))
      (λ (ge : to ≤ b).
      let same : b ≡ max b to = omega arith in
      subst AtRest (sym (choose_no (rest_in_line s to end items) (record { free = b; waiting = x ∷ items }) ge))
      (subst (λ m. AtStart m (x ∷ items)) same h))
      (cases_lt b to)

-- a new port
pub kept_none : (s : Settings) (flows : List Flow) (demand : Demand) (now : ℕ) (u : Supply)
    → ((v : ℕ) → now ≤ v → parts * now + u.all v ≤ parts * v + demand.burst) → ((v : ℕ) → now ≤ v → parts * now + u.high v ≤ parts * v + demand.high_burst)
    → IsKeptSupply s flows demand [] now u
kept_none s flows demand now u covered high_covered = record {
  come = All-nil (λ (item : Item). came s item ≤ now);
  of_flows = All-nil (IsOfAFlow flows);
  in_order = λ i j d lt within. absurd (omega arith);
  supply = subst (KeepsSupply s demand now u) (sym (line_none s now)) (record {
    all_work = λ v later. omega (arith, covered v later);
    high_work = λ v later. omega (arith, high_covered v later);
    low_ends = tt;
    high_ends = tt;
  });
  ends = All-nil (BeginsAs s (EndsBy parts s demand));
}

-- the fixed port: its settings, its flows and a demand, whose largest frames are theirs
module _ (g : Ground) (s : Settings) (flows : List Flow) (demand : Demand)
    (cost_most : (x : Item) → IsOfAFlow flows x → item_cost s x ≤ demand.largest)
    (cost_most_low : (x : Item) → IsOfAFlow flows x → is_high x.priority ≡ false → item_cost s x ≤ demand.low_largest) where
  abbrev Keeps : List Item → ℕ → Supply → Type 0
  Keeps items now u = IsKeptSupply s flows demand items now u

  pub kept_wait : (items : List Item) (now to : ℕ) (u w : Supply) → now ≤ to → GoesOnTo parts demand now to u w → Keeps items now u → Keeps items to w
  kept_wait items now to u w le goes h = record {
    come = All-weaker (λ (item : Item). came s item ≤ now) (λ (item : Item). came s item ≤ to) (λ item c. omega (arith, c, le)) items h.come;
    of_flows = h.of_flows;
    in_order = h.in_order;
    supply =
        let q = line_at s now items in
        let waited = supply_waits parts s demand now to q.free u w (highs q.waiting) (lows q.waiting) le goes h.supply in
        let small = recursion_from_All (IsShort s demand to w goes.all_covered goes.high_covered) q.waiting
        (waiting_all g s (λ (item : Item). is_high item.priority ≡ false → item_cost s item ≤ demand.low_largest) now items
        (All-weaker (IsOfAFlow flows) (λ (item : Item). is_high item.priority ≡ false → item_cost s item ≤ demand.low_largest) cost_most_low items h.of_flows)) in
        subst (KeepsSupply s demand to w) (sym (g.goes_on s now to items le h.come))
        (supply_starts s demand to w goes.all_covered goes.high_covered q.free q.waiting (lined_at s now items) small waited);
    ends = h.ends;
  }

  -- one more item waits
  comes : (now start : ℕ) (u w : Supply) (items : List Item) (x : Item) → came s x ≡ now → IsTakenFrom parts s now x u w
      → IsWithinSupply parts s demand now start u (highs items) (lows items)
      → IsWithinSupply parts s demand now start w (highs (items ++ x ∷ [])) (lows (items ++ x ∷ []))
  comes now start u w items x now-is taken h =
      ⊎_elim
      (λ (is : is_high x.priority ≡ true).
      let hs : highs (items ++ x ∷ []) ≡ highs items ++ x ∷ [] = highs-push items x ∙ ap (λ v. highs items ++ cond v (x ∷ []) []) is in
      let ls : lows (items ++ x ∷ []) ≡ lows items = lows-push items x ∙ ap (λ v. lows items ++ cond (not v) (x ∷ []) []) is ∙ append-nil (lows items) in
      subst (λ xs. IsWithinSupply parts s demand now start w xs (lows (items ++ x ∷ []))) (sym hs)
      (subst (λ ys. IsWithinSupply parts s demand now start w (highs items ++ x ∷ []) ys) (sym ls)
      (supply_high parts s demand now start u w x (highs items) (lows items) now-is is taken h)))
      (λ (is : is_high x.priority ≡ false).
      let hs : highs (items ++ x ∷ []) ≡ highs items = highs-push items x ∙ ap (λ v. highs items ++ cond v (x ∷ []) []) is ∙ append-nil (highs items) in
      let ls : lows (items ++ x ∷ []) ≡ lows items ++ x ∷ [] = lows-push items x ∙ ap (λ v. lows items ++ cond (not v) (x ∷ []) []) is in
      subst (λ xs. IsWithinSupply parts s demand now start w xs (lows (items ++ x ∷ []))) (sym hs)
      (subst (λ ys. IsWithinSupply parts s demand now start w (highs items) ys) (sym ls)
      (supply_low parts s demand now start u w x (highs items) (lows items) now-is taken h)))
      (cases_Bool (is_high x.priority))

  joined : (now : ℕ) (u w : Supply) (items : List Item) (x : Item) → came s x ≡ now → IsTakenFrom parts s now x u w
      → KeepsSupply s demand now u (line_at s now items) → KeepsSupply s demand now w (line_at s now (items ++ x ∷ []))
  joined now u w items x now-is taken h =
      let q = line_at s now items in
      let all = q.waiting ++ x ∷ [] in
      let kept_here = comes now q.free u w q.waiting x now-is taken h in
      subst (KeepsSupply s demand now w) (sym (g.joins s now items x (omega (arith, now-is))))
      (subst (λ xs. IsWithinSupply parts s demand now q.free w xs (lows (line_up all))) (sym (highs-line_up all))
      (subst (λ ys. IsWithinSupply parts s demand now q.free w (highs all) ys) (sym (lows-line_up all)) kept_here))

  pub kept_pass : (items : List Item) (x : Item) (u w : Supply) → IsOfAFlow flows x → IsTakenFrom parts s (came s x) x u w → Keeps items (came s x) u → Keeps (items ++ x ∷ []) (came s x) w
  kept_pass items x u w r taken h =
      let now = came s x in
      let all = items ++ x ∷ [] in
      let Q = BeginsAs s (EndsBy parts s demand) in
      let come : HaveCome s now all = All-push (λ (item : Item). came s item ≤ now) items x h.come (omega arith) in
      let supply = joined now u w items x refl taken h.supply in
      let q = line_at s now all in
      let rest = ends_from parts s demand now 0 w.high_level q.free q.waiting (lined_at s now all) (waiting_all g s (λ (item : Item). came s item ≤ now) now all come)
      (start_at s now all) supply.high_ends supply.low_ends in
      let done : All Q (before now (service s 0 all)) = All-same Q (before now (service s 0 all)) (before now (service s 0 items)) (g.earlier_stay s now 0 items x (omega arith))
      (All-filter (λ e. nat_lt (instant e) now) Q (service s 0 items) h.ends) in
      record {
        come = come;
        of_flows = All-push (IsOfAFlow flows) items x h.of_flows r;
        in_order = all_pairs_push (λ (a b : Item). came s a ≤ came s b) items x h.in_order h.come;
        supply = supply;
        ends = All-same Q (service s 0 all) (before now (service s 0 all) ++ in_line s q.free q.waiting) (g.follow s now all come)
            (All-append Q (before now (service s 0 all)) (in_line s q.free q.waiting) done rest);
      }

  -- with a buffer for the burst, an item that takes its line time from the supply has room
  pub has_room : demand.burst + parts * demand.largest ≤ parts * (tick_of s.speed * s.buffer) → (items : List Item) (x : Item) (u w : Supply) → IsOfAFlow flows x
      → IsTakenFrom parts s (came s x) x u w → Keeps items (came s x) u → fits s items x ≡ true
  has_room buffer items x u w r taken h =
      let now = came s x in
      let q = line_at s now items in
      let kept_here = comes now q.free u w q.waiting x refl taken h.supply in
      let bytes = g.bytes s now demand.largest items (All-weaker (IsOfAFlow flows) (λ (item : Item). item_cost s item ≤ demand.largest) cost_most items h.of_flows) in
      let sum = costs_parts s (q.waiting ++ x ∷ []) in
      let more = sum_by_push (item_cost s) q.waiting x in
      fits_by (tick_of s.speed) x.size (occupied s now items) s.buffer (work s now items) demand.largest demand.burst (costs s (highs (q.waiting ++ x ∷ []))) (costs s (lows (q.waiting ++ x ∷ [])))
      (w.all now) (sum_by (item_cost s) q.waiting) now q.free (tick_some s.speed) (start_at s now items) bytes (g.work s now items) (omega (arith, sum, more)) (kept_here.all_work now (omega arith))
      (omega (arith, buffer))

  -- each item of a priority is sent in time, where its bound is within the greatest delay and the high flows leave a part of the line
  pub in_time : demand.latency ≡ s.latency → (items : List Item) (now : ℕ) (u : Supply) (priority : Priority) → (priority ≡ Low → demand.high_rate < parts) → bound demand priority ≤ s.max_delay
      → Keeps items now u → All (λ event. (item_of event).priority ≡ priority → IsTimely s demand event) (service s 0 items)
  in_time late items now u priority some quick h k d lt class =
      timely g.sent_in_time s demand priority (get_or (service s 0 items) k d) late some quick class (h.ends k d lt)
