-- What is kept of a port is kept over time and with each item that is paid for, and what follows from it.
use Rattle.std.proofs.Common.{◌≡◌, ℕ, ◌+◌, ◌-◌, ◌*◌, ◌<◌, ◌≤◌, true, false, cond, List, [], ◌∷◌, ◌++◌, get_or, refl, ap, sym, ◌∙◌, subst, arith, ⊎_elim, append-nil}
use Rattle.std.specs.Prelude.{not, nat_lt, nat_eq, sum_by, All, Contains, map}
use Rattle.std.proofs.lemmas.Bool.{cases_Bool, eqb-true}
use Rattle.std.proofs.lemmas.List.Sums.{sum_by_push}
use Rattle.std.proofs.lemmas.List.Elements.{All-nil, All-append, All-push, All-weaker, All-same, All-contains, All-filter, recursion_from_All}
use Rattle.std.proofs.lemmas.List.Quantifiers.{all_pairs_push}
use Rattle.afdx_units.specs.declared.line.Priority.{Priority}
use Rattle.afdx_units.specs.declared.line.Priority.TheVariants.{High, Low}
use Rattle.afdx_units.specs.Line.{tick_of, is_high}
use Rattle.afdx_port.specs.declared.Settings.{Settings}
use Rattle.afdx_port.specs.declared.Item.{Item}
use Rattle.afdx_port.specs.Service.{came, instant, item_of, service, before}
use Rattle.afdx_port.specs.Admission.{occupied, fits}
use Rattle.afdx_port.specs.Inner.Order.{highs, lows, line_up, in_line}
use Rattle.afdx_port.specs.Inner.Course.{line_at}
use Rattle.afdx_port.specs.Inner.Work.{item_cost, work, HaveCome}
use Rattle.afdx_account.specs.Policing.{parts}
use Rattle.afdx_isolation.specs.Inner.Flow.{Flow, Demand, IsPaidFor, IsWithinRate, HasBuffer, IsWithinDelay, CarriesFlows, AreDistinct, high_flows, low_flows, demand_of, bound}
use Rattle.afdx_isolation.specs.Inner.Potential.{costs, IsWithinPotentials, KeepsPotentials, EndsBy, BeginsAs, held}
use Rattle.afdx_isolation.specs.Inner.Account.{AreWithinCaps, Grow, AreDebited, IsOfAFlow, charge}
use Rattle.afdx_isolation.specs.Inner.Kept.{IsKeptLevel}
use Rattle.afdx_isolation.specs.Arrivals.{own}
use Rattle.afdx_isolation.specs.Inner.Claims.{IsTimely}
use Rattle.afdx_isolation.specs.Inner.Ground.{Ground}
use Rattle.afdx_isolation.proofs.Numbers.{keep_growth, keep_high, keep_low}
use Rattle.afdx_isolation.proofs.Sums.{grown, capped, pays, falls, among_filter, high_part, low_leaves, within_longest}
use Rattle.afdx_isolation.proofs.Waiting.{IsShort, lined_at, start_at, highs-line_up, lows-line_up, keep_starts}
use Rattle.afdx_isolation.proofs.Ends.{ends, timely}
use Rattle.afdx_isolation.proofs.Queued.{line_none, waiting_all, highs-push, lows-push, costs_parts, tick_some, fits_by}

-- a new port
pub kept_none : (s : Settings) (flows : List Flow) (now : ℕ) (level : Flow → ℕ) → AreWithinCaps flows level → IsKeptLevel s flows [] now level
kept_none s flows now level caps = record {
  come = All-nil (λ (item : Item). came s item ≤ now);
  of_flows = All-nil (IsOfAFlow flows);
  in_order = λ i j d lt within. absurd (omega arith);
  potentials = subst (KeepsPotentials s flows now level) (sym (line_none s now)) (record {
    all_work = omega (arith, capped flows level caps);
    high_work = omega (arith, capped (high_flows flows) level (All-filter (λ flow. is_high flow.priority) (λ flow. level flow ≤ flow.terms.cap) flows caps));
    low_ends = tt;
    high_ends = tt;
  });
  ends = All-nil (BeginsAs s (EndsBy parts s (demand_of s flows)));
}

-- the fixed port: its settings and its flows
module _ (g : Ground) (s : Settings) (flows : List Flow) (paid : All (IsPaidFor s) flows) (slow : IsWithinRate s flows) where
  abbrev demand : Demand
  demand = demand_of s flows

  high_slow : demand.high_rate ≤ parts
  high_slow = omega (arith, slow, high_part (λ (flow : Flow). flow.weight * flow.terms.rate) flows)

  -- no item takes longer than the longest, nor a low one than the longest low one
  cost_most : (x : Item) → IsOfAFlow flows x → item_cost s x ≤ demand.largest
  cost_most x r = within_longest s flows r.flow x.size r.among r.largest

  cost_most_low : (x : Item) → IsOfAFlow flows x → is_high x.priority ≡ false → item_cost s x ≤ demand.low_largest
  cost_most_low x r low = within_longest s (low_flows flows) r.flow x.size (among_filter (λ flow. not (is_high flow.priority)) flows r.flow r.among (ap not (ap is_high r.priority ∙ low))) r.largest

  abbrev Keeps : List Item → ℕ → (Flow → ℕ) → Type 0
  Keeps items now level = IsKeptLevel s flows items now level

  pub kept_wait : (items : List Item) (now to : ℕ) (level after : Flow → ℕ) → now ≤ to → Grow flows (to - now) level after → Keeps items now level → Keeps items to after
  kept_wait items now to level after le grow h = record {
    come = All-weaker (λ (item : Item). came s item ≤ now) (λ (item : Item). came s item ≤ to) (λ item c. omega (arith, c, le)) items h.come;
    of_flows = h.of_flows;
    in_order = h.in_order;
    potentials =
        let q = line_at s now items in
        let d = to - now in
        let caps : AreWithinCaps flows after = λ k x lt. (grow k x lt).0 in
        let capped' = capped flows after caps in
        let high_capped' = capped (high_flows flows) after (All-filter (λ flow. is_high flow.priority) (λ flow. after flow ≤ flow.terms.cap) flows caps) in
        let there : now + d ≡ to = omega arith in
        let high_grow : Grow (high_flows flows) d level after = All-filter (λ flow. is_high flow.priority) (λ flow. (after flow ≤ flow.terms.cap) × (after flow ≤ level flow + flow.terms.rate * d))
        flows grow in
        let grown' = keep_growth parts s demand now d q.free (held level flows) (held level (high_flows flows)) (held after flows) (held after (high_flows flows)) (highs q.waiting) (lows q.waiting)
        (omega (arith, slow)) high_slow (grown flows d level after grow) (grown (high_flows flows) d level after high_grow) h.potentials in
        let small = recursion_from_All (IsShort parts s demand to (held after flows) (held after (high_flows flows)) capped' high_capped') q.waiting
        (waiting_all g s (λ (item : Item). is_high item.priority ≡ false → item_cost s item ≤ demand.low_largest) now items
        (All-weaker (IsOfAFlow flows) (λ (item : Item). is_high item.priority ≡ false → item_cost s item ≤ demand.low_largest) cost_most_low items h.of_flows)) in
        subst (KeepsPotentials s flows to after) (sym (g.goes_on s now to items le h.come))
        (keep_starts parts s demand to (held after flows) (held after (high_flows flows)) capped' high_capped' q.free q.waiting (lined_at s now items) small
        (subst (λ t. IsWithinPotentials parts s demand t q.free (held after flows) (held after (high_flows flows)) (highs q.waiting) (lows q.waiting)) there grown'));
    ends = h.ends;
  }

  pub kept_later : (items : List Item) (now d : ℕ) (level after : Flow → ℕ) → Grow flows d level after → Keeps items now level → Keeps items (now + d) after
  kept_later items now d level after grow h =
      let e : d ≡ (now + d) - now = omega arith in
      kept_wait items now (now + d) level after (omega arith) (subst (λ n. Grow flows n level after) e grow) h

  -- one more item waits
  comes : (now start : ℕ) (level after : Flow → ℕ) (items : List Item) (x : Item) → came s x ≡ now → IsOfAFlow flows x → AreDebited flows x level after
      → IsWithinPotentials parts s demand now start (held level flows) (held level (high_flows flows)) (highs items) (lows items)
      → IsWithinPotentials parts s demand now start (held after flows) (held after (high_flows flows)) (highs (items ++ x ∷ [])) (lows (items ++ x ∷ []))
  comes now start level after items x now-is r debits h =
      let price = (All-contains (IsPaidFor s) flows r.flow paid r.among).pays x.size r.least r.largest in
      let high_debits = All-filter (λ flow. is_high flow.priority) (λ flow. after flow + charge x flow ≤ level flow) flows debits in
      let gives = pays flows x r.flow r.among r.same level after debits in
      ⊎_elim
      (λ (is : is_high x.priority ≡ true).
      let high_gives = pays (high_flows flows) x r.flow (among_filter (λ flow. is_high flow.priority) flows r.flow r.among (ap is_high r.priority ∙ is)) r.same level after high_debits in
      let hs : highs (items ++ x ∷ []) ≡ highs items ++ x ∷ [] = highs-push items x ∙ ap (λ v. highs items ++ cond v (x ∷ []) []) is in
      let ls : lows (items ++ x ∷ []) ≡ lows items = lows-push items x ∙ ap (λ v. lows items ++ cond (not v) (x ∷ []) []) is ∙ append-nil (lows items) in
      subst (λ xs. IsWithinPotentials parts s demand now start (held after flows) (held after (high_flows flows)) xs (lows (items ++ x ∷ []))) (sym hs)
      (subst (λ ys. IsWithinPotentials parts s demand now start (held after flows) (held after (high_flows flows)) (highs items ++ x ∷ []) ys) (sym ls)
      (keep_high parts s demand now start (held level flows) (held level (high_flows flows)) (held after flows) (held after (high_flows flows)) x (highs items) (lows items) now-is
      (omega (arith, price, gives)) (omega (arith, price, high_gives)) h)))
      (λ (is : is_high x.priority ≡ false).
      let hs : highs (items ++ x ∷ []) ≡ highs items = highs-push items x ∙ ap (λ v. highs items ++ cond v (x ∷ []) []) is ∙ append-nil (highs items) in
      let ls : lows (items ++ x ∷ []) ≡ lows items ++ x ∷ [] = lows-push items x ∙ ap (λ v. lows items ++ cond (not v) (x ∷ []) []) is in
      subst (λ xs. IsWithinPotentials parts s demand now start (held after flows) (held after (high_flows flows)) xs (lows (items ++ x ∷ []))) (sym hs)
      (subst (λ ys. IsWithinPotentials parts s demand now start (held after flows) (held after (high_flows flows)) (highs items) ys) (sym ls)
      (keep_low parts s demand now start (held level flows) (held level (high_flows flows)) (held after flows) (held after (high_flows flows)) x (highs items) (lows items) now-is
      (omega (arith, price, gives)) (falls (high_flows flows) x level after high_debits) (high_part (λ flow. flow.weight * after flow) flows) h)))
      (cases_Bool (is_high x.priority))

  joined : (now : ℕ) (level after : Flow → ℕ) (items : List Item) (x : Item) → came s x ≡ now → IsOfAFlow flows x → AreDebited flows x level after
      → KeepsPotentials s flows now level (line_at s now items) → KeepsPotentials s flows now after (line_at s now (items ++ x ∷ []))
  joined now level after items x now-is r debits h =
      let q = line_at s now items in
      let all = q.waiting ++ x ∷ [] in
      let kept_here = comes now q.free level after q.waiting x now-is r debits h in
      subst (KeepsPotentials s flows now after) (sym (g.joins s now items x (omega (arith, now-is))))
      (subst (λ xs. IsWithinPotentials parts s demand now q.free (held after flows) (held after (high_flows flows)) xs (lows (line_up all))) (sym (highs-line_up all))
      (subst (λ ys. IsWithinPotentials parts s demand now q.free (held after flows) (held after (high_flows flows)) (highs all) ys) (sym (lows-line_up all)) kept_here))

  pub kept_pass : (items : List Item) (x : Item) (level after : Flow → ℕ) → IsOfAFlow flows x → AreDebited flows x level after → Keeps items (came s x) level → Keeps (items ++ x ∷ []) (came s x) after
  kept_pass items x level after r debits h =
      let now = came s x in
      let all = items ++ x ∷ [] in
      let Q = BeginsAs s (EndsBy parts s demand) in
      let come : HaveCome s now all = All-push (λ (item : Item). came s item ≤ now) items x h.come (omega arith) in
      let potentials = joined now level after items x refl r debits h.potentials in
      let q = line_at s now all in
      let rest = ends parts s demand now (held after flows) (held after (high_flows flows)) q.free q.waiting (lined_at s now all) (waiting_all g s (λ (item : Item). came s item ≤ now) now all come)
      (start_at s now all) potentials in
      let done : All Q (before now (service s 0 all)) = All-same Q (before now (service s 0 all)) (before now (service s 0 items)) (g.earlier_stay s now 0 items x (omega arith))
      (All-filter (λ e. nat_lt (instant e) now) Q (service s 0 items) h.ends) in
      record {
        come = come;
        of_flows = All-push (IsOfAFlow flows) items x h.of_flows r;
        in_order = all_pairs_push (λ (a b : Item). came s a ≤ came s b) items x h.in_order h.come;
        potentials = potentials;
        ends = All-same Q (service s 0 all) (before now (service s 0 all) ++ in_line s q.free q.waiting) (g.follow s now all come)
            (All-append Q (before now (service s 0 all)) (in_line s q.free q.waiting) done rest);
      }

  -- with a buffer for the bursts, an item that is paid for has room
  pub has_room : HasBuffer s flows → (items : List Item) (x : Item) (level after : Flow → ℕ) → IsOfAFlow flows x → AreDebited flows x level after → Keeps items (came s x) level → fits s items x ≡ true
  has_room buffer items x level after r debits h =
      let now = came s x in
      let q = line_at s now items in
      let kept_here = comes now q.free level after q.waiting x refl r debits h.potentials in
      let bytes = g.bytes s now demand.largest items (All-weaker (IsOfAFlow flows) (λ (item : Item). item_cost s item ≤ demand.largest) cost_most items h.of_flows) in
      let sum = costs_parts s (q.waiting ++ x ∷ []) in
      let more = sum_by_push (item_cost s) q.waiting x in
      fits_by (tick_of s.speed) x.size (occupied s now items) s.buffer (work s now items) demand.largest demand.burst (costs s (highs (q.waiting ++ x ∷ []))) (costs s (lows (q.waiting ++ x ∷ [])))
      (held after flows) (sum_by (item_cost s) q.waiting) now q.free (tick_some s.speed) (start_at s now items) bytes (g.work s now items) (omega (arith, sum, more)) kept_here.all_work
      (omega (arith, buffer))

  -- a priority that has a flow leaves time for its items
  leaves : (flow : Flow) → Contains flows flow → (priority : Priority) → flow.priority ≡ priority → priority ≡ Low → demand.high_rate < parts
  leaves flow among priority is low =
      let own' = All-contains (IsPaidFor s) flows flow paid among in
      omega (arith, slow, low_leaves flows flow among (ap is_high (is ∙ low)) own'.credited)

  pub in_time : (items : List Item) (now : ℕ) (level : Flow → ℕ) (priority : Priority) → IsWithinDelay s flows priority → Keeps items now level
      → All (λ event. (item_of event).priority ≡ priority → IsTimely s demand event) (service s 0 items)
  in_time items now level priority quick h k d lt class =
      let event = get_or (service s 0 items) k d in
      let r = All-contains (IsOfAFlow flows) items (item_of event) h.of_flows (g.events s 0 items k d lt) in
      let is : r.flow.priority ≡ priority = r.priority ∙ class in
      let bound' = All-contains (λ (flow : Flow). flow.priority ≡ priority → bound demand priority ≤ s.max_delay) flows r.flow quick r.among is in
      timely g.sent_in_time s demand priority event refl (leaves r.flow r.among priority is) bound' class (h.ends k d lt)

  delay_of : CarriesFlows s flows → (priority : Priority) → IsWithinDelay s flows priority
  delay_of a High = a.high
  delay_of a Low = a.low

  pub all_in_time : CarriesFlows s flows → (items : List Item) (now : ℕ) (level : Flow → ℕ) → Keeps items now level → All (IsTimely s demand) (service s 0 items)
  all_in_time a items now level h k d lt =
      let priority = (item_of (get_or (service s 0 items) k d)).priority in
      in_time items now level priority (delay_of a priority) h k d lt refl

  -- the items of a flow leave in the order in which they came
  pub ordered : AreDistinct flows → (items : List Item) (now : ℕ) (level : Flow → ℕ) → Keeps items now level → (flow : Flow) → Contains flows flow → own flow.id (map item_of (service s 0 items))
      ≡ own flow.id items
  ordered apart items now level h flow among = g.order s (λ item. nat_eq item.link flow.id) flow.priority items h.in_order
      (All-weaker (IsOfAFlow flows) (λ (item : Item). nat_eq item.link flow.id ≡ true → item.priority ≡ flow.priority)
      (λ item r same. sym r.priority ∙ ap (λ (f : Flow). f.priority) (apart r.flow flow r.among among (r.same ∙ eqb-true _ _ same))) items h.of_flows)
