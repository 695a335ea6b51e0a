-- Sums over the flows of a port: what their accounts hold, gain and give.
use Rattle.std.specs.Prelude.{not, filter}
use Rattle.afdx_isolation.specs.Inner.Potential.{held}
use Rattle.std.proofs.Common.{◌≡◌, ℕ, Bool, subst, sym, ◌+◌, ◌*◌, ◌<◌, ◌≤◌, true, false, cond, List, [], ◌∷◌, refl, ap, arith}
use Rattle.std.specs.Prelude.{nat_eq, sum_by, All, Contains}
use Rattle.std.proofs.lemmas.Bool.Decides.{nat_tests}
use Rattle.std.proofs.lemmas.List.Sums.{sum_by-cons, get_or-le-sum_by}
use Rattle.std.proofs.lemmas.List.Elements.{All-head, All-tail, All-nil, All-cons, All-weaker, All-from_get_or, All-contains, Contains-append_right}
use Rattle.std.proofs.Math.Nat.{mul-le-mul_left, mul-le-mul_right}
use Rattle.afdx_units.specs.declared.line.Speed.{Speed}
use Rattle.afdx_units.specs.Line.{cost_of, tick_of, is_high}
use Rattle.afdx_port.specs.declared.Settings.{Settings}
use Rattle.afdx_port.specs.declared.Item.{Item}
use Rattle.afdx_isolation.specs.Inner.Flow.{Flow, high_flows, low_flows, rates, bursts, longest}
use Rattle.afdx_isolation.specs.Inner.Account.{Grow, AreDebited, AreWithinCaps, charge}

pub grown : (flows : List Flow) (d : ℕ) (level after : Flow → ℕ) → Grow flows d level after → held after flows ≤ held level flows + rates flows * d
grown [] d level after h = omega arith
grown (k ∷ flows) d level after h =
    let here = (All-head (λ (flow : Flow). (after flow ≤ flow.terms.cap) × (after flow ≤ level flow + flow.terms.rate * d)) k flows h).1 in
    let ih = grown flows d level after (All-tail (λ (flow : Flow). (after flow ≤ flow.terms.cap) × (after flow ≤ level flow + flow.terms.rate * d)) k flows h) in
    adds k.weight (after k) (level k) k.terms.rate d _ _ _ _ _ _ (sum_by-cons (λ flow. flow.weight * after flow) k flows) (sum_by-cons (λ flow. flow.weight * level flow) k flows)
    (sum_by-cons (λ (flow : Flow). flow.weight * flow.terms.rate) k flows) here ih where
      adds : (w a l r d m ls rs m' ls' rs' : ℕ) → m' ≡ w * a + m → ls' ≡ w * l + ls → rs' ≡ w * r + rs → a ≤ l + r * d → m ≤ ls + rs * d → m' ≤ ls' + rs' * d
      adds w a l r d m ls rs m' ls' rs' ea el er le ih = rw (ea, el, er) (omega (arith, mul-le-mul_left w le, ih))

pub capped : (flows : List Flow) (after : Flow → ℕ) → AreWithinCaps flows after → held after flows ≤ bursts flows
capped [] after h = omega arith
capped (k ∷ flows) after h =
    let here = All-head (λ (flow : Flow). after flow ≤ flow.terms.cap) k flows h in
    let ih = capped flows after (All-tail (λ (flow : Flow). after flow ≤ flow.terms.cap) k flows h) in
    omega (arith, sum_by-cons (λ flow. flow.weight * after flow) k flows, sum_by-cons (λ (flow : Flow). flow.weight * flow.terms.cap) k flows, mul-le-mul_left k.weight here, ih)

debited : (flows : List Flow) (x : Item) (level after : Flow → ℕ) → AreDebited flows x level after → held after flows + sum_by (λ flow. flow.weight * charge x flow) flows ≤ held level flows
debited [] x level after h = omega arith
debited (k ∷ flows) x level after h =
    let here = All-head (λ (flow : Flow). after flow + charge x flow ≤ level flow) k flows h in
    let ih = debited flows x level after (All-tail (λ (flow : Flow). after flow + charge x flow ≤ level flow) k flows h) in
    adds k.weight (after k) (charge x k) (level k) _ _ _ _ _ _ (sum_by-cons (λ flow. flow.weight * after flow) k flows) (sum_by-cons (λ flow. flow.weight * charge x flow) k flows)
    (sum_by-cons (λ flow. flow.weight * level flow) k flows) here ih where
      adds : (w a c l m cs ls m' cs' ls' : ℕ) → m' ≡ w * a + m → cs' ≡ w * c + cs → ls' ≡ w * l + ls → a + c ≤ l → m + cs ≤ ls → m' + cs' ≤ ls'
      adds w a c l m cs ls m' cs' ls' ea ec el le ih = rw (ea, ec, el) (omega (arith, mul-le-mul_left w le, ih))

-- each term is within the sum
within : (f : Flow → ℕ) (flows : List Flow) (k : Flow) → Contains flows k → f k ≤ sum_by f flows
within f flows k among =
    All-contains (λ flow. f flow ≤ sum_by f flows) flows k (All-from_get_or (λ flow. f flow ≤ sum_by f flows) flows k (λ i lt. get_or-le-sum_by f flows i k lt)) among

charge_own : (x : Item) (k : Flow) → k.id ≡ x.link → charge x k ≡ k.terms.price x.size
charge_own x k same = choose k.id x.link (k.terms.price x.size) same where
  choose : (m n p : ℕ) → m ≡ n → cond (nat_eq m n) p 0 ≡ p
  choose m n p h = grind (arith, nat_tests)

-- the accounts pay for an item of a flow among them
pub pays : (flows : List Flow) (x : Item) (k : Flow) → Contains flows k → k.id ≡ x.link → (level after : Flow → ℕ) → AreDebited flows x level after → held after flows + k.weight * k.terms.price x.size
    ≤ held level flows
pays flows x k among same level after h =
    let one = within (λ flow. flow.weight * charge x flow) flows k among in
    let own = ap (λ n. k.weight * n) (charge_own x k same) in
    omega (arith, debited flows x level after h, one, own)

pub falls : (flows : List Flow) (x : Item) (level after : Flow → ℕ) → AreDebited flows x level after → held after flows ≤ held level flows
falls flows x level after h = omega (arith, debited flows x level after h)

-- a flow that passes a test is among those that do
pub among_filter : {X : Type 0} (p : X → Bool) (xs : List X) (k : X) → Contains xs k → p k ≡ true → Contains (filter p xs) k
among_filter p flows k among = All-contains (λ flow. p flow ≡ true → Contains (filter p flows) flow) flows k (each flows) among where
  each : (flows : List _) → All (λ flow. p flow ≡ true → Contains (filter p flows) flow) flows
  each [] = All-nil (λ flow. p flow ≡ true → Contains (filter p []) flow)
  each (k ∷ flows) = All-cons (λ flow. p flow ≡ true → Contains (filter p (k ∷ flows)) flow) k flows
      (λ is. subst (λ v. Contains (cond v (k ∷ filter p flows) (filter p flows)) k) (sym is) (0, omega arith, refl))
      (All-weaker (λ flow. p flow ≡ true → Contains (filter p flows) flow) (λ flow. p flow ≡ true → Contains (filter p (k ∷ flows)) flow)
      (λ flow h is. elim (p k) as (λ v. Contains (cond v (k ∷ filter p flows) (filter p flows)) flow) [ true ↦ Contains-append_right (k ∷ []) (filter p flows) flow (h is) | false ↦ h is ]) flows
      (each flows))

-- the sums of the two priorities are the whole sum
parts : (f : Flow → ℕ) (flows : List Flow) → sum_by f (high_flows flows) + sum_by f (low_flows flows) ≡ sum_by f flows
parts f [] = refl
parts f (k ∷ flows) =
    let ih = parts f flows in
    elim (is_high k.priority) as (λ v. sum_by f (cond v (k ∷ high_flows flows) (high_flows flows)) + sum_by f (cond (not v) (k ∷ low_flows flows) (low_flows flows)) ≡ sum_by f (k ∷ flows)) [
      | true ↦ omega (arith, ih, sum_by-cons f k (high_flows flows), sum_by-cons f k flows)
      | false ↦ omega (arith, ih, sum_by-cons f k (low_flows flows), sum_by-cons f k flows)
    ]

pub high_part : (f : Flow → ℕ) (flows : List Flow) → sum_by f (high_flows flows) ≤ sum_by f flows
high_part f flows = omega (arith, parts f flows)

-- where there is a low flow that moves, the high ones do not fill the line
pub low_leaves : (flows : List Flow) (k : Flow) → Contains flows k → is_high k.priority ≡ false → 0 < k.weight * k.terms.rate → rates (high_flows flows) < rates flows
low_leaves flows k among low moves =
    let one = within (λ (flow : Flow). flow.weight * flow.terms.rate) (low_flows flows) k (among_filter (λ flow. not (is_high flow.priority)) flows k among (ap not low)) in
    omega (arith, one, moves, parts (λ (flow : Flow). flow.weight * flow.terms.rate) flows)

-- larger frames take longer
pub cost_grows : (speed : Speed) (a b : ℕ) → a ≤ b → cost_of speed a ≤ cost_of speed b
cost_grows speed a b le = let le' : a + 20 ≤ b + 20 = omega arith in mul-le-mul_right (tick_of speed) le'

within_all : (s : Settings) (flows : List Flow) → All (λ (flow : Flow). cost_of s.speed flow.largest ≤ longest s flows) flows
within_all s [] = All-nil (λ (flow : Flow). cost_of s.speed flow.largest ≤ 0)
within_all s (k ∷ flows) = All-cons (λ (flow : Flow). cost_of s.speed flow.largest ≤ longest s (k ∷ flows)) k flows (omega arith)
    (All-weaker (λ (flow : Flow). cost_of s.speed flow.largest ≤ longest s flows) (λ (flow : Flow). cost_of s.speed flow.largest ≤ longest s (k ∷ flows)) (λ flow h. omega (arith, h)) flows
    (within_all s flows))

-- no frame that a flow allows takes longer than the longest
pub within_longest : (s : Settings) (flows : List Flow) (k : Flow) (size : ℕ) → Contains flows k → size ≤ k.largest → cost_of s.speed size ≤ longest s flows
within_longest s flows k size among le =
    let most = All-contains (λ (flow : Flow). cost_of s.speed flow.largest ≤ longest s flows) flows k (within_all s flows) among in
    omega (arith, most, cost_grows s.speed size k.largest le)
