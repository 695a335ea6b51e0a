-- The groups of a port's links have no more than all of them: each link comes in at one port.
use Rattle.std.proofs.Common.{◌≡◌, ℕ, ◌+◌, ◌*◌, ◌<◌, ◌≤◌, ◌==◌, ◌&&◌, Bool, true, false, cond, Option, List, [], ◌∷◌, map, refl, sym, ap, ◌∙◌, ⊎_elim, arith}
use Rattle.std.specs.Prelude.{filter, sum_by}
use Rattle.std.specs.List.{AllByRecursion}
use Rattle.std.proofs.lemmas.Bool.{cases_Bool}
use Rattle.std.proofs.lemmas.Bool.Decides.{nat_tests}
use Rattle.std.proofs.lemmas.List.Filters.{sum_by-filter_both}
use Rattle.std.proofs.lemmas.List.Sums.{sum_by-cons}
use Rattle.std.proofs.Math.Nat.{mul-le-mul_right}
use Rattle.afdx_serial.specs.Curves.{Curve}
use Rattle.afdx_table.specs.declared.rows.PortRow.{PortRow}
use Rattle.afdx_table.specs.Link.{Link, leads_to}
use Rattle.afdx_table.specs.Content.{Content}
use Rattle.afdx_table.specs.WellFormed.{IsWellFormed, Rises}
use Rattle.afdx_load.specs.Load.{is_high_link, is_low_link, rate_of, burst_of, routed, links_load}
use Rattle.afdx_grouping.specs.Groups.{goes_over, group_at, line_at, all_curve, high_curve}
use Rattle.afdx_grouping.specs.Laws.{ArePaidForOnce}
use Rattle.afdx_grouping.specs.Scatter.{later}

-- ---- one port for each link

not_above : (id x : ℕ) (q : PortRow) (ports : List PortRow) → AllByRecursion (λ r. q.id < r.id) ports → id ≡ q.id → sum_by (λ r. cond (id == r.id) x 0) ports ≡ 0
not_above id x q [] above is = refl
not_above id x q (r ∷ ports) above is =
    let other : (id == r.id) ≡ false = apart id r.id (omega (arith, is, above.0)) in
    sum_by-cons (λ s. cond (id == s.id) x 0) r ports ∙ adds _ _ (ap (λ b. cond b x 0) other) (not_above id x q ports above.1 is) where
      apart : (m n : ℕ) → m < n → (m == n) ≡ false
      apart m n lt = grind (arith, nat_tests)

      adds : (a b : ℕ) → a ≡ 0 → b ≡ 0 → a + b ≡ 0
      adds a b p q = omega (arith, p, q)

at_most_once : (id x : ℕ) (ports : List PortRow) → Rises ports → sum_by (λ r. cond (id == r.id) x 0) ports ≤ x
at_most_once id x [] rise = omega arith
at_most_once id x (q ∷ ports) rise = ⊎_elim
    (λ (here : (id == q.id) ≡ true).
    let rest = not_above id x q ports rise.0 (same id q.id here) in
    first _ _ _ (sum_by-cons (λ s. cond (id == s.id) x 0) q ports) (ap (λ b. cond b x 0) here) rest)
    (λ (other : (id == q.id) ≡ false).
    later _ _ _ (sum_by-cons (λ s. cond (id == s.id) x 0) q ports) (ap (λ b. cond b x 0) other) (at_most_once id x ports rise.1))
    (cases_Bool (id == q.id)) where
      same : (m n : ℕ) → (m == n) ≡ true → m ≡ n
      same m n h = grind (arith, nat_tests)

      first : (s a b : ℕ) → s ≡ a + b → a ≡ x → b ≡ 0 → s ≤ x
      first s a b e p q = omega (arith, e, p, q)

      later : (s a b : ℕ) → s ≡ a + b → a ≡ 0 → b ≤ x → s ≤ x
      later s a b e p q = omega (arith, e, p, q)

-- ---- the sums

kept_sum : (f : Link → ℕ) (p : Link → Bool) (l : Link) (links : List Link) → sum_by f (filter p (l ∷ links)) ≡ cond (p l) (f l) 0 + sum_by f (filter p links)
kept_sum f p l links = by (p l) where
  by : (b : Bool) → sum_by f (cond b (l ∷ filter p links) (filter p links)) ≡ cond b (f l) 0 + sum_by f (filter p links)
  by true = sum_by-cons f l (filter p links)
  by false = omega arith

-- sums of sums
both_sums : (g h : PortRow → ℕ) (k : PortRow → ℕ) (ports : List PortRow) → ((q : PortRow) → k q ≡ g q + h q) → sum_by k ports ≡ sum_by g ports + sum_by h ports
both_sums g h k [] each = refl
both_sums g h k (q ∷ ports) each =
    adds _ _ _ _ _ _ _ _ _ (sum_by-cons k q ports) (sum_by-cons g q ports) (sum_by-cons h q ports) (each q) (both_sums g h k ports each) where
      adds : (a b c xs ys zs sa sb sc : ℕ) → sa ≡ a + xs → sb ≡ b + ys → sc ≡ c + zs → a ≡ b + c → xs ≡ ys + zs → sa ≡ sb + sc
      adds a b c xs ys zs sa sb sc p q r h k = omega (arith, p, q, r, h, k)

each_same : (g h : PortRow → ℕ) (ports : List PortRow) → ((q : PortRow) → g q ≡ h q) → sum_by g ports ≡ sum_by h ports
each_same g h [] same = refl
each_same g h (q ∷ ports) same =
    adds _ _ _ _ _ _ (sum_by-cons g q ports) (sum_by-cons h q ports) (same q) (each_same g h ports same) where
      adds : (a b xs ys sa sb : ℕ) → sa ≡ a + xs → sb ≡ b + ys → a ≡ b → xs ≡ ys → sa ≡ sb
      adds a b xs ys sa sb p q h k = omega (arith, p, q, h, k)

nothing : (s a b : ℕ) → s ≡ a + b → a ≡ 0 → b ≡ 0 → s ≡ 0
nothing s a b e p q = omega (arith, e, p, q)

zeros : (ports : List PortRow) → sum_by (λ (q : PortRow). 0) ports ≡ 0
zeros [] = refl
zeros (q ∷ ports) = nothing _ _ _ (sum_by-cons (λ (r : PortRow). 0) q ports) refl (zeros ports)

none_sum : (to : ℕ) (f : Link → ℕ) (ports : List PortRow) → sum_by (λ (q : PortRow). sum_by f (filter (goes_over q.id to) [])) ports ≡ 0
none_sum to f [] = refl
none_sum to f (q ∷ ports) = nothing _ _ _ (sum_by-cons (λ (r : PortRow). sum_by f (filter (goes_over r.id to) [])) q ports) refl (none_sum to f ports)

one_link : (to : ℕ) (f : Link → ℕ) (l : Link) (ports : List PortRow) → Rises ports → sum_by (λ (q : PortRow). cond (goes_over q.id to l) (f l) 0) ports ≤ cond (leads_to to l) (f l) 0
one_link to f l ports rise = by (leads_to to l) where
  left : (b : Bool) → cond (b && false) (f l) 0 ≡ 0
  left true = refl
  left false = refl

  whole : (b : Bool) → cond (b && true) (f l) 0 ≡ cond b (f l) 0
  whole true = refl
  whole false = refl

  most : (a b c : ℕ) → a ≡ b → b ≤ c → a ≤ c
  most a b c e h = omega (arith, e, h)

  least : (a b : ℕ) → a ≡ b → b ≡ 0 → a ≤ 0
  least a b e h = omega (arith, e, h)

  by : (b : Bool) → sum_by (λ (q : PortRow). cond ((l.from == q.id) && b) (f l) 0) ports ≤ cond b (f l) 0
  by true = most _ _ _ (each_same (λ (q : PortRow). cond ((l.from == q.id) && true) (f l) 0) (λ (q : PortRow). cond (l.from == q.id) (f l) 0) ports (λ q. whole (l.from == q.id)))
      (at_most_once l.from (f l) ports rise)
  by false = least _ _ (each_same (λ (q : PortRow). cond ((l.from == q.id) && false) (f l) 0) (λ (q : PortRow). 0) ports (λ q. left (l.from == q.id))) (zeros ports)

pub groups_within : (to : ℕ) (f : Link → ℕ) (ports : List PortRow) → Rises ports → (links : List Link)
    → sum_by (λ (q : PortRow). sum_by f (filter (goes_over q.id to) links)) ports ≤ sum_by f (filter (leads_to to) links)
groups_within to f ports rise [] = omega (arith, none_sum to f ports)
groups_within to f ports rise (l ∷ links) =
    let split = both_sums (λ (q : PortRow). cond (goes_over q.id to l) (f l) 0) (λ (q : PortRow). sum_by f (filter (goes_over q.id to) links))
    (λ (q : PortRow). sum_by f (filter (goes_over q.id to) (l ∷ links))) ports
    (λ q. kept_sum f (goes_over q.id to) l links) in
    omega (arith, split, kept_sum f (leads_to to) l links, one_link to f l ports rise, groups_within to f ports rise links)

-- ---- the high ones

filters_commute : (p q : Link → Bool) (links : List Link) → filter p (filter q links) ≡ filter q (filter p links)
filters_commute p q [] = refl
filters_commute p q (l ∷ links) = by (filters_commute p q links) (p l) (q l) refl refl where
  p_kept : (ls : List Link) (b : Bool) → p l ≡ b → filter p (l ∷ ls) ≡ cond b (l ∷ filter p ls) (filter p ls)
  p_kept ls b is = ap (λ (v : Bool). cond v (l ∷ filter p ls) (filter p ls)) is

  q_kept : (ls : List Link) (b : Bool) → q l ≡ b → filter q (l ∷ ls) ≡ cond b (l ∷ filter q ls) (filter q ls)
  q_kept ls b is = ap (λ (v : Bool). cond v (l ∷ filter q ls) (filter q ls)) is

  by : filter p (filter q links) ≡ filter q (filter p links) → (a b : Bool) → p l ≡ a → q l ≡ b
      → filter p (cond b (l ∷ filter q links) (filter q links)) ≡ filter q (cond a (l ∷ filter p links) (filter p links))
  by rest true true pa qb = p_kept (filter q links) true pa ∙ ap (λ (ls : List Link). l ∷ ls) rest ∙ sym (q_kept (filter p links) true qb)
  by rest true false pa qb = rest ∙ sym (q_kept (filter p links) false qb)
  by rest false true pa qb = p_kept (filter q links) false pa ∙ rest
  by rest false false pa qb = rest

high_within : (to : ℕ) (f : Link → ℕ) (ports : List PortRow) → Rises ports → (links : List Link)
    → sum_by (λ (q : PortRow). sum_by f (filter is_high_link (filter (goes_over q.id to) links))) ports ≤ sum_by f (filter is_high_link (filter (leads_to to) links))
high_within to f ports rise links =
    let turned = each_same (λ (q : PortRow). sum_by f (filter is_high_link (filter (goes_over q.id to) links)))
    (λ (q : PortRow). sum_by f (filter (goes_over q.id to) (filter is_high_link links))) ports
    (λ q. ap (sum_by f) (filters_commute is_high_link (goes_over q.id to) links)) in
    let whole = ap (sum_by f) (filters_commute is_high_link (leads_to to) links) in
    omega (arith, turned, whole, groups_within to f ports rise (filter is_high_link links))

-- ---- the curves

sum_map : (f : Curve → ℕ) (g : PortRow → Curve) (ports : List PortRow) → sum_by f (map g ports) ≡ sum_by (λ q. f (g q)) ports
sum_map f g [] = refl
sum_map f g (q ∷ ports) = adds _ _ _ _ _ (sum_by-cons f (g q) (map g ports)) (sum_by-cons (λ r. f (g r)) q ports) (sum_map f g ports) where
  adds : (a xs ys sa sb : ℕ) → sa ≡ a + xs → sb ≡ a + ys → xs ≡ ys → sa ≡ sb
  adds a xs ys sa sb p q h = omega (arith, p, q, h)

-- a burst and so much of a rate
scattered_sum : (d : ℕ) (f g : PortRow → ℕ) (ports : List PortRow) (b r : ℕ) → sum_by f ports ≤ b → sum_by g ports ≤ r → sum_by (λ q. f q + g q * d) ports ≤ b + r * d
scattered_sum d f g ports b r fb gr = omega (arith, both_sums f (λ q. g q * d) (λ q. f q + g q * d) ports (λ q. refl), times ports, mul-le-mul_right d gr, fb) where
  times : (ports : List PortRow) → sum_by (λ q. g q * d) ports ≡ sum_by g ports * d
  times [] = omega arith
  times (q ∷ ports) = adds _ _ _ _ (g q) (sum_by-cons (λ p. g p * d) q ports) (sum_by-cons g q ports) (times ports) where
    adds : (xs ys sa sb a : ℕ) → sa ≡ a * d + xs → sb ≡ a + ys → xs ≡ ys * d → sa ≡ sb * d
    adds xs ys sa sb a p q h = rw q (omega (arith, p, h))

pub paid_once : (scatter : ℕ) (t : Content) (rounding_at : ℕ → Option ℕ) (to : PortRow) → IsWellFormed t → ArePaidForOnce scatter t rounding_at to
unfolding links_load
paid_once scatter t rounding_at to formed =
    let all = λ (q : PortRow). later scatter (all_curve to.speed (line_at rounding_at q) (group_at t.links q.id to)) in
    let high = λ (q : PortRow). later scatter (high_curve to.speed (line_at rounding_at q) (group_at t.links q.id to)) in
    let all_rate = groups_within to.id (rate_of to.speed) t.ports formed.ports_rise t.links in
    let high_rate = high_within to.id (rate_of to.speed) t.ports formed.ports_rise t.links in
    let all_burst = groups_within to.id (burst_of to.speed) t.ports formed.ports_rise t.links in
    let high_burst = high_within to.id (burst_of to.speed) t.ports formed.ports_rise t.links in
    record {
      rate = through _ _ _ (sum_map (λ c. c.paid.rate) all t.ports) all_rate;
      high_rate = through _ _ _ (sum_map (λ c. c.paid.rate) high t.ports) (part _ _ _ _ high_rate
          (sum_by-filter_both is_high_link is_low_link (λ _. refl) (rate_of to.speed) (routed to.id t.links)));
      burst = through _ _ _ (sum_map (λ c. c.paid.burst) all t.ports) (scattered_sum scatter _ _ t.ports _ _ all_burst all_rate);
      high_burst = through _ _ _ (sum_map (λ c. c.paid.burst) high t.ports) (scattered_sum scatter _ _ t.ports _ _ high_burst high_rate);
    } where
      through : (a b c : ℕ) → a ≡ b → b ≤ c → a ≤ c
      through a b c e h = omega (arith, e, h)

      part : (a b c s : ℕ) → a ≤ b → b + c ≡ s → a ≤ s
      part a b c s h e = omega (arith, h, e)
