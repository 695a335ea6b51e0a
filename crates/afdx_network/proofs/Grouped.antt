-- The least bursts of a port's groups are enough for its lines.
use Rattle.std.proofs.Common.{◌≡◌, ℕ, zero, suc, ◌+◌, ◌*◌, ◌<◌, ◌≤◌, ◌==◌, ◌&&◌, ◌||◌, Bool, true, false, cond, nat_eq, max, List, [], ◌∷◌, map, length, get_or}
use Rattle.std.proofs.Common.{Option, Some, None, refl, ap, sym, ◌∙◌, subst, arith}
use Rattle.std.specs.Prelude.{Contains, filter, sum_by, option_map}
use Rattle.std.specs.List.{list_any}
use Rattle.std.proofs.lemmas.Bool.{eqb-true}
use Rattle.std.proofs.lemmas.Bool.Decides.{nat_tests}
use Rattle.std.proofs.lemmas.List.Sums.{sum_by-cons}
use Rattle.std.proofs.lemmas.Option.{same_Some}
use Rattle.afdx_units.specs.declared.line.Speed.{Speed}
use Rattle.afdx_units.specs.Line.{cost_of, is_high}
use Rattle.afdx_account.specs.Policing.{parts}
use Rattle.afdx_serial.specs.Curves.{Straight, Curve, IsEnough}
use Rattle.afdx_serial.specs.Serial.{KnownLine}
use Rattle.afdx_table.specs.declared.rows.PortRow.{PortRow}
use Rattle.afdx_table.specs.Link.{Link, leads_to}
use Rattle.afdx_table.specs.Content.{Content, link_row}
use Rattle.afdx_table.specs.WellFormed.{IsWellFormed}
use Rattle.afdx_table.specs.Inner.Found.{LinksAreFound}
use Rattle.afdx_load.specs.Load.{is_high_link, rate_of, burst_of, greatest, load_of}
use Rattle.afdx_load.specs.Inner.Laws.{AsksWhatItsAccountGives}
use Rattle.afdx_grouping.specs.Groups.{goes_over, group_at, line_weight, all_curves, high_curves, lesser_load}
use Rattle.afdx_grouping.specs.Groups as group
use Rattle.afdx_grouping.specs.Laws.{BurstsAreLeast, NoneIsMoreThanPaidFor, NoMoreIsPaidFor}
use Rattle.afdx_grouping.specs.Scatter.{later_line, later}
use Rattle.afdx_isolation.specs.Table.{settings_of}
use Rattle.afdx_isolation.specs.Inner.Flow.{Flow, high_flows, rates, bursts}
use Rattle.afdx_isolation.specs.Inner.Table.{flow_of, flows_at}
use Rattle.afdx_isolation.specs.Inner.Lines.{Line, flows_on, largest_of}
use Rattle.afdx_isolation.specs.Inner.LineCurves.{all_curve, high_curve, CurvesAreEnough}
use Rattle.afdx_isolation.specs.Inner.LineTable.{comes_in, line_at, lines_of, AreLesser}

-- what the crates below say
pub record Grouping : Type 0 where
  pub links : LinksAreFound
  pub asks : AsksWhatItsAccountGives
  pub curves : CurvesAreEnough
  pub least : BurstsAreLeast
  pub none_more : NoneIsMoreThanPaidFor
  pub once : NoMoreIsPaidFor

-- ---- a link comes in at its own port

any_has : (p : Link → Bool) (ls : List Link) (l : Link) (k : ℕ) → k < length ls → get_or ls k l ≡ l → p l ≡ true → list_any p ls ≡ true
any_has p [] l k within at is = absurd (omega (arith, within))
any_has p (m ∷ ls) l zero within at is = ap (λ b. b || list_any p ls) (ap p at ∙ is)
any_has p (m ∷ ls) l (suc k) within at is = ap (λ b. p m || b) (any_has p ls l k (omega (arith, within)) at is) ∙ whole (p m) where
  whole : (b : Bool) → (b || true) ≡ true
  whole true = refl
  whole false = refl

none_has : (p : Link → Bool) (ls : List Link) → ((l : Link) → Contains ls l → p l ≡ false) → list_any p ls ≡ false
none_has p [] each = refl
none_has p (m ∷ ls) each =
    ap (λ b. b || list_any p ls) (each m (0, omega arith, refl)) ∙ none_has p ls (λ l among. each l (let within = among.1 in (suc among.0, omega (arith, within), among.2)))

comes_in_there : LinksAreFound → (t : Content) (port : ℕ) (l : Link) → IsWellFormed t → Contains t.links l → comes_in t.links port l.id ≡ (l.from == port)
comes_in_there found t port l formed among = by (l.from == port) refl where
  own : nat_eq l.id l.id ≡ true
  own = grind (arith, nat_tests)

  from_same : (k : Link) → Contains t.links k → (b : Bool) → nat_eq k.id l.id ≡ b → (l.from == port) ≡ false → (b && nat_eq k.from port) ≡ false
  from_same k there false is off = refl
  from_same k there true is off =
      let number : k.id ≡ l.id = eqb-true k.id l.id is in
      let same : k ≡ l = same_Some k l (sym (found.found t formed k there) ∙ ap (link_row t) number ∙ found.found t formed l among) in
      ap (λ (m : Link). nat_eq m.from port) same ∙ off

  by : (b : Bool) → (l.from == port) ≡ b → comes_in t.links port l.id ≡ b
  by true is = any_has (λ k. nat_eq k.id l.id && nat_eq k.from port) t.links l among.0 among.1 among.2 (ap (λ b. b && nat_eq l.from port) own ∙ is)
  by false is = none_has (λ k. nat_eq k.id l.id && nat_eq k.from port) t.links (λ k there. from_same k there (nat_eq k.id l.id) refl is)

-- ---- the flows of a group

kept_flows : (has : ℕ → Bool) (speed : Speed) (port to : ℕ) (ls : List Link) → ((l : Link) → Contains ls l → has l.id ≡ (l.from == port))
    → filter (λ (f : Flow). has f.id) (map (flow_of speed) (filter (leads_to to) ls)) ≡ map (flow_of speed) (filter (goes_over port to) ls)
kept_flows has speed port to [] each = refl
kept_flows has speed port to (l ∷ ls) each =
    by (kept_flows has speed port to ls (λ k among. each k (let within = among.1 in (suc among.0, omega (arith, within), among.2))))
    (each l (0, omega arith, refl)) (leads_to to l) (l.from == port) refl where
      Rest : Type 0
      Rest = filter (λ (f : Flow). has f.id) (map (flow_of speed) (filter (leads_to to) ls)) ≡ map (flow_of speed) (filter (goes_over port to) ls)

      by : Rest → has l.id ≡ (l.from == port) → (a b : Bool) → (l.from == port) ≡ b
          → filter (λ (f : Flow). has f.id) (map (flow_of speed) (cond a (l ∷ filter (leads_to to) ls) (filter (leads_to to) ls)))
          ≡ map (flow_of speed) (cond (b && a) (l ∷ filter (goes_over port to) ls) (filter (goes_over port to) ls))
      by rest here true true is =
          ap (λ (c : Bool). cond c (flow_of speed l ∷ filter (λ (f : Flow). has f.id) (map (flow_of speed) (filter (leads_to to) ls)))
          (filter (λ (f : Flow). has f.id) (map (flow_of speed) (filter (leads_to to) ls)))) (here ∙ is) ∙ ap (λ (fs : List Flow). flow_of speed l ∷ fs) rest
      by rest here true false is =
          ap (λ (c : Bool). cond c (flow_of speed l ∷ filter (λ (f : Flow). has f.id) (map (flow_of speed) (filter (leads_to to) ls)))
          (filter (λ (f : Flow). has f.id) (map (flow_of speed) (filter (leads_to to) ls)))) (here ∙ is) ∙ rest
      by rest here false true is = rest
      by rest here false false is = rest

high_kept : (speed : Speed) (ls : List Link) → high_flows (map (flow_of speed) ls) ≡ map (flow_of speed) (filter is_high_link ls)
high_kept speed [] = refl
high_kept speed (l ∷ ls) = by (high_kept speed ls) (is_high l.priority) where
  by : high_flows (map (flow_of speed) ls) ≡ map (flow_of speed) (filter is_high_link ls) → (b : Bool)
      → cond b (flow_of speed l ∷ high_flows (map (flow_of speed) ls)) (high_flows (map (flow_of speed) ls)) ≡ map (flow_of speed) (cond b (l ∷ filter is_high_link ls) (filter is_high_link ls))
  by rest true = ap (λ (fs : List Flow). flow_of speed l ∷ fs) rest
  by rest false = rest

sum_flows : (speed : Speed) (f : Flow → ℕ) (g : Link → ℕ) → ((l : Link) → f (flow_of speed l) ≡ g l) → (ls : List Link) → sum_by f (map (flow_of speed) ls) ≡ sum_by g ls
sum_flows speed f g each [] = refl
sum_flows speed f g each (l ∷ ls) =
    adds _ _ _ _ _ _ (sum_by-cons f (flow_of speed l) (map (flow_of speed) ls)) (sum_by-cons g l ls) (each l) (sum_flows speed f g each ls) where
      adds : (a b xs ys sa sb : ℕ) → sa ≡ a + xs → sb ≡ b + ys → a ≡ b → xs ≡ ys → sa ≡ sb
      adds a b xs ys sa sb p q h k = omega (arith, p, q, h, k)

largest_flows : (speed : Speed) (ls : List Link) → largest_of (map (flow_of speed) ls) ≡ greatest (λ l. l.max_size) ls
largest_flows speed [] = refl
largest_flows speed (l ∷ ls) = ap (max l.max_size) (largest_flows speed ls)

module _ (laws : Grouping) (t : Content) (formed : IsWellFormed t) (roundings : ℕ → Option ℕ) (p : PortRow) where
  bursts_same : (ls : List Link) → bursts (map (flow_of p.speed) ls) ≡ sum_by (burst_of p.speed) ls
  bursts_same ls = sum_flows p.speed (λ f. f.weight * f.terms.cap) (burst_of p.speed) (λ l. sym (laws.asks p.speed l).1) ls

  rates_same : (ls : List Link) → rates (map (flow_of p.speed) ls) ≡ sum_by (rate_of p.speed) ls
  rates_same ls = sum_flows p.speed (λ f. f.weight * f.terms.rate) (rate_of p.speed) (λ l. sym (laws.asks p.speed l).0) ls

  on_line : (q : PortRow) → flows_on (line_at t.links roundings q) (flows_at t p) ≡ map (flow_of p.speed) (filter (goes_over q.id p.id) t.links)
  on_line q = kept_flows (comes_in t.links q.id) p.speed q.id p.id t.links (λ l among. comes_in_there laws.links t q.id l formed among)

  -- ---- the curves

  made : Option KnownLine → (burst rate largest spare : ℕ) → Curve
  made None burst rate largest spare = record { paid = record { burst = burst; rate = rate }; brought = None }
  made (Some there) burst rate largest spare = record {
    paid = record { burst = burst; rate = rate };
    brought = Some (record { burst = line_weight p.speed there.speed * (cost_of there.speed largest + there.rounding) + spare; rate = line_weight p.speed there.speed });
  }

  same_made : (line : Option KnownLine) (a a' b b' c c' d d' : ℕ) → a ≡ a' → b ≡ b' → c ≡ c' → d ≡ d' → made line a b c d ≡ made line a' b' c' d'
  same_made line a a' b b' c c' d d' one two three four = cc

  all_made : (has : ℕ → Bool) (line : Option KnownLine) → all_curve (settings_of t.latency p) (flows_at t p) (record { has = has; known = line })
      ≡ made line (bursts (flows_on (record { has = has; known = line }) (flows_at t p))) (rates (flows_on (record { has = has; known = line }) (flows_at t p)))
      (largest_of (flows_on (record { has = has; known = line }) (flows_at t p))) (bursts (high_flows (flows_on (record { has = has; known = line }) (flows_at t p))))
  unfolding made
  all_made has None = refl
  all_made has (Some there) = refl

  high_made : (has : ℕ → Bool) (line : Option KnownLine) → high_curve (settings_of t.latency p) (flows_at t p) (record { has = has; known = line })
      ≡ made line (bursts (high_flows (flows_on (record { has = has; known = line }) (flows_at t p)))) (rates (high_flows (flows_on (record { has = has; known = line }) (flows_at t p))))
      (largest_of (high_flows (flows_on (record { has = has; known = line }) (flows_at t p)))) 0
  unfolding made
  high_made has None = refl
  high_made has (Some there) = refl

  group_made : (line : Option KnownLine) (spare : ℕ) (ls : List Link) → made line (sum_by (burst_of p.speed) ls) (sum_by (rate_of p.speed) ls) (greatest (λ l. l.max_size) ls) spare
      ≡ group.curve_of p.speed line spare (group.asked_by p.speed ls)
  unfolding made
  group_made None spare ls = refl
  group_made (Some there) spare ls = refl

  all_same : (q : PortRow) → all_curve (settings_of t.latency p) (flows_at t p) (line_at t.links roundings q) ≡ group.all_curve p.speed (group.line_at roundings q) (group_at t.links q.id p)
  all_same q =
      let on = on_line q in
      all_made (comes_in t.links q.id) (group.line_at roundings q)
      ∙ same_made (group.line_at roundings q) _ _ _ _ _ _ _ _
      (ap bursts on ∙ bursts_same (filter (goes_over q.id p.id) t.links)) (ap rates on ∙ rates_same (filter (goes_over q.id p.id) t.links))
      (ap largest_of on ∙ largest_flows p.speed (filter (goes_over q.id p.id) t.links))
      (ap (λ (fs : List Flow). bursts (high_flows fs)) on ∙ ap bursts (high_kept p.speed (filter (goes_over q.id p.id) t.links))
      ∙ bursts_same (filter is_high_link (filter (goes_over q.id p.id) t.links)))
      ∙ group_made (group.line_at roundings q) (sum_by (burst_of p.speed) (filter is_high_link (filter (goes_over q.id p.id) t.links))) (filter (goes_over q.id p.id) t.links)

  high_same : (q : PortRow) → high_curve (settings_of t.latency p) (flows_at t p) (line_at t.links roundings q) ≡ group.high_curve p.speed (group.line_at roundings q) (group_at t.links q.id p)
  high_same q =
      let on : high_flows (flows_on (line_at t.links roundings q) (flows_at t p)) ≡ map (flow_of p.speed) (filter is_high_link (filter (goes_over q.id p.id) t.links))
      = ap high_flows (on_line q) ∙ high_kept p.speed (filter (goes_over q.id p.id) t.links) in
      high_made (comes_in t.links q.id) (group.line_at roundings q)
      ∙ same_made (group.line_at roundings q) _ _ _ _ _ _ 0 0
      (ap bursts on ∙ bursts_same (filter is_high_link (filter (goes_over q.id p.id) t.links))) (ap rates on ∙ rates_same (filter is_high_link (filter (goes_over q.id p.id) t.links)))
      (ap largest_of on ∙ largest_flows p.speed (filter is_high_link (filter (goes_over q.id p.id) t.links))) refl
      ∙ group_made (group.line_at roundings q) 0 (filter is_high_link (filter (goes_over q.id p.id) t.links))

  each_same : (f : Line → Curve) (g : PortRow → Curve) → ((q : PortRow) → f (line_at t.links roundings q) ≡ g q) → (ports : List PortRow)
      → map f (map (line_at t.links roundings) ports) ≡ map g ports
  each_same f g same [] = refl
  each_same f g same (q ∷ ports) = ap (λ (c : Curve). c ∷ map f (map (line_at t.links roundings) ports)) (same q) ∙ ap (λ (cs : List Curve). g q ∷ cs) (each_same f g same ports)

  -- ---- the bursts

  through : (a b c : ℕ) → a ≤ b → b ≤ c → a ≤ c
  through a b c h k = omega (arith, h, k)

  -- what comes where latencies do not differ
  not_later : (c : Curve) → later 0 c ≡ c
  not_later c = λ i. record { paid = line c.paid i; brought = by c.brought i } where
    line : (a : Straight) → later_line 0 a ≡ a
    line a = let same : a.burst + a.rate * 0 ≡ a.burst = omega arith in λ i. record { burst = same i; rate = a.rate }

    by : (b : Option Straight) → option_map (later_line 0) b ≡ b
    by None = refl
    by (Some b) = ap Some (line b)

  no_more : (a b rate : ℕ) → a ≤ b + rate * 0 → a ≤ b
  no_more a b rate h = omega (arith, h)

  pub grouped : (load_of t.latency p.speed p.id t.links).rate ≤ parts → AreLesser t p roundings (lesser_load 0 roundings t p).burst (lesser_load 0 roundings t p).high_burst
  grouped rate =
      let once = laws.once 0 t roundings p formed in
      let all = (laws.least parts (all_curves 0 t roundings p) (through _ _ _ once.rate rate)).enough in
      let high = (laws.least parts (high_curves 0 t roundings p) (through _ _ _ once.high_rate rate)).enough in
      record {
        enough = laws.curves (settings_of t.latency p) (flows_at t p) (lines_of t roundings) (lesser_load 0 roundings t p).burst (lesser_load 0 roundings t p).high_burst
            (subst (IsEnough parts (lesser_load 0 roundings t p).burst)
            (sym (each_same (all_curve (settings_of t.latency p) (flows_at t p)) (λ q. later 0 (group.all_curve p.speed (group.line_at roundings q) (group_at t.links q.id p)))
            (λ q. all_same q ∙ sym (not_later (group.all_curve p.speed (group.line_at roundings q) (group_at t.links q.id p)))) t.ports)) all)
            (subst (IsEnough parts (lesser_load 0 roundings t p).high_burst)
            (sym (each_same (high_curve (settings_of t.latency p) (flows_at t p)) (λ q. later 0 (group.high_curve p.speed (group.line_at roundings q) (group_at t.links q.id p)))
            (λ q. high_same q ∙ sym (not_later (group.high_curve p.speed (group.line_at roundings q) (group_at t.links q.id p)))) t.ports)) high);
        all_less = no_more _ _ (load_of t.latency p.speed p.id t.links).rate (through _ _ _ (laws.none_more parts (all_curves 0 t roundings p)) once.burst);
        high_less = no_more _ _ (load_of t.latency p.speed p.id t.links).high_rate (through _ _ _ (laws.none_more parts (high_curves 0 t roundings p)) once.high_burst);
      }
