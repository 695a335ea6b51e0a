-- Where frames come one after the other over some lines, loads grow with the jitters of their links as well, and a bound is no less than
-- the latency and the line time of the least frame.
use Rattle.std.proofs.Common.{◌≡◌, ℕ, zero, suc, ◌+◌, ◌-◌, ◌*◌, ◌<◌, ◌≤◌, ◌==◌, ◌&&◌, ◌||◌, Bool, true, false, not, min, max, List, [], ◌∷◌, map}
use Rattle.std.proofs.Common.{length, get_or, Option, Some, None, refl, ap, sym, arith, subst}
use Rattle.std.specs.Prelude.{Contains, filter, sum_by}
use Rattle.std.specs.List.{AllZip}
use Rattle.std.proofs.Math.Nat.{mul-le-mul_left, mul-le-mul_right}
use Rattle.std.proofs.lemmas.Bool.{eqb-true}
use Rattle.std.proofs.lemmas.Bool.Decides.{nat_tests}
use Rattle.std.proofs.lemmas.List.Sums.{sum_by-cons}
use Rattle.std.proofs.lemmas.List.Elements.{All-from_recursion, All-contains}
use Rattle.afdx_units.specs.declared.line.Priority.{Priority}
use Rattle.afdx_units.specs.declared.line.Priority.TheVariants.{High, Low}
use Rattle.afdx_units.specs.declared.line.Speed.{Speed}
use Rattle.afdx_units.specs.declared.line.Speed.TheVariants.{Ten, Hundred, Thousand}
use Rattle.afdx_units.specs.Line.{tick_of, cost_of, is_high}
use Rattle.afdx_account.specs.Policing.{parts}
use Rattle.afdx_serial.specs.Curves.{Straight, Curve, lesser_at, curve_at}
use Rattle.afdx_table.specs.declared.rows.PortRow.{PortRow}
use Rattle.afdx_table.specs.Link.{Link, leads_to}
use Rattle.afdx_table.specs.Content.{Content}
use Rattle.afdx_table.specs.Ports.{has_port}
use Rattle.afdx_table.specs.WellFormed.{IsLink, IsWellFormed}
use Rattle.afdx_load.specs.Load.{is_high_link, routed, rate_of, burst_of, greatest, load_of}
use Rattle.afdx_load.specs.Inner.Laws.{HighLinksLeaveAPart}
use Rattle.afdx_grouping.specs.Burst.{above, greatest_beside, paid_burst, least_burst}
use Rattle.afdx_serial.specs.Serial.{KnownLine}
use Rattle.afdx_grouping.specs.Groups.{Asked, asked_by, goes_over, group_at, line_weight, curve_of, all_curve, high_curve, line_at, all_curves, high_curves, lesser_load}
use Rattle.afdx_grouping.specs.Scatter.{later}
use Rattle.afdx_grouping.specs.Laws.{IsBelow, NoMoreIsPaidFor, LesserCurvesNeedLess}
use Rattle.afdx_network_check.proofs.LoadOrder.{Grows, filtered, sum_same, greatest_same, sum_grows, burst_grows, LoadGrows, load_grows, sum_has, kept, burst_pays}
use Rattle.afdx_network_check.proofs.LoadOrder.{Bounded, high_is, low_is, high, low}

-- ---- curves that grow

record AskedGrows (a b : Asked) : Type 0 where
  pub burst : a.burst ≤ b.burst
  pub rate : b.rate ≡ a.rate
  pub largest : b.largest ≡ a.largest

asked_grows : (here : Speed) (ls ms : List Link) → AllZip Grows ls ms → AskedGrows (asked_by here ls) (asked_by here ms)
asked_grows here ls ms h = record {
  burst = sum_grows (burst_of here) (burst_grows here) ls ms h;
  rate = sum_same (rate_of here) (λ _. refl) ls ms h;
  largest = greatest_same (λ (l : Link). l.max_size) (λ _. refl) ls ms h;
}

paid_grows : (m n k l : ℕ) → m ≤ n → l ≡ k → m + k ≤ n + l
paid_grows m n k l one two = omega (arith, one, two)

-- what is paid for, so much later
later_grows : (d : ℕ) (a b : Asked) → AskedGrows a b → (window : ℕ) → a.burst + a.rate * d + a.rate * window ≤ b.burst + b.rate * d + b.rate * window
later_grows d a b h window =
    paid_grows (a.burst + a.rate * d) (b.burst + b.rate * d) (a.rate * window) (b.rate * window)
    (paid_grows a.burst b.burst (a.rate * d) (b.rate * d) h.burst (ap (λ (n : ℕ). n * d) h.rate)) (ap (λ (n : ℕ). n * window) h.rate)

curve_grows : (d : ℕ) (here : Speed) (line : Option KnownLine) (spare more : ℕ) (a b : Asked) → spare ≤ more → AskedGrows a b
    → IsBelow (later d (curve_of here line spare a)) (later d (curve_of here line more b))
curve_grows d here None spare more a b le h window = later_grows d a b h window
curve_grows d here (Some there) spare more a b le h window =
    let first : line_weight here there.speed * (cost_of there.speed b.largest + there.rounding) ≡ line_weight here there.speed * (cost_of there.speed a.largest + there.rounding)
    = ap (λ (n : ℕ). line_weight here there.speed * (cost_of there.speed n + there.rounding)) h.largest in
    let w = line_weight here there.speed in
    both (a.burst + a.rate * d + a.rate * window) (w * (cost_of there.speed a.largest + there.rounding) + spare + w * d + w * window)
    (b.burst + b.rate * d + b.rate * window) (w * (cost_of there.speed b.largest + there.rounding) + more + w * d + w * window)
    (later_grows d a b h window)
    (brought (w * (cost_of there.speed a.largest + there.rounding)) (w * (cost_of there.speed b.largest + there.rounding)) (w * d) (w * window) first) where
      both : (p q r s : ℕ) → p ≤ r → q ≤ s → min p q ≤ min r s
      both p q r s one two = omega (arith, one, two)

      brought : (m n j k : ℕ) → n ≡ m → m + spare + j + k ≤ n + more + j + k
      brought m n j k is = omega (arith, is, le)

zipped : (f g : PortRow → Curve) → ((q : PortRow) → IsBelow (f q) (g q)) → (ports : List PortRow) → AllZip IsBelow (map f ports) (map g ports)
zipped f g each [] = tt
zipped f g each (q ∷ ports) = (each q, zipped f g each ports)

-- ---- loads that grow

through : (a b c : ℕ) → a ≤ b → b ≤ c → a ≤ c
through a b c h k = omega (arith, h, k)

pub lesser_grows : NoMoreIsPaidFor → LesserCurvesNeedLess → (d : ℕ) (roundings : ℕ → Option ℕ) (t u : Content) (p : PortRow) → IsWellFormed t → IsWellFormed u
    → u.ports ≡ t.ports → u.latency ≡ t.latency
    → AllZip Grows t.links u.links → (load_of t.latency p.speed p.id t.links).rate ≤ parts → LoadGrows (lesser_load d roundings t p) (lesser_load d roundings u p)
lesser_grows once less d roundings t u p t_formed u_formed ports latency grow rate =
    let whole = load_grows t.latency p.speed p.id t.links u.links grow in
    let group : (q : PortRow) → AllZip Grows (filter (goes_over q.id p.id) t.links) (filter (goes_over q.id p.id) u.links) = λ q. filtered (goes_over q.id p.id) (λ _. refl) t.links u.links grow in
    let high_group : (q : PortRow) → AllZip Grows (filter is_high_link (filter (goes_over q.id p.id) t.links)) (filter is_high_link (filter (goes_over q.id p.id) u.links))
    = λ q. filtered is_high_link (λ _. refl) (filter (goes_over q.id p.id) t.links) (filter (goes_over q.id p.id) u.links) (group q) in
    let t_once = once d t roundings p t_formed in
    let u_once = once d u roundings p u_formed in
    let u_rate : (load_of u.latency p.speed p.id u.links).rate ≤ parts = subst (λ (n : ℕ). n ≤ parts) (sym whole.rate) rate in
    record {
      highs = whole.highs;
      lows = whole.lows;
      rate = whole.rate;
      high_rate = whole.high_rate;
      burst = less parts (all_curves d t roundings p) (all_curves d u roundings p) (through _ _ _ t_once.rate rate) (through _ _ _ u_once.rate u_rate) (all group high_group);
      high_burst = less parts (high_curves d t roundings p) (high_curves d u roundings p) (through _ _ _ t_once.high_rate rate) (through _ _ _ u_once.high_rate u_rate) (high_ones high_group);
      low_largest = whole.low_largest;
      latency = latency;
    } where
      Groups : Type 0
      Groups = (q : PortRow) → AllZip Grows (filter (goes_over q.id p.id) t.links) (filter (goes_over q.id p.id) u.links)

      HighGroups : Type 0
      HighGroups = (q : PortRow) → AllZip Grows (filter is_high_link (filter (goes_over q.id p.id) t.links)) (filter is_high_link (filter (goes_over q.id p.id) u.links))

      all : Groups → HighGroups → AllZip IsBelow (all_curves d t roundings p) (all_curves d u roundings p)
      all group high_group =
          subst (λ (rows : List PortRow). AllZip IsBelow (all_curves d t roundings p) (map (λ q. later d (all_curve p.speed (line_at roundings q) (group_at u.links q.id p))) rows)) (sym ports)
          (zipped (λ q. later d (all_curve p.speed (line_at roundings q) (group_at t.links q.id p))) (λ q. later d (all_curve p.speed (line_at roundings q) (group_at u.links q.id p)))
          (λ q. curve_grows d p.speed (line_at roundings q) (group_at t.links q.id p).high.burst (group_at u.links q.id p).high.burst (group_at t.links q.id p).all (group_at u.links q.id p).all
          (asked_grows p.speed _ _ (high_group q)).burst (asked_grows p.speed _ _ (group q))) t.ports)

      high_ones : HighGroups → AllZip IsBelow (high_curves d t roundings p) (high_curves d u roundings p)
      high_ones high_group =
          subst (λ (rows : List PortRow). AllZip IsBelow (high_curves d t roundings p) (map (λ q. later d (high_curve p.speed (line_at roundings q) (group_at u.links q.id p))) rows)) (sym ports)
          (zipped (λ q. later d (high_curve p.speed (line_at roundings q) (group_at t.links q.id p))) (λ q. later d (high_curve p.speed (line_at roundings q) (group_at u.links q.id p)))
          (λ q. curve_grows d p.speed (line_at roundings q) 0 0 (group_at t.links q.id p).high (group_at u.links q.id p).high (omega arith) (asked_grows p.speed _ _ (high_group q))) t.ports)

-- ---- a burst is no less than a frame takes

greatest_has : (f : Link → ℕ) (ls : List Link) (l : Link) (k : ℕ) → k < length ls → get_or ls k l ≡ l → f l ≤ greatest f ls
greatest_has f [] l k within at = absurd (omega (arith, within))
greatest_has f (m ∷ ls) l zero within at =
    let same : f m ≡ f l = ap f at in
    omega (arith, same)
greatest_has f (m ∷ ls) l (suc k) within at =
    let rest = greatest_has f ls l k (omega (arith, within)) at in
    omega (arith, rest)

-- a least frame of a line there is worth one of a line here
weights : (here there : Speed) → line_weight here there * cost_of there 64 ≡ parts * cost_of here 64
weights Ten Ten = refl
weights Ten Hundred = refl
weights Ten Thousand = refl
weights Hundred Ten = refl
weights Hundred Hundred = refl
weights Hundred Thousand = refl
weights Thousand Ten = refl
weights Thousand Hundred = refl
weights Thousand Thousand = refl

-- what links can bring at once, of which one is there
curve_has : (d : ℕ) (here : Speed) (line : Option KnownLine) (spare : ℕ) (ls : List Link) (l : Link) → Contains ls l → 64 ≤ l.max_size → parts * cost_of here 64 ≤ burst_of here l
    → parts * cost_of here 64 ≤ curve_at (later d (curve_of here line spare (asked_by here ls))) 0
curve_has d here None spare ls l among size pays = start _ _ _ _ (sum_by (rate_of here) ls * d) pays (sum_has (burst_of here) ls l among.0 among.1 among.2) where
  start : (x b s z y : ℕ) → x ≤ b → b ≤ s → x ≤ s + y + z * 0
  start x b s z y one two = omega (arith, one, two)
curve_has d here (Some there) spare ls l among size pays =
    let sum = sum_has (burst_of here) ls l among.0 among.1 among.2 in
    let most = greatest_has (λ (m : Link). m.max_size) ls l among.0 among.1 among.2 in
    let long : 84 ≤ greatest (λ (m : Link). m.max_size) ls + 20 = omega (arith, size, most) in
    let cost : cost_of there.speed 64 ≤ cost_of there.speed (greatest (λ (m : Link). m.max_size) ls) = mul-le-mul_right (tick_of there.speed) long in
    let least : cost_of there.speed 64 ≤ cost_of there.speed (greatest (λ (m : Link). m.max_size) ls) + there.rounding = omega (arith, cost) in
    let first : line_weight here there.speed * cost_of there.speed 64 ≤ line_weight here there.speed * (cost_of there.speed (greatest (λ (m : Link). m.max_size) ls) + there.rounding)
    = mul-le-mul_left (line_weight here there.speed) least in
    start _ _ _ _ _ _ _ (sum_by (rate_of here) ls * d) (line_weight here there.speed * d) pays sum (weights here there.speed) first where
      start : (x b s w f z y r v : ℕ) → x ≤ b → b ≤ s → w ≡ x → w ≤ f → x ≤ min (s + r + z * 0) (f + spare + v + y * 0)
      start x b s w f z y r v one two three four = omega (arith, one, two, three, four)

one_of : (f : PortRow → Curve) (ports : List PortRow) (id x : ℕ) → has_port ports id ≡ true → ((q : PortRow) → q.id ≡ id → x ≤ curve_at (f q) 0)
    → x ≤ sum_by (λ c. curve_at c 0) (map f ports)
one_of f [] id x has each = absurd cc
one_of f (q ∷ ports) id x has each = by (λ there. one_of f ports id x there each) (q.id == id) refl has where
  here : (a s r : ℕ) → s ≡ a + r → x ≤ a → x ≤ s
  here a s r sum le = omega (arith, sum, le)

  later : (a s r : ℕ) → s ≡ a + r → x ≤ r → x ≤ s
  later a s r sum le = omega (arith, sum, le)

  rest : (b : Bool) → b ≡ false → (b || has_port ports id) ≡ true → has_port ports id ≡ true
  rest true is has = absurd cc
  rest false is has = has

  by : (has_port ports id ≡ true → x ≤ sum_by (λ c. curve_at c 0) (map f ports)) → (b : Bool) → (q.id == id) ≡ b → has_port (q ∷ ports) id ≡ true
      → x ≤ sum_by (λ c. curve_at c 0) (map f (q ∷ ports))
  by further true is has = here _ _ _ (sum_by-cons (λ c. curve_at c 0) (f q) (map f ports)) (each q (eqb-true q.id id is))
  by further false is has = later _ _ _ (sum_by-cons (λ c. curve_at c 0) (f q) (map f ports)) (further (rest (q.id == id) is has))

-- what is paid for at once is no less than what comes at once
paid_more : (curves : List Curve) → sum_by (λ c. curve_at c 0) curves ≤ paid_burst curves
paid_more [] = omega arith
paid_more (c ∷ curves) =
    adds _ _ _ _ _ _ (sum_by-cons (λ d. curve_at d 0) c curves) (sum_by-cons (λ d. d.paid.burst) c curves) (one c.paid c.brought) (paid_more curves) where
      adds : (a b xs ys sa sb : ℕ) → sa ≡ a + xs → sb ≡ b + ys → a ≤ b → xs ≤ ys → sa ≤ sb
      adds a b xs ys sa sb p q h k = omega (arith, p, q, h, k)

      all : (x y : ℕ) → x + y * 0 ≤ x
      all x y = omega arith

      part : (x y z : ℕ) → min (x + y * 0) z ≤ x
      part x y z = omega arith

      one : (a : Straight) (b : Option Straight) → lesser_at a b 0 ≤ a.burst
      one a None = all a.burst a.rate
      one a (Some b) = part a.burst a.rate (b.burst + b.rate * 0)

above_start : (n : ℕ) (curves : List Curve) → above n curves 0 ≡ sum_by (λ c. curve_at c 0) curves - n * 0
unfolding above
above_start n curves = refl

burst_has : (n : ℕ) (curves : List Curve) (x : ℕ) → x ≤ sum_by (λ c. curve_at c 0) curves → x ≤ least_burst n curves
burst_has n curves x le = both _ _ _ (greatest_beside (above n curves) curves) le (paid_more curves) (above_start n curves) where
  both : (s p a y : ℕ) → x ≤ s → s ≤ p → a ≡ s - n * 0 → x ≤ min p (max a y)
  both s p a y start paid is = omega (arith, start, paid, is)

-- ---- a bound is there

pub lesser_bounded : HighLinksLeaveAPart → (d : ℕ) (roundings : ℕ → Option ℕ) (t : Content) (p : PortRow) (l : Link) → IsWellFormed t → Contains t.links l → leads_to p.id l ≡ true
    → (load_of t.latency p.speed p.id t.links).rate ≤ parts → Bounded (lesser_load d roundings t p) l.priority (t.latency + cost_of p.speed 64)
lesser_bounded leaves d roundings t p l formed among leads rate =
    let is_link : IsLink t.ports l = All-contains (IsLink t.ports) t.links l (All-from_recursion (IsLink t.ports) t.links formed.links) among in
    let routed_there = kept (leads_to p.id) t.links l among.0 among.1 among.2 leads in
    let pays = burst_pays p.speed l is_link.size_least in
    by l.priority refl is_link routed_there pays where
      over : (q : PortRow) → q.id ≡ l.from → goes_over q.id p.id l ≡ true
      over q same = both (l.from == q.id) (leads_to p.id l) (equal l.from q.id (sym same)) leads where
        equal : (m n : ℕ) → m ≡ n → (m == n) ≡ true
        equal m n is = grind (arith, nat_tests)

        both : (a b : Bool) → a ≡ true → b ≡ true → (a && b) ≡ true
        both true b one two = two
        both false b one two = absurd cc

      grouped : (q : PortRow) → q.id ≡ l.from → Contains (filter (goes_over q.id p.id) t.links) l
      grouped q same = kept (goes_over q.id p.id) t.links l among.0 among.1 among.2 (over q same)

      high_grouped : is_high_link l ≡ true → (q : PortRow) → q.id ≡ l.from → Contains (filter is_high_link (filter (goes_over q.id p.id) t.links)) l
      high_grouped is q same = let there = grouped q same in kept is_high_link (filter (goes_over q.id p.id) t.links) l there.0 there.1 there.2 is

      by : (priority : Priority) → l.priority ≡ priority → IsLink t.ports l → Contains (routed p.id t.links) l → parts * cost_of p.speed 64 ≤ burst_of p.speed l
          → Bounded (lesser_load d roundings t p) priority (t.latency + cost_of p.speed 64)
      by High is is_link there pays =
          let h = high p.speed (routed p.id t.links) t.latency l there (ap is_high is) pays in
          let start = one_of (λ q. later d (high_curve p.speed (line_at roundings q) (group_at t.links q.id p))) t.ports l.from (parts * cost_of p.speed 64) is_link.from_port
          (λ q same. curve_has d p.speed (line_at roundings q) 0 (filter is_high_link (filter (goes_over q.id p.id) t.links)) l (high_grouped (ap is_high is) q same) is_link.size_least pays) in
          high_is (lesser_load d roundings t p) (cost_of p.speed 64) h.0 (burst_has parts (high_curves d t roundings p) (parts * cost_of p.speed 64) start)
      by Low is is_link there pays =
          let h = low p.speed (routed p.id t.links) t.latency l there (ap (λ q. not (is_high q)) is) pays in
          let start = one_of (λ q. later d (all_curve p.speed (line_at roundings q) (group_at t.links q.id p))) t.ports l.from (parts * cost_of p.speed 64) is_link.from_port
          (λ q same. curve_has d p.speed (line_at roundings q) (group_at t.links q.id p).high.burst (filter (goes_over q.id p.id) t.links) l (grouped q same) is_link.size_least pays) in
          low_is (lesser_load d roundings t p) (cost_of p.speed 64) h.0 (leaves t p.speed p.id formed rate h.0) (burst_has parts (all_curves d t roundings p) (parts * cost_of p.speed 64) start)
