-- Recordings of which all is exact keep to what the headline says, and to no less.
use Rattle.std.proofs.Common.{◌≡◌, ℕ, ◌+◌, ◌*◌, ◌-◌, ◌<◌, ◌≤◌, ◌/◌, nat_le, cond, Bool, true, false, not, List, [], ◌∷◌, ◌++◌, map, length, Some, None, refl, sym, ap, subst, ◌∙◌, arith, inl, inr}
use Rattle.std.specs.Prelude.{All, Contains, ◌↔◌, filter, count_by}
use Rattle.std.specs.List.{AllByRecursion, AllZip}
use Rattle.std.proofs.lemmas.Bool.{cases_Bool, lt-ltb, eqb-true}
use Rattle.std.proofs.lemmas.List.{append-nil}
use Rattle.std.proofs.lemmas.List.Elements.{All-contains, All-from_recursion}
use Rattle.std.proofs.lemmas.List.Sums.{sum_by-cons}
use Rattle.std.proofs.lemmas.Nat.{mul-le}
use Rattle.std.proofs.lemmas.Option.{same_Some}
use Rattle.afdx_units.specs.declared.line.Priority.{Priority}
use Rattle.afdx_units.specs.declared.line.Priority.TheVariants.{High, Low}
use Rattle.afdx_units.specs.declared.bag.Bag.{Bag}
use Rattle.afdx_units.specs.declared.police.Police.{Police}
use Rattle.afdx_units.specs.declared.police.Police.TheVariants.{Byte, Frame as ByFrames}
use Rattle.afdx_units.specs.Line.{size_of, is_high}
use Rattle.afdx_units.specs.Time.{bag_ns}
use Rattle.afdx_pcap.specs.Record.{Record}
use Rattle.afdx_frame.specs.Address.{link_of}
use Rattle.afdx_table.specs.declared.rows.PortRow.{PortRow}
use Rattle.afdx_table.specs.Link.{Link, leads_to}
use Rattle.afdx_table.specs.Content.{Content}
use Rattle.afdx_table.specs.WellFormed.{IsWellFormed}
use Rattle.afdx_table.specs.Inner.Found.{LinksAreFound}
use Rattle.afdx_account.specs.declared.frame.Frame.{Frame}
use Rattle.afdx_account.specs.Policing.{Terms, terms_by, passed_after, passed_of, passed_frames}
use Rattle.afdx_account.specs.Level.{headroom, NoneLater, IsLevelAfter, credited_level, InOrder}
use Rattle.afdx_account.specs.Inner.Laws.{NextFrameJoinsWhereItConforms, HeadroomIsCredited, HeadroomDecides, HeadroomIsDebited}
use Rattle.afdx_filter.specs.Frame.{frame_of}
use Rattle.afdx_filter.specs.declared.outcome.Verdict.{Verdict}
use Rattle.afdx_filter.specs.declared.outcome.Verdict.TheVariants.{Cut, Short, Long, Foreign, NoLink, WrongPort, TooBig, Clean}
use Rattle.afdx_filter.specs.Verdict.{verdict_of}
use Rattle.afdx_filter.specs.Inner.Clean.{CleanFramesHaveALink}
use Rattle.afdx_levels.specs.Levels.{at_rest, Allowed}
use Rattle.afdx_levels.specs.Inner.Laws.{fates_from, chosen, AllFit, AtRestIsTheAccount}
use Rattle.afdx_load.specs.Load.{Load, is_high_link, is_low_link, routed, links_load, load_of, terms_of}
use Rattle.afdx_load.specs.Accepted.{IsAccepted}
use Rattle.afdx_load.specs.Inner.Laws.{AcceptedKeepsBounds}
use Rattle.afdx_account.specs.Policing.{parts}
use Rattle.afdx_isolation.specs.Table.{bound_of}
use Rattle.afdx_grouping.specs.Scatter.{NothingIsScattered}
use Rattle.afdx_pairing.specs.declared.limits.Limits.{Limits}
use Rattle.afdx_pairing.specs.Limits.{left_at}
use Rattle.afdx_pairing.specs.Kept.{IsKeptFor, MayCome, bytes_of}
use Rattle.afdx_pairing.specs.Kept.{IsInBound as IsWithinLimits}
use Rattle.afdx_following.specs.Watch.{limits_of}
use Rattle.afdx_core.specs.Rows.{says_clean}
use Rattle.afdx_core.specs.Merge.{Capture, records_of}
use Rattle.afdx_session.specs.Headline.{IsIsolatedAt, IsInBound, own_records, passed_records, records_for}
use Rattle.afdx_compare.specs.Within.{IsKeptWithin, IsKeptAt, exactly, own_within, recorded, bound_at}
use Rattle.afdx_compare.specs.Inner.Laws.{ComeInOrder, ExactlyIsIsolated}

-- ---- what a link's account passes

none_later : (now later : ℕ) (fs : List Frame) → now ≤ later → NoneLater fs now → NoneLater fs later
none_later now later [] le none = tt
none_later now later (f ∷ fs) le none = let first = none.0 in (omega (arith, le, first), none_later now later fs le none.1)

later_push : (now : ℕ) (fs : List Frame) (f : Frame) → f.stamp ≤ now → NoneLater fs now → NoneLater (fs ++ f ∷ []) now
later_push now [] f le none = (le, tt)
later_push now (g ∷ fs) f le none = (none.0, later_push now fs f le none.1)

-- the things whose fates are those of a full account, step by step, are those that its policing passes
module _ (next : NextFrameJoinsWhereItConforms) (credited : HeadroomIsCredited) (decides : HeadroomDecides) (debited : HeadroomIsDebited) (t : Terms) where
  step_level : (fs : List Frame) (since level : ℕ) (f : Frame) → IsLevelAfter t since level fs → since ≤ f.stamp
      → headroom t (passed_frames t fs) f.stamp ≡ credited_level t level (f.stamp - since)
  step_level fs since level f is le = credited t fs since f.stamp le is.latest ∙ ap (λ n. credited_level t n (f.stamp - since)) (sym is.level_is)

  chosen_from : (fs : List Frame) (since level : ℕ) (xs : List Record) → IsLevelAfter t since level fs → InOrder since (map frame_of xs)
      → chosen (fates_from t level since (map frame_of xs)) xs ≡ passed_after frame_of t (passed_frames t fs) xs
  chosen_from fs since level [] is order = refl
  chosen_from fs since level (x ∷ xs) is order =
      let f = frame_of x in
      let now = credited_level t level (f.stamp - since) in
      let passed = passed_frames t fs in
      let later = none_later since f.stamp fs order.0 is.latest in
      let at_now = step_level fs since level f is order.0 in
      let joins = decides t fs f later ∙ ap (λ n. nat_le (t.price f.size) n) at_now in
      elim (cases_Bool (nat_le (t.price f.size) now)) [
        | inl was ↦
            let joined = next t fs f ∙ ap (λ b. cond b (passed ++ f ∷ []) passed) (joins ∙ was) in
            let after : IsLevelAfter t f.stamp (now - t.price f.size) (fs ++ f ∷ []) = record {
              latest = later_push f.stamp fs f (omega arith) later;
              level_is = ap (λ n. n - t.price f.size) (sym at_now) ∙ sym (debited t passed f) ∙ ap (λ gs. headroom t gs f.stamp) (sym joined);
            } in
            rw (was, joins ∙ was)
            (ap (λ (rs : List Record). x ∷ rs) (chosen_from (fs ++ f ∷ []) f.stamp (now - t.price f.size) xs after order.1 ∙ ap (λ gs. passed_after frame_of t gs xs) joined))
        | inr not ↦
            let joined = next t fs f ∙ ap (λ b. cond b (passed ++ f ∷ []) passed) (joins ∙ not) in
            let after : IsLevelAfter t f.stamp now (fs ++ f ∷ []) = record {
              latest = later_push f.stamp fs f (omega arith) later;
              level_is = sym at_now ∙ ap (λ gs. headroom t gs f.stamp) (sym joined);
            } in
            rw (not, joins ∙ not) (chosen_from (fs ++ f ∷ []) f.stamp now xs after order.1 ∙ ap (λ gs. passed_after frame_of t gs xs) joined)
      ]

  chosen_passed : (xs : List Record) → InOrder 0 (map frame_of xs) → chosen (fates_from t t.cap 0 (map frame_of xs)) xs ≡ passed_of frame_of t xs
  chosen_passed xs order = chosen_from [] 0 t.cap xs (record { latest = tt; level_is = refl }) order

-- ---- a link's own frames cost no more than a full account has

price_fits : (police : Police) (max_size : ℕ) (bag : Bag) (jitter size : ℕ) → size ≤ max_size
    → (terms_by police max_size bag jitter).price size ≤ (terms_by police max_size bag jitter).cap
price_fits Byte max_size bag jitter size le = mul-le size (bag_ns bag) max_size (bag_ns bag + jitter) le (omega arith)
price_fits ByFrames max_size bag jitter size le = omega arith

pub is_clean : (id : ℕ) (v : Verdict) → says_clean id v ≡ true → v ≡ Clean id
is_clean id (Clean j) says = ap (λ n. Clean n) (sym (eqb-true id j says))
is_clean id Cut says = absurd cc
is_clean id Short says = absurd cc
is_clean id Long says = absurd cc
is_clean id Foreign says = absurd cc
is_clean id NoLink says = absurd cc
is_clean id WrongPort says = absurd cc
is_clean id TooBig says = absurd cc

module _ (clean : CleanFramesHaveALink) (found : LinksAreFound) (t : Content) (formed : IsWellFormed t) (l : Link) (there : Contains t.links l) where
  one_fits : (r : Record) → says_clean l.id (verdict_of t l.from r) ≡ true → (terms_of l).price (frame_of r).size ≤ (terms_of l).cap
  one_fits r says =
      let has = clean t l.from r l.id (is_clean l.id (verdict_of t l.from r) says) in
      let same = same_Some has.link l (sym has.is_link ∙ found.found t formed l there) in
      price_fits l.police l.max_size l.bag l.jitter (size_of (length r.bytes)) (subst (λ (k : Link). size_of (length r.bytes) ≤ k.max_size) same has.size_most)

  pub all_fit : (rs : List Record) → AllFit (terms_of l) (map frame_of (filter (λ r. says_clean l.id (verdict_of t l.from r)) rs))
  all_fit [] = tt
  all_fit (r ∷ rs) = elim (cases_Bool (says_clean l.id (verdict_of t l.from r))) [
    | inl says ↦ rw says (one_fits r says, all_fit rs)
    | inr not ↦ rw not (all_fit rs)
  ]

-- ---- a port to which a link leads has a bound for it

abbrev as_one : Bool → ℕ
as_one b = cond b 1 0

count_more : (q : Link → Bool) (x : Link) (xs : List Link) → count_by q xs ≤ count_by q (x ∷ xs)
count_more q x xs = let sum = sum_by-cons (λ (y : Link). cond (q y) 1 0) x xs in omega (arith, sum)

count_one : (q : Link → Bool) (x : Link) (xs : List Link) → q x ≡ true → 0 < count_by q (x ∷ xs)
count_one q x xs counts =
    let sum = sum_by-cons (λ (y : Link). as_one (q y)) x xs in
    let one = ap as_one counts in
    omega (arith, sum, one)

abbrev Counts : (p q : Link → Bool) → List Link → Link → Type 0
Counts p q xs x = p x ≡ true → q x ≡ true → 0 < count_by q (filter p xs)

counts_more : (p q : Link → Bool) (xs ys : List Link) → count_by q (filter p xs) ≤ count_by q (filter p ys) → (zs : List Link) → AllByRecursion (Counts p q xs) zs
    → AllByRecursion (Counts p q ys) zs
counts_more p q xs ys le [] all = tt
counts_more p q xs ys le (z ∷ zs) all = (λ kept also. let lt = all.0 kept also in omega (arith, le, lt), counts_more p q xs ys le zs all.1)

filter_more : (p q : Link → Bool) (x : Link) (xs : List Link) → count_by q (filter p xs) ≤ count_by q (filter p (x ∷ xs))
filter_more p q x xs = elim (p x) as (λ b. count_by q (filter p xs) ≤ count_by q (cond b (x ∷ filter p xs) (filter p xs))) [
  | true ↦ count_more q x (filter p xs)
  | false ↦ omega arith
]

all_count : (p q : Link → Bool) (xs : List Link) → AllByRecursion (Counts p q xs) xs
all_count p q [] = tt
all_count p q (x ∷ xs) = (
  λ kept also. subst (λ b. 0 < count_by q (cond b (x ∷ filter p xs) (filter p xs))) (sym kept) (count_one q x (filter p xs) also),
  counts_more p q xs (x ∷ xs) (filter_more p q x xs) xs (all_count p q xs),
)

counted : (p q : Link → Bool) (xs : List Link) (x : Link) → Contains xs x → p x ≡ true → q x ≡ true → 0 < count_by q (filter p xs)
counted p q xs x there = All-contains (Counts p q xs) xs x (All-from_recursion (Counts p q xs) xs (all_count p q xs)) there

highs_are : (latency port : ℕ) (p : PortRow) (links : List Link) → (load_of latency p.speed port links).highs ≡ count_by is_high_link (routed port links)
unfolding links_load
highs_are latency port p links = refl

lows_are : (latency port : ℕ) (p : PortRow) (links : List Link) → (load_of latency p.speed port links).lows ≡ count_by is_low_link (routed port links)
unfolding links_load
lows_are latency port p links = refl

abbrev HasBound : Load → Priority → Type 0
HasBound load priority = (bound : ℕ) × (bound_of load priority ≡ Some bound)

high_has : (load : Load) → 0 < load.highs → HasBound load High
high_has load some = ((load.high_burst + parts * load.low_largest) / parts + load.latency, rw (lt-ltb 0 load.highs some) refl)

low_has : (load : Load) → 0 < load.lows → load.high_rate < parts → HasBound load Low
low_has load some part = (load.burst / (parts - load.high_rate) + load.latency, rw (lt-ltb 0 load.lows some, lt-ltb load.high_rate parts part) refl)

abbrev KeepsBounds : Content → PortRow → Type 0
KeepsBounds t p =
    let load = load_of t.latency p.speed p.id t.links in (0 < load.highs → (load.high_burst + parts * load.low_largest) / parts + t.latency ≤ p.max_delay)
    × (0 < load.lows → (load.high_rate < parts) × (load.burst / (parts - load.high_rate) + t.latency ≤ p.max_delay))

module _ (bounds : AcceptedKeepsBounds) (t : Content) (formed : IsWellFormed t) (accepted : IsAccepted t) (p : PortRow) (at : Contains t.ports p) (l : Link) (there : Contains t.links l)
    (leads : leads_to p.id l ≡ true) where
  abbrev load : Load
  load = load_of t.latency p.speed p.id t.links

  bound_by : (priority : Priority) → l.priority ≡ priority → HasBound load priority
  bound_by High is =
      high_has load (subst (λ n. 0 < n) (sym (highs_are t.latency p.id p t.links)) (counted (leads_to p.id) is_high_link t.links l there leads (ap is_high is)))
  bound_by Low is =
      let some : 0 < load.lows = subst (λ n. 0 < n) (sym (lows_are t.latency p.id p t.links))
      (counted (leads_to p.id) is_low_link t.links l there leads (ap (λ (q : Priority). not (is_high q)) is)) in
      low_has load some ((All-contains (KeepsBounds t) t.ports p (bounds t formed accepted) at).1 some).0

  has_bound : HasBound load l.priority
  has_bound = bound_by l.priority refl

-- ---- what is exact

filter_all : {X : Type 0} (xs : List X) → filter (λ x. true) xs ≡ xs
filter_all [] = refl
filter_all {X = X} (x ∷ xs) = ap (λ (ys : List X). x ∷ ys) (filter_all xs)

none_before : (m : Limits) (rs : List Record) → m.before ≡ 0 → AllByRecursion (λ r. left_at m r < m.before) rs → rs ≡ []
none_before m [] zero all = refl
none_before m (r ∷ rs) zero all = let first = all.0 in let no : ⊥ = omega (arith, first, zero) in absurd no

none_after : (m : Limits) (rs : List Record) → AllByRecursion (MayCome m None) rs → rs ≡ []
none_after m [] all = refl
none_after m (r ∷ rs) all = absurd all.0

zip_map : (R S : Record → Record → Type 0) → ((a b : Record) → R a b → S a b) → (came left : List Record) → AllZip R came left → AllZip S came left
zip_map R S change [] [] all = tt
zip_map R S change [] (b ∷ left) all = absurd all
zip_map R S change (a ∷ came) [] all = absurd all
zip_map R S change (a ∷ came) (b ∷ left) all = (change a b all.0, zip_map R S change came left all.1)

module _ (nothing : NothingIsScattered) (t : Content) (p : PortRow) (l : Link) (bound : ℕ) where
  abbrev limits : Limits
  limits = limits_of (exactly t) bound p.speed

  unscattered : bound_at (exactly t) t p l ≡ bound_of (load_of t.latency p.speed p.id t.links) l.priority
  unscattered = ap (λ (load : Load). bound_of load l.priority) (nothing.0 (load_of t.latency p.speed p.id t.links))

  in_bound : bound_at (exactly t) t p l ≡ Some bound → (came left : Record) → IsWithinLimits limits came left → IsInBound t p l came left
  in_bound is came left within =
      let least = within.least in
      let most = within.most in
      record { bound = bound; bound_is = sym unscattered ∙ is; least = omega (arith, least); most = omega (arith, most) }

  within_limits : bound_at (exactly t) t p l ≡ Some bound → (came left : Record) → IsInBound t p l came left → IsWithinLimits limits came left
  within_limits is came left inside =
      let same = same_Some inside.bound bound (sym inside.bound_is ∙ sym unscattered ∙ is) in
      let least = inside.least in
      let most = inside.most in
      record { least = omega (arith, least); most = omega (arith, most, same) }

-- ---- both ways

module _ (next : NextFrameJoinsWhereItConforms) (credited : HeadroomIsCredited) (decides : HeadroomDecides) (debited : HeadroomIsDebited) (clean : CleanFramesHaveALink)
    (found : LinksAreFound) (rest : AtRestIsTheAccount) (bounds : AcceptedKeepsBounds) (nothing : NothingIsScattered) (t : Content) (read : List Capture) (out : PortRow → List Record)
    (formed : IsWellFormed t) (accepted : IsAccepted t) (ordered : ComeInOrder t read) where
  own_is : (l : Link) → own_within (exactly t) t l read ≡ own_records t l read
  own_is l = filter_all (own_records t l read)

  out_is : (p : PortRow) → recorded (exactly t) (out p) ≡ out p
  out_is p = filter_all (out p)

  abbrev own_frames : Link → List Frame
  own_frames l = map frame_of (own_records t l read)

  abbrev own_fates : Link → List Bool
  own_fates l = fates_from (terms_of l) (terms_of l).cap 0 (own_frames l)

  fates_are : (l : Link) → Contains t.links l → (fates : List Bool) → Allowed (terms_of l) 0 (at_rest (terms_of l) 0) (own_frames l) fates ↔ (fates ≡ own_fates l)
  fates_are l there fates = rest (terms_of l) (own_frames l) fates (all_fit clean found t formed l there (records_of read l.from))

  passed_are : (l : Link) → Contains t.links l → chosen (own_fates l) (own_records t l read) ≡ passed_records l (own_records t l read)
  passed_are l there = chosen_passed next credited decides debited (terms_of l) (own_records t l read) (ordered l there)

  module _ (kept : IsKeptWithin (exactly t) t t.ports read out) (p : PortRow) (at : Contains t.ports p) where
    chosen_are : (l : Link) → Contains t.links l → chosen (kept.fates l) (own_within (exactly t) t l read) ≡ passed_records l (own_records t l read)
    chosen_are l there =
        let allowed = subst (λ (own : List Record). Allowed (terms_of l) 0 (at_rest (terms_of l) 0) (map frame_of own) (kept.fates l)) (own_is l) (kept.are_allowed l there) in
        ap (λ (own : List Record). chosen (kept.fates l) own) (own_is l)
        ∙ ap (λ (fates : List Bool). chosen fates (own_records t l read)) ((fates_are l there (kept.fates l)).0 allowed)
        ∙ passed_are l there

    module _ (l : Link) (there : Contains t.links l) (leads : leads_to p.id l ≡ true) where
      here : IsKeptAt (exactly t) t read p (out p) l (kept.fates l)
      here = kept.kept p at l there leads

      gone_are : here.2.gone ≡ passed_records l (own_records t l read)
      gone_are =
          sym (here.2.passed_is ∙ ap (λ (rs : List Record). here.2.gone ++ rs) (none_after (limits_of (exactly t) here.0 p.speed) here.2.after here.2.to_come) ∙ append-nil here.2.gone)
          ∙ chosen_are l there

      seen_are : here.2.seen ≡ records_for l (out p)
      seen_are =
          sym (here.2.out_is ∙ ap (λ (rs : List Record). rs ++ here.2.seen) (none_before (limits_of (exactly t) here.0 p.speed) here.2.before refl here.2.from_before))
          ∙ ap (λ (rs : List Record). records_for l rs) (out_is p)

      same_bytes : bytes_of (records_for l (out p)) ≡ bytes_of (passed_records l (own_records t l read))
      same_bytes = ap bytes_of (sym seen_are) ∙ here.2.same_bytes ∙ ap bytes_of gone_are

      all_in_bound : AllZip (IsInBound t p l) (passed_records l (own_records t l read)) (records_for l (out p))
      all_in_bound =
          subst (λ (rs : List Record). AllZip (IsInBound t p l) rs (records_for l (out p))) gone_are
          (subst (λ (rs : List Record). AllZip (IsInBound t p l) here.2.gone rs) seen_are
          (zip_map _ _ (in_bound nothing t p l here.0 here.1) here.2.gone here.2.seen here.2.in_bound))

    isolated_at : IsIsolatedAt t read p (out p)
    isolated_at = record {
      passed = λ l there leads. same_bytes l there leads;
      none_else = λ l there leads. ap (λ (rs : List Record). records_for l rs) (sym (out_is p)) ∙ kept.none_else p at l there leads;
      of_links = subst (All (λ r. (l : Link) × Contains t.links l × (link_of r.bytes ≡ l.id))) (out_is p) (kept.of_links p at);
      in_bound = λ l there leads. all_in_bound l there leads;
    }

  module _ (isolated : (p : PortRow) → Contains t.ports p → IsIsolatedAt t read p (out p)) where
    module _ (p : PortRow) (at : Contains t.ports p) (l : Link) (there : Contains t.links l) (leads : leads_to p.id l ≡ true) where
      bound_there : (bound : ℕ) × (bound_of (load_of t.latency p.speed p.id t.links) l.priority ≡ Some bound)
      bound_there = has_bound bounds t formed accepted p at l there leads

      bound_is : bound_at (exactly t) t p l ≡ Some bound_there.0
      bound_is = unscattered nothing t p l bound_there.0 ∙ bound_there.1

      of_own : IsKeptFor (limits_of (exactly t) bound_there.0 p.speed) None (own_records t l read) (passed_records l (own_records t l read)) (records_for l (out p))
      of_own = record {
        before = [];
        seen = records_for l (out p);
        gone = passed_records l (own_records t l read);
        after = [];
        out_is = refl;
        passed_is = sym (append-nil (passed_records l (own_records t l read)));
        same_bytes = (isolated p at).passed l there leads;
        in_bound = zip_map _ _ (within_limits nothing t p l bound_there.0 bound_is) (passed_records l (own_records t l read)) (records_for l (out p)) ((isolated p at).in_bound l there leads);
        from_before = tt;
        of_none = tt;
        to_come = tt;
      }

      kept_at : IsKeptAt (exactly t) t read p (out p) l (own_fates l)
      kept_at = (
        bound_there.0,
        bound_is,
        subst (λ (own : List Record). IsKeptFor (limits_of (exactly t) bound_there.0 p.speed) None own (chosen (own_fates l) own) (records_for l (recorded (exactly t) (out p)))) (sym (own_is l))
            (subst (λ (rs : List Record). IsKeptFor (limits_of (exactly t) bound_there.0 p.speed) None (own_records t l read) (chosen (own_fates l) (own_records t l read)) (records_for l rs))
            (sym (out_is p))
            (subst (λ (rs : List Record). IsKeptFor (limits_of (exactly t) bound_there.0 p.speed) None (own_records t l read) rs (records_for l (out p))) (sym (passed_are l there)) of_own)),
      )

    kept_within : IsKeptWithin (exactly t) t t.ports read out
    kept_within = record {
      fates = own_fates;
      are_allowed = λ l there.
          subst (λ (own : List Record). Allowed (terms_of l) 0 (at_rest (terms_of l) 0) (map frame_of own) (own_fates l)) (sym (own_is l)) ((fates_are l there (own_fates l)).1 refl);
      kept = λ p at l there leads. kept_at p at l there leads;
      none_else = λ p at l there leads. ap (λ (rs : List Record). records_for l rs) (out_is p) ∙ (isolated p at).none_else l there leads;
      of_links = λ p at. subst (All (λ r. (l : Link) × Contains t.links l × (link_of r.bytes ≡ l.id))) (sym (out_is p)) (isolated p at).of_links;
    }

pub exactly_is_isolated : NextFrameJoinsWhereItConforms → HeadroomIsCredited → HeadroomDecides → HeadroomIsDebited → CleanFramesHaveALink → LinksAreFound → AtRestIsTheAccount → AcceptedKeepsBounds
    → NothingIsScattered → ExactlyIsIsolated
exactly_is_isolated next credited decides debited clean found rest bounds nothing t read out formed accepted ordered = (
  λ kept p at. isolated_at next credited decides debited clean found rest bounds nothing t read out formed accepted ordered kept p at,
  λ isolated. kept_within next credited decides debited clean found rest bounds nothing t read out formed accepted ordered isolated,
)
