-- What recordings keep to, they keep to where less is known of the switch and of the recorders.
use Rattle.std.proofs.Common.{◌≡◌, ℕ, ◌+◌, ◌-◌, ◌*◌, ◌/◌, ◌<◌, ◌≤◌, nat_lt, cond, Bool, true, false, List, [], ◌∷◌, map, Option, Some, None, refl, sym, subst, ◌∙◌, arith}
use Rattle.std.specs.Prelude.{◌&&◌, nat_le, Contains}
use Rattle.std.specs.List.{AllByRecursion, AllZip}
use Rattle.std.specs.Str.{bytes_eq}
use Rattle.std.proofs.ByRecursion.{kept_by_passes}
use Rattle.std.proofs.Math.Nat.{mul-le-mul_left}
use Rattle.std.proofs.lemmas.Bool.{and_parts, and_from, false_from_ne_true, false≢true, leb-true, le-leb, ltb-true}
use Rattle.std.proofs.lemmas.Option.{same_Some}
use Rattle.afdx_units.specs.declared.line.Priority.{Priority}
use Rattle.afdx_units.specs.declared.line.Priority.TheVariants.{High, Low}
use Rattle.afdx_units.specs.declared.line.Speed.{Speed}
use Rattle.afdx_pcap.specs.Record.{Record}
use Rattle.afdx_account.specs.declared.frame.Frame.{Frame}
use Rattle.afdx_account.specs.Policing.{parts}
use Rattle.afdx_table.specs.declared.rows.PortRow.{PortRow}
use Rattle.afdx_table.specs.Link.{Link}
use Rattle.afdx_table.specs.Content.{Content}
use Rattle.afdx_table.specs.WellFormed.{IsWellFormed}
use Rattle.afdx_table.specs.Inner.Found.{LinksAreFound}
use Rattle.afdx_filter.specs.Frame.{frame_of}
use Rattle.afdx_filter.specs.Inner.Clean.{CleanFramesHaveALink}
use Rattle.afdx_load.specs.Load.{Load, load_of, terms_of}
use Rattle.afdx_isolation.specs.Table.{bound_of}
use Rattle.afdx_grouping.specs.Scatter.{scattered}
use Rattle.afdx_grouping.proofs.Scatter.{quotient_less}
use Rattle.afdx_levels.specs.Levels.{at_rest, Allowed}
use Rattle.afdx_levels.specs.Inner.Laws.{chosen, AtRestIsTheAccount, IsNear, NoiseIsAllowedAtRest}
use Rattle.afdx_pairing.specs.declared.limits.Limits.{Limits}
use Rattle.afdx_pairing.specs.Limits.{left_at, most_of, came_within}
use Rattle.afdx_pairing.specs.Kept.{IsInBound, Apart, MayCome, IsKeptFor}
use Rattle.afdx_following.specs.declared.watch.Watch.{Watch}
use Rattle.afdx_following.specs.declared.watch.Start.{Start}
use Rattle.afdx_following.specs.declared.watch.Start.TheVariants.{Rest, Cut}
use Rattle.afdx_following.specs.Watch.{has_begun, has_not_ended, has_frame, before_of, limits_of}
use Rattle.afdx_core.specs.Merge.{Capture}
use Rattle.afdx_session.specs.Headline.{own_records, records_for}
use Rattle.afdx_compare.specs.Within.{own_within, recorded, last_at, IsKeptWithin}
use Rattle.afdx_compare.specs.Inner.Laws.{ComeInOrder}
use Rattle.afdx_compare.proofs.OwnRuns.{order_filter}
use Rattle.afdx_compare_laws.specs.Less.{varying, off_by, LessLatencyIsKeptToo, MoreToleranceIsKeptToo}
use Rattle.afdx_compare_laws.proofs.Fitting.{own_fit}
use Rattle.afdx_compare_laws.proofs.Narrowing.{all_map}

-- ---- bounds of latencies that differ by more

quotient_wider : (test : Bool) (m n k latency bound : ℕ) → m ≤ n → (test ≡ true → 0 < k) → cond test (Some (m / k + latency)) None ≡ Some bound
    → (wide : ℕ) × (cond test (Some (n / k + latency)) None ≡ Some wide) × (bound ≤ wide)
quotient_wider true m n k latency bound le some is =
    let same : m / k + latency ≡ bound = same_Some (m / k + latency) bound is in
    let quotient = quotient_less m n k le (some refl) in
    (n / k + latency, refl, omega (arith, same, quotient))
quotient_wider false m n k latency bound le some is = absurd (let never = is in cc)

leaves : (some : Bool) (rate : ℕ) → (some && nat_lt rate parts) ≡ true → 0 < parts - rate
leaves some rate is = let less = ltb-true rate parts (and_parts some (nat_lt rate parts) is).1 in omega (arith, less)

pub wider : (d e : ℕ) → d ≤ e → (load : Load) (priority : Priority) (bound : ℕ) → bound_of (scattered d load) priority ≡ Some bound
    → (wide : ℕ) × (bound_of (scattered e load) priority ≡ Some wide) × (bound ≤ wide)
wider d e le load High bound is =
    let step = mul-le-mul_left load.high_rate le in
    quotient_wider (nat_lt 0 load.highs) (load.high_burst + load.high_rate * d + parts * load.low_largest) (load.high_burst + load.high_rate * e + parts * load.low_largest) parts load.latency bound
    (omega (arith, step)) (λ _. omega arith) is
wider d e le load Low bound is =
    let step = mul-le-mul_left load.rate le in
    quotient_wider (nat_lt 0 load.lows && nat_lt load.high_rate parts) (load.burst + load.rate * d) (load.burst + load.rate * e) (parts - load.high_rate) load.latency bound
    (omega (arith, step)) (leaves (nat_lt 0 load.lows) load.high_rate) is

-- ---- a port of a link where latencies are less, and the bound is more

abbrev HaveBegun : Watch → List Record → Type 0
HaveBegun w own = AllByRecursion (λ f. has_begun w.start w.tolerance f.stamp ≡ true) own

module _ (w : Watch) (speed : Speed) (least scatter bound wide : ℕ) (sooner : least ≤ w.least) (later : bound ≤ wide) where
  abbrev narrow : Limits
  narrow = limits_of w bound speed

  abbrev loose : Limits
  loose = limits_of (varying least scatter w) wide speed

  in_loose : (gone seen : List Record) → AllZip (IsInBound narrow) gone seen → AllZip (IsInBound loose) gone seen
  in_loose [] [] zip = tt
  in_loose [] (r ∷ seen) zip = absurd zip
  in_loose (c ∷ gone) [] zip = absurd zip
  in_loose (c ∷ gone) (r ∷ seen) zip =
      let first = zip.0.least in
      let last = zip.0.most in
      (record { least = omega (arith, first, sooner); most = omega (arith, last, later) }, in_loose gone seen zip.1)

  before_later : (s : Start) (tolerance at : ℕ) → at < before_of s tolerance bound → at < before_of s tolerance wide
  before_later Rest tolerance at lt = lt
  before_later (Cut from) tolerance at lt = omega (arith, lt, later)

  -- a record at the beginning left within the bound of each frame that counts and came before it
  within_twice : (s : Start) (tolerance at stamp : ℕ) → has_begun s tolerance stamp ≡ true → at < before_of s tolerance bound → at ≤ stamp + 2 * (bound + tolerance)
  within_twice Rest tolerance at stamp begun lt = let never : ⊥ = omega (arith, lt) in absurd never
  within_twice (Cut from) tolerance at stamp begun lt = let first = leb-true (from + tolerance) stamp begun in omega (arith, first, lt)

  -- so it has the bytes of none of these, however far apart they are asked to be
  one_apart : (f r : Record) → has_begun w.start w.tolerance f.stamp ≡ true → left_at narrow r < narrow.before → came_within narrow 2 f r ≡ false → came_within loose 2 f r ≡ false
  one_apart f r begun first apart = false_from_ne_true (came_within loose 2 f r) (λ is.
      let same = (and_parts (bytes_eq f.bytes r.bytes && nat_lt f.stamp (left_at narrow r)) (nat_le (left_at narrow r) (f.stamp + 2 * most_of loose)) is).0 in
      let twice = within_twice w.start w.tolerance (left_at narrow r) f.stamp begun first in
      false≢true (sym apart ∙ and_from (bytes_eq f.bytes r.bytes && nat_lt f.stamp (left_at narrow r)) (nat_le (left_at narrow r) (f.stamp + 2 * most_of narrow)) same
      (le-leb (left_at narrow r) (f.stamp + 2 * most_of narrow) twice)))

  all_apart : (r : Record) → left_at narrow r < narrow.before → (own : List Record) → HaveBegun w own → Apart narrow own r → Apart loose own r
  all_apart r first [] begun apart = tt
  all_apart r first (f ∷ own) begun apart = (one_apart f r begun.0 first apart.0, all_apart r first own begun.1 apart.1)

  of_none_too : (own : List Record) → HaveBegun w own → (rs : List Record) → AllByRecursion (λ r. left_at narrow r < narrow.before) rs → AllByRecursion (Apart narrow own) rs
      → AllByRecursion (Apart loose own) rs
  of_none_too own begun [] first apart = tt
  of_none_too own begun (r ∷ rs) first apart = (all_apart r first.0 own begun apart.0, of_none_too own begun rs first.1 apart.1)

  may_come : (last : Option ℕ) (f : Record) → MayCome narrow last f → MayCome loose last f
  may_come None f may = may
  may_come (Some last) f may = omega (arith, may, later)

  kept_loose : (last : Option ℕ) (own passed out : List Record) → HaveBegun w own → IsKeptFor narrow last own passed out → IsKeptFor loose last own passed out
  kept_loose last own passed out begun k = record {
    before = k.before;
    seen = k.seen;
    gone = k.gone;
    after = k.after;
    out_is = k.out_is;
    passed_is = k.passed_is;
    same_bytes = k.same_bytes;
    in_bound = in_loose k.gone k.seen k.in_bound;
    from_before = all_map (λ (r : Record). left_at narrow r < narrow.before) (λ r. left_at narrow r < loose.before)
        (λ r first. before_later w.start w.tolerance (left_at narrow r) first) k.before k.from_before;
    of_none = of_none_too own begun k.before k.from_before k.of_none;
    to_come = all_map (MayCome narrow last) (MayCome loose last) (may_come last) k.after k.to_come;
  }

own_begun : (w : Watch) (t : Content) (l : Link) (read : List Capture) → HaveBegun w (own_within w t l read)
own_begun w t l read =
    all_map (λ (f : Record). has_frame w f.stamp ≡ true) (λ f. has_begun w.start w.tolerance f.stamp ≡ true)
    (λ f is. (and_parts (has_begun w.start w.tolerance f.stamp) (has_not_ended w.until f.stamp) is).0) (own_within w t l read) (kept_by_passes (λ r. has_frame w r.stamp) (own_records t l read))

pub less_latency_is_kept_too : LessLatencyIsKeptToo
less_latency_is_kept_too w least scatter t ports read out sooner more kept = record {
  fates = kept.fates;
  are_allowed = kept.are_allowed;
  kept = λ p at l there leads.
      let was = kept.kept p at l there leads in
      let own = own_within w t l read in
      let bound = wider w.scatter scatter more (load_of t.latency p.speed p.id t.links) l.priority was.0 was.1 in (
        bound.0,
        bound.1,
        kept_loose w p.speed least scatter was.0 bound.0 sooner bound.2 (last_at w p) own (chosen (kept.fates l) own) (records_for l (recorded w (out p))) (own_begun w t l read) was.2,
      );
  none_else = kept.none_else;
  of_links = kept.of_links;
}

-- ---- stamps that are off

all_near : (tolerance : ℕ) (fs : List Frame) → AllZip (IsNear tolerance) fs fs
all_near tolerance [] = tt
all_near tolerance (f ∷ fs) = (record { size = refl; late = omega arith; early = omega arith }, all_near tolerance fs)

-- at rest nothing left before
pub none_before : (P : Record → Type 0) (m : Limits) (rs : List Record) → m.before ≡ 0 → AllByRecursion (λ r. left_at m r < m.before) rs → AllByRecursion P rs
none_before P m [] none first = tt
none_before P m (r ∷ rs) none first = let lt = first.0 in let never : ⊥ = omega (arith, lt, none) in absurd never

module _ (w : Watch) (tolerance : ℕ) where
  abbrev exact : Watch
  exact = record w { start = Rest; tolerance = 0; until = None }

  abbrev off : Watch
  off = record w { start = Rest; tolerance = tolerance; until = None }

  module _ (speed : Speed) (bound : ℕ) where
    in_off : (gone seen : List Record) → AllZip (IsInBound (limits_of exact bound speed)) gone seen → AllZip (IsInBound (limits_of off bound speed)) gone seen
    in_off [] [] zip = tt
    in_off [] (r ∷ seen) zip = absurd zip
    in_off (c ∷ gone) [] zip = absurd zip
    in_off (c ∷ gone) (r ∷ seen) zip =
        let first = zip.0.least in
        let last = zip.0.most in
        (record { least = omega (arith, first); most = omega (arith, last) }, in_off gone seen zip.1)

    kept_off : (own passed out : List Record) → IsKeptFor (limits_of exact bound speed) None own passed out → IsKeptFor (limits_of off bound speed) None own passed out
    kept_off own passed out k = record {
      before = k.before;
      seen = k.seen;
      gone = k.gone;
      after = k.after;
      out_is = k.out_is;
      passed_is = k.passed_is;
      same_bytes = k.same_bytes;
      in_bound = in_off k.gone k.seen k.in_bound;
      from_before = k.from_before;
      of_none = none_before (Apart (limits_of off bound speed) own) (limits_of exact bound speed) k.before refl k.from_before;
      to_come = all_map (MayCome (limits_of exact bound speed) None) (MayCome (limits_of off bound speed) None) (λ f may. may) k.after k.to_come;
    }

  module _ (account : AtRestIsTheAccount) (noise : NoiseIsAllowedAtRest) (clean : CleanFramesHaveALink) (found : LinksAreFound) (t : Content) (read : List Capture) (formed : IsWellFormed t)
      (ordered : ComeInOrder t read) where
    allowed : (l : Link) → Contains t.links l → (fates : List Bool) → Allowed (terms_of l) 0 (at_rest (terms_of l) 0) (map frame_of (own_within exact t l read)) fates
        → Allowed (terms_of l) tolerance (at_rest (terms_of l) tolerance) (map frame_of (own_within exact t l read)) fates
    allowed l there fates may =
        let frames = map frame_of (own_within exact t l read) in
        let fit = own_fit clean found t formed l there exact read in
        let order = order_filter (λ r. has_frame exact r.stamp) 0 (own_records t l read) (ordered l there) in
        subst (λ (bs : List Bool). Allowed (terms_of l) tolerance (at_rest (terms_of l) tolerance) frames bs) (sym ((account (terms_of l) frames fates fit).0 may))
        (noise (terms_of l) tolerance frames frames order order fit (all_near tolerance frames))

    all_off : (ports : List PortRow) (out : PortRow → List Record) → IsKeptWithin exact t ports read out → IsKeptWithin off t ports read out
    all_off ports out kept = record {
      fates = kept.fates;
      are_allowed = λ l there. allowed l there (kept.fates l) (kept.are_allowed l there);
      kept = λ p at l there leads.
          let was = kept.kept p at l there leads in
          let own = own_within exact t l read in
          (was.0, was.1, kept_off p.speed was.0 own (chosen (kept.fates l) own) (records_for l (recorded exact (out p))) was.2);
      none_else = kept.none_else;
      of_links = kept.of_links;
    }

pub more_tolerance_is_kept_too : AtRestIsTheAccount → NoiseIsAllowedAtRest → CleanFramesHaveALink → LinksAreFound → MoreToleranceIsKeptToo
more_tolerance_is_kept_too account noise clean found w tolerance t ports read out formed ordered exact ends kept =
    let was : w ≡ record w { start = Rest; tolerance = 0; until = None } = λ i. record w { start = exact.rest i; tolerance = exact.exact i; until = ends i } in
    let now : off_by tolerance w ≡ record w { start = Rest; tolerance = tolerance; until = None } = λ i. record w { start = exact.rest i; tolerance = tolerance; until = ends i } in
    subst (λ (x : Watch). IsKeptWithin x t ports read out) (sym now)
    (all_off w tolerance account noise clean found t read formed ordered ports out (subst (λ (x : Watch). IsKeptWithin x t ports read out) was kept))
