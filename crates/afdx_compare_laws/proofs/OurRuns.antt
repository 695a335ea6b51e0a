-- What a run of our own switch answers is said to conform.
use Rattle.std.proofs.Common.{◌≡◌, ℕ, zero, suc, ◌+◌, ◌-◌, ◌*◌, ◌<◌, ◌≤◌, min, cond, Bool, true, false, List, [], ◌∷◌, ◌++◌, map, filter, length}
use Rattle.std.proofs.Common.{Option, Some, None, refl, sym, ap, subst, ◌∙◌, arith, inl, inr}
use Rattle.std.specs.Prelude.{◌⊎◌, ◌==◌, if◌then◌else◌, slice_get, Contains, All, ℤ, option_map}
use Rattle.std.specs.List.{AllByRecursion}
use Rattle.std.specs.Option.{option_map_or}
use Rattle.std.proofs.lemmas.Bool.{cases_Bool, le-leb, eq-eqb}
use Rattle.std.proofs.lemmas.List.{length-map}
use Rattle.std.proofs.lemmas.List.Elements.{recursion_from_All}
use Rattle.std.proofs.lemmas.Option.{slice_get-map, same_Some}
use Rattle.afdx_units.specs.declared.line.Speed.{Speed}
use Rattle.afdx_units.specs.declared.line.Speed.TheVariants.{Ten, Hundred, Thousand}
use Rattle.afdx_units.specs.Line.{least_size, size_of, cost_of}
use Rattle.afdx_units.specs.Time.{last_instant}
use Rattle.afdx_pcap.specs.Record.{Record}
use Rattle.afdx_frame.specs.Address.{constant_of, link_of}
use Rattle.afdx_table.specs.declared.rows.PortRow.{PortRow}
use Rattle.afdx_table.specs.Link.{Link, names_port, leads_to}
use Rattle.afdx_table.specs.Content.{Content, port_row}
use Rattle.afdx_table.specs.WellFormed.{IsWellFormed}
use Rattle.afdx_filter.specs.Inner.Clean.{CleanFramesHaveALink}
use Rattle.afdx_filter.specs.Inner.Exactly.{CleanExactly}
use Rattle.afdx_filter.specs.Verdict.{verdict_of}
use Rattle.afdx_filter.specs.Frame.{frame_of}
use Rattle.afdx_load.specs.Load.{load_of, terms_of}
use Rattle.afdx_load.specs.Inner.Laws.{HighLinksLeaveAPart}
use Rattle.afdx_load.specs.Accepted.{IsAccepted}
use Rattle.afdx_grouping.specs.Scatter.{IsAcceptedWith, NothingIsScattered, LessScatterIsAccepted}
use Rattle.afdx_levels.specs.Levels.{Allowed}
use Rattle.afdx_levels.specs.Inner.Laws.{chosen}
use Rattle.afdx_pairing.specs.declared.limits.Limits.{Limits}
use Rattle.afdx_pairing.specs.Limits.{most_of}
use Rattle.afdx_pairing.specs.Kept.{MayCome, bytes_of, IsKeptFor}
use Rattle.afdx_following.specs.declared.watch.Watch.{Watch}
use Rattle.afdx_following.specs.declared.watch.Start.TheVariants.{Rest}
use Rattle.afdx_following.specs.Watch.{has_frame, has_record, limits_of}
use Rattle.afdx_following.specs.Output.{Output}
use Rattle.afdx_following.specs.Watched.{Watched}
use Rattle.afdx_following.specs.Followed.{with_notices}
use Rattle.afdx_core.specs.Merge.{Capture, records_of, merged}
use Rattle.afdx_core.specs.Rows.{says_clean}
use Rattle.afdx_session.specs.Headline.{own_records, records_for}
use Rattle.afdx_session.specs.Texts.{Text}
use Rattle.afdx_session.specs.Reading.{AreCaptures}
use Rattle.afdx_session.specs.Outcome.{Results, IsOutcome}
use Rattle.afdx_session.specs.Output.{output_of}
use Rattle.afdx_session.specs.Lined.{OutcomesIsolate}
use Rattle.afdx_merging.specs.declared.clock.Clock.{Clock}
use Rattle.afdx_merging.specs.Merge.{Arrival, moved, IsMergeOf}
use Rattle.afdx_recordings.specs.declared.recordings.Recordings.{Recordings}
use Rattle.afdx_recordings.specs.declared.stamps.Stamps.{Stamps}
use Rattle.afdx_recordings.specs.Recordings.{gap_of, is_recorded}
use Rattle.afdx_compare.specs.Comparison.{Comparison, watch_of, bound_in, outputs_first, start_of, IsBegun, with_until, with_end, conform}
use Rattle.afdx_compare.specs.Sources.{later_by, sooner_by, output_clock, sources_of}
use Rattle.afdx_compare.specs.Arrivals.{with_arrivals}
use Rattle.afdx_compare.specs.Within.{own_within, recorded, exactly, levels_of, IsKeptAt, IsKeptWithin}
use Rattle.afdx_compare.specs.Inner.Laws.{watch_within, recorded_ports, came_in, at_clock, left_out, ExactlyIsIsolated}
use Rattle.afdx_compare.specs.Inner.Told.{told}
use Rattle.afdx_compare.proofs.Beginning.{first_each}
use Rattle.afdx_compare.proofs.Bounding.{bounded}
use Rattle.afdx_session.proofs.Settling.{always}
use Rattle.afdx_compare.proofs.Captured.{get_right, left_at_port}
use Rattle.afdx_compare.proofs.Making.{row_number}
use Rattle.afdx_compare.proofs.Places.{all_at, item_contained}
use Rattle.afdx_compare.proofs.Ported.{HasLimits, all_have, names_all, all_lead}
use Rattle.afdx_compare.proofs.Telling.{links_are_told}
use Rattle.afdx_core.specs.Inner.Agreement.{VerdictsNameLinks}
use Rattle.afdx_core.specs.Inner.Merge.{ByStampIsOrdered}
use Rattle.afdx_port.specs.Inner.Work.{EndsWithinASecond}
use Rattle.afdx_session.proofs.Last.{delay_within}
use Rattle.afdx_compare_laws.specs.Less.{varying, off_by, LessLatencyIsKeptToo}
use Rattle.afdx_compare_laws.proofs.Less.{wider, none_before}
use Rattle.afdx_compare_laws.proofs.Instants.{captures_by}
use Rattle.afdx_compare_laws.specs.Fates.{AllDiffer}
use Rattle.afdx_compare_laws.specs.Fine.{LeavesLater}
use Rattle.afdx_compare_laws.specs.Spans.{cut, BeginsInTime, IsSpanOf, DifferWithinBounds}
use Rattle.afdx_compare_laws.specs.Comparing.{HasAddress, HaveAddresses, AreClear, KeptIsNotForeign, KeptIsConforms}
use Rattle.afdx_compare_laws.specs.Runs.{AreOurs, AreBy, AreApart, AreWhole, AreOfSpan, captures_of, OurAnswersAreKept, OurRunsConform}
use Rattle.afdx_compare_laws.proofs.Comparing.{filter_there, filter_of, find_in, all_from_each}
use Rattle.afdx_compare_laws.proofs.Fine.{first_is, rest_is}
use Rattle.afdx_compare.proofs.Exactly.{is_clean}
use Rattle.afdx_compare_laws.proofs.Foreign.{all_last, leads_there}
use Rattle.afdx_compare_laws.proofs.Narrowing.{all_map, all_first, all_both, all_chosen}
use Rattle.afdx_compare_laws.proofs.Runs.{come_in_order}
use Rattle.afdx_compare_laws.proofs.Told.{limits_in, notices_limits}
use Rattle.afdx_compare.proofs.Conforming.{contained_at}

-- ---- lists

filter_stays : (test : Record → Bool) (rs : List Record) → AllByRecursion (λ x. test x ≡ true) rs → filter test rs ≡ rs
filter_stays test [] all = refl
filter_stays test (r ∷ rs) all = ap (λ (b : Bool). cond b (r ∷ filter test rs) (filter test rs)) all.0 ∙ ap (λ (xs : List Record). r ∷ xs) (filter_stays test rs all.1)

all_filtered : (P : Record → Type 0) (test : Record → Bool) (rs : List Record) → AllByRecursion P rs → AllByRecursion P (filter test rs)
all_filtered P test [] all = tt
all_filtered P test (r ∷ rs) all = elim (test r) as (λ b. AllByRecursion P (cond b (r ∷ filter test rs) (filter test rs))) [
  | true ↦ (all.0, all_filtered P test rs all.1)
  | false ↦ all_filtered P test rs all.1
]

all_read : (P : Record → Type 0) (read : List Capture) → AllByRecursion (AllByRecursion P) (map (λ c. c.records) read) → (port : ℕ) → AllByRecursion P (records_of read port)
all_read P [] all port = tt
all_read P (c ∷ read) all port = elim (c.port == port) as (λ b. AllByRecursion P ((if b then c.records else []) ++ records_of read port)) [
  | true ↦ all_both P c.records (records_of read port) all.0 (all_read P read all.1 port)
  | false ↦ all_read P read all.1 port
]

-- ---- recordings that end when all has left

abbrev whole : Content → ℕ → Watch
whole t until = cut Rest (Some until) (exactly t)

none_after : (m : Limits) (last : ℕ) (fs : List Record) → AllByRecursion (MayCome m None) fs → AllByRecursion (MayCome m (Some last)) fs
none_after m last [] all = tt
none_after m last (f ∷ fs) all = absurd all.0

ended : (m : Limits) (last : ℕ) (own passed out : List Record) → IsKeptFor m None own passed out → IsKeptFor m (Some last) own passed out
ended m last own passed out k = record {
  before = k.before;
  seen = k.seen;
  gone = k.gone;
  after = k.after;
  out_is = k.out_is;
  passed_is = k.passed_is;
  same_bytes = k.same_bytes;
  in_bound = k.in_bound;
  from_before = k.from_before;
  of_none = k.of_none;
  to_come = none_after m last k.after k.to_come;
}

abbrev IsBy : ℕ → Record → Type 0
IsBy until x = x.stamp ≤ until

frames_stay : (t : Content) (until : ℕ) (rs : List Record) → AllByRecursion (IsBy until) rs → filter (λ x. has_frame (whole t until) x.stamp) rs ≡ filter (λ x. has_frame (exactly t) x.stamp) rs
frames_stay t until rs all =
    filter_stays (λ x. has_frame (whole t until) x.stamp) rs (all_map (IsBy until) (λ x. has_frame (whole t until) x.stamp ≡ true) (λ x le. le-leb x.stamp until le) rs all)
    ∙ sym (filter_stays (λ x. has_frame (exactly t) x.stamp) rs (all_map (IsBy until) (λ x. has_frame (exactly t) x.stamp ≡ true) (λ x le. refl) rs all))

records_stay : (t : Content) (until : ℕ) (rs : List Record) → AllByRecursion (IsBy until) rs → recorded (whole t until) rs ≡ recorded (exactly t) rs
records_stay t until rs all =
    filter_stays (λ x. has_record (whole t until) x.stamp) rs
    (all_map (IsBy until) (λ x. has_record (whole t until) x.stamp ≡ true) (λ x le. le-leb (x.stamp + 0) until (omega (arith, le))) rs all)
    ∙ sym (filter_stays (λ x. has_record (exactly t) x.stamp) rs (all_map (IsBy until) (λ x. has_record (exactly t) x.stamp ≡ true) (λ x le. refl) rs all))

module _ (t : Content) (until : ℕ) (ports : List PortRow) (read : List Capture) (out : PortRow → List Record) (came_by : (port : ℕ) → AllByRecursion (IsBy until) (records_of read port))
    (left_by : (p : PortRow) → Contains ports p → AllByRecursion (IsBy until) (out p)) (kept : IsKeptWithin (exactly t) t ports read out) where
  own_same : (l : Link) → own_within (exactly t) t l read ≡ own_within (whole t until) t l read
  own_same l = sym (frames_stay t until (own_records t l read) (all_filtered (IsBy until) (λ x. says_clean l.id (verdict_of t l.from x)) (records_of read l.from) (came_by l.from)))

  out_same : (p : PortRow) → Contains ports p → recorded (exactly t) (out p) ≡ recorded (whole t until) (out p)
  out_same p among = sym (records_stay t until (out p) (left_by p among))

  kept_there : (p : PortRow) → Contains ports p → (l : Link) → Contains t.links l → leads_to p.id l ≡ true → IsKeptAt (whole t until) t read p (out p) l (kept.fates l)
  kept_there p among l there leads =
      let was = kept.kept p among l there leads in
      let m = limits_of (exactly t) was.0 p.speed in (
        was.0,
        was.1,
        ended m _ (own_within (whole t until) t l read) (chosen (kept.fates l) (own_within (whole t until) t l read)) (records_for l (recorded (whole t until) (out p)))
            (subst (λ (rs : List Record). IsKeptFor m None (own_within (whole t until) t l read) (chosen (kept.fates l) (own_within (whole t until) t l read)) (records_for l rs))
            (out_same p among)
            (subst (λ (own : List Record). IsKeptFor m None own (chosen (kept.fates l) own) (records_for l (recorded (exactly t) (out p)))) (own_same l) was.2)),
      )

  whole_is_kept : IsKeptWithin (whole t until) t ports read out
  whole_is_kept = record {
    fates = kept.fates;
    are_allowed = λ l there. subst (λ (own : List Record). Allowed (terms_of l) 0 (levels_of (exactly t) l) (map frame_of own) (kept.fates l)) (own_same l) (kept.are_allowed l there);
    kept = λ p among l there leads. kept_there p among l there leads;
    none_else = λ p among l there leads. ap (λ (rs : List Record). records_for l rs) (sym (out_same p among)) ∙ kept.none_else p among l there leads;
    of_links = λ p among. subst (λ (rs : List Record). All (λ r. (l : Link) × Contains t.links l × (link_of r.bytes ≡ l.id)) rs) (out_same p among) (kept.of_links p among);
  }

-- ---- some of the ports

some_kept : (w : Watch) (t : Content) (ports some : List PortRow) (read : List Capture) (out others : PortRow → List Record)
    → ((p : PortRow) → Contains some p → Contains ports p) → ((p : PortRow) → Contains some p → out p ≡ others p) → IsKeptWithin w t ports read out → IsKeptWithin w t some read others
some_kept w t ports some read out others among same kept = record {
  fates = kept.fates;
  are_allowed = kept.are_allowed;
  kept = λ p at l there leads. subst (λ (rs : List Record). IsKeptAt w t read p rs l (kept.fates l)) (same p at) (kept.kept p (among p at) l there leads);
  none_else = λ p at l there leads. subst (λ (rs : List Record). records_for l (recorded w rs) ≡ []) (same p at) (kept.none_else p (among p at) l there leads);
  of_links = λ p at. subst (λ (rs : List Record). All (λ r. (l : Link) × Contains t.links l × (link_of r.bytes ≡ l.id)) (recorded w rs)) (same p at) (kept.of_links p (among p at));
}

-- ---- addresses

by_bytes : (t : Content) (xs ys : List Record) → bytes_of xs ≡ bytes_of ys → AllByRecursion (HasAddress t) ys → AllByRecursion (HasAddress t) xs
by_bytes t [] ys same all = tt
by_bytes t (x ∷ xs) [] same all = absurd (let never = same in cc)
by_bytes t (x ∷ xs) (y ∷ ys) same all = (
  subst (λ (b : List ℕ). (6 ≤ length b) × (constant_of b ≡ t.constant)) (sym (first_is x.bytes y.bytes (bytes_of xs) (bytes_of ys) same)) all.0,
  by_bytes t xs ys (rest_is x.bytes y.bytes (bytes_of xs) (bytes_of ys) same) all.1,
)

-- a clean frame has an address
clean_addressed : CleanExactly → (t : Content) (l : Link) (rs : List Record) → AllByRecursion (HasAddress t) (filter (λ x. says_clean l.id (verdict_of t l.from x)) rs)
clean_addressed clean t l [] = tt
clean_addressed clean t l (r ∷ rs) = elim (cases_Bool (says_clean l.id (verdict_of t l.from r))) [
  | inl says ↦ rw says (
      let of = ((clean t l.from r l.id).0 (is_clean l.id (verdict_of t l.from r) says)).2 in
      let least = of.size_least in
      ((omega (arith, least), of.constant), clean_addressed clean t l rs))
  | inr not ↦ rw not (clean_addressed clean t l rs)
]

-- a frame that counts has the least size
abbrev IsLong : Record → Type 0
IsLong r = least_size ≤ size_of (length r.bytes)

clean_long : CleanFramesHaveALink → (t : Content) (l : Link) (rs : List Record) → AllByRecursion IsLong (filter (λ x. says_clean l.id (verdict_of t l.from x)) rs)
clean_long clean t l [] = tt
clean_long clean t l (r ∷ rs) = elim (cases_Bool (says_clean l.id (verdict_of t l.from r))) [
  | inl says ↦ rw says ((clean t l.from r l.id (is_clean l.id (verdict_of t l.from r) says)).size_least, clean_long clean t l rs)
  | inr not ↦ rw not (clean_long clean t l rs)
]

own_long : CleanFramesHaveALink → (w : Watch) (t : Content) (l : Link) (read : List Capture) → AllByRecursion IsLong (own_within w t l read)
own_long clean w t l read = all_filtered IsLong (λ r. has_frame w r.stamp) (own_records t l read) (clean_long clean t l (records_of read l.from))

kept_addresses : CleanExactly → (t : Content) (ports : List PortRow) (read : List Capture) (out : PortRow → List Record) → IsKeptWithin (exactly t) t ports read out
    → HaveAddresses (exactly t) t ports out
kept_addresses clean t ports read out kept p among = all_from_each (HasAddress t) (recorded (exactly t) (out p)) (λ k x at.
    let of = all_at (λ r. (l : Link) × Contains t.links l × (link_of r.bytes ≡ l.id)) (recorded (exactly t) (out p)) k x at
    (recursion_from_All (λ r. (l : Link) × Contains t.links l × (link_of r.bytes ≡ l.id)) (recorded (exactly t) (out p)) (kept.of_links p among)) in
    let l = of.0 in
    let leads = leads_there (exactly t) t ports read out kept p among k x at l of.1 of.2 in
    let is = (kept.kept p among l of.1 leads).2 in
    let own = own_within (exactly t) t l read in
    let own_have = all_filtered (HasAddress t) (λ y. has_frame (exactly t) y.stamp) (own_records t l read) (clean_addressed clean t l (records_of read l.from)) in
    let gone = all_first (HasAddress t) is.gone is.after
    (subst (λ (rs : List Record). AllByRecursion (HasAddress t) rs) is.passed_is (all_chosen (HasAddress t) (kept.fates l) own own_have)) in
    let here = filter_there (λ (y : Record). link_of y.bytes == l.id) (recorded (exactly t) (out p)) k x at (eq-eqb (link_of x.bytes) l.id of.2) in
    all_at (HasAddress t) (records_for l (recorded (exactly t) (out p))) here.0 x here.1
    (subst (λ (rs : List Record). AllByRecursion (HasAddress t) rs) (sym is.out_is)
    (all_both (HasAddress t) is.before is.seen (none_before (HasAddress t) (limits_of (exactly t) (kept.kept p among l of.1 leads).0 p.speed) is.before refl is.from_before)
    (by_bytes t is.seen is.gone is.same_bytes gone))))

-- ---- frames of the same bytes

differ_filter : (time : ℕ) (test : Record → Bool) (rs : List Record) → AllDiffer time rs → AllDiffer time (filter test rs)
differ_filter time test [] differ = tt
differ_filter time test (r ∷ rs) differ = elim (test r) as (λ b. AllDiffer time (cond b (r ∷ filter test rs) (filter test rs))) [
  | true ↦ (all_filtered (λ g. r.bytes ≡ g.bytes → r.stamp + time ≤ g.stamp) test rs differ.0, differ_filter time test rs differ.1)
  | false ↦ differ_filter time test rs differ.1
]

differ_at : (time : ℕ) (own : List Record) → AllDiffer time own → (i j : ℕ) (f g : Record) → slice_get own i ≡ Some f → slice_get own j ≡ Some g → f.bytes ≡ g.bytes → f.stamp < g.stamp
    → f.stamp + time ≤ g.stamp
differ_at time [] differ i j f g at other same lt = absurd (let never = at in cc)
differ_at time (r ∷ own) differ zero zero f g at other same lt =
    let is : f.stamp ≡ g.stamp = ap (λ (x : Record). x.stamp) (sym (same_Some r f at) ∙ same_Some r g other) in absurd (omega (arith, is, lt))
differ_at time (r ∷ own) differ zero (suc j) f g at other same lt =
    subst (λ (x : Record). x.bytes ≡ g.bytes → x.stamp + time ≤ g.stamp) (same_Some r f at) (all_at (λ x. r.bytes ≡ x.bytes → r.stamp + time ≤ x.stamp) own j g other differ.0) same
differ_at time (r ∷ own) differ (suc i) zero f g at other same lt =
    let le = subst (λ (x : Record). x.bytes ≡ f.bytes → x.stamp + time ≤ f.stamp) (same_Some r g other) (all_at (λ x. r.bytes ≡ x.bytes → r.stamp + time ≤ x.stamp) own i f at differ.0) (sym same) in
    absurd (omega (arith, le, lt))
differ_at time (r ∷ own) differ (suc i) (suc j) f g at other same lt = differ_at time own differ.1 i j f g at other same lt

all_limits : (P : Limits → Type 0) (os us : List Output) → limits_in os ≡ limits_in us → AllByRecursion (λ o. P o.limits) os → AllByRecursion (λ o. P o.limits) us
all_limits P [] [] same all = tt
all_limits P [] (u ∷ us) same all = absurd (let never = same in cc)
all_limits P (o ∷ os) [] same all = tt
all_limits P (o ∷ os) (u ∷ us) same all = (
  subst P (first_is o.limits u.limits (limits_in os) (limits_in us) same) all.0,
  all_limits P os us (rest_is o.limits u.limits (limits_in os) (limits_in us) same) all.1,
)

-- ---- captures of what came and of what left

came_is : (ps : List PortRow) (texts : List Text) (read : List Capture) (more : List (List Record)) → map (λ (text : Text). text.0) texts ≡ map (λ (p : PortRow). p.id) ps → AreCaptures texts read
    → came_in ps (map (λ c. c.records) read ++ more) ≡ read
came_is [] [] [] more same are = refl
came_is ps [] (c ∷ read) more same are = absurd are
came_is ps (text ∷ texts) [] more same are = absurd are
came_is [] (text ∷ texts) (c ∷ read) more same are = absurd (let never = same in cc)
came_is (p ∷ ps) [] [] more same are = absurd (let never = same in cc)
came_is (p ∷ ps) (text ∷ texts) (c ∷ read) more same are =
    let number : p.id ≡ c.port = sym (are.0 ∙ first_is text.0 p.id (map (λ (x : Text). x.0) texts) (map (λ (q : PortRow). q.id) ps) same) in
    let rest = rest_is text.0 p.id (map (λ (x : Text). x.0) texts) (map (λ (q : PortRow). q.id) ps) same in
    ap (λ (n : ℕ). record { port = n; records = c.records } ∷ came_in ps (map (λ x. x.records) read ++ more)) number
    ∙ ap (λ (cs : List Capture). c ∷ cs) (came_is ps texts read more rest are.2)

many_read : (texts : List Text) (read : List Capture) → AreCaptures texts read → length read ≡ length texts
many_read [] [] are = refl
many_read [] (c ∷ read) are = absurd are
many_read (text ∷ texts) [] are = absurd are
many_read (text ∷ texts) (c ∷ read) are = ap (λ (n : ℕ). suc n) (many_read texts read are.2)

unmoved : (c : Clock) → c.later ≡ 0 → c.sooner ≡ 0 → (rs : List Record) → AllByRecursion (λ x. x.stamp ≤ last_instant) rs → map (at_clock c) rs ≡ rs
unmoved c later sooner [] all = refl
unmoved c later sooner (r ∷ rs) all =
    let le = all.0 in
    let same : moved c r.stamp ≡ r.stamp = (let is : min ((r.stamp + c.later) - c.sooner) 4294967295999999999 ≡ r.stamp = omega (arith, later, sooner, le) in is) in
    ap (λ (at : ℕ). record r { stamp = at } ∷ map (at_clock c) rs) same ∙ ap (λ (xs : List Record). r ∷ xs) (unmoved c later sooner rs all.1)

-- ---- no frame has left when it comes

costs_more : (speed : Speed) (a b : ℕ) → a ≤ b → cost_of speed a ≤ cost_of speed b
costs_more Ten a b le = let more : (a + 20) * 800 ≤ (b + 20) * 800 = omega (arith, le) in more
costs_more Hundred a b le = let more : (a + 20) * 80 ≤ (b + 20) * 80 = omega (arith, le) in more
costs_more Thousand a b le = let more : (a + 20) * 8 ≤ (b + 20) * 8 = omega (arith, le) in more

later_than : (m : Limits) → m.tolerance < m.least + cost_of m.speed least_size → (rs : List Record) → AllByRecursion IsLong rs → AllByRecursion (LeavesLater m) rs
later_than m soon rs long =
    all_map IsLong (LeavesLater m) (λ r least. let more = costs_more m.speed least_size (size_of (length r.bytes)) least in
    let is : m.tolerance < m.least + cost_of m.speed (size_of (length r.bytes)) = omega (arith, soon, more) in is) rs long

mapped_option : {X Y : Type 0} (f : X → Y) (o : Option X) (y : Y) → option_map f o ≡ Some y → (x : X) × (o ≡ Some x) × (f x ≡ y)
mapped_option f None y is = absurd (let never = is in cc)
mapped_option f (Some x) y is = (x, refl, same_Some (f x) y is)

-- ---- a run

pub record Needed : Type 0 where
  pub clean : CleanFramesHaveALink
  pub clean_exactly : CleanExactly
  pub verdicts : VerdictsNameLinks
  pub ordered : ByStampIsOrdered
  pub soon : EndsWithinASecond
  pub scattered : NothingIsScattered
  pub less_scattered : LessScatterIsAccepted
  pub part : HighLinksLeaveAPart
  pub exact : ExactlyIsIsolated
  pub isolate : OutcomesIsolate
  pub less : LessLatencyIsKeptToo
  pub answers : OurAnswersAreKept
  pub foreign : KeptIsNotForeign
  pub conforms : KeptIsConforms

module _ (needed : Needed) (t : Content) (texts : List Text) (results : Results) (r : Recordings) (from until : ℕ) (keeping : Bool) (arrivals : List Arrival) (first : Comparison)
    (formed : IsWellFormed t) (accepted : IsAcceptedWith (t.latency - r.least) t) (run : IsOutcome t texts results) (ours : AreOurs t r)
    (ends : AreWhole r until (captures_of t r run.read) ⊎ AreOfSpan t r run.read from until) (begun : IsBegun t r from keeping first)
    (merge : IsMergeOf (sources_of t r).clocks (captures_of t r run.read) arrivals) where
  abbrev read : List Capture
  read = run.read

  abbrev out : PortRow → List Record
  out = output_of t (merged read)

  abbrev captures : List (List Record)
  captures = captures_of t r read

  abbrev came : List (List Record)
  came = map (λ c. c.records) read

  abbrev left : List (List Record)
  left = map (λ p. out p) (recorded_ports t r)

  abbrev w : Watch
  w = watch_within t r from until

  abbrev of_ours : Bool → ℕ → Watch
  of_ours rest tolerance = cut (start_of rest from) (Some until) (varying r.least (t.latency - r.least) (off_by tolerance (exactly t)))

  abbrev spanned : Watch
  spanned = of_ours r.rest r.tolerance

  watch_is : w ≡ spanned
  watch_is =
      ap (λ (s : Stamps). record { least = r.least; scatter = t.latency - r.least; tolerance = r.tolerance; gap = gap_of s; start = start_of r.rest from; until = Some until }) ours.stamps

  within : IsAccepted t
  within = (needed.scattered.1 t).0 (needed.less_scattered 0 (t.latency - r.least) t (omega arith) accepted)

  bound : AreBy last_instant captures
  bound = captures_by needed.ordered needed.soon needed.clean needed.verdicts t formed r texts read run.are_read

  at_port : (P : Record → Type 0) → AllByRecursion (AllByRecursion P) captures → (j : ℕ) (p : PortRow) → slice_get (recorded_ports t r) j ≡ Some p → AllByRecursion P (out p)
  at_port P all j p at =
      all_at (AllByRecursion P) left j (out p) (slice_get-map (λ (q : PortRow). out q) (recorded_ports t r) j ∙ ap (λ (o : Option PortRow). option_map (λ q. out q) o) at)
      (all_last (AllByRecursion P) came left all)

  in_table : (p : PortRow) → Contains (recorded_ports t r) p → Contains t.ports p
  in_table p among =
      let at = contained_at (recorded_ports t r) p among in
      let there = filter_of (λ (q : PortRow). is_recorded r.outputs q.id) t.ports at.0 p at.1 in
      item_contained t.ports there.0 p there.1

  left_is : (p : PortRow) → Contains (recorded_ports t r) p → out p ≡ left_out t r captures p
  left_is p among =
      let at = contained_at (recorded_ports t r) p among in
      let many : length came ≡ length t.ports =
      length-map read (λ c. c.records) ∙ many_read texts read run.are_read ∙ sym (length-map texts (λ (text : Text). text.0))
      ∙ ap (λ (ns : List ℕ). length ns) run.ports ∙ length-map t.ports (λ p. p.id) in
      let get : slice_get captures (length t.ports + at.0) ≡ Some (out p) =
      get_right came left at.0 (length t.ports + at.0) (omega (arith, many))
      ∙ slice_get-map (λ (q : PortRow). out q) (recorded_ports t r) at.0 ∙ ap (λ (o : Option PortRow). option_map (λ q. out q) o) at.1 in
      sym (left_at_port t r formed.ports_rise captures at.0 p (out p) at.1 get
      ∙ unmoved (output_clock r p) (ap (λ (z : ℤ). later_by z) (ours.offsets p.id)) (ap (λ (z : ℤ). sooner_by z) (ours.offsets p.id)) (out p)
      (at_port (λ x. x.stamp ≤ last_instant) bound at.0 p at.1))

  exactly_kept : IsKeptWithin (exactly t) t t.ports read out
  exactly_kept =
      (needed.exact t read out formed within (come_in_order t texts read formed run.ports run.are_read)).1
      (λ p there. needed.isolate t texts results formed within run p there)

  whole_kept : AreBy until captures → IsKeptWithin (whole t until) t (recorded_ports t r) read (left_out t r captures)
  whole_kept by =
      some_kept (whole t until) t (recorded_ports t r) (recorded_ports t r) read out (left_out t r captures) (λ p among. among) left_is
      (whole_is_kept t until (recorded_ports t r) read out (all_read (IsBy until) read (all_first (AllByRecursion (IsBy until)) came left by))
      (λ p among. let at = contained_at (recorded_ports t r) p among in at_port (IsBy until) by at.0 p at.1)
      (some_kept (exactly t) t t.ports (recorded_ports t r) read out out in_table (λ p among. refl) exactly_kept))

  whole_kept_too : AreWhole r until captures → IsKeptWithin (of_ours true 0) t (recorded_ports t r) read (left_out t r captures)
  whole_kept_too all = needed.less (whole t until) r.least (t.latency - r.least) t (recorded_ports t r) read (left_out t r captures) ours.least (omega arith) (whole_kept all.by_end)

  -- the bound of latencies that differ is no less, so that frames are as far apart as the table's bound has it
  differ : AreApart (watch_of t r from) t read → DifferWithinBounds (off_by r.tolerance (exactly t)) t t.ports read
  differ apart p at l there leads least is f g own_f own_g same lt =
      let own = own_within (off_by r.tolerance (exactly t)) t l read in
      let more = wider 0 (t.latency - r.least) (omega arith) (load_of t.latency p.speed p.id t.links) l.priority least is in
      let i = contained_at own f own_f in
      let j = contained_at own g own_g in
      let far = differ_filter (more.0 + r.tolerance) (λ x. has_frame (off_by r.tolerance (exactly t)) x.stamp) (own_records t l read) (apart p at l there leads more.0 more.1) in
      let le = differ_at (more.0 + r.tolerance) own far i.0 j.0 f g i.1 j.1 same lt in
      let most = more.2 in
      omega (arith, le, most)

  span_of : AreOfSpan t r read from until → IsSpanOf (off_by r.tolerance (exactly t)) (start_of r.rest from) (Some until)
  span_of span = record { begins = tt; in_time = in_time r.rest; ends = span.long } where
    in_time : (b : Bool) → BeginsInTime r.tolerance (start_of b from)
    in_time true = tt
    in_time false = span.in_time

  span_kept : IsKeptWithin spanned t (recorded_ports t r) read (left_out t r captures)
  span_kept = elim ends [
    | inl all ↦ subst (λ (b : Bool). IsKeptWithin (of_ours b r.tolerance) t (recorded_ports t r) read (left_out t r captures)) (sym all.rest)
        (subst (λ (n : ℕ). IsKeptWithin (of_ours true n) t (recorded_ports t r) read (left_out t r captures)) (sym all.exact) (whole_kept_too all))
    | inr span ↦ some_kept spanned t t.ports (recorded_ports t r) read out (left_out t r captures) in_table left_is
        (needed.answers t texts results r.least r.tolerance (start_of r.rest from) (Some until) formed within run ours.least (span_of span) (differ span.apart))
  ]

  addresses : HaveAddresses spanned t (recorded_ports t r) (left_out t r captures)
  addresses p among =
      all_filtered (HasAddress t) (λ x. has_record spanned x.stamp) (left_out t r captures p)
      (subst (λ (rs : List Record). AllByRecursion (HasAddress t) rs) (left_is p among)
      (subst (λ (rs : List Record). AllByRecursion (HasAddress t) rs)
      (filter_stays (λ x. has_record (exactly t) x.stamp) (out p) (always (λ x. has_record (exactly t) x.stamp ≡ true) (out p) (λ x. refl)))
      (kept_addresses needed.clean_exactly t t.ports read out exactly_kept p (in_table p among))))

  kept_there_all : IsKeptWithin w t (recorded_ports t r) (came_in t.ports captures) (left_out t r captures)
  kept_there_all =
      subst (λ (x : Watch). IsKeptWithin x t (recorded_ports t r) (came_in t.ports captures) (left_out t r captures)) (sym watch_is)
      (subst (λ (cs : List Capture). IsKeptWithin spanned t (recorded_ports t r) cs (left_out t r captures)) (sym (came_is t.ports texts read left run.ports run.are_read)) span_kept)

  named : HaveAddresses w t (recorded_ports t r) (left_out t r captures)
  named = subst (λ (x : Watch). HaveAddresses x t (recorded_ports t r) (left_out t r captures)) (sym watch_is) addresses

  abbrev c : Comparison
  c = with_until until first

  abbrev all : Comparison
  all = with_arrivals (sources_of t r).captures arrivals c

  row_there : (port : ℕ) (row : PortRow) → port_row t port ≡ Some row → Contains t.ports row
  row_there port row is = let at = find_in (λ (p : PortRow). p.id == port) t.ports row is in item_contained t.ports at.0 row at.1

  -- what is true of the limits of each output of a link at first is true of them once all came and left
  module _ (place : ℕ) (l : Link) (there : slice_get t.links place ≡ Some l) where
    abbrev outputs : List Output
    outputs = outputs_first (watch_of t r from) t r.outputs keeping l.priority l.to

    limits_there : (P : Limits → Type 0) → ((o : Output) → HasLimits (watch_of t r from) t l.priority o.port o.limits → names_port o.port l.to ≡ true → P o.limits)
        → (f : Watched) → slice_get all.links place ≡ Some f → AllByRecursion (λ o. P o.limits) f.outputs
    limits_there P each f get =
        let xs = told place (sources_of t r).captures arrivals c in
        let was = mapped_option (with_notices xs) (slice_get first.links place) f (sym (links_are_told place (sources_of t r).captures arrivals c) ∙ get) in
        let one = first_each (watch_of t r from) t r.outputs keeping t.links first.links begun.links place l was.0 there was.1 in
        all_limits P outputs f.outputs
        (sym (ap (λ (x : Watched). limits_in x.outputs) (sym was.2) ∙ notices_limits xs was.0 ∙ ap (λ (x : Watched). limits_in x.outputs) one.first))
        (all_from_each (λ o. P o.limits) outputs (λ k o at.
        each o (all_at (λ (x : Output). HasLimits (watch_of t r from) t l.priority x.port x.limits) outputs k o at (all_have (watch_of t r from) t r.outputs keeping l.priority l.to))
        (all_at (λ (x : Output). names_port x.port l.to ≡ true) outputs k o at (all_lead (watch_of t r from) t r.outputs keeping l.priority l.to l.to (names_all l.to)))))

    -- by the stamps no frame has left when it comes
    abbrev IsSoon : Limits → Type 0
    IsSoon m = m.tolerance < m.least + cost_of m.speed least_size

    soon : (o : Output) → HasLimits (watch_of t r from) t l.priority o.port o.limits → names_port o.port l.to ≡ true → IsSoon o.limits
    soon o has names = subst IsSoon (sym has.limits) (ours.later has.row (row_there o.port has.row has.is_row))

    -- at an output the frames of a link came so far apart as its limits have it
    abbrev AreFar : Limits → Type 0
    AreFar m = AllDiffer (most_of m) (own_within w t l read)

    far : AreApart (watch_of t r from) t read → (o : Output) → HasLimits (watch_of t r from) t l.priority o.port o.limits → names_port o.port l.to ≡ true → AreFar o.limits
    far apart o has names =
        let row = has.row in
        let contains = row_there o.port row has.is_row in
        let leads : leads_to row.id l ≡ true = ap (λ (n : ℕ). names_port n l.to) (row_number t o.port row has.is_row) ∙ names in
        let b = bounded needed.part t (t.latency - r.least) formed accepted row contains place l there leads in
        let delay = delay_within t row formed contains in
        let most = b.within in
        let bound_is : bound_in (t.latency - r.least) t row l.priority ≡ b.bound =
        ap (λ (x : Option ℕ). min (option_map_or (λ y. y) x 0) 18446744073709551615) b.is
        ∙ (let least : min b.bound 18446744073709551615 ≡ b.bound = omega (arith, most, delay) in least) in
        subst AreFar (sym (has.limits ∙ ap (λ (n : ℕ). limits_of (watch_of t r from) n row.speed) bound_is))
        (differ_filter (b.bound + r.tolerance) (λ x. has_frame w x.stamp) (own_records t l read) (apart row contains l (item_contained t.links place l there) leads b.bound b.is))

  clear : AreClear w t captures all
  clear place l f there get =
      let own = own_within w t l (came_in t.ports captures) in
      record {
        later = limits_there place l there (λ m. AllByRecursion (LeavesLater m) own)
            (λ o has names. later_than o.limits (soon place l there o has names) own (own_long needed.clean w t l (came_in t.ports captures))) f get;
        apart = elim ends [
          | inl whole_ones ↦ inr (record { rest = ap (λ (b : Bool). start_of b from) whole_ones.rest; exact = whole_ones.exact })
          | inr span ↦ inl (subst (λ (cs : List Capture). AllByRecursion (λ o. AllDiffer (most_of o.limits) (own_within w t l cs)) f.outputs)
              (sym (came_is t.ports texts read left run.ports run.are_read)) (limits_there place l there (AreFar place l there) (far place l there span.apart) f get))
        ];
      }

  pub conforms_all : conform (with_end all) ≡ true
  conforms_all =
      needed.conforms t r from until keeping captures arrivals first formed accepted bound begun merge
      (needed.foreign t r from until keeping captures arrivals first formed begun merge named kept_there_all) clear kept_there_all

pub our_runs_conform : Needed → OurRunsConform
our_runs_conform needed t texts results r from until keeping arrivals first formed accepted run ours ends begun merge =
    conforms_all needed t texts results r from until keeping arrivals first formed accepted run ours ends begun merge
