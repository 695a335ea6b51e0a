-- What recordings keep to, each span of them keeps to.
use Rattle.std.proofs.Common.{◌≡◌, ℕ, ◌+◌, ◌-◌, ◌<◌, ◌≤◌, min, Bool, true, false, List, [], map, Option, Some, None, refl, sym, ap, subst, ◌∙◌, arith, inl}
use Rattle.std.specs.Prelude.{◌==◌, filter, All, Contains}
use Rattle.std.specs.List.{AllByRecursion}
use Rattle.std.proofs.ByRecursion.{all_kept_by}
use Rattle.std.proofs.Math.Nat.{min-le_left, min-eq_left, le_trans}
use Rattle.std.proofs.lemmas.Bool.{and_parts, and_from, leb-true, le-leb}
use Rattle.std.proofs.lemmas.List.Elements.{All-filter, All-contains_itself, recursion_from_All}
use Rattle.afdx_units.specs.Time.{last_instant}
use Rattle.afdx_pcap.specs.Record.{Record}
use Rattle.afdx_frame.specs.Address.{link_of}
use Rattle.afdx_account.specs.Policing.{Terms}
use Rattle.afdx_account.specs.Level.{InOrder}
use Rattle.afdx_filter.specs.Frame.{frame_of}
use Rattle.afdx_filter.specs.Inner.Clean.{CleanFramesHaveALink}
use Rattle.afdx_table.specs.declared.rows.PortRow.{PortRow}
use Rattle.afdx_table.specs.Link.{Link, leads_to}
use Rattle.afdx_table.specs.Content.{Content}
use Rattle.afdx_table.specs.WellFormed.{IsWellFormed}
use Rattle.afdx_table.specs.Inner.Found.{LinksAreFound}
use Rattle.afdx_load.specs.Load.{terms_of}
use Rattle.afdx_levels.specs.Levels.{Levels, at_rest, unknown, Allowed}
use Rattle.afdx_levels.specs.Inner.Laws.{chosen, AllFit}
use Rattle.afdx_pairing.specs.declared.limits.Limits.{Limits}
use Rattle.afdx_pairing.specs.Kept.{MayCome, IsKeptFor}
use Rattle.afdx_following.specs.declared.watch.Watch.{Watch}
use Rattle.afdx_following.specs.declared.watch.Start.{Start}
use Rattle.afdx_following.specs.declared.watch.Start.TheVariants.{Rest, Cut}
use Rattle.afdx_following.specs.Watch.{has_begun, has_not_ended, has_frame, has_record, before_of, limits_of, unknown_from}
use Rattle.afdx_core.specs.Merge.{Capture}
use Rattle.afdx_session.specs.Headline.{own_records, records_for}
use Rattle.afdx_compare.specs.Within.{levels_since, levels_of, own_within, recorded, last_at, exactly, IsKeptAt, IsKeptWithin}
use Rattle.afdx_compare.specs.Inner.Laws.{ComeInOrder, ExactlyIsIsolated}
use Rattle.afdx_compare_laws.specs.Less.{off_by, LessLatencyIsKeptToo, MoreToleranceIsKeptToo}
use Rattle.afdx_compare_laws.specs.Spans.{cut, BeginsWithin, EndsWithin, BeginsInTime, IsSpanOf, DifferWithinBounds, LeaveInOrder, EachSpanIsKept, OurSpansAreKept}
use Rattle.afdx_compare_laws.proofs.Narrowing.{is_within, fates_within, chosen_within, all_map, all_chosen, order_chosen, filter_narrows, filter_swaps, after_begun, before_begun}
use Rattle.afdx_compare.proofs.OwnRuns.{order_filter}
use Rattle.afdx_compare_laws.proofs.Cutting.{is_seen, IsLong, limits_within, last_within, IsLone, kept_within}
use Rattle.afdx_compare_laws.proofs.Fitting.{own_fit}

-- ---- what counts of a span, counts of the whole

begun_sooner : (was now : Start) (time at : ℕ) → BeginsWithin was now → has_begun now time at ≡ true → has_begun was time at ≡ true
begun_sooner Rest now time at within is = refl
begun_sooner (Cut from) Rest time at within is = absurd within
begun_sooner (Cut from) (Cut now) time at within is = let first = leb-true (now + time) at is in le-leb (from + time) at (omega (arith, first, within))

ended_later : (tolerance : ℕ) (was now : Option ℕ) (at : ℕ) → EndsWithin tolerance was now → has_not_ended now at ≡ true → has_not_ended was at ≡ true
ended_later tolerance None now at within is = refl
ended_later tolerance (Some until) None at within is = absurd within
ended_later tolerance (Some until) (Some now) at within is = let last = leb-true at now is in let no_later = within.1 in le-leb at until (omega (arith, last, no_later))

before_more : (was now : Start) (tolerance bound : ℕ) → BeginsWithin was now → before_of was tolerance bound ≤ before_of now tolerance bound
before_more Rest now tolerance bound within = omega arith
before_more (Cut from) Rest tolerance bound within = absurd within
before_more (Cut from) (Cut now) tolerance bound within = omega (arith, within)

long_enough : (tolerance : ℕ) (was now : Option ℕ) → EndsWithin tolerance was now → IsLong tolerance now
long_enough tolerance None None within = tt
long_enough tolerance (Some until) None within = tt
long_enough tolerance None (Some now) within = within
long_enough tolerance (Some until) (Some now) within = within.0

comes_later : (was now : Option ℕ) (s : Start) (m : Limits) → EndsWithin m.tolerance was now → (f : Record) → MayCome m (last_within was m) f → MayCome (limits_within s m) (last_within now m) f
comes_later None None s m within f may = absurd may
comes_later None (Some now) s m within f may = absurd may
comes_later (Some until) None s m within f may = absurd within
comes_later (Some until) (Some now) s m within f may = let no_later = within.1 in omega (arith, no_later, may)

-- ---- what is allowed

pub contained : {X : Type 0} (xs : List X) → AllByRecursion (Contains xs) xs
contained xs = recursion_from_All (Contains xs) xs (All-contains_itself xs)

module _ (t : Terms) (tolerance : ℕ) (u : Option ℕ) (own : List Record) (fates : List Bool) (order : InOrder 0 (map frame_of own)) (fit : AllFit t (map frame_of own)) where
  allowed_at : (l : Levels) (now : ℕ) → l.since ≤ now + tolerance → BeginsInTime tolerance (Cut now) → Allowed t tolerance l (map frame_of own) fates
      → Allowed t tolerance (unknown t tolerance (min (now + tolerance) last_instant)) (map frame_of (filter (is_within (Cut now) u tolerance) own))
      (fates_within (is_within (Cut now) u tolerance) own fates)
  allowed_at l now early in_time may =
      subst (λ (at : ℕ). Allowed t tolerance (unknown t tolerance at) (map frame_of (filter (is_within (Cut now) u tolerance) own)) (fates_within (is_within (Cut now) u tolerance) own fates))
      (sym (min-eq_left in_time)) (before_begun t tolerance now u l 0 own fates early order fit may)

  allowed_span : (was now : Start) → BeginsWithin was now → BeginsInTime tolerance now → Allowed t tolerance (levels_since t tolerance (unknown_from tolerance was)) (map frame_of own) fates
      → Allowed t tolerance (levels_since t tolerance (unknown_from tolerance now)) (map frame_of (filter (is_within now u tolerance) own)) (fates_within (is_within now u tolerance) own fates)
  allowed_span Rest Rest within in_time may =
      after_begun t tolerance Rest u (at_rest t tolerance) (at_rest t tolerance) 0 own fates refl order fit (record { since = omega arith; least = omega arith; most = inl (omega arith) }) may
  allowed_span Rest (Cut now) within in_time may = allowed_at (at_rest t tolerance) now (omega arith) in_time may
  allowed_span (Cut from) Rest within in_time may = absurd within
  allowed_span (Cut from) (Cut now) within in_time may =
      let later : from + tolerance ≤ now + tolerance = omega (arith, within) in
      allowed_at (unknown t tolerance (min (from + tolerance) last_instant)) now (le_trans (min-le_left (from + tolerance) last_instant) later) in_time may

-- ---- all links at all ports

module _ (clean : CleanFramesHaveALink) (found : LinksAreFound) (w : Watch) (t : Content) (ports : List PortRow) (read : List Capture) (out : PortRow → List Record)
    (start : Start) (until : Option ℕ) (formed : IsWellFormed t) (paid : w.gap ≤ 20) (ordered : ComeInOrder t read) (left_ordered : LeaveInOrder ports out)
    (span : IsSpanOf w start until) (differ : DifferWithinBounds w t ports read) (kept : IsKeptWithin w t ports read out) where
  abbrev keeping : Record → Bool
  keeping = is_within start until w.tolerance

  abbrev seeing : Record → Bool
  seeing = is_seen start until w.tolerance

  abbrev own : Link → List Record
  own l = own_within w t l read

  own_is : (l : Link) → filter keeping (own l) ≡ own_within (cut start until w) t l read
  own_is l = filter_narrows (λ r. has_frame w r.stamp) keeping (λ x is.
      let both = and_parts (has_begun start w.tolerance x.stamp) (has_not_ended until x.stamp) is in
      and_from (has_begun w.start w.tolerance x.stamp) (has_not_ended w.until x.stamp) (begun_sooner w.start start w.tolerance x.stamp span.begins both.0)
      (ended_later w.tolerance w.until until x.stamp span.ends both.1)) (own_records t l read)

  out_is : (xs : List Record) → filter seeing (recorded w xs) ≡ recorded (cut start until w) xs
  out_is xs = filter_narrows (λ r. has_record w r.stamp) seeing (λ x is.
      let both = and_parts (has_begun start 0 x.stamp) (has_not_ended until (x.stamp + w.tolerance)) is in
      and_from (has_begun w.start 0 x.stamp) (has_not_ended w.until (x.stamp + w.tolerance)) (begun_sooner w.start start 0 x.stamp span.begins both.0)
      (ended_later w.tolerance w.until until (x.stamp + w.tolerance) span.ends both.1)) xs

  for_link : (l : Link) (xs : List Record) → filter seeing (records_for l (recorded w xs)) ≡ records_for l (recorded (cut start until w) xs)
  for_link l xs = filter_swaps seeing (λ r. link_of r.bytes == l.id) (recorded w xs) ∙ ap (λ (rs : List Record). records_for l rs) (out_is xs)

  abbrev span_fates : Link → List Bool
  span_fates l = fates_within keeping (own l) (kept.fates l)

  own_order : (l : Link) → Contains t.links l → InOrder 0 (map frame_of (own l))
  own_order l there = order_filter (λ r. has_frame w r.stamp) 0 (own_records t l read) (ordered l there)

  allowed : (l : Link) → Contains t.links l → Allowed (terms_of l) w.tolerance (levels_of (cut start until w) l) (map frame_of (own_within (cut start until w) t l read)) (span_fates l)
  allowed l there =
      subst (λ (rs : List Record). Allowed (terms_of l) w.tolerance (levels_of (cut start until w) l) (map frame_of rs) (span_fates l)) (own_is l)
      (allowed_span (terms_of l) w.tolerance until (own l) (kept.fates l) (own_order l there) (own_fit clean found t formed l there w read) w.start start span.begins span.in_time
      (kept.are_allowed l there))

  module _ (p : PortRow) (at : Contains ports p) (l : Link) (there : Contains t.links l) where
    passed_are : filter keeping (chosen (kept.fates l) (own l)) ≡ chosen (span_fates l) (own_within (cut start until w) t l read)
    passed_are = sym (chosen_within keeping (own l) (kept.fates l)) ∙ ap (λ (rs : List Record). chosen (span_fates l) rs) (own_is l)

    out_order : InOrder 0 (map frame_of (records_for l (recorded w (out p))))
    out_order = order_filter (λ r. link_of r.bytes == l.id) 0 (recorded w (out p)) (order_filter (λ r. has_record w r.stamp) 0 (out p) (left_ordered p at))

    module _ (leads : leads_to p.id l ≡ true) where
      was : IsKeptAt w t read p (out p) l (kept.fates l)
      was = kept.kept p at l there leads

      abbrev limits : Limits
      limits = limits_of w was.0 p.speed

      lone : AllByRecursion (IsLone limits (filter keeping (own l))) (chosen (kept.fates l) (own l))
      lone = all_chosen (IsLone limits (filter keeping (own l))) (kept.fates l) (own l)
          (all_map (Contains (own l)) (IsLone limits (filter keeping (own l)))
          (λ a here. all_kept_by keeping (λ f. a.bytes ≡ f.bytes → a.stamp < f.stamp → a.stamp + (was.0 + w.tolerance) ≤ f.stamp) (own l)
          (all_map (Contains (own l)) (λ f. a.bytes ≡ f.bytes → a.stamp < f.stamp → a.stamp + (was.0 + w.tolerance) ≤ f.stamp)
          (λ f also same later. differ p at l there leads was.0 was.1 a f here also same later) (own l) (contained (own l)))) (own l) (contained (own l)))

      in_span : IsKeptFor (limits_within start limits) (last_within until limits) (filter keeping (own l)) (filter keeping (chosen (kept.fates l) (own l)))
          (filter seeing (records_for l (recorded w (out p))))
      in_span = kept_within start until (last_at w p) limits (own l) (chosen (kept.fates l) (own l)) (records_for l (recorded w (out p))) paid
          (long_enough w.tolerance w.until until span.ends) (before_more w.start start w.tolerance was.0 span.begins) (comes_later w.until until start limits span.ends)
          (order_chosen (kept.fates l) 0 (own l) (own_order l there)) out_order lone was.2

      abbrev IsKept : List Record → List Record → List Record → Type 0
      IsKept rs passed left = IsKeptFor (limits_of (cut start until w) was.0 p.speed) (last_at (cut start until w) p) rs passed left

      kept_at : IsKeptAt (cut start until w) t read p (out p) l (span_fates l)
      kept_at = (
        was.0,
        was.1,
        subst (λ (rs : List Record). IsKept (own_within (cut start until w) t l read) (chosen (span_fates l) (own_within (cut start until w) t l read)) rs) (for_link l (out p))
            (subst (λ (rs : List Record). IsKept (own_within (cut start until w) t l read) rs (filter seeing (records_for l (recorded w (out p))))) passed_are
            (subst (λ (rs : List Record). IsKept rs (filter keeping (chosen (kept.fates l) (own l))) (filter seeing (records_for l (recorded w (out p))))) (own_is l) in_span)),
      )

    none_other : leads_to p.id l ≡ false → records_for l (recorded (cut start until w) (out p)) ≡ []
    none_other leads = sym (for_link l (out p)) ∙ ap (λ (rs : List Record). filter seeing rs) (kept.none_else p at l there leads)

  abbrev IsOfLink : Record → Type 0
  IsOfLink r = (l : Link) × Contains t.links l × (link_of r.bytes ≡ l.id)

  span_is_kept : IsKeptWithin (cut start until w) t ports read out
  span_is_kept = record {
    fates = λ l. span_fates l;
    are_allowed = λ l there. allowed l there;
    kept = λ p at l there leads. kept_at p at l there leads;
    none_else = λ p at l there leads. none_other p at l there leads;
    of_links = λ p at. subst (All IsOfLink) (out_is (out p)) (All-filter seeing IsOfLink (recorded w (out p)) (kept.of_links p at));
  }

pub each_span_is_kept : CleanFramesHaveALink → LinksAreFound → EachSpanIsKept
each_span_is_kept clean found w t ports read out start until formed paid ordered left_ordered span differ kept =
    span_is_kept clean found w t ports read out start until formed paid ordered left_ordered span differ kept

-- ---- what is isolated

pub our_spans_are_kept : ExactlyIsIsolated → EachSpanIsKept → LessLatencyIsKeptToo → MoreToleranceIsKeptToo → OurSpansAreKept
our_spans_are_kept exact each less more t read out least tolerance start until formed accepted sooner span ordered left_ordered differ isolated =
    less (cut start until (off_by tolerance (exactly t))) least (t.latency - least) t t.ports read out sooner (omega arith)
    (each (off_by tolerance (exactly t)) t t.ports read out start until formed (omega arith) ordered left_ordered span differ
    (more (exactly t) tolerance t t.ports read out formed ordered (record { rest = refl; exact = refl }) refl ((exact t read out formed accepted ordered).1 isolated)))
