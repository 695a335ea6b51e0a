-- No surplus hides in what is not known of accounts.
use Rattle.std.proofs.Common.{◌≡◌, ℕ, ◌+◌, ◌*◌, ◌≤◌, min, Bool, true, false, List, [], ◌∷◌, map, Option, refl, ap, subst, arith}
use Rattle.std.specs.Prelude.{filter}
use Rattle.std.specs.List.{AllByRecursion}
use Rattle.std.proofs.ByRecursion.{kept_by_passes}
use Rattle.std.proofs.Math.Nat.{min-le_left, le_trans}
use Rattle.std.proofs.lemmas.Bool.{and_parts, leb-true}
use Rattle.afdx_units.specs.declared.bag.Bag.{Bag}
use Rattle.afdx_units.specs.declared.police.Police.{Police}
use Rattle.afdx_units.specs.declared.police.Police.TheVariants.{Byte, Frame as ByFrames}
use Rattle.afdx_units.specs.Time.{bag_ns, last_instant}
use Rattle.afdx_pcap.specs.Record.{Record}
use Rattle.afdx_account.specs.declared.frame.Frame.{Frame}
use Rattle.afdx_account.specs.Policing.{Terms, terms_by, passed_frames}
use Rattle.afdx_account.specs.Level.{InOrder}
use Rattle.afdx_filter.specs.Frame.{frame_of}
use Rattle.afdx_filter.specs.Inner.Clean.{CleanFramesHaveALink}
use Rattle.afdx_table.specs.Inner.Found.{LinksAreFound}
use Rattle.afdx_load.specs.Load.{terms_of}
use Rattle.afdx_levels.specs.Levels.{slack_of}
use Rattle.afdx_levels.specs.Inner.Laws.{chosen, loosened, SurplusIsJitter}
use Rattle.afdx_following.specs.declared.watch.Start.{Start}
use Rattle.afdx_following.specs.declared.watch.Start.TheVariants.{Rest, Cut}
use Rattle.afdx_following.specs.Watch.{has_begun, has_not_ended, has_frame, unknown_from}
use Rattle.afdx_session.specs.Headline.{own_records}
use Rattle.afdx_compare.specs.Within.{levels_since, levels_of, own_within}
use Rattle.afdx_compare_laws.specs.Surplus.{with_jitter, NoSurplusHides}
use Rattle.afdx_compare_laws.proofs.Fitting.{own_fit}
use Rattle.afdx_compare_laws.proofs.Narrowing.{is_within, all_map}
use Rattle.afdx_compare.proofs.OwnRuns.{order_filter}

-- an account is known to hold no more than its cap and twice the slack
most_known : (t : Terms) (tolerance : ℕ) (start : Start) → (levels_since t tolerance (unknown_from tolerance start)).most ≤ t.cap + 2 * slack_of t tolerance
most_known t tolerance Rest = omega arith
most_known t tolerance (Cut from) = omega arith

order_since : (since : ℕ) (xs : List Record) → AllByRecursion (λ x. since ≤ x.stamp) xs → InOrder 0 (map frame_of xs) → InOrder since (map frame_of xs)
order_since since [] all order = tt
order_since since (x ∷ xs) all order = (all.0, order.1)

-- frames that count came no sooner than the instant from which on it is known
known_before : (t : Terms) (tolerance : ℕ) (start : Start) (u : Option ℕ) (xs : List Record) → InOrder 0 (map frame_of (filter (is_within start u tolerance) xs))
    → InOrder (levels_since t tolerance (unknown_from tolerance start)).since (map frame_of (filter (is_within start u tolerance) xs))
known_before t tolerance Rest u xs order = order
known_before t tolerance (Cut from) u xs order =
    let counting = is_within (Cut from) u tolerance in
    let first = min (from + tolerance) last_instant in
    order_since first (filter counting xs)
    (all_map (λ (x : Record). counting x ≡ true) (λ x. first ≤ x.stamp)
    (λ x is. le_trans (min-le_left (from + tolerance) last_instant)
    (leb-true (from + tolerance) x.stamp (and_parts (has_begun (Cut from) tolerance x.stamp) (has_not_ended u x.stamp) is).0))
    (filter counting xs) (kept_by_passes counting xs)) order

abbrev by_bytes : ℕ → Bag → ℕ → Terms
by_bytes max_size bag cap = record { cap = cap; rate = max_size; price = λ size. size * bag_ns bag }

abbrev by_frames : Bag → ℕ → Terms
by_frames bag cap = record { cap = cap; rate = 1; price = λ size. bag_ns bag }

more_jitter : (police : Police) (max_size : ℕ) (bag : Bag) (jitter tolerance : ℕ)
    → loosened tolerance (terms_by police max_size bag jitter) ≡ terms_by police max_size bag (jitter + 2 * tolerance)
more_jitter Byte max_size bag jitter tolerance =
    let same : max_size * (bag_ns bag + jitter) + 2 * (max_size * tolerance) ≡ max_size * (bag_ns bag + (jitter + 2 * tolerance)) = omega arith in
    ap (by_bytes max_size bag) same
more_jitter ByFrames max_size bag jitter tolerance =
    let same : (bag_ns bag + jitter) + 2 * (1 * tolerance) ≡ bag_ns bag + (jitter + 2 * tolerance) = omega arith in
    ap (by_frames bag) same

chosen_frames : (fates : List Bool) (xs : List Record) → chosen fates (map frame_of xs) ≡ map frame_of (chosen fates xs)
chosen_frames [] xs = refl
chosen_frames (b ∷ fates) [] = refl
chosen_frames (true ∷ fates) (x ∷ xs) = ap (λ (fs : List Frame). frame_of x ∷ fs) (chosen_frames fates xs)
chosen_frames (false ∷ fates) (x ∷ xs) = chosen_frames fates xs

pub no_surplus_hides : SurplusIsJitter → CleanFramesHaveALink → LinksAreFound → NoSurplusHides
no_surplus_hides account clean found w t ports read out kept formed order l there =
    let own = own_within w t l read in
    let fates = kept.fates l in
    let frames = map frame_of own in
    let since = known_before (terms_of l) w.tolerance w.start w.until (own_records t l read) (order_filter (λ r. has_frame w r.stamp) 0 (own_records t l read) (order l there)) in
    let law = account (terms_of l) w.tolerance (levels_of w l) frames fates (most_known (terms_of l) w.tolerance w.start) since (own_fit clean found t formed l there w read)
    (kept.are_allowed l there) in
    subst (λ (fs : List Frame). passed_frames (terms_of (with_jitter (2 * w.tolerance) l)) fs ≡ fs) (chosen_frames fates own)
    (subst (λ (terms : Terms). passed_frames terms (chosen fates frames) ≡ chosen fates frames) (more_jitter l.police l.max_size l.bag l.jitter w.tolerance) law)
