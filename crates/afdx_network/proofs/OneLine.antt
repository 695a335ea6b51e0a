-- The line of a port, and one record more that comes over it.
use Rattle.std.proofs.Common.{◌≡◌, ◌<◌, ◌≤◌, ◌+◌, ℕ, Bool, true, false, List, [], ◌∷◌, ◌++◌, length, map, take, Option, Some, None, is_some, refl, ap, sym, ◌∙◌, subst, arith, inl, inr}
use Rattle.std.proofs.lemmas.Bool.{cases_lt}
use Rattle.std.proofs.lemmas.List.{length-append, map-append, take_all, take-append-le}
use Rattle.afdx_units.specs.declared.line.Speed.{Speed}
use Rattle.afdx_account.specs.declared.frame.Frame.{Frame}
use Rattle.afdx_pcap.specs.Record.{Record}
use Rattle.afdx_filter.specs.Frame.{frame_of}
use Rattle.afdx_serial.specs.Serial.{KeepsToLineWithin, soonest, last_soonest}
use Rattle.afdx_serial.specs.Laws.{SoonestInstantsDecide}
use Rattle.afdx_session.specs.Lined.{RecordsKeepToLineWithin}
use Rattle.afdx_network_check.specs.Net.{stamp_rounding}
use Rattle.afdx_network.specs.declared.line.Line.{Line}
use Rattle.afdx_network.specs.Given.{IsBreachAt}
use Rattle.afdx_network.specs.Inner.OneLine.{HasBrought}

-- ---- records of which none came too soon

last_on : (speed : Speed) (came : Option ℕ) (fs : List Frame) (f : Frame) → last_soonest speed came (fs ++ f ∷ []) ≡ Some (soonest speed (last_soonest speed came fs) f)
last_on speed came [] f = refl
last_on speed came (g ∷ fs) f = last_on speed (Some (soonest speed came g)) fs f

module _ (decide : SoonestInstantsDecide) (speed : Speed) (records : List Record) (r : Record) (keeps : RecordsKeepToLineWithin stamp_rounding speed records) where
  frames_are : map frame_of (records ++ r ∷ []) ≡ map frame_of records ++ frame_of r ∷ []
  frames_are = map-append frame_of records (r ∷ [])

  abbrev instant : ℕ
  instant = soonest speed (last_soonest speed None (map frame_of records)) (frame_of r)

  kept_on : instant ≤ r.stamp + stamp_rounding → RecordsKeepToLineWithin stamp_rounding speed (records ++ r ∷ [])
  kept_on soon = subst (KeepsToLineWithin stamp_rounding speed) (sym frames_are) ((decide stamp_rounding speed (map frame_of records) (frame_of r) keeps).1 soon)

  came_on : last_soonest speed None (map frame_of (records ++ r ∷ [])) ≡ Some instant
  came_on = ap (last_soonest speed None) frames_are ∙ last_on speed None (map frame_of records) (frame_of r)

  breach_on : (instant ≤ r.stamp + stamp_rounding → ⊥) → (number : ℕ) → number ≡ length records + 1 → IsBreachAt speed (records ++ r ∷ []) number
  breach_on late number is = record {
    earlier = length records;
    number_is = is;
    kept = subst (RecordsKeepToLineWithin stamp_rounding speed) (sym before) keeps;
    broken = λ all. late
        ((decide stamp_rounding speed (map frame_of records) (frame_of r) keeps).0
        (subst (KeepsToLineWithin stamp_rounding speed) frames_are (subst (RecordsKeepToLineWithin stamp_rounding speed) whole all)));
  } where
    before : take (length records) (records ++ r ∷ []) ≡ records
    before = take-append-le (length records) records (r ∷ []) (omega arith) ∙ take_all (length records) records (omega arith)

    whole : take number (records ++ r ∷ []) ≡ records ++ r ∷ []
    whole = take_all number (records ++ r ∷ []) (omega (arith, is, length-append records (r ∷ [])))

-- ---- the first one that did

-- it is one of them
breach_within : (speed : Speed) (records : List Record) (number : ℕ) → IsBreachAt speed records number → number ≤ length records
breach_within speed records number b = elim (cases_lt (length records) number) [
  | inl past ↦
      let is = b.number_is in
      absurd (b.broken
      (subst (RecordsKeepToLineWithin stamp_rounding speed) (take_all b.earlier records (omega (arith, is, past)) ∙ sym (take_all number records (omega (arith, past)))) b.kept))
  | inr within ↦ within
]

-- and stays the first
breach_stays : (speed : Speed) (records : List Record) (r : Record) (number : ℕ) → IsBreachAt speed records number → IsBreachAt speed (records ++ r ∷ []) number
breach_stays speed records r number b =
    let within = breach_within speed records number b in
    let is = b.number_is in
    record {
      earlier = b.earlier;
      number_is = b.number_is;
      kept = subst (RecordsKeepToLineWithin stamp_rounding speed) (sym (take-append-le b.earlier records (r ∷ []) (omega (arith, is, within)))) b.kept;
      broken = λ all. b.broken (subst (RecordsKeepToLineWithin stamp_rounding speed) (take-append-le number records (r ∷ []) within) all);
    }

-- ---- the line as the code keeps it

none_there : {X : Type 0} (o : Option X) → is_some o ≡ false → o ≡ None
none_there None is = refl
none_there (Some x) is = absurd cc

not_both : {X : Type 0} (o : Option X) (x : X) → o ≡ None → o ≡ Some x → ⊥
not_both o x none some = cc

pub line_new : (line : Line) → line.came ≡ None → line.breach ≡ None → HasBrought line []
line_new line came breach = record {
  kept = λ none. (([], tt, λ i j d lt within. absurd (omega (arith, within))), came);
  broken = λ number is. absurd (not_both line.breach number breach is);
}

-- one came too soon before
pub stays_broken : (line : Line) (records : List Record) (r : Record) → is_some line.breach ≡ true → HasBrought line records → HasBrought line (records ++ r ∷ [])
stays_broken line records r is was = record {
  kept = λ none. absurd (some_there line.breach none is);
  broken = λ number at. breach_stays line.speed records r number (was.broken number at);
} where
  some_there : {X : Type 0} (o : Option X) → o ≡ None → is_some o ≡ true → ⊥
  some_there o none some = cc

module _ (decide : SoonestInstantsDecide) (old new : Line) (records : List Record) (r : Record) (soon : ℕ) (unbroken : is_some old.breach ≡ false) (speed : new.speed ≡ old.speed)
    (soon_is : soon ≡ soonest old.speed old.came (frame_of r)) (was : HasBrought old records) where
  so_far : RecordsKeepToLineWithin stamp_rounding old.speed records × (old.came ≡ last_soonest old.speed None (map frame_of records))
  so_far = was.kept (none_there old.breach unbroken)

  soon_on : soon ≡ soonest old.speed (last_soonest old.speed None (map frame_of records)) (frame_of r)
  soon_on = soon_is ∙ ap (λ (came : Option ℕ). soonest old.speed came (frame_of r)) so_far.1

  -- this one came in time
  pub keeps_on : new.came ≡ Some soon → new.breach ≡ old.breach → soon ≤ r.stamp + stamp_rounding → HasBrought new (records ++ r ∷ [])
  keeps_on came breach le = record {
    kept = λ none. subst Kept (sym speed) (
      kept_on decide old.speed records r so_far.0 (subst (λ n. n ≤ r.stamp + stamp_rounding) soon_on le),
      came ∙ ap (λ n. Some n) soon_on ∙ sym (came_on decide old.speed records r so_far.0),
    );
    broken = λ number is. absurd (not_both old.breach number (none_there old.breach unbroken) (sym breach ∙ is));
  } where
    Kept : Speed → Type 0
    Kept s = RecordsKeepToLineWithin stamp_rounding s (records ++ r ∷ []) × (new.came ≡ last_soonest s None (map frame_of (records ++ r ∷ [])))

  -- this one came too soon
  pub breaks_on : (number : ℕ) → new.breach ≡ Some number → r.stamp + stamp_rounding < soon → number ≡ length records + 1 → HasBrought new (records ++ r ∷ [])
  breaks_on number breach late is = record {
    kept = λ none. absurd (not_both new.breach number none breach);
    broken = λ n at. subst (IsBreachAt new.speed (records ++ r ∷ [])) (same n at)
        (subst (λ s. IsBreachAt s (records ++ r ∷ []) number) (sym speed)
        (breach_on decide old.speed records r so_far.0 (λ le. omega (arith, late, le, soon_on)) number is));
  } where
    same : (n : ℕ) → new.breach ≡ Some n → number ≡ n
    same n at = cc
