-- Without noise what is known of a level is the levels that it may have.
use Rattle.std.proofs.Common.{◌≡◌, ℕ, ◌+◌, ◌*◌, ◌-◌, ◌<◌, ◌≤◌, min, max, nat_le, nat_lt, not, List}
use Rattle.std.proofs.Common.{[], ◌∷◌, Bool, true, false, refl, sym, ap, subst, ◌∙◌, arith, inl, inr}
use Rattle.std.proofs.lemmas.Bool.{cases_Bool, leb-true, le-leb, lt-leb, ltb-true, lt-ltb, le-ltb, cases_lt}
use Rattle.afdx_account.specs.declared.frame.Frame.{Frame}
use Rattle.afdx_account.specs.Policing.{Terms}
use Rattle.afdx_account.specs.Level.{credited_level, stepped}
use Rattle.afdx_levels.specs.Levels.{Levels, slack_of, at_rest, credited, after, Allowed}
use Rattle.afdx_levels.specs.Inner.Laws.{fates_from, chosen, AllFit, AllowedIsALevel, AtRestIsTheAccount, KnowledgeNeverShrinks, SilenceTells}

pub knowledge_never_shrinks : KnowledgeNeverShrinks
knowledge_never_shrinks t tolerance l at size true fits may = let m = leb-true (t.price size) (l.most + t.rate * (at - l.since)) may in omega arith
knowledge_never_shrinks t tolerance l at size false fits may =
    let m = ltb-true (l.least + t.rate * (at - l.since)) (t.price size + 2 * slack_of t tolerance) may in omega arith

pub silence_tells : SilenceTells
silence_tells t tolerance l at size fits order long =
    let gap = t.rate * (at - l.since) in
    let may : nat_le (t.price size) (l.most + gap) ≡ true = le-leb _ _ (omega arith) in
    let must : nat_lt (l.least + gap) (t.price size + 2 * slack_of t tolerance) ≡ false = le-ltb _ _ (omega arith) in
    let full = t.cap + 2 * slack_of t tolerance in
    let least : min t.cap (max (l.least + gap) (t.price size)) - t.price size ≡ min t.cap (max (full + t.rate * (at - 0)) (t.price size)) - t.price size = omega arith in
    let most : min full (l.most + gap) - t.price size ≡ min full (full + t.rate * (at - 0)) - t.price size = omega arith in
    (rw (may, must) refl, λ i. record { least = least i; most = most i; since = at })

-- ---- steps of an account

passes_on : (t : Terms) (level since left : ℕ) (f : Frame) (fs : List Frame) (fates : List Bool) → credited_level t level (f.stamp - since) ≡ left + t.price f.size
    → fates_from t left f.stamp fs ≡ fates → fates_from t level since (f ∷ fs) ≡ true ∷ fates
passes_on t level since left f fs fates now rest =
    let fits : nat_le (t.price f.size) (left + t.price f.size) ≡ true = le-leb _ _ (omega arith) in
    let less : (left + t.price f.size) - t.price f.size ≡ left = omega arith in
    rw (now, fits, less) (ap (λ (bs : List Bool). true ∷ bs) rest)

polices_on : (t : Terms) (level since left : ℕ) (f : Frame) (fs : List Frame) (fates : List Bool) → credited_level t level (f.stamp - since) ≡ left → left < t.price f.size
    → fates_from t left f.stamp fs ≡ fates → fates_from t level since (f ∷ fs) ≡ false ∷ fates
polices_on t level since left f fs fates now short rest =
    let lacks : nat_le (t.price f.size) left ≡ false = lt-leb _ _ short in
    rw (now, lacks) (ap (λ (bs : List Bool). false ∷ bs) rest)

-- ---- levels within what is known

abbrev GivesThem : Terms → Levels → List Frame → List Bool → Type 0
GivesThem t l fs fates = (level : ℕ) × (l.least ≤ level) × (level ≤ l.most) × (fates_from t level l.since fs ≡ fates)

to_level : (t : Terms) (l : Levels) (fs : List Frame) (fates : List Bool) → l.least ≤ l.most → AllFit t fs → Allowed t 0 l fs fates → GivesThem t l fs fates
to_level t l [] [] order fit may = (l.least, omega arith, order, refl)
to_level t l [] (b ∷ fates) order fit may = absurd may
to_level t l (f ∷ fs) [] order fit may = absurd may
to_level t l (f ∷ fs) (true ∷ fates) order fit may =
    let q = t.price f.size in
    let gap = t.rate * (f.stamp - l.since) in
    let m = leb-true q (l.most + gap) may.0 in
    let fits : q ≤ t.cap = fit.0 in
    let next = after t 0 f.size true (credited t l f.stamp) in
    let r = to_level t next fs fates (omega (arith, m, fits, order)) fit.1 may.1 in
    let left = r.0 in
    let low : min t.cap (max (l.least + gap) q) - q ≤ left = r.1 in
    let high : left ≤ min (t.cap + 2 * (t.rate * 0)) (l.most + gap) - q = r.2 in
    elim (cases_lt (left + q) t.cap) [
      | inl less ↦ (let level = (left + q) - gap in
          let now : min t.cap (level + gap) ≡ left + q = omega arith in
          (level, omega arith, omega arith, passes_on t level l.since left f fs fates now r.3))
      | inr full ↦ (let now : min t.cap (l.most + gap) ≡ left + q = omega arith in
          (l.most, order, omega arith, passes_on t l.most l.since left f fs fates now r.3))
    ]
to_level t l (f ∷ fs) (false ∷ fates) order fit may =
    let q = t.price f.size in
    let gap = t.rate * (f.stamp - l.since) in
    let m = ltb-true (l.least + gap) (q + 2 * slack_of t 0) may.0 in
    let fits : q ≤ t.cap = fit.0 in
    let next = after t 0 f.size false (credited t l f.stamp) in
    let r = to_level t next fs fates (omega (arith, m, fits, order)) fit.1 may.1 in
    let left = r.0 in
    let low : l.least + gap ≤ left = r.1 in
    let high : left ≤ min (l.most + gap) (q + 2 * (t.rate * 0) - 1) = r.2 in
    let level = left - gap in
    let now : min t.cap (level + gap) ≡ left = omega arith in
    (level, omega arith, omega arith, polices_on t level l.since left f fs fates now (omega arith) r.3)

is_allowed : (t : Terms) (l : Levels) (level : ℕ) (fs : List Frame) → l.least ≤ level → level ≤ l.most → AllFit t fs
    → Allowed t 0 l fs (fates_from t level l.since fs)
is_allowed t l level [] low high fit = tt
is_allowed t l level (f ∷ fs) low high fit =
    let q = t.price f.size in
    let gap = t.rate * (f.stamp - l.since) in
    let fits : q ≤ t.cap = fit.0 in
    let now = min t.cap (level + gap) in
    elim (cases_lt now q) [
      | inl less ↦ subst (Allowed t 0 l (f ∷ fs)) (sym (polices_on t level l.since now f fs (fates_from t now f.stamp fs) refl less refl))
          (lt-ltb (l.least + gap) (q + 2 * slack_of t 0) (omega arith), is_allowed t (after t 0 f.size false (credited t l f.stamp)) now fs (omega arith) (omega arith) fit.1)
      | inr more ↦ (let whole : now ≡ (now - q) + q = omega arith in
          subst (Allowed t 0 l (f ∷ fs)) (sym (passes_on t level l.since (now - q) f fs (fates_from t (now - q) f.stamp fs) whole refl))
          (le-leb q (l.most + gap) (omega arith), is_allowed t (after t 0 f.size true (credited t l f.stamp)) (now - q) fs (omega arith) (omega arith) fit.1))
    ]

pub allowed_is_a_level : AllowedIsALevel
allowed_is_a_level t l frames fates order fit = (
  to_level t l frames fates order fit,
  λ given. subst (Allowed t 0 l frames) given.3 (is_allowed t l given.0 frames given.1 given.2 fit),
)

pub at_rest_is_the_account : AtRestIsTheAccount
at_rest_is_the_account t frames fates fit = (
  λ may. let given = to_level t (at_rest t 0) frames fates (omega arith) fit may in
      let low : t.cap + 2 * (t.rate * 0) ≤ given.0 = given.1 in
      let high : given.0 ≤ t.cap + 2 * (t.rate * 0) = given.2 in
      let full : given.0 ≡ t.cap = omega arith in
      sym given.3 ∙ ap (λ (level : ℕ). fates_from t level 0 frames) full,
  λ same. subst (Allowed t 0 (at_rest t 0) frames) (sym same) (is_allowed t (at_rest t 0) t.cap frames (omega arith) (omega arith) fit),
)

pub chosen_stepped : (t : Terms) (level since : ℕ) (fs : List Frame) → chosen (fates_from t level since fs) fs ≡ stepped t level since fs
chosen_stepped t level since [] = refl
chosen_stepped t level since (f ∷ fs) =
    let now = credited_level t level (f.stamp - since) in
    elim (cases_Bool (nat_le (t.price f.size) now)) [
      | inl was ↦ rw was (ap (λ (gs : List Frame). f ∷ gs) (chosen_stepped t (now - t.price f.size) f.stamp fs))
      | inr not ↦ rw not (chosen_stepped t now f.stamp fs)
    ]
