-- Spells are apart and have all frames, and no others do.
use Rattle.std.proofs.Common.{◌≡◌, ℕ, ◌+◌, ◌<◌, ◌≤◌, true, false, cond, List, [], ◌∷◌, length, refl, sym, ap, subst, ◌∙◌, arith, inl, inr}
use Rattle.std.specs.Prelude.{nat_le, flat_map, sum_by}
use Rattle.std.proofs.lemmas.Bool.{cases_lt}
use Rattle.std.proofs.lemmas.Bool.Decides.{nat_tests}
use Rattle.std.proofs.lemmas.List.{length-append}
use Rattle.std.proofs.lemmas.List.Sums.{sum_by-cons}
use Rattle.afdx_spells.specs.declared.spell.Excess.{Excess}
use Rattle.afdx_spells.specs.declared.spell.Spell.{Spell}
use Rattle.afdx_spells.specs.Spells.{before_all, parted, spell_from, spell_in, spells_of}
use Rattle.afdx_spells.specs.Inner.Laws.{BeginsLater, AreSpells, HaveAll}

abbrev whole : List (List Excess) → List Excess
whole parts = flat_map (λ (part : List Excess). part) parts

within : (y x gap : ℕ) → y ≤ x + gap → nat_le y (x + gap) ≡ true
within y x gap le = grind (arith, nat_tests)

past : (y x gap : ℕ) → x + gap < y → nat_le y (x + gap) ≡ false
past y x gap lt = grind (arith, nat_tests)

-- one more before spells
joins : (gap : ℕ) (x : Excess) (frames : List Excess) (parts : List (List Excess)) → HaveAll gap frames parts → HaveAll gap (x ∷ frames) (before_all gap x parts)
joins gap x frames [] h = record { all = ap (λ (fs : List Excess). x ∷ fs) h.all; spells = (tt, tt, tt) }
joins gap x frames ([] ∷ parts) h = absurd h.spells
joins gap x frames ((y ∷ ys) ∷ parts) h =
    elim (cases_lt (x.at + gap) y.at) [
      | inl lt ↦ subst (HaveAll gap (x ∷ frames)) (ap (λ b. cond b ((x ∷ y ∷ ys) ∷ parts) ((x ∷ []) ∷ (y ∷ ys) ∷ parts)) (sym (past y.at x.at gap lt)))
          (record { all = ap (λ (fs : List Excess). x ∷ fs) h.all; spells = (tt, lt, h.spells) })
      | inr le ↦ subst (HaveAll gap (x ∷ frames)) (ap (λ b. cond b ((x ∷ y ∷ ys) ∷ parts) ((x ∷ []) ∷ (y ∷ ys) ∷ parts)) (sym (within y.at x.at gap le)))
          (record { all = ap (λ (fs : List Excess). x ∷ fs) h.all; spells = ((le, h.spells.0), h.spells.1, h.spells.2) })
    ]

pub have_all : (gap : ℕ) (frames : List Excess) → HaveAll gap frames (parted gap frames)
have_all gap [] = record { all = refl; spells = tt }
have_all gap (x ∷ frames) = joins gap x frames (parted gap frames) (have_all gap frames)

-- ---- no others do

abbrev first_or : Excess → List Excess → Excess
first_or d [] = d
first_or d (x ∷ frames) = x

abbrev after_first : List Excess → List Excess
after_first [] = []
after_first (x ∷ frames) = frames

alone : (gap : ℕ) (x : Excess) (parts : List (List Excess)) → BeginsLater gap x.at parts → (x ∷ []) ∷ parts ≡ before_all gap x parts
alone gap x [] later = refl
alone gap x ([] ∷ parts) later = absurd later
alone gap x ((z ∷ zs) ∷ parts) later = ap (λ b. cond b ((x ∷ z ∷ zs) ∷ parts) ((x ∷ []) ∷ (z ∷ zs) ∷ parts)) (sym (past z.at x.at gap later))

pub unique : (gap : ℕ) (frames : List Excess) (parts : List (List Excess)) → whole parts ≡ frames → AreSpells gap parts → parts ≡ parted gap frames
unique gap [] [] all spells = refl
unique gap [] ([] ∷ parts) all spells = absurd spells
unique gap [] ((x ∷ xs) ∷ parts) all spells = absurd (omega (arith, ap (λ (fs : List Excess). length fs) all))
unique gap (f ∷ frames) [] all spells = absurd (omega (arith, ap (λ (fs : List Excess). length fs) all))
unique gap (f ∷ frames) ([] ∷ parts) all spells = absurd spells
unique gap (f ∷ frames) ((x ∷ []) ∷ parts) all spells =
    let same : x ≡ f = ap (first_or x) all in
    let rest : whole parts ≡ frames = ap after_first all in
    let ih = unique gap frames parts rest spells.2 in
    alone gap x parts spells.1 ∙ (λ i. before_all gap (same i) (ih i))
unique gap (f ∷ frames) ((x ∷ z ∷ zs) ∷ parts) all spells =
    let same : x ≡ f = ap (first_or x) all in
    let rest : whole ((z ∷ zs) ∷ parts) ≡ frames = ap after_first all in
    let ih = unique gap frames ((z ∷ zs) ∷ parts) rest (spells.0.1, spells.1, spells.2) in
    ap (λ b. cond b ((x ∷ z ∷ zs) ∷ parts) ((x ∷ []) ∷ (z ∷ zs) ∷ parts)) (sym (within z.at x.at gap spells.0.0)) ∙ (λ i. before_all gap (same i) (ih i))

-- ---- each frame counts once

counted : (parts : List (List Excess)) → sum_by (λ (s : Spell). s.count) (flat_map spell_in parts) ≡ length (whole parts)
counted [] = refl
counted ([] ∷ parts) = counted parts
counted ((x ∷ xs) ∷ parts) =
    let ih = counted parts in
    let long = length-append xs (whole parts) in
    let more = sum_by-cons (λ (s : Spell). s.count) (spell_from x xs) (flat_map spell_in parts) in
    omega (arith, ih, long, more)

pub all_counted : (gap : ℕ) (frames : List Excess) → sum_by (λ (s : Spell). s.count) (spells_of gap frames) ≡ length frames
unfolding spells_of
all_counted gap frames = counted (parted gap frames) ∙ ap (λ (fs : List Excess). length fs) (have_all gap frames).all
