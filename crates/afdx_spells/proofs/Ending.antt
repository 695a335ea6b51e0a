-- One more frame after all others joins the last spell, or begins one.
use Rattle.std.proofs.Common.{◌≡◌, ℕ, ◌+◌, ◌-◌, ◌<◌, true, false, cond, List, [], ◌∷◌, ◌++◌, length, get_or, set, slice_get, take, Some, add-one, append_assoc, refl, sym, ap, ◌∙◌, arith, inl, inr}
use Rattle.std.specs.Prelude.{nat_le, flat_map}
use Rattle.std.proofs.Math.Seq.{take-length, take-suc, take-suc-set}
use Rattle.std.proofs.lemmas.Bool.{cases_Bool}
use Rattle.std.proofs.lemmas.List.{length-append, length-set, same_from_push}
use Rattle.std.proofs.lemmas.Option.{slice_get-get_or}
use Rattle.afdx_spells.specs.declared.spell.Excess.{Excess}
use Rattle.afdx_spells.specs.declared.spell.Spell.{Spell}
use Rattle.afdx_spells.specs.Spells.{before_all, parted, last_at, last_of, goes_on, spell_from, spell_in, spells_of}

-- the last of some spells, and what becomes of them where x comes after their frames
record Ends (gap : ℕ) (x : Excess) (now later : List (List Excess)) : Type 0 where
  init : List (List Excess)
  first : Excess
  rest : List Excess
  now_is : now ≡ init ++ (first ∷ rest) ∷ []
  joined : nat_le x.at (last_at first.at rest + gap) ≡ true → later ≡ init ++ (first ∷ rest ++ x ∷ []) ∷ []
  apart : nat_le x.at (last_at first.at rest + gap) ≡ false → later ≡ init ++ (first ∷ rest) ∷ (x ∷ []) ∷ []

into_first : (gap : ℕ) (f y : Excess) (ys : List Excess) (parts : List (List Excess)) → nat_le y.at (f.at + gap) ≡ true → before_all gap f ((y ∷ ys) ∷ parts) ≡ (f ∷ y ∷ ys) ∷ parts
into_first gap f y ys parts e = ap (λ b. cond b ((f ∷ y ∷ ys) ∷ parts) ((f ∷ []) ∷ (y ∷ ys) ∷ parts)) e

before_first : (gap : ℕ) (f y : Excess) (ys : List Excess) (parts : List (List Excess)) → nat_le y.at (f.at + gap) ≡ false → before_all gap f ((y ∷ ys) ∷ parts) ≡ (f ∷ []) ∷ (y ∷ ys) ∷ parts
before_first gap f y ys parts e = ap (λ b. cond b ((f ∷ y ∷ ys) ∷ parts) ((f ∷ []) ∷ (y ∷ ys) ∷ parts)) e

-- a frame before all of them changes nothing of that
step : (gap : ℕ) (f x : Excess) (now later init : List (List Excess)) (first : Excess) (rest : List Excess) → now ≡ init ++ (first ∷ rest) ∷ []
    → (nat_le x.at (last_at first.at rest + gap) ≡ true → later ≡ init ++ (first ∷ rest ++ x ∷ []) ∷ [])
    → (nat_le x.at (last_at first.at rest + gap) ≡ false → later ≡ init ++ (first ∷ rest) ∷ (x ∷ []) ∷ [])
    → Ends gap x (before_all gap f now) (before_all gap f later)
step gap f x now later [] first rest is joined apart = elim (cases_Bool (nat_le first.at (f.at + gap))) [
  | inl hit ↦ record {
    init = [];
    first = f;
    rest = first ∷ rest;
    now_is = ap (before_all gap f) is ∙ into_first gap f first rest [] hit;
    joined = λ e. ap (before_all gap f) (joined e) ∙ into_first gap f first (rest ++ x ∷ []) [] hit;
    apart = λ e. ap (before_all gap f) (apart e) ∙ into_first gap f first rest ((x ∷ []) ∷ []) hit;
  }
  | inr miss ↦ record {
    init = (f ∷ []) ∷ [];
    first = first;
    rest = rest;
    now_is = ap (before_all gap f) is ∙ before_first gap f first rest [] miss;
    joined = λ e. ap (before_all gap f) (joined e) ∙ before_first gap f first (rest ++ x ∷ []) [] miss;
    apart = λ e. ap (before_all gap f) (apart e) ∙ before_first gap f first rest ((x ∷ []) ∷ []) miss;
  }
]
step gap f x now later ([] ∷ init) first rest is joined apart = record {
  init = (f ∷ []) ∷ init;
  first = first;
  rest = rest;
  now_is = ap (before_all gap f) is;
  joined = λ e. ap (before_all gap f) (joined e);
  apart = λ e. ap (before_all gap f) (apart e);
}
step gap f x now later ((y ∷ ys) ∷ init) first rest is joined apart = elim (cases_Bool (nat_le y.at (f.at + gap))) [
  | inl hit ↦ record {
    init = (f ∷ y ∷ ys) ∷ init;
    first = first;
    rest = rest;
    now_is = ap (before_all gap f) is ∙ into_first gap f y ys _ hit;
    joined = λ e. ap (before_all gap f) (joined e) ∙ into_first gap f y ys _ hit;
    apart = λ e. ap (before_all gap f) (apart e) ∙ into_first gap f y ys _ hit;
  }
  | inr miss ↦ record {
    init = (f ∷ []) ∷ (y ∷ ys) ∷ init;
    first = first;
    rest = rest;
    now_is = ap (before_all gap f) is ∙ before_first gap f y ys _ miss;
    joined = λ e. ap (before_all gap f) (joined e) ∙ before_first gap f y ys _ miss;
    apart = λ e. ap (before_all gap f) (apart e) ∙ before_first gap f y ys _ miss;
  }
]

ends : (gap : ℕ) (x f : Excess) (frames : List Excess) → Ends gap x (parted gap (f ∷ frames)) (parted gap (f ∷ frames ++ x ∷ []))
ends gap x f [] = record {
  init = [];
  first = f;
  rest = [];
  now_is = refl;
  joined = λ e. into_first gap f x [] [] e;
  apart = λ e. before_first gap f x [] [] e;
}
ends gap x f (g ∷ frames) =
    let h = ends gap x g frames in
    step gap f x (parted gap (g ∷ frames)) (parted gap (g ∷ frames ++ x ∷ [])) h.init h.first h.rest h.now_is h.joined h.apart

-- ---- what is reported

reported : (parts more : List (List Excess)) → flat_map spell_in (parts ++ more) ≡ flat_map spell_in parts ++ flat_map spell_in more
reported [] more = refl
reported ([] ∷ parts) more = reported parts more
reported ((x ∷ xs) ∷ parts) more = ap (λ ss. spell_from x xs ∷ ss) (reported parts more)

-- after some spells, the last of which is s, x joins it or begins one
pub record Notes (gap : ℕ) (frames : List Excess) (x : Excess) (before : List Spell) (s : Spell) : Type 0 where
  pub first : Excess
  pub rest : List Excess
  pub last_is : s ≡ spell_from first rest
  pub joined : nat_le x.at (s.last + gap) ≡ true → before ++ spell_from first (rest ++ x ∷ []) ∷ [] ≡ spells_of gap (frames ++ x ∷ [])
  pub apart : nat_le x.at (s.last + gap) ≡ false → before ++ s ∷ spell_from x [] ∷ [] ≡ spells_of gap (frames ++ x ∷ [])

pub notes : (gap : ℕ) (frames : List Excess) (x : Excess) (before : List Spell) (s : Spell) → before ++ s ∷ [] ≡ spells_of gap frames → Notes gap frames x before s
unfolding spells_of
notes gap [] x before s is = absurd (let n = ap (λ (ss : List Spell). length ss) is in let m = length-append before (s ∷ []) in omega (arith, n, m))
notes gap (f ∷ frames) x before s is =
    let h = ends gap x f frames in
    let spells = flat_map spell_in h.init in
    let was = is ∙ ap (flat_map spell_in) h.now_is ∙ reported h.init ((h.first ∷ h.rest) ∷ []) in
    let both = same_from_push before spells s (spell_from h.first h.rest) was in
    let at = ap (λ (t : Spell). nat_le x.at (t.last + gap)) both.1 in
    record {
      first = h.first;
      rest = h.rest;
      last_is = both.1;
      joined = λ e. ap (λ ss. ss ++ spell_from h.first (h.rest ++ x ∷ []) ∷ []) both.0 ∙ sym (ap (flat_map spell_in) (h.joined (sym at ∙ e)) ∙ reported h.init ((h.first ∷ h.rest ++ x ∷ []) ∷ []));
      apart = λ e. (λ i. both.0 i ++ both.1 i ∷ spell_from x [] ∷ []) ∙ sym (ap (flat_map spell_in) (h.apart (sym at ∙ e)) ∙ reported h.init ((h.first ∷ h.rest) ∷ (x ∷ []) ∷ []));
    }

-- the first frame of all
pub noted_first : (gap : ℕ) (frames : List Excess) (x : Excess) → [] ≡ spells_of gap frames → spell_from x [] ∷ [] ≡ spells_of gap (frames ++ x ∷ [])
unfolding spells_of
noted_first gap [] x is = refl
noted_first gap (f ∷ frames) x is = absurd (
    let h = ends gap x f frames in
    let n = ap (λ (ss : List Spell). length ss) (is ∙ ap (flat_map spell_in) h.now_is ∙ reported h.init ((h.first ∷ h.rest) ∷ [])) in
    let m = length-append (flat_map spell_in h.init) (spell_from h.first h.rest ∷ []) in
    omega (arith, n, m))

-- ---- by the last of all spells

-- some spells, by the last one
by_last : (spells : List Spell) (k : ℕ) (d : Spell) → k + 1 ≡ length spells → spells ≡ take k spells ++ get_or spells k d ∷ []
by_last spells k d is =
    let lt : k < length spells = omega (arith, is) in
    sym (take-length spells) ∙ ap (λ n. take n spells) (sym is ∙ add-one k) ∙ take-suc spells k d lt

-- the same with another one in its place
pub by_other : (spells : List Spell) (k : ℕ) (s : Spell) → k + 1 ≡ length spells → set spells k s ≡ take k spells ++ s ∷ []
by_other spells k s is =
    let lt : k < length spells = omega (arith, is) in
    sym (take-length (set spells k s)) ∙ ap (λ n. take n (set spells k s)) (length-set spells k s ∙ sym is ∙ add-one k) ∙ take-suc-set spells k s lt

-- there is a last one
pub last_is : (spells : List Spell) (k : ℕ) (d : Spell) → k + 1 ≡ length spells → last_of spells ≡ Some (get_or spells k d)
last_is spells k d is =
    let lt : k < length spells = omega (arith, is) in
    let at : length spells - 1 ≡ k = omega (arith, is) in
    ap (slice_get spells) at ∙ slice_get-get_or spells k d lt

-- what becomes of it
pub notes_last : (gap : ℕ) (frames : List Excess) (x : Excess) (spells : List Spell) (k : ℕ) (d : Spell) → k + 1 ≡ length spells → spells ≡ spells_of gap frames
    → Notes gap frames x (take k spells) (get_or spells k d)
notes_last gap frames x spells k d is are = notes gap frames x (take k spells) (get_or spells k d) (sym (by_last spells k d is) ∙ are)

-- a frame that does not go on with it begins one
pub begins : (gap : ℕ) (frames : List Excess) (x : Excess) (spells : List Spell) → spells ≡ spells_of gap frames → goes_on gap (last_of spells) x ≡ false
    → spells ++ spell_from x [] ∷ [] ≡ spells_of gap (frames ++ x ∷ [])
begins gap frames x [] are apart = noted_first gap frames x are
begins gap frames x (s ∷ spells) are apart =
    let all = s ∷ spells in
    let k = length spells in
    let is : k + 1 ≡ length all = omega arith in
    let last = get_or all k s in
    ap (λ ss. ss ++ spell_from x [] ∷ []) (by_last all k s is) ∙ append_assoc (take k all) (last ∷ []) (spell_from x [] ∷ [])
    ∙ (notes_last gap frames x all k s is are).apart (sym (ap (λ o. goes_on gap o x) (last_is all k s is)) ∙ apart)

-- if a frame goes on with the last one, there is one
pub some_last : (gap : ℕ) (x : Excess) (spells : List Spell) → goes_on gap (last_of spells) x ≡ true → 0 < length spells
some_last gap x [] on = absurd cc
some_last gap x (s ∷ spells) on = omega arith
