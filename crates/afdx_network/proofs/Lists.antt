-- What holds of each element of a list, and filters.
use Rattle.std.proofs.Common.{◌≡◌, ◌+◌, ℕ, zero, suc, Bool, true, false, cond, List, [], ◌∷◌, ◌++◌, length, map, filter, slice_get, Some, refl, ap, ◌∙◌, inl, inr, subst}
use Rattle.std.specs.List.{AllByRecursion, AllZip}
use Rattle.std.proofs.lemmas.Bool.{cases_Bool}
use Rattle.std.proofs.lemmas.Option.{same_Some}
use Rattle.afdx_account.specs.declared.frame.Frame.{Frame}
use Rattle.afdx_account.specs.Policing.{Terms, conforms, passed_after}

pub all_weaken : {X : Type 0} (P Q : X → Type 0) (xs : List X) → ((x : X) → P x → Q x) → AllByRecursion P xs → AllByRecursion Q xs
all_weaken P Q [] h all = tt
all_weaken P Q (x ∷ xs) h all = (h x all.0, all_weaken P Q xs h all.1)

pub all_map : {X Y : Type 0} (P : Y → Type 0) (f : X → Y) (xs : List X) → AllByRecursion (λ x. P (f x)) xs → AllByRecursion P (map f xs)
all_map P f [] all = tt
all_map P f (x ∷ xs) all = (all.0, all_map P f xs all.1)

pub all_unmap : {X Y : Type 0} (P : Y → Type 0) (f : X → Y) (xs : List X) → AllByRecursion P (map f xs) → AllByRecursion (λ x. P (f x)) xs
all_unmap P f [] all = tt
all_unmap P f (x ∷ xs) all = (all.0, all_unmap P f xs all.1)

-- what holds of those that a test lets through
pub all_tested : {X : Type 0} (P : X → Type 0) (p : X → Bool) (xs : List X) → AllByRecursion P (filter p xs) → AllByRecursion (λ x. p x ≡ true → P x) xs
all_tested P p [] all = tt
all_tested P p (x ∷ xs) all = by (p x) refl (all_tested P p xs) all where
  by : (b : Bool) → p x ≡ b → (AllByRecursion P (filter p xs) → AllByRecursion (λ y. p y ≡ true → P y) xs)
      → AllByRecursion P (cond b (x ∷ filter p xs) (filter p xs)) → (p x ≡ true → P x) × AllByRecursion (λ y. p y ≡ true → P y) xs
  by true is rest all = (λ h. all.0, rest all.1)
  by false not rest all = (λ is. absurd cc, rest all)

pub filter_of_map : {X Y : Type 0} (p : Y → Bool) (f : X → Y) (xs : List X) → filter p (map f xs) ≡ map f (filter (λ x. p (f x)) xs)
filter_of_map p f [] = refl
filter_of_map p f (x ∷ xs) = by (p (f x)) (filter_of_map p f xs) where
  by : (b : Bool) → filter p (map f xs) ≡ map f (filter (λ y. p (f y)) xs)
      → cond b (f x ∷ filter p (map f xs)) (filter p (map f xs)) ≡ map f (cond b (x ∷ filter (λ y. p (f y)) xs) (filter (λ y. p (f y)) xs))
  by true rest = ap (λ ys. f x ∷ ys) rest
  by false rest = rest

pub filter_alike : {X : Type 0} (p q : X → Bool) (xs : List X) → AllByRecursion (λ x. p x ≡ q x) xs → filter p xs ≡ filter q xs
filter_alike p q [] all = refl
filter_alike p q (x ∷ xs) all =
    ap (λ b. cond b (x ∷ filter p xs) (filter p xs)) all.0 ∙ ap (λ ys. cond (q x) (x ∷ ys) ys) (filter_alike p q xs all.1)

-- what is passed is a part of what was offered
pub all_passed : {X : Type 0} (P : X → Type 0) (frame_of : X → Frame) (t : Terms) (before : List Frame) (xs : List X)
    → AllByRecursion P xs → AllByRecursion P (passed_after frame_of t before xs)
all_passed P frame_of t before [] all = tt
all_passed P frame_of t before (x ∷ xs) all =
    elim (cases_Bool (conforms t before (frame_of x))) [
      | inl was ↦ rw was (all.0, all_passed P frame_of t (before ++ frame_of x ∷ []) xs all.1)
      | inr not ↦ rw not (all_passed P frame_of t before xs all.1)
    ]

pub zip_weaken : {X Y : Type 0} (R S : X → Y → Type 0) (xs : List X) (ys : List Y) → ((x : X) (y : Y) → R x y → S x y) → AllZip R xs ys → AllZip S xs ys
zip_weaken R S [] [] h zip = tt
zip_weaken R S [] (y ∷ ys) h zip = absurd zip
zip_weaken R S (x ∷ xs) [] h zip = absurd zip
zip_weaken R S (x ∷ xs) (y ∷ ys) h zip = (h x y zip.0, zip_weaken R S xs ys h zip.1)

pub all_append : {X : Type 0} (P : X → Type 0) (xs ys : List X) → AllByRecursion P xs → AllByRecursion P ys → AllByRecursion P (xs ++ ys)
all_append P [] ys one other = other
all_append P (x ∷ xs) ys one other = (one.0, all_append P xs ys one.1 other)

-- what a filter keeps is a part of what was there
pub all_kept : {X : Type 0} (P : X → Type 0) (p : X → Bool) (xs : List X) → AllByRecursion P xs → AllByRecursion P (filter p xs)
all_kept P p [] all = tt
all_kept P p (x ∷ xs) all = by (all_kept P p xs all.1) (p x) where
  by : AllByRecursion P (filter p xs) → (b : Bool) → AllByRecursion P (cond b (x ∷ filter p xs) (filter p xs))
  by rest true = (all.0, rest)
  by rest false = rest

-- ---- lists side by side

pub zip_long : {X Y : Type 0} (P : X → Y → Type 0) (xs : List X) (ys : List Y) → AllZip P xs ys → length ys ≡ length xs
zip_long P [] [] zip = refl
zip_long P [] (y ∷ ys) zip = absurd zip
zip_long P (x ∷ xs) [] zip = absurd zip
zip_long P (x ∷ xs) (y ∷ ys) zip = ap suc (zip_long P xs ys zip.1)

pub zip_back : {X Y : Type 0} (P : X → Y → Type 0) (xs : List X) (ys : List Y) → AllZip P xs ys → (k : ℕ) (y : Y) → slice_get ys k ≡ Some y → (x : X) × (slice_get xs k ≡ Some x) × P x y
zip_back P [] [] zip k y is = absurd cc
zip_back P [] (z ∷ ys) zip k y is = absurd zip
zip_back P (x ∷ xs) [] zip k y is = absurd zip
zip_back P (x ∷ xs) (z ∷ ys) zip zero y is = (x, refl, subst (P x) (same_Some z y is) zip.0)
zip_back P (x ∷ xs) (z ∷ ys) zip (suc k) y is = zip_back P xs ys zip.1 k y is

pub zip_append : {X Y : Type 0} (P : X → Y → Type 0) (xs more : List X) (ys further : List Y) → AllZip P xs ys → AllZip P more further → AllZip P (xs ++ more) (ys ++ further)
zip_append P [] more [] further zip rest = rest
zip_append P [] more (y ∷ ys) further zip rest = absurd zip
zip_append P (x ∷ xs) more [] further zip rest = absurd zip
zip_append P (x ∷ xs) more (y ∷ ys) further zip rest = (zip.0, zip_append P xs more ys further zip.1 rest)
