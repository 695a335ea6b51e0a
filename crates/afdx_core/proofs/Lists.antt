-- What f gives of each element and those before it, for one more element.
use Rattle.std.proofs.Common.{◌≡◌, ◌+◌, Bool, true, false, cond, List, [], ◌∷◌, ◌++◌, length, map, Option, Some, option_map, find, All, refl, ap, sym, ◌∙◌}
use Rattle.std.proofs.Common.{append_assoc, length-append}
use Rattle.std.specs.List.{AllByRecursion}
use Rattle.std.proofs.lemmas.List.{append-nil}
use Rattle.std.proofs.lemmas.List.Elements.{All-cons, All-nil}
use Rattle.afdx_core.specs.Rows.{each_after}

pub each-push : {X Y : Type 0} (f : List X → X → List Y) (before xs : List X) (x : X) → each_after f before (xs ++ x ∷ []) ≡ each_after f before xs ++ f (before ++ xs) x
each-push f before [] x = append-nil (f before x) ∙ ap (λ b. f b x) (sym (append-nil before))
each-push f before (y ∷ xs) x =
    ap (λ r. f before y ++ r) (each-push f (before ++ y ∷ []) xs x ∙ ap (λ b. each_after f (before ++ y ∷ []) xs ++ f b x) (append_assoc before (y ∷ []) xs))
    ∙ sym (append_assoc (f before y) (each_after f (before ++ y ∷ []) xs) (f (before ++ y ∷ xs) x))

chosen : {X Y : Type 0} (f : X → Y) (b : Bool) (x : X) (ys : Option Y) (xs : Option X) → ys ≡ option_map f xs → cond b (Some (f x)) ys ≡ option_map f (cond b (Some x) xs)
chosen f true x ys xs e = refl
chosen f false x ys xs e = e

pub find-map : {X Y : Type 0} (f : X → Y) (p : Y → Bool) (xs : List X) → find p (map f xs) ≡ option_map f (find (λ x. p (f x)) xs)
find-map f p [] = refl
find-map f p (x ∷ xs) = chosen f (p (f x)) x (find p (map f xs)) (find (λ x. p (f x)) xs) (find-map f p xs)

pub All-from : {X : Type 0} (P : X → Type 0) (xs : List X) → AllByRecursion P xs → All P xs
All-from P [] all = All-nil P
All-from P (x ∷ xs) all = All-cons P x xs all.0 (All-from P xs all.1)

pub length_more : {X : Type 0} (xs : List X) (x : X) → length (xs ++ x ∷ []) ≡ length xs + 1
length_more xs x = length-append xs (x ∷ [])
