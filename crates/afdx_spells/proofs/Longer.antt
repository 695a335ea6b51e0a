-- A spell with one frame more.
use Rattle.std.proofs.Common.{◌≡◌, ℕ, ◌+◌, min, max, List, [], ◌∷◌, ◌++◌, length, map, refl, sym, ap, ◌∙◌}
use Rattle.std.specs.List.{fold}
use Rattle.std.proofs.lemmas.List.{length_push, map_push}
use Rattle.afdx_spells.specs.declared.spell.Excess.{Excess}
use Rattle.afdx_spells.specs.Spells.{last_at, spell_from}

last_push : (at : ℕ) (frames : List Excess) (x : Excess) → last_at at (frames ++ x ∷ []) ≡ x.at
last_push at [] x = refl
last_push at (y ∷ frames) x = last_push y.at frames x

fold_push : {X Y : Type 0} (f : Y → X → Y) (a : Y) (xs : List X) (x : X) → fold f a (xs ++ x ∷ []) ≡ f (fold f a xs) x
fold_push f a [] x = refl
fold_push f a (y ∷ ys) x = fold_push f (f a y) ys x

-- what is reported of a spell and one frame more
pub longer : (x : Excess) (frames : List Excess) (y : Excess) (least greatest : ℕ) → least ≡ min (spell_from x frames).least y.early
    → greatest ≡ max (spell_from x frames).greatest y.early
    → record { count = (spell_from x frames).count + 1; first = x.at; last = y.at; least = least; greatest = greatest } ≡ spell_from x (frames ++ y ∷ [])
longer x frames y least greatest least_is greatest_is =
    let earlies = map_push (λ (z : Excess). z.early) frames y in
    let count : length frames + 1 + 1 ≡ length (frames ++ y ∷ []) + 1 = ap (λ n. n + 1) (sym (length_push frames y)) in
    let last : y.at ≡ last_at x.at (frames ++ y ∷ []) = sym (last_push x.at frames y) in
    let least' = least_is ∙ sym (ap (fold min x.early) earlies ∙ fold_push min x.early (map (λ (z : Excess). z.early) frames) y.early) in
    let greatest' = greatest_is ∙ sym (ap (fold max x.early) earlies ∙ fold_push max x.early (map (λ (z : Excess). z.early) frames) y.early) in
    λ i. record { count = count i; first = x.at; last = last i; least = least' i; greatest = greatest' i }
