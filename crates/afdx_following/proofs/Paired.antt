-- Records of a port that are paired one after another.
use Rattle.std.proofs.Common.{◌≡◌, ℕ, zero, suc, ◌+◌, ◌<◌, List, [], ◌∷◌, ◌++◌, map, take, drop, length, Option, Some, None, get_or, refl, sym, ap, ◌∙◌, arith}
use Rattle.std.specs.Prelude.{slice_get}
use Rattle.std.specs.Option.{unwrap_or}
use Rattle.std.proofs.lemmas.List.{map-append, take_more, drop-drop}
use Rattle.std.proofs.lemmas.Option.{unwrap_or-slice_get, slice_get_within}
use Rattle.afdx_pairing.specs.Events.{Numbered}
use Rattle.afdx_pairing.specs.declared.event.Event.{Event}
use Rattle.afdx_pairing.specs.Pairing.{Pairing, with_left, left_told}
use Rattle.afdx_pairing.specs.Kept.{Sight, Left}
use Rattle.afdx_following.specs.Output.{Found, Output, with_told, with_sight, with_sights, settled, paired_up_to}

-- so many of the records that wait are paired
abbrev pub with_pairs : ℕ → Output → Output
with_pairs k o = with_sights (map Left (take k o.waiting)) (record o { waiting = drop k o.waiting })

sights_more : (ss : List Sight) (s : Sight) (o : Output) → with_sights (ss ++ s ∷ []) o ≡ with_sight s (with_sights ss o)
sights_more [] s o = refl
sights_more (x ∷ ss) s o = sights_more ss s (with_sight x o)

waiting_beside : (ss : List Sight) (o : Output) (ws : List Numbered) → with_sights ss (record o { waiting = ws }) ≡ record (with_sights ss o) { waiting = ws }
waiting_beside [] o ws = refl
waiting_beside (s ∷ ss) o ws = waiting_beside ss (with_sight s o) ws

pub sights_keep : (ss : List Sight) (o : Output) → (with_sights ss o).waiting ≡ o.waiting
sights_keep [] o = refl
sights_keep (s ∷ ss) o = sights_keep ss (with_sight s o)

first_of_rest : {X : Type 0} (k : ℕ) (xs : List X) → slice_get (drop k xs) 0 ≡ slice_get xs k
first_of_rest zero xs = refl
first_of_rest (suc k) [] = refl
first_of_rest (suc k) (x ∷ xs) = first_of_rest k xs

rest_of : (o now : Output) (k : ℕ) → now ≡ with_pairs k o → now.waiting ≡ drop k o.waiting
rest_of o now k is = ap (λ (x : Output). x.waiting) is ∙ sights_keep (map Left (take k o.waiting)) (record o { waiting = drop k o.waiting })

first_is : (o now : Output) (k : ℕ) → now ≡ with_pairs k o → slice_get now.waiting 0 ≡ slice_get o.waiting k
first_is o now k is = ap (λ (ws : List Numbered). slice_get ws 0) (rest_of o now k is) ∙ first_of_rest k o.waiting

pub pairs_next : (o now new : Output) (k : ℕ) (left : Numbered) → now ≡ with_pairs k o → slice_get now.waiting 0 ≡ Some left
    → new ≡ with_sight (Left left) (record now { waiting = drop 1 now.waiting }) → new ≡ with_pairs (k + 1) o
pairs_next o now new k left is first new_is =
    let ws = o.waiting in
    let ss = map Left (take k ws) in
    let rest = drop (k + 1) ws in
    let here : slice_get ws k ≡ Some left = sym (first_is o now k is) ∙ first in
    let item : get_or ws k left ≡ left = sym (unwrap_or-slice_get ws k left) ∙ ap (λ (x : Option Numbered). unwrap_or x left) here in
    let more : take (k + 1) ws ≡ take k ws ++ left ∷ [] =
    take_more ws k left (slice_get_within ws k left here) ∙ ap (λ (n : Numbered). take k ws ++ n ∷ []) item in
    let sights : ss ++ Left left ∷ [] ≡ map Left (take (k + 1) ws) = sym (map-append Left (take k ws) (left ∷ [])) ∙ ap (λ (ns : List Numbered). map Left ns) (sym more) in
    let waits : drop 1 now.waiting ≡ rest = ap (λ (ns : List Numbered). drop 1 ns) (rest_of o now k is) ∙ drop-drop 1 k ws in
    new_is
    ∙ ap (λ (ns : List Numbered). with_sight (Left left) (record now { waiting = ns })) waits
    ∙ ap (λ (x : Output). with_sight (Left left) (record x { waiting = rest })) is
    ∙ ap (λ (x : Output). with_sight (Left left) x) (sym (waiting_beside ss (record o { waiting = drop k ws }) rest))
    ∙ sym (sights_more ss (Left left) (record o { waiting = rest }))
    ∙ ap (λ (xs : List Sight). with_sights xs (record o { waiting = rest })) sights

-- one waits where not all are paired
pub one_waits : (o now : Output) (k : ℕ) → now ≡ with_pairs k o → k < length o.waiting → slice_get now.waiting 0 ≡ None → ⊥
one_waits o now k is lt none = within o.waiting k lt (sym (first_is o now k is) ∙ none)
  where
    within : (ws : List Numbered) (i : ℕ) → i < length ws → slice_get ws i ≡ None → ⊥
    within [] i lt none = omega (arith, lt)
    within (w ∷ ws) zero lt none = cc
    within (w ∷ ws) (suc i) lt none = within ws i (omega (arith, lt)) none

pub pairs_end : (unknown : Option ℕ) (o now : Output) (k count : ℕ) → now ≡ with_pairs k o → count ≡ settled unknown o → k ≡ count → now ≡ paired_up_to unknown o
pairs_end unknown o now k count is count_is all = is ∙ ap (λ (i : ℕ). with_pairs i o) (all ∙ count_is)

-- one record is paired
pub sight_made : (o : Output) (left : Numbered) (p : Pairing) (found : Found) (told : List Event) → p ≡ with_left o.pairing left → told ≡ left_told o.pairing left
    → found ≡ with_told told o.found → record o { pairing = p; found = found } ≡ with_sight (Left left) o
sight_made o left p found told p_is told_is found_is =
    ap (λ (q : Pairing). record o { pairing = q; found = found }) p_is
    ∙ ap (λ (f : Found). record o { pairing = with_left o.pairing left; found = f }) (found_is ∙ ap (λ (events : List Event). with_told events o.found) told_is)
