-- What is told step by step is what is told of a record.
use Rattle.std.proofs.Common.{◌≡◌, ℕ, zero, suc, ◌+◌, true, List, [], ◌∷◌, ◌++◌, take, drop, Option, refl, ap, ◌∙◌, append_assoc}
use Rattle.std.specs.Prelude.{slice_get}
use Rattle.std.proofs.lemmas.List.{drop-drop}
use Rattle.afdx_pairing.specs.declared.event.Event.{Event}
use Rattle.afdx_pairing.specs.Events.{Numbered}
use Rattle.afdx_pairing.specs.Limits.{left_at}
use Rattle.afdx_pairing.specs.Pairing.{Pairing, gone_by, kept_at, partner, missing, paired, taken_with, pairing_told, with_left, left_told}

pub first_of_rest : {X : Type 0} (i : ℕ) (xs : List X) → slice_get (drop i xs) 0 ≡ slice_get xs i
first_of_rest zero xs = refl
first_of_rest (suc i) [] = refl
first_of_rest (suc i) (x ∷ xs) = first_of_rest i xs

pub pair_rests : (p q r : Pairing) (place : ℕ) → q ≡ record p { waiting = drop place p.waiting } → r ≡ record q { waiting = drop 1 q.waiting; begun = true }
    → r ≡ record p { waiting = drop (place + 1) p.waiting; begun = true }
pair_rests p q r place q_is r_is =
    r_is
    ∙ ap (λ (s : Pairing). record s { waiting = drop 1 s.waiting; begun = true }) q_is
    ∙ ap (λ (ws : List Numbered). record p { waiting = ws; begun = true }) (drop-drop 1 place p.waiting)

pub pair_tells : (old mid new : List Event) (p q : Pairing) (place : ℕ) (left : Numbered) → mid ≡ old ++ missing (take place p.waiting)
    → q ≡ record p { waiting = drop place p.waiting } → new ≡ mid ++ taken_with q.limits (slice_get q.waiting 0) left
    → new ≡ old ++ (missing (take place p.waiting) ++ taken_with p.limits (slice_get p.waiting place) left)
pair_tells old mid new p q place left mid_is q_is new_is =
    new_is
    ∙ ap (λ (m : List Event). m ++ taken_with q.limits (slice_get q.waiting 0) left) mid_is
    ∙ ap (λ (r : Pairing). (old ++ missing (take place p.waiting)) ++ taken_with r.limits (slice_get r.waiting 0) left) q_is
    ∙ append_assoc old (missing (take place p.waiting)) (taken_with p.limits (slice_get (drop place p.waiting) 0) left)
    ∙ ap (λ (o : Option Numbered). old ++ (missing (take place p.waiting) ++ taken_with p.limits o left)) (first_of_rest place p.waiting)

pub left_is : (p q r : Pairing) (at : ℕ) (left : Numbered) → at ≡ left_at p.limits left.frame → q ≡ kept_at at p
    → r ≡ paired (partner q left.frame) q → r ≡ with_left p left
left_is p q r at left at_is q_is r_is =
    r_is ∙ ap (λ (s : Pairing). paired (partner s left.frame) s) (q_is ∙ ap (λ (n : ℕ). kept_at n p) at_is)

pub left_tells : (old mid new : List Event) (p q : Pairing) (at : ℕ) (left : Numbered) → at ≡ left_at p.limits left.frame → q ≡ kept_at at p
    → mid ≡ old ++ missing (take (gone_by p.limits at p.waiting) p.waiting) → new ≡ mid ++ pairing_told (partner q left.frame) q left
    → new ≡ old ++ left_told p left
left_tells old mid new p q at left at_is q_is mid_is new_is =
    let gone = missing (take (gone_by p.limits at p.waiting) p.waiting) in
    new_is
    ∙ ap (λ (m : List Event). m ++ pairing_told (partner q left.frame) q left) mid_is
    ∙ ap (λ (s : Pairing). (old ++ gone) ++ pairing_told (partner s left.frame) s left) q_is
    ∙ append_assoc old gone (pairing_told (partner (kept_at at p) left.frame) (kept_at at p) left)
    ∙ ap (λ (n : ℕ). old ++ (missing (take (gone_by p.limits n p.waiting) p.waiting) ++ pairing_told (partner (kept_at n p) left.frame) (kept_at n p) left)) at_is
