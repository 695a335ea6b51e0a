-- Frames that are gone by an instant: let go then or later, they are told the same, in the same order.
use Rattle.std.proofs.Common.{◌≡◌, ℕ, suc, ◌+◌, ◌*◌, ◌≤◌, Bool, true, false, List, [], ◌∷◌, ◌++◌, map, take, drop}
use Rattle.std.proofs.Common.{Option, Some, None, refl, sym, ap, ◌∙◌, arith, inl, inr}
use Rattle.std.specs.Prelude.{if◌then◌else◌}
use Rattle.std.proofs.lemmas.Bool.{cases_Bool, leb-true, leb-false, le-leb, lt-leb, le-ltb}
use Rattle.std.proofs.lemmas.List.{map-append}
use Rattle.afdx_pairing.specs.declared.limits.Limits.{Limits}
use Rattle.afdx_pairing.specs.declared.event.Event.{Event}
use Rattle.afdx_pairing.specs.declared.event.Event.TheVariants.{Missing, After}
use Rattle.afdx_pairing.specs.Events.{Numbered, mark_of}
use Rattle.afdx_pairing.specs.Limits.{most_of, stays}
use Rattle.afdx_pairing.specs.Pairing.{Pairing, with_frame, gone_by, kept_at, missing, gone_told, ended, end_told}
use Rattle.afdx_pairing.proofs.Firsts.{first_here, first_later}
use Rattle.afdx_compare_laws.specs.Fine.{IsByEnd}
use Rattle.afdx_compare_laws.proofs.Ending.{later_of}

-- ---- frames in their order

module _ (m : Limits) where
  abbrev kept : ℕ → List Numbered → List Numbered
  kept at ns = drop (gone_by m at ns) ns

  abbrev gone : ℕ → List Numbered → List Numbered
  gone at ns = take (gone_by m at ns) ns

  none_gone : (at : ℕ) (n : Numbered) (ns : List Numbered) → stays m at n.frame ≡ true → gone_by m at (n ∷ ns) ≡ 0
  none_gone at n ns is = first_here (λ (x : Numbered). stays m at x.frame) n ns is

  one_gone : (at : ℕ) (n : Numbered) (ns : List Numbered) → stays m at n.frame ≡ false → gone_by m at (n ∷ ns) ≡ suc (gone_by m at ns)
  one_gone at n ns isnt =
      first_later (λ (x : Numbered). stays m at x.frame) n ns isnt ∙ (let next : 1 + gone_by m at ns ≡ suc (gone_by m at ns) = omega arith in next)

  kept_all : (at : ℕ) (n : Numbered) (ns : List Numbered) → stays m at n.frame ≡ true → kept at (n ∷ ns) ≡ n ∷ ns
  kept_all at n ns is = ap (λ (k : ℕ). drop k (n ∷ ns)) (none_gone at n ns is)

  gone_none : (at : ℕ) (n : Numbered) (ns : List Numbered) → stays m at n.frame ≡ true → gone at (n ∷ ns) ≡ []
  gone_none at n ns is = ap (λ (k : ℕ). take k (n ∷ ns)) (none_gone at n ns is)

  kept_rest : (at : ℕ) (n : Numbered) (ns : List Numbered) → stays m at n.frame ≡ false → kept at (n ∷ ns) ≡ kept at ns
  kept_rest at n ns isnt = ap (λ (k : ℕ). drop k (n ∷ ns)) (one_gone at n ns isnt)

  gone_first : (at : ℕ) (n : Numbered) (ns : List Numbered) → stays m at n.frame ≡ false → gone at (n ∷ ns) ≡ n ∷ gone at ns
  gone_first at n ns isnt = ap (λ (k : ℕ). take k (n ∷ ns)) (one_gone at n ns isnt)

  -- ---- by an instant, and then by another

  later_gone : (a b : ℕ) (n : Numbered) → stays m a n.frame ≡ false → stays m (later_of a b) n.frame ≡ false
  later_gone a b n isnt =
      let over = leb-false a (n.frame.stamp + 2 * most_of m) isnt in
      lt-leb (later_of a b) (n.frame.stamp + 2 * most_of m) (omega (arith, over))

  same_gone : (a b : ℕ) (n : Numbered) (ns : List Numbered) → stays m a n.frame ≡ true → gone_by m (later_of a b) (n ∷ ns) ≡ gone_by m b (n ∷ ns)
  same_gone a b n ns is =
      let under = leb-true a (n.frame.stamp + 2 * most_of m) is in
      elim (cases_Bool (stays m b n.frame)) [
        | inl too ↦ (
            let by = leb-true b (n.frame.stamp + 2 * most_of m) too in
            none_gone (later_of a b) n ns (le-leb (later_of a b) (n.frame.stamp + 2 * most_of m) (omega (arith, under, by))) ∙ sym (none_gone b n ns too))
        | inr isnt ↦ (
            let over = leb-false b (n.frame.stamp + 2 * most_of m) isnt in
            ap (λ (at : ℕ). gone_by m at (n ∷ ns)) (let is_later : later_of a b ≡ b = omega (arith, under, over) in is_later))
      ]

  kept_twice : (a b : ℕ) (ns : List Numbered) → kept b (kept a ns) ≡ kept (later_of a b) ns
  kept_twice a b [] = refl
  kept_twice a b (n ∷ ns) = elim (cases_Bool (stays m a n.frame)) [
    | inl is ↦ ap (λ (xs : List Numbered). kept b xs) (kept_all a n ns is) ∙ ap (λ (k : ℕ). drop k (n ∷ ns)) (sym (same_gone a b n ns is))
    | inr isnt ↦ ap (λ (xs : List Numbered). kept b xs) (kept_rest a n ns isnt) ∙ kept_twice a b ns
        ∙ sym (kept_rest (later_of a b) n ns (later_gone a b n isnt))
  ]

  gone_twice : (a b : ℕ) (ns : List Numbered) → gone (later_of a b) ns ≡ gone a ns ++ gone b (kept a ns)
  gone_twice a b [] = refl
  gone_twice a b (n ∷ ns) = elim (cases_Bool (stays m a n.frame)) [
    | inl is ↦ ap (λ (k : ℕ). take k (n ∷ ns)) (same_gone a b n ns is)
        ∙ sym (ap (λ (xs : List Numbered). xs ++ gone b (kept a (n ∷ ns))) (gone_none a n ns is) ∙ ap (λ (xs : List Numbered). gone b xs) (kept_all a n ns is))
    | inr isnt ↦ gone_first (later_of a b) n ns (later_gone a b n isnt) ∙ ap (λ (xs : List Numbered). n ∷ xs) (gone_twice a b ns)
        ∙ sym (ap (λ (xs : List Numbered). xs ++ gone b (kept a (n ∷ ns))) (gone_first a n ns isnt)
        ∙ ap (λ (xs : List Numbered). (n ∷ gone a ns) ++ gone b xs) (kept_rest a n ns isnt))
  ]

  -- ---- a frame more that is not gone

  kept_more : (at : ℕ) (ns : List Numbered) (n : Numbered) → stays m at n.frame ≡ true → kept at (ns ++ n ∷ []) ≡ kept at ns ++ n ∷ []
  kept_more at [] n stay = kept_all at n [] stay
  kept_more at (x ∷ ns) n stay = elim (cases_Bool (stays m at x.frame)) [
    | inl is ↦ kept_all at x (ns ++ n ∷ []) is ∙ sym (ap (λ (xs : List Numbered). xs ++ n ∷ []) (kept_all at x ns is))
    | inr isnt ↦ kept_rest at x (ns ++ n ∷ []) isnt ∙ kept_more at ns n stay ∙ sym (ap (λ (xs : List Numbered). xs ++ n ∷ []) (kept_rest at x ns isnt))
  ]

  gone_more : (at : ℕ) (ns : List Numbered) (n : Numbered) → stays m at n.frame ≡ true → gone at (ns ++ n ∷ []) ≡ gone at ns
  gone_more at [] n stay = gone_none at n [] stay
  gone_more at (x ∷ ns) n stay = elim (cases_Bool (stays m at x.frame)) [
    | inl is ↦ gone_none at x (ns ++ n ∷ []) is ∙ sym (gone_none at x ns is)
    | inr isnt ↦ gone_first at x (ns ++ n ∷ []) isnt ∙ ap (λ (xs : List Numbered). x ∷ xs) (gone_more at ns n stay) ∙ sym (gone_first at x ns isnt)
  ]

  -- ---- the end: those that are gone are missing then too

  ended_missing : (last : Option ℕ) (at : ℕ) (n : Numbered) → IsByEnd m last at → stays m at n.frame ≡ false → ended m last n ≡ Missing (mark_of n)
  ended_missing None at n by isnt = refl
  ended_missing (Some last) at n by isnt =
      let over = leb-false at (n.frame.stamp + 2 * most_of m) isnt in
      ap (λ (b : Bool). if b then After (mark_of n) else Missing (mark_of n)) (le-ltb last (n.frame.stamp + most_of m) (omega (arith, over, by)))

  end_splits : (last : Option ℕ) (at : ℕ) (ns : List Numbered) → IsByEnd m last at → map (ended m last) ns ≡ missing (gone at ns) ++ map (ended m last) (kept at ns)
  end_splits last at [] by = refl
  end_splits last at (n ∷ ns) by = elim (cases_Bool (stays m at n.frame)) [
    | inl is ↦ sym (ap (λ (xs : List Numbered). missing xs ++ map (ended m last) (kept at (n ∷ ns))) (gone_none at n ns is)
        ∙ ap (λ (xs : List Numbered). map (ended m last) xs) (kept_all at n ns is))
    | inr isnt ↦ ap (λ (e : Event). e ∷ map (ended m last) ns) (ended_missing last at n by isnt)
        ∙ ap (λ (es : List Event). Missing (mark_of n) ∷ es) (end_splits last at ns by)
        ∙ sym (ap (λ (xs : List Numbered). missing xs ++ map (ended m last) (kept at (n ∷ ns))) (gone_first at n ns isnt)
        ∙ ap (λ (xs : List Numbered). missing (n ∷ gone at ns) ++ map (ended m last) xs) (kept_rest at n ns isnt))
  ]

-- ---- a pairing

pub kept_again : (a b : ℕ) (p : Pairing) → kept_at b (kept_at a p) ≡ kept_at (later_of a b) p
kept_again a b p =
    let m = p.limits in
    ap (λ (ws : List Numbered). record p { waiting = ws; policed = kept m b (kept m a p.policed) }) (kept_twice m a b p.waiting)
    ∙ ap (λ (ns : List Numbered). record p { waiting = kept m (later_of a b) p.waiting; policed = ns }) (kept_twice m a b p.policed)

pub gone_again : (a b : ℕ) (p : Pairing) → gone_told (later_of a b) p ≡ gone_told a p ++ gone_told b (kept_at a p)
gone_again a b p =
    let m = p.limits in
    ap (λ (ns : List Numbered). missing ns) (gone_twice m a b p.waiting) ∙ map-append (λ (n : Numbered). Missing (mark_of n)) (gone m a p.waiting) (gone m b (kept m a p.waiting))

-- a frame that comes no sooner than that instant
frame_stays : (at : ℕ) (m : Limits) (n : Numbered) → at ≤ n.frame.stamp → stays m at n.frame ≡ true
frame_stays at m n le = le-leb at (n.frame.stamp + 2 * most_of m) (omega (arith, le))

pub frame_kept : (at : ℕ) (p : Pairing) (n : Numbered) (passes : Bool) → at ≤ n.frame.stamp → with_frame (kept_at at p) n passes ≡ kept_at at (with_frame p n passes)
frame_kept at p n true le =
    ap (λ (ws : List Numbered). record p { waiting = ws; policed = kept p.limits at p.policed }) (sym (kept_more p.limits at p.waiting n (frame_stays at p.limits n le)))
frame_kept at p n false le =
    ap (λ (ns : List Numbered). record p { waiting = kept p.limits at p.waiting; policed = ns }) (sym (kept_more p.limits at p.policed n (frame_stays at p.limits n le)))

pub frame_gone : (at : ℕ) (p : Pairing) (n : Numbered) (passes : Bool) → at ≤ n.frame.stamp → gone_told at (with_frame p n passes) ≡ gone_told at p
frame_gone at p n true le = ap (λ (ns : List Numbered). missing ns) (gone_more p.limits at p.waiting n (frame_stays at p.limits n le))
frame_gone at p n false le = refl

pub gone_by_end : (last : Option ℕ) (at : ℕ) (p : Pairing) → IsByEnd p.limits last at → end_told p last ≡ gone_told at p ++ end_told (kept_at at p) last
gone_by_end last at p by = end_splits p.limits last at p.waiting by
