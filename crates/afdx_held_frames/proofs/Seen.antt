-- What the slots at the keys hold, after a write.
use Rattle.std.proofs.Common.{◌≡◌, ◌≢◌, ℕ, ◌+◌, ◌<◌, ◌≤◌, true, List, [], ◌∷◌, ◌++◌, length, map, get_or, set, Option, Some, None, is_some}
use Rattle.std.proofs.Common.{refl, ap, sym, ◌∙◌, arith, ⊎_elim}
use Rattle.std.specs.Option.{option_map}
use Rattle.std.proofs.lemmas.Bool.{cases_eq, cases_lt}
use Rattle.std.proofs.lemmas.List.{get_or-map, get_or_past, get_or-set_same, get_or-set_other, get_or_push, get_or_append_left, length-map, length-set, length_push, ext_get_or}
use Rattle.afdx_held_frames.specs.declared.store.Slot.{Slot}
use Rattle.afdx_held_frames.specs.Seen.{Held}
use Rattle.afdx_held_frames.specs.Inner.Kept.{no_key, key_at, seen_at}

-- ---- keys

module _ (keys : List ℕ) where
  pub key_pushed : (key i : ℕ) → i ≡ length keys → key_at (keys ++ key ∷ []) i ≡ key
  key_pushed key i is = get_or_push keys key no_key i (sym is)

  pub key_push_other : (key i : ℕ) → i ≢ length keys → key_at (keys ++ key ∷ []) i ≡ key_at keys i
  key_push_other key i ne = ⊎_elim
      (λ lt. get_or_append_left keys (key ∷ []) no_key i lt)
      (λ le. get_or_past (keys ++ key ∷ []) i no_key (omega (arith, length_push keys key, le, ne)) ∙ sym (get_or_past keys i no_key le))
      (cases_lt i (length keys))

  -- an arrival of which nothing is held changes no key
  pub key_push_none : (i : ℕ) → key_at (keys ++ no_key ∷ []) i ≡ key_at keys i
  key_push_none i = ⊎_elim
      (λ is. key_pushed no_key i is ∙ sym (get_or_past keys i no_key (omega (arith, is))))
      (λ ne. key_push_other no_key i ne)
      (cases_eq i (length keys))

  pub key_gone : (number : ℕ) → number < length keys → key_at (set keys number no_key) number ≡ no_key
  key_gone number lt = get_or-set_same keys number no_key no_key lt

  pub key_set_other : (number i : ℕ) → i ≢ number → key_at (set keys number no_key) i ≡ key_at keys i
  key_set_other number i ne = get_or-set_other keys number i no_key no_key ne

module _ {Z : Type 0} where
  abbrev pub held_of : Slot Z → Held
  held_of slot = record { copies = slot.copies; frame = slot.frame }

  abbrev pub seen : List (Option (Slot Z)) → List ℕ → List (Option Held)
  seen slots keys = map (seen_at slots) keys

  -- what a key's slot holds
  pub seen_is : (slots : List (Option (Slot Z))) (key : ℕ) (o : Option (Slot Z)) → get_or slots key None ≡ o → seen_at slots key ≡ option_map held_of o
  seen_is slots key o is = ap (option_map held_of) is

  pub seen_get : (slots : List (Option (Slot Z))) (keys : List ℕ) (i : ℕ) → i < length keys → get_or (seen slots keys) i None ≡ seen_at slots (key_at keys i)
  seen_get slots keys i lt = get_or-map (seen_at slots) keys i no_key None lt

  -- the slots of all these keys hold what they held
  pub seen_same : (old new : List (Option (Slot Z))) (keys : List ℕ) → ((i : ℕ) → i < length keys → seen_at new (key_at keys i) ≡ seen_at old (key_at keys i)) → seen new keys ≡ seen old keys
  seen_same old new keys same =
      ext_get_or None (seen new keys) (seen old keys) (length-map keys (seen_at new) ∙ sym (length-map keys (seen_at old)))
      (λ i lt. let within : i < length keys = omega (arith, lt, length-map keys (seen_at new)) in seen_get new keys i within ∙ (same i within ∙ sym (seen_get old keys i within)))

  -- one key has another slot, or its slot holds something else
  pub seen_changed : (old new : List (Option (Slot Z))) (keys keys' : List ℕ) (number : ℕ) (held : Option Held) → number < length keys → length keys' ≡ length keys
      → seen_at new (key_at keys' number) ≡ held
      → ((i : ℕ) → i ≢ number → i < length keys → seen_at new (key_at keys' i) ≡ seen_at old (key_at keys i)) → seen new keys' ≡ set (seen old keys) number held
  seen_changed old new keys keys' number held lt long here others =
      let was = length-map keys (seen_at old) in
      let is = length-map keys' (seen_at new) in
      ext_get_or None (seen new keys') (set (seen old keys) number held) (is ∙ (long ∙ (sym was ∙ sym (length-set (seen old keys) number held))))
      (λ i less. let within' : i < length keys' = omega (arith, less, is) in
      let within : i < length keys = omega (arith, within', long) in
      seen_get new keys' i within' ∙ ⊎_elim
      (λ at. ap (λ j. seen_at new (key_at keys' j)) at ∙ (here ∙ sym (ap (λ j. get_or (set (seen old keys) number held) j None) at
      ∙ get_or-set_same (seen old keys) number held None (omega (arith, lt, was)))))
      (λ ne. others i ne within ∙ sym (get_or-set_other (seen old keys) number i held None ne ∙ seen_get old keys i within))
      (cases_eq i number))

  -- ---- the arrival whose frame is held

  pub record Found (keys : List ℕ) (slots : List (Option (Slot Z))) (number : ℕ) (slot : Slot Z) : Type 0 where
    pub within : number < length keys
    pub there : get_or slots (key_at keys number) None ≡ Some slot
    pub seen : get_or (map (seen_at slots) keys) number None ≡ Some (record { copies = slot.copies; frame = slot.frame })

  pub within_keys : (keys : List ℕ) (slots : List (Option (Slot Z))) (number : ℕ) → is_some (get_or (seen slots keys) number None) ≡ true → number < length keys
  within_keys keys slots number held = ⊎_elim
      (λ lt. lt)
      (λ le. let none = ap is_some (get_or_past (seen slots keys) number None (omega (arith, le, length-map keys (seen_at slots)))) in absurd (let both = sym none ∙ held in (cc)))
      (cases_lt number (length keys))

  found_slot : (keys : List ℕ) (slots : List (Option (Slot Z))) (number : ℕ) (o : Option (Slot Z)) → number < length keys → get_or slots (key_at keys number) None ≡ o
      → is_some (option_map held_of o) ≡ true → (slot : Slot Z) × Found keys slots number slot
  found_slot keys slots number None within there held = absurd (cc)
  found_slot keys slots number (Some slot) within there held = (
    slot,
    record { within = within; there = there; seen = seen_get slots keys number within ∙ seen_is slots (key_at keys number) (Some slot) there },
  )

  pub found : (keys : List ℕ) (slots : List (Option (Slot Z))) (number : ℕ) → is_some (get_or (seen slots keys) number None) ≡ true → (slot : Slot Z) × Found keys slots number slot
  found keys slots number held =
      let within = within_keys keys slots number held in
      found_slot keys slots number (get_or slots (key_at keys number) None) within refl (sym (ap is_some (seen_get slots keys number within)) ∙ held)
