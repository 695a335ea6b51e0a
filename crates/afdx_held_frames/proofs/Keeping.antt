-- What a store keeps is kept by each of its calls.
use Rattle.std.proofs.Common.{◌≡◌, ◌≢◌, ℕ, true, false, suc, ◌+◌, ◌<◌, ◌≤◌, cond, List, [], ◌∷◌, ◌++◌, length, get_or, set, Option, Some, None, is_some, count_by}
use Rattle.std.proofs.Common.{Bor, option_copied, refl, ap, sym, ◌∙◌, arith, subst, ⊎_elim}
use Rattle.std.specs.Prelude.{IsSome}
use Rattle.afdx_past.specs.Seen.{Seen}
use Rattle.std.proofs.lemmas.Bool.{cases_eq, cases_lt}
use Rattle.std.proofs.lemmas.List.{map_push, length-set, length_push, get_or-set_same, get_or-set_other, get_or_past}
use Rattle.std.proofs.lemmas.List.Sums.{sum_by-set, sum_by_push}
use Rattle.slab.specs.Slab.{Slab, ContainsKey, get, slab_len, with_value}
use Rattle.afdx_held_frames.specs.declared.store.Slot.{Slot}
use Rattle.afdx_held_frames.specs.declared.store.Store.TheInside.{Inside}
use Rattle.afdx_held_frames.specs.Seen.{Held, newcomer, one_less}
use Rattle.afdx_held_frames.specs.Inner.Kept.{no_key, key_at, seen_at, NoneHeld, IsKeptStore}
use Rattle.afdx_held_frames.proofs.Seen.{key_pushed, key_push_other, key_push_none, key_gone, key_set_other, held_of, seen, seen_is, seen_same, seen_changed, Found, found, within_keys}

-- ---- lists of options

abbrev counts : {X : Type 0} → Option X → ℕ
counts o = cond (is_some o) 1 0

pub within_some : {X : Type 0} (xs : List (Option X)) (i : ℕ) (x : X) → get_or xs i None ≡ Some x → i < length xs
within_some xs i x is = ⊎_elim (λ lt. lt) (λ le. let none = get_or_past xs i None le in absurd (cc)) (cases_lt i (length xs))

pub count_same : {X : Type 0} (xs : List (Option X)) (i : ℕ) (x y : X) → get_or xs i None ≡ Some x → count_by is_some (set xs i (Some y)) ≡ count_by is_some xs
count_same xs i x y is =
    let all = sum_by-set (λ o. cond (is_some o) 1 0) xs i (Some y) None (within_some xs i x is) in
    let one : ◌≡◌ {A = ℕ} (cond (is_some (get_or xs i None)) 1 0) 1 = ap (λ o. cond (is_some o) 1 0) is in
    omega (arith, all, one)

pub count_less : {X : Type 0} (xs : List (Option X)) (i : ℕ) (x : X) → get_or xs i None ≡ Some x → count_by is_some (set xs i None) + 1 ≡ count_by is_some xs
count_less xs i x is =
    let all = sum_by-set (λ o. cond (is_some o) 1 0) xs i None None (within_some xs i x is) in
    let one : ◌≡◌ {A = ℕ} (cond (is_some (get_or xs i None)) 1 0) 1 = ap (λ o. cond (is_some o) 1 0) is in
    omega (arith, all, one)

pub some_shared : {T : Type 0} (r : Option (Bor T)) (x : T) → option_copied r ≡ Some x → IsSome r
some_shared None x is = absurd (cc)
some_shared (Some b) x is = refl

-- a slot that has something is not empty
not_empty : {X : Type 0} (o : Option X) → IsSome o → o ≡ None → ⊥
not_empty None is none = absurd (cc)
not_empty (Some x) is none = absurd (cc)

some_of : {X : Type 0} (o : Option X) (x : X) → o ≡ Some x → IsSome o
some_of o x is = ap is_some is

plus_none : (n : ℕ) → n + 0 ≡ n
plus_none n = omega arith

-- ---- more room

pub kept_reserved : {Z : Type 0} (p : Inside Z) (slots : Slab (Slot Z)) (keys : Seen ℕ) (room : ℕ) → IsKeptStore p → slots.slots ≡ p.slots.slots → keys.items ≡ p.keys.items
    → keys.first ≡ p.keys.first → slab_len slots + room ≤ slots.capacity → (0 < room → slots.capacity ≤ no_key) → room ≤ keys.room
    → IsKeptStore (record { slots = slots; keys = keys; low = p.low; room = room })
kept_reserved p slots keys room kept same_slots same_keys first slots_room few keys_room = record {
  vacant = rw same_slots kept.vacant;
  there = rw (same_slots, same_keys) kept.there;
  once = rw same_keys kept.once;
  copies = rw same_slots kept.copies;
  count = rw (same_slots, same_keys) kept.count;
  slots_room = slots_room;
  few = few;
  keys_room = keys_room;
  left = omega (arith, first, kept.left);
  low_within = rw same_keys kept.low_within;
  past = rw same_keys kept.past;
}

-- ---- keys of the first arrivals are let go

pub kept_gone : {Z : Type 0} (p : Inside Z) (keys : Seen ℕ) (low : ℕ) → IsKeptStore p → keys.items ≡ p.keys.items → keys.room ≡ p.keys.room → keys.first ≤ low → low ≤ length p.keys.items
    → NoneHeld p.keys.items p.low low → IsKeptStore (record { slots = p.slots; keys = keys; low = low; room = p.room })
kept_gone p keys low kept same room first within none = record {
  vacant = kept.vacant;
  there = rw same kept.there;
  once = rw same kept.once;
  copies = kept.copies;
  count = rw same kept.count;
  slots_room = kept.slots_room;
  few = kept.few;
  keys_room = omega (arith, kept.keys_room, room);
  left = first;
  low_within = rw same within;
  past = λ i lt. ap (λ ks. key_at ks i) same ∙ ⊎_elim (λ before. kept.past i before) (λ from. none i from lt) (cases_lt i p.low);
}

-- ---- one more arrival, without copies

pub skipped : {Z : Type 0} (p : Inside Z) → IsKeptStore p → seen p.slots.slots (p.keys.items ++ no_key ∷ []) ≡ seen p.slots.slots p.keys.items ++ None ∷ []
skipped p kept = map_push (seen_at p.slots.slots) p.keys.items no_key ∙ ap (λ h. seen p.slots.slots p.keys.items ++ h ∷ []) (seen_is p.slots.slots no_key None kept.vacant)

pub kept_skipped : {Z : Type 0} (p : Inside Z) (keys : Seen ℕ) (room : ℕ) → IsKeptStore p → keys.items ≡ p.keys.items ++ no_key ∷ [] → room + 1 ≡ p.room → keys.first ≡ p.keys.first
    → keys.room + 1 ≡ p.keys.room → IsKeptStore (record { slots = p.slots; keys = keys; low = p.low; room = room })
kept_skipped p keys room kept is less first fewer = record {
  vacant = kept.vacant;
  there = λ i ne. subst (λ k. ContainsKey p.slots k) (sym (same i)) (kept.there i (λ none. ne (same i ∙ none)));
  once = λ i j ne e. same i ∙ kept.once i j ne (sym (same i) ∙ (e ∙ same j));
  copies = kept.copies;
  count = kept.count ∙ sym (ap (λ ks. count_by is_some (seen p.slots.slots ks)) is ∙ ap (count_by is_some) (skipped p kept)
      ∙ sum_by_push counts (seen p.slots.slots p.keys.items) None ∙ plus_none (count_by is_some (seen p.slots.slots p.keys.items)));
  slots_room = omega (arith, kept.slots_room, less);
  few = λ some. kept.few (omega (arith, less));
  keys_room = omega (arith, kept.keys_room, less, fewer);
  left = omega (arith, first, kept.left);
  low_within = let more = ap (λ (ks : List ℕ). length ks) is ∙ length_push p.keys.items no_key in omega (arith, more, kept.low_within);
  past = λ i lt. same i ∙ kept.past i lt;
} where
  same : (i : ℕ) → key_at keys.items i ≡ key_at p.keys.items i
  same i = ap (λ ks. key_at ks i) is ∙ key_push_none p.keys.items i

-- ---- one more arrival, with copies

module _ {Z : Type 0} (p : Inside Z) (kept : IsKeptStore p) (slots : Slab (Slot Z)) (key : ℕ) (slot : Slot Z) where
  pub record Came : Type 0 where
    pub small : key < no_key
    pub left : 0 < slot.copies
    pub was : get p.slots key ≡ None
    pub there : get slots key ≡ Some slot
    pub others : (other : ℕ) → other ≢ key → get slots other ≡ get p.slots other

  abbrev keys' : List ℕ
  keys' = p.keys.items ++ key ∷ []

  -- no arrival before it has its key
  key_is_new : Came → (i : ℕ) → key_at p.keys.items i ≢ key
  key_is_new came i e = not_empty (get p.slots key) (subst (λ k. ContainsKey p.slots k) e (kept.there i (λ none. absurd (omega (arith, came.small, e, none))))) came.was

  pub held_more : Came → seen slots.slots keys' ≡ seen p.slots.slots p.keys.items ++ Some (record { copies = slot.copies; frame = slot.frame }) ∷ []
  held_more came =
      map_push (seen_at slots.slots) p.keys.items key
      ∙ ap (λ h. seen slots.slots p.keys.items ++ h ∷ []) (seen_is slots.slots key (Some slot) came.there)
      ∙ ap (λ hs. hs ++ Some (held_of slot) ∷ [])
      (seen_same p.slots.slots slots.slots p.keys.items (λ i lt. seen_is slots.slots (key_at p.keys.items i) (get p.slots (key_at p.keys.items i))
      (came.others (key_at p.keys.items i) (key_is_new came i))))

  kept_there : Came → (i : ℕ) → key_at keys' i ≢ no_key → ContainsKey slots (key_at keys' i)
  kept_there came i ne = ⊎_elim
      (λ last. some_of (get slots (key_at keys' i)) slot (ap (get slots) (key_pushed p.keys.items key i last) ∙ came.there))
      (λ other. let same = key_push_other p.keys.items key i other in
      ap is_some (ap (get slots) same ∙ came.others (key_at p.keys.items i) (key_is_new came i)) ∙ kept.there i (λ none. ne (same ∙ none)))
      (cases_eq i (length p.keys.items))

  kept_once : Came → (i j : ℕ) → i ≢ j → key_at keys' i ≡ key_at keys' j → key_at keys' i ≡ no_key
  kept_once came i j ne e = ⊎_elim
      (λ last. absurd (key_is_new came j (sym (key_push_other p.keys.items key j (λ too. ne (last ∙ sym too))) ∙ (sym e ∙ key_pushed p.keys.items key i last))))
      (λ other. let same = key_push_other p.keys.items key i other in ⊎_elim
      (λ last. absurd (key_is_new came i (sym same ∙ (e ∙ key_pushed p.keys.items key j last))))
      (λ too. same ∙ kept.once i j ne (sym same ∙ (e ∙ key_push_other p.keys.items key j too)))
      (cases_eq j (length p.keys.items)))
      (cases_eq i (length p.keys.items))

  pub kept_more : (keys : Seen ℕ) (room : ℕ) → Came → keys.items ≡ p.keys.items ++ key ∷ [] → room + 1 ≡ p.room → keys.first ≡ p.keys.first → keys.room + 1 ≡ p.keys.room
      → slab_len slots ≡ slab_len p.slots + 1 → slots.capacity ≡ p.slots.capacity → IsKeptStore (record { slots = slots; keys = keys; low = p.low; room = room })
  kept_more keys room came is less first fewer more cap' = record {
    vacant = came.others no_key (λ e. absurd (omega (arith, came.small, e))) ∙ kept.vacant;
    there = rw is (kept_there came);
    once = rw is (kept_once came);
    copies = λ k s at. ⊎_elim
        (λ here. let same : Some slot ≡ Some s = sym came.there ∙ (ap (get slots) (sym here) ∙ at) in let e : slot ≡ s = (cc) in subst (λ (x : Slot Z). 0 < x.copies) e came.left)
        (λ off. kept.copies k s (sym (came.others k off) ∙ at))
        (cases_eq k key);
    count = let all = ap (λ ks. count_by is_some (seen slots.slots ks)) is ∙ ap (count_by is_some) (held_more came)
        ∙ sum_by_push counts (seen p.slots.slots p.keys.items) (Some (held_of slot)) in omega (arith, all, more, kept.count);
    slots_room = omega (arith, kept.slots_room, less, more, cap');
    few = λ some. let was = kept.few (omega (arith, less)) in omega (arith, was, cap');
    keys_room = omega (arith, kept.keys_room, less, fewer);
    left = omega (arith, first, kept.left);
    low_within = let all = ap (λ (ks : List ℕ). length ks) is ∙ length_push p.keys.items key in omega (arith, all, kept.low_within);
    past = λ i lt. ap (λ ks. key_at ks i) is ∙ (key_push_other p.keys.items key i (λ last. absurd (omega (arith, last, lt, kept.low_within))) ∙ kept.past i lt);
  }

-- ---- one copy less

-- the key of an arrival of which something is held was not let go
pub key_left : {Z : Type 0} (p : Inside Z) (number : ℕ) → IsKeptStore p → is_some (get_or (seen p.slots.slots p.keys.items) number None) ≡ true → p.keys.first ≤ number
key_left p number kept held = ⊎_elim
    (λ before. let f = found p.keys.items p.slots.slots number held in
    absurd (not_empty (get p.slots (key_at p.keys.items number)) (ap is_some f.1.there) (ap (get p.slots) (kept.past number before) ∙ kept.vacant)))
    (λ from. omega (arith, from, kept.left))
    (cases_lt number p.low)

module _ {Z : Type 0} (p : Inside Z) (kept : IsKeptStore p) (number : ℕ) (slot : Slot Z) (f : Found p.keys.items p.slots.slots number slot) where
  abbrev key : ℕ
  key = key_at p.keys.items number

  abbrev old : List (Option Held)
  old = seen p.slots.slots p.keys.items

  given : (copies : ℕ) → slot.copies ≡ suc copies → one_less (get_or old number None) ≡ newcomer copies slot.frame
  given copies is = ap one_less (f.seen ∙ ap (λ n. Some (record { copies = n; frame = slot.frame })) is)

  -- it has a key, which no other arrival has
  pub has_key : no_key ≢ key
  has_key e = not_empty (get p.slots key) (ap is_some f.there) (ap (get p.slots) (sym e) ∙ kept.vacant)

  apart : (i : ℕ) → i ≢ number → key_at p.keys.items i ≢ key
  apart i ne e = has_key (sym (kept.once number i (λ is. ne (sym is)) (sym e)))

  pub record Gone (slots : Slab (Slot Z)) : Type 0 where
    pub none : get slots key ≡ None
    pub others : (other : ℕ) → other ≢ key → get slots other ≡ get p.slots other

  abbrev keys_less : List ℕ
  keys_less = set p.keys.items number no_key

  pub held_last : (slots : Slab (Slot Z)) → slot.copies ≡ 1 → Gone slots → seen slots.slots keys_less ≡ set old number (one_less (get_or old number None))
  held_last slots last gone =
      seen_changed p.slots.slots slots.slots p.keys.items keys_less number None f.within (length-set p.keys.items number no_key)
      (seen_is slots.slots (key_at keys_less number) None (ap (get slots) (key_gone p.keys.items number f.within) ∙ (gone.others no_key has_key ∙ kept.vacant)))
      (λ i ne lt. seen_is slots.slots (key_at keys_less i) (get p.slots (key_at p.keys.items i)) (ap (get slots) (key_set_other p.keys.items number i ne)
      ∙ gone.others (key_at p.keys.items i) (apart i ne)))
      ∙ ap (set old number) (sym (given 0 last))

  pub kept_last : (slots : Slab (Slot Z)) (keys : Seen ℕ) → slot.copies ≡ 1 → Gone slots → slab_len slots + 1 ≡ slab_len p.slots → slots.capacity ≡ p.slots.capacity
      → keys ≡ record p.keys { items = keys_less } → IsKeptStore (record { slots = slots; keys = keys; low = p.low; room = p.room })
  kept_last slots keys last gone less cap is = rw is (record {
    vacant = gone.others no_key has_key ∙ kept.vacant;
    there = λ i ne. ⊎_elim
        (λ here. absurd (ne (ap (key_at keys_less) here ∙ key_gone p.keys.items number f.within)))
        (λ off. let same = key_set_other p.keys.items number i off in
        ap is_some (ap (get slots) same ∙ gone.others (key_at p.keys.items i) (apart i off)) ∙ kept.there i (λ none. ne (same ∙ none)))
        (cases_eq i number);
    once = λ i j ne e. ⊎_elim
        (λ here. ap (key_at keys_less) here ∙ key_gone p.keys.items number f.within)
        (λ off. ⊎_elim
        (λ there. e ∙ (ap (key_at keys_less) there ∙ key_gone p.keys.items number f.within))
        (λ too. let same = key_set_other p.keys.items number i off in same ∙ kept.once i j ne (sym same ∙ (e ∙ key_set_other p.keys.items number j too)))
        (cases_eq j number))
        (cases_eq i number);
    copies = λ k s at. ⊎_elim
        (λ here. let no = sym gone.none ∙ ap (get slots) (sym here) ∙ at in absurd (cc))
        (λ off. kept.copies k s (sym (gone.others k off) ∙ at))
        (cases_eq k key);
    count = let now = ap (count_by is_some) (held_last slots last gone ∙ ap (set old number) (given 0 last)) in let was = count_less old number _ f.seen in omega (arith, now, was, less, kept.count);
    slots_room = omega (arith, kept.slots_room, less, cap);
    few = λ some. let was = kept.few some in omega (arith, was, cap);
    keys_room = kept.keys_room;
    left = kept.left;
    low_within = let all = length-set p.keys.items number no_key in omega (arith, all, kept.low_within);
    past = λ i lt. ⊎_elim
        (λ here. ap (key_at keys_less) here ∙ key_gone p.keys.items number f.within)
        (λ off. key_set_other p.keys.items number i off ∙ kept.past i lt)
        (cases_eq i number);
  })

  abbrev fewer : ℕ → Slot Z
  fewer copies = record { copies = copies; frame = slot.frame }

  key_within : key < length p.slots.slots
  key_within = within_some p.slots.slots key slot f.there

  there_now : (s : Slot Z) → get (with_value p.slots key s) key ≡ Some s
  there_now s = get_or-set_same p.slots.slots key (Some s) None key_within

  others_now : (s : Slot Z) (other : ℕ) → other ≢ key → get (with_value p.slots key s) other ≡ get p.slots other
  others_now s other ne = get_or-set_other p.slots.slots key other (Some s) None ne

  pub held_fewer : (copies : ℕ) → slot.copies ≡ suc (suc copies) → seen (with_value p.slots key (fewer (suc copies))).slots p.keys.items ≡ set old number (one_less (get_or old number None))
  held_fewer copies is =
      let s = fewer (suc copies) in
      seen_changed p.slots.slots (with_value p.slots key s).slots p.keys.items p.keys.items number (Some (held_of s)) f.within refl
      (seen_is (with_value p.slots key s).slots key (Some s) (there_now s))
      (λ i ne lt. seen_is (with_value p.slots key s).slots (key_at p.keys.items i) (get p.slots (key_at p.keys.items i)) (others_now s (key_at p.keys.items i) (apart i ne)))
      ∙ ap (set old number) (sym (given (suc copies) is))

  kept_there' : (s : Slot Z) (i : ℕ) → key_at p.keys.items i ≢ no_key → ContainsKey (with_value p.slots key s) (key_at p.keys.items i)
  kept_there' s i ne = ⊎_elim
      (λ here. some_of (get (with_value p.slots key s) (key_at p.keys.items i)) s (ap (get (with_value p.slots key s)) here ∙ there_now s))
      (λ off. ap is_some (others_now s (key_at p.keys.items i) off) ∙ kept.there i ne)
      (cases_eq (key_at p.keys.items i) key)

  pub kept_fewer : (copies : ℕ) → slot.copies ≡ suc (suc copies) → IsKeptStore (record { slots = with_value p.slots key (fewer (suc copies)); keys = p.keys; low = p.low; room = p.room })
  kept_fewer copies is =
      let s = fewer (suc copies) in
      let same = count_same p.slots.slots key slot s f.there in record {
        vacant = others_now s no_key has_key ∙ kept.vacant;
        there = kept_there' s;
        once = kept.once;
        copies = λ k x at. ⊎_elim
            (λ here. let same : Some s ≡ Some x = sym (there_now s) ∙ (ap (get (with_value p.slots key s)) (sym here) ∙ at) in let e : s ≡ x = (cc) in
            subst (λ (y : Slot Z). 0 < y.copies) e (omega arith))
            (λ off. kept.copies k x (sym (others_now s k off) ∙ at))
            (cases_eq k key);
        count = let now = ap (count_by is_some) (held_fewer copies is ∙ ap (set old number) (given (suc copies) is)) in
            let was = count_same old number _ (record { copies = suc copies; frame = slot.frame }) f.seen in omega (arith, now, was, same, kept.count);
        slots_room = omega (arith, kept.slots_room, same);
        few = kept.few;
        keys_room = kept.keys_room;
        left = kept.left;
        low_within = kept.low_within;
        past = kept.past;
      }
