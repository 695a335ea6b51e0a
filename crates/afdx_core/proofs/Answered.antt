-- Answers that are kept as bits: one more of them, and the one at a place.
use Rattle.std.proofs.Common.{◌≡◌, ◌≢◌, ℕ, zero, suc, ◌+◌, ◌*◌, ◌%◌, ◌^◌, ◌<◌, ◌≤◌, List, [], ◌∷◌, ◌++◌, length, take, set, get_or, slice_get, Some, ◌/◌}
use Rattle.std.proofs.Common.{refl, ap, sym, ◌∙◌, arith, w32, max, bit_and, bit_or, length-take-le, get_or-take}
use Rattle.std.specs.Int.{bit_at}
use Rattle.std.proofs.lemmas.Nat.Bits.{shr_and_one, bit_at-zero, bit_at_or, bit_at_set_same, bit_at_set_other}
use Rattle.std.proofs.lemmas.List.{length-set, take_more_set}
use Rattle.afdx_port.specs.declared.Offer.{Offer}
use Rattle.afdx_port.specs.declared.Offer.TheVariants.{Full, Queued}
use Rattle.afdx_core.specs.Inner.Offers.{bit_of, answer_of_bit, answered, AreKept}

-- ---- the bits

module _ (full k : ℕ) (within : k < 32) where
  abbrev pub with_bit : Offer → ℕ
  with_bit offer = bit_or full (bit_of offer * 2 ^ k % 2 ^ 32)

  no_more : (j : ℕ) → bit_at (with_bit Queued) j ≡ bit_at full j
  no_more j =
      let nothing : 0 * 2 ^ k % 2 ^ 32 ≡ 0 = omega arith in
      let same : max (bit_at full j) 0 ≡ bit_at full j = omega arith in
      ap (λ (m : ℕ). bit_at (bit_or full m) j) nothing ∙ bit_at_or full 0 j ∙ ap (λ (b : ℕ). max (bit_at full j) b) (bit_at-zero j) ∙ same

  pub bit_here : (offer : Offer) → bit_at full k ≡ 0 → answer_of_bit (bit_at (with_bit offer) k) ≡ offer
  bit_here Queued none = ap answer_of_bit (no_more k ∙ none)
  bit_here Full none = ap answer_of_bit (bit_at_set_same w32 full k within)

  pub bit_there : (offer : Offer) (j : ℕ) → j ≢ k → bit_at (with_bit offer) j ≡ bit_at full j
  bit_there Queued j apart = no_more j
  bit_there Full j apart = bit_at_set_other w32 full k within j apart

-- ---- the list

-- the same bits say the same answers
pub same_answers : (full new place : ℕ) (ports : List ℕ) → ((j : ℕ) → place ≤ j → j < place + length ports → bit_at new j ≡ bit_at full j)
    → answered new place ports ≡ answered full place ports
same_answers full new place [] same = refl
same_answers full new place (port ∷ ports) same =
    ap (λ (b : ℕ). (port, answer_of_bit b) ∷ answered new (suc place) ports) (same place (omega arith) (omega arith))
    ∙ ap (λ (os : List (ℕ × Offer)). (port, answer_of_bit (bit_at full place)) ∷ os)
    (same_answers full new (suc place) ports (λ j from before. same j (omega (arith, from)) (omega (arith, before))))

pub answered_more : (full place : ℕ) (ports : List ℕ) (port : ℕ) → answered full place (ports ++ port ∷ [])
    ≡ answered full place ports ++ (port, answer_of_bit (bit_at full (place + length ports))) ∷ []
answered_more full place [] port = let here : place ≡ place + 0 = omega arith in ap (λ (k : ℕ). (port, answer_of_bit (bit_at full k)) ∷ []) here
answered_more full place (p ∷ ports) port =
    let on : suc place + length ports ≡ place + suc (length ports) = omega arith in
    ap (λ (os : List (ℕ × Offer)). (p, answer_of_bit (bit_at full place)) ∷ os) (answered_more full (suc place) ports port
    ∙ ap (λ (k : ℕ). answered full (suc place) ports ++ (port, answer_of_bit (bit_at full k)) ∷ []) on)

pub length_answered : (full place : ℕ) (ports : List ℕ) → length (answered full place ports) ≡ length ports
length_answered full place [] = refl
length_answered full place (port ∷ ports) = ap suc (length_answered full (suc place) ports)

pub answered_at : (full place : ℕ) (ports : List ℕ) (i d : ℕ) → i < length ports
    → slice_get (answered full place ports) i ≡ Some (get_or ports i d, answer_of_bit (bit_at full (place + i)))
answered_at full place [] i d lt = absurd (omega (arith, lt))
answered_at full place (port ∷ ports) zero d lt = let here : place ≡ place + 0 = omega arith in ap (λ (k : ℕ). Some (port, answer_of_bit (bit_at full k))) here
answered_at full place (port ∷ ports) (suc i) d lt =
    let on : suc place + i ≡ place + suc i = omega arith in
    answered_at full (suc place) ports i d (omega (arith, lt)) ∙ ap (λ (k : ℕ). Some (get_or ports i d, answer_of_bit (bit_at full k))) on

-- ---- what calls read of the value

module _ (ports : List ℕ) (len full : ℕ) (kept : AreKept ports len full) where
  count : length (take len ports) ≡ len
  count = let few = kept.few in let long = kept.long in length-take-le len ports (omega (arith, few, long))

  pub length_kept : length (answered full 0 (take len ports)) ≡ len
  length_kept = length_answered full 0 (take len ports) ∙ count

  pub has_room : (now : List (ℕ × Offer)) → answered full 0 (take len ports) ≡ now → length now < 24 → len < 24
  has_room now is fits = let count = length_kept in let same = ap (λ (os : List (ℕ × Offer)). length os) is in omega (arith, count, same, fits)

  pub answer_kept : (place : ℕ) → place < len → slice_get (answered full 0 (take len ports)) place ≡ Some (get_or ports place 0, answer_of_bit (bit_and (full / 2 ^ place) 1))
  answer_kept place inside =
      let on : 0 + place ≡ place = omega arith in
      answered_at full 0 (take len ports) place 0 (omega (arith, count, inside))
      ∙ ap (λ (k : ℕ). Some (get_or (take len ports) place 0, answer_of_bit (bit_at full k))) on
      ∙ ap (λ (p : ℕ). Some (p, answer_of_bit (bit_at full place))) (get_or-take len ports place 0 inside)
      ∙ ap (λ (b : ℕ). Some (get_or ports place 0, answer_of_bit b)) (sym (shr_and_one full place))

-- ---- what calls make of it

module _ (ports : List ℕ) (len full : ℕ) (kept : AreKept ports len full) (fits : len < 24) where
  pub small : len < 32
  small = omega (arith, fits)

  pub kept_more : (port : ℕ) (offer : Offer) → AreKept (set ports len port) (len + 1) (with_bit full len small offer)
  kept_more port offer = record {
    long = length-set ports len port ∙ kept.long;
    few = omega (arith, fits);
    no_bit = λ place past. bit_there full len small offer place (omega (arith, past)) ∙ kept.no_bit place (omega (arith, past));
  }

  pub answered_with : (port : ℕ) (offer : Offer) → answered (with_bit full len small offer) 0 (take (len + 1) (set ports len port)) ≡ answered full 0 (take len ports) ++ (port, offer) ∷ []
  answered_with port offer =
      let new = with_bit full len small offer in
      let inside : len < length ports = let long = kept.long in omega (arith, long, fits) in
      let count : length (take len ports) ≡ len = length-take-le len ports (omega (arith, inside)) in
      let on : 0 + length (take len ports) ≡ len = omega (arith, count) in
      ap (λ (ps : List ℕ). answered new 0 ps) (take_more_set ports len port inside)
      ∙ answered_more new 0 (take len ports) port
      ∙ ap (λ (k : ℕ). answered new 0 (take len ports) ++ (port, answer_of_bit (bit_at new k)) ∷ []) on
      ∙ ap (λ (o : Offer). answered new 0 (take len ports) ++ (port, o) ∷ []) (bit_here full len small offer (kept.no_bit len (omega arith)))
      ∙ ap (λ (os : List (ℕ × Offer)). os ++ (port, offer) ∷ []) (same_answers full new 0 (take len ports) (λ j from before. bit_there full len small offer j (omega (arith, before, count))))
