-- Captures are checked, one after the other.
use Rattle.std.proofs.Common.{◌≡◌, ℕ, zero, suc, ◌+◌, ◌<◌, ◌≤◌, List, [], ◌∷◌, length, take, get_or, slice_get, Some, Vec, inl, inr, refl, sym, ap, arith, subst, option_map, ◌∙◌}
use Rattle.std.proofs.lemmas.Option.{slice_get_read, same_Some, slice_get-map}
use Rattle.std.proofs.Math.Numerals.{suc-eq-add-one}
use Rattle.afdx_pcap.specs.Fault.{IsFault}
use Rattle.afdx_pcap.specs.declared.fault.PcapFault.{PcapFault}
use Rattle.afdx_session.specs.Texts.{Text, texts_of}
use Rattle.afdx_session.specs.Reading.{IsSound, IsFirstFault}
use Rattle.afdx_session.specs.Inner.Lent.{AreSound}

-- the text at a place, as the code reads it
pub text_read : {Z : Type 0} (captures : List (ℕ × Vec ℕ Z)) (n : ℕ) (pair : ℕ × Vec ℕ Z) → n < length captures → pair ≡ get_or captures n pair → slice_get (texts_of captures) n
    ≡ Some (pair.0, pair.1.items)
text_read {Z} captures n pair lt is =
    slice_get-map (λ (p : ℕ × Vec ℕ Z). (p.0, p.1.items)) captures n
    ∙ ap (option_map (λ (p : ℕ × Vec ℕ Z). (p.0, p.1.items))) (slice_get_read captures (length captures) n pair refl lt is)

sound_suc : (n : ℕ) (texts : List Text) (text : Text) → AreSound (take n texts) → slice_get texts n ≡ Some text → IsSound text → AreSound (take (suc n) texts)
sound_suc n [] text sound at is = absurd cc
sound_suc zero (other ∷ texts) text sound at is = (subst IsSound (sym (same_Some other text at)) is, tt)
sound_suc (suc n) (other ∷ texts) text sound at is = (sound.0, sound_suc n texts text sound.1 at is)

-- one more is a capture
pub sound_more : (n : ℕ) (texts : List Text) (text : Text) → AreSound (take n texts) → slice_get texts n ≡ Some text → IsSound text → AreSound (take (n + 1) texts)
sound_more n texts text sound at is = subst (λ k. AreSound (take k texts)) (suc-eq-add-one n) (sound_suc n texts text sound at is)

-- the next one is none, and the first of all
pub fault_at : (n : ℕ) (texts : List Text) (text : Text) (why : PcapFault) → AreSound (take n texts) → slice_get texts n ≡ Some text → IsFault text.1 why → IsFirstFault texts text.0 why
fault_at n [] text why sound at is = absurd cc
fault_at zero (other ∷ texts) text why sound at is = inl (ap (λ (t : Text). t.0) (same_Some other text at), subst (λ (t : Text). IsFault t.1 why) (sym (same_Some other text at)) is)
fault_at (suc n) (other ∷ texts) text why sound at is = inr (sound.0, fault_at n texts text why sound.1 at is)

-- all are captures
pub sound_all : {Z : Type 0} (n : ℕ) (captures : List (ℕ × Vec ℕ Z)) → length captures ≤ n → AreSound (take n (texts_of captures)) → AreSound (texts_of captures)
sound_all n [] le sound = tt
sound_all zero (pair ∷ captures) le sound = absurd (omega (arith, le))
sound_all (suc n) (pair ∷ captures) le sound = (sound.0, sound_all n captures (omega (arith, le)) sound.1)
