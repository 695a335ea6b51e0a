-- What is admitted fits, and keeps its order.
use Rattle.std.proofs.Common.{◌≡◌, ℕ, ◌+◌, ◌≤◌, Bool, true, false, cond, List, [], ◌∷◌, ◌++◌, length, refl, ap, sym, subst, arith, append_assoc, append-nil}
use Rattle.std.specs.Prelude.{nat_le, remove, AllPairs}
use Rattle.std.proofs.lemmas.Bool.Decides.{nat_tests}
use Rattle.std.proofs.lemmas.List.{length-append}
use Rattle.std.proofs.lemmas.List.Quantifiers.{all_pairs_remove}
use Rattle.afdx_port.specs.declared.Settings.{Settings}
use Rattle.afdx_port.specs.declared.Item.{Item}
use Rattle.afdx_port.specs.Service.{came}
use Rattle.afdx_port.specs.Admission.{occupied, fits, admit, admit_all, admitted, AllFit}

fit_push : (s : Settings) (before items : List Item) (x : Item) → AllFit s before items → x.size + occupied s (came s x) (before ++ items) ≤ s.buffer → AllFit s before (items ++ x ∷ [])
fit_push s before [] x h le = (subst (λ (all : List Item). x.size + occupied s (came s x) all ≤ s.buffer) (append-nil before) le, tt)
fit_push s before (y ∷ items) x h le =
    (h.0, fit_push s (before ++ y ∷ []) items x h.1 (subst (λ (all : List Item). x.size + occupied s (came s x) all ≤ s.buffer) (sym (append_assoc before (y ∷ []) items)) le))

fit_one : (s : Settings) (items : List Item) (x : Item) (joins : Bool) → fits s items x ≡ joins → AllFit s [] items → AllFit s [] (cond joins (items ++ x ∷ []) items)
fit_one s items x true is h = fit_push s [] items x h (within (x.size + occupied s (came s x) items) s.buffer is) where
  within : (m n : ℕ) → nat_le m n ≡ true → m ≤ n
  within m n le = grind (arith, nat_tests)
fit_one s items x false is h = h

fit_all : (s : Settings) (items feed : List Item) → AllFit s [] items → AllFit s [] (admit_all s items feed)
fit_all s items [] h = h
fit_all s items (x ∷ feed) h = fit_all s (admit s items x) feed (fit_one s items x (fits s items x) refl h)

pub admitted_in_parts : (s : Settings) (before feed later : List Item) → admit_all s before (feed ++ later) ≡ admit_all s (admit_all s before feed) later
admitted_in_parts s before [] later = refl
admitted_in_parts s before (x ∷ feed) later = admitted_in_parts s (admit s before x) feed later

pub admitted_fit : (s : Settings) (feed : List Item) → AllFit s [] (admitted s feed)
admitted_fit s feed = fit_all s [] feed tt

-- ---- in order

abbrev Rises : List Item → Type 0
Rises items = AllPairs (λ (a : Item) (b : Item). a.stamp ≤ b.stamp) items

without : (items feed : List Item) (x : Item) → remove (items ++ x ∷ feed) (length items) ≡ items ++ feed
without [] feed x = refl
without (y ∷ items) feed x = ap (λ (all : List Item). y ∷ all) (without items feed x)

rises_without : (items feed : List Item) (x : Item) → Rises (items ++ x ∷ feed) → Rises (items ++ feed)
rises_without items feed x h =
    subst Rises (without items feed x) (all_pairs_remove (λ (a : Item) (b : Item). a.stamp ≤ b.stamp) (items ++ x ∷ feed) (length items) (omega (arith, length-append items (x ∷ feed))) h)

rises_one : (items feed : List Item) (x : Item) (joins : Bool) → Rises (items ++ x ∷ feed) → Rises (cond joins (items ++ x ∷ []) items ++ feed)
rises_one items feed x true h = subst Rises (sym (append_assoc items (x ∷ []) feed)) h
rises_one items feed x false h = rises_without items feed x h

rises_all : (s : Settings) (items feed : List Item) → Rises (items ++ feed) → Rises (admit_all s items feed)
rises_all s items [] h = subst Rises (append-nil items) h
rises_all s items (x ∷ feed) h = rises_all s (admit s items x) feed (rises_one items feed x (fits s items x) h)

pub admitted_in_order : (s : Settings) (feed : List Item) → Rises feed → Rises (admitted s feed)
admitted_in_order s feed h = rises_all s [] feed h
