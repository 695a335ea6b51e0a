-- The lines of ports, one after the other.
use Rattle.std.proofs.Common.{◌≡◌, ℕ, zero, suc, ◌+◌, ◌<◌, List, [], ◌∷◌, ◌++◌, length, get_or, drop, refl, sym, ap, subst, ◌∙◌, arith, append_assoc, append-nil, ◌≤◌}
use Rattle.afdx_table.specs.declared.rows.PortRow.{PortRow}
use Rattle.afdx_serve.specs.Checks.{AreTextsOf}

pub from_place : {A : Type 0} (ports : List A) (i : ℕ) (d : A) → i < length ports → drop i ports ≡ get_or ports i d ∷ drop (i + 1) ports
from_place [] i d lt = absurd (omega (arith, lt))
from_place (p ∷ ps) zero d lt = refl
from_place (p ∷ ps) (suc i) d lt =
    let further : suc (i + 1) ≡ suc i + 1 = omega arith in
    from_place ps i d (omega (arith, lt)) ∙ ap (λ (k : ℕ). get_or ps i d ∷ drop k (p ∷ ps)) further

pub none_left : {A : Type 0} (ports : List A) (i : ℕ) → length ports ≤ i → drop i ports ≡ []
none_left [] zero le = refl
none_left [] (suc i) le = refl
none_left (p ∷ ps) zero le = absurd (omega (arith, le))
none_left (p ∷ ps) (suc i) le = none_left ps i (omega (arith, le))

module _ (Is : PortRow → List ℕ → Type 0) (ports : List PortRow) (i : ℕ) (text : List ℕ) where
  -- what is to come completes what is there
  abbrev pub Completes : Type 0
  Completes = (rest : List ℕ) → AreTextsOf Is (drop i ports) rest → AreTextsOf Is ports (text ++ rest)

  -- one more line
  pub one_more_line : (d : PortRow) (line longer : List ℕ) → longer ≡ text ++ line → i < length ports
      → Completes → Is (get_or ports i d) line → (rest : List ℕ) → AreTextsOf Is (drop (i + 1) ports) rest → AreTextsOf Is ports (longer ++ rest)
  one_more_line d line longer grown lt before is rest more =
      subst (λ (t : List ℕ). AreTextsOf Is ports t) (sym (ap (λ (t : List ℕ). t ++ rest) grown ∙ append_assoc text line rest))
      (before (line ++ rest) (subst (λ (ps : List PortRow). AreTextsOf Is ps (line ++ rest)) (sym (from_place ports i d lt)) (line, rest, is, more, refl)))

  -- no port is left
  pub last_line : length ports ≤ i → Completes → AreTextsOf Is ports text
  last_line le before =
      subst (λ (t : List ℕ). AreTextsOf Is ports t) (append-nil text) (before [] (subst (λ (ps : List PortRow). AreTextsOf Is ps []) (sym (none_left ports i le)) refl))
