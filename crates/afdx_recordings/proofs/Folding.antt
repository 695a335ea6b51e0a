-- A fold of steps, seen from its middle.
use Rattle.std.proofs.Common.{◌≡◌, ℕ, ◌+◌, ◌<◌, ◌≤◌, List, ◌∷◌, length, get_or, drop, ap, refl, subst, sym, ◌∙◌}
use Rattle.std.specs.Prelude.{Option, Some, None, MatchOption}
use Rattle.std.specs.List.{FoldsTo}
use Rattle.std.proofs.lemmas.List.{at_drop_more, at_drop_all}

-- nothing was returned
pub of_none : {A : Type 0} (r : Option A) (P : Type 0) (Q : A → Type 0) → r ≡ None → P → MatchOption r P Q
of_none None P Q e p = p
of_none (Some x) P Q e p = absurd (cc)

-- where the whole leads from its start, what is left leads from here
pub record IsOnTheWay {S A : Type 0} (R : S → A → S → Type 0) (start : S) (all : List A) (here : S) (n : ℕ) : Type 0 where
  pub ahead : (end : S) → FoldsTo R start all end → FoldsTo R here (drop n all) end
  pub back : (end : S) → FoldsTo R here (drop n all) end → FoldsTo R start all end

pub sets_out : {S A : Type 0} (R : S → A → S → Type 0) (start : S) (all : List A) → IsOnTheWay R start all start 0
sets_out R start all = record { ahead = λ end h. h; back = λ end h. h }

module _ {S A : Type 0} (R : S → A → S → Type 0) (start : S) (all : List A) (here : S) (n : ℕ) (way : IsOnTheWay R start all here n) where
  -- the next item
  first : (x : A) → (n < length all) × (x ≡ get_or all n x) → drop n all ≡ x ∷ drop (n + 1) all
  first x at = at_drop_more (λ xs. xs) all n x at.0 ∙ ap (λ y. y ∷ drop (n + 1) all) (sym at.1)

  -- the only step
  pub goes_on : (x : A) (next : S) → (n < length all) × (x ≡ get_or all n x) → R here x next → ((other : S) → R here x other → other ≡ next) → IsOnTheWay R start all next (n + 1)
  goes_on x next at step only = record {
    ahead = λ end h. let steps = subst (λ (xs : List A). FoldsTo R here xs end) (first x at) (way.ahead end h) in
        subst (λ (s : S). FoldsTo R s (drop (n + 1) all) end) (only steps.0 steps.1) steps.2;
    back = λ end h. way.back end (subst (λ (xs : List A). FoldsTo R here xs end) (sym (first x at)) (next, step, h));
  }

  -- no step
  pub stops : (x : A) → (n < length all) × (x ≡ get_or all n x) → ((other : S) → R here x other → ⊥) → (end : S) → FoldsTo R start all end → ⊥
  stops x at none end h = let steps = subst (λ (xs : List A). FoldsTo R here xs end) (first x at) (way.ahead end h) in none steps.0 steps.1

  pub arrives : length all ≤ n → FoldsTo R start all here
  arrives past = way.back here (subst (λ (xs : List A). FoldsTo R here xs here) (sym (at_drop_all (λ xs. xs) all n past)) refl)
