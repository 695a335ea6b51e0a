-- One frame's fate more.
use Rattle.std.proofs.Common.{◌≡◌, ℕ, ◌+◌, Bool, true, List, [], ◌∷◌, map, drop, length, Option, Some, refl, sym, ap, subst, ◌∙◌, arith, inl, inr}
use Rattle.std.specs.Prelude.{slice_get}
use Rattle.std.specs.List.{list_any}
use Rattle.std.proofs.lemmas.Bool.{cases_Bool}
use Rattle.afdx_account.specs.Account.{account_terms}
use Rattle.afdx_levels.specs.declared.outlook.Outlook.{Outlook}
use Rattle.afdx_levels.specs.Levels.{Levels, after, fate_told}
use Rattle.afdx_pairing.specs.Events.{Numbered}
use Rattle.afdx_following.specs.Output.{Output, has, with_came}
use Rattle.afdx_following.specs.Watched.{Watched, frame_size, levels_at, outlook_at, can_tell, counted, fate_of, with_fate, with_told, first_told, decided}
use Rattle.afdx_following.specs.Inner.InStep.{IsInStep}
use Rattle.afdx_following.proofs.InStep.{fate_in_step}

pub first_and_rest : {X : Type 0} (xs : List X) (x : X) → slice_get xs 0 ≡ Some x → xs ≡ x ∷ drop 1 xs
first_and_rest [] x get = absurd (let none = get in cc)
first_and_rest {X} (y ∷ xs) x get = (let same : y ≡ x = cc in ap (λ (z : X). z ∷ xs) same)

-- the frames that wait are given beside the link
whatever_waits : (at : Option ℕ) (ns more : List Numbered) (f : Watched) → decided at ns (record f { undecided = more }) ≡ decided at ns f
whatever_waits at [] more f = refl
whatever_waits at (n ∷ ns) more f =
    elim (cases_Bool (can_tell at f.outputs n (outlook_at f n))) [
      | inl told ↦ rw told (whatever_waits at ns more (with_told n f))
      | inr unknown ↦ rw unknown refl
    ]

-- where its fate is told
record IsFirst (at : Option ℕ) (n : Numbered) (ns : List Numbered) (f next : Watched) : Type 0 where
  told : can_tell at f.outputs n (outlook_at f n) ≡ true
  is : with_told n (record f { undecided = ns }) ≡ next

first_by : (at : Option ℕ) (n : Numbered) (ns : List Numbered) (f next : Watched) → first_told at (n ∷ ns) f ≡ Some next → IsFirst at n ns f next
first_by at n ns f next first =
    elim (cases_Bool (can_tell at f.outputs n (outlook_at f n))) [
      | inl told ↦ (let some = rw told at first in record { told = told; is = cc })
      | inr unknown ↦ absurd (let none = rw unknown at first in cc)
    ]

pub decided_next : (at : Option ℕ) (us : List Numbered) (f next : Watched) → first_told at us f ≡ Some next → decided at us f ≡ decided at next.undecided next
decided_next at [] f next first = absurd (let none = first in cc)
decided_next at (n ∷ ns) f next first =
    let by = first_by at n ns f next first in
    rw by.told (sym (whatever_waits at ns ns (with_told n f)) ∙ ap (λ (g : Watched). decided at g.undecided g) by.is)

pub next_in_step : (at : Option ℕ) (us : List Numbered) (f next : Watched) → first_told at us f ≡ Some next → IsInStep (record f { undecided = us }) → IsInStep next
next_in_step at [] f next first kept = absurd (let none = first in cc)
next_in_step at (n ∷ ns) f next first kept =
    subst (λ (g : Watched). IsInStep g) (first_by at n ns f next first).is (fate_in_step n ns (fate_of f n) (counted (outlook_at f n) f.unsure) f kept)

pub next_shorter : (at : Option ℕ) (us : List Numbered) (f next : Watched) → first_told at us f ≡ Some next → length next.undecided + 1 ≡ length us
next_shorter at [] f next first = absurd (let none = first in cc)
next_shorter at (n ∷ ns) f next first =
    let rest : length ns ≡ length next.undecided = ap (λ (g : Watched). length g.undecided) (first_by at n ns f next first).is in omega (arith, rest)

-- as it is done
pub told_as : (at : Option ℕ) (f : Watched) (n : Numbered) (ns : List Numbered) (passes : Bool) (o : Outlook) (unsure : ℕ) (new : Watched) → f.undecided ≡ n ∷ ns
    → o ≡ outlook_at f n → can_tell at f.outputs n o ≡ true → passes ≡ fate_told o (list_any (λ x. has n x) f.outputs) → unsure ≡ counted o f.unsure
    → new ≡ with_fate n passes (record f { undecided = ns; unsure = unsure }) → first_told at f.undecided f ≡ Some new
told_as at f n ns passes o unsure new us o_is told passes_is unsure_is new_is =
    let can : can_tell at f.outputs n (outlook_at f n) ≡ true = ap (λ (x : Outlook). can_tell at f.outputs n x) (sym o_is) ∙ told in
    let fate : passes ≡ fate_of f n = passes_is ∙ ap (λ (x : Outlook). fate_told x (list_any (λ y. has n y) f.outputs)) o_is in
    let count : unsure ≡ counted (outlook_at f n) f.unsure = unsure_is ∙ ap (λ (x : Outlook). counted x f.unsure) o_is in
    let made : with_fate n passes (record f { undecided = ns; unsure = unsure }) ≡ with_told n (record f { undecided = ns }) =
    ap (λ (b : Bool). with_fate n b (record f { undecided = ns; unsure = unsure })) fate
    ∙ ap (λ (c : ℕ). with_fate n (fate_of f n) (record f { undecided = ns; unsure = c })) count in
    let here : first_told at (n ∷ ns) f ≡ Some new = rw can (ap (λ (g : Watched). Some g) (sym (new_is ∙ made))) in
    ap (λ (xs : List Numbered). first_told at xs f) us ∙ here

pub fate_made : (f : Watched) (n m : Numbered) (ns ms : List Numbered) (passes : Bool) (levels : Levels) (outputs : List Output) → f.undecided ≡ m ∷ ms → f.undecided ≡ n ∷ ns
    → levels ≡ after (account_terms f.account) f.tolerance (frame_size m) passes (levels_at f m) → outputs ≡ map (λ o. with_came m passes o) f.outputs
    → record f { levels = levels; undecided = ms; outputs = outputs } ≡ with_fate n passes (record f { undecided = ns })
fate_made f n m ns ms passes levels outputs us others levels_is outputs_is =
    let same : m ∷ ms ≡ n ∷ ns = sym us ∙ others in
    let first : m ≡ n = cc in
    let rest : ms ≡ ns = cc in
    ap (λ (l : Levels). record f { levels = l; undecided = ms; outputs = outputs }) levels_is
    ∙ ap (λ (os : List Output). record f { levels = after (account_terms f.account) f.tolerance (frame_size m) passes (levels_at f m); undecided = ms; outputs = os }) outputs_is
    ∙ ap (λ (x : Numbered). with_fate x passes (record f { undecided = ms })) first
    ∙ ap (λ (xs : List Numbered). with_fate n passes (record f { undecided = xs })) rest
