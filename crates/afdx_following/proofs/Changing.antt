-- What is done to a watched link is what its definitions say.
use Rattle.std.proofs.Common.{◌≡◌, ℕ, zero, suc, ◌+◌, ◌<◌, ◌≤◌, Bool, List, [], ◌∷◌, ◌++◌, map, take, drop, length, set, get_or, Option, Some, None, Vec, refl, sym, ap, subst, ◌∙◌, arith}
use Rattle.std.specs.Prelude.{slice_get}
use Rattle.std.specs.List.{AllByRecursion, position}
use Rattle.std.specs.Option.{IfSome, option_map_or}
use Rattle.std.specs.Vec.{with_items}
use Rattle.std.proofs.lemmas.List.{length-map, with_items_is}
use Rattle.std.proofs.lemmas.Option.{slice_get-get_or}
use Rattle.std.proofs.lemmas.List.Edits.{map_over_more}
use Rattle.std.proofs.lemmas.List.Quantifiers.{position-Some}
use Rattle.afdx_pairing.specs.Events.{Numbered}
use Rattle.afdx_following.specs.Output.{Output, left_by, stamped_by, with_waiting, paired_up_to, gone_on, with_end}
use Rattle.afdx_following.specs.Watched.{Watched, Fits, decided, first_unknown, with_paired, with_gone, settled_by, with_own, changed_at, left_by_at, stamped_by_at, with_record, with_ends}
use Rattle.afdx_following.specs.Inner.InStep.{IsInStep}
use Rattle.afdx_following.proofs.InStep.{own_in_step, record_in_step}

-- ---- a list of which each item is changed in turn

pub one_changed : {X : Type 0} (f : X → X) (xs ys : List X) (i : ℕ) (x new : X) → i < length xs → ys ≡ map f (take i xs) ++ drop i xs → x ≡ get_or ys i x
    → new ≡ f (get_or ys i x) → set ys i new ≡ map f (take (i + 1) xs) ++ drop (i + 1) xs
one_changed {X} f xs ys i x new lt so_far get is = ap (λ (z : X). set ys i z) (is ∙ ap f (sym get)) ∙ map_over_more f xs ys i x lt so_far get

-- and in the end all are
pub all_changed : {X : Type 0} (f : X → X) (xs ys : List X) (i : ℕ) → length xs ≤ i → ys ≡ map f (take i xs) ++ drop i xs → ys ≡ map f xs
all_changed f [] ys zero past so_far = so_far
all_changed f [] ys (suc i) past so_far = so_far
all_changed f (x ∷ xs) ys zero past so_far = absurd (omega (arith, past))
all_changed {X} f (x ∷ xs) ys (suc i) past so_far =
    so_far ∙ ap (λ (zs : List X). f x ∷ zs) (all_changed f xs (map f (take i xs) ++ drop i xs) i (omega (arith, past)) refl)

-- one that is not changed yet is as it was
pub not_yet : {X : Type 0} (P : X → Type 0) (f : X → X) (xs : List X) (i : ℕ) (x : X) → i < length xs → x ≡ get_or (map f (take i xs) ++ drop i xs) i x → AllByRecursion P xs → P x
not_yet P f [] i x lt get all = absurd (omega (arith, lt))
not_yet P f (y ∷ xs) zero x lt get all = subst P (sym get) all.0
not_yet P f (y ∷ xs) (suc i) x lt get all = not_yet P f xs i x (omega (arith, lt)) get all.1

-- and so is a vector over which they are written
pub mapped_back : {X Z : Type 0} (v : Vec X Z) (f : X → X) (now new : List X) → now ≡ v.items → new ≡ map f now → (with_items v new).items ≡ map f v.items
mapped_back {X} v f now new now_is new_is =
    let same : new ≡ map f v.items = new_is ∙ ap (λ (xs : List X). map f xs) now_is in
    with_items_is v new (ap (λ (xs : List X). length xs) same ∙ length-map v.items f ∙ sym v.ok.0) ∙ same

-- ---- one port

pub some_within : {X : Type 0} (p : X → Bool) (xs : List X) (place : Option ℕ) → place ≡ position p xs → IfSome place (λ i. i < length xs)
some_within p xs None is = tt
some_within p [] (Some i) is = absurd (let never = is in cc)
some_within p (x ∷ xs) (Some i) is = (position-Some p (x ∷ xs) i x (sym is)).0

pub set_changes : {X : Type 0} (i : ℕ) (change : X → X) (xs : List X) (x : X) → slice_get xs i ≡ Some x → set xs i (change x) ≡ changed_at i change xs
set_changes i change [] x get = absurd (let none = get in cc)
set_changes {X} zero change (y ∷ xs) x get = (let same : x ≡ y = cc in ap (λ (z : X). change z ∷ xs) same)
set_changes {X} (suc i) change (y ∷ xs) x get = ap (λ (zs : List X). y ∷ zs) (set_changes i change xs x get)

pub item_there : {X : Type 0} (xs : List X) (i : ℕ) (x : X) → i < length xs → x ≡ get_or xs i x → slice_get xs i ≡ Some x
item_there {X} xs i x lt is = slice_get-get_or xs i x lt ∙ ap (λ (y : X). Some y) (sym is)

pub same_item : {X : Type 0} (xs : List X) (i : ℕ) (x y : X) → i < length xs → x ≡ get_or xs i x → y ≡ get_or xs i y → x ≡ y
same_item xs i x y lt first second = (let both : Some x ≡ Some y = sym (item_there xs i x lt first) ∙ item_there xs i y lt second in cc)

pub left_by_is : (place : ℕ) (n : Numbered) (f : Watched) (o : Output) → slice_get f.outputs place ≡ Some o → left_by n o ≡ left_by_at place n f
left_by_is place n f o get = sym (ap (λ (one : Option Output). option_map_or (λ x. left_by n x) one 0) get)

pub stamped_by_is : (place : ℕ) (n : Numbered) (f : Watched) (o : Output) → slice_get f.outputs place ≡ Some o → stamped_by n o ≡ stamped_by_at place n f
stamped_by_is place n f o get = sym (ap (λ (one : Option Output). option_map_or (λ x. stamped_by n x) one 0) get)

-- ---- a frame, and a record

pub own_made : (f : Watched) (n : Numbered) (us : List Numbered) (at : ℕ) → us ≡ f.undecided ++ n ∷ [] → at ≡ n.frame.stamp
    → settled_by (Some at) (record f { undecided = us; latest = at }) ≡ with_own n f
own_made f n us at us_is at_is =
    ap (λ (xs : List Numbered). settled_by (Some at) (record f { undecided = xs; latest = at })) us_is
    ∙ ap (λ (i : ℕ). settled_by (Some i) (record f { undecided = f.undecided ++ n ∷ []; latest = i })) at_is

pub own_made_in_step : (f : Watched) (n : Numbered) (us : List Numbered) (at : ℕ) → us ≡ f.undecided ++ n ∷ [] → at ≡ n.frame.stamp → IsInStep f → f.latest ≤ n.frame.stamp
    → Fits f.account n → IsInStep (record f { undecided = us; latest = at })
own_made_in_step f n us at us_is at_is kept le fits =
    subst (λ (xs : List Numbered). IsInStep (record f { undecided = xs; latest = at })) (sym us_is)
    (subst (λ (i : ℕ). IsInStep (record f { undecided = f.undecided ++ n ∷ []; latest = i })) (sym at_is) (own_in_step f n kept le fits))

pub record_made : (f : Watched) (place : ℕ) (n : Numbered) (o : Output) (by at : ℕ) (os : List Output) → slice_get f.outputs place ≡ Some o → by ≡ stamped_by n o
    → at ≡ left_by n o → os ≡ set f.outputs place (with_waiting n o) → settled_by (Some by) (record f { outputs = os; latest = at }) ≡ with_record place n f
record_made f place n o by at os get by_is at_is os_is =
    ap (λ (xs : List Output). settled_by (Some by) (record f { outputs = xs; latest = at })) (os_is ∙ set_changes place (λ x. with_waiting n x) f.outputs o get)
    ∙ ap (λ (i : ℕ). settled_by (Some by) (record f { outputs = changed_at place (λ x. with_waiting n x) f.outputs; latest = i })) (at_is ∙ left_by_is place n f o get)
    ∙ ap (λ (i : ℕ). settled_by (Some i) (record f { outputs = changed_at place (λ x. with_waiting n x) f.outputs; latest = left_by_at place n f }))
    (by_is ∙ stamped_by_is place n f o get)

pub record_made_in_step : (f : Watched) (place : ℕ) (n : Numbered) (o : Output) (at : ℕ) (os : List Output) → slice_get f.outputs place ≡ Some o → at ≡ left_by n o
    → os ≡ set f.outputs place (with_waiting n o) → IsInStep f → f.latest ≤ left_by_at place n f → IsInStep (record f { outputs = os; latest = at })
record_made_in_step f place n o at os get at_is os_is kept le =
    subst (λ (xs : List Output). IsInStep (record f { outputs = xs; latest = at })) (sym (os_is ∙ set_changes place (λ x. with_waiting n x) f.outputs o get))
    (record_in_step f place n at kept (at_is ∙ left_by_is place n f o get)
    (subst (λ (i : ℕ). f.latest ≤ i) (sym (at_is ∙ left_by_is place n f o get)) le))

-- ---- what follows from what was taken

settled_made : (at : ℕ) (f d : Watched) (unknown : Option ℕ) (paired gone : List Output) → d ≡ decided (Some at) f.undecided f → unknown ≡ first_unknown d.undecided
    → paired ≡ map (λ o. paired_up_to unknown o) d.outputs → gone ≡ map (λ o. gone_on at o) paired → record d { outputs = gone } ≡ settled_by (Some at) f
settled_made at f d unknown paired gone d_is unknown_is paired_is gone_is =
    ap (λ (os : List Output). record d { outputs = os })
    (gone_is ∙ ap (λ (os : List Output). map (λ o. gone_on at o) os) (paired_is ∙ ap (λ (u : Option ℕ). map (λ o. paired_up_to u o) d.outputs) unknown_is))
    ∙ ap (λ (x : Watched). with_gone (Some at) (with_paired x)) d_is

pub settled_back : {Z : Type 0} (at : ℕ) (f d : Watched) (unknown : Option ℕ) (v : Vec Output Z) (first paired second gone : List Output)
    → record d { outputs = v.items } ≡ decided (Some at) f.undecided f → unknown ≡ first_unknown d.undecided → first ≡ v.items → paired ≡ map (λ o. paired_up_to unknown o) first
    → second ≡ (with_items v paired).items → gone ≡ map (λ o. gone_on at o) second
    → record d { outputs = (with_items (with_items v paired) gone).items } ≡ settled_by (Some at) f
settled_back at f d unknown v first paired second gone d_is unknown_is first_is paired_is second_is gone_is =
    settled_made at f (record d { outputs = v.items }) unknown (with_items v paired).items (with_items (with_items v paired) gone).items d_is unknown_is
    (mapped_back v (λ o. paired_up_to unknown o) first paired first_is paired_is)
    (mapped_back (with_items v paired) (λ o. gone_on at o) second gone second_is gone_is)

pub all_settled_made : (f d : Watched) (unknown : Option ℕ) (paired : List Output) → d ≡ decided None f.undecided f → unknown ≡ first_unknown d.undecided
    → paired ≡ map (λ o. paired_up_to unknown o) d.outputs → record d { outputs = paired } ≡ settled_by None f
all_settled_made f d unknown paired d_is unknown_is paired_is =
    ap (λ (os : List Output). record d { outputs = os }) (paired_is ∙ ap (λ (u : Option ℕ). map (λ o. paired_up_to u o) d.outputs) unknown_is)
    ∙ ap (λ (x : Watched). with_paired x) d_is

pub ends_made : (last : Option ℕ) (f all : Watched) (ended : List Output) → all ≡ settled_by None f → ended ≡ map (λ o. with_end last o) all.outputs
    → record all { outputs = ended } ≡ with_ends last f
ends_made last f all ended all_is ended_is =
    ap (λ (os : List Output). record all { outputs = os }) ended_is ∙ ap (λ (x : Watched). record x { outputs = map (λ o. with_end last o) x.outputs }) all_is
