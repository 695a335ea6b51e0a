-- A line where all that wait have come by the next start.
use Rattle.std.proofs.Common.{◌≡◌, ℕ, ◌+◌, ◌<◌, ◌≤◌, Bool, true, false, cond, Option, Some, None, List, [], ◌∷◌, ◌++◌, length, refl, ap, sym, ◌∙◌, arith, append_assoc}
use Rattle.std.specs.Prelude.{sum_by, All, SomeIff, IsSome}
use Rattle.std.proofs.lemmas.Bool.{ltb-true, ltb-false}
use Rattle.std.proofs.lemmas.List.Sums.{sum_by-cons, sum_by_push}
use Rattle.std.proofs.lemmas.List.Elements.{All-head, All-tail, All-cons, All-push}
use Rattle.afdx_units.specs.declared.line.Speed.{Speed}
use Rattle.afdx_units.specs.declared.line.Speed.TheVariants.{Ten, Hundred, Thousand}
use Rattle.afdx_units.specs.Line.{cost_of}
use Rattle.afdx_units.specs.Time.{is_before}
use Rattle.afdx_port.specs.declared.Settings.{Settings}
use Rattle.afdx_port.specs.declared.Item.{Item}
use Rattle.afdx_port.specs.Service.{free_after, fate, before}
use Rattle.afdx_port.specs.Inner.Progress.{LineState}
use Rattle.afdx_port.specs.Inner.Order.{in_line}
use Rattle.afdx_port.specs.Inner.Course.{next_in_line, after_next, rest_in_line, first_start}
use Rattle.afdx_port.proofs.Turns.{instant-fate, free_after-fate}
use Rattle.afdx_port.proofs.Earlier.{before-cons_out, before-cons_in}

-- where the next start is at t or later, nothing lies before t
pub in_line_late : (s : Settings) (t b : ℕ) (items : List Item) → t ≤ b → before t (in_line s b items) ≡ []
in_line_late s t b [] le = refl
in_line_late s t b (x ∷ items) le =
    before-cons_out t (fate s b x) (in_line s (free_after (fate s b x)) items) (omega (arith, instant-fate s b x))
    ∙ in_line_late s t (free_after (fate s b x)) items (omega (arith, free_after-fate s b x))

-- a step that lies before t moves the first event from what is to do to what was done
pub before_split : (s s' : Settings) (t b : ℕ) (items : List Item) (q : LineState) → is_before t (first_start b items) ≡ true → q ≡ after_next s b items → s' ≡ s → before t (in_line s b items)
    ≡ next_in_line s b items ++ before t (in_line s' q.free q.waiting)
before_split s s' t b [] q due is same = rw (same, is) refl
before_split s s' t b (x ∷ items) q due is same = rw (same, is) (before-cons_in t (fate s b x) (in_line s (free_after (fate s b x)) items) (omega (arith, instant-fate s b x, ltb-true b t due)))

pub all_split : (s s' : Settings) (b : ℕ) (items : List Item) (q : LineState) → q ≡ after_next s b items → s' ≡ s → in_line s b items ≡ next_in_line s b items ++ in_line s' q.free q.waiting
all_split s s' b [] q is same = rw (same, is) refl
all_split s s' b (x ∷ items) q is same = rw (same, is) refl

pub rest_split : (s s' : Settings) (t b : ℕ) (items : List Item) (q goal : LineState) → is_before t (first_start b items) ≡ true → q ≡ after_next s b items → s' ≡ s → rest_in_line s t b items
    ≡ goal → rest_in_line s' t q.free q.waiting ≡ goal
rest_split s s' t b [] q goal due is same so_far = rw (same, is) so_far
rest_split s s' t b (x ∷ items) q goal due is same so_far = rw (same, is) (sym (ap (λ v. cond v (rest_in_line s t (free_after (fate s b x)) items) (record { free = b; waiting = x ∷ items })) due)
    ∙ so_far)

pub before_stop : (s : Settings) (t b : ℕ) (items : List Item) → is_before t (first_start b items) ≡ false → before t (in_line s b items) ≡ []
before_stop s t b [] due = refl
before_stop s t b (x ∷ items) due = in_line_late s t b (x ∷ items) (ltb-false b t due)

pub rest_stop : (s : Settings) (t b : ℕ) (items : List Item) → is_before t (first_start b items) ≡ false → rest_in_line s t b items ≡ record { free = b; waiting = items }
rest_stop s t b [] due = refl
rest_stop s t b (x ∷ items) due = ap (λ v. cond v (rest_in_line s t (free_after (fate s b x)) items) (record { free = b; waiting = x ∷ items })) due

pub due_waits : (t b : ℕ) (hs ls : List Item) → is_before t (first_start b (hs ++ ls)) ≡ true → 0 < length hs + length ls
due_waits t b [] [] due = (cc)
due_waits t b [] (x ∷ ls) due = omega arith
due_waits t b (x ∷ hs) ls due = omega arith

pub some_waits : (b : ℕ) (hs ls : List Item) → 0 < length hs + length ls → Some b ≡ first_start b (hs ++ ls)
some_waits b [] [] some = absurd (omega (arith, some))
some_waits b [] (x ∷ ls) some = refl
some_waits b (x ∷ hs) ls some = refl

-- where items wait and none is due before t, the next start is at t or later
pub waits_from : (t b : ℕ) (hs ls : List Item) → 0 < length hs + length ls → is_before t (first_start b (hs ++ ls)) ≡ false → t ≤ b
waits_from t b [] [] some late = absurd (omega (arith, some))
waits_from t b [] (x ∷ ls) some late = ltb-false b t late
waits_from t b (x ∷ hs) ls some late = ltb-false b t late

-- an item behind the first of two lists
pub all_insert : (P : Item → Type 0) (x : Item) (hs ls : List Item) → P x → All P (hs ++ ls) → All P ((hs ++ x ∷ []) ++ ls)
all_insert P x [] ls h all = All-cons P x ls h all
all_insert P x (y ∷ hs) ls h all = All-cons P y ((hs ++ x ∷ []) ++ ls) (All-head P y (hs ++ ls) all) (all_insert P x hs ls h (All-tail P y (hs ++ ls) all))

pub sum_insert : (f : Item → ℕ) (x : Item) (hs ls : List Item) → sum_by f ((hs ++ x ∷ []) ++ ls) ≡ sum_by f (hs ++ ls) + f x
sum_insert f x [] ls = let one = sum_by-cons f x ls in omega (arith, one)
sum_insert f x (y ∷ hs) ls = let one = sum_by-cons f y ((hs ++ x ∷ []) ++ ls) in let two = sum_by-cons f y (hs ++ ls) in omega (arith, one, two, sum_insert f x hs ls)

pub all_joined : (P : Item → Type 0) (v : Bool) (x : Item) (hs ls : List Item) → P x → All P (hs ++ ls) → All P (cond v ((hs ++ x ∷ []) ++ ls) (hs ++ (ls ++ x ∷ [])))
all_joined P true x hs ls h all = all_insert P x hs ls h all
all_joined P false x hs ls h all = rw (← append_assoc hs ls (x ∷ [])) (All-push P (hs ++ ls) x all h)

pub sum_joined : (f : Item → ℕ) (v : Bool) (x : Item) (hs ls : List Item) → sum_by f (cond v ((hs ++ x ∷ []) ++ ls) (hs ++ (ls ++ x ∷ []))) ≡ sum_by f (hs ++ ls) + f x
sum_joined f true x hs ls = sum_insert f x hs ls
sum_joined f false x hs ls = ap (sum_by f) (sym (append_assoc hs ls (x ∷ []))) ∙ sum_by_push f (hs ++ ls) x

pub cost_small : (speed : Speed) (size : ℕ) → size ≤ 1518 → cost_of speed size ≤ 1230400
cost_small Ten size le = omega arith
cost_small Hundred size le = omega arith
cost_small Thousand size le = omega arith

pub some_if : (o : Option ℕ) (P : Type 0) (v : ℕ) → SomeIff o P v → P → IsSome o
some_if None P v h p = absurd (h p)
some_if (Some x) P v h p = refl

pub some_is : (o : Option ℕ) (P : Type 0) (v : ℕ) → SomeIff o P v → P → o ≡ Some v
some_is None P v h p = absurd (h p)
some_is (Some x) P v h p = ap Some h.1
