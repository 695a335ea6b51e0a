-- What notes add.
use Rattle.std.proofs.Common.{◌≡◌, ℕ, ◌+◌, ◌≤◌, ◌<◌, zero, suc, get_or, drop, nat_eq, Bool, false, cond, List, [], ◌∷◌, length, map, Option, None, refl, sym, ap, ◌∙◌, arith, inl, inr, zero-add}
use Rattle.std.specs.Prelude.{count_by}
use Rattle.std.proofs.lemmas.Bool.{cases_Bool}
use Rattle.std.proofs.lemmas.Cmp.{nat_eq_equiv}
use Rattle.std.proofs.lemmas.List.{drop_more}
use Rattle.std.proofs.lemmas.List.Sums.{sum_by-cons}
use Rattle.afdx_units.specs.declared.line.Priority.{Priority}
use Rattle.afdx_units.specs.declared.line.Priority.TheVariants.{High, Low}
use Rattle.afdx_filter.specs.declared.outcome.Verdict.{Verdict}
use Rattle.afdx_port.specs.declared.Offer.{Offer}
use Rattle.afdx_port.specs.Content.{answers_full}
use Rattle.afdx_core.specs.declared.step.Fate.TheVariants.{Filtered}
use Rattle.afdx_core.specs.Step.{Step}
use Rattle.afdx_core.specs.State.{Run}
use Rattle.afdx_count.specs.declared.counters.OutCount.{OutCount}
use Rattle.afdx_count.specs.declared.ports.PortTally.{PortTally}
use Rattle.afdx_count.specs.declared.links.LinkTally.{LinkTally}
use Rattle.afdx_count.specs.Counting.{capped, answers_of, with_answers}
use Rattle.afdx_count.specs.Tally.{Tally, with_arrival, with_copies, with_class, class_of, noted_link, noted_port, noted, ended_port}
use Rattle.afdx_count.specs.Inner.Places.{changed_at}

pub map_stays : {X : Type 0} (f : X → X) (xs : List X) → ((x : X) → f x ≡ x) → xs ≡ map f xs
map_stays f [] h = refl
map_stays f (x ∷ xs) h = (λ j. sym (h x) j ∷ map_stays f xs h j)

pub map_twice : {X Y W : Type 0} (f : X → Y) (g : Y → W) (xs : List X) → map g (map f xs) ≡ map (λ x. g (f x)) xs
map_twice f g [] = refl
map_twice f g (x ∷ xs) = ap (λ ys. g (f x) ∷ ys) (map_twice f g xs)

pub filtered : (v : Verdict) (ls : List LinkTally) → ls ≡ map (noted_link (Filtered v)) ls
filtered v ls = map_stays (noted_link (Filtered v)) ls (λ l. refl)

pub numbers_ended : (r : Run) (old now : List PortTally) → now ≡ map (ended_port r) old → map (λ (p : PortTally). p.id) old ≡ map (λ (p : PortTally). p.id) now
numbers_ended r old now is = sym (map_twice (ended_port r) (λ (p : PortTally). p.id) old) ∙ ap (map (λ (p : PortTally). p.id)) (sym is)

-- ---- copies

pub count_one : {X : Type 0} (p : X → Bool) (x : X) (xs : List X) → count_by p (x ∷ xs) ≡ cond (p x) 1 0 + count_by p xs
count_one p x xs = sum_by-cons (λ y. cond (p y) 1 0) x xs

offered_more : (x n : ℕ) → capped (x + suc n) ≡ capped (capped (x + 1) + n)
offered_more x n = omega arith

full_more : (x one more both single : ℕ) → both ≡ one + more → single ≡ one → capped (x + both) ≡ capped (capped (x + single) + more)
full_more x one more both single both-is single-is = omega (arith, both-is, single-is)

pub one_answer_more : (a : Offer) (more : List Offer) (c : OutCount) → with_answers (a ∷ more) c ≡ with_answers more (with_answers (a ∷ []) c)
one_answer_more a [] c = refl
one_answer_more a (b ∷ bs) c =
    let offered-is = offered_more c.offered (length (b ∷ bs)) in
    let full-is = full_more c.full (cond (answers_full a) 1 0) (count_by answers_full (b ∷ bs)) (count_by answers_full (a ∷ b ∷ bs)) (count_by answers_full (a ∷ []))
    (count_one answers_full a (b ∷ bs))
    (zero-add (cond (answers_full a) 1 0)) in
    (λ j. record c { offered = offered-is j; full = full-is j })

answers_more : (port : ℕ) (o : ℕ × Offer) (os : List (ℕ × Offer)) (c : OutCount) → with_answers (answers_of port (o ∷ os)) c
    ≡ with_answers (answers_of port os) (with_answers (answers_of port (o ∷ [])) c)
answers_more port o os c =
    elim (cases_Bool (nat_eq o.0 port)) [
      | inl hit ↦ rw hit (one_answer_more o.1 (answers_of port os) c)
      | inr miss ↦ rw miss refl
    ]

pub one_copy_more : (class : Priority) (o : ℕ × Offer) (os : List (ℕ × Offer)) (p : PortTally) → with_copies class (o ∷ os) p ≡ with_copies class os (with_copies class (o ∷ []) p)
one_copy_more High o os p = ap (λ c. record p { high = c }) (answers_more p.id o os p.high)
one_copy_more Low o os p = ap (λ c. record p { low = c }) (answers_more p.id o os p.low)

pub copies_more : (class : Priority) (o : ℕ × Offer) (os : List (ℕ × Offer)) (ps : List PortTally) → map (with_copies class (o ∷ os)) ps
    ≡ map (with_copies class os) (map (with_copies class (o ∷ [])) ps)
copies_more class o os ps =
    (λ j. map (λ p. one_copy_more class o os p j) ps)
    ∙ sym (map_twice (with_copies class (o ∷ [])) (with_copies class os) ps)

pub no_copies : (class : Priority) (p : PortTally) → with_copies class [] p ≡ p
no_copies High p = refl
no_copies Low p = refl

one_copy : (class : Priority) (port : ℕ) (offer : Offer) (p : PortTally) → cond (nat_eq p.id port) (with_copies class ((port, offer) ∷ []) p) p ≡ with_copies class ((port, offer) ∷ []) p
one_copy class port offer p =
    elim (cases_Bool (nat_eq p.id port)) [
      | inl hit ↦ rw hit refl
      | inr miss ↦ rw miss (sym (elsewhere class (nat_eq_equiv.symm port p.id ∙ miss)))
    ] where
      elsewhere : (class : Priority) → nat_eq port p.id ≡ false → with_copies class ((port, offer) ∷ []) p ≡ p
      elsewhere High none = rw none refl
      elsewhere Low none = rw none refl

-- a copy counts at one port alone
pub one_copy_at : (class : Priority) (port : ℕ) (offer : Offer) (ps : List PortTally) → changed_at (λ (p : PortTally). p.id) port (with_copies class ((port, offer) ∷ [])) ps
    ≡ map (with_copies class ((port, offer) ∷ [])) ps
one_copy_at class port offer ps = λ j. map (λ p. one_copy class port offer p j) ps

pub numbers_copies : (class : Priority) (os : List (ℕ × Offer)) (p : PortTally) → (with_copies class os p).id ≡ p.id
numbers_copies High os p = refl
numbers_copies Low os p = refl

drop_whole : {X : Type 0} (xs : List X) (i : ℕ) → length xs ≤ i → drop i xs ≡ []
drop_whole [] zero le = refl
drop_whole [] (suc i) le = refl
drop_whole (x ∷ xs) zero le = absurd (omega (arith, le))
drop_whole (x ∷ xs) (suc i) le = drop_whole xs i (omega (arith, le))

-- one more copy, and all of them
pub copies_step : (class : Priority) (offers : List (ℕ × Offer)) (i : ℕ) (d : ℕ × Offer) (start old now : List PortTally) → i < length offers
    → map (with_copies class offers) start ≡ map (with_copies class (drop i offers)) old → now ≡ map (with_copies class (get_or offers i d ∷ [])) old
    → map (with_copies class offers) start ≡ map (with_copies class (drop (i + 1) offers)) now
copies_step class offers i d start old now lt before now-is =
    before ∙ ap (λ os. map (with_copies class os) old) (drop_more offers i d lt)
    ∙ copies_more class (get_or offers i d) (drop (i + 1) offers) old
    ∙ ap (map (with_copies class (drop (i + 1) offers))) (sym now-is)

pub copies_end : (class : Priority) (offers : List (ℕ × Offer)) (i : ℕ) (start now : List PortTally) → length offers ≤ i
    → map (with_copies class offers) start ≡ map (with_copies class (drop i offers)) now → now ≡ map (with_copies class offers) start
copies_end class offers i start now le before =
    map_stays (with_copies class []) now (no_copies class) ∙ ap (λ os. map (with_copies class os) now) (sym (drop_whole offers i le)) ∙ sym before

pub no_class : (class : Option Priority) (offers : List (ℕ × Offer)) (ps : List PortTally) → class ≡ None → ps ≡ map (with_class class offers) ps
no_class class offers ps is = map_stays (with_class None offers) ps (λ p. refl) ∙ ap (λ o. map (with_class o offers) ps) (sym is)

-- the parts of a note
pub noted_parts : (h : Step) (t : Tally) (class : Option Priority) (came copied : List PortTally) (links : List LinkTally) → class ≡ class_of h.fate t.links
    → came ≡ map (with_arrival h.in_port h.fate) t.ports → copied ≡ map (with_class class h.offers) came → links ≡ map (noted_link h.fate) t.links
    → record { ports = copied; links = links } ≡ noted h t
noted_parts h t class came copied links class-is came-is copied-is links-is =
    let ports-are = copied-is ∙ ap (map (with_class class h.offers)) came-is ∙ map_twice (with_arrival h.in_port h.fate) (with_class class h.offers) t.ports
    ∙ ap (λ o. map (noted_port o h) t.ports) class-is in
    (λ j. record { ports = ports-are j; links = links-is j })
