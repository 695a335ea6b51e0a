-- Records of captures are taken in their turn.
use Rattle.std.proofs.Common.{◌≡◌, ℕ, suc, drop, ◌<◌, ◌≤◌, Bool, true, false, List, [], ◌∷◌, ◌++◌, length, Option, Some, None, refl, sym, ap, subst, ◌∙◌, arith}
use Rattle.std.specs.Prelude.{if◌then◌else◌, slice_get}
use Rattle.std.specs.List.{AllByRecursion}
use Rattle.std.proofs.lemmas.List.{append_assoc}
use Rattle.afdx_table.specs.Content.{Content}
use Rattle.afdx_table.specs.Inner.Found.{PortsAreFound}
use Rattle.afdx_following.specs.declared.watch.Watch.{Watch}
use Rattle.afdx_merging.specs.Merge.{Arrival, AreInOrder}
use Rattle.afdx_recordings.specs.declared.recordings.Recordings.{Recordings}
use Rattle.afdx_compare.specs.declared.sources.Source.{Source}
use Rattle.afdx_compare.specs.Comparison.{Comparison}
use Rattle.afdx_compare.specs.Arrivals.{with_arrival, with_arrivals}
use Rattle.afdx_compare.specs.Inner.Sound.{IsSound, IsBy}
use Rattle.afdx_compare.specs.Inner.Due.{IsDueBy, IsDue, AreDue, counts_as, counts, AreFrom, MayArriveBy, MayArrive, MayAllArrive}
use Rattle.afdx_compare.specs.Inner.Held.{is_settled_of, is_first_settled, AreTaken}
use Rattle.afdx_compare.proofs.Next.{arrival_sound, arrival_same, turn_of, by_later, arrival_by, from_after}
use Rattle.afdx_compare.proofs.Places.{get_there}

-- ---- records one after another

pub arrivals_more : (captures : List Source) (xs ys : List Arrival) (c : Comparison) → with_arrivals captures (xs ++ ys) c ≡ with_arrivals captures ys (with_arrivals captures xs c)
arrivals_more captures [] ys c = refl
arrivals_more captures (x ∷ xs) ys c = arrivals_more captures xs ys (with_arrival captures x c)

pub arrivals_sound : (captures : List Source) (xs : List Arrival) (c : Comparison) → IsSound c → IsSound (with_arrivals captures xs c)
arrivals_sound captures [] c sound = sound
arrivals_sound captures (x ∷ xs) c sound = arrivals_sound captures xs (with_arrival captures x c) (arrival_sound (slice_get captures x.place) x c sound)

pub may_later : (captures : List Source) (xs ys : List Arrival) (c : Comparison) → MayAllArrive captures (xs ++ ys) c → MayAllArrive captures ys (with_arrivals captures xs c)
may_later captures [] ys c may = may
may_later captures (x ∷ xs) ys c may = may_later captures xs ys (with_arrival captures x c) may.1

pub all_more : {X : Type 0} (P : X → Type 0) (xs : List X) (x : X) → AllByRecursion P xs → P x → AllByRecursion P (xs ++ x ∷ [])
all_more P [] x all one = (one, tt)
all_more P (y ∷ ys) x all one = (all.0, all_more P ys x all.1 one)

pub all_after : {X : Type 0} (P : X → Type 0) (xs ys : List X) → AllByRecursion P (xs ++ ys) → AllByRecursion P ys
all_after P [] ys all = all
all_after P (x ∷ xs) ys all = all_after P xs ys all.1

-- where none comes of a queue, it is empty
pub all_popped : {X : Type 0} (xs ys : List X) → xs ≡ ys → ys ≡ drop 1 xs → xs ≡ []
all_popped [] ys same rest = refl
all_popped {X} (x ∷ xs) ys same rest = absurd (let long : suc (length xs) ≡ length xs = ap (λ (zs : List X). length zs) (same ∙ rest) in omega (arith, long))

-- one more of those that wait was taken
pub taken_more : (r : Recordings) (captures : List Source) (greatest : Option ℕ) (waited waits rest : List Arrival) (a : Arrival) (old now new : Comparison)
    → AreTaken r captures greatest waited waits old now → waits ≡ a ∷ rest → is_settled_of r greatest (slice_get captures a.place) a ≡ true → new ≡ with_arrival captures a now
    → AreTaken r captures greatest waited rest old new
taken_more r captures greatest waited waits rest a old now new was is settled new_is = record {
  taken = was.taken ++ a ∷ [];
  all = was.all ∙ ap (λ (w : List Arrival). was.taken ++ w) is ∙ sym (append_assoc was.taken (a ∷ []) rest);
  settled = all_more (λ (x : Arrival). is_settled_of r greatest (slice_get captures x.place) x ≡ true) was.taken a was.settled settled;
  told = new_is ∙ ap (λ (c : Comparison). with_arrival captures a c) was.told ∙ sym (arrivals_more captures was.taken (a ∷ []) old);
}

-- ---- what is in order may arrive

turn_side : (leaves : Bool) (at : ℕ) (s : Source) (a : Arrival) (c : Comparison) → IsDueBy c.watch c.table s leaves a → (counts_as c.watch leaves a.head.frame.stamp ≡ true → at ≤ a.due)
    → IsBy at c → MayArriveBy s leaves a c
turn_side true at s a c due from by = turn_of at s a c due from by
turn_side false at s a c due from by = λ has. by_later at a.head.frame.stamp c.links (let le = from has in omega (arith, le, due)) by

arrival_may : (of : Option Source) (s : Source) (at : ℕ) (a : Arrival) (c : Comparison) → of ≡ Some s → IsDue c.watch c.table of a → (counts c.watch of a ≡ true → at ≤ a.due)
    → IsBy at c → MayArrive of a c
arrival_may None s at a c is due from by = absurd (let never = is in cc)
arrival_may (Some x) s at a c is due from by = turn_side x.leaves at x a c due from by

pub all_may : PortsAreFound → (captures : List Source) (arrivals : List Arrival) (c : Comparison) (at : ℕ) → IsSound c → AllByRecursion (λ a. a.place < length captures) arrivals
    → AreInOrder arrivals → AreDue c.watch c.table captures arrivals → IsBy at c → AreFrom c.watch captures at arrivals → MayAllArrive captures arrivals c
all_may ports captures [] c at sound places order due by from = tt
all_may ports captures (a ∷ arrivals) c at sound places order due by from =
    let s = slice_get captures a.place in
    let d = with_arrival captures a c in
    let same = arrival_same s a c in
    let later = if counts c.watch s a then a.due else at in
    let there = get_there captures a.place places.0 in (
      arrival_may s there.0 at a c there.1 due.0 from.0 by,
      all_may ports captures arrivals d later (arrival_sound s a c sound) places.1 order.1
          (subst (λ (w : Watch). AreDue w d.table captures arrivals) (sym same.watch) (subst (λ (t : Content). AreDue c.watch t captures arrivals) (sym same.table) due.1))
          (arrival_by ports s (counts c.watch s a) at a c refl sound due.0 from.0 by)
          (subst (λ (w : Watch). AreFrom w captures later arrivals) (sym same.watch) (from_after c.watch captures (counts c.watch s a) at a arrivals order.0 from.1)),
    )

-- ---- those that wait are taken, one after the other

pub record MayGoOn (captures : List Source) (waits : List Arrival) (c : Comparison) : Type 0 where
  pub places : AllByRecursion (λ a. a.place < length captures) waits
  pub sound : IsSound c
  pub in_turn : MayAllArrive captures waits c

pub first_may : (captures : List Source) (waits rest : List Arrival) (a : Arrival) (c : Comparison) → MayGoOn captures waits c → waits ≡ a ∷ rest → MayGoOn captures (a ∷ rest) c
first_may captures waits rest a c may is = subst (λ (xs : List Arrival). MayGoOn captures xs c) is may

pub rest_may : (captures : List Source) (waits rest : List Arrival) (a : Arrival) (c d : Comparison) → MayGoOn captures waits c → waits ≡ a ∷ rest → d ≡ with_arrival captures a c
    → MayGoOn captures rest d
rest_may captures waits rest a c d may is new =
    let now = first_may captures waits rest a c may is in
    subst (λ (x : Comparison). MayGoOn captures rest x) (sym new) (record {
      places = now.places.1;
      sound = arrival_sound (slice_get captures a.place) a c now.sound;
      in_turn = now.in_turn.1;
    })

-- of those that waited some are taken, and the others may be
pub record IsTaking (r : Recordings) (captures : List Source) (greatest : Option ℕ) (waited waits : List Arrival) (old now : Comparison) : Type 0 where
  pub taken : AreTaken r captures greatest waited waits old now
  pub may : MayGoOn captures waits now

pub takes_more : (r : Recordings) (captures : List Source) (greatest : Option ℕ) (waited waits rest : List Arrival) (a : Arrival) (old now new : Comparison)
    → IsTaking r captures greatest waited waits old now → waits ≡ a ∷ rest → is_first_settled r captures greatest waits ≡ true → new ≡ with_arrival captures a now
    → IsTaking r captures greatest waited rest old new
takes_more r captures greatest waited waits rest a old now new was is settled new_is = record {
  taken = taken_more r captures greatest waited waits rest a old now new was.taken is (subst (λ (xs : List Arrival). is_first_settled r captures greatest xs ≡ true) is settled) new_is;
  may = rest_may captures waits rest a now new was.may is new_is;
}
