-- Each link of a comparison is told what came and left in its turn.
use Rattle.std.proofs.Common.{◌≡◌, ℕ, ◌≤◌, Bool, true, false, List, [], ◌∷◌, ◌++◌, Option, Some, None, refl, sym, ap, subst, ◌∙◌, arith, inl, inr}
use Rattle.std.specs.Prelude.{◌==◌, if◌then◌else◌, slice_get, option_map}
use Rattle.std.specs.List.{AllByRecursion}
use Rattle.std.proofs.lemmas.Bool.{eqb-true}
use Rattle.afdx_table.specs.Content.{Content}
use Rattle.afdx_table.specs.Inner.Found.{LinksAreAtTheirPlaces, PortsAreFound}
use Rattle.afdx_filter.specs.Inner.Clean.{CleanFramesHaveALink}
use Rattle.afdx_pairing.specs.Events.{Numbered}
use Rattle.afdx_following.specs.declared.watch.Watch.{Watch}
use Rattle.afdx_following.specs.Watch.{has_frame, has_record}
use Rattle.afdx_following.specs.Watched.{Watched, with_own, with_record}
use Rattle.afdx_following.specs.Followed.{Notice, Arrived, Departed, with_notice, with_notices, AreNext}
use Rattle.afdx_merging.specs.Merge.{Arrival, IsBy as IsBefore, AreInOrder}
use Rattle.afdx_compare.specs.declared.sources.Source.{Source}
use Rattle.afdx_compare.specs.Comparison.{Comparison, place_of_own, own_came, with_came, link_at, record_left, with_left}
use Rattle.afdx_compare.specs.Arrivals.{with_record_of, with_arrival}
use Rattle.afdx_compare.specs.Inner.Sound.{IsSound, IsBy, due_of, IsInTurn}
use Rattle.afdx_compare.specs.Inner.Told.{told_own, told_record, told_came, told_left, told_of, told}
use Rattle.afdx_compare.specs.Inner.Due.{IsDueOf, IsDueBy, IsDue, AreDue, counts_as, counts, AreFrom}
use Rattle.afdx_compare.proofs.Calling.{seen_at}
use Rattle.afdx_compare.proofs.Keeping.{own_latest, record_latest}
use Rattle.afdx_compare.proofs.Places.{changed_all}
use Rattle.afdx_compare.proofs.Sounding.{came_sound, left_sound}
use Rattle.afdx_compare.proofs.Turns.{is_own, may_come, may_leave}
use Rattle.afdx_compare.proofs.Telling.{source_told}

-- the laws of lower crates that are needed
pub record Laws : Type 0 where
  pub clean : CleanFramesHaveALink
  pub places : LinksAreAtTheirPlaces
  pub ports : PortsAreFound

-- ---- what an arrival leaves as it is

pub arrival_sound : (s : Option Source) (a : Arrival) (c : Comparison) → IsSound c → IsSound (with_record_of s a c)
arrival_sound None a c sound = sound
arrival_sound (Some s) a c sound =
    elim s.leaves as (λ b. IsSound (if b then with_left s a.head c else with_came s.port a.head c)) [
      | true ↦ left_sound s a.head c sound
      | false ↦ came_sound s.port a.head c sound
    ]

-- the table, and what is known of the switch
pub record IsSame (c d : Comparison) : Type 0 where
  pub table : d.table ≡ c.table
  pub watch : d.watch ≡ c.watch

own_same : (place : Option ℕ) (n : Numbered) (c : Comparison) → IsSame c (own_came place n c)
own_same None n c = record { table = refl; watch = refl }
own_same (Some place) n c = record { table = refl; watch = refl }

record_same : (place : ℕ) (at : Option (ℕ × ℕ)) (n : Numbered) (c : Comparison) → IsSame c (record_left place at n c)
record_same place None n c = record { table = refl; watch = refl }
record_same place (Some (link, output)) n c = record { table = refl; watch = refl }

came_same : (b : Bool) (place : Option ℕ) (n : Numbered) (c : Comparison) → IsSame c (if b then own_came place n c else c)
came_same true place n c = own_same place n c
came_same false place n c = record { table = refl; watch = refl }

left_same : (b : Bool) (s : Source) (at : Option (ℕ × ℕ)) (n : Numbered) (c seen : Comparison) → IsSame c seen → IsSame c (if b then record_left s.place at n seen else c)
left_same true s at n c seen same = (let one = record_same s.place at n seen in record { table = one.table ∙ same.table; watch = one.watch ∙ same.watch })
left_same false s at n c seen same = record { table = refl; watch = refl }

side_same : (leaves : Bool) (s : Source) (n : Numbered) (c : Comparison) → IsSame c (if leaves then with_left s n c else with_came s.port n c)
side_same true s n c = left_same (has_record c.watch n.frame.stamp) s (link_at s.port n.frame.bytes c) n c (seen_at s c) (record { table = refl; watch = refl })
side_same false s n c = came_same (has_frame c.watch n.frame.stamp) (place_of_own c.table s.port n.frame) n c

pub arrival_same : (s : Option Source) (a : Arrival) (c : Comparison) → IsSame c (with_record_of s a c)
arrival_same None a c = record { table = refl; watch = refl }
arrival_same (Some s) a c = side_same s.leaves s a.head c

-- ---- by which instant all was told

pub by_later : (at later : ℕ) (fs : List Watched) → at ≤ later → AllByRecursion (λ f. f.latest ≤ at) fs → AllByRecursion (λ f. f.latest ≤ later) fs
by_later at later [] le all = tt
by_later at later (f ∷ fs) le all = (omega (arith, le, all.0), by_later at later fs le all.1)

own_by : (at : ℕ) (place : Option ℕ) (n : Numbered) (c : Comparison) → at ≤ n.frame.stamp → IsBy at c → IsBy n.frame.stamp (own_came place n c)
own_by at None n c le by = by_later at n.frame.stamp c.links le by
own_by at (Some place) n c le by =
    changed_all (λ (f : Watched). f.latest ≤ n.frame.stamp) place (with_own n) c.links
    (λ f get before. (let now = own_latest n f in omega (arith, now))) (by_later at n.frame.stamp c.links le by)

record_by : PortsAreFound → (at : ℕ) (s : Source) (to : Option (ℕ × ℕ)) (n : Numbered) (c seen : Comparison) → IsSound c → seen.links ≡ c.links → (turn : IsInTurn s n c)
    → has_record c.watch n.frame.stamp ≡ true → link_at s.port n.frame.bytes c ≡ to → at ≤ due_of c.watch turn.row n → IsBy at c → IsBy (due_of c.watch turn.row n) (record_left s.place to n seen)
record_by ports at s None n c seen sound links turn has is le by =
    subst (λ (fs : List Watched). AllByRecursion (λ f. f.latest ≤ due_of c.watch turn.row n) fs) (sym links) (by_later at (due_of c.watch turn.row n) c.links le by)
record_by ports at s (Some (link, output)) n c seen sound links turn has is le by =
    let may = may_leave ports c s n link output sound turn has is in
    let d = due_of c.watch turn.row n in
    changed_all (λ (f : Watched). f.latest ≤ d) link (with_record output n) seen.links
    (λ f get before. (let now = record_latest output n f in let due = may.due f (ap (λ (fs : List Watched). slice_get fs link) (sym links) ∙ get) in omega (arith, now, due)))
    (subst (λ (fs : List Watched). AllByRecursion (λ f. f.latest ≤ d) fs) (sym links) (by_later at d c.links le by))

-- the turn of a record that is in order by its instant
abbrev pub turn_of : (at : ℕ) (s : Source) (a : Arrival) (c : Comparison) → IsDueOf c.watch c.table s a → (has_record c.watch a.head.frame.stamp ≡ true → at ≤ a.due) → IsBy at c → IsInTurn s a.head c
turn_of at s a c due from by = record {
  row = due.row;
  there = due.there;
  number = due.number;
  in_order = λ has. (let le = from has in let is = due.due in by_later at (due_of c.watch due.row a.head) c.links (omega (arith, le, is)) by);
}

came_by : (b : Bool) (at : ℕ) (place : Option ℕ) (a : Arrival) (c : Comparison) → a.due ≡ a.head.frame.stamp → (b ≡ true → at ≤ a.due) → IsBy at c
    → IsBy (if b then a.due else at) (if b then own_came place a.head c else c)
came_by true at place a c due from by =
    subst (λ (d : ℕ). IsBy d (own_came place a.head c)) (sym due) (own_by at place a.head c (let le = from refl in omega (arith, le, due)) by)
came_by false at place a c due from by = by

left_by : PortsAreFound → (b : Bool) (at : ℕ) (s : Source) (a : Arrival) (c : Comparison) → has_record c.watch a.head.frame.stamp ≡ b → IsSound c → IsDueOf c.watch c.table s a
    → (has_record c.watch a.head.frame.stamp ≡ true → at ≤ a.due) → IsBy at c
    → IsBy (if b then a.due else at) (if b then record_left s.place (link_at s.port a.head.frame.bytes c) a.head (seen_at s c) else c)
left_by ports true at s a c is sound due from by =
    let turn = turn_of at s a c due from by in
    subst (λ (d : ℕ). IsBy d (record_left s.place (link_at s.port a.head.frame.bytes c) a.head (seen_at s c))) (sym due.due)
    (record_by ports at s (link_at s.port a.head.frame.bytes c) a.head c (seen_at s c) sound refl turn is refl (let le = from is in let d = due.due in omega (arith, le, d)) by)
left_by ports false at s a c is sound due from by = by

side_by : PortsAreFound → (leaves b : Bool) (at : ℕ) (s : Source) (a : Arrival) (c : Comparison) → counts_as c.watch leaves a.head.frame.stamp ≡ b → IsSound c
    → IsDueBy c.watch c.table s leaves a → (counts_as c.watch leaves a.head.frame.stamp ≡ true → at ≤ a.due) → IsBy at c
    → IsBy (if b then a.due else at) (if leaves then with_left s a.head c else with_came s.port a.head c)
side_by ports true b at s a c is sound due from by =
    subst (λ (v : Bool). IsBy (if v then a.due else at) (with_left s a.head c)) is
    (left_by ports (has_record c.watch a.head.frame.stamp) at s a c refl sound due from by)
side_by ports false b at s a c is sound due from by =
    subst (λ (v : Bool). IsBy (if v then a.due else at) (with_came s.port a.head c)) is
    (came_by (has_frame c.watch a.head.frame.stamp) at (place_of_own c.table s.port a.head.frame) a c due from by)

pub arrival_by : PortsAreFound → (s : Option Source) (b : Bool) (at : ℕ) (a : Arrival) (c : Comparison) → counts c.watch s a ≡ b → IsSound c → IsDue c.watch c.table s a
    → (counts c.watch s a ≡ true → at ≤ a.due) → IsBy at c → IsBy (if b then a.due else at) (with_record_of s a c)
arrival_by ports None b at a c is sound due from by = subst (λ (v : Bool). IsBy (if v then a.due else at) c) is by
arrival_by ports (Some s) b at a c is sound due from by = side_by ports s.leaves b at s a c is sound due from by

-- ---- what one link is told

own_here : (b : Bool) (link place : ℕ) (f : Watched) (n : Numbered) → (link == place) ≡ b → (link ≡ place → AreNext f (Arrived n ∷ [])) → AreNext f (if b then Arrived n ∷ [] else [])
own_here true link place f n is next = next (eqb-true link place is)
own_here false link place f n is next = tt

own_next : Laws → (of : Option ℕ) (place port : ℕ) (f : Watched) (n : Numbered) (c : Comparison) → place_of_own c.table port n.frame ≡ of → IsSound c → slice_get c.links place ≡ Some f
    → IsBy n.frame.stamp c → AreNext f (told_own place of n)
own_next laws None place port f n c is sound get by = tt
own_next laws (Some link) place port f n c is sound get by =
    let may = may_come c link n sound (is_own laws.clean laws.places c.table port n.frame link is) by in
    own_here (link == place) link place f n refl
    (λ same. (let here : slice_get c.links link ≡ Some f = ap (λ (k : ℕ). slice_get c.links k) same ∙ get in ((may.in_order f here, may.fits f here), tt)))

came_next : Laws → (b : Bool) (place port at : ℕ) (f : Watched) (n : Numbered) (c : Comparison) → IsSound c → slice_get c.links place ≡ Some f → (b ≡ true → at ≤ n.frame.stamp) → IsBy at c
    → AreNext f (if b then told_own place (place_of_own c.table port n.frame) n else [])
came_next laws true place port at f n c sound get from by =
    own_next laws (place_of_own c.table port n.frame) place port f n c refl sound get (by_later at n.frame.stamp c.links (from refl) by)
came_next laws false place port at f n c sound get from by = tt

record_here : (b : Bool) (link output place : ℕ) (f : Watched) (n : Numbered) → (link == place) ≡ b
    → (link ≡ place → AreNext f (Departed output n ∷ [])) → AreNext f (if b then Departed output n ∷ [] else [])
record_here true link output place f n is next = next (eqb-true link place is)
record_here false link output place f n is next = tt

record_next : Laws → (to : Option (ℕ × ℕ)) (place : ℕ) (s : Source) (f : Watched) (n : Numbered) (c : Comparison) → link_at s.port n.frame.bytes c ≡ to → IsSound c
    → slice_get c.links place ≡ Some f → IsInTurn s n c → has_record c.watch n.frame.stamp ≡ true → AreNext f (told_record place to n)
record_next laws None place s f n c is sound get turn has = tt
record_next laws (Some (link, output)) place s f n c is sound get turn has =
    let may = may_leave laws.ports c s n link output sound turn has is in
    record_here (link == place) link output place f n refl
    (λ same. (let here : slice_get c.links link ≡ Some f = ap (λ (k : ℕ). slice_get c.links k) same ∙ get in ((may.place f here, may.in_order f here), tt)))

left_next : Laws → (b : Bool) (place : ℕ) (s : Source) (f : Watched) (n : Numbered) (c : Comparison) → has_record c.watch n.frame.stamp ≡ b → IsSound c
    → slice_get c.links place ≡ Some f → IsInTurn s n c → AreNext f (if b then told_record place (link_at s.port n.frame.bytes c) n else [])
left_next laws true place s f n c is sound get turn = record_next laws (link_at s.port n.frame.bytes c) place s f n c refl sound get turn is
left_next laws false place s f n c is sound get turn = tt

side_next : Laws → (leaves : Bool) (place at : ℕ) (s : Source) (f : Watched) (a : Arrival) (c : Comparison) → IsSound c → slice_get c.links place ≡ Some f
    → IsDueBy c.watch c.table s leaves a → (counts_as c.watch leaves a.head.frame.stamp ≡ true → at ≤ a.due) → IsBy at c
    → AreNext f (if leaves then told_left place s.port a.head c else told_came place s.port a.head c)
side_next laws true place at s f a c sound get due from by =
    left_next laws (has_record c.watch a.head.frame.stamp) place s f a.head c refl sound get (turn_of at s a c due from by)
side_next laws false place at s f a c sound get due from by =
    came_next laws (has_frame c.watch a.head.frame.stamp) place s.port at f a.head c sound get (λ has. (let le = from has in omega (arith, le, due))) by

arrival_next : Laws → (s : Option Source) (place at : ℕ) (f : Watched) (a : Arrival) (c : Comparison) → IsSound c → slice_get c.links place ≡ Some f
    → IsDue c.watch c.table s a → (counts c.watch s a ≡ true → at ≤ a.due) → IsBy at c → AreNext f (told_of place s a.head c)
arrival_next laws None place at f a c sound get due from by = tt
arrival_next laws (Some s) place at f a c sound get due from by = side_next laws s.leaves place at s f a c sound get due from by

-- ---- what it is told of all

next_more : (xs ys : List Notice) (f : Watched) → AreNext f xs → AreNext (with_notices xs f) ys → AreNext f (xs ++ ys)
next_more [] ys f xs_next ys_next = ys_next
next_more (x ∷ xs) ys f xs_next ys_next = (xs_next.0, next_more xs ys (with_notice x f) xs_next.1 ys_next)

due_after : (a b : Arrival) → IsBefore a b → a.due ≤ b.due
due_after a b (inl less) = omega (arith, less)
due_after a b (inr same) = (let is = same.0 in omega (arith, is))

-- those after one that counts are no sooner
pub from_after : (w : Watch) (captures : List Source) (b : Bool) (at : ℕ) (a : Arrival) (arrivals : List Arrival) → AllByRecursion (IsBefore a) arrivals → AreFrom w captures at arrivals
    → AreFrom w captures (if b then a.due else at) arrivals
from_after w captures true at a [] before from = tt
from_after w captures true at a (x ∷ xs) before from = (λ has. due_after a x before.0, from_after w captures true at a xs before.1 from.1)
from_after w captures false at a arrivals before from = from

-- the link at a place is told each in its turn
pub links_are_next : Laws → (place : ℕ) (captures : List Source) (arrivals : List Arrival) (c : Comparison) (f : Watched) (at : ℕ) → IsSound c → slice_get c.links place ≡ Some f
    → AreInOrder arrivals → AreDue c.watch c.table captures arrivals → IsBy at c → AreFrom c.watch captures at arrivals → AreNext f (told place captures arrivals c)
links_are_next laws place captures [] c f at sound get order due by from = tt
links_are_next laws place captures (a ∷ arrivals) c f at sound get order due by from =
    let s = slice_get captures a.place in
    let d = with_arrival captures a c in
    let same = arrival_same s a c in
    let xs = told_of place s a.head c in
    let later = if counts c.watch s a then a.due else at in
    let there : slice_get d.links place ≡ Some (with_notices xs f) = source_told place s a c ∙ ap (λ (o : Option Watched). option_map (with_notices xs) o) get in
    next_more xs (told place captures arrivals d) f (arrival_next laws s place at f a c sound get due.0 from.0 by)
    (links_are_next laws place captures arrivals d (with_notices xs f) later (arrival_sound s a c sound) there order.1
    (subst (λ (w : Watch). AreDue w d.table captures arrivals) (sym same.watch) (subst (λ (t : Content). AreDue c.watch t captures arrivals) (sym same.table) due.1))
    (arrival_by laws.ports s (counts c.watch s a) at a c refl sound due.0 from.0 by)
    (subst (λ (w : Watch). AreFrom w captures later arrivals) (sym same.watch) (from_after c.watch captures (counts c.watch s a) at a arrivals order.0 from.1)))
