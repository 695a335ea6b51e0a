-- What was read so far is taken in its turn.
use Rattle.std.proofs.Common.{◌≡◌, ℕ, ◌<◌, Bool, List, [], ◌∷◌, ◌++◌, length, Option, Some, None, refl, sym, ap, subst, ◌∙◌}
use Rattle.std.specs.Prelude.{◌≤◌, true, slice_get}
use Rattle.std.specs.List.{AllByRecursion}
use Rattle.std.specs.Option.{option_or}
use Rattle.std.proofs.lemmas.List.{append_assoc}
use Rattle.afdx_units.specs.Time.{earlier_of}
use Rattle.afdx_table.specs.Link.{Link}
use Rattle.afdx_table.specs.Content.{Content}
use Rattle.afdx_table.specs.WellFormed.{IsWellFormed}
use Rattle.afdx_table.specs.Inner.Found.{PortsAreFound}
use Rattle.afdx_following.specs.declared.watch.Watch.{Watch}
use Rattle.afdx_following.specs.Output.{Output}
use Rattle.afdx_following.specs.Watched.{Watched}
use Rattle.afdx_merging.specs.declared.merging.Merging.{Merging}
use Rattle.afdx_merging.specs.Merge.{Arrival, AreInOrder, IsAfter}
use Rattle.afdx_merging.specs.Read.{AreMerged}
use Rattle.afdx_merging.specs.Inner.Merging.{HasMerged, least_of as least_at_hand}
use Rattle.afdx_merging.proofs.Firsts.{earlier_none}
use Rattle.afdx_recordings.specs.declared.recordings.Recordings.{Recordings}
use Rattle.afdx_compare.specs.Comparison.{Comparison, watch_of, IsBegun, with_until, with_end}
use Rattle.afdx_compare.specs.Sources.{Sources, sources_of}
use Rattle.afdx_compare.specs.Arrivals.{with_arrivals, greater, least_of}
use Rattle.afdx_compare.specs.Found.{IsFound}
use Rattle.afdx_compare.specs.Inner.Sound.{IsLimited, IsOf, IsSound, IsBy}
use Rattle.afdx_compare.specs.Inner.Due.{AreDue, AreFrom, MayAllArrive}
use Rattle.afdx_compare.specs.Inner.Held.{is_settled_of, AreTaken}
use Rattle.afdx_compare.specs.Inner.Reading.{IsReady, IsClocked, AreClocked, HasRead, IsReadOut}
use Rattle.afdx_compare.proofs.Beginning.{begun_sound, first_at, begun_by, all_from}
use Rattle.afdx_compare.proofs.Clocked.{watch_to, all_due, all_within}
use Rattle.afdx_compare.proofs.Ends.{up_to, instant_of, least_more, greatest_more, all_most, most_first, all_later, all_until}
use Rattle.afdx_compare.proofs.Taking.{MayGoOn, arrivals_more, arrivals_sound, may_later, all_more, all_after, all_may}

-- ---- a comparison of which nothing was read, wherever the recordings end

pub record IsUnread (r : Recordings) (s : Sources) (from : ℕ) (until : Option ℕ) (c : Comparison) : Type 0 where
  pub sound : IsSound c
  pub sources : s ≡ sources_of c.table r
  pub watch : c.watch ≡ watch_to c.table r from until
  pub by : IsBy (first_at (watch_of c.table r from)) c

pub unread_of : (r : Recordings) (s : Sources) (c : Comparison) → (ready : IsReady r s c) → IsUnread r s ready.from r.until c
unread_of r s c ready = record {
  sound = begun_sound c.table r ready.from ready.keeping c ready.formed ready.begun;
  sources = ready.sources;
  watch = ready.begun.watch;
  by = begun_by c.table r ready.from ready.keeping c ready.begun;
}

limited_until : (until : ℕ) (w : Watch) (t : Content) (os : List Output) → AllByRecursion (λ o. IsLimited w t o.port o.limits) os → AllByRecursion (λ o. IsLimited (up_to until w) t o.port o.limits) os
limited_until until w t [] all = tt
limited_until until w t (o ∷ os) all =
    let one = all.0 in
    (record { row = one.row; is_row = one.is_row; speed = one.speed; gap = one.gap; tolerance = one.tolerance }, limited_until until w t os all.1)

of_until : (until : ℕ) (w : Watch) (t : Content) (l : Link) (f : Watched) → IsOf w t l f → IsOf (up_to until w) t l f
of_until until w t l f of = record { terms = of.terms; outputs = limited_until until w t f.outputs of.outputs }

pub unread_until : (r : Recordings) (s : Sources) (from : ℕ) (until : Option ℕ) (at : ℕ) (c : Comparison) → IsUnread r s from until c → IsUnread r s from (Some at) (with_until at c)
unread_until r s from until at c unread = record {
  sound = record {
    formed = unread.sound.formed;
    many_links = unread.sound.many_links;
    many_ports = unread.sound.many_ports;
    each = λ place l f there get. of_until at c.watch c.table l f (unread.sound.each place l f there get);
  };
  sources = unread.sources;
  watch = ap (λ (w : Watch). up_to at w) unread.watch;
  by = unread.by;
}

unread_may : PortsAreFound → (r : Recordings) (s : Sources) (from : ℕ) (until : Option ℕ) (c : Comparison) → IsUnread r s from until c → (came : List Arrival) → AreInOrder came
    → AreClocked s.clocks came → MayAllArrive s.captures came c
unread_may ports r s from until c unread came order clocked =
    let t = c.table in
    let captures = (sources_of t r).captures in
    let at = first_at (watch_of t r from) in
    let by_clock = subst (λ (x : Sources). AreClocked x.clocks came) unread.sources clocked in
    let due = all_due r t from until came by_clock in
    let may : MayAllArrive captures came c = all_may ports captures came c at unread.sound (all_within r t came by_clock) order
    (subst (λ (w : Watch). AreDue w t captures came) (sym unread.watch) due) unread.by
    (subst (λ (w : Watch). AreFrom w captures at came) (sym unread.watch) (all_from (watch_to t r from until) t captures came due)) in
    subst (λ (x : Sources). MayAllArrive x.captures came c) (sym unread.sources) may

-- ---- what waits may be taken

pub may_go_on : PortsAreFound → (r : Recordings) (s : Sources) (from : ℕ) (until : Option ℕ) (start : Comparison) → IsUnread r s from until start → (taken waits : List Arrival) (c : Comparison)
    → c ≡ with_arrivals s.captures taken start → AreInOrder (taken ++ waits) → AreClocked s.clocks (taken ++ waits) → MayGoOn s.captures waits c
may_go_on ports r s from until start unread taken waits c is order clocked =
    let within = all_within r start.table (taken ++ waits) (subst (λ (x : Sources). AreClocked x.clocks (taken ++ waits)) unread.sources clocked) in
    subst (λ (x : Comparison). MayGoOn s.captures waits x) (sym is) (record {
      places = all_after (λ (a : Arrival). a.place < length s.captures) taken waits
          (subst (λ (x : Sources). AllByRecursion (λ a. a.place < length x.captures) (taken ++ waits)) (sym unread.sources) within);
      sound = arrivals_sound s.captures taken start unread.sound;
      in_turn = may_later s.captures taken waits start (unread_may ports r s from until start unread (taken ++ waits) order clocked);
    })

-- ---- one record more

one_clocked : (s : Sources) (came : List Arrival) (a : Arrival) → IsAfter s.clocks came a → IsClocked s.clocks a
one_clocked s came a after = record { clock = after.clock; at = after.at; due = after.due }

all_join : {X : Type 0} (P : X → Type 0) (xs ys : List X) → AllByRecursion P xs → AllByRecursion P ys → AllByRecursion P (xs ++ ys)
all_join P [] ys one other = other
all_join P (x ∷ xs) ys one other = (one.0, all_join P xs ys one.1 other)

waits_more : (came taken waits : List Arrival) (a : Arrival) → came ≡ taken ++ waits → came ++ a ∷ [] ≡ taken ++ (waits ++ a ∷ [])
waits_more came taken waits a all = ap (λ (xs : List Arrival). xs ++ a ∷ []) all ∙ append_assoc taken waits (a ∷ [])

pub starts : {R Z : Type 0} (remaining : R → Option (List ℕ)) (r : Recordings) (s : Sources) (first now : List R) (m : Merging Z) (waits : List Arrival) (c : Comparison) → waits ≡ []
    → HasMerged remaining s.clocks first now m [] → HasRead remaining r s first now m (least_at_hand m.lanes.items) None waits c c
starts remaining r s first now m waits c none merged = record {
  came = [];
  merged = merged;
  clocked = tt;
  least_is = refl;
  greatest_is = refl;
  taken = record { taken = []; all = sym none; settled = tt; told = refl };
}

pub next_may : {R Z : Type 0} (remaining : R → Option (List ℕ)) → PortsAreFound → (r : Recordings) (s : Sources) (first now later : List R) (m new : Merging Z) (least greatest : Option ℕ)
    (waits : List Arrival) (start c : Comparison) → IsReady r s start → (has : HasRead remaining r s first now m least greatest waits start c) → (a : Arrival)
    → HasMerged remaining s.clocks first later new (has.came ++ a ∷ []) → IsAfter s.clocks has.came a → MayGoOn s.captures (waits ++ a ∷ []) c
next_may remaining ports r s first now later m new least greatest waits start c ready has a merged after =
    let same = waits_more has.came has.taken.taken waits a has.taken.all in
    may_go_on ports r s ready.from r.until start (unread_of r s start ready) has.taken.taken (waits ++ a ∷ []) c has.taken.told
    (subst (λ (xs : List Arrival). AreInOrder xs) same merged.in_order)
    (subst (λ (xs : List Arrival). AreClocked s.clocks xs) same (all_more (IsClocked s.clocks) has.came a has.clocked (one_clocked s has.came a after)))

pub next_read : {R Z : Type 0} (remaining : R → Option (List ℕ)) (r : Recordings) (s : Sources) (first now later : List R) (m new : Merging Z) (least greatest great : Option ℕ)
    (waits rest : List Arrival) (start c d : Comparison) → (has : HasRead remaining r s first now m least greatest waits start c) → (a : Arrival)
    → HasMerged remaining s.clocks first later new (has.came ++ a ∷ []) → IsAfter s.clocks has.came a
    → earlier_of (Some a.head.frame.stamp) (least_at_hand new.lanes.items) ≡ least_at_hand m.lanes.items → great ≡ Some (greater a.head.frame.stamp greatest)
    → AreTaken r s.captures great (waits ++ a ∷ []) rest c d → HasRead remaining r s first later new least great rest start d
next_read remaining r s first now later m new least greatest great waits rest start c d has a merged after least_is great_is more =
    let was = has.taken in
    let settled = λ (g : Option ℕ). λ (x : Arrival). is_settled_of r g (slice_get s.captures x.place) x ≡ true in
    record {
      came = has.came ++ a ∷ [];
      merged = merged;
      clocked = all_more (IsClocked s.clocks) has.came a has.clocked (one_clocked s has.came a after);
      least_is = sym (least_more has.came a (least_at_hand new.lanes.items)) ∙ ap (λ (o : Option ℕ). earlier_of (least_of has.came) o) least_is ∙ has.least_is;
      greatest_is = great_is ∙ ap (λ (g : Option ℕ). Some (greater a.head.frame.stamp g)) has.greatest_is ∙ sym (greatest_more has.came a);
      taken = record {
        taken = was.taken ++ more.taken;
        all = waits_more has.came was.taken waits a was.all ∙ ap (λ (xs : List Arrival). was.taken ++ xs) more.all ∙ sym (append_assoc was.taken more.taken rest);
        settled = all_join (settled great) was.taken more.taken
            (subst (λ (g : Option ℕ). AllByRecursion (λ x. is_settled_of r g (slice_get s.captures x.place) x ≡ true) was.taken) (sym great_is)
            (all_later r s.captures a.head.frame.stamp greatest was.taken was.settled)) more.settled;
        told = more.told ∙ ap (λ (x : Comparison). with_arrivals s.captures more.taken x) was.told ∙ sym (arrivals_more s.captures was.taken more.taken start);
      };
    }

pub read_out : {R Z : Type 0} (remaining : R → Option (List ℕ)) (r : Recordings) (s : Sources) (first now : List R) (m : Merging Z) (least greatest : Option ℕ) (waits : List Arrival)
    (start c : Comparison)
    → (has : HasRead remaining r s first now m least greatest waits start c) → AreMerged remaining s.clocks first has.came → least_at_hand m.lanes.items ≡ None
    → IsReadOut remaining r s first least greatest waits start c
read_out remaining r s first now m least greatest waits start c has merged none = record {
  came = has.came;
  merged = merged;
  clocked = has.clocked;
  least_is = sym (earlier_none (least_of has.came)) ∙ ap (λ (o : Option ℕ). earlier_of (least_of has.came) o) (sym none) ∙ has.least_is;
  greatest_is = has.greatest_is;
  taken = has.taken;
}

-- ---- the end is known

told_until : {R : Type 0} (remaining : R → Option (List ℕ)) (r : Recordings) (s : Sources) (first : List R) (least greatest : Option ℕ) (waits : List Arrival) (start c : Comparison)
    → IsReady r s start
    → (out : IsReadOut remaining r s first least greatest waits start c)
    → with_until (instant_of (option_or r.until greatest)) c ≡ with_arrivals s.captures out.taken.taken (with_until (instant_of (option_or r.until greatest)) start)
told_until remaining r s first least greatest waits start c ready out =
    let taken = out.taken in
    let at = instant_of (option_or r.until greatest) in
    let most = subst (λ (g : Option ℕ). AllByRecursion (λ a. a.head.frame.stamp ≤ instant_of g) out.came) (sym out.greatest_is) (all_most out.came) in
    let first_most = most_first (instant_of greatest) taken.taken waits (subst (λ (xs : List Arrival). AllByRecursion (λ a. a.head.frame.stamp ≤ instant_of greatest) xs) taken.all most) in
    ap (λ (x : Comparison). with_until at x) taken.told
    ∙ all_until r s.captures greatest taken.taken start (ap (λ (w : Watch). w.until) ready.begun.watch) (ap (λ (w : Watch). w.tolerance) ready.begun.watch) first_most taken.settled

pub end_may : {R : Type 0} (remaining : R → Option (List ℕ)) → PortsAreFound → (r : Recordings) (s : Sources) (first : List R) (least greatest : Option ℕ) (waits : List Arrival) (start c : Comparison)
    → IsReady r s start → IsReadOut remaining r s first least greatest waits start c → MayGoOn s.captures waits (with_until (instant_of (option_or r.until greatest)) c)
end_may remaining ports r s first least greatest waits start c ready out =
    let at = instant_of (option_or r.until greatest) in
    may_go_on ports r s ready.from (Some at) (with_until at start) (unread_until r s ready.from r.until at start (unread_of r s start ready)) out.taken.taken waits (with_until at c)
    (told_until remaining r s first least greatest waits start c ready out)
    (subst (λ (xs : List Arrival). AreInOrder xs) out.taken.all out.merged.merge.in_order) (subst (λ (xs : List Arrival). AreClocked s.clocks xs) out.taken.all out.clocked)

pub end_told : {R : Type 0} (remaining : R → Option (List ℕ)) (r : Recordings) (s : Sources) (first : List R) (least greatest : Option ℕ) (waits : List Arrival) (start c : Comparison)
    → IsReady r s start
    → (out : IsReadOut remaining r s first least greatest waits start c) → with_end (with_arrivals s.captures waits (with_until (instant_of (option_or r.until greatest)) c))
    ≡ with_end (with_arrivals s.captures out.came (with_until (instant_of (option_or r.until greatest)) start))
end_told remaining r s first least greatest waits start c ready out =
    let at = instant_of (option_or r.until greatest) in
    ap (λ (x : Comparison). with_end (with_arrivals s.captures waits x)) (told_until remaining r s first least greatest waits start c ready out)
    ∙ ap (λ (x : Comparison). with_end x) (sym (arrivals_more s.captures out.taken.taken waits (with_until at start)))
    ∙ ap (λ (xs : List Arrival). with_end (with_arrivals s.captures xs (with_until at start))) (sym out.taken.all)

-- ---- all of it

pub is_ready : (t : Content) (r : Recordings) (s : Sources) (from : ℕ) (keeping : Bool) (c : Comparison) → IsWellFormed t → s ≡ sources_of t r → IsBegun t r from keeping c → IsReady r s c
is_ready t r s from keeping c formed sources begun = record {
  from = from;
  keeping = keeping;
  formed = subst (λ (x : Content). IsWellFormed x) (sym begun.table) formed;
  sources = sources ∙ ap (λ (x : Content). sources_of x r) (sym begun.table);
  begun = subst (λ (x : Content). IsBegun x r from keeping c) (sym begun.table) begun;
}

pub is_found : {R : Type 0} (remaining : R → Option (List ℕ)) (t : Content) (r : Recordings) (s : Sources) (keeping : Bool) (first : List R) (from until : ℕ) (stamp least greatest : Option ℕ)
    (waits : List Arrival) (start c last : Comparison) → IsWellFormed t → s ≡ sources_of t r → IsBegun t r from keeping start → IsReadOut remaining r s first least greatest waits start c
    → stamp ≡ least → from ≡ instant_of (option_or r.from least) → until ≡ instant_of (option_or r.until greatest) → last ≡ with_end (with_arrivals s.captures waits (with_until until c))
    → IsFound remaining t r keeping first from until stamp greatest last
is_found remaining t r s keeping first from until stamp least greatest waits start c last formed sources begun out stamp_is from_is until_is last_is =
    let ready = is_ready t r s from keeping start formed sources begun in
    record {
      arrivals = out.came;
      start = start;
      are_merged = subst (λ (x : Sources). AreMerged remaining x.clocks first out.came) sources out.merged;
      from_is = from_is ∙ ap (λ (o : Option ℕ). instant_of (option_or r.from o)) (sym out.least_is);
      until_is = until_is ∙ ap (λ (o : Option ℕ). instant_of (option_or r.until o)) out.greatest_is;
      first_is = stamp_is ∙ sym out.least_is;
      last_is = out.greatest_is;
      begun = begun;
      found_is = last_is ∙ ap (λ (at : ℕ). with_end (with_arrivals s.captures waits (with_until at c))) until_is
          ∙ end_told remaining r s first least greatest waits start c ready out
          ∙ ap (λ (at : ℕ). with_end (with_arrivals s.captures out.came (with_until at start))) (sym until_is)
          ∙ ap (λ (x : Sources). with_end (with_arrivals x.captures out.came (with_until until start))) sources;
    }
