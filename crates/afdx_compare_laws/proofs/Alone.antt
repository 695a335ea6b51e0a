-- What is found out of a link rests on what came at its own port and on what left at those that it leads to.
use Rattle.std.proofs.Common.{◌≡◌, ℕ, ◌<◌, Bool, true, false, List, [], ◌∷◌, ◌++◌, length, Option, Some, None, refl, sym, ap, subst, ◌∙◌, arith, inl, inr}
use Rattle.std.specs.Prelude.{◌==◌, filter, if◌then◌else◌, slice_get}
use Rattle.std.specs.List.{AllByRecursion, position}
use Rattle.std.specs.Option.{option_map, option_map_or}
use Rattle.std.proofs.lemmas.Bool.{cases_Bool, eqb-true, eqb-false, true≢false}
use Rattle.std.proofs.lemmas.List.Elements.{All-from_recursion}
use Rattle.std.proofs.lemmas.List.Quantifiers.{position-Some}
use Rattle.std.proofs.lemmas.Option.{same_Some, slice_get-map, slice_get_within}
use Rattle.afdx_pcap.specs.Record.{Record}
use Rattle.afdx_table.specs.Link.{Link, leads_to, names_port}
use Rattle.afdx_table.specs.Content.{Content}
use Rattle.afdx_table.specs.Inner.Found.{LinksAreAtTheirPlaces}
use Rattle.afdx_filter.specs.declared.outcome.Verdict.{Verdict}
use Rattle.afdx_filter.specs.declared.outcome.Verdict.TheVariants.{Cut, Short, Long, Foreign, NoLink, WrongPort, TooBig, Clean}
use Rattle.afdx_filter.specs.Verdict.{verdict_of}
use Rattle.afdx_filter.specs.Place.{place_named}
use Rattle.afdx_filter.specs.Inner.Clean.{CleanFramesHaveALink}
use Rattle.afdx_pairing.specs.Events.{Numbered}
use Rattle.afdx_following.specs.declared.watch.Watch.{Watch}
use Rattle.afdx_following.specs.Watch.{has_frame, has_record, last_record}
use Rattle.afdx_following.specs.Output.{Output}
use Rattle.afdx_following.specs.Watched.{Watched, with_ends}
use Rattle.afdx_following.specs.Followed.{Notice, Arrived, Departed, with_notices}
use Rattle.afdx_merging.specs.Merge.{Arrival, at_place, IsMergeOf}
use Rattle.afdx_recordings.specs.declared.recordings.Recordings.{Recordings}
use Rattle.afdx_compare.specs.Comparison.{Comparison, watch_of, outputs_first, IsBegun, place_of_own, place_of_named, led_to, output_among, link_among, link_at, with_until}
use Rattle.afdx_compare.specs.Sources.{Sources, sources_of}
use Rattle.afdx_compare.specs.Arrivals.{with_arrival, with_arrivals}
use Rattle.afdx_compare.specs.Inner.Told.{told_own, told_record, told_came, told_left, told_of, told}
use Rattle.afdx_compare.proofs.Beginning.{first_each}
use Rattle.afdx_compare.proofs.Clocked.{sources_many}
use Rattle.afdx_compare.proofs.Leading.{LeadAlike, alike_after}
use Rattle.afdx_compare.proofs.Next.{arrival_same}
use Rattle.afdx_compare.proofs.Places.{get_there}
use Rattle.afdx_compare.proofs.Ported.{names_all, all_lead}
use Rattle.afdx_compare.proofs.Telling.{links_are_told}
use Rattle.afdx_compare_laws.specs.Alone.{concerns, AreAlikeFor, found_of, RowsAreAlone}
use Rattle.afdx_compare_laws.proofs.Merges.{order_some, some_at, none_at, only_one}

-- ---- what a link is told does not rest on what was told before

module _ (place : ℕ) (first : Comparison) where
  left_as : (port : ℕ) (n : Numbered) (c : Comparison) → LeadAlike first c → c.watch ≡ first.watch → told_left place port n c ≡ told_left place port n first
  left_as port n c alike watch =
      ap (λ (w : Watch). if has_record w n.frame.stamp then told_record place (link_at port n.frame.bytes c) n else []) watch
      ∙ ap (λ (to : Option (ℕ × ℕ)). if has_record first.watch n.frame.stamp then told_record place to n else []) (alike port n.frame.bytes)

  came_as : (port : ℕ) (n : Numbered) (c : Comparison) → c.watch ≡ first.watch → c.table ≡ first.table → told_came place port n c ≡ told_came place port n first
  came_as port n c watch table =
      ap (λ (w : Watch). if has_frame w n.frame.stamp then told_own place (place_of_own c.table port n.frame) n else []) watch
      ∙ ap (λ (t : Content). if has_frame first.watch n.frame.stamp then told_own place (place_of_own t port n.frame) n else []) table

  side_as : (leaves : Bool) (port : ℕ) (n : Numbered) (c : Comparison) → LeadAlike first c → c.watch ≡ first.watch → c.table ≡ first.table
      → (if leaves then told_left place port n c else told_came place port n c) ≡ (if leaves then told_left place port n first else told_came place port n first)
  side_as true port n c alike watch table = left_as port n c alike watch
  side_as false port n c alike watch table = came_as port n c watch table

  source_as : (s : Sources) (k : ℕ) (n : Numbered) (c : Comparison) → LeadAlike first c → c.watch ≡ first.watch → c.table ≡ first.table
      → told_of place (slice_get s.captures k) n c ≡ told_of place (slice_get s.captures k) n first
  source_as s k n c alike watch table =
      elim (slice_get s.captures k) as (λ of. told_of place of n c ≡ told_of place of n first) [
        | None ↦ refl
        | Some x ↦ side_as x.leaves x.port n c alike watch table
      ]

  -- what each arrival tells
  abbrev pub told_each : Sources → List Arrival → List Notice
  told_each s [] = []
  told_each s (a ∷ arrivals) = told_of place (slice_get s.captures a.place) a.head first ++ told_each s arrivals

  pub told_as : (s : Sources) (arrivals : List Arrival) (c : Comparison) → LeadAlike first c → c.watch ≡ first.watch → c.table ≡ first.table
      → told place s.captures arrivals c ≡ told_each s arrivals
  told_as s [] c alike watch table = refl
  told_as s (a ∷ arrivals) c alike watch table =
      let d = with_arrival s.captures a c in
      let same = arrival_same (slice_get s.captures a.place) a c in
      ap (λ (xs : List Notice). xs ++ told place s.captures arrivals d) (source_as s a.place a.head c alike watch table)
      ∙ ap (λ (xs : List Notice). told_of place (slice_get s.captures a.place) a.head first ++ xs)
      (told_as s arrivals d (alike_after first (slice_get s.captures a.place) a c alike) (same.watch ∙ watch) (same.table ∙ table))

  -- captures that do not concern it tell it nothing
  told_some : (s : Sources) (q : ℕ → Bool) → ((k : ℕ) (n : Numbered) → q k ≡ false → told_of place (slice_get s.captures k) n first ≡ []) → (arrivals : List Arrival)
      → told_each s arrivals ≡ told_each s (filter (λ a. q a.place) arrivals)
  told_some s q quiet [] = refl
  told_some s q quiet (a ∷ arrivals) = elim (cases_Bool (q a.place)) [
    | inl is ↦ rw is (ap (λ (xs : List Notice). told_of place (slice_get s.captures a.place) a.head first ++ xs) (told_some s q quiet arrivals))
    | inr not ↦ rw not
        (ap (λ (xs : List Notice). xs ++ told_each s arrivals) (quiet a.place a.head not) ∙ told_some s q quiet arrivals)
  ]

-- ---- which captures tell a link nothing

own_port : CleanFramesHaveALink → LinksAreAtTheirPlaces → (t : Content) (l : Link) (place port : ℕ) (r : Record) → slice_get t.links place ≡ Some l → (v : Verdict)
    → verdict_of t port r ≡ v → place_named t v ≡ Some place → port ≡ l.from
own_port clean places t l place port r there (Clean number) is named =
    let has = clean t port r number is in
    let same : has.link ≡ l = same_Some has.link l (sym has.is_link ∙ sym (places.at t number place named) ∙ there) in
    sym has.from_port ∙ ap (λ (x : Link). x.from) same
own_port clean places t l place port r there Cut is named = absurd (let never = named in cc)
own_port clean places t l place port r there Short is named = absurd (let never = named in cc)
own_port clean places t l place port r there Long is named = absurd (let never = named in cc)
own_port clean places t l place port r there Foreign is named = absurd (let never = named in cc)
own_port clean places t l place port r there NoLink is named = absurd (let never = named in cc)
own_port clean places t l place port r there WrongPort is named = absurd (let never = named in cc)
own_port clean places t l place port r there TooBig is named = absurd (let never = named in cc)

quiet_own : (place : ℕ) (of : Option ℕ) (n : Numbered) → (of ≡ Some place → ⊥) → told_own place of n ≡ []
quiet_own place None n never = refl
quiet_own place (Some link) n never = by (link == place) refl where
  by : (b : Bool) → (link == place) ≡ b → (if b then Arrived n ∷ [] else []) ≡ []
  by true same = absurd (never (ap (λ (k : ℕ). Some k) (eqb-true link place same)))
  by false other = refl

quiet_record : (place : ℕ) (to : Option (ℕ × ℕ)) (n : Numbered) → ((output : ℕ) → to ≡ Some (place, output) → ⊥) → told_record place to n ≡ []
quiet_record place None n never = refl
quiet_record place (Some (link, output)) n never = by (link == place) refl where
  by : (b : Bool) → (link == place) ≡ b → (if b then Departed output n ∷ [] else []) ≡ []
  by true same = absurd (never output (let pair : ℕ → Option (ℕ × ℕ) = λ k. Some (k, output) in ap pair (eqb-true link place same)))
  by false other = refl

none_positioned : (p : Output → Bool) (os : List Output) (k : ℕ) → AllByRecursion (λ o. p o ≡ false) os → position p os ≡ Some k → ⊥
none_positioned p [] k all is = absurd (let never = is in cc)
none_positioned p (o ∷ os) k all is =
    let at = position-Some p (o ∷ os) k o is in true≢false (sym at.1 ∙ All-from_recursion (λ x. p x ≡ false) (o ∷ os) all k o at.0)

-- a link that does not lead to a port has no output of its number
not_among : (port : ℕ) (to : List ℕ) (os : List Output) → names_port port to ≡ false → AllByRecursion (λ o. names_port o.port to ≡ true) os
    → AllByRecursion (λ o. (o.port == port) ≡ false) os
not_among port to [] silent all = tt
not_among port to (o ∷ os) silent all = (by (o.port == port) refl, not_among port to os silent all.1) where
  by : (b : Bool) → (o.port == port) ≡ b → b ≡ false
  by true same = absurd (true≢false (sym all.0 ∙ ap (λ (q : ℕ). names_port q to) (eqb-true o.port port same) ∙ silent))
  by false other = refl

not_led : (port place output : ℕ) (links : List Watched) (os : List Output) → ((f : Watched) → slice_get links place ≡ Some f → f.outputs ≡ os)
    → AllByRecursion (λ o. (o.port == port) ≡ false) os → (named : Option ℕ) → link_among port links named ≡ Some (place, output) → ⊥
not_led port place output links os outputs none None is = absurd (let never = is in cc)
not_led port place output links os outputs none (Some link) is = of_link (slice_get links link) refl is where
  of_place : (f : Watched) → slice_get links link ≡ Some f → (at : Option ℕ) → position (λ (o : Output). o.port == port) f.outputs ≡ at → led_to link at ≡ Some (place, output) → ⊥
  of_place f get None found is = absurd (let never = is in cc)
  of_place f get (Some k) found is =
      let pair : (link, k) ≡ (place, output) = same_Some (link, k) (place, output) is in
      let here : link ≡ place = ap (λ (p : ℕ × ℕ). p.0) pair in
      none_positioned (λ o. o.port == port) f.outputs k
      (subst (AllByRecursion (λ o. (o.port == port) ≡ false)) (sym (outputs f (ap (λ (j : ℕ). slice_get links j) (sym here) ∙ get))) none) found

  of_link : (f : Option Watched) → slice_get links link ≡ f → output_among port link f ≡ Some (place, output) → ⊥
  of_link None get is = absurd (let never = is in cc)
  of_link (Some f) get is = of_place f get (position (λ (o : Output). o.port == port) f.outputs) refl is

-- what there is a place for is in the list
pub within_where : {X : Type 0} (p : X → Bool) (xs : List X) (k : ℕ) → option_map_or p (slice_get xs k) false ≡ true → k < length xs
within_where {X} p xs k = by (slice_get xs k) refl where
  by : (of : Option X) → slice_get xs k ≡ of → option_map_or p of false ≡ true → k < length xs
  by None get is = absurd (let never = is in cc)
  by (Some x) get is = slice_get_within xs k x get

none_if : (b : Bool) (xs : List Notice) → xs ≡ [] → (if b then xs else []) ≡ []
none_if true xs is = is
none_if false xs is = refl

-- ---- of captures that are the same the same arrived

module _ (t : Content) (r : Recordings) (passes : ℕ → Bool) (few : (k : ℕ) → passes k ≡ true → k < length (sources_of t r).captures) (captures others : List (List Record))
    (arrivals arrivals' : List Arrival) (merge : IsMergeOf (sources_of t r).clocks captures arrivals) (merge' : IsMergeOf (sources_of t r).clocks others arrivals') where
  module _ (alike : (place : ℕ) → passes place ≡ true → slice_get captures place ≡ slice_get others place) where
    same_there : (k : ℕ) → passes k ≡ true → at_place k arrivals ≡ at_place k arrivals'
    same_there k is =
        let clocks = (sources_of t r).clocks in
        let lt = few k is in
        let many = sources_many r t in
        let long = merge.many in
        let clock = get_there clocks k (omega (arith, lt, many)) in
        let rs = get_there captures k (omega (arith, lt, many, long)) in
        merge.each k clock.0 rs.0 clock.1 rs.1 ∙ sym (merge'.each k clock.0 rs.0 clock.1 (sym (alike k is) ∙ rs.1))

    same_at : (k : ℕ) → at_place k (filter (λ a. passes a.place) arrivals) ≡ at_place k (filter (λ a. passes a.place) arrivals')
    same_at k =
        let some = some_at (λ a. passes a.place) k in
        elim (cases_Bool (passes k)) [
          | inl is ↦ some arrivals ∙ ap (λ (xs : List Arrival). filter (λ a. passes a.place) xs) (same_there k is) ∙ sym (some arrivals')
          | inr not ↦ some arrivals ∙ none_at passes k arrivals not ∙ sym (some arrivals' ∙ none_at passes k arrivals' not)
        ]

    pub same_arrived : filter (λ a. passes a.place) arrivals ≡ filter (λ a. passes a.place) arrivals'
    same_arrived = only_one (filter (λ a. passes a.place) arrivals) (filter (λ a. passes a.place) arrivals')
        (order_some (λ a. passes a.place) arrivals merge.in_order) (order_some (λ a. passes a.place) arrivals' merge'.in_order) same_at

-- ---- what is found out of a link is what it was told

watch_after : (s : Sources) (arrivals : List Arrival) (c : Comparison) → (with_arrivals s.captures arrivals c).watch ≡ c.watch
watch_after s [] c = refl
watch_after s (a ∷ arrivals) c = watch_after s arrivals (with_arrival s.captures a c) ∙ (arrival_same (slice_get s.captures a.place) a c).watch

pub found_told : (t : Content) (r : Recordings) (until : ℕ) (begun : Comparison) (place : ℕ) (arrivals : List Arrival)
    → let first = with_until until begun in
    slice_get (found_of t r until begun arrivals).links place
    ≡ option_map (with_ends (last_record first.watch)) (option_map (with_notices (told place (sources_of t r).captures arrivals first)) (slice_get begun.links place))
found_told t r until begun place arrivals =
    let captures = (sources_of t r).captures in
    let first = with_until until begun in
    let c = with_arrivals captures arrivals first in
    slice_get-map (with_ends (last_record c.watch)) c.links place
    ∙ ap (λ (w : Watch). option_map (with_ends (last_record w)) (slice_get c.links place)) (watch_after (sources_of t r) arrivals first)
    ∙ ap (λ (f : Option Watched). option_map (with_ends (last_record first.watch)) f) (links_are_told place captures arrivals first)

-- ---- which captures tell this link nothing

module _ (clean : CleanFramesHaveALink) (places : LinksAreAtTheirPlaces) (t : Content) (r : Recordings) (from until : ℕ) (keeping : Bool) (begun : Comparison)
    (is_begun : IsBegun t r from keeping begun) (place : ℕ) (l : Link) (there : slice_get t.links place ≡ Some l) where
  abbrev first : Comparison
  first = with_until until begun

  outputs_are : (f : Watched) → slice_get begun.links place ≡ Some f → f.outputs ≡ outputs_first (watch_of t r from) t r.outputs keeping l.priority l.to
  outputs_are f get = ap (λ (x : Watched). x.outputs) (first_each (watch_of t r from) t r.outputs keeping t.links begun.links is_begun.links place l f there get).first

  pub quiet_side : (leaves : Bool) (port : ℕ) (n : Numbered) → (if leaves then leads_to port l else port == l.from) ≡ false
      → (if leaves then told_left place port n first else told_came place port n first) ≡ []
  quiet_side true port n silent =
      let os = outputs_first (watch_of t r from) t r.outputs keeping l.priority l.to in
      let none = not_among port l.to os silent (all_lead (watch_of t r from) t r.outputs keeping l.priority l.to l.to (names_all l.to)) in
      none_if (has_record first.watch n.frame.stamp) (told_record place (link_at port n.frame.bytes first) n)
      (quiet_record place (link_at port n.frame.bytes first) n (λ output is. not_led port place output begun.links os outputs_are none (place_of_named begun.table n.frame.bytes) is))
  quiet_side false port n silent =
      none_if (has_frame first.watch n.frame.stamp) (told_own place (place_of_own begun.table port n.frame) n)
      (quiet_own place (place_of_own begun.table port n.frame) n (λ is.
      eqb-false port l.from silent
      (own_port clean places t l place port n.frame there (verdict_of t port n.frame) refl (ap (λ (x : Content). place_of_own x port n.frame) (sym is_begun.table) ∙ is))))

  -- ---- the same is told

  abbrev sources : Sources
  sources = sources_of t r

  quiet : (k : ℕ) (n : Numbered) → concerns l sources k ≡ false → told_of place (slice_get sources.captures k) n first ≡ []
  quiet k n =
      elim (slice_get sources.captures k)
      as (λ of. option_map_or (λ x. if x.leaves then leads_to x.port l else x.port == l.from) of false ≡ false → told_of place of n first ≡ []) [
        | None ↦ λ silent. refl
        | Some x ↦ λ silent. quiet_side x.leaves x.port n silent
      ]

  abbrev those : List Arrival → List Arrival
  those arrivals = filter (λ a. concerns l sources a.place) arrivals

  alike_first : LeadAlike first first
  alike_first port bytes = refl

  told_those : (arrivals : List Arrival) → told place sources.captures arrivals first ≡ told_each place first sources (those arrivals)
  told_those arrivals = told_as place first sources arrivals first alike_first refl refl ∙ told_some place first sources (concerns l sources) quiet arrivals

  found_is : (arrivals : List Arrival)
      → slice_get (found_of t r until begun arrivals).links place
      ≡ option_map (with_ends (last_record first.watch)) (option_map (with_notices (told_each place first sources (those arrivals))) (slice_get begun.links place))
  found_is arrivals =
      found_told t r until begun place arrivals
      ∙ ap (λ (xs : List Notice). option_map (with_ends (last_record first.watch)) (option_map (with_notices xs) (slice_get begun.links place))) (told_those arrivals)

  module _ (captures others : List (List Record)) (arrivals arrivals' : List Arrival) (merge : IsMergeOf sources.clocks captures arrivals)
      (merge' : IsMergeOf sources.clocks others arrivals') (alike : AreAlikeFor l sources captures others) where
    same_found : slice_get (found_of t r until begun arrivals).links place ≡ slice_get (found_of t r until begun arrivals').links place
    same_found =
        found_is arrivals
        ∙ ap (λ (xs : List Arrival). option_map (with_ends (last_record first.watch)) (option_map (with_notices (told_each place first sources xs)) (slice_get begun.links place)))
        (same_arrived t r (concerns l sources) (λ k is. within_where (λ of. if of.leaves then leads_to of.port l else of.port == l.from) sources.captures k is)
        captures others arrivals arrivals' merge merge' alike)
        ∙ sym (found_is arrivals')

pub rows_are_alone : CleanFramesHaveALink → LinksAreAtTheirPlaces → RowsAreAlone
rows_are_alone clean places t r from until keeping first captures others arrivals arrivals' begun merge merge' place l there alike =
    same_found clean places t r from until keeping first begun place l there captures others arrivals arrivals' merge merge' alike
