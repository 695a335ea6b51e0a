-- Where a switch was at rest and stamps are exact, a row of a link rests on what came at the link's own port and on what left at the row's port.
use Rattle.std.proofs.Common.{◌≡◌, ℕ, suc, zero, ◌≤◌, Bool, true, false, cond, List, [], ◌∷◌, ◌++◌, map, drop, filter, Option, Some, None, refl, sym, ap, subst, ◌∙◌, inl, inr}
use Rattle.std.specs.Prelude.{◌==◌, flat_map, if◌then◌else◌, option_map, slice_get}
use Rattle.std.specs.List.{AllByRecursion}
use Rattle.std.specs.Option.{option_map_or}
use Rattle.std.proofs.lemmas.Bool.{cases_Bool, eqb-true, eqb-false, ne_eqb}
use Rattle.std.proofs.lemmas.List.Elements.{filter-append}
use Rattle.std.proofs.lemmas.Option.{same_Some, slice_get-map}
use Rattle.afdx_csv.specs.declared.form.Form.{Form}
use Rattle.afdx_csv.specs.declared.form.Form.TheVariants.{Lines, Csv}
use Rattle.afdx_pcap.specs.Record.{Record}
use Rattle.afdx_units.specs.declared.line.Priority.{Priority}
use Rattle.afdx_account.specs.Account.{account_terms}
use Rattle.afdx_levels.specs.Levels.{at_rest}
use Rattle.afdx_table.specs.Link.{Link}
use Rattle.afdx_table.specs.Content.{Content}
use Rattle.afdx_table.specs.WellFormed.{IsWellFormed}
use Rattle.afdx_table.specs.Inner.Found.{LinksAreAtTheirPlaces, PortsAreFound}
use Rattle.afdx_filter.specs.Inner.Clean.{CleanFramesHaveALink}
use Rattle.afdx_pairing.specs.declared.limits.Limits.{Limits}
use Rattle.afdx_pairing.specs.Events.{Numbered}
use Rattle.afdx_pairing.specs.Pairing.{at_first as pairing_at_first}
use Rattle.afdx_following.specs.declared.watch.Watch.{Watch}
use Rattle.afdx_following.specs.declared.watch.Start.TheVariants.{Rest, Cut}
use Rattle.afdx_following.specs.Watch.{has_record, unknown_since, unknown_from, last_record}
use Rattle.afdx_following.specs.Output.{Found, Output, with_end}
use Rattle.afdx_following.specs.Watched.{Watched, at_first, with_ends}
use Rattle.afdx_following.specs.Followed.{Notice, Arrived, Departed, with_notice, with_notices, AreNext}
use Rattle.afdx_merging.specs.Merge.{Arrival, IsMergeOf}
use Rattle.afdx_recordings.specs.declared.recordings.Recordings.{Recordings}
use Rattle.afdx_compare.specs.Comparison.{Comparison, watch_of, outputs_first, IsFirstOf, IsBegun, link_at, place_of_named, with_until}
use Rattle.afdx_compare.specs.Sources.{Sources, sources_of}
use Rattle.afdx_compare.specs.Report.{output_text}
use Rattle.afdx_compare.specs.Rows.{event_rows, output_rows, link_rows}
use Rattle.afdx_compare.specs.Inner.Due.{AreDue}
use Rattle.afdx_compare.specs.Inner.Told.{told_record, told_came, told_left, told_of, told}
use Rattle.afdx_compare.proofs.Beginning.{first_each, first_at, begun_sound, begun_by, all_from}
use Rattle.afdx_compare.proofs.Clocked.{all_due}
use Rattle.afdx_compare.proofs.Explaining.{until_sound}
use Rattle.afdx_compare.proofs.Gathered.{merge_clocked}
use Rattle.afdx_compare.proofs.Keeping.{Setting, setting, settings, own_like, record_like, ends_like}
use Rattle.afdx_compare.proofs.Leading.{LeadAlike}
use Rattle.afdx_compare.proofs.Making.{first_fresh}
use Rattle.afdx_compare.proofs.Next.{Laws, links_are_next}
use Rattle.afdx_compare.proofs.Places.{same_get}
use Rattle.afdx_compare.proofs.Ported.{HasLimits, all_have}
use Rattle.afdx_compare.proofs.Turns.{at_port, among_links}
use Rattle.afdx_compare_laws.specs.Conforming.{IsByLast}
use Rattle.afdx_compare_laws.specs.EachRow.{concerns_at, AreAlikeAt, text_at, EachRowIsAlone}
use Rattle.afdx_compare_laws.specs.Alone.{found_of}
use Rattle.afdx_compare_laws.proofs.Alone.{told_each, told_as, quiet_side, within_where, same_arrived, found_told}
use Rattle.afdx_compare_laws.proofs.AtRest.{about, told_alone, alone_about, AreExact, EndsSo, ends_alone}
use Rattle.afdx_compare_laws.proofs.Comparing.{told_by_last}
use Rattle.afdx_compare_laws.proofs.Told.{limits_in}

-- ---- the same is said of outputs at a port of which the same was found

-- all of an output of which is said anything
abbrev shown : Setting → Found → Output
shown s f = record { port = s.port; limits = s.limits; pairing = pairing_at_first s.limits; waiting = []; found = f }

text_shown : (form : Form) (link unsure : ℕ) (o : Output) → output_text form link unsure o ≡ output_text form link unsure (shown (setting o) o.found)
text_shown Lines link unsure o = refl
text_shown Csv link unsure o = refl

joined : {X : Type 0} (xs xs' ys ys' : List X) → xs ≡ xs' → ys ≡ ys' → xs ++ ys ≡ xs' ++ ys'
joined {X} xs xs' ys ys' one other = ap (λ (zs : List X). zs ++ ys) one ∙ ap (λ (zs : List X). xs' ++ zs) other

module _ (port link : ℕ) (form : Form) (unsure unsure' : ℕ) where
  abbrev text_of : ℕ → Output → List ℕ
  text_of count o = if o.port == port then output_text form link count o else []

  -- of outputs at the port the same was found
  abbrev IsSame : Output → Output → Type 0
  IsSame o o' = (o.port == port) ≡ true → (unsure ≡ unsure') × (o.found ≡ o'.found)

  same_text : (o o' : Output) → setting o ≡ setting o' → IsSame o o' → text_of unsure o ≡ text_of unsure' o'
  same_text o o' same found =
      let text = output_text form link unsure o in
      let text' = output_text form link unsure' o' in
      let there : (o.port == port) ≡ (o'.port == port) = ap (λ (s : Setting). s.port == port) same in
      elim (cases_Bool (o.port == port)) [
        | inl is ↦ (
            let both = found is in
            ap (λ (b : Bool). if b then text else []) is
            ∙ text_shown form link unsure o
            ∙ ap (λ (count : ℕ). output_text form link count (shown (setting o) o.found)) both.0
            ∙ ap (λ (s : Setting). output_text form link unsure' (shown s o.found)) same
            ∙ ap (λ (f : Found). output_text form link unsure' (shown (setting o') f)) both.1
            ∙ sym (text_shown form link unsure' o')
            ∙ sym (ap (λ (b : Bool). if b then text' else []) (sym there ∙ is)))
        | inr not ↦ ap (λ (b : Bool). if b then text else []) not ∙ sym (ap (λ (b : Bool). if b then text' else []) (sym there ∙ not))
      ]

  same_rows : (o o' : Output) → setting o ≡ setting o' → IsSame o o' → output_rows port link o ≡ output_rows port link o'
  same_rows o o' same found =
      let rows = event_rows link o.limits.bound o.found.differences in
      let rows' = event_rows link o'.limits.bound o'.found.differences in
      let there : (o.port == port) ≡ (o'.port == port) = ap (λ (s : Setting). s.port == port) same in
      elim (cases_Bool (o.port == port)) [
        | inl is ↦
            ap (λ (b : Bool). if b then rows else []) is
            ∙ ap (λ (s : Setting). event_rows link s.limits.bound o.found.differences) same
            ∙ ap (λ (f : Found). event_rows link o'.limits.bound f.differences) (found is).1
            ∙ sym (ap (λ (b : Bool). if b then rows' else []) (sym there ∙ is))
        | inr not ↦ ap (λ (b : Bool). if b then rows else []) not ∙ sym (ap (λ (b : Bool). if b then rows' else []) (sym there ∙ not))
      ]

  same_said : (os os' : List Output) → settings os ≡ settings os' → ((k : ℕ) (o o' : Output) → slice_get os k ≡ Some o → slice_get os' k ≡ Some o' → IsSame o o')
      → (flat_map (λ o. text_of unsure o) os ≡ flat_map (λ o. text_of unsure' o) os') × (flat_map (output_rows port link) os ≡ flat_map (output_rows port link) os')
  same_said [] [] same each = (refl, refl)
  same_said [] (o ∷ os) same each = absurd (let never = same in cc)
  same_said (o ∷ os) [] same each = absurd (let never = same in cc)
  same_said (o ∷ os) (o' ∷ os') same each =
      let first : setting o ≡ setting o' = same_Some (setting o) (setting o') (ap (λ (ss : List Setting). slice_get ss 0) same) in
      let rest = same_said os os' (ap (λ (ss : List Setting). drop 1 ss) same) (λ k x x' get get'. each (suc k) x x' get get') in
      let found = each 0 o o' refl refl in (
        joined (text_of unsure o) (text_of unsure' o') (flat_map (λ x. text_of unsure x) os) (flat_map (λ x. text_of unsure' x) os') (same_text o o' first found) rest.0,
        joined (output_rows port link o) (output_rows port link o') (flat_map (output_rows port link) os) (flat_map (output_rows port link) os') (same_rows o o' first found) rest.1,
      )

-- the same is said of two links at the port of a number
abbrev IsSaidAlike : Form → ℕ → ℕ → Watched → Watched → Type 0
IsSaidAlike form port link f g = (text_at form port link f ≡ text_at form port link g) × (link_rows port link f ≡ link_rows port link g)

-- ---- lists

there_before : {X Y : Type 0} (f : X → Y) (xs : List X) (k : ℕ) (y : Y) → slice_get (map f xs) k ≡ Some y → (x : X) × ((slice_get xs k ≡ Some x) × (f x ≡ y))
there_before f [] k y get = absurd (let never = get in cc)
there_before f (x ∷ xs) zero y get = (x, (refl, same_Some (f x) y get))
there_before f (x ∷ xs) (suc k) y get = there_before f xs k y get

notices_like : (xs : List Notice) (f : Watched) → settings (with_notices xs f).outputs ≡ settings f.outputs
notices_like [] f = refl
notices_like (Arrived n ∷ xs) f = notices_like xs (with_notice (Arrived n) f) ∙ (own_like n f).settings
notices_like (Departed place n ∷ xs) f = notices_like xs (with_notice (Departed place n) f) ∙ (record_like place n f).settings

-- ---- which captures tell nothing of a port

module _ (place : ℕ) (first : Comparison) (f : Watched) (get : slice_get first.links place ≡ Some f) (k : ℕ) (o : Output) (there : slice_get f.outputs k ≡ Some o) where
  abbrev those : List Notice → List Notice
  those xs = filter (λ x. about k x) xs

  -- a record at another port
  record_quiet : (port : ℕ) (n : Numbered) (to : Option (ℕ × ℕ)) → (port == o.port) ≡ false → link_at port n.frame.bytes first ≡ to → those (told_record place to n) ≡ []
  record_quiet port n None other is = refl
  record_quiet port n (Some (link, output)) other is = by (link == place) refl where
    by : (b : Bool) → (link == place) ≡ b → those (if b then Departed output n ∷ [] else []) ≡ []
    by false apart = refl
    by true same =
        let led = among_links port link output first.links (place_of_named first.table n.frame.bytes) is in
        let followed : led.0 ≡ f = same_get first.links place led.0 f (ap (λ (i : ℕ). slice_get first.links i) (sym (eqb-true link place same)) ∙ led.1) get in
        let found = at_port port led.0.outputs output led.2 in
        let here : slice_get f.outputs output ≡ Some found.0 = ap (λ (x : Watched). slice_get x.outputs output) (sym followed) ∙ found.1 in
        let apart : output ≡ k → ⊥ =
        λ at. eqb-false port o.port other
        (sym found.2 ∙ ap (λ (x : Output). x.port) (same_get f.outputs k found.0 o (ap (λ (i : ℕ). slice_get f.outputs i) (sym at) ∙ here) there)) in
        ap (λ (b : Bool). cond b (Departed output n ∷ []) []) (ne_eqb output k apart)

  left_quiet : (port : ℕ) (n : Numbered) → (port == o.port) ≡ false → those (told_left place port n first) ≡ []
  left_quiet port n other = elim (has_record first.watch n.frame.stamp)
      as (λ b. those (if b then told_record place (link_at port n.frame.bytes first) n else []) ≡ []) [
        | true ↦ record_quiet port n (link_at port n.frame.bytes first) other refl
        | false ↦ refl
      ]

  told_about : (s : Sources) (q : ℕ → Bool) → ((i : ℕ) (n : Numbered) → q i ≡ false → those (told_of place (slice_get s.captures i) n first) ≡ []) → (arrivals : List Arrival)
      → those (told_each place first s arrivals) ≡ those (told_each place first s (filter (λ a. q a.place) arrivals))
  told_about s q quiet [] = refl
  told_about s q quiet (a ∷ arrivals) =
      let one = told_of place (slice_get s.captures a.place) a.head first in
      let some = filter (λ a. q a.place) arrivals in
      let splits = filter-append (λ x. about k x) one (told_each place first s arrivals) in
      let rest = told_about s q quiet arrivals in
      elim (cases_Bool (q a.place)) [
        | inl is ↦ rw is (splits ∙ ap (λ (xs : List Notice). those one ++ xs) rest ∙ sym (filter-append (λ x. about k x) one (told_each place first s some)))
        | inr not ↦ rw not (splits ∙ ap (λ (xs : List Notice). xs ++ those (told_each place first s arrivals)) (quiet a.place a.head not) ∙ rest)
      ]

-- ---- the link in two comparisons

-- the laws of lower crates that are needed
pub record Lower : Type 0 where
  pub clean : CleanFramesHaveALink
  pub places : LinksAreAtTheirPlaces
  pub ports : PortsAreFound

exact_all : (w : Watch) (t : Content) (priority : Priority) (os : List Output) → w.tolerance ≡ 0 → AllByRecursion (λ o. HasLimits w t priority o.port o.limits) os → AreExact (limits_in os)
exact_all w t priority [] exact all = tt
exact_all w t priority (o ∷ os) exact all = (ap (λ (m : Limits). m.tolerance) all.0.limits ∙ exact, exact_all w t priority os exact all.1)

module _ (lower : Lower) (t : Content) (r : Recordings) (from until : ℕ) (keeping : Bool) (begun : Comparison) (formed : IsWellFormed t) (rest : r.rest ≡ true)
    (exact : r.tolerance ≡ 0) (is_begun : IsBegun t r from keeping begun) (place port : ℕ) (l : Link) (there : slice_get t.links place ≡ Some l) where
  abbrev w : Watch
  w = watch_of t r from

  abbrev first : Comparison
  first = with_until until begun

  abbrev sources : Sources
  sources = sources_of t r

  abbrev last : Option ℕ
  last = last_record first.watch

  abbrev outputs : List Output
  outputs = outputs_first w t r.outputs keeping l.priority l.to

  abbrev notices : List Arrival → List Notice
  notices arrivals = told place sources.captures arrivals first

  laws : Laws
  laws = record { clean = lower.clean; places = lower.places; ports = lower.ports }

  tolerance_is : first.watch.tolerance ≡ 0
  tolerance_is = ap (λ (x : Watch). x.tolerance) is_begun.watch ∙ exact

  since_is : unknown_since w ≡ None
  since_is = ap (λ (b : Bool). unknown_from r.tolerance (if b then Rest else Cut from)) rest

  by_last : (arrivals : List Arrival) → AllByRecursion (IsByLast 0 last) (notices arrivals)
  by_last arrivals = subst (λ (i : ℕ). AllByRecursion (IsByLast i last) (notices arrivals)) tolerance_is (told_by_last place sources arrivals first)

  due : (captures : List (List Record)) (arrivals : List Arrival) → IsMergeOf sources.clocks captures arrivals → AreDue first.watch first.table sources.captures arrivals
  due captures arrivals merge =
      subst (λ (x : Watch). AreDue x begun.table sources.captures arrivals) (sym (ap (λ (x : Watch). record x { until = Some until }) is_begun.watch))
      (subst (λ (x : Content). AreDue (record w { until = Some until }) x sources.captures arrivals) (sym is_begun.table)
      (all_due r t from (Some until) arrivals (merge_clocked sources.clocks captures arrivals merge)))

  module _ (f : Watched) (get : slice_get begun.links place ≡ Some f) where
    one : IsFirstOf w t r.outputs keeping l f
    one = first_each w t r.outputs keeping t.links begun.links is_begun.links place l f there get

    abbrev at_rest_first : Watched
    at_rest_first = at_first one.account 0 None outputs

    first_is : f ≡ at_rest_first
    first_is =
        one.first ∙ ap (λ (i : ℕ). at_first one.account i (unknown_since w) outputs) exact ∙ ap (λ (since : Option ℕ). at_first one.account 0 since outputs) since_is

    next_told : (captures : List (List Record)) (arrivals : List Arrival) → IsMergeOf sources.clocks captures arrivals → AreNext at_rest_first (notices arrivals)
    next_told captures arrivals merge =
        let sound = until_sound until begun (begun_sound t r from keeping begun formed is_begun) in
        let are_due = due captures arrivals merge in
        let start : first_at first.watch ≡ first_at w = ap (λ (x : Watch). first_at x) is_begun.watch in
        let by = subst (λ (at : ℕ). AllByRecursion (λ x. x.latest ≤ at) begun.links) (sym start) (begun_by t r from keeping begun is_begun) in
        subst (λ (x : Watched). AreNext x (notices arrivals)) first_is
        (links_are_next laws place sources.captures arrivals first f (first_at first.watch) sound get merge.in_order are_due by (all_from first.watch first.table sources.captures arrivals are_due))

    abbrev ends : List Arrival → Watched
    ends arrivals = with_ends last (with_notices (notices arrivals) at_rest_first)

    ends_settings : (arrivals : List Arrival) → settings (ends arrivals).outputs ≡ settings outputs
    ends_settings arrivals = (ends_like last (with_notices (notices arrivals) at_rest_first)).settings ∙ notices_like (notices arrivals) at_rest_first

    -- what ends at one of its outputs is told of its own and of what left there
    ended : (captures : List (List Record)) (arrivals : List Arrival) → IsMergeOf sources.clocks captures arrivals → (k : ℕ) (o : Output) → slice_get outputs k ≡ Some o
        → EndsSo last k (told_alone (account_terms one.account) k (filter (λ x. about k x) (notices arrivals)) (at_rest (account_terms one.account) 0) o) (ends arrivals)
    ended captures arrivals merge k o here =
        let terms = account_terms one.account in
        subst (λ (x : Output). EndsSo last k x (ends arrivals)) (alone_about terms k (notices arrivals) (at_rest terms 0) o)
        (ends_alone one.account outputs last k o (notices arrivals) (first_fresh w t r.outputs keeping l.priority l.to)
        (exact_all w t l.priority outputs exact (all_have w t r.outputs keeping l.priority l.to)) here (next_told captures arrivals merge) (by_last arrivals))

    quiet : (k : ℕ) (o : Output) → slice_get outputs k ≡ Some o → o.port ≡ port → (i : ℕ) (n : Numbered) → concerns_at l port sources i ≡ false
        → filter (λ x. about k x) (told_of place (slice_get sources.captures i) n first) ≡ []
    quiet k o here at i n = elim (slice_get sources.captures i)
        as (λ of. option_map_or (λ x. if x.leaves then x.port == port else x.port == l.from) of false ≡ false → filter (λ x. about k x) (told_of place of n first) ≡ []) [
          | None ↦ λ silent. refl
          | Some x ↦ λ silent. side x.leaves x.port silent
        ] where
          here_f : slice_get f.outputs k ≡ Some o
          here_f = ap (λ (x : Watched). slice_get x.outputs k) first_is ∙ here

          side : (leaves : Bool) (q : ℕ) → (if leaves then q == port else q == l.from) ≡ false
              → filter (λ x. about k x) (if leaves then told_left place q n first else told_came place q n first) ≡ []
          side true q silent = left_quiet place first f get k o here_f q n (ap (λ (p : ℕ). q == p) at ∙ silent)
          side false q silent =
              ap (λ (xs : List Notice). filter (λ x. about k x) xs) (quiet_side lower.clean lower.places t r from until keeping begun is_begun place l there false q n silent)

    alike_first : LeadAlike first first
    alike_first q bytes = refl

    about_those : (arrivals : List Arrival) (k : ℕ) (o : Output) → slice_get outputs k ≡ Some o → o.port ≡ port
        → filter (λ x. about k x) (notices arrivals) ≡ filter (λ x. about k x) (told_each place first sources (filter (λ a. concerns_at l port sources a.place) arrivals))
    about_those arrivals k o here at =
        ap (λ (xs : List Notice). filter (λ x. about k x) xs) (told_as place first sources arrivals first alike_first refl refl)
        ∙ told_about place first f get k o (ap (λ (x : Watched). slice_get x.outputs k) first_is ∙ here) sources (concerns_at l port sources) (quiet k o here at) arrivals

    module _ (captures others : List (List Record)) (arrivals arrivals' : List Arrival) (merge : IsMergeOf sources.clocks captures arrivals)
        (merge' : IsMergeOf sources.clocks others arrivals') (alike : AreAlikeAt l port sources captures others) where
      same_about : (k : ℕ) (o : Output) → slice_get outputs k ≡ Some o → o.port ≡ port → filter (λ x. about k x) (notices arrivals) ≡ filter (λ x. about k x) (notices arrivals')
      same_about k o here at =
          about_those arrivals k o here at
          ∙ ap (λ (xs : List Arrival). filter (λ x. about k x) (told_each place first sources xs))
          (same_arrived t r (concerns_at l port sources) (λ k is. within_where (λ of. if of.leaves then of.port == port else of.port == l.from) sources.captures k is)
          captures others arrivals arrivals' merge merge' alike)
          ∙ sym (about_those arrivals' k o here at)

      same_ends : (k : ℕ) (o o' : Output) → slice_get (ends arrivals).outputs k ≡ Some o → slice_get (ends arrivals').outputs k ≡ Some o' → (o.port == port) ≡ true
          → ((ends arrivals).unsure ≡ (ends arrivals').unsure) × (o.found ≡ o'.found)
      same_ends k o o' at at' is =
          let begins = there_before setting outputs k (setting o)
          (ap (λ (ss : List Setting). slice_get ss k) (sym (ends_settings arrivals))
          ∙ slice_get-map setting (ends arrivals).outputs k ∙ ap (λ (x : Option Output). option_map setting x) at) in
          let here : begins.0.port ≡ port = ap (λ (s : Setting). s.port) begins.1.1 ∙ eqb-true o.port port is in
          let e = ended captures arrivals merge k begins.0 begins.1.0 in
          let e' = ended others arrivals' merge' k begins.0 begins.1.0 in
          let terms = account_terms one.account in (
            e.unsure ∙ sym e'.unsure,
            ap (λ (x : Output). x.found) (same_get (ends arrivals).outputs k o e.port at e.there)
                ∙ e.found
                ∙ ap (λ (xs : List Notice). (with_end last (told_alone terms k xs (at_rest terms 0) begins.0)).found) (same_about k begins.0 begins.1.0 here)
                ∙ sym e'.found
                ∙ ap (λ (x : Output). x.found) (same_get (ends arrivals').outputs k e'.port o' e'.there at'),
          )

      same_there : (form : Form) → IsSaidAlike form port l.id (with_ends last (with_notices (notices arrivals) f)) (with_ends last (with_notices (notices arrivals') f))
      same_there form =
          subst (λ (x : Watched). IsSaidAlike form port l.id (with_ends last (with_notices (notices arrivals) x)) (with_ends last (with_notices (notices arrivals') x))) (sym first_is)
          (same_said port l.id form (ends arrivals).unsure (ends arrivals').unsure (ends arrivals).outputs (ends arrivals').outputs
          (ends_settings arrivals ∙ sym (ends_settings arrivals')) same_ends)

-- a link in the end, once it was told what arrived
abbrev ends_told : Content → Recordings → ℕ → Comparison → ℕ → List Arrival → Option Watched → Option Watched
ends_told t r until begun place arrivals f =
    let first = with_until until begun in
    option_map (with_ends (last_record first.watch)) (option_map (with_notices (told place (sources_of t r).captures arrivals first)) f)

abbrev AreSaidAlike : Form → ℕ → ℕ → Option Watched → Option Watched → Type 0
AreSaidAlike form port link f g = (option_map (text_at form port link) f ≡ option_map (text_at form port link) g) × (option_map (link_rows port link) f ≡ option_map (link_rows port link) g)

some_same : {X : Type 0} (x y : X) → x ≡ y → Some x ≡ Some y
some_same {X} x y same = let some : X → Option X = λ z. Some z in ap some same

pub each_row_is_alone : Lower → EachRowIsAlone
each_row_is_alone lower t r from until keeping begun captures others arrivals arrivals' formed rest exact is_begun merge merge' place port l there alike form =
    subst (λ (f : Option Watched). AreSaidAlike form port l.id f (slice_get (found_of t r until begun arrivals').links place)) (sym (found_told t r until begun place arrivals))
    (subst (λ (f : Option Watched). AreSaidAlike form port l.id (ends_told t r until begun place arrivals (slice_get begun.links place)) f) (sym (found_told t r until begun place arrivals'))
    (by (slice_get begun.links place) refl)) where
      by : (f : Option Watched) → slice_get begun.links place ≡ f
          → AreSaidAlike form port l.id (ends_told t r until begun place arrivals f) (ends_told t r until begun place arrivals' f)
      by None get = (refl, refl)
      by (Some f) get =
          let both = same_there lower t r from until keeping begun formed rest exact is_begun place port l there f get captures others arrivals arrivals' merge merge' alike form in
          let end : List Arrival → Watched = λ xs. with_ends (last_record (with_until until begun).watch) (with_notices (told place (sources_of t r).captures xs (with_until until begun)) f) in (
            some_same (text_at form port l.id (end arrivals)) (text_at form port l.id (end arrivals')) both.0,
            some_same (link_rows port l.id (end arrivals)) (link_rows port l.id (end arrivals')) both.1,
          )
