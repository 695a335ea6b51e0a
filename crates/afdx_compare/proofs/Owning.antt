-- What a link is told came is what its port's capture has of its own.
use Rattle.std.proofs.Common.{◌≡◌, ◌≢◌, ℕ, zero, suc, ◌+◌, ◌-◌, ◌≤◌, min, Bool, true, false, List, [], ◌∷◌, ◌++◌, map, filter, flat_map, length, Option, Some, None, refl, sym, ap, subst, ◌∙◌, arith}
use Rattle.std.specs.Prelude.{◌==◌, ◌&&◌, if◌then◌else◌, slice_get}
use Rattle.std.specs.List.{AllByRecursion}
use Rattle.std.proofs.lemmas.Bool.{eqb-true, eqb-false, eq-eqb, ne_eqb}
use Rattle.std.proofs.lemmas.Option.{same_Some, slice_get_within}
use Rattle.afdx_units.specs.Time.{last_instant}
use Rattle.afdx_pcap.specs.Record.{Record}
use Rattle.afdx_table.specs.Link.{Link}
use Rattle.afdx_table.specs.Content.{Content, link_row, link_place}
use Rattle.afdx_table.specs.Ports.{has_port}
use Rattle.afdx_table.specs.WellFormed.{Rises}
use Rattle.afdx_table.specs.Inner.Found.{LinksAreFound, LinksAreAtTheirPlaces}
use Rattle.afdx_filter.specs.declared.outcome.Verdict.{Verdict}
use Rattle.afdx_filter.specs.declared.outcome.Verdict.TheVariants.{Cut, Short, Long, Foreign, NoLink, WrongPort, TooBig, Clean}
use Rattle.afdx_filter.specs.Verdict.{verdict_of}
use Rattle.afdx_filter.specs.Place.{place_named}
use Rattle.afdx_filter.specs.Inner.Clean.{CleanFramesHaveALink}
use Rattle.afdx_following.specs.declared.watch.Watch.{Watch}
use Rattle.afdx_following.specs.Watch.{has_frame}
use Rattle.afdx_core.specs.Rows.{says_clean}
use Rattle.afdx_core.specs.Merge.{records_of}
use Rattle.afdx_merging.specs.Merge.{Arrival, IsMergeOf}
use Rattle.afdx_recordings.specs.declared.recordings.Recordings.{Recordings}
use Rattle.afdx_compare.specs.declared.sources.Source.{Source}
use Rattle.afdx_compare.specs.Comparison.{place_of_own}
use Rattle.afdx_compare.specs.Sources.{input_clock, sources_of}
use Rattle.afdx_compare.specs.Within.{own_within}
use Rattle.afdx_compare.specs.Inner.Own.{is_own_of, own_came, own_from, own_of}
use Rattle.afdx_compare.specs.Inner.Laws.{at_clock, came_in}
use Rattle.afdx_compare.proofs.Captured.{port_there, IsAlone, input_alone, input_by, came_at}
use Rattle.afdx_compare.proofs.Picking.{flat_filter, filter_both, picked, frames, all_place, frames_numbered}
use Rattle.afdx_compare.proofs.Places.{get_there}

-- ---- the link at a place

-- a link of the table is at the place of its number
pub record IsPlaced (t : Content) (l : Link) (place : ℕ) : Type 0 where
  pub named : link_place t l.id ≡ Some place
  pub there : slice_get t.links place ≡ Some l

pub placed : LinksAreFound → LinksAreAtTheirPlaces → (t : Content) (l : Link) → link_row t l.id ≡ Some l → (place : ℕ) × IsPlaced t l place
placed found places t l row = by (link_place t l.id) refl where
  by : (o : Option ℕ) → link_place t l.id ≡ o → (place : ℕ) × IsPlaced t l place
  by None is = absurd (let never = sym (places.none t l.id is) ∙ row in cc)
  by (Some place) is = (place, record { named = is; there = places.at t l.id place is ∙ row })

-- what is under a number at that place is of that number
pub number_at : LinksAreFound → LinksAreAtTheirPlaces → (t : Content) (l : Link) (place number : ℕ) → slice_get t.links place ≡ Some l → link_place t number ≡ Some place → l.id ≡ number
number_at found places t l place number there named = (found.is_row t number l (sym (places.at t number place named) ∙ there)).0

-- ---- a frame is its own

own_clean : LinksAreFound → LinksAreAtTheirPlaces → (t : Content) (l : Link) (place : ℕ) → IsPlaced t l place → (v : Verdict) → is_own_of place (place_named t v) ≡ says_clean l.id v
own_clean found places t l place at (Clean number) = by (l.id == number) refl (link_place t number) refl where
  by : (b : Bool) → (l.id == number) ≡ b → (o : Option ℕ) → link_place t number ≡ o → is_own_of place o ≡ (l.id == number)
  by true same o is =
      ap (λ (x : Option ℕ). is_own_of place x) (sym is ∙ ap (λ (n : ℕ). link_place t n) (sym (eqb-true l.id number same)) ∙ at.named) ∙ eq-eqb place place refl ∙ sym same
  by false other None is = sym other
  by false other (Some here) is = ne_eqb here place (λ same. differ (ap (λ (n : ℕ). Some n) same)) ∙ sym other where
    differ : Some here ≡ Some place → ⊥
    differ same = eqb-false l.id number other (number_at found places t l place number at.there (is ∙ same))
own_clean found places t l place at Cut = refl
own_clean found places t l place at Short = refl
own_clean found places t l place at Long = refl
own_clean found places t l place at Foreign = refl
own_clean found places t l place at NoLink = refl
own_clean found places t l place at WrongPort = refl
own_clean found places t l place at TooBig = refl

-- and came at its port
own_port : CleanFramesHaveALink → LinksAreAtTheirPlaces → (t : Content) (l : Link) (place port : ℕ) (r : Record) → IsPlaced t l place → (v : Verdict) → verdict_of t port r ≡ v
    → place_named t v ≡ Some place → port ≡ l.from
own_port clean places t l place port r at (Clean number) is named =
    let has = clean t port r number is in
    let same : has.link ≡ l = same_Some has.link l (sym has.is_link ∙ sym (places.at t number place named) ∙ at.there) in
    sym has.from_port ∙ ap (λ (x : Link). x.from) same
own_port clean places t l place port r at Cut is named = absurd (let never = named in cc)
own_port clean places t l place port r at Short is named = absurd (let never = named in cc)
own_port clean places t l place port r at Long is named = absurd (let never = named in cc)
own_port clean places t l place port r at Foreign is named = absurd (let never = named in cc)
own_port clean places t l place port r at NoLink is named = absurd (let never = named in cc)
own_port clean places t l place port r at WrongPort is named = absurd (let never = named in cc)
own_port clean places t l place port r at TooBig is named = absurd (let never = named in cc)

-- at any other port none is
pub none_if : (b d : Bool) (r : Record) → d ≡ false → (if b && d then r ∷ [] else []) ≡ []
none_if true true r never = absurd cc
none_if true false r is = refl
none_if false d r is = refl

not_own : (place : ℕ) (of : Option ℕ) → (of ≡ Some place → ⊥) → is_own_of place of ≡ false
not_own place None never = refl
not_own place (Some link) never = ne_eqb link place (λ same. never (ap (λ (n : ℕ). Some n) same))

none_elsewhere : CleanFramesHaveALink → LinksAreAtTheirPlaces → (w : Watch) (t : Content) (l : Link) (place port : ℕ) (r : Record) → IsPlaced t l place → (port ≡ l.from → ⊥)
    → own_came w t place port r ≡ []
none_elsewhere clean places w t l place port r at other =
    none_if (has_frame w r.stamp) (is_own_of place (place_of_own t port r)) r
    (not_own place (place_of_own t port r) (λ is. other (own_port clean places t l place port r at (verdict_of t port r) refl is)))

-- ---- of all that arrived

own_picked : (w : Watch) (t : Content) (place : ℕ) (captures : List Source) (arrivals : List Arrival) → own_of w t place captures arrivals ≡ picked (own_from w t place) captures arrivals
own_picked w t place captures [] = refl
own_picked w t place captures (a ∷ arrivals) = ap (λ (rs : List Record). own_from w t place (slice_get captures a.place) a.head.frame ++ rs) (own_picked w t place captures arrivals)

other_place : CleanFramesHaveALink → LinksAreAtTheirPlaces → (w : Watch) (t : Content) (l : Link) (place : ℕ) (captures : List Source) (i : ℕ) → IsPlaced t l place → IsAlone captures i false l.from
    → (k : ℕ) (r : Record) → k ≢ i → (of : Option Source) → slice_get captures k ≡ of → own_from w t place of r ≡ []
other_place clean places w t l place captures i at alone k r other None get = refl
other_place clean places w t l place captures i at alone k r other (Some s) get = by s.leaves refl where
  by : (b : Bool) → s.leaves ≡ b → (if b then [] else own_came w t place s.port r) ≡ []
  by true side = refl
  by false side = none_elsewhere clean places w t l place s.port r at (λ number. absurd (other (alone.alone k s get side number)))

this_place : LinksAreFound → LinksAreAtTheirPlaces → (w : Watch) (t : Content) (l : Link) (place : ℕ) (captures : List Source) (i : ℕ) → IsPlaced t l place → (alone : IsAlone captures i false l.from)
    → (r : Record) → own_from w t place (slice_get captures i) r ≡ (if has_frame w r.stamp && says_clean l.id (verdict_of t l.from r) then r ∷ [] else [])
this_place found places w t l place captures i at alone r =
    ap (λ (of : Option Source). own_from w t place of r) alone.there
    ∙ ap (λ (b : Bool). if b then [] else own_came w t place alone.source.port r) alone.leaves_is
    ∙ ap (λ (port : ℕ). own_came w t place port r) alone.port_is
    ∙ ap (λ (b : Bool). if has_frame w r.stamp && b then r ∷ [] else []) (own_clean found places t l place at (verdict_of t l.from r))

-- by the clock of what came a stamp is what it is
unmoved : (r : Record) → r.stamp ≤ last_instant → at_clock input_clock r ≡ r
unmoved r le =
    let within : r.stamp ≤ 4294967295999999999 = le in
    let same : min ((r.stamp + 0) - 0) 4294967295999999999 ≡ r.stamp = omega (arith, within) in
    let by : ℕ → Record = λ stamp. record r { stamp = stamp } in
    ap by same

all_unmoved : (rs : List Record) → AllByRecursion (λ x. x.stamp ≤ last_instant) rs → map (at_clock input_clock) rs ≡ rs
all_unmoved [] all = refl
all_unmoved (r ∷ rs) all =
    ap (λ (x : Record). x ∷ map (at_clock input_clock) rs) (unmoved r all.0) ∙ ap (λ (xs : List Record). r ∷ xs) (all_unmoved rs all.1)

all_there : {X : Type 0} (P : X → Type 0) (xs : List X) (k : ℕ) (x : X) → AllByRecursion P xs → slice_get xs k ≡ Some x → P x
all_there P [] k x all at = absurd (let never = at in cc)
all_there {X} P (y ∷ xs) zero x all at = subst (λ (z : X). P z) (same_Some y x at) all.0
all_there P (y ∷ xs) (suc k) x all at = all_there P xs k x all.1 at

-- the records at a place of all captures, which are as many as the clocks
pub records_at : {X Y : Type 0} (xs : List X) (ys : List Y) (k : ℕ) (y : Y) → length xs ≡ length ys → slice_get ys k ≡ Some y → (x : X) × (slice_get xs k ≡ Some x)
records_at xs ys k y same at = (let lt = slice_get_within ys k y at in get_there xs k (omega (arith, lt, same)))

pub own_is_within : CleanFramesHaveALink → LinksAreFound → LinksAreAtTheirPlaces
    → (w : Watch) (t : Content) (r : Recordings) (captures : List (List Record)) (arrivals : List Arrival) (l : Link) (place : ℕ)
    → Rises t.ports → has_port t.ports l.from ≡ true → AllByRecursion (λ rs. AllByRecursion (λ x. x.stamp ≤ last_instant) rs) captures → IsMergeOf (sources_of t r).clocks captures arrivals
    → IsPlaced t l place → own_of w t place (sources_of t r).captures arrivals ≡ own_within w t l (came_in t.ports captures)
own_is_within clean found places w t r captures arrivals l place rise has bound merge at =
    let port = port_there t.ports l.from has in
    let i = port.place in
    let sources = (sources_of t r).captures in
    let alone : IsAlone sources i false l.from = subst (λ (id : ℕ). IsAlone sources i false id) port.number (input_alone t r rise i port.row port.there) in
    let clock = input_by t r i port.row port.there in
    let rs = records_at captures (sources_of t r).clocks i input_clock merge.many clock in
    let test : Record → Bool = λ x. says_clean l.id (verdict_of t l.from x) in
    own_picked w t place sources arrivals
    ∙ all_place (own_from w t place) (λ x. if has_frame w x.stamp && test x then x ∷ [] else []) sources i
    (λ k x other. other_place clean places w t l place sources i at alone k x other (slice_get sources k) refl) (this_place found places w t l place sources i at alone) arrivals
    ∙ ap (λ (those : List Arrival). flat_map (λ x. if has_frame w x.stamp && test x then x ∷ [] else []) (frames those)) (merge.each i input_clock rs.0 clock rs.1)
    ∙ ap (λ (xs : List Record). flat_map (λ x. if has_frame w x.stamp && test x then x ∷ [] else []) xs) (frames_numbered i 1 input_clock rs.0 ∙ all_unmoved rs.0
    (all_there (λ (xs : List Record). AllByRecursion (λ x. x.stamp ≤ last_instant) xs) captures i rs.0 bound rs.1))
    ∙ flat_filter (λ x. has_frame w x.stamp && test x) rs.0
    ∙ filter_both (λ x. has_frame w x.stamp) test rs.0
    ∙ ap (λ (xs : List Record). filter (λ x. has_frame w x.stamp) (filter test xs))
    (sym (came_at t.ports rise captures i port.row rs.0 port.there rs.1) ∙ ap (λ (id : ℕ). records_of (came_in t.ports captures) id) port.number)
