-- Where nothing speaks against a switch, it keeps to what is proved of ours.
use Rattle.std.proofs.Common.{◌≡◌, ℕ, zero, suc, ◌-◌, ◌≤◌, min, Bool, true, false, cond, List, [], ◌∷◌, map, filter, length, Option, Some, None, refl, sym, ap, subst, ◌∙◌, arith}
use Rattle.std.specs.Prelude.{◌==◌, ◌&&◌, nat_le, if◌then◌else◌, option_map, slice_get, All, Contains}
use Rattle.std.specs.List.{AllByRecursion, list_all, position}
use Rattle.std.specs.Option.{option_map_or}
use Rattle.std.specs.Str.{bytes_eq}
use Rattle.std.proofs.lemmas.Bool.{eqb-true, eqb-false, eq-eqb, ne_eqb}
use Rattle.std.proofs.lemmas.List.Elements.{All-nil, All-cons}
use Rattle.std.proofs.lemmas.Option.{same_Some, slice_get-map, slice_get-get_or, slice_get_within}
use Rattle.afdx_units.specs.Time.{last_instant}
use Rattle.afdx_pcap.specs.Record.{Record}
use Rattle.afdx_frame.specs.Address.{constant_of, link_of}
use Rattle.afdx_account.specs.declared.account.Account.{Account}
use Rattle.afdx_account.specs.declared.frame.Frame.{Frame}
use Rattle.afdx_account.specs.Account.{account_terms}
use Rattle.afdx_account.specs.Policing.{Terms}
use Rattle.afdx_levels.specs.Levels.{Levels, Allowed}
use Rattle.afdx_levels.specs.Inner.Laws.{chosen}
use Rattle.afdx_table.specs.declared.rows.PortRow.{PortRow}
use Rattle.afdx_table.specs.Link.{Link, names_port, leads_to}
use Rattle.afdx_table.specs.Content.{Content, port_row, link_place}
use Rattle.afdx_table.specs.WellFormed.{IsPort, IsLink, IsWellFormed}
use Rattle.afdx_table.specs.Inner.Found.{LinksAreFound, LinksAreAtTheirPlaces, PortsAreFound}
use Rattle.afdx_filter.specs.Frame.{frame_of}
use Rattle.afdx_filter.specs.Inner.Clean.{CleanFramesHaveALink}
use Rattle.afdx_load.specs.Load.{terms_of}
use Rattle.afdx_load.specs.Inner.Laws.{HighLinksLeaveAPart}
use Rattle.afdx_grouping.specs.Scatter.{IsAcceptedWith}
use Rattle.afdx_pairing.specs.declared.limits.Limits.{Limits}
use Rattle.afdx_pairing.specs.Kept.{IsKeptFor}
use Rattle.afdx_following.specs.declared.watch.Watch.{Watch}
use Rattle.afdx_following.specs.Watch.{limits_of, unknown_since, last_record}
use Rattle.afdx_following.specs.Output.{Output, last_at}
use Rattle.afdx_following.specs.Tally.{conforms_in}
use Rattle.afdx_following.specs.Watched.{Watched, levels_at_first, conforms, with_ends}
use Rattle.afdx_following.specs.Followed.{Notice, Arrived, Departed, with_notice, with_notices, own_in, left_in, judged, IsExplained, FollowedIsKept}
use Rattle.afdx_core.specs.Merge.{Capture}
use Rattle.afdx_session.specs.Headline.{records_for}
use Rattle.afdx_merging.specs.Merge.{Arrival, IsMergeOf}
use Rattle.afdx_merging.proofs.Lists.{mapped_at}
use Rattle.afdx_recordings.specs.declared.recordings.Recordings.{Recordings}
use Rattle.afdx_recordings.specs.Recordings.{is_recorded}
use Rattle.afdx_compare.specs.declared.sources.Source.{Source}
use Rattle.afdx_compare.specs.Comparison.{Comparison, watch_of, bound_in, outputs_first, IsFirstOf, IsBegun, link_among, place_of_named, link_at, with_until, with_end, conform}
use Rattle.afdx_compare.specs.Sources.{sources_of}
use Rattle.afdx_compare.specs.Arrivals.{with_arrival, with_arrivals}
use Rattle.afdx_compare.specs.Within.{levels_since, own_within, recorded, IsKeptAt, IsKeptWithin}
use Rattle.afdx_compare.specs.Inner.Laws.{watch_within, recorded_ports, came_in, left_out}
use Rattle.afdx_compare.specs.Inner.Own.{own_of}
use Rattle.afdx_compare.specs.Inner.Sound.{IsSound}
use Rattle.afdx_compare.specs.Inner.Told.{told}
use Rattle.afdx_compare.specs.Inner.Due.{AreDue}
use Rattle.afdx_compare.proofs.Beginning.{first_each, begun_sound}
use Rattle.afdx_compare.proofs.Bounding.{bounded}
use Rattle.afdx_compare.proofs.Clocked.{all_due}
use Rattle.afdx_compare.proofs.Explaining.{until_sound, explained}
use Rattle.afdx_compare.proofs.Gathered.{merge_clocked, left_is_recorded}
use Rattle.afdx_compare.proofs.Keeping.{Setting, setting, settings, IsLike, own_like, record_like, ends_like}
use Rattle.afdx_compare.proofs.Leading.{is_at, IsPortAt, all_left, left_here}
use Rattle.afdx_compare.proofs.Next.{Laws, arrival_same}
use Rattle.afdx_compare.proofs.Owned.{own_is}
use Rattle.afdx_compare.proofs.Owning.{IsPlaced, placed, number_at, own_is_within}
use Rattle.afdx_compare.proofs.Picking.{filter_alike, filter_none}
use Rattle.afdx_compare.proofs.Places.{get_there, all_at, same_get, item_contained}
use Rattle.afdx_compare.proofs.Ported.{HasLimits, all_have, names_all, all_lead, output_place}
use Rattle.afdx_compare.proofs.Strangers.{none_foreign, both, IsLed, all_led}
use Rattle.afdx_compare.proofs.Telling.{links_are_told}
use Rattle.afdx_compare.proofs.Turns.{at_port, among, among_links}

-- the laws of lower crates that are needed
pub record Lower : Type 0 where
  pub clean : CleanFramesHaveALink
  pub places : LinksAreAtTheirPlaces
  pub found : LinksAreFound
  pub ports : PortsAreFound
  pub part : HighLinksLeaveAPart
  pub kept : FollowedIsKept

-- ---- lists

pub contained_at : {X : Type 0} (xs : List X) (x : X) → Contains xs x → (k : ℕ) × (slice_get xs k ≡ Some x)
contained_at {X} xs x has = (has.0, slice_get-get_or xs has.0 x has.1 ∙ ap (λ (y : X). Some y) has.2)

filter_of : {X : Type 0} (test : X → Bool) (xs : List X) (j : ℕ) (x : X) → slice_get (filter test xs) j ≡ Some x → (k : ℕ) × (slice_get xs k ≡ Some x) × (test x ≡ true)
filter_of test [] j x at = absurd (let never = at in cc)
filter_of {X} test (y ∷ xs) j x at = by (test y) refl j at (λ i get. filter_of test xs i x get) where
  by : (b : Bool) → test y ≡ b → (i : ℕ) → slice_get (cond b (y ∷ filter test xs) (filter test xs)) i ≡ Some x
      → ((i : ℕ) → slice_get (filter test xs) i ≡ Some x → (k : ℕ) × (slice_get xs k ≡ Some x) × (test x ≡ true)) → (k : ℕ) × (slice_get (y ∷ xs) k ≡ Some x) × (test x ≡ true)
  by true is zero get rest = (0, get, ap test (sym (same_Some y x get)) ∙ is)
  by true is (suc i) get rest = (let later = rest i get in (suc later.0, later.1, later.2))
  by false is i get rest = (let later = rest i get in (suc later.0, later.1, later.2))

list_all_at : {X : Type 0} (test : X → Bool) (xs : List X) (k : ℕ) (x : X) → list_all test xs ≡ true → slice_get xs k ≡ Some x → test x ≡ true
list_all_at test [] k x all at = absurd (let never = at in cc)
list_all_at test (y ∷ xs) zero x all at = ap test (sym (same_Some y x at)) ∙ (both (test y) (list_all test xs) all).0
list_all_at test (y ∷ xs) (suc k) x all at = list_all_at test xs k x (both (test y) (list_all test xs) all).1 at

all_of : {X : Type 0} (P : X → Type 0) (xs : List X) → AllByRecursion P xs → All P xs
all_of P [] all = All-nil P
all_of P (x ∷ xs) all = All-cons P x xs all.0 (all_of P xs all.1)

all_map : {X : Type 0} (P Q : X → Type 0) → ((x : X) → P x → Q x) → (xs : List X) → AllByRecursion P xs → AllByRecursion Q xs
all_map P Q from [] all = tt
all_map P Q from (x ∷ xs) all = (from x all.0, all_map P Q from xs all.1)

mapped_get : {X Y : Type 0} (f : X → Y) (xs : List X) (k : ℕ) (x : X) → slice_get xs k ≡ Some x → slice_get (map f xs) k ≡ Some (f x)
mapped_get {X} f xs k x at = slice_get-map f xs k ∙ ap (λ (o : Option X). option_map f o) at

-- ---- what a link is told changes neither its account nor its ports

notices_like : (xs : List Notice) (f : Watched) → IsLike (with_notices xs f) f
notices_like [] f = record { account = refl; settings = refl }
notices_like (x ∷ xs) f =
    let later = notices_like xs (with_notice x f) in
    let one = notice_like x f in
    record { account = later.account ∙ one.account; settings = later.settings ∙ one.settings }
  where
    notice_like : (x : Notice) (f : Watched) → IsLike (with_notice x f) f
    notice_like (Arrived n) f = own_like n f
    notice_like (Departed place n) f = record_like place n f

arrivals_watch : (captures : List Source) (arrivals : List Arrival) (c : Comparison) → (with_arrivals captures arrivals c).watch ≡ c.watch
arrivals_watch captures [] c = refl
arrivals_watch captures (a ∷ arrivals) c = arrivals_watch captures arrivals (with_arrival captures a c) ∙ (arrival_same (slice_get captures a.place) a c).watch

-- ---- what is known of the account at first

levels_are : (account : Account) (tolerance : ℕ) (since : Option ℕ) → levels_at_first account tolerance since ≡ levels_since (account_terms account) tolerance since
levels_are account tolerance None = refl
levels_are account tolerance (Some since) = refl

allowed_as : (account : Account) (terms : Terms) (tolerance : ℕ) (since : Option ℕ) (frames : List Frame) (fates : List Bool) → account_terms account ≡ terms
    → Allowed (account_terms account) tolerance (levels_at_first account tolerance since) frames fates → Allowed terms tolerance (levels_since terms tolerance since) frames fates
allowed_as account terms tolerance since frames fates is allowed =
    subst (λ (x : Terms). Allowed x tolerance (levels_since x tolerance since) frames fates) is
    (subst (λ (ls : Levels). Allowed (account_terms account) tolerance ls frames fates) (levels_are account tolerance since) allowed)

-- ---- the link that a record names

pub named_if : (b : Bool) (o : Option ℕ) (x : ℕ) → (if b then o else None) ≡ Some x → o ≡ Some x
named_if true o x is = is
named_if false o x is = absurd (let never = is in cc)

-- it is at its place, and leads to the port
pub record IsLedBy (t : Content) (links : List Watched) (port : ℕ) (bytes : List ℕ) (link output : ℕ) : Type 0 where
  pub named : link_place t (link_of bytes) ≡ Some link
  pub followed : Watched
  pub there : slice_get links link ≡ Some followed
  pub place : position (λ o. o.port == port) followed.outputs ≡ Some output

pub led_by : (t : Content) (links : List Watched) (port : ℕ) (bytes : List ℕ) (link output : ℕ) → link_among port links (place_of_named t bytes) ≡ Some (link, output)
    → IsLedBy t links port bytes link output
led_by t links port bytes link output is =
    let by = among_links port link output links (place_of_named t bytes) is in
    record {
      named = named_if (nat_le 6 (length bytes) && bytes_eq (constant_of bytes) t.constant) (link_place t (link_of bytes)) link (same (place_of_named t bytes) is);
      followed = by.0;
      there = by.1;
      place = by.2;
    } where
      same : (o : Option ℕ) → link_among port links o ≡ Some (link, output) → o ≡ Some link
      same None is = absurd (let never = is in cc)
      same (Some at) is = ap (λ (n : ℕ). Some n) (among port link output at (slice_get links at) is).2

-- ---- at a port

-- a link of the table is followed at its place, as the table says
record IsWatched (w : Watch) (t : Content) (r : Recordings) (keeping : Bool) (links : List Watched) (l : Link) (place : ℕ) : Type 0 where
  at : IsPlaced t l place
  followed : Watched
  there : slice_get links place ≡ Some followed
  first : IsFirstOf w t r.outputs keeping l followed

-- its outputs are those of ports to which it leads
ports_lead : (w : Watch) (t : Content) (r : Recordings) (keeping : Bool) (links : List Watched) (l : Link) (place : ℕ) → (of : IsWatched w t r keeping links l place) → (port k : ℕ)
    → position (λ o. o.port == port) of.followed.outputs ≡ Some k → leads_to port l ≡ true
ports_lead w t r keeping links l place of port k is =
    let outputs = outputs_first w t r.outputs keeping l.priority l.to in
    let same : of.followed.outputs ≡ outputs = ap (λ (f : Watched). f.outputs) of.first.first in
    let o = at_port port outputs k (ap (λ (os : List Output). position (λ x. x.port == port) os) (sym same) ∙ is) in
    subst (λ (p : ℕ). names_port p l.to ≡ true) o.2
    (all_at (λ (x : Output). names_port x.port l.to ≡ true) outputs k o.0 o.1 (all_lead w t r.outputs keeping l.priority l.to l.to (names_all l.to)))

-- a record that is led there is of the link exactly where it has the link's number
pub led_alike : LinksAreFound → LinksAreAtTheirPlaces → (t : Content) (c : Comparison) (l : Link) (place k port : ℕ) (f : Watched) (r : Record) → c.table ≡ t → IsPlaced t l place
    → slice_get c.links place ≡ Some f → position (λ o. o.port == port) f.outputs ≡ Some k → (link output : ℕ) → link_at port r.bytes c ≡ Some (link, output)
    → is_at place k (link_at port r.bytes c) ≡ (link_of r.bytes == l.id)
led_alike found places t c l place k port f r table at there is link output led = by (link_of r.bytes == l.id) refl where
  one : IsLedBy t c.links port r.bytes link output
  one = led_by t c.links port r.bytes link output (subst (λ (x : Content). link_among port c.links (place_of_named x r.bytes) ≡ Some (link, output)) table led)

  by : (b : Bool) → (link_of r.bytes == l.id) ≡ b → is_at place k (link_at port r.bytes c) ≡ b
  by true same =
      let links : Some link ≡ Some place = sym one.named ∙ ap (λ (n : ℕ). link_place t n) (eqb-true (link_of r.bytes) l.id same) ∙ at.named in
      let link_is : link ≡ place = same_Some link place links in
      let followed : one.followed ≡ f = same_get c.links place one.followed f (ap (λ (n : ℕ). slice_get c.links n) (sym link_is) ∙ one.there) there in
      let outputs : Some output ≡ Some k = sym one.place ∙ ap (λ (x : Watched). position (λ o. o.port == port) x.outputs) followed ∙ is in
      ap (λ (x : Option (ℕ × ℕ)). is_at place k x) led
      ∙ ap (λ (b : Bool). b && (output == k)) (eq-eqb link place link_is)
      ∙ eq-eqb output k (same_Some output k outputs)
  by false other =
      ap (λ (x : Option (ℕ × ℕ)). is_at place k x) led
      ∙ ap (λ (b : Bool). b && (output == k)) (ne_eqb link place (λ link_is. absurd (eqb-false (link_of r.bytes) l.id other
      (sym (number_at found places t l place (link_of r.bytes) at.there (one.named ∙ ap (λ (n : ℕ). Some n) link_is))))))

-- for a link that does not lead there it has another number
led_other : LinksAreFound → LinksAreAtTheirPlaces → (w : Watch) (t : Content) (r : Recordings) (keeping : Bool) (c : Comparison) (l : Link) (place port : ℕ) (x : Record) → c.table ≡ t
    → (of : IsWatched w t r keeping c.links l place) → leads_to port l ≡ false → (link output : ℕ) → link_at port x.bytes c ≡ Some (link, output) → (link_of x.bytes == l.id) ≡ false
led_other found places w t r keeping c l place port x table of not_there link output led = by (link_of x.bytes == l.id) refl where
  one : IsLedBy t c.links port x.bytes link output
  one = led_by t c.links port x.bytes link output (subst (λ (y : Content). link_among port c.links (place_of_named y x.bytes) ≡ Some (link, output)) table led)

  by : (b : Bool) → (link_of x.bytes == l.id) ≡ b → b ≡ false
  by true same =
      let links : Some link ≡ Some place = sym one.named ∙ ap (λ (n : ℕ). link_place t n) (eqb-true (link_of x.bytes) l.id same) ∙ of.at.named in
      let link_is : link ≡ place = same_Some link place links in
      let followed : one.followed ≡ of.followed = same_get c.links place one.followed of.followed (ap (λ (n : ℕ). slice_get c.links n) (sym link_is) ∙ one.there) of.there in
      let leads = ports_lead w t r keeping c.links l place of port output (ap (λ (y : Watched). position (λ o. o.port == port) y.outputs) (sym followed) ∙ one.place) in
      sym leads ∙ not_there
  by false other = refl

-- and it is of some link
led_some : LinksAreFound → LinksAreAtTheirPlaces → (t : Content) (c : Comparison) (port : ℕ) (r : Record) → c.table ≡ t → length c.links ≡ length t.links → (link output : ℕ)
    → link_at port r.bytes c ≡ Some (link, output) → (l : Link) × Contains t.links l × (link_of r.bytes ≡ l.id)
led_some found places t c port r table many link output led =
    let one = led_by t c.links port r.bytes link output (subst (λ (x : Content). link_among port c.links (place_of_named x r.bytes) ≡ Some (link, output)) table led) in
    let lt = slice_get_within c.links link one.followed one.there in
    let l = get_there t.links link (omega (arith, lt, many)) in
    (l.0, item_contained t.links link l.0 l.1, sym (number_at found places t l.0 link (link_of r.bytes) l.1 one.named))

-- ---- all of it

module _ (lower : Lower) (t : Content) (r : Recordings) (from until : ℕ) (keeping : Bool) (captures : List (List Record)) (arrivals : List Arrival) (first : Comparison)
    (formed : IsWellFormed t) (accepted : IsAcceptedWith (t.latency - r.least) t) (bound : AllByRecursion (λ rs. AllByRecursion (λ x. x.stamp ≤ last_instant) rs) captures)
    (begun : IsBegun t r from keeping first) (merge : IsMergeOf (sources_of t r).clocks captures arrivals)
    (fine : conform (with_end (with_arrivals (sources_of t r).captures arrivals (with_until until first))) ≡ true) where
  abbrev w : Watch
  w = watch_within t r from until

  abbrev c : Comparison
  c = with_until until first

  abbrev sources : List Source
  sources = (sources_of t r).captures

  abbrev read : List Capture
  read = came_in t.ports captures

  abbrev last : Option ℕ
  last = last_record c.watch

  abbrev laws : Laws
  laws = record { clean = lower.clean; places = lower.places; ports = lower.ports }

  watch_is : c.watch ≡ w
  watch_is = ap (λ (x : Watch). record x { until = Some until }) begun.watch

  sound : IsSound c
  sound = until_sound until first (begun_sound t r from keeping first formed begun)

  many : length first.links ≡ length t.links
  many = sound.many_links ∙ ap (λ (x : Content). length x.links) begun.table

  due : AreDue c.watch c.table sources arrivals
  due =
      subst (λ (x : Watch). AreDue x c.table sources arrivals) (sym watch_is)
      (subst (λ (x : Content). AreDue w x sources arrivals) (sym begun.table) (all_due r t from (Some until) arrivals (merge_clocked (sources_of t r).clocks captures arrivals merge)))

  abbrev notices : ℕ → List Notice
  notices place = told place sources arrivals c

  -- ---- one level explains what was told a link

  explained_at : (place : ℕ)
      → (fates : List Bool) × ((l : Link) (f : Watched) → slice_get t.links place ≡ Some l → slice_get first.links place ≡ Some f → IsExplained f (notices place) last fates)
  explained_at place = by (slice_get t.links place) refl (slice_get first.links place) refl where
    by : (l : Option Link) → slice_get t.links place ≡ l → (f : Option Watched) → slice_get first.links place ≡ f
        → (fates : List Bool) × ((l : Link) (f : Watched) → slice_get t.links place ≡ Some l → slice_get first.links place ≡ Some f → IsExplained f (notices place) last fates)
    by None none f is = ([], λ l g at get. absurd (let never = sym none ∙ at in cc))
    by (Some l) at None none = ([], λ m g there get. absurd (let never = sym none ∙ get in cc))
    by (Some l) at (Some f) get =
        let it = explained laws lower.kept t r from until keeping first sources arrivals last formed r.tolerance_limit begun merge.in_order due place l f at get in
        (it.0, λ m g there there_too. subst (λ (x : Watched). IsExplained x (notices place) last it.0) (same_get first.links place f g get there_too) it.1)

  abbrev fates_of : Option ℕ → List Bool
  fates_of None = []
  fates_of (Some place) = (explained_at place).0

  abbrev fates : Link → List Bool
  fates l = fates_of (link_place t l.id)

  -- ---- a link at its place

  place_of : (l : Link) → Contains t.links l → (place : ℕ) × IsPlaced t l place
  place_of l among = placed lower.found lower.places t l (lower.found.found t formed l among)

  fates_are : (l : Link) (place : ℕ) → IsPlaced t l place → (explained_at place).0 ≡ fates l
  fates_are l place at = ap fates_of (sym at.named)

  watched : (l : Link) (place : ℕ) → IsPlaced t l place → IsWatched (watch_of t r from) t r keeping first.links l place
  watched l place at =
      let lt = slice_get_within t.links place l at.there in
      let f = get_there first.links place (omega (arith, lt, many)) in
      record { at = at; followed = f.0; there = f.1; first = first_each (watch_of t r from) t r.outputs keeping t.links first.links begun.links place l f.0 at.there f.1 }

  formed_link : (l : Link) (place : ℕ) → IsPlaced t l place → IsLink t.ports l
  formed_link l place at = all_at (λ (x : Link). IsLink t.ports x) t.links place l at.there formed.links

  own_are : (l : Link) (place : ℕ) → IsPlaced t l place → own_in (notices place) ≡ own_within w t l read
  own_are l place at =
      own_is place sources arrivals c
      ∙ ap (λ (x : Watch). own_of x c.table place sources arrivals) watch_is
      ∙ ap (λ (x : Content). own_of w x place sources arrivals) begun.table
      ∙ own_is_within lower.clean lower.found lower.places w t r captures arrivals l place formed.ports_rise (formed_link l place at).from_port bound merge at

  allowed : (l : Link) → Contains t.links l → Allowed (terms_of l) w.tolerance (levels_since (terms_of l) w.tolerance (unknown_since w)) (map frame_of (own_within w t l read)) (fates l)
  allowed l among =
      let place = place_of l among in
      let of = watched l place.0 place.1 in
      let it = (explained_at place.0).1 l of.followed place.1.there of.there in
      let one = of.first in
      subst (λ (bs : List Bool). Allowed (terms_of l) w.tolerance (levels_since (terms_of l) w.tolerance (unknown_since w)) (map frame_of (own_within w t l read)) bs)
      (fates_are l place.0 place.1)
      (subst (λ (rs : List Record). Allowed (terms_of l) w.tolerance (levels_since (terms_of l) w.tolerance (unknown_since w)) (map frame_of rs) (explained_at place.0).0)
      (own_are l place.0 place.1)
      (allowed_as one.account (terms_of l) r.tolerance (unknown_since w) (map judged (own_in (notices place.0))) (explained_at place.0).0 one.terms
      (subst (λ (f : Watched). Allowed (account_terms f.account) f.tolerance f.levels (map judged (own_in (notices place.0))) (explained_at place.0).0) one.first it.are_allowed)))

  -- ---- records at a port

  none : none_foreign (with_arrivals sources arrivals c).ports ≡ true
  none = (both (list_all (λ p. p.foreign == 0) (with_end (with_arrivals sources arrivals c)).ports) (list_all (λ f. conforms f) (with_end (with_arrivals sources arrivals c)).links) fine).0

  led : (port : ℕ) → AllByRecursion (IsLed c port) (all_left c.watch port sources arrivals)
  led port = all_led c port sources arrivals c sound (λ q bytes. refl) due none

  port_of : (p : PortRow) → Contains (recorded_ports t r) p → (j : ℕ) × (slice_get (recorded_ports t r) j ≡ Some p)
  port_of p among = contained_at (recorded_ports t r) p among

  left_are : (p : PortRow) → Contains (recorded_ports t r) p → all_left c.watch p.id sources arrivals ≡ recorded w (left_out t r captures p)
  left_are p among =
      let j = port_of p among in
      ap (λ (x : Watch). all_left x p.id sources arrivals) watch_is ∙ left_is_recorded w t r captures arrivals j.0 p formed.ports_rise merge j.1

  others : (p : PortRow) → Contains (recorded_ports t r) p → (l : Link) → Contains t.links l → leads_to p.id l ≡ false → records_for l (recorded w (left_out t r captures p)) ≡ []
  others p among l has not_there =
      let place = place_of l has in
      let of = watched l place.0 place.1 in
      ap (λ (rs : List Record). records_for l rs) (sym (left_are p among))
      ∙ filter_none (λ x. link_of x.bytes == l.id) (all_left c.watch p.id sources arrivals)
      (all_map (IsLed c p.id) (λ x. (link_of x.bytes == l.id) ≡ false)
      (λ x is. led_other lower.found lower.places (watch_of t r from) t r keeping c l place.0 p.id x begun.table of not_there is.link is.output is.is) (all_left c.watch p.id sources arrivals)
      (led p.id))

  linked : (p : PortRow) → Contains (recorded_ports t r) p → All (λ x. (l : Link) × Contains t.links l × (link_of x.bytes ≡ l.id)) (recorded w (left_out t r captures p))
  linked p among =
      subst (λ (rs : List Record). All (λ x. (l : Link) × Contains t.links l × (link_of x.bytes ≡ l.id)) rs) (left_are p among)
      (all_of (λ x. (l : Link) × Contains t.links l × (link_of x.bytes ≡ l.id)) (all_left c.watch p.id sources arrivals)
      (all_map (IsLed c p.id) (λ x. (l : Link) × Contains t.links l × (link_of x.bytes ≡ l.id))
      (λ x is. led_some lower.found lower.places t c p.id x begun.table many is.link is.output is.is) (all_left c.watch p.id sources arrivals) (led p.id)))

  -- ---- what is kept there

  -- the link's port among those of its that were recorded
  port_row_is : (p : PortRow) → Contains (recorded_ports t r) p → (k : ℕ) × (slice_get t.ports k ≡ Some p) × (is_recorded r.outputs p.id ≡ true)
  port_row_is p among = (let j = port_of p among in filter_of (λ x. is_recorded r.outputs x.id) t.ports j.0 p j.1)

  kept_at : (p : PortRow) → Contains (recorded_ports t r) p → (l : Link) → Contains t.links l → leads_to p.id l ≡ true → IsKeptAt w t read p (left_out t r captures p) l (fates l)
  kept_at p among l has leads =
      let place = place_of l has in
      let of = watched l place.0 place.1 in
      let row = port_row_is p among in
      let in_table : Contains t.ports p = item_contained t.ports row.0 p row.1 in
      let found : port_row t p.id ≡ Some p = lower.ports t formed p in_table in
      let outputs = outputs_first (watch_of t r from) t r.outputs keeping l.priority l.to in
      let same : of.followed.outputs ≡ outputs = ap (λ (f : Watched). f.outputs) of.first.first in
      let at = output_place (watch_of t r from) t r.outputs keeping l.priority p.id p l.to row.2 found leads in
      let o = at_port p.id outputs at.0 at.1 in
      let limited = all_at (λ (x : Output). HasLimits (watch_of t r from) t l.priority x.port x.limits) outputs at.0 o.0 o.1 (all_have (watch_of t r from) t r.outputs keeping l.priority l.to) in
      let b = bounded lower.part t (t.latency - r.least) formed accepted p in_table place.0 l place.1.there leads in
      let delay = (all_at (λ (x : PortRow). IsPort x) t.ports row.0 p row.1 formed.ports).delay_most in
      let within = b.within in
      let bound_is : bound_in (t.latency - r.least) t p l.priority ≡ b.bound =
      ap (λ (x : Option ℕ). min (option_map_or (λ y. y) x 0) 18446744073709551615) b.is
      ∙ (let least : min b.bound 18446744073709551615 ≡ b.bound = omega (arith, within, delay) in least) in
      let row_is : limited.row ≡ p = same_Some limited.row p (sym limited.is_row ∙ ap (λ (id : ℕ). port_row t id) o.2 ∙ found) in
      let limits : o.0.limits ≡ limits_of w b.bound p.speed =
      limited.limits ∙ ap (λ (x : PortRow). limits_of w (bound_in (t.latency - r.least) t x l.priority) x.speed) row_is ∙ ap (λ (x : ℕ). limits_of w x p.speed) bound_is in (
        b.bound,
        b.is,
        kept_for p among l place.0 of at.0 o.0
            (ap (λ (os : List Output). slice_get os at.0) same ∙ o.1) (ap (λ (os : List Output). position (λ x. x.port == p.id) os) same ∙ at.1) (limits_of w b.bound p.speed) limits,
      )
    where
      kept_for : (p : PortRow) → Contains (recorded_ports t r) p → (l : Link) (place : ℕ) → (of : IsWatched (watch_of t r from) t r keeping first.links l place) → (k : ℕ) (o : Output)
          → slice_get of.followed.outputs k ≡ Some o → position (λ x. x.port == p.id) of.followed.outputs ≡ Some k → (m : Limits) → o.limits ≡ m
          → IsKeptFor m (last_at m (last_record w)) (own_within w t l read) (chosen (fates l) (own_within w t l read)) (records_for l (recorded w (left_out t r captures p)))
      kept_for p among l place of k o get is m limits =
          let f = of.followed in
          let told_last = with_ends last (with_notices (notices place) f) in
          let like = ends_like last (with_notices (notices place) f) in
          let more = notices_like (notices place) f in
          let same : settings told_last.outputs ≡ settings f.outputs = like.settings ∙ more.settings in
          let now = mapped_at setting told_last.outputs k (setting o) (ap (λ (ss : List Setting). slice_get ss k) same ∙ mapped_get setting f.outputs k o get) in
          let it = (explained_at place).1 l f of.at.there of.there in
          let all = with_arrivals sources arrivals c in
          let told_links : slice_get all.links place ≡ Some (with_notices (notices place) f) =
          links_are_told place sources arrivals c ∙ ap (λ (x : Option Watched). option_map (with_notices (notices place)) x) of.there in
          let ended : slice_get (with_end all).links place ≡ Some told_last =
          mapped_get (with_ends (last_record all.watch)) all.links place (with_notices (notices place) f) told_links
          ∙ ap (λ (x : Watch). Some (with_ends (last_record x) (with_notices (notices place) f))) (arrivals_watch sources arrivals c) in
          let conform_all = (both (list_all (λ x. x.foreign == 0) (with_end all).ports) (list_all (λ x. conforms x) (with_end all).links) fine).1 in
          let conform_here = list_all_at (λ (x : Watched). conforms x) (with_end all).links place told_last conform_all ended in
          let kept = it.kept k now.0 now.1 (list_all_at (λ (x : Output). conforms_in x.found.tally) told_last.outputs k now.0 conform_here now.1) in
          let limits_are : now.0.limits ≡ m = ap (λ (s : Setting). s.limits) now.2 ∙ limits in
          let own = own_are l place of.at in
          let records : left_in k (notices place) ≡ records_for l (recorded w (left_out t r captures p)) =
          left_here c place k p.id sources arrivals c (λ q bytes. refl) (port_at p.id place k f o of.there get is)
          ∙ filter_alike (λ x. is_at place k (link_at p.id x.bytes c)) (λ x. link_of x.bytes == l.id) (all_left c.watch p.id sources arrivals)
          (all_map (IsLed c p.id) (λ x. is_at place k (link_at p.id x.bytes c) ≡ (link_of x.bytes == l.id))
          (λ x is_led. led_alike lower.found lower.places t c l place k p.id f x begun.table of.at of.there is is_led.link is_led.output is_led.is) (all_left c.watch p.id sources arrivals) (led p.id))
          ∙ ap (λ (rs : List Record). records_for l rs) (left_are p among) in
          subst (λ (bs : List Bool). IsKeptFor m (last_at m (last_record w)) (own_within w t l read) (chosen bs (own_within w t l read)) (records_for l (recorded w (left_out t r captures p))))
          (fates_are l place of.at)
          (subst (λ (rs : List Record). IsKeptFor m (last_at m (last_record w)) (own_within w t l read) (chosen (explained_at place).0 (own_within w t l read)) rs) records
          (subst (λ (rs : List Record). IsKeptFor m (last_at m (last_record w)) rs (chosen (explained_at place).0 rs) (left_in k (notices place))) own
          (subst (λ (x : Watch). IsKeptFor m (last_at m (last_record x)) (own_in (notices place)) (chosen (explained_at place).0 (own_in (notices place))) (left_in k (notices place))) watch_is
          (subst (λ (x : Limits). IsKeptFor x (last_at x last) (own_in (notices place)) (chosen (explained_at place).0 (own_in (notices place))) (left_in k (notices place))) limits_are kept))))
        where
          port_at : (port place k : ℕ) (f : Watched) (o : Output) → slice_get first.links place ≡ Some f → slice_get f.outputs k ≡ Some o → position (λ x. x.port == port) f.outputs ≡ Some k
              → IsPortAt c place k port
          port_at port place k f o there get is = λ q bytes led.
              (let by = among_links q place k c.links (place_of_named c.table bytes) led in
              let followed : by.0 ≡ f = same_get c.links place by.0 f by.1 there in
              let one = at_port q by.0.outputs k by.2 in
              let other = at_port port f.outputs k is in
              let output : one.0 ≡ other.0 = same_get f.outputs k one.0 other.0 (ap (λ (x : Watched). slice_get x.outputs k) (sym followed) ∙ one.1) other.1 in
              sym one.2 ∙ ap (λ (x : Output). x.port) output ∙ other.2)

  pub kept_within : IsKeptWithin w t (recorded_ports t r) read (left_out t r captures)
  kept_within = record { fates = fates; are_allowed = allowed; kept = kept_at; none_else = others; of_links = linked }
