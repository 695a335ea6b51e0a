-- What counts is a link's own and in its turn.
use Rattle.std.proofs.Common.{◌≡◌, ℕ, ◌+◌, ◌*◌, ◌<◌, ◌≤◌, true, List, [], ◌∷◌, length, get_or, Option, Some, None, refl, sym, ap, subst, ◌∙◌, arith}
use Rattle.std.specs.Prelude.{◌==◌, slice_get}
use Rattle.std.specs.List.{position}
use Rattle.std.specs.Option.{option_map_or}
use Rattle.std.proofs.lemmas.Bool.{eqb-true}
use Rattle.std.proofs.lemmas.Option.{slice_get_within, slice_get-get_or}
use Rattle.std.proofs.lemmas.List.Quantifiers.{position-Some}
use Rattle.afdx_units.specs.declared.bag.Bag.{Bag}
use Rattle.afdx_units.specs.declared.line.Speed.{Speed}
use Rattle.afdx_units.specs.declared.police.Police.{Police}
use Rattle.afdx_units.specs.declared.police.Police.TheVariants.{Byte, Frame as ByFrames}
use Rattle.afdx_units.specs.Line.{size_of, tick_of}
use Rattle.afdx_units.specs.Time.{bag_ns}
use Rattle.afdx_account.specs.Policing.{Terms, terms_by}
use Rattle.afdx_account.specs.Account.{account_terms}
use Rattle.afdx_pcap.specs.Record.{Record}
use Rattle.afdx_table.specs.declared.rows.PortRow.{PortRow}
use Rattle.afdx_table.specs.Link.{Link}
use Rattle.afdx_table.specs.Content.{Content, port_row}
use Rattle.afdx_table.specs.Inner.Found.{LinksAreAtTheirPlaces, PortsAreFound}
use Rattle.afdx_filter.specs.declared.outcome.Verdict.{Verdict}
use Rattle.afdx_filter.specs.declared.outcome.Verdict.TheVariants.{Cut, Short, Long, Foreign, NoLink, WrongPort, TooBig, Clean}
use Rattle.afdx_filter.specs.Verdict.{verdict_of}
use Rattle.afdx_filter.specs.Place.{place_named}
use Rattle.afdx_filter.specs.Inner.Clean.{CleanFramesHaveALink}
use Rattle.afdx_load.specs.Load.{terms_of}
use Rattle.afdx_pairing.specs.Events.{Numbered}
use Rattle.afdx_following.specs.declared.watch.Watch.{Watch}
use Rattle.afdx_following.specs.Watch.{has_record}
use Rattle.afdx_following.specs.Output.{Output, left_by}
use Rattle.afdx_following.specs.Watched.{Watched, frame_size, Fits, left_by_at}
use Rattle.afdx_compare.specs.declared.sources.Source.{Source}
use Rattle.afdx_compare.specs.Comparison.{Comparison, place_of_own, place_of_named, led_to, output_among, link_among, link_at}
use Rattle.afdx_compare.specs.Inner.Sound.{IsLimited, IsSound, IsBy, due_of, IsInTurn}
use Rattle.afdx_compare.proofs.Places.{get_there, same_get, item_contained, all_at}

-- ---- a link's own frames

-- the link of a frame that counts as its own
pub record IsOwnOf (t : Content) (r : Record) (place : ℕ) : Type 0 where
  pub link : Link
  pub there : slice_get t.links place ≡ Some link
  pub size : size_of (length r.bytes) ≤ link.max_size

clean_own : CleanFramesHaveALink → LinksAreAtTheirPlaces → (t : Content) (port : ℕ) (r : Record) (place : ℕ) (v : Verdict) → verdict_of t port r ≡ v → place_named t v ≡ Some place → IsOwnOf t r place
clean_own clean places t port r place (Clean id) v_is named =
    let has = clean t port r id v_is in
    record { link = has.link; there = places.at t id place named ∙ has.is_link; size = has.size_most }
clean_own clean places t port r place Cut v_is named = absurd (let never = named in cc)
clean_own clean places t port r place Short v_is named = absurd (let never = named in cc)
clean_own clean places t port r place Long v_is named = absurd (let never = named in cc)
clean_own clean places t port r place Foreign v_is named = absurd (let never = named in cc)
clean_own clean places t port r place NoLink v_is named = absurd (let never = named in cc)
clean_own clean places t port r place WrongPort v_is named = absurd (let never = named in cc)
clean_own clean places t port r place TooBig v_is named = absurd (let never = named in cc)

pub is_own : CleanFramesHaveALink → LinksAreAtTheirPlaces → (t : Content) (port : ℕ) (r : Record) (place : ℕ) → place_of_own t port r ≡ Some place → IsOwnOf t r place
is_own clean places t port r place named = clean_own clean places t port r place (verdict_of t port r) refl named

-- a full account passes a frame that is no larger than Smax
fits_by_bytes : (size most gap jitter : ℕ) → size ≤ most → size * gap ≤ most * (gap + jitter)
fits_by_bytes size most gap jitter le = grind arith

fits_by_frames : (gap jitter : ℕ) → gap ≤ gap + jitter
fits_by_frames gap jitter = omega arith

price_fits : (police : Police) (max_size : ℕ) (bag : Bag) (jitter size : ℕ) → size ≤ max_size → (terms_by police max_size bag jitter).price size ≤ (terms_by police max_size bag jitter).cap
price_fits Byte max_size bag jitter size le = fits_by_bytes size max_size (bag_ns bag) jitter le
price_fits ByFrames max_size bag jitter size le = fits_by_frames (bag_ns bag) jitter

own_fits : (l : Link) (f : Watched) (n : Numbered) → account_terms f.account ≡ terms_of l → frame_size n ≤ l.max_size → Fits f.account n
own_fits l f n terms le = subst (λ (t : Terms). t.price (frame_size n) ≤ t.cap) (sym terms) (price_fits l.police l.max_size l.bag l.jitter (frame_size n) le)

-- so what counts as a link's own frame may be told it
pub record MayCome (place : ℕ) (n : Numbered) (c : Comparison) : Type 0 where
  pub within : place < length c.links
  pub in_order : (f : Watched) → slice_get c.links place ≡ Some f → f.latest ≤ n.frame.stamp
  pub fits : (f : Watched) → slice_get c.links place ≡ Some f → Fits f.account n

pub may_come : (c : Comparison) (place : ℕ) (n : Numbered) → IsSound c → IsOwnOf c.table n.frame place → IsBy n.frame.stamp c → MayCome place n c
may_come c place n sound own by = record {
  within = subst (λ (k : ℕ). place < k) (sym sound.many_links) (slice_get_within c.table.links place own.link own.there);
  in_order = λ f get. all_at (λ (x : Watched). x.latest ≤ n.frame.stamp) c.links place f get by;
  fits = λ f get. own_fits own.link f n (sound.each place own.link f own.there get).terms own.size;
}

-- ---- a record that left

-- the place of a link's port by its number, of those that were recorded
pub at_port : (port : ℕ) (os : List Output) (output : ℕ) → position (λ o. o.port == port) os ≡ Some output → (o : Output) × (slice_get os output ≡ Some o) × (o.port ≡ port)
at_port port [] output is = absurd (let none = is in cc)
at_port port (o ∷ os) output is =
    let there = position-Some (λ (x : Output). x.port == port) (o ∷ os) output o is in
    let it = get_or (o ∷ os) output o in
    (it, slice_get-get_or (o ∷ os) output o there.0, eqb-true it.port port there.1)

-- a record that may be told its link, by this instant
pub record MayLeave (link output at : ℕ) (n : Numbered) (c : Comparison) : Type 0 where
  pub within : link < length c.links
  pub place : (f : Watched) → slice_get c.links link ≡ Some f → output < length f.outputs
  pub due : (f : Watched) → slice_get c.links link ≡ Some f → left_by_at output n f ≡ at
  pub in_order : (f : Watched) → slice_get c.links link ≡ Some f → f.latest ≤ left_by_at output n f

-- the record is in the turn of its port, by the limits there
in_turn : (w : Watch) (t : Content) (row : PortRow) (n : Numbered) (o : Output) → port_row t row.id ≡ Some row → o.port ≡ row.id → IsLimited w t o.port o.limits → left_by n o ≡ due_of w row n
in_turn w t row n o is_row number limited =
    let same : Some limited.row ≡ Some row = sym limited.is_row ∙ ap (λ (port : ℕ). port_row t port) number ∙ is_row in
    let row_is : limited.row ≡ row = cc in
    let speed : o.limits.speed ≡ row.speed = limited.speed ∙ ap (λ (p : PortRow). p.speed) row_is in
    ap (λ (gap : ℕ). n.frame.stamp + gap * tick_of o.limits.speed + o.limits.tolerance) limited.gap
    ∙ ap (λ (speed : Speed). n.frame.stamp + w.gap * tick_of speed + o.limits.tolerance) speed
    ∙ ap (λ (tolerance : ℕ). n.frame.stamp + w.gap * tick_of row.speed + tolerance) limited.tolerance

abbrev link_in : Option (ℕ × ℕ) → ℕ
link_in None = 0
link_in (Some (link, output)) = link

abbrev output_in : Option (ℕ × ℕ) → ℕ
output_in None = 0
output_in (Some (link, output)) = output

led_by : (link at output : ℕ) (place : Option ℕ) → led_to link place ≡ Some (at, output) → (link ≡ at) × (place ≡ Some output)
led_by link at output None is = absurd (let never = is in cc)
led_by link at output (Some place) is = (ap (λ (o : Option (ℕ × ℕ)). link_in o) is, ap (λ (o : Option (ℕ × ℕ)). Some (output_in o)) is)

led : (port link at output : ℕ) (f : Watched) → led_to link (position (λ o. o.port == port) f.outputs) ≡ Some (at, output) → (link ≡ at) × (position (λ o. o.port == port) f.outputs ≡ Some output)
led port link at output f is = led_by link at output (position (λ o. o.port == port) f.outputs) is

pub among : (port link output at : ℕ) (of : Option Watched) → output_among port at of ≡ Some (link, output)
    → (f : Watched) × (of ≡ Some f) × (at ≡ link) × (position (λ o. o.port == port) f.outputs ≡ Some output)
among port link output at None is = absurd (let never = is in cc)
among port link output at (Some f) is = (let by = led port at link output f is in (f, refl, by.0, by.1))

pub among_links : (port link output : ℕ) (links : List Watched) (at : Option ℕ) → link_among port links at ≡ Some (link, output)
    → (f : Watched) × (slice_get links link ≡ Some f) × (position (λ o. o.port == port) f.outputs ≡ Some output)
among_links port link output links None is = absurd (let never = is in cc)
among_links port link output links (Some at) is =
    let by = among port link output at (slice_get links at) is in
    (by.0, ap (λ (k : ℕ). slice_get links k) (sym by.2) ∙ by.1, by.3)

pub may_leave : PortsAreFound → (c : Comparison) (s : Source) (n : Numbered) (link output : ℕ) → IsSound c → (turn : IsInTurn s n c)
    → has_record c.watch n.frame.stamp ≡ true → link_at s.port n.frame.bytes c ≡ Some (link, output) → MayLeave link output (due_of c.watch turn.row n) n c
may_leave ports c s n link output sound turn counts is =
    let by = among_links s.port link output c.links (place_of_named c.table n.frame.bytes) is in
    let f = by.0 in
    let o = at_port s.port f.outputs output by.2 in
    let within = slice_get_within c.links link f by.1 in
    let l = get_there c.table.links link (subst (λ (k : ℕ). link < k) sound.many_links within) in
    let limited = all_at (λ (x : Output). IsLimited c.watch c.table x.port x.limits) f.outputs output o.0 o.1 (sound.each link l.0 f l.1 by.1).outputs in
    let is_row = ports c.table sound.formed turn.row (item_contained c.table.ports s.place turn.row turn.there) in
    let due : left_by n o.0 ≡ due_of c.watch turn.row n = in_turn c.watch c.table turn.row n o.0 is_row (o.2 ∙ sym turn.number) limited in
    let le : f.latest ≤ due_of c.watch turn.row n = all_at (λ (x : Watched). x.latest ≤ due_of c.watch turn.row n) c.links link f by.1 (turn.in_order counts) in
    let at : left_by_at output n f ≡ due_of c.watch turn.row n = ap (λ (one : Option Output). option_map_or (λ x. left_by n x) one 0) o.1 ∙ due in
    record {
      within = within;
      place = λ g get. subst (λ (x : Watched). output < length x.outputs) (same_get c.links link f g by.1 get) (slice_get_within f.outputs output o.0 o.1);
      due = λ g get. subst (λ (x : Watched). left_by_at output n x ≡ due_of c.watch turn.row n) (same_get c.links link f g by.1 get) at;
      in_order = λ g get. subst (λ (x : Watched). x.latest ≤ left_by_at output n x) (same_get c.links link f g by.1 get) (subst (λ (k : ℕ). f.latest ≤ k) (sym at) le);
    }
