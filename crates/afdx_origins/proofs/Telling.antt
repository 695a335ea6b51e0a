-- Frames that came over wires are held until they are past.
use Rattle.std.proofs.Common.{◌≡◌, ℕ, suc, ◌<◌, ◌+◌, ◌==◌, Bool, true, false, cond, List, [], ◌∷◌, ◌++◌, find, length, set, get_or, slice_get, Some, None, Result, Ok, Err}
use Rattle.std.proofs.Common.{refl, ap, sym, ◌∙◌, subst, arith, inl, inr, get_or-set_same, get_or-set_other}
use Rattle.std.specs.Prelude.{Contains, OnErr, OnOk, position}
use Rattle.std.specs.Result.{is_err}
use Rattle.std.proofs.lemmas.Bool.{cases_Bool, cases_eq, eq-eqb, ne_eqb}
use Rattle.std.proofs.lemmas.List.Elements.{All-contains, Contains-push, Contains-push_cases, Contains-append_left, Contains-append_cases}
use Rattle.std.proofs.lemmas.List.Quantifiers.{position-Some}
use Rattle.std.proofs.lemmas.Option.{same_Some, slice_get_within, get_or_from_slice_get}
use Rattle.std.proofs.lemmas.Slice.Zip.{AllZip-long}
use Rattle.afdx_port.specs.declared.Sent.{Sent}
use Rattle.afdx_table.specs.Link.{Link}
use Rattle.afdx_wiring.specs.declared.layout.End.{End}
use Rattle.afdx_wiring.specs.declared.layout.Wire.{Wire}
use Rattle.afdx_wiring.specs.File.{is_end}
use Rattle.afdx_network_check.specs.Net.{Network, wire_to, row_at}
use Rattle.afdx_origins.specs.declared.departure.Departure.{Departure}
use Rattle.afdx_origins.specs.declared.at_link.Coming.{Coming}
use Rattle.afdx_origins.specs.declared.at_link.AtLink.{AtLink}
use Rattle.afdx_origins.specs.declared.at_switch.AtSwitch.{AtSwitch}
use Rattle.afdx_origins.specs.declared.fault.OriginsFault.{OriginsFault}
use Rattle.afdx_origins.specs.declared.fault.OriginsFault.TheVariants as fault
use Rattle.afdx_measure.specs.declared.delays.Delays.{Delays}
use Rattle.afdx_measure.specs.Delays.{summary_of}
use Rattle.afdx_origins.specs.Origins.{Origins, sent_from, of_link, kept_for, IsDelay, IsForgotten, IsNotNoted, IsSummary}
use Rattle.afdx_origins.specs.Inner.Known.{IsRowAt, AreComing, AreTold, HaveDelays, KeepDelays, HaveDelayMore, HasJoined, HasComing, IsHeld, HasCome}
use Rattle.afdx_origins.specs.Inner.Known.{NoneCame, StayHeld, IsCarried, IsNotCarried, IsFull, Leaves, coming_in, delays_in}
use Rattle.afdx_origins.proofs.Found.{element_at}
use Rattle.afdx_origins.proofs.Copies.{copies_more, one_more, none_there, none_own, still_left}
use Rattle.afdx_origins.proofs.Rows.{one_place, one_row, one_number, same_end, end_same}

-- what is found in a list is there, and passes
pub found_is : {X : Type 0} (p : X → Bool) (xs : List X) (x : X) → find p xs ≡ Some x → Contains xs x × (p x ≡ true)
found_is p [] x is = absurd cc
found_is {X} p (y ∷ ys) x is = by (λ more. found_is p ys x more) (p y) refl is where
  by : (find p ys ≡ Some x → Contains ys x × (p x ≡ true)) → (b : Bool) → p y ≡ b → cond b (Some y) (find p ys) ≡ Some x → Contains (y ∷ ys) x × (p x ≡ true)
  by rest true passes e = let same = same_Some y x e in ((0, omega arith, same), subst (λ (z : X). p z ≡ true) same passes)
  by rest false misses e = let more = rest e in let lt = more.0.1 in ((suc more.0.0, omega (arith, lt), more.0.2), more.1)

-- ---- as more is sent

still_held : (all : List Departure) (d : Departure) (link : ℕ) (w : Wire) (frames : List Coming) (at : ℕ) → IsHeld all link w frames at → IsHeld (all ++ d ∷ []) link w frames at
still_held all d link w frames at (inl held) = inl held
still_held all d link w frames at (inr gone) = inr (gone.0, still_left all d link w.from gone.0 gone.1, gone.2)

-- ---- one frame more of a link

-- those that were held are held, though some are past
joined_held : (all : List Departure) (link : ℕ) (w : Wire) (c : Coming) (x : Sent) (old new : List Coming) (at : ℕ) → HasJoined c old new → Contains (of_link link (sent_from all w.from)) x
    → x.end + w.delay ≡ c.at → IsHeld all link w old at → IsHeld all link w new at
joined_held all link w c x old new at h left is (inr gone) = inr gone
joined_held all link w c x old new at h left is (inl held) =
    let frame : Coming = record { at = at; first = held.0 } in
    elim (Contains-append_cases h.gone h.kept frame (subst (λ (xs : List Coming). Contains xs frame) h.was held.1)) [
      | inl past ↦ inr (x, left, let lt : at + kept_for < c.at = All-contains (λ (y : Coming). y.at + kept_for < c.at) h.gone frame h.past past in omega (arith, lt, is))
      | inr stays ↦ inl (held.0, subst (λ (xs : List Coming). Contains xs frame) (sym h.is) (Contains-append_left h.kept (c ∷ []) frame stays))
    ]

-- and so is it
joined_here : (all : List Departure) (link : ℕ) (w : Wire) (at first : ℕ) (old new : List Coming) → HasJoined (record { at = at; first = first }) old new → IsHeld all link w new at
joined_here all link w at first old new h =
    let frame : Coming = record { at = at; first = first } in
    inl (first, subst (λ (xs : List Coming). Contains xs frame) (sym h.is) (Contains-push h.kept frame))

-- ---- a frame that comes over a wire

module _ (net : Network) (all : List Departure) (w : Wire) (link end first place : ℕ) (l : Link) (at : ℕ) (old : List AtSwitch) (s : AtSwitch)
    (first_to : wire_to net w.to ≡ Some w) (is : IsRowAt net w.to.switch link place l) (from : l.from ≡ w.to.port) (at_is : end + w.delay ≡ at) (within : w.to.switch < length old)
    (added : (d : AtSwitch) → HasComing place (record { at = at; first = first }) (get_or old w.to.switch d).links.items s.links.items) where
  pub come_here : HasCome net all link w (end + w.delay) (set old w.to.switch s)
  come_here k m d a row port =
      let k_is : place ≡ k = one_place net w.to.switch link place k l m is row in
      let joined = (added d).here a in
      subst (λ (x : AtSwitch). IsHeld all link w (get_or x.links.items k a).coming.items (end + w.delay)) (sym (get_or-set_same old w.to.switch s d within))
      (subst (λ (i : ℕ). IsHeld all link w (get_or s.links.items i a).coming.items (end + w.delay)) k_is
      (subst (IsHeld all link w (get_or s.links.items place a).coming.items) (sym at_is)
      (joined_here all link w at first (get_or (get_or old w.to.switch d).links.items place a).coming.items (get_or s.links.items place a).coming.items joined)))

  module _ (leaves : Leaves net all w.from link end first) where
    -- of the link at a place of the switch
    held_here : (number k : ℕ) (m : Link) (d : AtSwitch) (a : AtLink) (v : Wire) (t : ℕ) → IsRowAt net w.to.switch number k m
        → wire_to net (record { switch = w.to.switch; port = m.from }) ≡ Some v → IsHeld all number v (coming_in old d a w.to.switch k) t
        → IsHeld all number v (get_or s.links.items k a).coming.items t
    held_here number k m d a v t row wire held = elim (cases_eq k place) [
      | inr differ ↦ subst (λ (x : AtLink). IsHeld all number v x.coming.items t) (sym ((added d).others k a differ)) held
      | inl same ↦
          let own : IsRowAt net w.to.switch number place m = subst (λ (i : ℕ). IsRowAt net w.to.switch number i m) same row in
          let number_is : link ≡ number = one_number net w.to.switch link number place l m is own in
          let port : m.from ≡ w.to.port = ap (λ (x : Link). x.from) (sym (one_row net w.to.switch link number place l m is own)) ∙ from in
          let wire_is : w ≡ v = same_Some w v (sym first_to ∙ sym (ap (λ p. wire_to net (record { switch = w.to.switch; port = p })) port) ∙ wire) in
          let left = subst (λ (i : Wire). Contains (of_link number (sent_from all i.from)) leaves.copy) wire_is
          (subst (λ (i : ℕ). Contains (of_link i (sent_from all w.from)) leaves.copy) number_is leaves.left) in
          let at_there = ap (λ (i : Wire). leaves.copy.end + i.delay) (sym wire_is) ∙ ap (λ n. n + w.delay) leaves.end_is ∙ at_is in
          subst (λ (i : ℕ). IsHeld all number v (get_or s.links.items i a).coming.items t) (sym same)
          (joined_held all number v (record { at = at; first = first }) leaves.copy (get_or (get_or old w.to.switch d).links.items place a).coming.items (get_or s.links.items place a).coming.items t
          ((added d).here a) left at_there (subst (λ (i : ℕ). IsHeld all number v (coming_in old d a w.to.switch i) t) same held))
    ]

    pub stay_held : StayHeld net all old (set old w.to.switch s)
    stay_held = record { each = each } where
      each : (n number k : ℕ) (m : Link) (d : AtSwitch) (a : AtLink) (v : Wire) (t : ℕ) → IsRowAt net n number k m → wire_to net (record { switch = n; port = m.from }) ≡ Some v
          → IsHeld all number v (coming_in old d a n k) t → IsHeld all number v (coming_in (set old w.to.switch s) d a n k) t
      each n number k m d a v t row wire held = elim (cases_eq n w.to.switch) [
        | inr other ↦ subst (λ (x : AtSwitch). IsHeld all number v (get_or x.links.items k a).coming.items t) (sym (get_or-set_other old w.to.switch n s d other)) held
        | inl same ↦ subst (λ (x : AtSwitch). IsHeld all number v (get_or x.links.items k a).coming.items t)
            (sym (ap (λ (i : ℕ). get_or (set old w.to.switch s) i d) same ∙ get_or-set_same old w.to.switch s d within))
            (held_here number k m d a v t (subst (λ (i : ℕ). IsRowAt net i number k m) same row)
            (subst (λ (i : ℕ). wire_to net (record { switch = i; port = m.from }) ≡ Some v) same wire) (subst (λ (i : ℕ). IsHeld all number v (coming_in old d a i k) t) same held))
      ]

-- ---- nothing comes

pub stay_same : (net : Network) (all : List Departure) (switches : List AtSwitch) → StayHeld net all switches switches
stay_same net all switches = record { each = λ n number k m s a w t row wire held. held }

pub stay_on : (net : Network) (all : List Departure) (old over new : List AtSwitch) → StayHeld net all old over → StayHeld net all over new → StayHeld net all old new
stay_on net all old over new one more =
    record { each = λ n number k m s a w t row wire held. more.each n number k m s a w t row wire (one.each n number k m s a w t row wire held) }

pub come_still : (net : Network) (all : List Departure) (link : ℕ) (w : Wire) (at : ℕ) (old new : List AtSwitch) → wire_to net w.to ≡ Some w → StayHeld net all old new
    → HasCome net all link w at old → HasCome net all link w at new
come_still net all link w at old new first_to stay come = λ k m s a row port.
    stay.each w.to.switch link k m s a w at row (ap (λ p. wire_to net (record { switch = w.to.switch; port = p })) port ∙ first_to) (come k m s a row port)

-- the next wire of all
pub come_next : (net : Network) (all : List Departure) (e : End) (link end : ℕ) (wires : List Wire) (i : ℕ) (d : Wire) (new : List AtSwitch)
    → (is_end (get_or wires i d).from e ≡ true → wire_to net (get_or wires i d).to ≡ Some (get_or wires i d) → HasCome net all link (get_or wires i d) (end + (get_or wires i d).delay) new)
    → (w : Wire) → slice_get wires i ≡ Some w → is_end w.from e ≡ true → wire_to net w.to ≡ Some w → HasCome net all link w (end + w.delay) new
come_next net all e link end wires i d new come w is here first_to =
    subst (λ (v : Wire). is_end v.from e ≡ true → wire_to net v.to ≡ Some v → HasCome net all link v (end + v.delay) new) (get_or_from_slice_get wires i w d is) come here first_to

-- no row of the link is there
pub no_row_there : (net : Network) (all : List Departure) (link : ℕ) (w : Wire) (at : ℕ) (switches : List AtSwitch) → row_at net w.to.switch link ≡ None → HasCome net all link w at switches
no_row_there net all link w at switches none = λ k m s a row port. absurd (let found = row.found in (cc))

-- ---- what is held is found, or past

pub untold : (all : List Departure) (link : ℕ) (w : Wire) (frames : List Coming) (at : ℕ) (x : Sent) → NoneCame frames at → x.end + w.delay ≡ at → IsHeld all link w frames (x.end + w.delay)
    → IsForgotten all link w at
untold all link w frames at x none is (inl held) = absurd (none held.0 (subst (λ (t : ℕ). Contains frames (record { at = t; first = held.0 })) is held.1))
untold all link w frames at x none is (inr gone) = subst (IsForgotten all link w) is gone

-- ---- a copy is noted

-- a delay that is noted changes no frames
pub frames_stay : (switch place port delay : ℕ) (old new : List AtSwitch) → HaveDelayMore switch place port delay old new → (n k : ℕ) (s : AtSwitch) (a : AtLink)
    → coming_in new s a n k ≡ coming_in old s a n k
frames_stay switch place port delay old new more n k s a = elim (cases_eq n switch) [
  | inr other ↦ ap (λ (x : AtSwitch). (get_or x.links.items k a).coming.items) (more.others n s other)
  | inl same ↦ subst (λ (i : ℕ). coming_in new s a i k ≡ coming_in old s a i k) (sym same) here
] where
  here : coming_in new s a switch k ≡ coming_in old s a switch k
  here = elim (cases_eq k place) [
    | inr other ↦ ap (λ (x : AtLink). x.coming.items) ((more.here s).others k a other)
    | inl at ↦ subst (λ (i : ℕ). coming_in new s a switch i ≡ coming_in old s a switch i) (sym at) (ap (λ c. c.items) ((more.here s).coming a))
  ]

-- what is one more of a link at the start of a wire
record IsNew (d : Departure) (link : ℕ) (w : Wire) (x : Sent) : Type 0 where
  from : d.from ≡ w.from
  own : d.copy.item.link ≡ link
  copy : d.copy ≡ x

new_one : (d : Departure) (link : ℕ) (w : Wire) (x : Sent) → Contains (of_link link (sent_from (d ∷ []) w.from)) x → IsNew d link w x
new_one d link w x has = elim (cases_Bool (is_end d.from w.from)) [
  | inr other ↦ absurd (nothing (subst (λ (xs : List Sent). Contains xs x) (none_there d link w.from other) has))
  | inl here ↦ elim (cases_eq d.copy.item.link link) [
    | inr other ↦ absurd (nothing (subst (λ (xs : List Sent). Contains xs x) (none_own d link w.from (ne_eqb d.copy.item.link link other)) has))
    | inl own ↦
        let one = one_more d link w.from here (eq-eqb d.copy.item.link link own) in
        record { from = same_end d.from w.from here; own = own; copy = alone d.copy (subst (λ (xs : List Sent). Contains xs x) one has) }
  ]
] where
  nothing : Contains [] x → ⊥
  nothing h = let lt = h.1 in omega (arith, lt)

  alone : (y : Sent) → Contains (y ∷ []) x → y ≡ x
  alone y h = elim (Contains-push_cases [] y x h) [ inl none ↦ absurd (nothing none) | inr same ↦ same ]

-- all that was told is held, with one copy more
pub told_more : (net : Network) (all : List Departure) (d : Departure) (old over new : List AtSwitch) → ((n k : ℕ) (s : AtSwitch) (a : AtLink) → coming_in new s a n k ≡ coming_in over s a n k)
    → IsCarried net (all ++ d ∷ []) d.from d.copy.item.link d.copy.end old over → AreTold net all old → AreTold net (all ++ d ∷ []) new
told_more net all d old over new frames carried told = record { each = each } where
  more : List Departure
  more = all ++ d ∷ []

  -- that one
  that : (n number k : ℕ) (m : Link) (s : AtSwitch) (a : AtLink) (w : Wire) (x : Sent) → IsRowAt net n number k m → wire_to net (record { switch = n; port = m.from }) ≡ Some w → IsNew d number w x
      → IsHeld more number w (coming_in over s a n k) (x.end + w.delay)
  that n number k m s a w x row wire new_is =
      let e : End = record { switch = n; port = m.from } in
      let to_is : w.to ≡ e = same_end w.to e (found_is (λ (v : Wire). is_end v.to e) net.layout.wires w wire).1 in
      let switch_is : w.to.switch ≡ n = ap (λ (i : End). i.switch) to_is in
      let port_is : m.from ≡ w.to.port = ap (λ (i : End). i.port) (sym to_is) in
      let from_is : is_end w.from d.from ≡ true
      = subst (λ (i : End). is_end i d.from ≡ true) new_is.from (end_same d.from d.from.switch d.from.port refl refl) in
      let own : IsRowAt net w.to.switch d.copy.item.link k m
      = subst (λ (i : ℕ). IsRowAt net i d.copy.item.link k m) (sym switch_is) (subst (λ (i : ℕ). IsRowAt net n i k m) (sym new_is.own) row) in
      let held : IsHeld more d.copy.item.link w (coming_in over s a w.to.switch k) (d.copy.end + w.delay)
      = carried.come w from_is (ap (wire_to net) to_is ∙ wire) k m s a own port_is in
      subst (λ (y : Sent). IsHeld more number w (coming_in over s a n k) (y.end + w.delay)) new_is.copy
      (subst (λ (i : ℕ). IsHeld more i w (coming_in over s a n k) (d.copy.end + w.delay)) new_is.own
      (subst (λ (i : ℕ). IsHeld more d.copy.item.link w (coming_in over s a i k) (d.copy.end + w.delay)) switch_is held))

  each : (n number k : ℕ) (m : Link) (s : AtSwitch) (a : AtLink) (w : Wire) (x : Sent) → IsRowAt net n number k m → wire_to net (record { switch = n; port = m.from }) ≡ Some w
      → Contains (of_link number (sent_from more w.from)) x → IsHeld more number w (coming_in new s a n k) (x.end + w.delay)
  each n number k m s a w x row wire has =
      subst (λ (cs : List Coming). IsHeld more number w cs (x.end + w.delay)) (sym (frames n k s a))
      (elim (Contains-append_cases (of_link number (sent_from all w.from)) (of_link number (sent_from (d ∷ []) w.from)) x
      (subst (λ (xs : List Sent). Contains xs x) (copies_more all d number w.from) has)) [
        | inl before ↦ carried.stay.each n number k m s a w (x.end + w.delay) row wire
            (still_held all d number w (coming_in old s a n k) (x.end + w.delay) (told.each n number k m s a w x row wire before))
        | inr now ↦ that n number k m s a w x row wire (new_one d number w x now)
      ])

-- ---- what is not noted

-- why a copy is not noted whose frame is not carried over the wires
pub not_carried : (o : Origins) (e : End) (x : Sent) (why : OriginsFault) → IsNotCarried o.net e x.end why → IsNotNoted o e x why
not_carried o e x fault.Memory is = tt
not_carried o e x fault.Unknown is = absurd is
not_carried o e x fault.Late is = is
not_carried o e x fault.Count is = absurd is

-- what a call says of its error
pub at_error : {T E : Type 0} (P : Type 0) (r : Result T E) → OnErr r P → is_err r ≡ true → P
at_error P (Ok x) says is = absurd (let never = is in (cc))
at_error P (Err e) says is = says

pub at_success : {T E : Type 0} (P : Type 0) (r : Result T E) → OnOk r P → is_err r ≡ false → P
at_success P (Ok x) says is = says
at_success P (Err e) says is = absurd (let never = is in (cc))

-- how many copies of a link a port sent
counted : (net : Network) (all : List Departure) (link : ℕ) (e : End) (d : Delays) → IsSummary net all link e d → d.count ≡ length (of_link link (sent_from all e))
counted net all link e d is = ap (λ (x : Delays). x.count) is.2 ∙ AllZip-long (IsDelay net all link e) (of_link link (sent_from all e)) is.0 is.1

pub sent_all : (net : Network) (all more : List Departure) (switch link place port at : ℕ) (l : Link) (old over : List AtSwitch) → HaveDelays net all old → KeepDelays old over
    → AreComing net more over → IsRowAt net switch link place l → position (λ to. to == port) l.to ≡ Some at
    → IsFull switch place at over
    → length (of_link link (sent_from all (record { switch = switch; port = port }))) ≡ 18446744073709551615
sent_all net all more switch link place port at l old over h keep coming row there full =
    let in_tables = slice_get_within net.tables switch row.table row.table_is in
    let switches = coming.many in
    let within : switch < length over = omega (arith, in_tables, switches) in
    let s = element_at over switch within in
    let own = coming.each switch row.table s.0 row.table_is in
    let in_links = slice_get_within row.table.links place l row.at in
    let links = own.many in
    let place_within : place < length (get_or over switch s.0).links.items = omega (arith, in_links, links) in
    let a = element_at (get_or over switch s.0).links.items place place_within in
    let delays = keep.delays switch place s.0 a.0 in
    let in_ports = (position-Some (λ to. to == port) l.to at 0 there).0 in
    let long = ap length delays ∙ h.ports switch place link l s.0 a.0 row in
    let at_within : at < length (delays_in over s.0 a.0 switch place) = omega (arith, in_ports, long) in
    let d = summary_of [] in
    let summary = h.each switch place link port at l s.0 a.0 d row there in
    sym (ap (λ (ds : List Delays). (get_or ds at d).count) delays ∙ counted net all link (record { switch = switch; port = port }) (get_or (delays_in old s.0 a.0 switch place) at d) summary)
    ∙ full s.0 a.0 d within place_within at_within
