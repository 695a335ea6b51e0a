-- Frames on their way: what is known of them stays known as more is sent, and as more is known.
use Rattle.std.proofs.Common.{◌≡◌, ℕ, suc, ◌<◌, ◌+◌, List, [], ◌∷◌, ◌++◌, length, set, get_or, slice_get, Some, refl, ap, sym, ◌∙◌, subst, arith, inl, inr}
use Rattle.std.proofs.Common.{get_or-set_same, get_or-set_other}
use Rattle.std.specs.Prelude.{All, Contains}
use Rattle.std.proofs.lemmas.Bool.{cases_eq}
use Rattle.std.proofs.lemmas.List.{length-set}
use Rattle.std.proofs.lemmas.List.Elements.{All-weaker, All-push, All-contains}
use Rattle.std.proofs.lemmas.Option.{same_Some}
use Rattle.afdx_port.specs.declared.Sent.{Sent}
use Rattle.afdx_table.specs.Link.{Link}
use Rattle.afdx_table.specs.Content.{Content}
use Rattle.afdx_wiring.specs.declared.layout.Wire.{Wire}
use Rattle.afdx_network_check.specs.Net.{Network, Row, wire_to, row_at}
use Rattle.afdx_origins.specs.declared.departure.Departure.{Departure}
use Rattle.afdx_origins.specs.declared.at_link.Coming.{Coming}
use Rattle.afdx_origins.specs.declared.at_link.AtLink.{AtLink}
use Rattle.afdx_origins.specs.declared.at_switch.AtSwitch.{AtSwitch}
use Rattle.afdx_origins.specs.Origins.{CameFirst, sent_from, of_link}
use Rattle.afdx_origins.specs.Inner.Known.{IsOnItsWay, IsRowAt, IsComing, AreComing, Leaves, HasJoined, HasComing, KeepDelays, delays_in}
use Rattle.afdx_origins.proofs.Copies.{still_left, still_first}
use Rattle.afdx_origins.proofs.Rows.{row_behind, same_table}

-- ---- as more is sent

still_on : (net : Network) (all : List Departure) (d : Departure) (r : Row) (c : Coming) → IsOnItsWay net all r c → IsOnItsWay net (all ++ d ∷ []) r c
still_on net all d r c h = record {
  wire = h.wire;
  row = h.row;
  copy = h.copy;
  wire_is = h.wire_is;
  row_is = h.row_is;
  left = still_left all d r.link.id h.wire.from h.copy h.left;
  at_is = h.at_is;
  first = still_first net all d h.row h.copy c.first h.first;
}

pub still_coming : (net : Network) (all : List Departure) (d : Departure) (switches : List AtSwitch) → AreComing net all switches → AreComing net (all ++ d ∷ []) switches
still_coming net all d switches h = record {
  many = h.many;
  each = λ n t s is.
      let at = h.each n t s is in
      record {
        formed = at.formed;
        many = at.many;
        each = λ place l a there.
            let r : Row = record { switch = n; link = l } in
            All-weaker (IsOnItsWay net all r) (IsOnItsWay net (all ++ d ∷ []) r) (λ c way. still_on net all d r c way)
            (get_or (get_or switches n s).links.items place a).coming.items (at.each place l a there);
      };
}

-- ---- where a frame came from

-- the frame that came at an instant for a row, over a wire, had come first when it is known to
pub known_first : (net : Network) (all : List Departure) (r : Row) (x : Sent) (cs : List Coming) (first : ℕ) → All (IsOnItsWay net all r) cs
    → Contains cs (record { at = x.item.stamp; first = first }) → CameFirst net all r x first
known_first net all r x cs first known has =
    let way = All-contains (IsOnItsWay net all r) cs (record { at = x.item.stamp; first = first }) known has in (
      record { wire = way.wire; row = way.row; copy = way.copy } ∷ way.first.0,
      (way.wire_is, way.row_is, way.left, way.at_is, way.first.1),
    )

-- ---- as more is known

joined : (net : Network) (all : List Departure) (r : Row) (c : Coming) (old new : List Coming) → HasJoined c old new → All (IsOnItsWay net all r) old → IsOnItsWay net all r c
    → All (IsOnItsWay net all r) new
joined net all r c old new h known here =
    let P = IsOnItsWay net all r in
    subst (All P) (sym h.is) (All-push P h.kept c (kept h.gone h.kept (subst (All P) h.was known)) here) where
      kept : (gone rest : List Coming) → All (IsOnItsWay net all r) (gone ++ rest) → All (IsOnItsWay net all r) rest
      kept [] rest known = known
      kept (g ∷ gone) rest known = kept gone rest (λ k d lt. known (suc k) d (omega (arith, lt)))

-- a copy that left goes over a wire to a row
pub comes_over : (net : Network) (all : List Departure) (w : Wire) (link end first place : ℕ) (l : Link) → wire_to net w.to ≡ Some w → Leaves net all w.from link end first
    → IsRowAt net w.to.switch link place l → l.from ≡ w.to.port → (at : ℕ) → end + w.delay ≡ at
    → IsOnItsWay net all (record { switch = w.to.switch; link = l }) (record { at = at; first = first })
comes_over net all w link end first place l first_to leaves is from at at_is = record {
  wire = w;
  row = leaves.row;
  copy = leaves.copy;
  wire_is = ap (λ n. wire_to net (record { switch = w.to.switch; port = n })) from ∙ first_to;
  row_is = row_behind net l.id w leaves.row (ap (λ n. row_at net w.from.switch n) is.number ∙ leaves.row_is) leaves.leads;
  left = subst (λ n. Contains (of_link n (sent_from all w.from)) leaves.copy) (sym is.number) leaves.left;
  at_is = ap (λ n. n + w.delay) leaves.end_is ∙ at_is;
  first = leaves.came;
}

-- one frame more at one switch
pub comes_more : (net : Network) (all : List Departure) (w : Wire) (link end first place : ℕ) (l : Link) (at : ℕ) (old : List AtSwitch) (s : AtSwitch) → wire_to net w.to ≡ Some w
    → IsRowAt net w.to.switch link place l → l.from ≡ w.to.port → end + w.delay ≡ at → w.to.switch < length old
    → ((d : AtSwitch) → HasComing place (record { at = at; first = first }) (get_or old w.to.switch d).links.items s.links.items)
    → Leaves net all w.from link end first → AreComing net all old → AreComing net all (set old w.to.switch s)
comes_more net all w link end first place l at old s first_to is from at_is within added leaves h = record {
  many = length-set old w.to.switch s ∙ h.many;
  each = λ n t d there. elim (cases_eq n w.to.switch) [
    | inl here ↦ subst (λ (x : AtSwitch). IsComing net all n t x) (sym (ap (λ k. get_or (set old w.to.switch s) k d) here ∙ get_or-set_same old w.to.switch s d within)) (grown n t d here there)
    | inr other ↦ subst (λ (x : AtSwitch). IsComing net all n t x) (sym (get_or-set_other old w.to.switch n s d other)) (h.each n t d there)
  ];
} where
  c : Coming
  c = record { at = at; first = first }

  grown : (n : ℕ) (t : Content) (d : AtSwitch) → n ≡ w.to.switch → slice_get net.tables n ≡ Some t → IsComing net all n t s
  grown n t d here there = record {
    formed = was.formed;
    many = more.long ∙ ap (λ (x : AtSwitch). length x.links.items) (ap (λ k. get_or old k d) (sym here)) ∙ was.many;
    each = λ k m a is_link. elim (cases_eq k place) [
      | inl same ↦ joined net all (record { switch = n; link = m }) c (get_or was_links k a).coming.items (get_or s.links.items k a).coming.items
          (subst (λ i. HasJoined c (get_or was_links i a).coming.items (get_or s.links.items i a).coming.items) (sym same) (more.here a)) (known k m a is_link)
          (subst (λ (x : Link). IsOnItsWay net all (record { switch = n; link = x }) c) (row k m same is_link) (subst (λ i. IsOnItsWay net all (record { switch = i; link = l }) c) (sym here) over))
      | inr differ ↦ subst (λ (x : AtLink). All (IsOnItsWay net all (record { switch = n; link = m })) x.coming.items) (sym (more.others k a differ)) (known k m a is_link)
    ];
  } where
    was : IsComing net all n t (get_or old n d)
    was = h.each n t d there

    was_links : List AtLink
    was_links = (get_or old w.to.switch d).links.items

    more : HasComing place c was_links s.links.items
    more = added d

    over : IsOnItsWay net all (record { switch = w.to.switch; link = l }) c
    over = comes_over net all w link end first place l first_to leaves is from at at_is

    known : (k : ℕ) (m : Link) (a : AtLink) → slice_get t.links k ≡ Some m → All (IsOnItsWay net all (record { switch = n; link = m })) (get_or was_links k a).coming.items
    known k m a is_link = subst (λ (x : AtSwitch). All (IsOnItsWay net all (record { switch = n; link = m })) (get_or x.links.items k a).coming.items) (ap (λ i. get_or old i d) here)
        (was.each k m a is_link)

    row : (k : ℕ) (m : Link) → k ≡ place → slice_get t.links k ≡ Some m → l ≡ m
    row k m same is_link =
        let table = same_table net w.to.switch is.table t is.table_is (ap (λ i. slice_get net.tables i) (sym here) ∙ there) in
        same_Some l m (sym is.at ∙ ap (λ (u : Content). slice_get u.links place) table ∙ ap (slice_get t.links) (sym same) ∙ is_link)

-- ---- the delays stay

pub keep_same : (switches : List AtSwitch) → KeepDelays switches switches
keep_same switches = record { many = refl; delays = λ n k s a. refl }

pub keep_on : (old over new : List AtSwitch) → KeepDelays old over → KeepDelays over new → KeepDelays old new
keep_on old over new one more = record { many = more.many ∙ one.many; delays = λ n k s a. more.delays n k s a ∙ one.delays n k s a }

-- where one frame more is known at one switch
pub keep_coming : (place : ℕ) (c : Coming) (switch : ℕ) (old : List AtSwitch) (s : AtSwitch) → switch < length old
    → ((d : AtSwitch) → HasComing place c (get_or old switch d).links.items s.links.items) → KeepDelays old (set old switch s)
keep_coming place c switch old s within added = record {
  many = length-set old switch s;
  delays = λ n k d a. elim (cases_eq n switch) [
    | inl here ↦
        ap (λ i. delays_in (set old switch s) d a i k) here
        ∙ ap (λ (x : AtSwitch). (get_or x.links.items k a).delays.items) (get_or-set_same old switch s d within)
        ∙ of_link_here k d a
        ∙ ap (λ i. delays_in old d a i k) (sym here)
    | inr other ↦ ap (λ (x : AtSwitch). (get_or x.links.items k a).delays.items) (get_or-set_other old switch n s d other)
  ];
} where
  of_link_here : (k : ℕ) (d : AtSwitch) (a : AtLink) → (get_or s.links.items k a).delays.items ≡ delays_in old d a switch k
  of_link_here k d a = elim (cases_eq k place) [
    | inl same ↦ subst (λ i. (get_or s.links.items i a).delays.items ≡ delays_in old d a switch i) (sym same) (ap (λ v. v.items) ((added d).delays a))
    | inr differ ↦ ap (λ (x : AtLink). x.delays.items) ((added d).others k a differ)
  ]
