-- What calls on all switches do: a port after the other, a switch after the other, a window after the other.
use Rattle.std.proofs.Common.{◌≡◌, ◌<◌, ◌≤◌, ◌+◌, ℕ, false, List, [], ◌∷◌, map, length, slice_get, Option, Some, None, refl, ap, sym, ◌∙◌, arith, inl, inr, subst}
use Rattle.std.specs.Prelude.{All, slice_set}
use Rattle.std.specs.Option.{option_map}
use Rattle.std.specs.List.{AllByRecursion}
use Rattle.std.proofs.lemmas.Bool.{cases_eq}
use Rattle.std.proofs.lemmas.List.{length-map, length-set}
use Rattle.std.proofs.lemmas.List.Elements.{All-set}
use Rattle.std.proofs.lemmas.Option.{same_Some, slice_get-map, slice_get_within}
use Rattle.afdx_units.specs.Time.{last_second, last_instant, is_before}
use Rattle.afdx_pcap.specs.Record.{Record}
use Rattle.afdx_pcap.specs.Text.{capture_text}
use Rattle.afdx_table.specs.declared.rows.PortRow.{PortRow}
use Rattle.afdx_table.specs.Content.{Content}
use Rattle.afdx_core.specs.Merge.{Arrival}
use Rattle.afdx_core.specs.Inner.Merge.{ByStampIsOrdered}
use Rattle.afdx_session.specs.Texts.{Text}
use Rattle.afdx_session.specs.Inner.Early.{RecordsAreEarly}
use Rattle.afdx_session.specs.Streams.{AllStartBeforeTheLastInstant}
use Rattle.afdx_paced.specs.Paced.{Lane, Paced, captures_of, arrivals}
use Rattle.afdx_paced.specs.Laws.{OutGoesOn}
use Rattle.afdx_wiring.specs.declared.layout.End.{End}
use Rattle.afdx_network_check.specs.Net.{Network}
use Rattle.afdx_network.specs.Runs.{Given}
use Rattle.afdx_network.specs.Inner.Sites.{Site, end_at, left_texts, IsSite, HasSent, HasSentAt, HasCome, AreCarried, IsIn, AreInWindow, IsFirst, gone_at}
use Rattle.afdx_network.specs.Inner.Sites.{IsPortAt, WentTo, SendsOn, SendOn, Carries, Visits, after_hops, AreEarly}
use Rattle.afdx_network.proofs.Answering.{all_places}
use Rattle.afdx_network.proofs.Carried.{AreWritten}
use Rattle.afdx_network.proofs.Carries.{Going, KeepEarly}
use Rattle.afdx_network.proofs.InWindow.{at_site}
use Rattle.afdx_network.proofs.Lanes.{set_here, set_elsewhere}
use Rattle.afdx_network.proofs.LaneTexts.{texts_for, texts_read}
use Rattle.afdx_network.proofs.Places.{got_set, map_stays}
use Rattle.afdx_network.proofs.Readings.{merged_all}
use Rattle.afdx_network.proofs.Visiting.{all_stay, all_on, all_sent, sent_still, window_goes}
use Rattle.afdx_network.proofs.WindowEnds.{stays_away, still_come, all_quiet, all_started}

-- ---- all of them

pub both : (end : ℕ) (sites : List Site) → All (λ (s : Site). s.paced.failed ≡ false) sites → All (λ (s : Site). s.paced.reached ≤ end) sites
    → All (λ (s : Site). (s.paced.failed ≡ false) × (s.paced.reached ≤ end)) sites
both end sites going reached = λ i d lt. (going i d lt, reached i d lt)

-- ---- a port after the other

-- the capture at a place is of the table's port there
pub port_at_place : (net : Network) (given : Given) (switch : ℕ) (s : Site) (place : ℕ) → IsSite net given switch s
    → option_map (λ (x : Text). x.0) (slice_get s.left place) ≡ option_map (λ (p : PortRow). p.id) (slice_get s.paced.table.ports place)
port_at_place net given switch s place site =
    sym (slice_get-map (λ (x : Text). x.0) s.left place)
    ∙ ap (λ (ns : List ℕ). slice_get ns place) (ap (map (λ (x : Text). x.0)) site.running.left ∙ numbers s.paced.lanes ∙ site.running.ports)
    ∙ slice_get-map (λ (p : PortRow). p.id) s.paced.table.ports place where
      numbers : (lanes : List Lane) → map (λ (x : Text). x.0) (left_texts lanes) ≡ map (λ (l : Lane). l.port) lanes
      numbers [] = refl
      numbers (l ∷ lanes) = ap (λ (ns : List ℕ). l.port ∷ ns) (numbers lanes)

is_there : {X : Type 0} (f : X → ℕ) (o : Option X) (n : ℕ) → option_map f o ≡ Some n → (x : X) × (o ≡ Some x) × (f x ≡ n)
is_there f None n is = absurd cc
is_there f (Some x) n is = (x, refl, same_Some (f x) n is)

-- the capture is there where its number is
pub place_is : (sites : List Site) (s : Site) (switch port place : ℕ) → slice_get sites switch ≡ Some s → option_map (λ (x : Text). x.0) (slice_get s.left place) ≡ Some port
    → IsPortAt sites (end_at switch port) place
place_is sites s switch port place at is =
    let text = is_there (λ (x : Text). x.0) (slice_get s.left place) port is in
    record { site = s; at = at; text = text.0.1; text_is = text.1 ∙ ap (λ n. Some (n, text.0.1)) text.2 }

-- all has left the ports at the places before this one
abbrev pub HaveLeft : List Site → (switch place : ℕ) → Type 0
HaveLeft sites switch k = (s : Site) (place : ℕ) (p : PortRow) → slice_get sites switch ≡ Some s → place < k → slice_get s.paced.table.ports place ≡ Some p → HasSentAt (Some s.paced.reached) p.id s

pub port_left : (net : Network) (given : Given) (begin end switch port place : ℕ) (old new : List Site) (was : Site) → AreInWindow net given begin end old → SendOn end old new
    → slice_get old switch ≡ Some was → option_map (λ (x : Text). x.0) (slice_get was.left place) ≡ Some port
    → ((s : Site) → slice_get new switch ≡ Some s → HasSentAt (Some s.paced.reached) port s) → HaveLeft old switch place → HaveLeft new switch (place + 1)
port_left net given begin end switch port place old new was w on at number here before s k p is lt row = elim (cases_eq k place) [
  | inl same ↦
      let site = w.carried.are.each switch was at in
      let id : p.id ≡ port
      = same_Some p.id port
      (sym (ap (option_map (λ (q : PortRow). q.id)) (ap (slice_get was.paced.table.ports) (sym same) ∙ ap (λ (t : Content). slice_get t.ports k) (sym table) ∙ row))
      ∙ sym (port_at_place net given switch was place site) ∙ number) in
      subst (λ n. HasSentAt (Some s.paced.reached) n s) (sym id) (here s is)
  | inr other ↦
      let sent = before was k p at (omega (arith, lt, other)) (ap (λ (t : Content). slice_get t.ports k) (sym table) ∙ row) in
      sent_still end p.id was s (at_site (IsIn begin end) old switch was w.inside at).reached sent goes
] where
  there : (x : Site) × (slice_get old switch ≡ Some x) × SendsOn end x s
  there = on.each switch s is

  goes : SendsOn end was s
  goes = subst (λ (x : Site). SendsOn end x s) (same_Some there.0 was (sym there.1 ∙ at)) there.2

  table : s.paced.table ≡ was.paced.table
  table = goes.table

-- no port is at a place that has no capture
pub no_port : (net : Network) (given : Given) (begin end switch place : ℕ) (sites : List Site) (was : Site) → AreInWindow net given begin end sites → slice_get sites switch ≡ Some was
    → option_map (λ (x : Text). x.0) (slice_get was.left place) ≡ None → HaveLeft sites switch place → HaveLeft sites switch (place + 1)
no_port net given begin end switch place sites was w at none before s k p is lt row = elim (cases_eq k place) [
  | inl same ↦
      let here : s ≡ was = same_Some s was (sym is ∙ at) in
      absurd (differ
      (sym none ∙ port_at_place net given switch was place (w.carried.are.each switch was at)
      ∙ ap (option_map (λ (q : PortRow). q.id)) (ap (slice_get was.paced.table.ports) (sym same) ∙ ap (λ (x : Site). slice_get x.paced.table.ports k) (sym here) ∙ row)))
  | inr other ↦ before s k p is (omega (arith, lt, other)) row
] where
  differ : None ≡ Some p.id → ⊥
  differ e = cc

-- where all has left all ports of the switch, it was visited
pub all_ports_left : (net : Network) (given : Given) (begin end switch k : ℕ) (old went new : List Site) (was : Site) → AreInWindow net given begin end went → AreInWindow net given begin end new
    → went ≡ slice_set old switch was → slice_get went switch ≡ Some was → was.paced.reached ≡ end → SendOn end went new → length was.left ≤ k → HaveLeft new switch k
    → Visits net given begin end switch old new
all_ports_left net given begin end switch k old went new was first w is at reached on many left = record {
  window = w;
  others = λ n s other there.
      let middle = on.each n s there in
      (middle.0, sym (ap (λ (xs : List Site). slice_get xs n) is ∙ set_elsewhere old switch n was other) ∙ middle.1, middle.2);
  here = λ s there. here s there;
} where
  here : (s : Site) → slice_get new switch ≡ Some s → HasCome end s
  here s there = record {
    reached = omega (arith, come);
    sent = subst (λ n. HasSent (Some n) s) come (all_sent s site.running.left (λ place port text has. sent place port text has));
  } where
    middle : (x : Site) × (slice_get went switch ≡ Some x) × SendsOn end x s
    middle = on.each switch s there

    goes : SendsOn end was s
    goes = subst (λ (x : Site). SendsOn end x s) (same_Some middle.0 was (sym middle.1 ∙ at)) middle.2

    come : s.paced.reached ≡ end
    come = goes.reached ∙ reached

    site : IsSite net given switch s
    site = w.carried.are.each switch s there

    long : length was.left ≡ length was.paced.table.ports
    long =
        let running = (first.carried.are.each switch was at).running in
        ap length running.left ∙ length-map was.paced.lanes (λ (l : Lane). (l.port, capture_text l.left)) ∙ sym (length-map was.paced.lanes (λ (l : Lane). l.port)) ∙ ap length running.ports
        ∙ length-map was.paced.table.ports (λ (p : PortRow). p.id)

    sent : (place port : ℕ) (text : List ℕ) → slice_get s.left place ≡ Some (port, text) → HasSentAt (Some s.paced.reached) port s
    sent place port text has =
        subst (λ n. HasSentAt (Some s.paced.reached) n s) row.2 (left s place row.0 there within row.1) where
          row : (p : PortRow) × (slice_get s.paced.table.ports place ≡ Some p) × (p.id ≡ port)
          row = is_there (λ (p : PortRow). p.id) (slice_get s.paced.table.ports place) port
              (sym (port_at_place net given switch s place site) ∙ ap (option_map (λ (x : Text). x.0)) has)

          within : place < k
          within =
              let lt = slice_get_within s.paced.table.ports place row.0 row.1 in
              let same = ap (λ (t : Content). length t.ports) goes.table in
              omega (arith, lt, same, long, many)

-- ---- how late frames are where a switch goes on

abbrev EarlyBy : ℕ → Paced → Type 0
EarlyBy last v = AllByRecursion (λ (l : Lane). AllByRecursion (λ (r : Record). r.stamp ≤ last) l.came) v.lanes

pub goes_early : (place : ℕ → ℕ) (sites : List Site) (switch end : ℕ) (old new : Site) → slice_get sites switch ≡ Some old → WentTo end old new → AreEarly place sites
    → AreEarly place (slice_set sites switch new)
goes_early place sites switch end old new at went early n s is = elim (got_set sites switch n new s is) [
  | inl same ↦ subst (EarlyBy (after_hops (place n))) (sym went.paced ∙ ap (λ (x : Site). x.paced) same.1) (early n old (ap (slice_get sites) same.0 ∙ at))
  | inr there ↦ early n s there
]

-- ---- one switch is visited

-- a switch of these went to an instant, and all has left it at the ports before a place
pub record OnVisit (net : Network) (end switch : ℕ) (old went : List Site) (k : ℕ) (sites : List Site) : Type 0 where
  pub going : All (λ (s : Site). (s.paced.failed ≡ false) × (s.paced.reached ≤ end)) sites
  pub all : length sites ≡ length net.tables
  pub gone : gone_at sites ≡ gone_at old
  pub ok : (given : Given) (begin : ℕ) → begin ≤ end → AreInWindow net given begin end old → AreInWindow net given begin end sites × SendOn end went sites × HaveLeft sites switch k
  pub early : (given : Given) (begin : ℕ) → begin ≤ end → AreInWindow net given begin end old → KeepEarly net given old sites

pub visit_begins : OutGoesOn → (net : Network) (end switch : ℕ) (old : List Site) (was new : Site) → Going old → length old ≡ length net.tables → All (λ (s : Site). s.paced.reached ≤ end) old
    → slice_get old switch ≡ Some was → WentTo end was new → OnVisit net end switch old (slice_set old switch new) 0 (slice_set old switch new)
visit_begins on net end switch old was new going all reached at went = record {
  going = All-set (λ (s : Site). (s.paced.failed ≡ false) × (s.paced.reached ≤ end)) old switch new
      (ap (λ (v : Paced). v.failed) went.paced ∙ at_site (λ (s : Site). s.paced.failed ≡ false) old switch was going at, let same = ap (λ (v : Paced). v.reached) went.paced in omega (arith, same))
      (both end old going reached);
  all = length-set old switch new ∙ all;
  gone = map_stays (λ (s : Site). s.gone) old switch new was at went.gone;
  ok = λ given begin le w. (window_goes on net given begin end old switch was new w at went, all_stay end (slice_set old switch new), λ s place p is lt row. absurd (omega (arith, lt)));
  early = λ given begin le w none accepted early. goes_early none.order.place old switch end was new at went early;
}

-- what draining a port does
pub record Drains (net : Network) (end : ℕ) (from : End) (old new : List Site) : Type 0 where
  pub going : Going new
  pub gone : gone_at new ≡ gone_at old
  pub reached : (h : ℕ) → All (λ (s : Site). s.paced.reached ≤ h) old → All (λ (s : Site). s.paced.reached ≤ h) new
  pub ok : (given : Given) (begin : ℕ) → begin ≤ end → AreInWindow net given begin end old → Carries net given begin end from false old new
  pub early : (given : Given) (begin : ℕ) → begin ≤ end → AreInWindow net given begin end old → KeepEarly net given old new

pub visit_goes_on : (net : Network) (end switch port : ℕ) (old went : List Site) (k : ℕ) (sites new : List Site) (was : Site) → OnVisit net end switch old went k sites
    → slice_get sites switch ≡ Some was → option_map (λ (x : Text). x.0) (slice_get was.left k) ≡ Some port → length new ≡ length sites → Drains net end (end_at switch port) sites new
    → OnVisit net end switch old went (k + 1) new
visit_goes_on net end switch port old went k sites new was c at number long d = record {
  going = both end new d.going (d.reached end (λ i e lt. (c.going i e lt).1));
  all = long ∙ c.all;
  gone = d.gone ∙ c.gone;
  ok = λ given begin le w.
      let before = c.ok given begin le w in
      let now = d.ok given begin le before.0 in (
        now.window,
        all_on end went sites new before.1 now.on,
        port_left net given begin end switch port k sites new was before.0 now.on at number (now.none refl) before.2,
      );
  early = λ given begin le w none accepted early. d.early given begin le (c.ok given begin le w).0 none accepted (c.early given begin le w none accepted early);
}

pub visit_passes : (net : Network) (end switch : ℕ) (old went : List Site) (k : ℕ) (sites : List Site) (was : Site) → OnVisit net end switch old went k sites → slice_get sites switch ≡ Some was
    → option_map (λ (x : Text). x.0) (slice_get was.left k) ≡ None → OnVisit net end switch old went (k + 1) sites
visit_passes net end switch old went k sites was c at none = record {
  going = c.going;
  all = c.all;
  gone = c.gone;
  ok = λ given begin le w. let before = c.ok given begin le w in (before.0, before.1, no_port net given begin end switch k sites was before.0 at none before.2);
  early = c.early;
}

pub visit_ends : OutGoesOn → (net : Network) (end switch : ℕ) (old : List Site) (was new : Site) (k : ℕ) (sites : List Site) → OnVisit net end switch old (slice_set old switch new) k sites
    → slice_get old switch ≡ Some was → WentTo end was new → length new.left ≤ k → (given : Given) (begin : ℕ) → begin ≤ end → AreInWindow net given begin end old
    → Visits net given begin end switch old sites
visit_ends on net end switch old was new k sites c at went many given begin le w =
    let is = c.ok given begin le w in
    all_ports_left net given begin end switch k old (slice_set old switch new) sites new (window_goes on net given begin end old switch was new w at went) is.0 refl (set_here old switch was new at)
    (ap (λ (v : Paced). v.reached) went.paced) is.1 many is.2

-- ---- a switch after the other

-- the switches before a place have come to the end of the window, and those from there on have not begun it
abbrev pub AreGone : (begin end k : ℕ) → List Site → Type 0
AreGone begin end k sites = (n : ℕ) (s : Site) → slice_get sites n ≡ Some s → (n < k → HasCome end s) × (k ≤ n → s.paced.reached ≤ begin)

pub none_gone : (begin end : ℕ) (sites : List Site) → All (λ (s : Site). s.paced.reached ≤ begin) sites → AreGone begin end 0 sites
none_gone begin end sites all n s is = (λ lt. absurd (omega (arith, lt)), λ le. at_site (λ (x : Site). x.paced.reached ≤ begin) sites n s all is)

pub visited : (net : Network) (given : Given) (begin end switch : ℕ) (old new : List Site) → Visits net given begin end switch old new → AreGone begin end switch old
    → AreGone begin end (switch + 1) new
visited net given begin end switch old new v before n s is = elim (cases_eq n switch) [
  | inl same ↦ (λ lt. v.here s (ap (slice_get new) (sym same) ∙ is), λ le. absurd (omega (arith, same, le)))
  | inr other ↦
      let was = v.others n s other is in
      let gone = before n was.0 was.1 in (
        λ lt. still_come end was.0 s (gone.0 (omega (arith, lt, other))) was.2,
        λ le. let same = was.2.reached in let from = gone.1 (omega (arith, le)) in omega (arith, same, from),
      )
]

pub skipped : OutGoesOn → (net : Network) (given : Given) (begin end switch : ℕ) (sites : List Site) (here : Site) → AreInWindow net given begin end sites → begin ≤ end
    → slice_get sites switch ≡ Some here → is_before end here.next ≡ false → AreGone begin end switch sites → AreGone begin end (switch + 1) sites
skipped on net given begin end switch sites here w within at none before n s is = elim (cases_eq n switch) [
  | inl same ↦
      let it = same_Some here s (sym at ∙ ap (slice_get sites) (sym same) ∙ is) in (
        λ lt. subst (HasCome end) it
            (stays_away on here begin end (w.carried.are.each switch here at).running.next ((before switch here at).1 (omega arith)) within
            (at_site (IsIn begin end) sites switch here w.inside at) none),
        λ le. absurd (omega (arith, same, le)),
      )
  | inr other ↦ let gone = before n s is in (λ lt. gone.0 (omega (arith, lt, other)), λ le. gone.1 (omega (arith, le)))
]

pub all_gone : (begin end k : ℕ) (sites : List Site) → length sites ≤ k → AreGone begin end k sites → All (HasCome end) sites
all_gone begin end k sites many gone = all_places (HasCome end) sites (λ n s is. (gone n s is).0 (let lt = slice_get_within sites n s is in omega (arith, lt, many)))

-- ---- a window

-- of these switches, those before a place were visited
pub record OnWindow (net : Network) (end : ℕ) (old : List Site) (k : ℕ) (sites : List Site) : Type 0 where
  pub going : All (λ (s : Site). (s.paced.failed ≡ false) × (s.paced.reached ≤ end)) sites
  pub all : length sites ≡ length net.tables
  pub gone : gone_at sites ≡ gone_at old
  pub ok : (given : Given) (begin : ℕ) → begin ≤ end → AreInWindow net given begin end old → All (λ (s : Site). s.paced.reached ≤ begin) old
      → AreInWindow net given begin end sites × AreGone begin end k sites
  pub inside : (given : Given) (begin : ℕ) → begin ≤ end → AreInWindow net given begin end old → AreInWindow net given begin end sites
  pub early : (given : Given) (begin : ℕ) → begin ≤ end → AreInWindow net given begin end old → KeepEarly net given old sites

pub window_begins : (net : Network) (end : ℕ) (old : List Site) → Going old → length old ≡ length net.tables → All (λ (s : Site). s.paced.reached ≤ end) old → OnWindow net end old 0 old
window_begins net end old going all reached = record {
  going = both end old going reached;
  all = all;
  gone = refl;
  ok = λ given begin le w from. (w, none_gone begin end old from);
  inside = λ given begin le w. w;
  early = λ given begin le w none accepted early. early;
}

-- what a visit does
pub record VisitsOne (net : Network) (end switch : ℕ) (old new : List Site) : Type 0 where
  pub going : All (λ (s : Site). (s.paced.failed ≡ false) × (s.paced.reached ≤ end)) new
  pub gone : gone_at new ≡ gone_at old
  pub ok : (given : Given) (begin : ℕ) → begin ≤ end → AreInWindow net given begin end old → Visits net given begin end switch old new
  pub early : (given : Given) (begin : ℕ) → begin ≤ end → AreInWindow net given begin end old → KeepEarly net given old new

pub window_goes_on : (net : Network) (end : ℕ) (old : List Site) (k : ℕ) (sites new : List Site) → OnWindow net end old k sites → length new ≡ length sites → VisitsOne net end k sites new
    → OnWindow net end old (k + 1) new
window_goes_on net end old k sites new c long v = record {
  going = v.going;
  all = long ∙ c.all;
  gone = v.gone ∙ c.gone;
  ok = λ given begin le w from.
      let before = c.ok given begin le w from in
      let now = v.ok given begin le before.0 in
      (now.window, visited net given begin end k sites new now before.1);
  inside = λ given begin le w. (v.ok given begin le (c.inside given begin le w)).window;
  early = λ given begin le w none accepted early. v.early given begin le (c.inside given begin le w) none accepted (c.early given begin le w none accepted early);
}

pub window_passes : OutGoesOn → (net : Network) (end : ℕ) (old : List Site) (k : ℕ) (sites : List Site) (here : Site) → OnWindow net end old k sites → slice_get sites k ≡ Some here
    → is_before end here.next ≡ false → OnWindow net end old (k + 1) sites
window_passes on net end old k sites here c at none = record {
  going = c.going;
  all = c.all;
  gone = c.gone;
  ok = λ given begin le w from. let before = c.ok given begin le w from in (before.0, skipped on net given begin end k sites here before.0 le at none before.1);
  inside = c.inside;
  early = c.early;
}

-- ---- the end

pub all_are_quiet : OutGoesOn → (net : Network) (given : Given) (sites : List Site) (end : ℕ) → AreCarried net given sites → All (HasCome end) sites → IsFirst sites None → All (HasSent None) sites
all_are_quiet on net given sites end are come none =
    all_places (HasSent None) sites
    (λ k s at. all_quiet on s end (are.are.each k s at).running.next (at_site (λ (x : Site). x.next ≡ None) sites k s none at) (at_site (HasCome end) sites k s come at))

-- whatever came in came before the last second
arrive_early : ByStampIsOrdered → AreWritten → RecordsAreEarly → (net : Network) (given : Given) (switch : ℕ) (s : Site) → IsSite net given switch s
    → AllByRecursion (λ (a : Arrival). a.frame.stamp < last_second) (arrivals s.paced)
arrive_early ordered written early net given switch s site =
    let texts = texts_for written net switch site.own s.paced.lanes site.came in
    merged_all ordered (λ (r : Record). r.stamp < last_second) (captures_of s.paced.lanes)
    (λ port. early texts.0 (captures_of s.paced.lanes) port (texts_read net switch site.own s.paced.lanes texts.0 texts.1))

pub all_have_started : AllStartBeforeTheLastInstant → ByStampIsOrdered → AreWritten → RecordsAreEarly → (net : Network) (given : Given) (sites : List Site) → AreCarried net given sites
    → All (HasCome last_instant) sites → All (HasSent None) sites
all_have_started law ordered written early net given sites are come =
    all_places (HasSent None) sites
    (λ k s at. let site = are.are.each k s at in all_started law net given k s site (arrive_early ordered written early net given k s site) (at_site (HasCome last_instant) sites k s come at))

-- ---- going on

pub still_going : (end : ℕ) (sites : List Site) → All (λ (s : Site). (s.paced.failed ≡ false) × (s.paced.reached ≤ end)) sites → Going sites
still_going end sites all i d lt = (all i d lt).0
