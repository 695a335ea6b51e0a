-- What leaves a switch within a window comes in at the next one after the window's end.
use Rattle.std.proofs.Common.{◌≡◌, ◌≤◌, ◌+◌, ℕ, List, [], ◌∷◌, ◌++◌, map, false, length, slice_get, Some, None, refl, ap, sym, ◌∙◌, arith, inl, inr, subst}
use Rattle.std.specs.Prelude.{All, Contains, slice_set, ◌⊎◌}
use Rattle.std.proofs.lemmas.List.{length-set}
use Rattle.std.proofs.lemmas.List.Elements.{All-contains, All-set, All-weaker, All-contains_itself}
use Rattle.std.proofs.lemmas.Option.{slice_get_within, get_or_from_slice_get}
use Rattle.afdx_units.specs.Line.{cost_of, least_size}
use Rattle.afdx_pcap.specs.Record.{Record}
use Rattle.afdx_table.specs.Content.{port_row}
use Rattle.afdx_core.specs.Merge.{Rises}
use Rattle.afdx_paced.specs.Paced.{Lane, Paced, out_up_to, came_in, went_out, GoesOut}
use Rattle.afdx_paced.specs.Laws.{NothingLeavesBefore, LaterRecordsChangeNothing, OutGoesOn, OutIsInOrder}
use Rattle.afdx_wiring.specs.declared.layout.End.{End}
use Rattle.afdx_wiring.specs.declared.layout.Wire.{Wire}
use Rattle.afdx_network_check.specs.Net.{Network, wire_to}
use Rattle.afdx_network.specs.Way.{delayed}
use Rattle.afdx_network.specs.Runs.{Given}
use Rattle.afdx_network.specs.Inner.Sites.{Site, lane_there, IsSite, IsCarried, IsPending, wire_place, AreSites, IsIn, IsWithin, AreInWindow, AreInCarry}
use Rattle.afdx_network.specs.Inner.Sites.{after_putting, HandsOut, CanCome, CameOver}
use Rattle.afdx_network.proofs.AllLeft.{row_there, SiteThere, site_there}
use Rattle.afdx_network.proofs.Carrying.{one_each, carried_up, begins, goes_over, goes_by, ends, rises_last, rises_front, rises_delayed}
use Rattle.afdx_network.proofs.Lanes.{ChangesAt, changes_at}
use Rattle.afdx_network.proofs.Outs.{not_refused}
use Rattle.afdx_network.proofs.Places.{got_set}
use Rattle.afdx_network.proofs.SiteCalls.{AppendsOne, site_puts, puts_sent, site_hands, hands_sent}

-- ---- one site is another

site_set : (net : Network) (given : Given) (sites : List Site) (switch : ℕ) (new : Site) → IsSite net given switch new → AreSites net given sites → AreSites net given (slice_set sites switch new)
site_set net given sites switch new site are = record {
  each = λ n s is. by n s (got_set sites switch n new s is);
  all = length-set sites switch new ∙ are.all;
} where
  by : (n : ℕ) (s : Site) → ((n ≡ switch) × (new ≡ s)) ⊎ (slice_get sites n ≡ Some s) → IsSite net given n s
  by n s (inl here) = subst (λ m. IsSite net given m s) (sym here.0) (subst (IsSite net given switch) here.1 site)
  by n s (inr there) = are.each n s there

pub at_site : (P : Site → Type 0) (sites : List Site) (n : ℕ) (s : Site) → All P sites → slice_get sites n ≡ Some s → P s
at_site P sites n s all is = All-contains P sites s all (n, slice_get_within sites n s is, get_or_from_slice_get sites n s s is)

-- ---- when it comes

-- what left comes first of all that leaves, so it is in order, and the next record comes at its place
pub get_seam : (left rest : List Record) (out : Record) → slice_get (left ++ out ∷ rest) (length left) ≡ Some out
get_seam [] rest out = refl
get_seam (r ∷ left) rest out = get_seam left rest out

pub assoc : (xs ys zs : List Record) → (xs ++ ys) ++ zs ≡ xs ++ (ys ++ zs)
assoc [] ys zs = refl
assoc (x ∷ xs) ys zs = ap (λ (rs : List Record). x ∷ rs) (assoc xs ys zs)

-- a frame that is handed out within a window leaves late enough
pub leaves_late : NothingLeavesBefore → OutGoesOn → (v new : Paced) (port begin : ℕ) (out : Record) (g : GoesOut v new port out) → length (out_up_to v (Some begin) g.row) ≤ length g.lane.left
    → begin + v.table.latency + cost_of g.row.speed least_size ≤ out.stamp
leaves_late law on v new port begin out g few =
    let more = on.in_the_end v v.reached g.row in
    let all : out_up_to v None g.row ≡ g.lane.left ++ out ∷ (g.rest ++ more.0)
    = more.1 ∙ ap (λ (rs : List Record). rs ++ more.0) g.next ∙ assoc g.lane.left (out ∷ g.rest) more.0 in
    law v g.row begin (length g.lane.left) out few
    (ap (λ (rs : List Record). slice_get rs (length g.lane.left)) all ∙ get_seam g.lane.left (g.rest ++ more.0) out)

-- what left a port is in order
pub left_rises : OutGoesOn → OutIsInOrder → (net : Network) (given : Given) (sites : List Site) (e : End) (l : Lane) → AreSites net given sites → lane_there sites e ≡ Some l → Rises l.left
left_rises on order net given sites e l are is =
    let there = site_there sites e l is in
    let site = are.each e.switch there.site there.at in
    let v = there.site.paced in
    let row = row_there v.table.ports v.lanes e.port l site.running.ports there.lane_is in
    let before = site.running.prefix e.port row.0 l row.1 there.lane_is in
    let more = on.in_the_end v v.reached row.0 in
    rises_front l.left before.0 (rises_front (l.left ++ before.0) more.0
    (subst Rises (more.1 ∙ ap (λ (rs : List Record). rs ++ more.0) before.1) (order.rises v row.0)))

-- ---- the record has left

module _ (law : NothingLeavesBefore) (on : OutGoesOn) (one : AppendsOne) (net : Network) (given : Given) (begin end : ℕ) (sites : List Site) (w : AreInWindow net given begin end sites)
    (from : End) (place : ℕ) (old new : Site) (out : Record) (at : slice_get sites from.switch ≡ Some old) (hands : HandsOut old new place from.port out) where
  abbrev after_it : List Site
  after_it = slice_set sites from.switch new

  was : IsSite net given from.switch old
  was = w.carried.are.each from.switch old at

  inside : IsIn begin end old
  inside = at_site (IsIn begin end) sites from.switch old w.inside at

  pub comes_late : (v : Wire) → Contains net.layout.wires v → v.from ≡ from → end ≤ out.stamp + v.delay
  comes_late v among own =
      let g = hands.out_is in
      let late = leaves_late law on old.paced new.paced from.port begin out g (inside.sent from.port g.row g.lane g.row_is g.lane_is) in
      let least = All-contains (IsWithin net w.look) net.layout.wires v w.is_look.least among old.paced.table g.row (ap (λ (e : End). slice_get net.tables e.switch) own ∙ was.table_is)
      (ap (λ (e : End). port_row old.paced.table e.port) own ∙ g.row_is) in
      let short = w.short in
      omega (arith, late, least, short)

  changes : ChangesAt sites after_it from (went_out out)
  changes = changes_at sites from.switch from.port old new (went_out out) (λ l. refl) at (ap (λ (v : Paced). v.lanes) hands.out_is.after)

  pub carry_begins : AreInCarry net given begin end from out 0 after_it
  carry_begins = record {
    are = site_set net given sites from.switch new (site_hands one net given from.switch place from.port old new out was hands) w.carried.are;
    inside = All-set (IsIn begin end) sites from.switch new
        (record {
          reached = subst (λ (v : Paced). v.reached ≤ end) (sym hands.out_is.after) inside.reached;
          sent = hands_sent old new place from.port out (Some begin) hands inside.sent;
        }) w.inside;
    wires = All-weaker (IsCarried sites) (IsPending after_it from out net.layout.wires 0) (λ v is. begins sites after_it from out net.layout.wires v changes is) net.layout.wires w.carried.wires;
  }

-- ---- it goes over a wire

module _ (law : LaterRecordsChangeNothing) (on : OutGoesOn) (order : OutIsInOrder) (net : Network) (given : Given) (begin end : ℕ) (from : End) (frame : Record) (k : ℕ) (sites : List Site)
    (c : AreInCarry net given begin end from frame k sites) (one : All (λ w. wire_to net w.to ≡ Some w) net.layout.wires) (within : begin ≤ end) (u : Wire)
    (at : slice_get net.layout.wires k ≡ Some u) (own : u.from ≡ from) (place : wire_place net.layout.wires u ≡ k) (up : u.down ≡ false) (late : end ≤ frame.stamp + u.delay) where
  among : Contains net.layout.wires u
  among = (k, slice_get_within net.layout.wires k u at, get_or_from_slice_get net.layout.wires k u u at)

  pending : IsPending sites from frame net.layout.wires k u
  pending = All-contains (IsPending sites from frame net.layout.wires k) net.layout.wires u c.wires among

  there : SiteThere sites u.to pending.there
  there = site_there sites u.to pending.there pending.there_is

  next : pending.there.came ++ delayed u.delay frame ∷ [] ≡ map (delayed u.delay) pending.start.left
  next =
      ap (λ (rs : List Record). pending.there.came ++ rs) (sym (carried_up u (frame ∷ []) up)) ∙ pending.waits own (omega (arith, place))
      ∙ carried_up u pending.start.left up

  pub can_come : CanCome sites u frame
  can_come = record {
    site = there.site;
    at = there.at;
    fine = not_refused there.site.paced u.to.port (frame.stamp + u.delay) (record {
      lane = pending.there;
      lane_is = there.lane_is;
      from = let reached = (at_site (IsIn begin end) sites u.to.switch there.site c.inside there.at).reached in omega (arith, reached, late);
      last = rises_last 0 pending.there.came (delayed u.delay frame) (omega arith)
          (subst Rises (sym next) (rises_delayed u.delay pending.start.left (left_rises on order net given sites u.from pending.start c.are pending.start_is)));
    });
  }

  pub comes_over : (new : List Site) → CameOver sites new u frame → AreInCarry net given begin end from frame (k + 1) new
  comes_over new came = subst (AreInCarry net given begin end from frame (k + 1)) (sym came.new_is) (record {
    are = site_set net given sites u.to.switch now is_site c.are;
    inside = All-set (IsIn begin end) sites u.to.switch now
        (record { reached = inside.reached; sent = puts_sent law came.site u.to.port begin (delayed u.delay frame) (omega (arith, within, late)) inside.sent }) c.inside;
    wires = All-weaker (λ w. Contains net.layout.wires w × IsPending sites from frame net.layout.wires k w) (IsPending after_it from frame net.layout.wires (k + 1))
        (λ w h. goes_over sites after_it from frame net.layout.wires k u w at place own up changes
        (one_each net w (All-contains (λ v. wire_to net v.to ≡ Some v) net.layout.wires w one h.0)) h.1) net.layout.wires
        (λ i d lt. (All-contains_itself net.layout.wires i d lt, c.wires i d lt));
  }) where
    now : Site
    now = after_putting u.to.port (delayed u.delay frame) came.site

    after_it : List Site
    after_it = slice_set sites u.to.switch now

    inside : IsIn begin end came.site
    inside = at_site (IsIn begin end) sites u.to.switch came.site c.inside came.at

    is_site : IsSite net given u.to.switch now
    is_site = site_puts law on net given u.to.switch u.to.port came.site (delayed u.delay frame) u (c.are.each u.to.switch came.site came.at)
        (All-contains (λ v. wire_to net v.to ≡ Some v) net.layout.wires u one among) came.fine came.early refl came.small

    changes : ChangesAt sites after_it u.to (came_in (delayed u.delay frame))
    changes = changes_at sites u.to.switch u.to.port came.site now (came_in (delayed u.delay frame)) (λ l. refl) came.at refl

pub passes_by : (net : Network) (given : Given) (begin end : ℕ) (from : End) (frame : Record) (k : ℕ) (sites : List Site) → AreInCarry net given begin end from frame k sites
    → All (λ w. wire_to net w.to ≡ Some w) net.layout.wires → (u : Wire) → slice_get net.layout.wires k ≡ Some u → (u.from ≡ from → wire_place net.layout.wires u ≡ k → u.down ≡ false → ⊥)
    → AreInCarry net given begin end from frame (k + 1) sites
passes_by net given begin end from frame k sites c one u at none = record {
  are = c.are;
  inside = c.inside;
  wires = All-weaker (λ w. Contains net.layout.wires w × IsPending sites from frame net.layout.wires k w) (IsPending sites from frame net.layout.wires (k + 1))
      (λ w h. goes_by sites from frame net.layout.wires k u w at none (one_each net w (All-contains (λ v. wire_to net v.to ≡ Some v) net.layout.wires w one h.0)) h.1) net.layout.wires
      (λ i d lt. (All-contains_itself net.layout.wires i d lt, c.wires i d lt));
}

pub carry_ends : (net : Network) (given : Given) (begin end : ℕ) (from : End) (frame : Record) (sites old : List Site) → AreInWindow net given begin end old
    → AreInCarry net given begin end from frame (length net.layout.wires) sites → AreInWindow net given begin end sites
carry_ends net given begin end from frame sites old w c = record {
  carried = record {
    are = c.are;
    wires = All-weaker (λ v. Contains net.layout.wires v × IsPending sites from frame net.layout.wires (length net.layout.wires) v) (IsCarried sites)
        (λ v h. ends sites from frame net.layout.wires v (one_each net v (All-contains (λ x. wire_to net x.to ≡ Some x) net.layout.wires v w.one_each h.0)) h.1) net.layout.wires
        (λ i d lt. (All-contains_itself net.layout.wires i d lt, c.wires i d lt));
  };
  one_each = w.one_each;
  look = w.look;
  is_look = w.is_look;
  short = w.short;
  inside = c.inside;
}
