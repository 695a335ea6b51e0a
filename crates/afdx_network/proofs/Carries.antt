-- A record is handed out at a port, and goes over the port's wires, one call after the other.
use Rattle.std.proofs.Common.{◌≡◌, ◌<◌, ◌≤◌, ◌+◌, ℕ, zero, suc, Bool, true, false, Ok, List, [], ◌∷◌, length, slice_get, Option, Some, None, refl, ap, sym, ◌∙◌, subst}
use Rattle.std.specs.Prelude.{All, Contains, slice_set}
use Rattle.std.proofs.lemmas.List.{length-set}
use Rattle.std.proofs.lemmas.List.Elements.{All-contains, All-set}
use Rattle.std.proofs.lemmas.Option.{same_Some, slice_get_within, get_or_from_slice_get}
use Rattle.afdx_units.specs.Time.{last_second}
use Rattle.afdx_pcap.specs.Record.{Record}
use Rattle.afdx_session.specs.Texts.{Text}
use Rattle.afdx_load.specs.Accepted.{IsAccepted}
use Rattle.afdx_paced.specs.Paced.{Paced}
use Rattle.afdx_paced.specs.Laws.{NothingLeavesBefore, LaterRecordsChangeNothing, OutGoesOn, OutIsInOrder}
use Rattle.afdx_wiring.specs.declared.layout.End.{End}
use Rattle.afdx_wiring.specs.declared.layout.Wire.{Wire}
use Rattle.afdx_network_check.specs.Net.{Network, wire_to}
use Rattle.afdx_network_check.specs.Order.{lost_port}
use Rattle.afdx_network.specs.declared.fault.NetworkRunFault.{NetworkRunFault}
use Rattle.afdx_network.specs.declared.fault.NetworkRunFault.TheVariants as fault
use Rattle.afdx_network.specs.Early.{RecordsLeaveInTime}
use Rattle.afdx_network.specs.Way.{delayed}
use Rattle.afdx_network.specs.Runs.{Given}
use Rattle.afdx_network.specs.Given.{NoneIsLateAnywhere, IsWireFault}
use Rattle.afdx_network.specs.Inner.Sites.{Site, HasSentAt, AreInWindow, AreInCarry, SendOn, AreEarly, IsPortAt, GoesOver, IsHandedOut, CanCome, CameOver, IsLateFault, Carries}
use Rattle.afdx_network.specs.Inner.Sites.{waits_at, after_hops, after_putting, gone_at}
use Rattle.afdx_network.proofs.Carried.{AreWritten}
use Rattle.afdx_network.proofs.Handing.{ends_within, handed_going, handed_port, waits_less, over_port, over_waits, over_on, late_wired, late_never, handed_soon, over_soon, over_early}
use Rattle.afdx_network.proofs.InWindow.{comes_late, carry_begins, can_come, comes_over, passes_by, carry_ends}
use Rattle.afdx_network.proofs.Lanes.{set_here}
use Rattle.afdx_network.proofs.Places.{map_stays}
use Rattle.afdx_network.proofs.SiteCalls.{AppendsOne}
use Rattle.afdx_network.proofs.Soon.{hands_early}
use Rattle.afdx_network.proofs.Visiting.{all_stay, all_on, set_on, hands_on, none_goes}

abbrev pub Going : List Site → Type 0
Going sites = All (λ (s : Site). s.paced.failed ≡ false) sites

-- no record came late so far, where none was late before
abbrev pub KeepEarly : Network → Given → (old sites : List Site) → Type 0
KeepEarly net given old sites = (none : NoneIsLateAnywhere net given) → All IsAccepted net.tables → AreEarly none.order.place old → AreEarly none.order.place sites

-- a record that left a port of these switches goes over the wires: it went over those before a place
pub record OnItsWay (net : Network) (from : End) (place : ℕ) (frame : Record) (old : List Site) (k : ℕ) (sites : List Site) : Type 0 where
  pub going : Going sites
  pub all : length sites ≡ length net.tables
  pub port : IsPortAt sites from place
  pub gone : gone_at sites ≡ gone_at old
  pub reached : (h : ℕ) → All (λ (s : Site). s.paced.reached ≤ h) old → All (λ (s : Site). s.paced.reached ≤ h) sites
  pub fewer : waits_at (slice_get sites from.switch) from.port < waits_at (slice_get old from.switch) from.port
  pub late : (given : Given) (begin end : ℕ) → begin ≤ end → AreInWindow net given begin end old → (w : Wire) → Contains net.layout.wires w → w.from ≡ from → end ≤ frame.stamp + w.delay
  pub soon : (given : Given) (begin end : ℕ) → begin ≤ end → AreInWindow net given begin end old → (none : NoneIsLateAnywhere net given) → All IsAccepted net.tables
      → AreEarly none.order.place old → frame.stamp ≤ after_hops (none.order.place from.switch) + 500000000
  pub ok : (given : Given) (begin end : ℕ) → begin ≤ end → AreInWindow net given begin end old → AreInCarry net given begin end from frame k sites × SendOn end old sites
  pub early : (given : Given) (begin end : ℕ) → begin ≤ end → AreInWindow net given begin end old → KeepEarly net given old sites

-- ---- it is handed out

pub way_begins : NothingLeavesBefore → OutGoesOn → AppendsOne → AreWritten → RecordsLeaveInTime → (net : Network) (from : End) (place : ℕ) (old : List Site) (was new : Site) (out : Record)
    → Going old → length old ≡ length net.tables → IsPortAt old from place → slice_get old from.switch ≡ Some was → IsHandedOut was new place from.port (Some out)
    → OnItsWay net from place out old 0 (slice_set old from.switch new)
way_begins law on one written leaves net from place old was new out going all port at h = record {
  going = All-set (λ (s : Site). s.paced.failed ≡ false) old from.switch new (handed_going was new place from.port (Some out) h ∙ at_old (λ (s : Site). s.paced.failed ≡ false) going) going;
  all = length-set old from.switch new ∙ all;
  port = handed_port old from place was new (Some out) at h port;
  gone = map_stays (λ (s : Site). s.gone) old from.switch new was at h.gone;
  reached = λ n before. All-set (λ (s : Site). s.paced.reached ≤ n) old from.switch new
      (subst (λ (v : Paced). v.reached ≤ n) (sym h.out_is.after) (at_old (λ (s : Site). s.paced.reached ≤ n) before)) before;
  fewer = subst (λ (o : Option Site). waits_at (slice_get (slice_set old from.switch new) from.switch) from.port < waits_at o from.port) (sym at)
      (subst (λ (o : Option Site). waits_at o from.port < waits_at (Some was) from.port) (sym (set_here old from.switch was new at)) (waits_less was new place from.port out h));
  late = λ given begin end le w. comes_late law on one net given begin end old w from place was new out at h;
  soon = λ given begin end le w none accepted early. handed_soon leaves written on net given none accepted old from was new.paced out w.carried.are early at h.out_is;
  ok = λ given begin end le w.
      (carry_begins law on one net given begin end old w from place was new out at h, set_on end old from.switch was new at (hands_on end place from.port was new out h));
  early = λ given begin end le w none accepted early. hands_early none.order.place old from.switch place from.port was new out at h early;
} where
  at_old : (P : Site → Type 0) → All P old → P was
  at_old P before = subst P (get_or_from_slice_get old from.switch was was at) (before from.switch was (slice_get_within old from.switch was at))

-- ---- or none is

same_set : {X : Type 0} (xs : List X) (n : ℕ) (x : X) → slice_get xs n ≡ Some x → slice_set xs n x ≡ xs
same_set [] n x is = absurd cc
same_set {X = X} (y ∷ xs) zero x is = ap (λ (z : X). z ∷ xs) (sym (same_Some y x is))
same_set {X = X} (y ∷ xs) (suc n) x is = ap (λ (zs : List X). y ∷ zs) (same_set xs n x is)

site_by : Paced → List Text → List (List ℕ) → Option ℕ → Site
site_by v left gone next = record { paced = v; left = left; gone = gone; next = next }

none_is : (was new : Site) (place port : ℕ) → IsHandedOut was new place port None → new ≡ was
unfolding site_by
none_is was new place port h =
    ap (λ (v : Paced). site_by v new.left new.gone new.next) h.0.same
    ∙ ap (λ (left : List Text). site_by was.paced left new.gone new.next) h.1
    ∙ ap (λ (gone : List (List ℕ)). site_by was.paced was.left gone new.next) h.2
    ∙ ap (site_by was.paced was.left was.gone) h.3

pub none_same : (old : List Site) (switch place port : ℕ) (was new : Site) → slice_get old switch ≡ Some was → IsHandedOut was new place port None → slice_set old switch new ≡ old
none_same old switch place port was new at h = ap (slice_set old switch) (none_is was new place port h) ∙ same_set old switch was at

pub none_carries : (net : Network) (given : Given) (begin end : ℕ) (old : List Site) (from : End) (place : ℕ) (was new : Site) → AreInWindow net given begin end old
    → slice_get old from.switch ≡ Some was → IsHandedOut was new place from.port None → Carries net given begin end from false old (slice_set old from.switch new)
none_carries net given begin end old from place was new w at h =
    subst (Carries net given begin end from false old) (sym (none_same old from.switch place from.port was new at h))
    (record {
      window = w;
      on = all_stay end old;
      none = λ is s here. subst (λ (x : Site). HasSentAt (Some x.paced.reached) from.port x) (same_Some was s (sym at ∙ here)) (none_goes was new.paced from.port h.0);
    })

-- ---- wires

-- a wire ends at a switch of the network
pub wire_within : (net : Network) (k : ℕ) (u : Wire) → lost_port net.tables net.layout.wires ≡ Ok tt → slice_get net.layout.wires k ≡ Some u → u.to.switch < length net.tables
wire_within net k u ports at = (ends_within net u ports (k, slice_get_within net.layout.wires k u at, get_or_from_slice_get net.layout.wires k u u at)).1

pub never_both : {P : Type 0} {b : Bool} → b ≡ true → b ≡ false → P
never_both is other = absurd cc

-- ---- it goes over a wire

module _ (law : LaterRecordsChangeNothing) (on : OutGoesOn) (order : OutIsInOrder) (written : AreWritten) (leaves : RecordsLeaveInTime) (net : Network) (from : End) (place : ℕ) (frame : Record)
    (old : List Site) (k : ℕ) (sites : List Site) (c : OnItsWay net from place frame old k sites) (u : Wire) (at : slice_get net.layout.wires k ≡ Some u)
    (goes : GoesOver net.layout.wires k from u) where
  among : Contains net.layout.wires u
  among = (k, slice_get_within net.layout.wires k u at, get_or_from_slice_get net.layout.wires k u u at)

  wired : (given : Given) (begin end : ℕ) → AreInWindow net given begin end old → wire_to net u.to ≡ Some u
  wired given begin end w = All-contains (λ (v : Wire). wire_to net v.to ≡ Some v) net.layout.wires u w.one_each among

  in_time : (given : Given) (begin end : ℕ) → begin ≤ end → AreInWindow net given begin end old → (none : NoneIsLateAnywhere net given) → All IsAccepted net.tables → AreEarly none.order.place old
      → (frame.stamp + u.delay ≤ after_hops (none.order.place u.to.switch)) × (frame.stamp + u.delay < last_second)
  in_time given begin end le w none accepted early =
      over_soon leaves written on net given none accepted u frame among
      (subst (λ (e : End). frame.stamp ≤ after_hops (none.order.place e.switch) + 500000000) (sym goes.0) (c.soon given begin end le w none accepted early))

  -- it can come at the wire's end
  can : (given : Given) (begin end : ℕ) → begin ≤ end → AreInWindow net given begin end old → CanCome sites u frame
  can given begin end le w =
      can_come law on order net given begin end from frame k sites (c.ok given begin end le w).0 w.one_each le u at goes.0 goes.1 goes.2 (c.late given begin end le w u among goes.0)

  pub way_goes_on : (new : List Site) → Going new → length new ≡ length sites → CameOver sites new u frame → OnItsWay net from place frame old (k + 1) new
  way_goes_on new going long came = record {
    going = going;
    all = long ∙ c.all;
    port = over_port sites new u frame from place came c.port;
    gone = ap gone_at came.new_is
        ∙ map_stays (λ (s : Site). s.gone) sites u.to.switch (after_putting u.to.port (delayed u.delay frame) came.site) came.site came.at refl ∙ c.gone;
    reached = λ n before.
        subst (All (λ (s : Site). s.paced.reached ≤ n)) (sym came.new_is)
        (All-set (λ (s : Site). s.paced.reached ≤ n) sites u.to.switch (after_putting u.to.port (delayed u.delay frame) came.site)
        (subst (λ (s : Site). s.paced.reached ≤ n) (get_or_from_slice_get sites u.to.switch came.site came.site came.at)
        (c.reached n before u.to.switch came.site (slice_get_within sites u.to.switch came.site came.at))) (c.reached n before));
    fewer = subst (λ m. m < waits_at (slice_get old from.switch) from.port) (sym (over_waits law sites new u frame from.switch from.port came)) c.fewer;
    late = c.late;
    soon = c.soon;
    ok = λ given begin end le w.
        let is = c.ok given begin end le w in
        let late = c.late given begin end le w u among goes.0 in (
          comes_over law on order net given begin end from frame k sites is.0 w.one_each le u at goes.0 goes.1 goes.2 late new came,
          all_on end old sites new is.1 (over_on law end sites new u frame came late),
        );
    early = λ given begin end le w none accepted early.
        over_early leaves written on net given none accepted sites new u frame came (in_time given begin end le w none accepted early).0 (c.early given begin end le w none accepted early);
  }

  -- why it does not come there
  pub way_fails : (why : NetworkRunFault) → (CanCome sites u frame → IsLateFault u frame why) → (given : Given) (begin end : ℕ) → begin ≤ end → AreInWindow net given begin end old
      → IsWireFault net why
  way_fails why late given begin end le w = late_wired net u frame why (wired given begin end w) w.one_each (late (can given begin end le w))

  pub way_never_fails : (why : NetworkRunFault) → (CanCome sites u frame → IsLateFault u frame why) → (given : Given) (begin end : ℕ) → begin ≤ end → AreInWindow net given begin end old
      → (none : NoneIsLateAnywhere net given) → All IsAccepted net.tables → AreEarly none.order.place old → why ≡ fault.Memory
  way_never_fails why late given begin end le w none accepted early = late_never u frame why (in_time given begin end le w none accepted early).1 (late (can given begin end le w))

-- ---- or not

pub way_passes : (net : Network) (from : End) (place : ℕ) (frame : Record) (old : List Site) (k : ℕ) (sites : List Site) → OnItsWay net from place frame old k sites → (u : Wire)
    → slice_get net.layout.wires k ≡ Some u → (GoesOver net.layout.wires k from u → ⊥) → OnItsWay net from place frame old (k + 1) sites
way_passes net from place frame old k sites c u at none = record {
  going = c.going;
  all = c.all;
  port = c.port;
  gone = c.gone;
  reached = c.reached;
  fewer = c.fewer;
  late = c.late;
  soon = c.soon;
  ok = λ given begin end le w.
      let is = c.ok given begin end le w in (passes_by net given begin end from frame k sites is.0 w.one_each u at (λ own first up. none (own, first, up)), is.1);
  early = c.early;
}

pub way_ends : (net : Network) (from : End) (place : ℕ) (frame : Record) (old : List Site) (k : ℕ) (sites : List Site) → OnItsWay net from place frame old k sites → k ≡ length net.layout.wires
    → (given : Given) (begin end : ℕ) → begin ≤ end → AreInWindow net given begin end old → Carries net given begin end from true old sites
way_ends net from place frame old k sites c all given begin end le w =
    let is = c.ok given begin end le w in
    record {
      window = carry_ends net given begin end from frame sites old w (subst (λ n. AreInCarry net given begin end from frame n sites) all is.0);
      on = is.1;
      none = λ more. absurd cc;
    }
