-- A record is handed out at a port, and goes over the port's wires: what each call needs and keeps.
use Rattle.std.proofs.Common.{◌≡◌, ◌<◌, ◌≤◌, ◌+◌, ◌-◌, ℕ, List, [], ◌∷◌, ◌++◌, length, find, slice_get, Option, Some, None, Ok}
use Rattle.std.proofs.Common.{refl, ap, sym, ◌∙◌, arith, inl, inr, subst}
use Rattle.std.specs.Prelude.{All, Contains, slice_set}
use Rattle.std.specs.Option.{option_map}
use Rattle.std.proofs.lemmas.Bool.{cases_eq}
use Rattle.std.proofs.lemmas.List.{length-append}
use Rattle.std.proofs.lemmas.List.Elements.{All-contains}
use Rattle.std.proofs.lemmas.Option.{same_Some, slice_get_within, get_or_from_slice_get}
use Rattle.afdx_units.specs.Time.{last_second}
use Rattle.afdx_pcap.specs.Record.{Record}
use Rattle.afdx_pcap.specs.Text.{record_text}
use Rattle.afdx_table.specs.declared.rows.PortRow.{PortRow}
use Rattle.afdx_table.specs.Content.{port_row}
use Rattle.afdx_load.specs.Accepted.{IsAccepted}
use Rattle.afdx_session.specs.Texts.{Text}
use Rattle.afdx_paced.specs.Paced.{Lane, Paced, changed, lane_at, came_in, went_out, after_put, after_leaving, GoesOut}
use Rattle.afdx_paced.specs.Laws.{LaterRecordsChangeNothing, OutGoesOn}
use Rattle.afdx_wiring.specs.declared.layout.End.{End}
use Rattle.afdx_wiring.specs.declared.layout.Wire.{Wire}
use Rattle.afdx_network_check.specs.Net.{Network, wire_to}
use Rattle.afdx_network_check.specs.Order.{lost_port}
use Rattle.afdx_network.specs.declared.fault.NetworkRunFault.{NetworkRunFault}
use Rattle.afdx_network.specs.declared.fault.NetworkRunFault.TheVariants as fault
use Rattle.afdx_network.specs.Early.{RecordsLeaveInTime}
use Rattle.afdx_network.specs.Way.{delayed}
use Rattle.afdx_network.specs.Runs.{Given}
use Rattle.afdx_network.specs.Given.{NoneShareAPort, NoneIsLateAnywhere, IsWireFault}
use Rattle.afdx_network.specs.Inner.Sites.{Site, AreSites, SendOn, behind, waits_at, after_putting, after_hops, HandsOut, IsHandedOut, IsPortAt, CameOver, IsLateFault, AreEarly}
use Rattle.afdx_network.proofs.Carried.{AreWritten}
use Rattle.afdx_network.proofs.Found.{of_all}
use Rattle.afdx_network.proofs.Lanes.{of_port, changed_here, changed_elsewhere, set_here, set_elsewhere}
use Rattle.afdx_network.proofs.Outs.{out_left, takes}
use Rattle.afdx_network.proofs.Soon.{out_soon, comes_soon, puts_early}
use Rattle.afdx_network.proofs.Started.{HasEnds, all_ends, port_there}
use Rattle.afdx_network.proofs.Visiting.{puts_on, set_on}

-- ---- ends of wires

-- both ends of a wire are switches of the network
pub ends_within : (net : Network) (w : Wire) → lost_port net.tables net.layout.wires ≡ Ok tt → Contains net.layout.wires w → (w.from.switch < length net.tables) × (w.to.switch < length net.tables)
ends_within net w ends among =
    let both = of_all (HasEnds net.tables) net.layout.wires w (all_ends net.tables net.layout.wires ends) among in
    let from = port_there net w.from both.from_is in
    let to = port_there net w.to both.to_is in
    (slice_get_within net.tables w.from.switch from.table from.table_is, slice_get_within net.tables w.to.switch to.table to.table_is)

-- ---- a record is handed out, or none

pub handed_going : (old new : Site) (place port : ℕ) (out : Option Record) → IsHandedOut old new place port out → new.paced.failed ≡ old.paced.failed
handed_going old new place port None h = ap (λ (v : Paced). v.failed) h.0.same
handed_going old new place port (Some out) h = ap (λ (v : Paced). v.failed) h.out_is.after

pub handed_port : (sites : List Site) (e : End) (place : ℕ) (old new : Site) (out : Option Record) → slice_get sites e.switch ≡ Some old → IsHandedOut old new place e.port out
    → IsPortAt sites e place → IsPortAt (slice_set sites e.switch new) e place
handed_port sites e place old new None at h is = record {
  site = new;
  at = set_here sites e.switch old new at;
  text = is.text;
  text_is = ap (λ (texts : List Text). slice_get texts place) (h.1 ∙ ap (λ (s : Site). s.left) (same_Some old is.site (sym at ∙ is.at))) ∙ is.text_is;
}
handed_port sites e place old new (Some out) at h is = record {
  site = new;
  at = set_here sites e.switch old new at;
  text = h.text ++ record_text out;
  text_is = ap (λ (texts : List Text). slice_get texts place) h.left ∙ set_here old.left place (e.port, h.text) (e.port, h.text ++ record_text out) h.was;
}

-- fewer wait then
pub waits_less : (old new : Site) (place port : ℕ) (out : Record) → HandsOut old new place port out → waits_at (Some new) port < waits_at (Some old) port
waits_less old new place port out h = subst (λ (v : Paced). behind v (port_row v.table port) (lane_at v port) < waits_at (Some old) port) (sym g.after)
    (omega (arith, before, after, more, grows)) where
      g : GoesOut old.paced new.paced port out
      g = h.out_is

      v : Paced
      v = after_leaving port out old.paced

      before : waits_at (Some old) port ≡ length (g.lane.left ++ out ∷ g.rest) - length g.lane.left
      before =
          ap (λ (o : Option PortRow). behind old.paced o (lane_at old.paced port)) g.row_is
          ∙ ap (behind old.paced (Some g.row)) g.lane_is
          ∙ ap (λ (rs : List Record). length rs - length g.lane.left) g.next

      after : behind v (port_row v.table port) (lane_at v port) ≡ length (g.lane.left ++ out ∷ g.rest) - length (g.lane.left ++ out ∷ [])
      after =
          ap (λ (o : Option PortRow). behind v o (lane_at v port)) g.row_is
          ∙ ap (behind v (Some g.row)) (changed_here port (went_out out) (λ l. refl) old.paced.lanes ∙ ap (option_map (went_out out)) g.lane_is)
          ∙ ap (λ (rs : List Record). length rs - length (g.lane.left ++ out ∷ [])) (out_left old.paced port out (Some old.paced.reached) g.row ∙ g.next)

      more : length (g.lane.left ++ out ∷ g.rest) ≡ length g.lane.left + length (out ∷ g.rest)
      more = length-append g.lane.left (out ∷ g.rest)

      grows : length (g.lane.left ++ out ∷ []) ≡ length g.lane.left + length (out ∷ [])
      grows = length-append g.lane.left (out ∷ [])

-- ---- it came over a wire

pub over_port : (sites new : List Site) (w : Wire) (frame : Record) (e : End) (place : ℕ) → CameOver sites new w frame → IsPortAt sites e place → IsPortAt new e place
over_port sites new w frame e place c is = subst (λ (xs : List Site). IsPortAt xs e place) (sym c.new_is) (elim (cases_eq e.switch w.to.switch) [
  | inl here ↦ record {
    site = after_putting w.to.port (delayed w.delay frame) c.site;
    at = ap (slice_get (slice_set sites w.to.switch (after_putting w.to.port (delayed w.delay frame) c.site))) here
        ∙ set_here sites w.to.switch c.site (after_putting w.to.port (delayed w.delay frame) c.site) c.at;
    text = is.text;
    text_is = ap (λ (s : Site). slice_get s.left place) (same_Some c.site is.site (sym c.at ∙ ap (slice_get sites) (sym here) ∙ is.at)) ∙ is.text_is;
  }
  | inr other ↦ record {
    site = is.site;
    at = set_elsewhere sites w.to.switch e.switch (after_putting w.to.port (delayed w.delay frame) c.site) other ∙ is.at;
    text = is.text;
    text_is = is.text_is;
  }
])

-- what waits at a port stays where a record comes in
put_waits : LaterRecordsChangeNothing → (v : Paced) (port q : ℕ) (frame : Record) → v.reached ≤ frame.stamp
    → behind (after_put port frame v) (port_row v.table q) (lane_at (after_put port frame v) q) ≡ behind v (port_row v.table q) (lane_at v q)
put_waits law v port q frame later = by (port_row v.table q) where
  lanes : (p : PortRow) (o : Option Lane) → lane_at v q ≡ o → behind (after_put port frame v) (Some p) (lane_at (after_put port frame v) q) ≡ behind v (Some p) o
  lanes p o is = elim (cases_eq q port) [
    | inl here ↦
        ap (behind (after_put port frame v) (Some p))
        (ap (λ n. find (of_port n) (changed port (came_in frame) v.lanes)) here ∙ changed_here port (came_in frame) (λ l. refl) v.lanes
        ∙ ap (λ n. option_map (came_in frame) (lane_at v n)) (sym here) ∙ ap (option_map (came_in frame)) is)
        ∙ came o
    | inr other ↦ ap (behind (after_put port frame v) (Some p)) (changed_elsewhere port q (came_in frame) (λ l. refl) other v.lanes ∙ is) ∙ same o
  ] where
    came : (o : Option Lane) → behind (after_put port frame v) (Some p) (option_map (came_in frame) o) ≡ behind v (Some p) o
    came None = refl
    came (Some l) = ap (λ (rs : List Record). length rs - length l.left) (law v port frame v.reached p later)

    same : (o : Option Lane) → behind (after_put port frame v) (Some p) o ≡ behind v (Some p) o
    same None = refl
    same (Some l) = ap (λ (rs : List Record). length rs - length l.left) (law v port frame v.reached p later)

  by : (o : Option PortRow) → behind (after_put port frame v) o (lane_at (after_put port frame v) q) ≡ behind v o (lane_at v q)
  by None = refl
  by (Some p) = lanes p (lane_at v q) refl

pub over_waits : LaterRecordsChangeNothing → (sites new : List Site) (w : Wire) (frame : Record) (switch port : ℕ) → CameOver sites new w frame
    → waits_at (slice_get new switch) port ≡ waits_at (slice_get sites switch) port
over_waits law sites new w frame switch port c =
    subst (λ (xs : List Site). waits_at (slice_get xs switch) port ≡ waits_at (slice_get sites switch) port) (sym c.new_is) (elim (cases_eq switch w.to.switch) [
      | inl here ↦
          ap (λ (o : Option Site). waits_at o port)
          (ap (slice_get (slice_set sites w.to.switch now)) here ∙ set_here sites w.to.switch c.site now c.at)
          ∙ put_waits law c.site.paced w.to.port port (delayed w.delay frame) (takes c.site.paced w.to.port (frame.stamp + w.delay) c.fine).from
          ∙ ap (λ (o : Option Site). waits_at o port) (sym (ap (slice_get sites) here ∙ c.at))
      | inr other ↦ ap (λ (o : Option Site). waits_at o port) (set_elsewhere sites w.to.switch switch now other)
    ]) where
      now : Site
      now = after_putting w.to.port (delayed w.delay frame) c.site

pub over_on : LaterRecordsChangeNothing → (end : ℕ) (sites new : List Site) (w : Wire) (frame : Record) → CameOver sites new w frame → end ≤ frame.stamp + w.delay → SendOn end sites new
over_on law end sites new w frame c late =
    subst (SendOn end sites) (sym c.new_is)
    (set_on end sites w.to.switch c.site (after_putting w.to.port (delayed w.delay frame) c.site) c.at (puts_on law end w.to.port c.site (delayed w.delay frame) late))

-- ---- why it did not

pub late_wired : (net : Network) (w : Wire) (frame : Record) (why : NetworkRunFault) → wire_to net w.to ≡ Some w → NoneShareAPort net → IsLateFault w frame why → IsWireFault net why
late_wired net w frame fault.Memory wired each late = tt
late_wired net w frame (fault.Read place) wired each late = absurd late
late_wired net w frame (fault.Capture switch port why) wired each late =
    record {
      wire = w;
      wire_is = ap (λ n. wire_to net (end_by n port)) late.0 ∙ ap (λ p. wire_to net (end_by w.to.switch p)) late.1 ∙ wired;
      one_each = each;
      late = late.3;
    } where
      end_by : ℕ → ℕ → End
      end_by n p = record { switch = n; port = p }
late_wired net w frame fault.WrongWires wired each late = absurd late
late_wired net w frame (fault.Line switch port number) wired each late = absurd late

pub late_never : (w : Wire) (frame : Record) (why : NetworkRunFault) → frame.stamp + w.delay < last_second → IsLateFault w frame why → why ≡ fault.Memory
late_never w frame fault.Memory soon late = refl
late_never w frame (fault.Read place) soon late = absurd late
late_never w frame (fault.Capture switch port why) soon late = let past = late.2 in absurd (omega (arith, soon, past))
late_never w frame fault.WrongWires soon late = absurd late
late_never w frame (fault.Line switch port number) soon late = absurd late

-- ---- where no frame can be late

module _ (law : RecordsLeaveInTime) (written : AreWritten) (on : OutGoesOn) (net : Network) (given : Given) (none : NoneIsLateAnywhere net given) (accepted : All IsAccepted net.tables) where
  abbrev place : ℕ → ℕ
  place = none.order.place

  pub handed_soon : (sites : List Site) (from : End) (old : Site) (new : Paced) (out : Record) → AreSites net given sites → AreEarly place sites → slice_get sites from.switch ≡ Some old
      → GoesOut old.paced new from.port out → out.stamp ≤ after_hops (place from.switch) + 500000000
  handed_soon sites from old new out are early at g =
      let site = are.each from.switch old at in
      let t = old.paced.table in
      out_soon law written on net given from.switch (place from.switch) from.port old new out site
      (All-contains IsAccepted net.tables t accepted (from.switch, slice_get_within net.tables from.switch t site.table_is, get_or_from_slice_get net.tables from.switch t t site.table_is))
      (none.order.few from.switch) (early from.switch old at) g

  pub over_soon : (w : Wire) (out : Record) → Contains net.layout.wires w → out.stamp ≤ after_hops (place w.from.switch) + 500000000
      → (out.stamp + w.delay ≤ after_hops (place w.to.switch)) × (out.stamp + w.delay < last_second)
  over_soon w out among soon =
      comes_soon (place w.from.switch) (place w.to.switch) out.stamp w.delay
      (All-contains (λ (v : Wire). place v.from.switch < place v.to.switch) net.layout.wires w none.order.rises among) (none.order.few w.to.switch)
      (All-contains (λ (v : Wire). v.delay ≤ 1000000) net.layout.wires w none.delays among) soon

  pub over_early : (sites new : List Site) (w : Wire) (out : Record) → CameOver sites new w out → out.stamp + w.delay ≤ after_hops (place w.to.switch) → AreEarly place sites → AreEarly place new
  over_early sites new w out c by early =
      subst (AreEarly place) (sym c.new_is) (puts_early place sites w.to.switch w.to.port c.site (delayed w.delay out) c.at by early)
