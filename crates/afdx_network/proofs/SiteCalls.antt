-- A switch of the network stays one through its calls.
use Rattle.std.proofs.Common.{◌≡◌, ◌<◌, ◌≤◌, ℕ, zero, suc, ◌==◌, false, cond, List, [], ◌∷◌, ◌++◌, map, length, set, find, slice_get, Option, Some, None, refl, ap, sym, ◌∙◌}
use Rattle.std.proofs.Common.{arith, inl, inr, subst, append_assoc}
use Rattle.std.specs.List.{AllByRecursion}
use Rattle.std.specs.Option.{option_map}
use Rattle.std.proofs.lemmas.Bool.{eq-eqb, ne_eqb, cases_eq}
use Rattle.std.proofs.lemmas.List.{length-append}
use Rattle.std.proofs.lemmas.List.Elements.{All-append, All-cons, All-nil}
use Rattle.std.proofs.lemmas.Option.{same_Some}
use Rattle.afdx_units.specs.Time.{last_second}
use Rattle.afdx_pcap.specs.Record.{Record, IsWithinLimit}
use Rattle.afdx_pcap.specs.Text.{record_text, capture_text, AreReadable}
use Rattle.afdx_pcap.specs.Fault.{last_stamp}
use Rattle.afdx_table.specs.declared.rows.PortRow.{PortRow}
use Rattle.afdx_table.specs.Content.{port_row}
use Rattle.afdx_table.specs.WellFormed.{Rises}
use Rattle.afdx_session.specs.Texts.{Text}
use Rattle.afdx_paced.specs.Paced.{Lane, Paced, changed, came_in, went_out, lane_at, out_up_to, after_going, after_leaving, put_refusal, IsNext}
use Rattle.afdx_paced.specs.Laws.{LaterRecordsChangeNothing, OutGoesOn}
use Rattle.afdx_wiring.specs.declared.layout.Wire.{Wire}
use Rattle.afdx_network_check.specs.Net.{Network, wire_to}
use Rattle.afdx_network.specs.Runs.{Given}
use Rattle.afdx_network.specs.Inner.Sites.{Site, end_at, left_texts, AtPorts, IsCame, IsPrefix, IsRunning, IsSite, HasSent, after_putting, WentTo, HandsOut}
use Rattle.afdx_network.proofs.Lanes.{of_port, all_changed, at_lane, map_changed, port_is, was_there, changed_here, changed_elsewhere}
use Rattle.afdx_network.proofs.Outs.{out_left, put_next, leave_next, Takes, takes}

abbrev pub AppendsOne : Type 0
AppendsOne = (rs : List Record) (r : Record) → capture_text (rs ++ r ∷ []) ≡ capture_text rs ++ record_text r

-- ---- a record comes in over a wire

readable_more : (last : ℕ) (rs : List Record) (r : Record) → AreReadable last rs → last_stamp last rs ≤ r.stamp → r.stamp < last_second → r.original ≡ length r.bytes
    → AreReadable last (rs ++ r ∷ [])
readable_more last [] r are le early whole = (le, early, whole, tt)
readable_more last (q ∷ rs) r are le early whole = (are.0, are.1, are.2, readable_more q.stamp rs r are.3 le early whole)

no_wire : (net : Network) (switch port : ℕ) (w : Wire) (n : ℕ) {P : Type 0} → n ≡ port → wire_to net (end_at switch port) ≡ Some w → wire_to net (end_at switch n) ≡ None → P
no_wire net switch port w n same some none = absurd (differ (sym none ∙ ap (λ m. wire_to net (end_at switch m)) same ∙ some)) where
  differ : None ≡ Some w → ⊥
  differ e = cc

pub running_puts : LaterRecordsChangeNothing → OutGoesOn → (s : Site) (port : ℕ) (frame : Record) → IsRunning s → s.paced.reached ≤ frame.stamp → IsRunning (after_putting port frame s)
running_puts law on s port frame is later = record {
  formed = is.formed;
  going = is.going;
  ports = map_changed (λ (l : Lane). l.port) port (came_in frame) (λ l. refl) s.paced.lanes ∙ is.ports;
  left = is.left ∙ sym (map_changed (λ (l : Lane). (l.port, capture_text l.left)) port (came_in frame) (λ l. refl) s.paced.lanes);
  next = put_next law on s.paced port frame s.next is.next later;
  prefix = λ q p l row found.
      let was = was_there (λ (m : Lane). m.left) port (came_in frame) (λ m. refl) (λ m. refl) s.paced.lanes q l found in
      let before = is.prefix q p was.0 row was.1 in
      (before.0, law s.paced port frame s.paced.reached p later ∙ before.1 ∙ ap (λ (rs : List Record). rs ++ before.0) (sym was.2));
}

pub site_puts : LaterRecordsChangeNothing → OutGoesOn → (net : Network) (given : Given) (switch port : ℕ) (s : Site) (frame : Record) (w : Wire) → IsSite net given switch s
    → wire_to net (end_at switch port) ≡ Some w → put_refusal s.paced port frame.stamp ≡ None → frame.stamp < last_second → frame.original ≡ length frame.bytes → IsWithinLimit frame
    → IsSite net given switch (after_putting port frame s)
site_puts law on net given switch port s frame w site wired fine early whole small = record {
  own = site.own;
  table_is = site.table_is;
  own_is = site.own_is;
  running = running_puts law on s port frame site.running there.from;
  came = all_changed (IsCame net switch site.own) port (came_in frame) s.paced.lanes site.came more;
} where
  there : Takes s.paced port frame.stamp
  there = takes s.paced port frame.stamp fine

  more : (l : Lane) → find (of_port port) s.paced.lanes ≡ Some l → IsCame net switch site.own (came_in frame l)
  more l found =
      let number = port_is s.paced.lanes port l found in
      let was = at_lane (IsCame net switch site.own) s.paced.lanes port l site.came found in
      let last = subst (λ (m : Lane). last_stamp 0 m.came ≤ frame.stamp) (same_Some there.lane l (sym there.lane_is ∙ found)) there.last in
      record {
        given = λ none. no_wire net switch port w l.port number wired none;
        brought = λ v is.
            let before = was.brought v is in (
              readable_more 0 l.came frame before.0 last early whole,
              All-append IsWithinLimit l.came (frame ∷ []) before.1 (All-cons IsWithinLimit frame [] small (All-nil IsWithinLimit)),
            );
      }

pub puts_sent : LaterRecordsChangeNothing → (s : Site) (port h : ℕ) (frame : Record) → h ≤ frame.stamp → HasSent (Some h) s → HasSent (Some h) (after_putting port frame s)
puts_sent law s port h frame le sent q p l row found =
    let was = was_there (λ (m : Lane). m.left) port (came_in frame) (λ m. refl) (λ m. refl) s.paced.lanes q l found in
    let before = sent q p was.0 row was.1 in
    let same = ap length (law s.paced port frame h p le) in
    let left = ap length was.2 in
    omega (arith, before, same, left)

-- ---- it goes on

made : Paced → List Text → List (List ℕ) → Option ℕ → Site
made v left gone next = record { paced = v; left = left; gone = gone; next = next }

pub went_is : (h : ℕ) (old new : Site) → WentTo h old new → new ≡ record { paced = after_going h old.paced; left = old.left; gone = old.gone; next = new.next }
unfolding made
went_is h old new went =
    ap (λ (v : Paced). made v new.left new.gone new.next) went.paced
    ∙ ap (λ (left : List Text). made (after_going h old.paced) left new.gone new.next) went.left
    ∙ ap (λ (gone : List (List ℕ)). made (after_going h old.paced) old.left gone new.next) went.gone

pub site_goes : OutGoesOn → (net : Network) (given : Given) (switch h : ℕ) (old new : Site) → IsSite net given switch old → old.paced.reached ≤ h → WentTo h old new → IsSite net given switch new
site_goes on net given switch h old new site later went = subst (IsSite net given switch) (sym (went_is h old new went)) (record {
  own = site.own;
  table_is = site.table_is;
  own_is = site.own_is;
  running = record {
    formed = site.running.formed;
    going = site.running.going;
    ports = site.running.ports;
    left = site.running.left;
    next = subst (λ (v : Paced). IsNext v new.next) went.paced went.next;
    prefix = λ q p l row found.
        let before = site.running.prefix q p l row found in
        let more = on.until old.paced old.paced.reached h p later in
        (before.0 ++ more.0, more.1 ∙ ap (λ (rs : List Record). rs ++ more.0) before.1 ∙ append_assoc l.left before.0 more.0);
  };
  came = site.came;
})

pub goes_sent : (h : ℕ) (old new : Site) (n : Option ℕ) → WentTo h old new → HasSent n old → HasSent n new
goes_sent h old new n went sent = subst (HasSent n) (sym (went_is h old new went)) sent

-- ---- a record leaves

above_port : (n : ℕ) (ports : List PortRow) (lanes : List Lane) (k port : ℕ) (text : List ℕ) → AllByRecursion (λ (q : PortRow). n < q.id) ports
    → map (λ (l : Lane). l.port) lanes ≡ map (λ (p : PortRow). p.id) ports → slice_get (left_texts lanes) k ≡ Some (port, text) → n < port
above_port n ports [] k port text all same at = absurd (differ at) where
  differ : {x : Text} → None ≡ Some x → ⊥
  differ e = cc
above_port n [] (l ∷ lanes) k port text all same at = absurd cc
above_port n (p ∷ ports) (l ∷ lanes) zero port text all same at =
    let first : l.port ≡ p.id = cc in
    let number = ap (λ (x : Text). x.0) (same_Some (l.port, capture_text l.left) (port, text) at) in
    let less = all.0 in omega (arith, first, number, less)
above_port n (p ∷ ports) (l ∷ lanes) (suc k) port text all same at =
    let rest : map (λ (m : Lane). m.port) lanes ≡ map (λ (q : PortRow). q.id) ports = cc in
    above_port n ports lanes k port text all.1 rest at

-- the capture of a port, where one record more has left
pub left_more : AppendsOne → (ports : List PortRow) (lanes : List Lane) (place port : ℕ) (text : List ℕ) (out : Record) → Rises ports
    → map (λ (l : Lane). l.port) lanes ≡ map (λ (p : PortRow). p.id) ports → slice_get (left_texts lanes) place ≡ Some (port, text)
    → set (left_texts lanes) place (port, text ++ record_text out) ≡ left_texts (changed port (went_out out) lanes)
left_more one ports [] place port text out rises same at = absurd (differ at) where
  differ : {x : Text} → None ≡ Some x → ⊥
  differ e = cc
left_more one [] (l ∷ lanes) place port text out rises same at = absurd cc
left_more one (p ∷ ports) (l ∷ lanes) zero port text out rises same at =
    let is = same_Some (l.port, capture_text l.left) (port, text) at in
    let number : l.port ≡ port = ap (λ (x : Text). x.0) is in
    let bytes : capture_text l.left ≡ text = ap (λ (x : Text). x.1) is in
    let first : (port, text ++ record_text out) ≡ (l.port, capture_text (l.left ++ out ∷ []))
    = ap (λ n. (n, text ++ record_text out)) (sym number) ∙ ap (λ (b : List ℕ). (l.port, b)) (ap (λ (b : List ℕ). b ++ record_text out) (sym bytes) ∙ sym (one l.left out)) in
    ap (λ (x : Text). x ∷ left_texts lanes) first
    ∙ sym (ap (λ b. left_texts (cond b (went_out out l ∷ lanes) (l ∷ changed port (went_out out) lanes))) (eq-eqb l.port port number))
left_more one (p ∷ ports) (l ∷ lanes) (suc k) port text out rises same at =
    let first : l.port ≡ p.id = cc in
    let rest : map (λ (m : Lane). m.port) lanes ≡ map (λ (q : PortRow). q.id) ports = cc in
    let less = above_port p.id ports lanes k port text rises.0 rest at in
    let other : (l.port == port) ≡ false = ne_eqb l.port port (λ is. omega (arith, is, first, less)) in
    ap (λ (xs : List Text). (l.port, capture_text l.left) ∷ xs) (left_more one ports lanes k port text out rises.1 rest at)
    ∙ sym (ap (λ b. left_texts (cond b (went_out out l ∷ lanes) (l ∷ changed port (went_out out) lanes))) other)

pub hands_is : (old new : Site) (place port : ℕ) (out : Record) → HandsOut old new place port out
    → new ≡ record { paced = after_leaving port out old.paced; left = new.left; gone = old.gone; next = old.next }
unfolding made
hands_is old new place port out h =
    ap (λ (v : Paced). made v new.left new.gone new.next) h.out_is.after
    ∙ ap (λ (gone : List (List ℕ)). made (after_leaving port out old.paced) new.left gone new.next) h.gone
    ∙ ap (made (after_leaving port out old.paced) new.left old.gone) h.next

pub site_hands : AppendsOne → (net : Network) (given : Given) (switch place port : ℕ) (old new : Site) (out : Record) → IsSite net given switch old → HandsOut old new place port out
    → IsSite net given switch new
site_hands one net given switch place port old new out site h = subst (IsSite net given switch) (sym (hands_is old new place port out h)) (record {
  own = site.own;
  table_is = site.table_is;
  own_is = site.own_is;
  running = record {
    formed = site.running.formed;
    going = site.running.going;
    ports = map_changed (λ (l : Lane). l.port) port (went_out out) (λ l. refl) old.paced.lanes ∙ site.running.ports;
    left = h.left ∙ ap (λ (xs : List Text). set xs place (port, h.text ++ record_text out)) site.running.left
        ∙ left_more one old.paced.table.ports old.paced.lanes place port h.text out site.running.formed.ports_rise site.running.ports
        (ap (λ (xs : List Text). slice_get xs place) (sym site.running.left) ∙ h.was);
    next = leave_next old.paced port out old.next site.running.next;
    prefix = prefix;
  };
  came = all_changed (IsCame net switch site.own) port (went_out out) old.paced.lanes site.came
      (λ l found. let was = at_lane (IsCame net switch site.own) old.paced.lanes port l site.came found in record { given = was.given; brought = was.brought });
}) where
  prefix : AtPorts (IsPrefix (after_leaving port out old.paced)) (after_leaving port out old.paced)
  prefix q p l row found = elim (cases_eq q port) [
    | inl here ↦ at_port q p l row found here
    | inr other ↦
        let was = changed_elsewhere port q (went_out out) (λ m. refl) other old.paced.lanes in
        let before = site.running.prefix q p l row (sym was ∙ found) in
        (before.0, out_left old.paced port out (Some old.paced.reached) p ∙ before.1)
  ] where
    at_port : (q : ℕ) (p : PortRow) (l : Lane) → port_row old.paced.table q ≡ Some p → lane_at (after_leaving port out old.paced) q ≡ Some l → q ≡ port
        → IsPrefix (after_leaving port out old.paced) p l
    at_port q p l row found here =
        let g = h.out_is in
        let now : went_out out g.lane ≡ l
        = same_Some (went_out out g.lane) l
        (sym (ap (λ n. find (of_port n) (changed port (went_out out) old.paced.lanes)) here ∙ changed_here port (went_out out) (λ m. refl) old.paced.lanes
        ∙ ap (option_map (went_out out)) g.lane_is) ∙ found) in
        let same : g.row ≡ p = same_Some g.row p (sym g.row_is ∙ ap (port_row old.paced.table) (sym here) ∙ row) in (
          g.rest,
          out_left old.paced port out (Some old.paced.reached) p
              ∙ ap (out_up_to old.paced (Some old.paced.reached)) (sym same)
              ∙ g.next ∙ sym (append_assoc g.lane.left (out ∷ []) g.rest)
              ∙ ap (λ (m : Lane). m.left ++ g.rest) now,
        )

pub hands_sent : (old new : Site) (place port : ℕ) (out : Record) (n : Option ℕ) → HandsOut old new place port out → HasSent n old → HasSent n new
hands_sent old new place port out n h sent = subst (HasSent n) (sym (hands_is old new place port out h)) more where
  more : HasSent n (record { paced = after_leaving port out old.paced; left = new.left; gone = old.gone; next = old.next })
  more q p l row found = elim (cases_eq q port) [
    | inl here ↦
        let g = h.out_is in
        let now : went_out out g.lane ≡ l
        = same_Some (went_out out g.lane) l
        (sym (ap (λ m. find (of_port m) (changed port (went_out out) old.paced.lanes)) here ∙ changed_here port (went_out out) (λ m. refl) old.paced.lanes
        ∙ ap (option_map (went_out out)) g.lane_is) ∙ found) in
        let before = sent q p g.lane row (ap (lane_at old.paced) here ∙ g.lane_is) in
        let same = ap length (out_left old.paced port out n p) in
        let grows = length-append g.lane.left (out ∷ []) in
        let left = ap (λ (m : Lane). length m.left) now in
        omega (arith, before, same, grows, left)
    | inr other ↦
        let was = changed_elsewhere port q (went_out out) (λ m. refl) other old.paced.lanes in
        let before = sent q p l row (sym was ∙ found) in
        let same = ap length (out_left old.paced port out n p) in
        omega (arith, before, same)
  ]
