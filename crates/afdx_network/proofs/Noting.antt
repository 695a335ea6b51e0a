-- What is noted of the copies that ports send, through the calls of a run.
use Rattle.std.proofs.Common.{Bool, ◌≡◌, ◌≤◌, ◌+◌, ◌==◌, ◌&&◌, ℕ, true, false, cond, List, [], ◌∷◌, ◌++◌, map, find, length, slice_get, Option, Some, None, refl, ap, sym, ◌∙◌, subst, arith, inl, inr}
use Rattle.std.proofs.Common.{append_assoc}
use Rattle.std.specs.Prelude.{filter, slice_set, ◌⊎◌}
use Rattle.std.specs.List.{AllZip}
use Rattle.std.specs.Option.{option_map}
use Rattle.std.proofs.lemmas.Bool.{cases_eq, eqb-true, eq-eqb, ne_eqb}
use Rattle.std.proofs.lemmas.List.{map-append, length-append, append-nil}
use Rattle.std.proofs.lemmas.List.Elements.{filter-append}
use Rattle.std.proofs.lemmas.Option.{same_Some, slice_get-map}
use Rattle.afdx_pcap.specs.Record.{Record}
use Rattle.afdx_table.specs.declared.rows.PortRow.{PortRow}
use Rattle.afdx_table.specs.Content.{port_row}
use Rattle.afdx_port.specs.declared.Sent.{Sent}
use Rattle.afdx_core.specs.Merge.{Capture, merged}
use Rattle.afdx_session.specs.Output.{written}
use Rattle.afdx_session.specs.Streams.{sent_up_to}
use Rattle.afdx_paced.specs.Paced.{Lane, Paced, arrivals, capture_of, changed, came_in, went_out, lane_at, sends_up_to, put_refusal, after_put, after_going, after_leaving, GoesOut}
use Rattle.afdx_paced.specs.Paced.{sent_behind, next_sent_of}
use Rattle.afdx_paced.specs.Laws.{LaterRecordsSendNothing, SendsGoOn}
use Rattle.afdx_wiring.specs.declared.layout.End.{End}
use Rattle.afdx_wiring.specs.declared.layout.Wire.{Wire}
use Rattle.afdx_wiring.specs.File.{is_end}
use Rattle.afdx_network_check.specs.Net.{Network}
use Rattle.afdx_origins.specs.declared.departure.Departure.{Departure}
use Rattle.afdx_origins.specs.Origins.{Origins, sent_from, after_sending}
use Rattle.afdx_network.specs.Way.{delayed}
use Rattle.afdx_network.specs.Inner.Sites.{Site, end_at, AtPorts, after_putting, WentTo, CameOver, HandsOver}
use Rattle.afdx_network.specs.Inner.Noted.{IsNotedOnce, IsNotedAt, AreNotedAt, AreNoted}
use Rattle.afdx_network.proofs.Found.{found_passes}
use Rattle.afdx_network.proofs.Lanes.{of_port, changed_here, changed_elsewhere, map_changed, was_there, set_here, set_elsewhere}
use Rattle.afdx_network.proofs.Lists.{zip_back}
use Rattle.afdx_network.proofs.Outs.{takes}
use Rattle.afdx_network.proofs.Places.{got_set}

abbrev pub AreNotedOf : Origins → ℕ → Paced → Type 0
AreNotedOf o switch v = AtPorts (IsNotedAt o switch v) v

-- ---- one departure more

abbrev one_more : End → Sent → List Departure
one_more e x = record { from = e; copy = x } ∷ []

from_more : (all : List Departure) (e d : End) (x : Sent) → sent_from (all ++ one_more d x) e ≡ sent_from all e ++ sent_from (one_more d x) e
from_more all e d x =
    let of_port = λ (y : Departure). is_end y.from e in
    let copy = λ (y : Departure). y.copy in
    ap (map copy) (filter-append of_port all (one_more d x)) ∙ map-append copy (filter of_port all) (filter of_port (one_more d x))

more_here : (all : List Departure) (e d : End) (x : Sent) → is_end d e ≡ true → sent_from (all ++ one_more d x) e ≡ sent_from all e ++ x ∷ []
more_here all e d x here =
    from_more all e d x ∙ ap (λ b. sent_from all e ++ map (λ (y : Departure). y.copy) (cond b (one_more d x) [])) here

more_there : (all : List Departure) (e d : End) (x : Sent) → is_end d e ≡ false → sent_from (all ++ one_more d x) e ≡ sent_from all e
more_there all e d x other =
    from_more all e d x ∙ ap (λ b. sent_from all e ++ map (λ (y : Departure). y.copy) (cond b (one_more d x) [])) other ∙ append-nil (sent_from all e)

same_port : (switch port q : ℕ) → q ≡ port → is_end (end_at switch port) (end_at switch q) ≡ true
same_port switch port q same = ap (λ b. b && (port == q)) (eq-eqb switch switch refl) ∙ eq-eqb port q (sym same)

other_port : (switch port q : ℕ) → (q ≡ port → ⊥) → is_end (end_at switch port) (end_at switch q) ≡ false
other_port switch port q differ = ap (λ b. b && (port == q)) (eq-eqb switch switch refl) ∙ ne_eqb port q (λ same. differ (sym same))

other_switch : (switch port n q : ℕ) → (n ≡ switch → ⊥) → is_end (end_at switch port) (end_at n q) ≡ false
other_switch switch port n q differ = ap (λ b. b && (port == q)) (ne_eqb switch n (λ same. differ (sym same)))

number_is : (v : Paced) (port : ℕ) (p : PortRow) → port_row v.table port ≡ Some p → p.id ≡ port
number_is v port p row = eqb-true p.id port (found_passes (λ (q : PortRow). q.id == port) v.table.ports p row).0

-- ---- one switch

-- a record comes in
pub noted_put : LaterRecordsSendNothing → (o : Origins) (switch port : ℕ) (v : Paced) (frame : Record) → v.reached ≤ frame.stamp → AreNotedOf o switch v → AreNotedOf o switch (after_put port frame v)
noted_put law o switch port v frame le h q p l row found =
    let was = was_there (λ (m : Lane). m.left) port (came_in frame) (λ m. refl) (λ m. refl) v.lanes q l found in
    let at = h q p was.0 row was.1 in
    record { rest = at.rest; first = law v port frame v.reached p le ∙ at.first; many = at.many ∙ ap length (sym was.2) }

-- it comes to an instant
pub noted_go : SendsGoOn → (o : Origins) (switch m : ℕ) (v : Paced) → v.reached ≤ m → AreNotedOf o switch v → AreNotedOf o switch (after_going m v)
noted_go on o switch m v le h q p l row found =
    let at = h q p l row found in
    let more = on.until v v.reached m p le in
    let mine = sent_from o.sent (end_at switch p.id) in
    record { rest = at.rest ++ more.0; first = more.1 ∙ ap (λ (xs : List Sent). xs ++ more.0) at.first ∙ append_assoc mine at.rest more.0; many = at.many }

-- a record that has left changes nothing of what is sent
sends_left : (v : Paced) (port : ℕ) (out : Record) (h : Option ℕ) (p : PortRow) → sends_up_to (after_leaving port out v) h p ≡ sends_up_to v h p
sends_left v port out h p =
    ap (λ (captures : List Capture). sent_up_to v.table (merged captures) h p) (map_changed capture_of port (went_out out) (λ l. refl) v.lanes)

-- what comes behind as many as there are in front
behind : {X : Type 0} (front rest : List X) (x : X) → slice_get (front ++ rest) (length front) ≡ Some x → (tail : List X) × (rest ≡ x ∷ tail)
behind [] [] x is = absurd cc
behind [] (y ∷ rest) x is = (rest, ap (λ z. z ∷ rest) (same_Some y x is))
behind (y ∷ front) rest x is = behind front rest x is

at_front : {X : Type 0} (front rest : List X) (x : X) → slice_get (front ++ x ∷ rest) (length front) ≡ Some x
at_front [] rest x = refl
at_front (y ∷ front) rest x = at_front front rest x

-- what leaves was sent as something
pub sent_as : (old new : Paced) (port : ℕ) (out : Record) (sent : Option Sent) (g : GoesOut old new port out) → sent ≡ next_sent_of old port
    → (x : Sent) × (sent ≡ Some x) × (slice_get (sends_up_to old (Some old.reached) g.row) (length g.lane.left) ≡ Some x)
sent_as old new port out sent g next = by sent (next ∙ here) where
  here : next_sent_of old port ≡ slice_get (sends_up_to old (Some old.reached) g.row) (length g.lane.left)
  here = ap (λ (o : Option Lane). sent_behind old o (port_row old.table port)) g.lane_is ∙ ap (sent_behind old (Some g.lane)) g.row_is

  sends : List Sent
  sends = sends_up_to old (Some old.reached) g.row

  there : option_map (written (arrivals old)) (slice_get sends (length g.lane.left)) ≡ Some out
  there =
      sym (slice_get-map (written (arrivals old)) sends (length g.lane.left)) ∙ ap (λ (xs : List Record). slice_get xs (length g.lane.left)) g.next
      ∙ at_front g.lane.left g.rest out

  by : (o : Option Sent) → o ≡ slice_get sends (length g.lane.left) → (x : Sent) × (o ≡ Some x) × (slice_get sends (length g.lane.left) ≡ Some x)
  by (Some x) is = (x, refl, sym is)
  by None is = absurd (differ (ap (option_map (written (arrivals old))) is ∙ there)) where
    differ : None ≡ Some out → ⊥
    differ e = absurd cc

-- the next record of a port leaves, and its copy is noted
pub noted_out : (o : Origins) (switch port : ℕ) (old new : Paced) (out : Record) (x : Sent) (g : GoesOut old new port out)
    → slice_get (sends_up_to old (Some old.reached) g.row) (length g.lane.left) ≡ Some x → AreNotedOf o switch old → AreNotedOf (after_sending (end_at switch port) x o) switch new
noted_out o switch port old new out x g is h = subst (AreNotedOf (after_sending (end_at switch port) x o) switch) (sym g.after) each where
  v : Paced
  v = after_leaving port out old

  mine : List Sent
  mine = sent_from o.sent (end_at switch g.row.id)

  before : IsNotedAt o switch old g.row g.lane
  before = h port g.row g.lane g.row_is g.lane_is

  tail : (tail : List Sent) × (before.rest ≡ x ∷ tail)
  tail = behind mine before.rest x (ap (slice_get (mine ++ before.rest)) before.many ∙ sym (ap (λ (xs : List Sent). slice_get xs (length g.lane.left)) before.first) ∙ is)

  here : IsNotedAt (after_sending (end_at switch port) x o) switch v g.row (went_out out g.lane)
  here =
      let grown = more_here o.sent (end_at switch g.row.id) (end_at switch port) x (same_port switch port g.row.id (number_is old port g.row g.row_is)) in
      let copies = ap length grown ∙ length-append mine (x ∷ []) in
      let records = length-append g.lane.left (out ∷ []) in
      let same = before.many in
      record {
        rest = tail.0;
        first = sends_left old port out (Some old.reached) g.row ∙ before.first ∙ ap (λ (xs : List Sent). mine ++ xs) tail.1 ∙ sym (append_assoc mine (x ∷ []) tail.0)
            ∙ ap (λ (xs : List Sent). xs ++ tail.0) (sym grown);
        many = omega (arith, copies, records, same);
      }

  there : (q : ℕ) (p : PortRow) (l : Lane) → (q ≡ port → ⊥) → port_row old.table q ≡ Some p → lane_at old q ≡ Some l → IsNotedAt (after_sending (end_at switch port) x o) switch v p l
  there q p l other row found =
      let at = h q p l row found in
      let apart = other_port switch port p.id (λ same. other (sym (number_is old q p row) ∙ same)) in
      let kept = more_there o.sent (end_at switch p.id) (end_at switch port) x apart in
      record {
        rest = at.rest;
        first = sends_left old port out (Some old.reached) p ∙ at.first ∙ ap (λ (xs : List Sent). xs ++ at.rest) (sym kept);
        many = ap length kept ∙ at.many;
      }

  each : AreNotedOf (after_sending (end_at switch port) x o) switch v
  each q p l row found = elim (cases_eq q port) [
    | inl same ↦
        let row_same : g.row ≡ p = same_Some g.row p (sym g.row_is ∙ ap (port_row old.table) (sym same) ∙ row) in
        let lane_same : went_out out g.lane ≡ l
        = same_Some (went_out out g.lane) l
        (sym (changed_here port (went_out out) (λ m. refl) old.lanes ∙ ap (option_map (went_out out)) g.lane_is)
        ∙ ap (λ n. find (of_port n) (changed port (went_out out) old.lanes)) (sym same) ∙ found) in
        subst (λ (m : Lane). IsNotedAt (after_sending (end_at switch port) x o) switch v p m) lane_same
        (subst (λ (r : PortRow). IsNotedAt (after_sending (end_at switch port) x o) switch v r (went_out out g.lane)) row_same here)
    | inr other ↦ there q p l other row (sym (changed_elsewhere port q (went_out out) (λ m. refl) other old.lanes) ∙ found)
  ]

-- what another switch sends changes nothing of what is noted of it
noted_beside : (o : Origins) (switch port n : ℕ) (v : Paced) (x : Sent) → (n ≡ switch → ⊥) → AreNotedOf o n v → AreNotedOf (after_sending (end_at switch port) x o) n v
noted_beside o switch port n v x other h q p l row found =
    let at = h q p l row found in
    let kept = more_there o.sent (end_at n p.id) (end_at switch port) x (other_switch switch port n p.id other) in
    record { rest = at.rest; first = at.first ∙ ap (λ (xs : List Sent). xs ++ at.rest) (sym kept); many = ap length kept ∙ at.many }

-- ---- all switches

-- one of them is another one
pub noted_set : (net : Network) (keeps : Bool) (origins : Option Origins) (sites : List Site) (switch : ℕ) (old new : Site) → slice_get sites switch ≡ Some old → new.paced.keeps ≡ old.paced.keeps
    → ((o : Origins) → AreNotedOf o switch old.paced → AreNotedOf o switch new.paced) → AreNoted net keeps sites origins → AreNoted net keeps (slice_set sites switch new) origins
noted_set net keeps None sites switch old new at same on h = tt
noted_set net keeps (Some o) sites switch old new at same on h = record {
  network = h.network;
  kept = λ n s is. kept n s (got_set sites switch n new s is);
  each = λ n s is. by n s (got_set sites switch n new s is);
} where
  kept : (n : ℕ) (s : Site) → ((n ≡ switch) × (new ≡ s)) ⊎ (slice_get sites n ≡ Some s) → s.paced.keeps ≡ keeps
  kept n s (inl here) = ap (λ (t : Site). t.paced.keeps) (sym here.1) ∙ same ∙ h.kept switch old at
  kept n s (inr there) = h.kept n s there

  by : (n : ℕ) (s : Site) → ((n ≡ switch) × (new ≡ s)) ⊎ (slice_get sites n ≡ Some s) → AreNotedOf o n s.paced
  by n s (inl here) = subst (λ (t : Site). AreNotedOf o n t.paced) here.1 (subst (λ k. AreNotedOf o k new.paced) (sym here.0) (on o (h.each switch old at)))
  by n s (inr there) = h.each n s there

-- what a departure changes of a switch
same_keeps : (old new : Paced) (port : ℕ) (out : Record) → GoesOut old new port out → new.keeps ≡ old.keeps
same_keeps old new port out g = ap (λ (v : Paced). v.keeps) g.after

-- a record leaves one of them, and its copy is noted once
pub noted_once : (net : Network) (keeps : Bool) (was is : Option Origins) (sites : List Site) (e : End) (old new : Site) (out : Record) (sent : Option Sent) → slice_get sites e.switch ≡ Some old
    → GoesOut old.paced new.paced e.port out → sent ≡ next_sent_of old.paced e.port → IsNotedOnce e sent was is → AreNoted net keeps sites was → AreNoted net keeps (slice_set sites e.switch new) is
noted_once net keeps was is sites e old new out sent at g next once h =
    by was is (subst (λ (s : Option Sent). IsNotedOnce e s was is) shown.1 once) h where
      shown : (x : Sent) × (sent ≡ Some x) × (slice_get (sends_up_to old.paced (Some old.paced.reached) g.row) (length g.lane.left) ≡ Some x)
      shown = sent_as old.paced new.paced e.port out sent g next

      nothing : (now : Option Origins) → now ≡ None → AreNoted net keeps (slice_set sites e.switch new) now
      nothing now none = subst (AreNoted net keeps (slice_set sites e.switch new)) (sym none) tt

      is_new : (n : ℕ) (s : Site) → n ≡ e.switch → slice_get (slice_set sites e.switch new) n ≡ Some s → new ≡ s
      is_new n s same at_n = same_Some new s (sym (set_here sites e.switch old new at) ∙ ap (slice_get (slice_set sites e.switch new)) (sym same) ∙ at_n)

      all : (o : Origins) → AreNotedAt net keeps o sites → AreNotedAt net keeps (after_sending e shown.0 o) (slice_set sites e.switch new)
      all o noted = record {
        network = noted.network;
        kept = λ n s at_n. elim (cases_eq n e.switch) [
          | inl same ↦ ap (λ (t : Site). t.paced.keeps) (sym (is_new n s same at_n)) ∙ same_keeps old.paced new.paced e.port out g ∙ noted.kept e.switch old at
          | inr other ↦ noted.kept n s (sym (set_elsewhere sites e.switch n new other) ∙ at_n)
        ];
        each = λ n s at_n. elim (cases_eq n e.switch) [
          | inl same ↦
              subst (λ (t : Site). AreNotedOf (after_sending e shown.0 o) n t.paced) (is_new n s same at_n)
              (subst (λ k. AreNotedOf (after_sending e shown.0 o) k new.paced) (sym same) (noted_out o e.switch e.port old.paced new.paced out shown.0 g shown.2 (noted.each e.switch old at)))
          | inr other ↦ noted_beside o e.switch e.port n s.paced shown.0 other (noted.each n s (sym (set_elsewhere sites e.switch n new other) ∙ at_n))
        ];
      }

      by : (old_one now : Option Origins) → IsNotedOnce e (Some shown.0) old_one now → AreNoted net keeps sites old_one → AreNoted net keeps (slice_set sites e.switch new) now
      by None now once noted = nothing now once
      by (Some o) now (inl none) noted = nothing now none
      by (Some o) now (inr more) noted = subst (AreNoted net keeps (slice_set sites e.switch new)) (sym more) (all o noted)

-- none leaves
pub noted_same : (net : Network) (keeps : Bool) (origins : Option Origins) (old new : List Site) → new ≡ old → AreNoted net keeps old origins → AreNoted net keeps new origins
noted_same net keeps origins old new same h = subst (λ (xs : List Site). AreNoted net keeps xs origins) (sym same) h

pub noted_both : (net : Network) (keeps : Bool) (origins other : Option Origins) (old new : List Site) → other ≡ origins → new ≡ old → AreNoted net keeps old origins → AreNoted net keeps new other
noted_both net keeps origins other old new is same h = subst (AreNoted net keeps new) (sym is) (noted_same net keeps origins old new same h)

-- a record comes in at one of them
pub noted_in : LaterRecordsSendNothing → (net : Network) (keeps : Bool) (origins : Option Origins) (sites new : List Site) (switch port : ℕ) (site : Site) (frame : Record)
    → slice_get sites switch ≡ Some site → put_refusal site.paced port frame.stamp ≡ None → new ≡ slice_set sites switch (after_putting port frame site)
    → AreNoted net keeps sites origins → AreNoted net keeps new origins
noted_in law net keeps origins sites new switch port site frame at fine is h =
    noted_same net keeps origins (slice_set sites switch (after_putting port frame site)) new is
    (noted_set net keeps origins sites switch site (after_putting port frame site) at refl
    (λ o known. noted_put law o switch port site.paced frame (takes site.paced port frame.stamp fine).from known) h)

-- it comes over a wire
pub noted_over : LaterRecordsSendNothing → (net : Network) (keeps : Bool) (origins : Option Origins) (sites new : List Site) (w : Wire) (frame : Record) → CameOver sites new w frame
    → AreNoted net keeps sites origins → AreNoted net keeps new origins
noted_over law net keeps origins sites new w frame came h =
    noted_in law net keeps origins sites new w.to.switch w.to.port came.site (delayed w.delay frame) came.at came.fine came.new_is h

-- one of them comes to an instant
pub noted_went : SendsGoOn → (net : Network) (keeps : Bool) (origins : Option Origins) (sites : List Site) (switch h : ℕ) (old new : Site) → slice_get sites switch ≡ Some old → old.paced.reached ≤ h
    → WentTo h old new → AreNoted net keeps sites origins → AreNoted net keeps (slice_set sites switch new) origins
noted_went on net keeps origins sites switch h old new at le went known =
    noted_set net keeps origins sites switch old new at (ap (λ (v : Paced). v.keeps) went.paced)
    (λ o are. subst (AreNotedOf o switch) (sym went.paced) (noted_go on o switch h old.paced le are)) known

-- a part of what has left goes to the files
pub noted_handed : (net : Network) (keeps : Bool) (origins : Option Origins) (old new : List Site) → AllZip HandsOver old new → AreNoted net keeps old origins → AreNoted net keeps new origins
noted_handed net keeps None old new zip h = tt
noted_handed net keeps (Some o) old new zip h = record {
  network = h.network;
  kept = λ n s at. let was = zip_back HandsOver old new zip n s at in ap (λ (v : Paced). v.keeps) was.2.paced ∙ h.kept n was.0 was.1;
  each = λ n s at. let was = zip_back HandsOver old new zip n s at in subst (AreNotedOf o n) (sym was.2.paced) (h.each n was.0 was.1);
}
