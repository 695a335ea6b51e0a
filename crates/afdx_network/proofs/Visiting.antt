-- A switch comes to the end of a window, and all that left it goes on.
use Rattle.std.proofs.Common.{◌≡◌, ◌≤◌, ◌==◌, ℕ, suc, Bool, true, false, cond, List, [], ◌∷◌, length, find, slice_get, Some, refl, ap, sym, ◌∙◌}
use Rattle.std.proofs.Common.{arith, inl, inr, subst}
use Rattle.std.specs.Prelude.{slice_set, option_and_then, ◌⊎◌}
use Rattle.std.specs.Option.{option_map}
use Rattle.std.proofs.lemmas.Bool.{cases_eq, eqb-true}
use Rattle.std.proofs.lemmas.List.{length-set, length-append}
use Rattle.std.proofs.lemmas.List.Elements.{All-set, All-weaker}
use Rattle.std.proofs.lemmas.Option.{same_Some}
use Rattle.afdx_pcap.specs.Record.{Record}
use Rattle.afdx_pcap.specs.Text.{capture_text}
use Rattle.afdx_table.specs.Content.{Content, port_row}
use Rattle.afdx_session.specs.Texts.{Text}
use Rattle.afdx_paced.specs.Paced.{Lane, Paced, changed, lane_at, out_up_to, came_in, went_out, NoneGoesOut}
use Rattle.afdx_paced.specs.Laws.{LaterRecordsChangeNothing, OutGoesOn}
use Rattle.afdx_wiring.specs.declared.layout.End.{End}
use Rattle.afdx_network_check.specs.Net.{Network}
use Rattle.afdx_network.specs.Runs.{Given}
use Rattle.afdx_network.specs.Inner.Sites.{Site, left_texts, lane_there, IsSite, IsCarried, HasSent, HasSentAt, IsIn, AreInWindow, SendsOn, SendOn, after_putting, WentTo, HandsOut}
use Rattle.afdx_network.proofs.InWindow.{at_site}
use Rattle.afdx_network.proofs.Lanes.{of_port, changed_here, changed_elsewhere, was_there, set_elsewhere, there_set, there_was}
use Rattle.afdx_network.proofs.Outs.{out_left}
use Rattle.afdx_network.proofs.Places.{got_set}
use Rattle.afdx_network.proofs.SiteCalls.{site_goes, goes_sent, hands_is}
use Rattle.afdx_network.proofs.WindowEnds.{sends_on}

-- ---- a switch sends on

pub stays_on : (end : ℕ) (s : Site) → SendsOn end s s
stays_on end s = record { table = refl; reached = refl; out = λ h p le. refl; left = λ port l found. (l, found, omega arith) }

pub puts_on : LaterRecordsChangeNothing → (end port : ℕ) (s : Site) (frame : Record) → end ≤ frame.stamp → SendsOn end s (after_putting port frame s)
puts_on law end port s frame late = record {
  table = refl;
  reached = refl;
  out = λ h p le. law s.paced port frame h p (omega (arith, le, late));
  left = λ q l found.
      let was = was_there (λ (m : Lane). m.left) port (came_in frame) (λ m. refl) (λ m. refl) s.paced.lanes q l found in
      let same = ap length was.2 in
      (was.0, was.1, omega (arith, same));
}

pub hands_on : (end place port : ℕ) (old new : Site) (out : Record) → HandsOut old new place port out → SendsOn end old new
hands_on end place port old new out h = subst (SendsOn end old) (sym (hands_is old new place port out h)) (record {
  table = refl;
  reached = refl;
  out = λ n p le. out_left old.paced port out (Some n) p;
  left = λ q l found. elim (cases_eq q port) [
    | inl here ↦
        let g = h.out_is in
        let now : went_out out g.lane ≡ l
        = same_Some (went_out out g.lane) l
        (sym (ap (λ n. find (of_port n) (changed port (went_out out) old.paced.lanes)) here ∙ changed_here port (went_out out) (λ m. refl) old.paced.lanes
        ∙ ap (option_map (went_out out)) g.lane_is) ∙ found) in
        let grows = length-append g.lane.left (out ∷ []) in
        let left = ap (λ (m : Lane). length m.left) now in
        (g.lane, ap (lane_at old.paced) here ∙ g.lane_is, omega (arith, grows, left))
    | inr other ↦ (l, sym (changed_elsewhere port q (went_out out) (λ m. refl) other old.paced.lanes) ∙ found, omega arith)
  ];
})

-- ---- so do all

pub all_stay : (end : ℕ) (sites : List Site) → SendOn end sites sites
all_stay end sites = record { all = refl; each = λ n s is. (s, is, stays_on end s) }

pub set_on : (end : ℕ) (sites : List Site) (switch : ℕ) (old new : Site) → slice_get sites switch ≡ Some old → SendsOn end old new → SendOn end sites (slice_set sites switch new)
set_on end sites switch old new at on = record {
  all = length-set sites switch new;
  each = λ n s is. by n s (got_set sites switch n new s is);
} where
  by : (n : ℕ) (s : Site) → ((n ≡ switch) × (new ≡ s)) ⊎ (slice_get sites n ≡ Some s) → (was : Site) × (slice_get sites n ≡ Some was) × SendsOn end was s
  by n s (inl here) = (old, ap (slice_get sites) here.0 ∙ at, subst (SendsOn end old) here.1 on)
  by n s (inr there) = (s, there, stays_on end s)

pub all_on : (end : ℕ) (one two three : List Site) → SendOn end one two → SendOn end two three → SendOn end one three
all_on end one two three first next = record {
  all = next.all ∙ first.all;
  each = λ n s is.
      let middle = next.each n s is in
      let was = first.each n middle.0 middle.1 in
      (was.0, was.1, sends_on end was.0 middle.0 s was.2 middle.2);
}

-- ---- a port from which all has left

pub none_goes : (old : Site) (new : Paced) (port : ℕ) → NoneGoesOut old.paced new port → HasSentAt (Some old.paced.reached) port old
none_goes old new port none p l row found =
    let same = ap length (none.all l p found row) in
    omega (arith, same)

pub sent_still : (end port : ℕ) (was s : Site) → was.paced.reached ≤ end → HasSentAt (Some was.paced.reached) port was → SendsOn end was s → HasSentAt (Some s.paced.reached) port s
sent_still end port was s within sent on p l row found =
    let before = on.left port l found in
    let few = sent p before.0 (ap (λ (t : Content). port_row t port) (sym on.table) ∙ row) before.1 in
    let same = ap length (on.out was.paced.reached p within) in
    let reached = ap (λ n. length (out_up_to s.paced (Some n) p)) on.reached in
    let more = before.2 in
    omega (arith, few, same, reached, more)

-- where all has left each port that has a capture, all has left the switch
pub all_sent : (s : Site) → s.left ≡ left_texts s.paced.lanes → ((place port : ℕ) (text : List ℕ) → slice_get s.left place ≡ Some (port, text) → HasSentAt (Some s.paced.reached) port s)
    → HasSent (Some s.paced.reached) s
all_sent s left each port p l row found =
    let at = place_there s.paced.lanes port l found in
    each at.0 port at.1.0 (ap (λ (xs : List Text). slice_get xs at.0) left ∙ at.1.1) p l row found where
      place_there : (lanes : List Lane) (q : ℕ) (m : Lane) → find (of_port q) lanes ≡ Some m → (place : ℕ) × ((text : List ℕ) × (slice_get (left_texts lanes) place ≡ Some (q, text)))
      place_there [] q m is = absurd cc
      place_there (x ∷ lanes) q m is = by (x.port == q) refl (place_there lanes q m) is where
        by : (b : Bool) → (x.port == q) ≡ b → (find (of_port q) lanes ≡ Some m → (place : ℕ) × ((text : List ℕ) × (slice_get (left_texts lanes) place ≡ Some (q, text))))
            → cond b (Some x) (find (of_port q) lanes) ≡ Some m → (place : ℕ) × ((text : List ℕ) × (slice_get (left_texts (x ∷ lanes)) place ≡ Some (q, text)))
        by true passes further some = (0, (capture_text x.left, ap (λ n. Some (n, capture_text x.left)) (eqb-true x.port q passes)))
        by false fails further some = let rest = further some in (suc rest.0, (rest.1.0, rest.1.1))

-- ---- it goes to the end of the window

same_there : (sites : List Site) (switch : ℕ) (old new : Site) (e : End) → slice_get sites switch ≡ Some old → new.paced.lanes ≡ old.paced.lanes
    → lane_there (slice_set sites switch new) e ≡ lane_there sites e
same_there sites switch old new e at lanes = elim (cases_eq e.switch switch) [
  | inl same ↦ there_set sites switch old new e at same ∙ ap (find (of_port e.port)) lanes ∙ sym (there_was sites switch old e at same)
  | inr other ↦ ap (option_and_then (λ (s : Site). lane_at s.paced e.port)) (set_elsewhere sites switch e.switch new other)
]

pub window_goes : OutGoesOn → (net : Network) (given : Given) (begin end : ℕ) (sites : List Site) (switch : ℕ) (old new : Site) → AreInWindow net given begin end sites
    → slice_get sites switch ≡ Some old → WentTo end old new → AreInWindow net given begin end (slice_set sites switch new)
window_goes on net given begin end sites switch old new w at went = record {
  carried = record {
    are = record {
      each = λ n s is. by n s (got_set sites switch n new s is);
      all = length-set sites switch new ∙ w.carried.are.all;
    };
    wires = All-weaker (IsCarried sites) (IsCarried (slice_set sites switch new)) (λ v is. record {
      start = is.start;
      there = is.there;
      start_is = same_there sites switch old new v.from at lanes ∙ is.start_is;
      there_is = same_there sites switch old new v.to at lanes ∙ is.there_is;
      same = is.same;
    }) net.layout.wires w.carried.wires;
  };
  one_each = w.one_each;
  look = w.look;
  is_look = w.is_look;
  short = w.short;
  inside = All-set (IsIn begin end) sites switch new
      (record { reached = let same = ap (λ (v : Paced). v.reached) went.paced in omega (arith, same); sent = goes_sent end old new (Some begin) went inside.sent }) w.inside;
} where
  lanes : new.paced.lanes ≡ old.paced.lanes
  lanes = ap (λ (v : Paced). v.lanes) went.paced

  inside : IsIn begin end old
  inside = at_site (IsIn begin end) sites switch old w.inside at

  here : IsSite net given switch new
  here = site_goes on net given switch end old new (w.carried.are.each switch old at) inside.reached went

  by : (n : ℕ) (s : Site) → ((n ≡ switch) × (new ≡ s)) ⊎ (slice_get sites n ≡ Some s) → IsSite net given n s
  by n s (inl same) = subst (λ m. IsSite net given m s) (sym same.0) (subst (IsSite net given switch) same.1 here)
  by n s (inr there) = w.carried.are.each n s there
