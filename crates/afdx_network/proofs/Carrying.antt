-- A record that left a port goes over its wires, one after the other.
use Rattle.std.proofs.Common.{◌≡◌, ◌<◌, ◌≤◌, ◌+◌, ℕ, Bool, true, false, cond, List, [], ◌∷◌, ◌++◌, map, length, slice_get, Some, refl, ap, sym, ◌∙◌, arith, inl, inr, subst}
use Rattle.std.specs.Option.{option_map}
use Rattle.std.specs.List.{AllByRecursion, position_or_len}
use Rattle.std.proofs.lemmas.Bool.{cases_eq}
use Rattle.std.proofs.lemmas.List.{append-nil, map-append}
use Rattle.std.proofs.lemmas.List.Folds.{find_at}
use Rattle.std.proofs.lemmas.Option.{same_Some, slice_get_within}
use Rattle.afdx_pcap.specs.Record.{Record}
use Rattle.afdx_pcap.specs.Fault.{last_stamp}
use Rattle.afdx_core.specs.Merge.{Rises}
use Rattle.afdx_paced.specs.Paced.{Lane, came_in, went_out}
use Rattle.afdx_wiring.specs.declared.layout.End.{End}
use Rattle.afdx_wiring.specs.declared.layout.Wire.{Wire}
use Rattle.afdx_wiring.specs.File.{is_end}
use Rattle.afdx_network_check.specs.Net.{Network, wire_to}
use Rattle.afdx_network.specs.Way.{delayed}
use Rattle.afdx_network.specs.Inner.Sites.{Site, lane_there, carried, IsCarried, IsPending, wire_place}
use Rattle.afdx_network.proofs.Lanes.{ChangesAt, cases_end, stays}

pub one_each : (net : Network) (w : Wire) → wire_to net w.to ≡ Some w → slice_get net.layout.wires (wire_place net.layout.wires w) ≡ Some w
one_each net w is = sym (find_at (λ (v : Wire). is_end v.to w.to) net.layout.wires) ∙ is

same_wire : (wires : List Wire) (k : ℕ) (u w : Wire) → slice_get wires k ≡ Some u → slice_get wires (wire_place wires w) ≡ Some w → wire_place wires w ≡ k → u ≡ w
same_wire wires k u w at own place = same_Some u w (sym at ∙ ap (slice_get wires) (sym place) ∙ own)

-- ---- what a wire carries

-- one that is not down: all
pub carried_up : (w : Wire) (rs : List Record) → w.down ≡ false → carried w rs ≡ map (delayed w.delay) rs
carried_up w rs up = ap (λ (b : Bool). cond b [] (map (delayed w.delay) rs)) up

-- one that is down: nothing
pub carried_down : (w : Wire) (rs : List Record) → w.down ≡ true → carried w rs ≡ []
carried_down w rs down = ap (λ (b : Bool). cond b [] (map (delayed w.delay) rs)) down

pub carried_none : (w : Wire) → carried w [] ≡ []
carried_none w = by w.down where
  by : (b : Bool) → cond b [] (map (delayed w.delay) []) ≡ []
  by true = refl
  by false = refl

carried_more : (w : Wire) (rs qs : List Record) → carried w rs ++ carried w qs ≡ carried w (rs ++ qs)
carried_more w rs qs = by w.down where
  by : (b : Bool) → cond b [] (map (delayed w.delay) rs) ++ cond b [] (map (delayed w.delay) qs) ≡ cond b [] (map (delayed w.delay) (rs ++ qs))
  by true = refl
  by false = sym (map-append (delayed w.delay) rs qs)

-- ---- the record has left

pub begins : (old new : List Site) (from : End) (frame : Record) (wires : List Wire) (w : Wire) → ChangesAt old new from (went_out frame) → IsCarried old w → IsPending new from frame wires 0 w
begins old new from frame wires w changes is = elim (cases_end w.from from) [
  | inl same ↦ record {
    start = went_out frame is.start;
    there = there.0;
    start_is = ap (lane_there new) same ∙ changes.here ∙ ap (option_map (went_out frame)) (sym (ap (lane_there old) same) ∙ is.start_is);
    there_is = there.1;
    done = λ before. let none = before same in absurd (omega (arith, none));
    waits = λ f le. ap (λ (rs : List Record). rs ++ carried w (frame ∷ [])) (there.2 ∙ is.same) ∙ carried_more w is.start.left (frame ∷ []);
  }
  | inr other ↦ record {
    start = is.start;
    there = there.0;
    start_is = changes.elsewhere w.from other ∙ is.start_is;
    there_is = there.1;
    done = λ before. there.2 ∙ is.same;
    waits = λ f le. absurd (other f);
  }
] where
  there : (now : Lane) × (lane_there new w.to ≡ Some now) × (now.came ≡ is.there.came)
  there = stays (λ (l : Lane). l.came) old new from (went_out frame) (λ l. refl) changes w.to is.there is.there_is

-- ---- it goes over a wire

goes_there : (old new : List Site) (from : End) (frame : Record) (wires : List Wire) (k : ℕ) (u : Wire) → wire_place wires u ≡ k → u.from ≡ from → u.down ≡ false
    → ChangesAt old new u.to (came_in (delayed u.delay frame)) → IsPending old from frame wires k u → IsPending new from frame wires (k + 1) u
goes_there old new from frame wires k u place own up changes is = record {
  start = start.0;
  there = came_in (delayed u.delay frame) is.there;
  start_is = start.1;
  there_is = changes.here ∙ ap (option_map (came_in (delayed u.delay frame))) is.there_is;
  done = λ before. ap (λ (rs : List Record). is.there.came ++ rs) (sym (carried_up u (frame ∷ []) up)) ∙ is.waits own (omega (arith, place)) ∙ ap (carried u) (sym start.2);
  waits = λ f le. absurd (omega (arith, le, place));
} where
  start : (now : Lane) × (lane_there new u.from ≡ Some now) × (now.left ≡ is.start.left)
  start = stays (λ (l : Lane). l.left) old new u.to (came_in (delayed u.delay frame)) (λ l. refl) changes u.from is.start is.start_is

pub goes_over : (old new : List Site) (from : End) (frame : Record) (wires : List Wire) (k : ℕ) (u w : Wire) → slice_get wires k ≡ Some u → wire_place wires u ≡ k → u.from ≡ from
    → u.down ≡ false → ChangesAt old new u.to (came_in (delayed u.delay frame)) → slice_get wires (wire_place wires w) ≡ Some w → IsPending old from frame wires k w
    → IsPending new from frame wires (k + 1) w
goes_over old new from frame wires k u w at place own up changes one is = elim (cases_eq (wire_place wires w) k) [
  | inl here ↦
      let same = same_wire wires k u w at one here in
      subst (IsPending new from frame wires (k + 1)) same (goes_there old new from frame wires k u place own up changes (subst (IsPending old from frame wires k) (sym same) is))
  | inr other ↦
      let apart : w.to ≡ u.to → ⊥ = λ same. other (ap (λ (e : End). position_or_len (λ (v : Wire). is_end v.to e) wires) same ∙ place) in
      let start = stays (λ (l : Lane). l.left) old new u.to (came_in (delayed u.delay frame)) (λ l. refl) changes w.from is.start is.start_is in
      record {
        start = start.0;
        there = is.there;
        start_is = start.1;
        there_is = changes.elsewhere w.to apart ∙ is.there_is;
        done = λ before. is.done (λ f. let less = before f in omega (arith, less, other)) ∙ ap (carried w) (sym start.2);
        waits = λ f le. is.waits f (omega (arith, le)) ∙ ap (carried w) (sym start.2);
      }
]

-- or not: the wire comes from another port, it is not the first one to its port, or it is down
pub goes_by : (sites : List Site) (from : End) (frame : Record) (wires : List Wire) (k : ℕ) (u w : Wire) → slice_get wires k ≡ Some u → (u.from ≡ from → wire_place wires u ≡ k → u.down ≡ false → ⊥)
    → slice_get wires (wire_place wires w) ≡ Some w → IsPending sites from frame wires k w → IsPending sites from frame wires (k + 1) w
goes_by sites from frame wires k u w at none one is = record {
  start = is.start;
  there = is.there;
  start_is = is.start_is;
  there_is = is.there_is;
  done = done;
  waits = λ f le. is.waits f (omega (arith, le));
} where
  -- it is down, so that nothing comes
  silent : w.from ≡ from → wire_place wires w ≡ k → is.there.came ≡ carried w is.start.left
  silent f here = by w.down refl where
    by : (b : Bool) → w.down ≡ b → is.there.came ≡ carried w is.start.left
    by true down =
        sym (append-nil is.there.came) ∙ ap (λ (rs : List Record). is.there.came ++ rs) (sym (carried_down w (frame ∷ []) down)) ∙ is.waits f (omega (arith, here))
    by false up =
        let same = same_wire wires k u w at one here in
        absurd (none (ap (λ (v : Wire). v.from) same ∙ f) (ap (wire_place wires) same ∙ here) (ap (λ (v : Wire). v.down) same ∙ up))

  done : (w.from ≡ from → wire_place wires w < k + 1) → is.there.came ≡ carried w is.start.left
  done before = elim (cases_end w.from from) [
    | inl f ↦ elim (cases_eq (wire_place wires w) k) [
      | inl here ↦ silent f here
      | inr other ↦ is.done (λ own. let most = before own in omega (arith, most, other))
    ]
    | inr other ↦ is.done (λ own. absurd (other own))
  ]

pub ends : (sites : List Site) (from : End) (frame : Record) (wires : List Wire) (w : Wire) → slice_get wires (wire_place wires w) ≡ Some w → IsPending sites from frame wires (length wires) w
    → IsCarried sites w
ends sites from frame wires w one is = record {
  start = is.start;
  there = is.there;
  start_is = is.start_is;
  there_is = is.there_is;
  same = is.done (λ f. slice_get_within wires (wire_place wires w) w one);
}

-- ---- in order

all_last : (n : ℕ) (rs : List Record) (r : Record) → AllByRecursion (λ (q : Record). n ≤ q.stamp) (rs ++ r ∷ []) → n ≤ r.stamp
all_last n [] r all = all.0
all_last n (q ∷ rs) r all = all_last n rs r all.1

pub rises_last : (n : ℕ) (rs : List Record) (r : Record) → n ≤ r.stamp → Rises (rs ++ r ∷ []) → last_stamp n rs ≤ r.stamp
rises_last n [] r le rises = le
rises_last n (q ∷ rs) r le rises = rises_last q.stamp rs r (all_last q.stamp rs r rises.0) rises.1

all_front : (n : ℕ) (rs more : List Record) → AllByRecursion (λ (q : Record). n ≤ q.stamp) (rs ++ more) → AllByRecursion (λ (q : Record). n ≤ q.stamp) rs
all_front n [] more all = tt
all_front n (q ∷ rs) more all = (all.0, all_front n rs more all.1)

pub rises_front : (rs more : List Record) → Rises (rs ++ more) → Rises rs
rises_front [] more rises = tt
rises_front (r ∷ rs) more rises = (all_front r.stamp rs more rises.0, rises_front rs more rises.1)

all_delayed : (n cable : ℕ) (rs : List Record) → AllByRecursion (λ (q : Record). n ≤ q.stamp) rs → AllByRecursion (λ (q : Record). n + cable ≤ q.stamp) (map (delayed cable) rs)
all_delayed n cable [] all = tt
all_delayed n cable (q ∷ rs) all = let first = all.0 in (omega (arith, first), all_delayed n cable rs all.1)

pub rises_delayed : (cable : ℕ) (rs : List Record) → Rises rs → Rises (map (delayed cable) rs)
rises_delayed cable [] rises = tt
rises_delayed cable (r ∷ rs) rises = (all_delayed r.stamp cable rs rises.0, rises_delayed cable rs rises.1)
