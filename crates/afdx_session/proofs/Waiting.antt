-- Whose capture holds back the output, and whether all others have ended.
use Rattle.std.proofs.Common.{◌≡◌, ℕ, zero, suc, ◌<◌, ◌≤◌, ◌==◌, nat_le, Bool, true, false, cond, ◌||◌, IsTrue, ◌↔◌, ◌⊎◌, List, [], ◌∷◌, slice_get, Option, Some, None, refl, ap, sym, ◌∙◌, inl, inr, subst, option_map, arith}
use Rattle.std.specs.List.{AllByRecursion, list_all}
use Rattle.std.proofs.lemmas.Bool.{cases_Bool, leb-false, eqb-true, eq-eqb, and_parts, and_from, or_cases}
use Rattle.std.proofs.lemmas.Option.{same_Some, slice_get-get_or, slice_get_within, get_or_from_slice_get}
use Rattle.afdx_session.specs.declared.lane.Lane.{Lane}
use Rattle.afdx_session.specs.declared.machine.Machine.{Machine}
use Rattle.afdx_session.specs.Streams.{Stream, captures_of, last_of}
use Rattle.afdx_session.specs.Session.{Intake, Seen, intake_at, refusal_at, refusal, IsHeldBackBy}
use Rattle.afdx_session.specs.Inner.Settled.{Ascend, ports_of, first_place, limit}
use Rattle.afdx_session.specs.Inner.Lanes.{intake_of, limit_at, HasReadAll}
use Rattle.afdx_session.specs.Inner.Kept.{IsLaneOf, AreLanesOf, IsGoing, IsMarked}
use Rattle.afdx_session.specs.Inner.View.{intakes_of, seen_of, IsReady, IsKeptMachine}
use Rattle.afdx_session.proofs.Numbered.{all_slice_get}
use Rattle.afdx_session.proofs.Firsts.{limit_is}
use Rattle.afdx_session.proofs.Giving.{limit-closed, limit-open}
use Rattle.afdx_session.proofs.Given.{frontier_is}
use Rattle.afdx_session.proofs.Going.{lanes_ascend}
use Rattle.afdx_session.proofs.Shown.{lanes_are_streams}
use Rattle.afdx_session.proofs.Finishing.{find_intake}

-- ---- whose capture holds back the output

-- a lane that has not ended has come to this place
record Holds {Z : Type 0} (lanes : List (Lane Z)) (streams : List Stream) (q : ℕ × ℕ) : Type 0 where
  pub place : ℕ
  pub lane : Lane Z
  pub stream : Stream
  pub at : slice_get lanes place ≡ Some lane
  pub stream_at : slice_get streams place ≡ Some stream
  pub is_of : IsLaneOf lane stream
  pub port_is : lane.port ≡ q.1
  pub last : lane.last ≡ q.0
  pub still_open : lane.ended ≡ false

limit_by : {Z : Type 0} (l : Lane Z) (lanes : List (Lane Z)) (b : Bool) → l.ended ≡ b → limit_at (l ∷ lanes) ≡ cond b (limit_at lanes) (Some (first_place (l.last, l.port) (limit_at lanes)))
limit_by l lanes b is = ap (λ c. cond c (limit_at lanes) (Some (first_place (l.last, l.port) (limit_at lanes)))) is

-- it is one of more lanes
further : {Z : Type 0} (l : Lane Z) (lanes : List (Lane Z)) (s : Stream) (streams : List Stream) (q : ℕ × ℕ) → Holds lanes streams q → Holds (l ∷ lanes) (s ∷ streams) q
further l lanes s streams q rest = record {
  place = suc rest.place;
  lane = rest.lane;
  stream = rest.stream;
  at = rest.at;
  stream_at = rest.stream_at;
  is_of = rest.is_of;
  port_is = rest.port_is;
  last = rest.last;
  still_open = rest.still_open;
}

-- one has come to the limit
holds : {Z : Type 0} (lanes : List (Lane Z)) (streams : List Stream) (q : ℕ × ℕ) → AreLanesOf lanes streams → limit_at lanes ≡ Some q → Holds lanes streams q
holds [] streams q are is = absurd cc
holds (l ∷ lanes) [] q are is = absurd are
holds {Z = Z} (l ∷ lanes) (s ∷ streams) q are is = by_end l.ended refl (λ there. further l lanes s streams q (holds lanes streams q are.1 there)) where
  here : l.ended ≡ false → (l.last, l.port) ≡ q → Holds (l ∷ lanes) (s ∷ streams) q
  here still_open same = record {
    place = 0;
    lane = l;
    stream = s;
    at = refl;
    stream_at = refl;
    is_of = are.0;
    port_is = ap (λ (p : ℕ × ℕ). p.1) same;
    last = ap (λ (p : ℕ × ℕ). p.0) same;
    still_open = still_open;
  }

  by_first : (p : ℕ × ℕ) (b : Bool) → l.ended ≡ false → limit_at lanes ≡ Some p → cond b (l.last, l.port) p ≡ q → (limit_at lanes ≡ Some q → Holds (l ∷ lanes) (s ∷ streams) q)
      → Holds (l ∷ lanes) (s ∷ streams) q
  by_first p true still_open there same rest = here still_open same
  by_first p false still_open there same rest = rest (there ∙ ap Some same)

  by_limit : (o : Option (ℕ × ℕ)) → l.ended ≡ false → limit_at lanes ≡ o → first_place (l.last, l.port) o ≡ q → (limit_at lanes ≡ Some q → Holds (l ∷ lanes) (s ∷ streams) q)
      → Holds (l ∷ lanes) (s ∷ streams) q
  by_limit None still_open there same rest = here still_open same
  by_limit (Some p) still_open there same rest = by_first p (nat_le l.last p.0) still_open there same rest

  by_end : (b : Bool) → l.ended ≡ b → (limit_at lanes ≡ Some q → Holds (l ∷ lanes) (s ∷ streams) q) → Holds (l ∷ lanes) (s ∷ streams) q
  by_end true ended rest = rest (sym (limit_by l lanes true ended) ∙ is)
  by_end false still_open rest =
      by_limit (limit_at lanes) still_open refl (same_Some (first_place (l.last, l.port) (limit_at lanes)) q (sym (limit_by l lanes false still_open) ∙ is)) rest

-- ---- it is the lowest of those that have come no further

port_above : (n : ℕ) (streams : List Stream) → AllByRecursion (λ m. n < m) (ports_of (captures_of streams)) → (k : ℕ) (s : Stream) → slice_get streams k ≡ Some s → n < s.port
port_above n [] above k s at = absurd cc
port_above n (r ∷ streams) above zero s at = subst (λ (x : Stream). n < x.port) (same_Some r s at) above.0
port_above n (r ∷ streams) above (suc k) s at = port_above n streams above.1 k s at

never : (b : Bool) → b ≡ true → b ≡ false → ⊥
never b first second = absurd cc

lowest : (streams : List Stream) (q : ℕ × ℕ) → Ascend (ports_of (captures_of streams)) → limit streams ≡ Some q → (k : ℕ) (s : Stream) → slice_get streams k ≡ Some s → s.closed ≡ false
    → last_of s ≡ q.0 → q.1 ≤ s.port
lowest [] q ascend is k s at still_open last = absurd cc
lowest (r ∷ streams) q ascend is k s at still_open last =
    by_end (cases_Bool r.closed) (λ there n here. lowest streams q ascend.1 there n s here still_open last) where
      -- the same of those after the first one
      Again : Type 0
      Again = limit streams ≡ Some q → (n : ℕ) → slice_get streams n ≡ Some s → q.1 ≤ s.port

      own : (n : ℕ) → slice_get (r ∷ streams) n ≡ Some s → r.port ≤ s.port
      own zero here = subst (λ (x : Stream). r.port ≤ x.port) (same_Some r s here) (omega arith)
      own (suc n) here = let above = port_above r.port streams ascend.0 n s here in omega (arith, above)

      rest : (n : ℕ) → slice_get (r ∷ streams) n ≡ Some s → limit streams ≡ Some q → (r ≡ s → ⊥) → Again → q.1 ≤ s.port
      rest zero here there other again = absurd (other (same_Some r s here))
      rest (suc n) here there other again = again there n here

      by_first : (p : ℕ × ℕ) (b : Bool) → limit streams ≡ Some p → nat_le (last_of r) p.0 ≡ b → cond b (last_of r, r.port) p ≡ q → Again → q.1 ≤ s.port
      by_first p true there le same again = subst (λ (x : ℕ × ℕ). x.1 ≤ s.port) same (own k at)
      by_first p false there gt same again =
          let later = leb-false (last_of r) p.0 gt in
          let stamp = ap (λ (x : ℕ × ℕ). x.0) same in
          rest k at (there ∙ ap Some same) (λ is_s. let both = ap (λ (x : Stream). last_of x) is_s in omega (arith, later, stamp, last, both)) again

      by_limit : (o : Option (ℕ × ℕ)) → limit streams ≡ o → first_place (last_of r, r.port) o ≡ q → Again → q.1 ≤ s.port
      by_limit None there same again = subst (λ (x : ℕ × ℕ). x.1 ≤ s.port) same (own k at)
      by_limit (Some p) there same again = by_first p (nat_le (last_of r) p.0) there refl same again

      by_end : (r.closed ≡ true) ⊎ (r.closed ≡ false) → Again → q.1 ≤ s.port
      by_end (inl closed) again = rest k at (sym (limit-closed r streams closed) ∙ is) (λ is_s. never s.closed (ap (λ (x : Stream). x.closed) (sym is_s) ∙ closed) still_open) again
      by_end (inr r_open) again =
          by_limit (limit streams) refl (same_Some (first_place (last_of r, r.port) (limit streams)) q (sym (limit-open r streams r_open) ∙ is)) again

-- its port may go on, and holds back the output
waits : {Z : Type 0} (m : Machine Z) (begun : Bool) (stamp port : ℕ) → IsKeptMachine m begun false → limit_at m.lanes.items ≡ Some (stamp, port)
    → (refusal (seen_of m begun false) port ≡ None) × IsHeldBackBy (seen_of m begun false) port
waits {Z} m begun stamp port kept is = (
  ap refusal_at own ∙ ap (λ b. refusal_at (Some (record { port = held.lane.port; bytes = (intake_of held.lane).bytes; closed = b; taken = held.lane.taken }))) still_open,
  record {
    streams = going.streams;
    are = lanes_are_streams begun m.lanes.items going.streams ready.marked ready.read going.lanes_are;
    stream = held.stream;
    among = (
      held.place,
      slice_get_within going.streams held.place held.stream held.stream_at,
      get_or_from_slice_get going.streams held.place held.stream held.stream held.stream_at,
    );
    port_is = held.is_of.port ∙ held.port_is;
    still_open = held.is_of.ended ∙ held.still_open;
    at = sym (frontier_is m.lanes.items going.streams going.lanes_are) ∙ ap (option_map (λ (p : ℕ × ℕ). p.0)) is ∙ ap Some (sym held.last ∙ held.is_of.read.last);
    lowest = λ other among closed last. lowest going.streams (stamp, port) (lanes_ascend m.switch.run.table m.lanes.items going.streams kept.of going.lanes_are)
        (sym (limit_is m.lanes.items going.streams going.lanes_are) ∙ is) among.0 other (slice_get-get_or going.streams among.0 other among.1 ∙ ap Some among.2) closed
        (last ∙ sym held.is_of.read.last ∙ held.last);
  },
) where
  ready : IsReady m begun
  ready = kept.ready refl

  going : IsGoing m.switch.run.table m.lanes.items m.switch m.counts
  going = ready.running.going

  held : Holds m.lanes.items going.streams (stamp, port)
  held = holds m.lanes.items going.streams (stamp, port) going.lanes_are is

  still_open : held.lane.closed ≡ false
  still_open =
      (all_slice_get (IsMarked begun) m.lanes.items held.place held.lane ready.marked held.at).closed
      ∙ sym (all_slice_get HasReadAll m.lanes.items held.place held.lane ready.read held.at).ended
      ∙ held.still_open

  own : intake_at (seen_of m begun false) port ≡ Some (intake_of held.lane)
  own =
      ap (λ n. intake_at (seen_of m begun false) n) (sym held.port_is)
      ∙ find_intake m.switch.run.table.ports m.lanes.items held.place held.lane kept.of.formed.ports_rise kept.of.ports held.at

pub waits_for : {Z : Type 0} (m : Machine Z) (begun failed : Bool) (v : Seen) (lanes : List (Lane Z)) (stamp port : ℕ) → seen_of m begun failed ≡ v → failed ≡ false → IsKeptMachine m begun failed
    → lanes ≡ m.lanes.items → limit_at lanes ≡ Some (stamp, port) → (refusal v port ≡ None) × IsHeldBackBy v port
waits_for {Z} m begun failed v lanes stamp port view not_failed kept same is =
    subst (λ w. (refusal w port ≡ None) × IsHeldBackBy w port) (ap (λ b. seen_of m begun b) (sym not_failed) ∙ view)
    (waits m begun stamp port (subst (λ b. IsKeptMachine m begun b) not_failed kept) (ap (λ (ls : List (Lane Z)). limit_at ls) (sym same) ∙ is))

-- ---- all have ended

none_some : {X : Type 0} (x : X) → Some x ≡ None → ⊥
none_some x is = absurd cc

closed_all : {Z : Type 0} (begun : Bool) (lanes : List (Lane Z)) → AllByRecursion (IsMarked begun) lanes → AllByRecursion HasReadAll lanes → limit_at lanes ≡ None
    → AllByRecursion (λ (i : Intake). i.closed ≡ true) (intakes_of lanes)
closed_all begun [] marked read is = tt
closed_all {Z = Z} begun (l ∷ lanes) marked read is = by_end l.ended refl (closed_all begun lanes marked.1 read.1) where
  by_end : (b : Bool) → l.ended ≡ b → (limit_at lanes ≡ None → AllByRecursion (λ (i : Intake). i.closed ≡ true) (intakes_of lanes))
      → AllByRecursion (λ (i : Intake). i.closed ≡ true) (intakes_of (l ∷ lanes))
  by_end true ended rest = (marked.0.closed ∙ sym read.0.ended ∙ ended, rest (sym (limit_by l lanes true ended) ∙ is))
  by_end false still_open rest = absurd (none_some (first_place (l.last, l.port) (limit_at lanes)) (sym (limit_by l lanes false still_open) ∙ is))

pub waits_for_none : {Z : Type 0} (m : Machine Z) (begun failed : Bool) (v : Seen) (lanes : List (Lane Z)) → seen_of m begun failed ≡ v → failed ≡ false → IsKeptMachine m begun failed
    → lanes ≡ m.lanes.items → limit_at lanes ≡ None → (v.failed ≡ true) ⊎ AllByRecursion (λ (i : Intake). i.closed ≡ true) v.intakes
waits_for_none {Z} m begun failed v lanes view not_failed kept same is =
    let ready = kept.ready not_failed in
    inr (subst (λ (w : Seen). AllByRecursion (λ (i : Intake). i.closed ≡ true) w.intakes) view
    (closed_all begun m.lanes.items ready.marked ready.read (ap (λ (ls : List (Lane Z)). limit_at ls) (sym same) ∙ is)))

-- ---- all others have ended

abbrev is_other_closed : {Z : Type 0} → ℕ → Lane Z → Bool
is_other_closed port l = (l.port == port) || l.closed

last_there : {Z : Type 0} (port : ℕ) (lanes : List (Lane Z)) → list_all (is_other_closed port) lanes ≡ true → AllByRecursion (λ (i : Intake). (i.port ≡ port) ⊎ (i.closed ≡ true)) (intakes_of lanes)
last_there port [] is = tt
last_there {Z = Z} port (l ∷ lanes) is =
    let both = and_parts (is_other_closed port l) (list_all (is_other_closed port) lanes) is in
    let rest = last_there port lanes both.1 in
    elim (or_cases (l.port == port) l.closed both.0) [
      | inl own ↦ (inl (eqb-true l.port port own), rest)
      | inr closed ↦ (inr closed, rest)
    ]

or_left : (x y : Bool) → x ≡ true → (x || y) ≡ true
or_left true y is = refl
or_left false y is = absurd cc

or_right : (x y : Bool) → y ≡ true → (x || y) ≡ true
or_right true y is = refl
or_right false y is = is

last_back : {Z : Type 0} (port : ℕ) (lanes : List (Lane Z)) → AllByRecursion (λ (i : Intake). (i.port ≡ port) ⊎ (i.closed ≡ true)) (intakes_of lanes) → list_all (is_other_closed port) lanes ≡ true
last_back port [] all = refl
last_back {Z = Z} port (l ∷ lanes) all =
    and_from (is_other_closed port l) (list_all (is_other_closed port) lanes)
    (elim all.0 [
      | inl own ↦ or_left (l.port == port) l.closed (eq-eqb l.port port own)
      | inr closed ↦ or_right (l.port == port) l.closed closed
    ])
    (last_back port lanes all.1)

pub is_last : {Z : Type 0} (m : Machine Z) (begun failed : Bool) (v : Seen) (lanes : List (Lane Z)) (port : ℕ) (b : Bool) → seen_of m begun failed ≡ v → lanes ≡ m.lanes.items
    → b ≡ list_all (is_other_closed port) lanes → IsTrue b ↔ AllByRecursion (λ (i : Intake). (i.port ≡ port) ⊎ (i.closed ≡ true)) v.intakes
is_last {Z} m begun failed v lanes port b view same is =
    let tests : b ≡ list_all (is_other_closed port) m.lanes.items = is ∙ ap (λ (ls : List (Lane Z)). list_all (is_other_closed port) ls) same in
    subst (λ (w : Seen). IsTrue b ↔ AllByRecursion (λ (i : Intake). (i.port ≡ port) ⊎ (i.closed ≡ true)) w.intakes) view
    (λ yes. last_there port m.lanes.items (sym tests ∙ yes), λ all. tests ∙ last_back port m.lanes.items all)
