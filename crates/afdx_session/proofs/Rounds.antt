-- Records go to the switch, one after the other.
use Rattle.std.proofs.Common.{◌≡◌, ℕ, zero, suc, ◌<◌, ◌^◌, true, false, cond, List, [], ◌∷◌, map, length, set, get_or, slice_get, Option, Some, None, refl, ap, sym, ◌∙◌, arith, subst}
use Rattle.std.specs.declared.vec.Vec.{Vec}
use Rattle.std.specs.Vec.{with_items}
use Rattle.std.specs.Prelude.{is_some}
use Rattle.std.proofs.lemmas.List.{append-nil, length-set, map-set}
use Rattle.std.proofs.lemmas.Option.{slice_get_within, same_Some, slice_get-get_or}
use Rattle.afdx_pcap.specs.Record.{Record}
use Rattle.afdx_table.specs.Content.{Content}
use Rattle.afdx_port.specs.Inner.Admission.{EarlierEventsStayAdmitted}
use Rattle.afdx_port.specs.Inner.Order.{ReachesInOrder}
use Rattle.afdx_core.specs.Step.{Step}
use Rattle.afdx_core.specs.Rows.{row_of}
use Rattle.afdx_core.specs.State.{State}
use Rattle.afdx_core.specs.Held.{IsTaken}
use Rattle.afdx_core.specs.Merge.{merged}
use Rattle.afdx_core.specs.Inner.Merge.{ByStampIsOrdered}
use Rattle.afdx_count.specs.Tally.{Tally, noted}
use Rattle.afdx_count.specs.Inner.Laws.{NoteCountsOneMore}
use Rattle.afdx_session.specs.declared.lane.Lane.{Lane}
use Rattle.afdx_session.specs.declared.machine.Machine.{Machine}
use Rattle.afdx_session.specs.Inner.Settled.{first_place, IsWithin}
use Rattle.afdx_earliest.specs.Instants.{IsFirstIn}
use Rattle.afdx_session.specs.Inner.Lanes.{waiting_of, limit_at, head_of, heads_of, with_waiting, IsLimit, Goes, GoesAt, NoneGoes}
use Rattle.afdx_session.specs.Inner.Kept.{AreOfTable, IsGoing, AreTouched, IsOfSameTable}
use Rattle.afdx_session.specs.Inner.View.{HasGone, IsRound}
use Rattle.afdx_session.proofs.Settles.{back_items}
use Rattle.afdx_session.proofs.Given.{Arrives, arrives, gives_on}
use Rattle.afdx_session.proofs.Intakes.{all_touched_none, all_touched_both, touched_at, touched_ports, still_of_table}
use Rattle.afdx_session.proofs.Numbered.{set_here}

goes_touched : {Z : Type 0} (limit : Option (ℕ × ℕ)) (old new : List (Lane Z)) (port : ℕ) (frame : Record) → Goes limit old new port frame → AreTouched old new
goes_touched {Z = Z} limit old new port frame goes =
    subst (λ (ls : List (Lane Z)). AreTouched old ls) (sym goes.lanes)
    (touched_at old goes.place goes.lane (with_waiting goes.rest goes.lane) goes.at
    (record { port = refl; reader = refl; undone = refl; closed = refl; ready = refl; taken = refl; more = []; out = sym (append-nil goes.lane.out.items); ended = refl }))

-- what is so while records go
pub record Gives {Z : Type 0} (start now : Machine Z) : Type 0 where
  pub touched : AreTouched start.lanes.items now.lanes.items
  pub same : IsOfSameTable start.switch now.switch
  pub going : IsGoing start.switch.run.table now.lanes.items now.switch now.counts

pub gives_none : {Z : Type 0} (start : Machine Z) → IsGoing start.switch.run.table start.lanes.items start.switch start.counts → Gives start start
gives_none start going = record { touched = all_touched_none start.lanes.items; same = record { table = refl; accepted = refl; keeps = refl; handed = refl }; going = going }

of_now : {Z : Type 0} (start now : Machine Z) → Gives start now → AreOfTable start.switch.run.table start.lanes.items → AreOfTable start.switch.run.table now.lanes.items
of_now start now gives of = still_of_table start.switch.run.table start.lanes.items now.lanes.items (touched_ports start.lanes.items now.lanes.items gives.touched) of

pub same_both : (a b c : State) → IsOfSameTable a b → IsOfSameTable b c → IsOfSameTable a c
same_both a b c one two = record { table = two.table ∙ one.table; accepted = two.accepted ∙ one.accepted; keeps = two.keeps ∙ one.keeps; handed = two.handed ∙ one.handed }

-- ---- one round

-- where the first goes within what says the same as the limit, it goes within the limit
goes_as_limit : {Z : Type 0} (limit : Option (ℕ × ℕ)) (lanes new : List (Lane Z)) (port : ℕ) (frame : Record) → IsLimit limit lanes → Goes limit lanes new port frame
    → Goes (limit_at lanes) lanes new port frame
goes_as_limit {Z = Z} limit lanes new port frame is goes = record {
  place = goes.place;
  lane = goes.lane;
  rest = goes.rest;
  at = goes.at;
  port_is = goes.port_is;
  head = goes.head;
  first = goes.first;
  within = subst (λ n. IsWithin (limit_at lanes) frame.stamp n) (sym goes.port_is)
      ((is goes.place frame.stamp goes.lane goes.first goes.at).0 (subst (λ n. IsWithin limit frame.stamp n) goes.port_is goes.within));
  lanes = goes.lanes;
}

none_as_limit : {Z : Type 0} (limit : Option (ℕ × ℕ)) (lanes : List (Lane Z)) (first : Option (ℕ × ℕ)) → IsLimit limit lanes → NoneGoes limit lanes first → NoneGoes (limit_at lanes) lanes first
none_as_limit {Z = Z} limit lanes first is none = record {
  is = none.is;
  past = λ place stamp lane found at within.
      none.past place stamp lane found at ((is place stamp lane (subst (IsFirstIn (heads_of lanes) (length lanes)) found none.is) at).1 within);
}

-- the limit is one
pub own_limit : {Z : Type 0} (limit : Option (ℕ × ℕ)) (lanes : List (Lane Z)) → limit ≡ limit_at lanes → IsLimit limit lanes
own_limit limit lanes is place stamp lane first at = (subst (λ o. IsWithin o stamp lane.port) is, subst (λ o. IsWithin o stamp lane.port) (sym is))

-- a record that goes changes it in nothing
pub limit_stays : {Z : Type 0} (lanes new : List (Lane Z)) (place : ℕ) → HasGone lanes new place → limit_at new ≡ limit_at lanes
limit_stays {Z = Z} lanes new place gone = ap (λ (ls : List (Lane Z)). limit_at ls) gone.lanes ∙ same lanes place gone.lane gone.at where
  same : (ls : List (Lane Z)) (k : ℕ) (l : Lane Z) → slice_get ls k ≡ Some l → limit_at (set ls k (with_waiting gone.rest l)) ≡ limit_at ls
  same [] k l at = absurd cc
  same (m ∷ ls) zero l at = ap (λ (x : Lane Z). limit_at (x ∷ ls)) (sym (same_Some m l at))
  same (m ∷ ls) (suc k) l at = ap (λ o. cond m.ended o (Some (first_place (m.last, m.port) o))) (same ls k l at)

-- the record that goes is the next of the merge
pub round_arrives : {Z : Type 0} → ByStampIsOrdered → (limit : Option (ℕ × ℕ)) (now : Machine Z) (lanes : List (Lane Z)) (port : ℕ) (frame : Record) → IsLimit limit now.lanes.items
    → IsGoing now.switch.run.table now.lanes.items now.switch now.counts → Goes limit now.lanes.items lanes port frame
    → Arrives now.switch.run.table now.lanes.items lanes now.switch now.counts port frame
round_arrives {Z = Z} ordered limit now lanes port frame is going goes = arrives ordered now.switch.run.table now.lanes.items lanes now.switch now.counts port frame
    (goes_as_limit limit now.lanes.items lanes port frame is goes) going

pub round_touched : {Z : Type 0} (limit : Option (ℕ × ℕ)) (old lanes new : List (Lane Z)) (port : ℕ) (frame : Record) → Goes limit old lanes port frame → new ≡ lanes → AreTouched old new
round_touched {Z = Z} limit old lanes new port frame goes same = subst (λ (ls : List (Lane Z)). AreTouched old ls) (sym same) (goes_touched limit old lanes port frame goes)

-- ---- the lists that the code writes back

-- a record went from the lane at a place, whose port is read there
pub record GoesFrom {Z : Type 0} (limit : Option (ℕ × ℕ)) (old new : List (Lane Z)) (place port : ℕ) (frame : Record) : Type 0 where
  pub within : place < length new
  pub goes : Goes limit old new port frame
  pub here : goes.place ≡ place

set_there : {Z : Type 0} (limit : Option (ℕ × ℕ)) (old new : List (Lane Z)) (place : ℕ) (frame : Record) (goes : GoesAt limit old new place frame) → slice_get new place
    ≡ Some (with_waiting goes.goes.rest goes.goes.lane)
set_there {Z} limit old new place frame goes =
    let w = with_waiting goes.goes.rest goes.goes.lane in
    ap (λ k. slice_get new k) (sym goes.here) ∙ ap (λ (ls : List (Lane Z)). slice_get ls goes.goes.place) goes.goes.lanes ∙ set_here old goes.goes.place goes.goes.lane w goes.goes.at

at_here : {Z : Type 0} (limit : Option (ℕ × ℕ)) (v : Vec (Lane Z) Z) (start new : List (Lane Z)) (place : ℕ) (frame : Record) → start ≡ v.items → GoesAt limit start new place frame
    → GoesAt limit v.items (with_items v new).items place frame
at_here {Z = Z} limit v start new place frame is goes =
    let here = subst (λ (ls : List (Lane Z)). GoesAt limit ls new place frame) is goes in
    let long = ap (λ (ls : List (Lane Z)). length ls) here.goes.lanes ∙ length-set v.items here.goes.place (with_waiting here.goes.rest here.goes.lane) in
    subst (λ (ls : List (Lane Z)). GoesAt limit v.items ls place frame) (sym (back_items v new long)) here

within_there : {Z : Type 0} (limit : Option (ℕ × ℕ)) (old new : List (Lane Z)) (place : ℕ) (frame : Record) → GoesAt limit old new place frame → place < length new
within_there limit old new place frame goes = slice_get_within new place _ (set_there limit old new place frame goes)

-- the place is one of the lanes'
pub goes_within : {Z : Type 0} (limit : Option (ℕ × ℕ)) (v : Vec (Lane Z) Z) (start new : List (Lane Z)) (place : ℕ) (frame : Record) → start ≡ v.items → GoesAt limit start new place frame
    → place < v.len
goes_within limit v start new place frame is goes =
    let lt = slice_get_within start goes.goes.place goes.goes.lane goes.goes.at in
    let same = ap (λ (ls : List (Lane _)). length ls) is in
    let here = goes.here in
    let long = v.ok.0 in
    omega (arith, lt, same, here, long)

pub goes_from : {Z : Type 0} (limit : Option (ℕ × ℕ)) (v : Vec (Lane Z) Z) (start new : List (Lane Z)) (place : ℕ) (frame : Record) (l d : Lane Z) → start ≡ v.items
    → GoesAt limit start new place frame
    → l ≡ get_or (with_items v new).items place d
    → GoesFrom limit v.items (with_items v new).items place l.port frame
goes_from {Z = Z} limit v start new place frame l d is goes read =
    let here = at_here limit v start new place frame is goes in
    let lt = within_there limit v.items (with_items v new).items place frame here in
    let own = same_Some l (with_waiting here.goes.rest here.goes.lane) (ap Some read ∙ sym (slice_get-get_or (with_items v new).items place d lt)
    ∙ set_there limit v.items (with_items v new).items place frame here) in
    let port : here.port ≡ l.port = here.goes.port_is ∙ ap (λ (x : Lane Z). x.port) (sym own) in
    subst (λ n. GoesFrom limit v.items (with_items v new).items place n frame) port (record { within = lt; goes = here.goes; here = here.here })

-- another record waits there then, or none
pub heads_gone : {Z : Type 0} (limit : Option (ℕ × ℕ)) (heads : List (Option ℕ)) (old new : List (Lane Z)) (place port : ℕ) (frame : Record) (l d : Lane Z) (head : Option ℕ) → heads ≡ heads_of old
    → GoesFrom limit old new place port frame → l ≡ get_or new place d → head ≡ head_of l.waiting.items → set heads place head ≡ heads_of new
heads_gone {Z = Z} limit heads old new place port frame l d head are from read is =
    ap (λ hs. set hs place head) are
    ∙ ap (set (heads_of old) place) (is ∙ ap (λ (x : Lane Z). head_of x.waiting.items) own)
    ∙ sym (map-set (λ (x : Lane Z). head_of x.waiting.items) old place w)
    ∙ ap (λ k. heads_of (set old k w)) (sym from.here)
    ∙ ap (λ (ls : List (Lane Z)). heads_of ls) (sym from.goes.lanes)
  where
    w : Lane Z
    w = with_waiting from.goes.rest from.goes.lane

    there : slice_get new place ≡ Some w
    there =
        ap (λ k. slice_get new k) (sym from.here)
        ∙ ap (λ (ls : List (Lane Z)). slice_get ls from.goes.place) from.goes.lanes
        ∙ set_here old from.goes.place from.goes.lane w from.goes.at

    own : l ≡ w
    own = same_Some l w (ap Some read ∙ sym (slice_get-get_or new place d from.within) ∙ there)

pub none_here : {Z : Type 0} (v : Vec (Lane Z) Z) (start new : List (Lane Z)) → start ≡ v.items → new ≡ start → (with_items v new).items ≡ v.items
none_here {Z = Z} v start new is same = back_items v new (ap (λ (ls : List (Lane Z)). length ls) (same ∙ is)) ∙ same ∙ is

with_table : {Z : Type 0} (t u : Content) (lanes : List (Lane Z)) (s : State) (counts : Tally) → u ≡ t → IsGoing t lanes s counts → IsGoing u lanes s counts
with_table t u lanes s counts same going = subst (λ c. IsGoing c lanes s counts) (sym same) going

pub round_goes : {Z : Type 0} → ByStampIsOrdered → EarlierEventsStayAdmitted → ReachesInOrder → NoteCountsOneMore
    → (limit : Option (ℕ × ℕ)) (now next : Machine Z) (lanes : List (Lane Z)) (port : ℕ) (frame : Record) (step : Step) (place : ℕ) → AreOfTable now.switch.run.table now.lanes.items
    → IsLimit limit now.lanes.items → IsGoing now.switch.run.table now.lanes.items now.switch now.counts → (goes : Goes limit now.lanes.items lanes port frame) → goes.place ≡ place → next.lanes.items
    ≡ lanes → IsOfSameTable now.switch next.switch → step.number < 2 ^ 64
    → IsTaken now.switch next.switch (row_of now.switch.run.table port frame) frame step → next.counts ≡ noted step now.counts → IsRound (Some place) now next
round_goes {Z = Z} ordered stay reaches law limit now next lanes port frame step place of is going goes here lanes_are same small taken counted =
    let arrives = round_arrives ordered limit now lanes port frame is going goes in
    let first = ap length arrives.next in
    let fewer = ap (λ ls. length (merged (map waiting_of ls))) lanes_are in
    record {
      going = with_table now.switch.run.table next.switch.run.table next.lanes.items next.switch next.counts same.table
          (subst (λ (ls : List (Lane Z)). IsGoing now.switch.run.table ls next.switch next.counts) (sym lanes_are)
          (gives_on ordered stay reaches law now.switch.run.table now.lanes.items lanes now.switch next.switch now.counts next.counts port frame step of small arrives taken counted));
      gone = λ k went. subst (HasGone now.lanes.items next.lanes.items) (here ∙ same_Some place k went)
          (record { lane = goes.lane; frame = frame; rest = goes.rest; at = goes.at; head = goes.head; lanes = lanes_are ∙ goes.lanes });
      fewer = λ k went. omega (arith, first, fewer);
      stays = λ none. absurd (differ none);
      none = λ none. absurd (differ none);
    } where
      differ : Some place ≡ None → ⊥
      differ e = absurd cc

pub round_ends : {Z : Type 0} (limit : Option (ℕ × ℕ)) (now next : Machine Z) (first : Option (ℕ × ℕ)) → IsLimit limit now.lanes.items
    → IsGoing now.switch.run.table now.lanes.items now.switch now.counts → next.lanes.items ≡ now.lanes.items → next.switch ≡ now.switch
    → next.counts ≡ now.counts → NoneGoes limit now.lanes.items first → IsRound None now next
round_ends {Z = Z} limit now next first is going lanes switch counts none = record {
  going = subst (λ (ls : List (Lane Z)). IsGoing next.switch.run.table ls next.switch next.counts) (sym lanes)
      (subst (λ (s : State). IsGoing s.run.table now.lanes.items s next.counts) (sym switch)
      (subst (λ (c : Tally). IsGoing now.switch.run.table now.lanes.items now.switch c) (sym counts) going));
  gone = λ k went. absurd (differ k went);
  fewer = λ k went. absurd (differ k went);
  stays = λ none. lanes;
  none = λ went. (first, subst (λ (ls : List (Lane Z)). NoneGoes (limit_at ls) ls first) (sym lanes) (none_as_limit limit now.lanes.items first is none));
} where
  differ : (k : ℕ) → None ≡ Some k → ⊥
  differ k e = absurd cc

-- ---- one after the other

-- what a round needs of what is so far
pub round_of : {Z : Type 0} (start now : Machine Z) → Gives start now → AreOfTable start.switch.run.table start.lanes.items → AreOfTable now.switch.run.table now.lanes.items
round_of {Z = Z} start now gives of = subst (λ (c : Content). AreOfTable c now.lanes.items) (sym gives.same.table) (of_now start now gives of)

pub round_going : {Z : Type 0} (start now : Machine Z) → Gives start now → IsGoing now.switch.run.table now.lanes.items now.switch now.counts
round_going start now gives = with_table start.switch.run.table now.switch.run.table now.lanes.items now.switch now.counts gives.same.table gives.going

-- whether one went
pub some_went : (went : Option ℕ) → is_some went ≡ true → (place : ℕ) × (went ≡ Some place)
some_went None is = absurd cc
some_went (Some place) is = (place, refl)

pub none_went : (went : Option ℕ) → is_some went ≡ false → went ≡ None
none_went None is = refl
none_went (Some place) is = absurd cc

-- the limit of all rounds
pub limit_after : {Z : Type 0} (limit : Option (ℕ × ℕ)) (old new : Machine Z) (went : Option ℕ) → IsRound went old new → limit ≡ limit_at old.lanes.items → limit ≡ limit_at new.lanes.items
limit_after {Z} limit old new (Some place) round is = is ∙ sym (limit_stays old.lanes.items new.lanes.items place (round.gone place refl))
limit_after {Z} limit old new None round is = is ∙ ap (λ (ls : List (Lane Z)). limit_at ls) (sym (round.stays refl))

-- one more round
pub rounds_on : {Z : Type 0} (start now next : Machine Z) (went : Option ℕ) → Gives start now → AreTouched now.lanes.items next.lanes.items → IsOfSameTable now.switch next.switch
    → IsRound went now next → Gives start next
rounds_on {Z = Z} start now next went gives touched same round =
    let all = same_both start.switch now.switch next.switch gives.same same in
    record {
      touched = all_touched_both start.lanes.items now.lanes.items next.lanes.items gives.touched touched;
      same = all;
      going = subst (λ (c : Content). IsGoing c next.lanes.items next.switch next.counts) all.table round.going;
    }
