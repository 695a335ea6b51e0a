-- A call of a session while the outputs go to files.
use Rattle.std.proofs.Common.{◌≡◌, ℕ, zero, suc, Bool, List, [], ◌∷◌, ◌++◌, map, set, slice_get, Option, Some, refl, ap, sym, ◌∙◌, subst}
use Rattle.std.specs.List.{AllByRecursion}
use Rattle.std.proofs.lemmas.Option.{same_Some}
use Rattle.afdx_table.specs.declared.rows.PortRow.{PortRow}
use Rattle.afdx_table.specs.Content.{Content}
use Rattle.afdx_core.specs.State.{State}
use Rattle.afdx_core.specs.Merge.{Arrival}
use Rattle.afdx_count.specs.Tally.{Tally}
use Rattle.afdx_session.specs.declared.lane.Lane.{Lane}
use Rattle.afdx_session.specs.declared.machine.Machine.{Machine}
use Rattle.afdx_session.specs.declared.plan.RunFault.{RunFault}
use Rattle.afdx_session.specs.declared.plan.RunFault.TheVariants as run
use Rattle.afdx_session.specs.Session.{Intake}
use Rattle.afdx_session.specs.Inner.Lanes.{HasReadAll}
use Rattle.afdx_session.specs.Inner.Kept.{AreOfTable, IsRunning, AreAlike, IsOfSameTable}
use Rattle.afdx_session.specs.Inner.View.{IsSettledLane, AreSettledLanes, intakes_of, IsReady}
use Rattle.afdx_session.specs.Inner.Sources.{IsOfBytes, HaveSameBytes}
use Rattle.afdx_session.specs.Inner.Parts.{HasPut, HavePut, RunsInto, GoesOnInto, StopsAt}
use Rattle.afdx_session.proofs.Intakes.{read_intake, still_of_table, settled_at, settled_marked, settled_with, bytes_after}
use Rattle.afdx_session.proofs.Lending.{ports_stay}
use Rattle.afdx_session.proofs.Putting.{same_put}
use Rattle.afdx_session.proofs.ReadUp.{read_same, all_set, settled_read_up}

-- ---- lanes that are alike

alike_read_up : {Z : Type 0} (old new : List (Lane Z)) → AreAlike old new → AllByRecursion HasReadAll old → AllByRecursion HasReadAll new
alike_read_up [] [] alike all = tt
alike_read_up [] (n ∷ new) alike all = absurd alike
alike_read_up (l ∷ old) [] alike all = absurd alike
alike_read_up (l ∷ old) (n ∷ new) alike all = (read_same l n alike.0.reader alike.0.ended all.0, alike_read_up old new alike.1 all.1)

alike_ports : {Z : Type 0} (old new : List (Lane Z)) → AreAlike old new → map (λ (l : Lane Z). l.port) new ≡ map (λ (l : Lane Z). l.port) old
alike_ports [] [] alike = refl
alike_ports [] (n ∷ new) alike = absurd alike
alike_ports (l ∷ old) [] alike = absurd alike
alike_ports {Z = Z} (l ∷ old) (n ∷ new) alike = ap (λ m. m ∷ map (λ (x : Lane Z). x.port) new) alike.0.port ∙ ap (λ ms. l.port ∷ ms) (alike_ports old new alike.1)

settled_ports : {Z : Type 0} (old new : List (Lane Z)) → AreSettledLanes old new → map (λ (l : Lane Z). l.port) new ≡ map (λ (l : Lane Z). l.port) old
settled_ports [] [] settled = refl
settled_ports [] (n ∷ new) settled = absurd settled
settled_ports (l ∷ old) [] settled = absurd settled
settled_ports {Z = Z} (l ∷ old) (n ∷ new) settled = ap (λ m. m ∷ map (λ (x : Lane Z). x.port) new) settled.0.port ∙ ap (λ ms. l.port ∷ ms) (settled_ports old new settled.1)

-- ---- what was put

settled_put : {F Z : Type 0} (contents : F → Option (List ℕ)) (t : Content) (given : List Arrival) (h : ℕ) (p : PortRow) (l m n : Lane Z) (f g : F) → IsSettledLane m n
    → HasPut contents t given h p l m f g → HasPut contents t given h p l n f g
settled_put contents t given h p l m n f g settled put = record {
  bytes = put.bytes;
  taken = settled.taken ∙ put.taken;
  first = ap (λ o. put.bytes ++ o.items) settled.out ∙ put.first;
  appended = put.appended;
}

-- the lane that a place has where one was set that took as much
set_lane : {Z : Type 0} (lanes : List (Lane Z)) (k j : ℕ) (old new l : Lane Z) → slice_get lanes k ≡ Some old → slice_get lanes j ≡ Some l → new.taken ≡ old.taken
    → (x : Lane Z) × (slice_get (set lanes k new) j ≡ Some x) × (x.taken ≡ l.taken)
set_lane [] k j old new l at is same = absurd cc
set_lane {Z = Z} (m ∷ lanes) zero zero old new l at is same = (new, refl, same ∙ ap (λ (x : Lane Z). x.taken) (sym (same_Some m old at) ∙ same_Some m l is))
set_lane (m ∷ lanes) zero (suc j) old new l at is same = (l, is, refl)
set_lane (m ∷ lanes) (suc k) zero old new l at is same = (l, is, refl)
set_lane (m ∷ lanes) (suc k) (suc j) old new l at is same = set_lane lanes k j old new l at is same

put_since : {F Z : Type 0} (contents : F → Option (List ℕ)) (t : Content) (given : List Arrival) (h : ℕ) (lanes mid next : List (Lane Z)) (files now : List F) (k : ℕ) (old new : Lane Z)
    → slice_get lanes k ≡ Some old → new.taken ≡ old.taken → AreSettledLanes mid next → HavePut contents t given h (set lanes k new) mid files now → HavePut contents t given h lanes next files now
put_since contents t given h lanes mid next files now k old new at same settled put = record {
  long = put.long;
  each = λ place p l n f g is_port is_l is_n is_f is_g.
      let m = settled_at mid next place n settled is_n in
      let x = set_lane lanes k place old new l at is_l same in
      settled_put contents t given h p l m.0 n f g m.2 (same_put contents t given h p l x.0 m.0 f g x.2 (put.each place p x.0 m.0 f g is_port x.1 m.1 is_f is_g));
}

-- ---- the call has answered Ok

pub goes_on_into : {F Z : Type 0} (contents : F → Option (List ℕ)) (old start mid next : Machine Z) (files now : List F) (begun : Bool) (k : ℕ) (lane new : Lane Z) (i : Intake)
    → AreOfTable old.switch.run.table old.lanes.items → IsReady old begun → slice_get old.lanes.items k ≡ Some lane → new.port ≡ lane.port → new.taken ≡ lane.taken → HasReadAll new
    → read_intake new ≡ i → start.switch ≡ old.switch → start.lanes.items ≡ set old.lanes.items k new → RunsInto contents start files mid now
    → AreSettledLanes mid.lanes.items next.lanes.items → next.switch ≡ mid.switch → next.counts ≡ mid.counts
    → GoesOnInto contents old files next now (set (intakes_of old.lanes.items) k i)
goes_on_into {F} {Z} contents old start mid next files now begun k lane new i of ready at port taken read intake start_switch start_lanes runs settled switch counts = record {
  table = table;
  of = subst (λ (c : Content). AreOfTable c next.lanes.items) (sym table.table) (still_of_table old.switch.run.table old.lanes.items next.lanes.items ports of);
  ready = record {
    running = here.0;
    read = settled_read_up mid.lanes.items next.lanes.items settled (alike_read_up changed mid.lanes.items alike (all_set HasReadAll old.lanes.items k new ready.read read));
    marked = settled_marked mid.lanes.items next.lanes.items settled;
  };
  same = subst (λ (x : Intake). HaveSameBytes (set (intakes_of old.lanes.items) k x) (intakes_of next.lanes.items)) intake
      (bytes_after begun old.lanes.items mid.lanes.items next.lanes.items k new ready.marked alike settled);
  put = here.1;
} where
  changed : List (Lane Z)
  changed = set old.lanes.items k new

  alike : AreAlike changed mid.lanes.items
  alike = subst (λ (ls : List (Lane Z)). AreAlike ls mid.lanes.items) start_lanes runs.alike

  table : IsOfSameTable old.switch next.switch
  table = subst (λ (s : State). IsOfSameTable s next.switch) start_switch (subst (λ (s : State). IsOfSameTable start.switch s) (sym switch) runs.same)

  ports : map (λ (l : Lane Z). l.port) next.lanes.items ≡ map (λ (l : Lane Z). l.port) old.lanes.items
  ports = settled_ports mid.lanes.items next.lanes.items settled ∙ alike_ports changed mid.lanes.items alike ∙ ports_stay old.lanes.items k lane new at port

  t : Content
  t = mid.switch.run.table

  ran : (r : IsRunning t next.lanes.items mid.switch mid.counts) × (r.going.given ≡ runs.running.going.given) × (r.going.since ≡ runs.running.going.since)
  ran = settled_with t mid.lanes.items next.lanes.items mid.switch mid.counts settled runs.running

  put : HavePut contents t ran.0.going.given ran.0.going.since old.lanes.items next.lanes.items files now
  put =
      subst (λ (xs : List Arrival). HavePut contents t xs ran.0.going.since old.lanes.items next.lanes.items files now) (sym ran.1)
      (subst (λ h. HavePut contents t runs.running.going.given h old.lanes.items next.lanes.items files now) (sym ran.2)
      (put_since contents t runs.running.going.given runs.running.going.since old.lanes.items mid.lanes.items next.lanes.items files now k lane new at taken settled
      (subst (λ (ls : List (Lane Z)). HavePut contents t runs.running.going.given runs.running.going.since ls mid.lanes.items files now) start_lanes runs.put)))

  here : (r : IsRunning next.switch.run.table next.lanes.items next.switch next.counts)
      × HavePut contents next.switch.run.table r.going.given r.going.since old.lanes.items next.lanes.items files now
  here =
      subst (λ (s : State). (r : IsRunning s.run.table next.lanes.items s next.counts) × HavePut contents s.run.table r.going.given r.going.since old.lanes.items next.lanes.items files now)
      (sym switch)
      (subst (λ (c : Tally). (r : IsRunning t next.lanes.items mid.switch c) × HavePut contents t r.going.given r.going.since old.lanes.items next.lanes.items files now) (sym counts)
      (ran.0, put))

-- ---- it failed

pub stops_at : {Z : Type 0} (lanes : List (Lane Z)) (k : ℕ) (new : Lane Z) (fault : RunFault) (Why : Type 0) → IsOfBytes fault → Why → StopsAt lanes (set lanes k new) k fault Why
stops_at lanes k new run.Memory Why of_bytes why = tt
stops_at lanes k new (run.Capture port which) Why of_bytes why = (why, (new, refl))
stops_at lanes k new run.WrongPorts Why of_bytes why = absurd of_bytes
stops_at lanes k new run.Closed Why of_bytes why = absurd of_bytes
stops_at lanes k new run.Failed Why of_bytes why = absurd of_bytes
