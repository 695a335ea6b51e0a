-- The lanes that are left of a session that has failed at one port: those of the others have read what came.
use Rattle.std.proofs.Common.{◌≡◌, ◌≢◌, ◌⊎◌, ℕ, zero, suc, ◌==◌, Bool, true, false, cond, List, [], ◌∷◌, map, set, slice_get, Some, None, refl, ap, sym, ◌∙◌, subst, inl, inr}
use Rattle.std.specs.Prelude.{find}
use Rattle.std.proofs.lemmas.Option.{same_Some}
use Rattle.afdx_session.specs.declared.lane.Lane.{Lane}
use Rattle.afdx_session.specs.declared.machine.Machine.{Machine}
use Rattle.afdx_session.specs.declared.plan.RunFault.{RunFault}
use Rattle.afdx_session.specs.declared.plan.RunFault.TheVariants as run
use Rattle.afdx_session.specs.Streams.{Stream}
use Rattle.afdx_session.specs.Session.{Intake, Seen, refusal, refusal_at}
use Rattle.afdx_session.specs.Inner.Lanes.{intake_of, HasRead, HasReadAll}
use Rattle.afdx_session.specs.Inner.Kept.{AreLanesOf, IsMarked}
use Rattle.afdx_session.specs.Inner.View.{intakes_of, seen_of, IsReady, AreHalfDone, OthersStay}
use Rattle.afdx_session.specs.Inner.Sources.{IsOfBytes}
use Rattle.afdx_session.specs.Inner.Stop.{IsLeftAt, AreLeft, IsStoppedBy}
use Rattle.afdx_session.proofs.Intakes.{marked_bytes}
use Rattle.afdx_session.proofs.Numbered.{all_slice_get}
use Rattle.afdx_session.proofs.Parts.{at_set}
use Rattle.afdx_session.proofs.Shown.{half_ports}
use Rattle.afdx_session.proofs.Writing.{mapped_from}

-- what was read of the capture at a place
has_read_at : {Z : Type 0} (lanes : List (Lane Z)) (streams : List Stream) (k : ℕ) (l : Lane Z) → AreLanesOf lanes streams → slice_get lanes k ≡ Some l → (s : Stream) × HasRead l s.records
has_read_at [] streams k l are at = absurd cc
has_read_at (m ∷ lanes) [] k l are at = absurd are
has_read_at {Z} (m ∷ lanes) (s ∷ streams) zero l are at = (s, subst (λ (x : Lane Z). HasRead x s.records) (same_Some m l at) are.0.read)
has_read_at (m ∷ lanes) (s ∷ streams) (suc k) l are at = has_read_at lanes streams k l are.1 at

ports_seen : {Z : Type 0} (lanes : List (Lane Z)) → map (λ (i : Intake). i.port) (intakes_of lanes) ≡ map (λ (l : Lane Z). l.port) lanes
ports_seen [] = refl
ports_seen (l ∷ lanes) = ap (λ ns. l.port ∷ ns) (ports_seen lanes)

-- a lane that no call has touched
left_at : {Z : Type 0} (m : Machine Z) (begun : Bool) (k : ℕ) (l : Lane Z) → IsReady m begun → slice_get m.lanes.items k ≡ Some l → IsLeftAt (intake_of l) l
left_at m begun k l ready at =
    let going = ready.running.going in
    let read = has_read_at m.lanes.items going.streams k l going.lanes_are at in
    let marked = all_slice_get (IsMarked begun) m.lanes.items k l ready.marked at in
    record {
      may = record { records = read.0.records; has_read = read.1; done = marked.undone; all = all_slice_get HasReadAll m.lanes.items k l ready.read at };
      bytes = sym (marked_bytes begun l marked);
      closed = sym marked.closed;
    }

-- all lanes but one
lanes_left : {Z : Type 0} (old : Machine Z) (new : List (Lane Z)) (begun : Bool) (port place : ℕ) (own lane : Lane Z) → IsReady old begun → slice_get old.lanes.items place ≡ Some own → own.port ≡ port
    → new ≡ set old.lanes.items place lane → AreHalfDone old.lanes.items new → AreLeft (seen_of old begun false) port new
lanes_left {Z} old new begun port place own lane ready at port_is changes half = record {
  ports = half_ports old.lanes.items new half ∙ sym (ports_seen old.lanes.items);
  others = λ k i l is_i is_l other. by k i l other (mapped_from intake_of old.lanes.items k i is_i) (at_set old.lanes.items place k lane l (ap (λ ls. slice_get ls k) (sym changes) ∙ is_l));
} where
  by : (k : ℕ) (i : Intake) (l : Lane Z) → (i.port ≡ port → ⊥) → (x : Lane Z) × (slice_get old.lanes.items k ≡ Some x) × (intake_of x ≡ i)
      → ((k ≡ place) × (l ≡ lane)) ⊎ ((k ≢ place) × (slice_get old.lanes.items k ≡ Some l)) → IsLeftAt i l
  by k i l other from (inl here) =
      let same : from.0 ≡ own = same_Some from.0 own (sym from.1 ∙ ap (slice_get old.lanes.items) here.0 ∙ at) in
      absurd (other (ap (λ (j : Intake). j.port) (sym from.2) ∙ ap (λ (x : Lane Z). x.port) same ∙ port_is))
  by k i l other from (inr there) =
      let same : from.0 ≡ l = same_Some from.0 l (sym from.1 ∙ there.1) in
      subst (λ (j : Intake). IsLeftAt j l) (ap intake_of (sym same) ∙ from.2) (left_at old begun k l ready there.1)

-- a call that failed
pub stopped_by : {Z : Type 0} (old : Machine Z) (new : List (Lane Z)) (begun failed : Bool) (v : Seen) (port place : ℕ) (own : Lane Z) (fault : RunFault) (Why : Type 0) → seen_of old begun failed ≡ v
    → failed ≡ false → IsReady old begun → slice_get old.lanes.items place ≡ Some own → own.port ≡ port → AreHalfDone old.lanes.items new → OthersStay old.lanes.items new place fault
    → IsOfBytes fault → Why → IsStoppedBy v port fault new Why
stopped_by old new begun failed v port place own run.Memory Why view not_failed ready at port_is half stay of_bytes why = tt
stopped_by {Z} old new begun failed v port place own (run.Capture which fault) Why view not_failed ready at port_is half stay of_bytes why =
    (why, subst (λ w. AreLeft w port new) (ap (λ b. seen_of old begun b) (sym not_failed) ∙ view) (lanes_left old new begun port place own stay.0 ready at port_is stay.1 half))
stopped_by old new begun failed v port place own run.WrongPorts Why view not_failed ready at port_is half stay of_bytes why = absurd of_bytes
stopped_by old new begun failed v port place own run.Closed Why view not_failed ready at port_is half stay of_bytes why = absurd of_bytes
stopped_by old new begun failed v port place own run.Failed Why view not_failed ready at port_is half stay of_bytes why = absurd of_bytes

-- a session that refuses nothing at a port has not failed, and the port is open there
pub has_not_failed : (v : Seen) (port : ℕ) → refusal v port ≡ None → v.failed ≡ false
has_not_failed v port may = by v.failed may where
  by : (b : Bool) → cond b (Some run.Failed) (refusal_at (find (λ (i : Intake). i.port == port) v.intakes)) ≡ None → b ≡ false
  by true is = absurd cc
  by false is = refl

pub is_open_there : {Z : Type 0} (m : Machine Z) (begun failed : Bool) (v : Seen) (lanes : List (Lane Z)) (port : ℕ) (fault : RunFault) → seen_of m begun failed ≡ v → lanes ≡ m.lanes.items
    → refusal v port ≡ None → refusal_at (find (λ (i : Intake). i.port == port) (intakes_of lanes)) ≡ Some fault → ⊥
is_open_there m begun failed v lanes port fault view same may is = by failed (ap (λ w. refusal w port) view ∙ may) where
  by : (b : Bool) → cond b (Some run.Failed) (refusal_at (find (λ (i : Intake). i.port == port) (intakes_of m.lanes.items))) ≡ None → ⊥
  by true none = absurd cc
  by false none =
      let other : Some fault ≡ None = sym is ∙ ap (λ ls. refusal_at (find (λ (i : Intake). i.port == port) (intakes_of ls))) same ∙ none in
      absurd cc
