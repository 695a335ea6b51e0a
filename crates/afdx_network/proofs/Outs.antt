-- What leaves a switch that is fed by time, and what is next there, through its calls.
use Rattle.std.proofs.Common.{◌≡◌, ◌≤◌, ◌||◌, ℕ, nat_lt, min, Bool, true, false, cond, List, [], ◌∷◌, ◌++◌, map, length, Option, Some, None, refl, ap, sym, ◌∙◌, arith}
use Rattle.std.proofs.lemmas.Bool.{le-ltb, ltb-false}
use Rattle.std.proofs.lemmas.List.{length-append}
use Rattle.afdx_units.specs.Time.{earlier_of, is_before}
use Rattle.afdx_pcap.specs.Record.{Record}
use Rattle.afdx_pcap.specs.Fault.{last_stamp}
use Rattle.afdx_table.specs.declared.rows.PortRow.{PortRow}
use Rattle.afdx_table.specs.Content.{Content}
use Rattle.afdx_core.specs.Merge.{Capture, merged}
use Rattle.afdx_session.specs.Output.{written}
use Rattle.afdx_session.specs.Streams.{sent_up_to}
use Rattle.afdx_paced.specs.declared.paced.PacedFault.TheVariants.{NoSuchPort, Early}
use Rattle.afdx_paced.specs.Paced.{Lane, Paced, capture_of, out_up_to, lane_at, went_out, after_put, after_leaving, refusal_by, put_refusal, IsQuietUntil, IsNext}
use Rattle.afdx_paced.specs.Laws.{LaterRecordsChangeNothing, OutGoesOn}
use Rattle.afdx_network.proofs.Lanes.{map_changed}

abbrev pub out_of_all : Content → List Capture → Option ℕ → PortRow → List Record
out_of_all t captures h p = map (written (merged captures)) (sent_up_to t (merged captures) h p)

-- a record that has left changes nothing of what leaves
pub out_left : (v : Paced) (port : ℕ) (out : Record) (h : Option ℕ) (p : PortRow) → out_up_to (after_leaving port out v) h p ≡ out_up_to v h p
out_left v port out h p =
    ap (λ (captures : List Capture). out_of_all v.table captures h p) (map_changed capture_of port (went_out out) (λ l. refl) v.lanes)

-- ---- lengths

no_more : {X : Type 0} (xs a b : List X) → xs ≡ (xs ++ a) ++ b → a ≡ []
no_more xs [] b is = refl
no_more xs (x ∷ a) b is =
    let whole = ap length is in let outer = length-append (xs ++ x ∷ a) b in let inner = length-append xs (x ∷ a) in
    absurd (omega (arith, whole, outer, inner))

pub shorter : OutGoesOn → (v : Paced) (h n : ℕ) (p : PortRow) → h ≤ n → length (out_up_to v (Some h) p) ≤ length (out_up_to v (Some n) p)
shorter on v h n p le =
    let more = on.until v h n p le in let whole = ap length more.1 in let parts = length-append (out_up_to v (Some h) p) more.0 in
    omega (arith, whole, parts)

-- ---- what is next

-- up to an instant no later than what is next nothing leaves
pub quiet_by : OutGoesOn → (v : Paced) (next : Option ℕ) (m : ℕ) → IsNext v next → v.reached ≤ m → is_before m next ≡ false → IsQuietUntil v (Some m)
quiet_by on v None m is from none p among =
    let first = on.until v v.reached m p from in
    let all = on.in_the_end v m p in
    let nothing = no_more (out_up_to v (Some v.reached) p) first.0 all.0 (sym (is p among) ∙ all.1 ∙ ap (λ (xs : List Record). xs ++ all.0) first.1) in
    first.1 ∙ ap (λ (xs : List Record). out_up_to v (Some v.reached) p ++ xs) nothing ∙ same (out_up_to v (Some v.reached) p) where
      same : (xs : List Record) → xs ++ [] ≡ xs
      same [] = refl
      same (x ∷ xs) = ap (λ (ys : List Record). x ∷ ys) (same xs)
quiet_by on v (Some n) m is from none p among =
    let le = ltb-false n m none in
    let first = on.until v v.reached m p from in
    let all = on.until v m n p le in
    let nothing = no_more (out_up_to v (Some v.reached) p) first.0 all.0 (sym (is.1 p among) ∙ all.1 ∙ ap (λ (xs : List Record). xs ++ all.0) first.1) in
    first.1 ∙ ap (λ (xs : List Record). out_up_to v (Some v.reached) p ++ xs) nothing ∙ same (out_up_to v (Some v.reached) p) where
      same : (xs : List Record) → xs ++ [] ≡ xs
      same [] = refl
      same (x ∷ xs) = ap (λ (ys : List Record). x ∷ ys) (same xs)

pub put_next : LaterRecordsChangeNothing → OutGoesOn → (v : Paced) (port : ℕ) (frame : Record) (next : Option ℕ) → IsNext v next → v.reached ≤ frame.stamp
    → IsNext (after_put port frame v) (earlier_of next (Some frame.stamp))
put_next law on v port frame None is from = (
  from,
  λ p among. law v port frame frame.stamp p (omega arith) ∙ quiet_by on v None frame.stamp is from refl p among ∙ sym (law v port frame v.reached p from),
)
put_next law on v port frame (Some n) is from =
    let late = is.0 in (
      omega (arith, from, late),
      λ p among.
          law v port frame (min n frame.stamp) p (omega arith)
          ∙ quiet_by on v (Some n) (min n frame.stamp) is (omega (arith, from, late)) (le-ltb n (min n frame.stamp) (omega arith)) p among
          ∙ sym (law v port frame v.reached p from),
    )

pub leave_next : (v : Paced) (port : ℕ) (out : Record) (next : Option ℕ) → IsNext v next → IsNext (after_leaving port out v) next
leave_next v port out None is = λ p among. out_left v port out None p ∙ is p among ∙ sym (out_left v port out (Some v.reached) p)
leave_next v port out (Some n) is = (is.0, λ p among. out_left v port out (Some n) p ∙ is.1 p among ∙ sym (out_left v port out (Some v.reached) p))

-- ---- what is taken in

-- a port takes a record of this stamp
pub record Takes (v : Paced) (port stamp : ℕ) : Type 0 where
  pub lane : Lane
  pub lane_is : lane_at v port ≡ Some lane
  pub from : v.reached ≤ stamp
  pub last : last_stamp 0 lane.came ≤ stamp

both_not : (h stamp last : ℕ) (P : Type 0) → ((h ≤ stamp) × (last ≤ stamp) → P) → cond (nat_lt stamp h || nat_lt stamp last) (Some Early) None ≡ None → P
both_not h stamp last P goes is = by (nat_lt stamp h) (nat_lt stamp last) refl refl is where
  by : (b c : Bool) → nat_lt stamp h ≡ b → nat_lt stamp last ≡ c → cond (b || c) (Some Early) None ≡ None → P
  by true c first second some = absurd (differ some) where
    differ : Some Early ≡ None → ⊥
    differ e = cc
  by false true first second some = absurd (differ some) where
    differ : Some Early ≡ None → ⊥
    differ e = cc
  by false false first second none = goes (ltb-false stamp h first, ltb-false stamp last second)

pub takes : (v : Paced) (port stamp : ℕ) → put_refusal v port stamp ≡ None → Takes v port stamp
takes v port stamp is = by (lane_at v port) refl is where
  by : (o : Option Lane) → lane_at v port ≡ o → refusal_by v.reached stamp o ≡ None → Takes v port stamp
  by None none some = absurd (differ some) where
    differ : Some NoSuchPort ≡ None → ⊥
    differ e = cc
  by (Some l) found fine = both_not v.reached stamp (last_stamp 0 l.came) (Takes v port stamp) (λ h. record { lane = l; lane_is = found; from = h.0; last = h.1 }) fine

pub not_refused : (v : Paced) (port stamp : ℕ) → Takes v port stamp → put_refusal v port stamp ≡ None
not_refused v port stamp t =
    let from = t.from in let last = t.last in
    ap (refusal_by v.reached stamp) t.lane_is
    ∙ ap (λ b. cond (b || nat_lt stamp (last_stamp 0 t.lane.came)) (Some Early) None) (le-ltb stamp v.reached from)
    ∙ ap (λ b. cond b (Some Early) None) (le-ltb stamp (last_stamp 0 t.lane.came) last)
