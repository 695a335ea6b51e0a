-- What is noted agrees with the run at first, and after the other calls.
use Rattle.std.proofs.Common.{◌≡◌, ℕ, ◌<◌, ◌≤◌, Bool, true, false, cond, nat_lt, List, length, Option, Some, None, Result, Ok, Err, IfOk, IfErr, OnOk, OnErr, refl, ap, sym, ◌∙◌, subst, arith}
use Rattle.std.specs.declared.alloc.AllocError.{AllocError}
use Rattle.std.specs.Option.{is_none, is_some}
use Rattle.std.proofs.lemmas.Bool.Decides.{nat_tests}
use Rattle.std.proofs.lemmas.Option.{same_Some}
use Rattle.afdx_units.specs.Line.{size_of}
use Rattle.afdx_pcap.specs.Record.{Record}
use Rattle.afdx_table.specs.Content.{Content, port_row}
use Rattle.afdx_port.specs.declared.Sent.{Sent}
use Rattle.afdx_core.specs.declared.step.CoreFault.{CoreFault}
use Rattle.afdx_core.specs.declared.step.CoreFault.TheVariants.{NoSuchPort, Earlier}
use Rattle.afdx_core.specs.Step.{Step}
use Rattle.afdx_core.specs.Rows.{row_of}
use Rattle.afdx_core.specs.State.{Run, State, fresh_run, fresh_state, after_advance, after_finish, after_handing, place_of, next_at, next_by, refusal_of}
use Rattle.afdx_core.specs.Isolation.{IsRun, RunsBegin, RunsTakeArrivals, RunsAdvance, RunsHandOut}
use Rattle.afdx_core.specs.Held.{Keeps, IsTaken, IsNext, IsAppended}
use Rattle.afdx_core.specs.Inner.Joining.{AdvancesGoOn, FinishGoesOn}
use Rattle.afdx_measure.specs.declared.gauges.Gauges.{Gauges}
use Rattle.afdx_measure.specs.declared.policing.Policing.{Policing}
use Rattle.afdx_measure.specs.Inner.Arriving.{HasArrived}
use Rattle.afdx_measure.specs.Inner.Gauged.{AgreesWith}
use Rattle.afdx_measure.specs.Inner.Policed.{EndsAre, KnowsPolicing}
use Rattle.afdx_measure.proofs.Handing.{are_gauged_later}

-- what a measuring switch keeps true
abbrev pub IsNoted : {Z : Type 0} → Run → Option (Gauges Z) → Option (Policing Z) → Type 0
IsNoted r g p = AgreesWith r g × KnowsPolicing r p × (r.finished ≡ false) × IsRun r

-- ---- at first

pub begun : {Z : Type 0} (s : State) (accepted keeps : Bool) (t : Content) (g : Option (Gauges Z)) (p : Option (Policing Z)) → RunsBegin → s ≡ fresh_state accepted keeps t → AgreesWith (fresh_run t) g
    → KnowsPolicing (fresh_run t) p → IsNoted s.run g p
begun s accepted keeps t g p begin is agrees knows =
    subst (λ (r : Run). IsNoted r g p) (sym (ap (λ (x : State). x.run) is)) (agrees, knows, refl, begin t)

-- ---- an arrival

in_order : (r : Run) (port stamp : ℕ) → refusal_of r port stamp ≡ None → r.latest ≤ stamp
in_order r port stamp none = by (is_none (port_row r.table port)) (nat_lt stamp r.latest) refl none where
  by : (b c : Bool) → nat_lt stamp r.latest ≡ c → cond b (Some NoSuchPort) (cond c (Some Earlier) None) ≡ None → r.latest ≤ stamp
  by true c is e = absurd (cc)
  by false true is e = absurd (cc)
  by false false is e = not_less stamp r.latest is where
    not_less : (m n : ℕ) → nat_lt m n ≡ false → n ≤ m
    not_less m n h = grind (arith, nat_tests)

pub arrived_now : RunsTakeArrivals → (old new : State) (port at size : ℕ) (frame : Record) (step : Step) → IsTaken old new (row_of old.run.table port frame) frame step
    → refusal_of old.run port frame.stamp ≡ None → old.run.finished ≡ false → IsRun old.run → at ≡ frame.stamp → size ≡ size_of (length frame.bytes)
    → HasArrived old.run (row_of old.run.table port frame) at size step new.run
arrived_now runs old new port at size frame step taken taken_up still run at_is size_is = record {
  now_is = taken.run;
  step_is = taken.step_is;
  at_is = at_is;
  size_is = size_is;
  still_open = still;
  in_order = in_order old.run port frame.stamp taken_up;
  is_run = runs old.run port frame taken_up run;
}

-- ---- the instant, and the end

advanced : {Z : Type 0} → AdvancesGoOn → (r : Run) (to : ℕ) (o : Option (Gauges Z)) → r.finished ≡ false → r.latest ≤ to → AgreesWith r o → AgreesWith (after_advance to r) o
advanced goes r to None still le h = tt
advanced goes r to (Some g) still le h = are_gauged_later r (after_advance to r) refl refl (goes r to still le) g (λ p. refl) h

pub finished : {Z : Type 0} → FinishGoesOn → (r : Run) (o : Option (Gauges Z)) → r.finished ≡ false → AgreesWith r o → AgreesWith (after_finish r) o
finished goes r None still h = tt
finished goes r (Some g) still h = are_gauged_later r (after_finish r) refl refl (goes r still) g (λ p. refl) h

-- of policing whatever else but the arrivals changed
pub knows_on : {Z : Type 0} (r : Run) (latest : ℕ) (handed : List ℕ) (ended : Bool) (o : Option (Policing Z)) → KnowsPolicing r o
    → KnowsPolicing (record { table = r.table; rows = r.rows; latest = latest; handed = handed; finished = ended }) o
knows_on r latest handed ended None h = tt
knows_on r latest handed ended (Some p) h = record { formed = h.formed; spells = record { many = h.spells.many; each = h.spells.each }; count = h.count; ends = by p.span.ends h.ends } where
  by : (ends : Option (ℕ × ℕ)) → EndsAre ends r → EndsAre ends (record { table = r.table; rows = r.rows; latest = latest; handed = handed; finished = ended })
  by None are = are
  by (Some both) are = are

pub advanced_keeps : {Z : Type 0} (result : Result (Unit {0}) CoreFault) (old new : State) (to : ℕ) (g : Option (Gauges Z)) (p : Option (Policing Z)) → AdvancesGoOn → RunsAdvance
    → OnOk result ((old.run.latest ≤ to) × (new.run ≡ after_advance to old.run) × Keeps old new) → IfErr result (λ e. (to < old.run.latest) × (e ≡ Earlier) × (new ≡ old))
    → IsNoted old.run g p → IsNoted new.run g p
advanced_keeps (Ok u) old new to g p goes runs ok err h =
    subst (λ (r : Run). IsNoted r g p) (sym ok.1)
    (advanced goes old.run to g h.2 ok.0 h.0, knows_on old.run to old.run.handed old.run.finished p h.1, h.2, runs old.run to ok.0 h.3)
advanced_keeps (Err e) old new to g p goes runs ok err h = subst (λ (s : State). IsNoted s.run g p) (sym err.2) h

-- ---- what is handed out

pub none_of : {X : Type 0} (o : Option X) → is_some o ≡ false → o ≡ None
none_of None h = refl
none_of (Some x) h = absurd (cc)

module _ (old new : State) (port : ℕ) (before after : List ℕ) where
  -- nothing went where nothing was next
  pub went_none : (some : Bool) → next_by old.run (place_of old.run port) ≡ None → IsAppended old new port before after some → new ≡ old
  went_none false none h = (h.none refl).0.1
  went_none true none h =
      let out = (h.text refl).1 in
      let handed = out.2 in
      let next = handed.next in
      let there = sym none ∙ ap (next_by old.run) handed.at in
      absurd (cc)

  -- what was next went
  pub went_on : (some : Bool) (place : ℕ) (s : Sent) → place_of old.run port ≡ Some place → next_at old.run place ≡ Some s → IsAppended old new port before after some
      → new.run ≡ after_handing place old.run
  went_on false place s at next h =
      let none = (h.none refl).0.0 in
      let there = sym none ∙ ap (next_by old.run) at in
      absurd (cc)
  went_on true place s at next h =
      let out = (h.text refl).1 in
      let handed = out.2 in
      handed.run ∙ ap (λ (k : ℕ). after_handing k old.run) (same_Some out.0 place (sym handed.at ∙ at))

  -- so is a switch whose ports are not gauged
  pub stays_without : {Z : Type 0} (result : Result Bool AllocError) (g : Option (Gauges Z)) (p : Option (Policing Z)) → RunsHandOut → g ≡ None
      → IfOk result (λ some. IsAppended old new port before after some) → OnErr result (new ≡ old) → IsNoted old.run g p → IsNoted new.run g p
  stays_without {Z} (Ok true) g p hands none ok err h =
      let out = (ok.text refl).1 in
      let handed = out.2 in
      subst (λ (r : Run). IsNoted r g p) (sym handed.run) (
        subst (AgreesWith (after_handing out.0 old.run)) (sym none) tt,
        knows_on old.run old.run.latest (after_handing out.0 old.run).handed old.run.finished p h.1,
        h.2,
        hands old.run out.0 h.3,
      )
  stays_without (Ok false) g p hands none ok err h = subst (λ (s : State). IsNoted s.run g p) (sym (ok.none refl).0.1) h
  stays_without (Err e) g p hands none ok err h = subst (λ (s : State). IsNoted s.run g p) (sym err) h

module _ (old new : State) (port : ℕ) where
  pub out_none : (out : Option Record) → next_by old.run (place_of old.run port) ≡ None → IsNext old new port out → new ≡ old
  out_none None none h = h.1
  out_none (Some out) none h =
      let next = h.2.next in
      let there = sym none ∙ ap (next_by old.run) h.2.at in
      absurd (cc)

  pub out_on : (out : Option Record) (place : ℕ) (s : Sent) → place_of old.run port ≡ Some place → next_at old.run place ≡ Some s → IsNext old new port out → new.run ≡ after_handing place old.run
  out_on None place s at next h =
      let there = sym h.0 ∙ ap (next_by old.run) at in
      absurd (cc)
  out_on (Some out) place s at next h = h.2.run ∙ ap (λ (k : ℕ). after_handing k old.run) (same_Some h.0 place (sym h.2.at ∙ at))

  pub stays_out : {Z : Type 0} (result : Result (Option Record) AllocError) (g : Option (Gauges Z)) (p : Option (Policing Z)) → RunsHandOut → g ≡ None
      → IfOk result (λ out. IsNext old new port out) → OnErr result (new ≡ old) → IsNoted old.run g p → IsNoted new.run g p
  stays_out {Z} (Ok (Some out)) g p hands none ok err h =
      subst (λ (r : Run). IsNoted r g p) (sym ok.2.run) (
        subst (AgreesWith (after_handing ok.0 old.run)) (sym none) tt,
        knows_on old.run old.run.latest (after_handing ok.0 old.run).handed old.run.finished p h.1,
        h.2,
        hands old.run ok.0 h.3,
      )
  stays_out {Z} (Ok None) g p hands none ok err h = subst (λ (s : State). IsNoted s.run g p) (sym ok.1) h
  stays_out (Err e) g p hands none ok err h = subst (λ (s : State). IsNoted s.run g p) (sym err) h
