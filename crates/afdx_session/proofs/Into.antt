-- Captures that came in pieces end, and what is left of the outputs goes to the files.
use Rattle.std.proofs.Common.{◌≡◌, ℕ, zero, suc, ◌<◌, ◌==◌, Bool, true, false, cond, List, [], ◌∷◌, ◌++◌, length, take, slice_get, Option, Some, None, refl, ap, sym, ◌∙◌}
use Rattle.std.proofs.Common.{arith, subst, ◌≤◌, map}
use Rattle.std.specs.Prelude.{find, All}
use Rattle.std.specs.List.{AllByRecursion}
use Rattle.std.specs.Io.KnownBytes.{Appends}
use Rattle.std.proofs.lemmas.Bool.{both_ways, eq-eqb, ne_eqb}
use Rattle.std.proofs.lemmas.Option.{same_Some}
use Rattle.afdx_pcap.specs.Record.{Record}
use Rattle.afdx_table.specs.declared.rows.PortRow.{PortRow}
use Rattle.afdx_table.specs.Content.{Content, port_row}
use Rattle.afdx_table.specs.WellFormed as table
use Rattle.afdx_account.specs.Level.{InOrder}
use Rattle.afdx_core.specs.declared.step.Row.{Row}
use Rattle.afdx_core.specs.Rows.{frame_of_row}
use Rattle.afdx_core.specs.State.{State, after_finish}
use Rattle.afdx_core.specs.Held.{Keeps}
use Rattle.afdx_core.specs.Isolation.{IsRun, IsOfAnArrival}
use Rattle.afdx_core.specs.Merge.{Capture, merged}
use Rattle.afdx_count.specs.Tally.{Tally}
use Rattle.afdx_count.specs.Run.{counts_of}
use Rattle.afdx_earliest.specs.Instants.{instant_at}
use Rattle.afdx_session.specs.declared.lane.Lane.{Lane}
use Rattle.afdx_session.specs.declared.machine.Machine.{Machine}
use Rattle.afdx_session.specs.Texts.{Text}
use Rattle.afdx_session.specs.Reading.{AreCaptures}
use Rattle.afdx_session.specs.Output.{rows_of, output_text, outputs}
use Rattle.afdx_session.specs.Outcome.{Results, IsOutcome, IsDoneOf}
use Rattle.afdx_session.specs.Headline.{AcceptedRunsIsolate}
use Rattle.afdx_session.specs.Session.{Intake, Seen}
use Rattle.afdx_session.specs.Finish.{text_in, texts_in}
use Rattle.afdx_session.specs.Into.{HasTaken, HaveTaken, IsFinishedInto}
use Rattle.afdx_session.specs.Inner.Settled.{first_place, IsWithin}
use Rattle.afdx_session.specs.Inner.Lanes.{intake_of, limit_at, head_of, heads_of, IsFirstOf, NoneGoes}
use Rattle.afdx_session.specs.Inner.Lent.{IsOver, texts_over, taken_by, left_in, HaveGone}
use Rattle.afdx_session.specs.Inner.Files.{HaveMore, Proceeds, HasEndedInto}
use Rattle.afdx_session.specs.Inner.Kept.{AreOfTable, IsGoing, IsMarked, IsOfSameTable, AreTouched}
use Rattle.afdx_session.specs.Inner.View.{intakes_of, seen_of, gone_out, IsKeptMachine, AreHalfDone, AreEndedLanes, texts_at}
use Rattle.afdx_session.specs.Inner.Pieces.{WasTaken, TakenStays, TakenIsAPrefix, capture_at, bytes_in}
use Rattle.afdx_session.specs.Inner.Rest.{Rest, IsAsBefore, HaveRests}
use Rattle.afdx_session.proofs.Calls.{touched_table, half_of_table, handed_stays}
use Rattle.afdx_session.proofs.Carrying.{none_left_to_read, taken_touched}
use Rattle.afdx_session.proofs.Ending.{TakenAreTheCapture, all_ended_touched}
use Rattle.afdx_session.proofs.Finishing.{find_intake, text_ports}
use Rattle.afdx_session.proofs.Given.{lane_at}
use Rattle.afdx_session.proofs.Gone.{port_of_lane}
use Rattle.afdx_session.proofs.Intakes.{marked_bytes}
use Rattle.afdx_session.proofs.Numbered.{all_slice_get}
use Rattle.afdx_session.proofs.Parts.{have_over, same_length}
use Rattle.afdx_session.proofs.Pieces.{found_output, all_continued}
use Rattle.afdx_session.proofs.Rounds.{same_both}
use Rattle.afdx_session.proofs.Writing.{mapped_from, all_appended, done_of}

-- ---- all captures have ended

all_end : {Z : Type 0} (old new : List (Lane Z)) → AreEndedLanes old new → AllByRecursion (λ (l : Lane Z). l.ended ≡ true) new
all_end [] [] ended = tt
all_end [] (n ∷ new) ended = absurd ended
all_end (l ∷ old) [] ended = absurd ended
all_end (l ∷ old) (n ∷ new) ended = (ended.0.read.ended ∙ ended.0.closed, all_end old new ended.1)

no_limit_left : {Z : Type 0} (lanes : List (Lane Z)) → AllByRecursion (λ (l : Lane Z). l.ended ≡ true) lanes → limit_at lanes ≡ None
no_limit_left [] ended = refl
no_limit_left (l ∷ lanes) ended = ap (λ b. cond b (limit_at lanes) (Some (first_place (l.last, l.port) (limit_at lanes)))) ended.0 ∙ no_limit_left lanes ended.1

no_head : (rs : List Record) → head_of rs ≡ None → rs ≡ []
no_head [] none = refl
no_head (r ∷ rs) none = absurd cc

no_heads : {Z : Type 0} (lanes : List (Lane Z)) → ((j : ℕ) → j < length lanes → instant_at (heads_of lanes) j ≡ None) → AllByRecursion (λ (l : Lane Z). l.waiting.items ≡ []) lanes
no_heads [] none = tt
no_heads (l ∷ lanes) none = (no_head l.waiting.items (none 0 (omega arith)), no_heads lanes (λ j lt. none (suc j) (omega (arith, lt))))

-- so nothing waits where none goes
nothing_waits : {Z : Type 0} (lanes : List (Lane Z)) (first : Option (ℕ × ℕ)) → AllByRecursion (λ (l : Lane Z). l.ended ≡ true) lanes → NoneGoes (limit_at lanes) lanes first
    → AllByRecursion (λ (l : Lane Z). l.waiting.items ≡ []) lanes
nothing_waits {Z} lanes first ended none = by first none.is none.past where
  by : (found : Option (ℕ × ℕ)) → IsFirstOf lanes found → ((place stamp : ℕ) (lane : Lane Z) → found ≡ Some (place, stamp) → slice_get lanes place ≡ Some lane
      → IsWithin (limit_at lanes) stamp lane.port → ⊥)
      → AllByRecursion (λ (l : Lane Z). l.waiting.items ≡ []) lanes
  by None is past = no_heads lanes is
  by (Some x) is past =
      let at = lane_at lanes x.0 is.within in
      absurd (past x.0 x.1 at.0 refl at.1 (subst (λ o. IsWithin o x.1 at.0.port) (sym (no_limit_left lanes ended)) tt))

over_ended : {Z : Type 0} (old new : List (Lane Z)) → AreEndedLanes old new → AllByRecursion (λ (l : Lane Z). l.waiting.items ≡ []) new → AllByRecursion IsOver new
over_ended [] [] ended none = tt
over_ended [] (n ∷ new) ended none = absurd ended
over_ended (l ∷ old) [] ended none = absurd ended
over_ended (l ∷ old) (n ∷ new) ended none = (
  record { closed = ended.0.closed; head = λ is. absurd (both_ways n.ended is (ended.0.read.ended ∙ ended.0.closed)); read = λ is. (none.0, ended.0.read) },
  over_ended old new ended.1 none.1,
)

texts_ended : {Z : Type 0} (begun : Bool) (old new : List (Lane Z)) → AllByRecursion (IsMarked begun) old → AreEndedLanes old new → texts_over new ≡ texts_at old
texts_ended begun [] [] marked ended = refl
texts_ended begun [] (n ∷ new) marked ended = absurd ended
texts_ended begun (l ∷ old) [] marked ended = absurd ended
texts_ended begun (l ∷ old) (n ∷ new) marked ended =
    ap (λ m. (m, n.reader.bytes) ∷ texts_over new) (ap (λ (i : Intake). i.port) ended.0.half.intake)
    ∙ ap (λ bytes. (l.port, bytes) ∷ texts_over new) (ended.0.bytes ∙ sym (marked_bytes begun l marked.0))
    ∙ ap (λ texts. text_in (intake_of l) ∷ texts) (texts_ended begun old new marked.1 ended.1)

taken_half : {Z : Type 0} (old new : List (Lane Z)) → AreHalfDone old new → taken_by new ≡ taken_by old
taken_half [] [] half = refl
taken_half [] (n ∷ new) half = absurd half
taken_half (l ∷ old) [] half = absurd half
taken_half (l ∷ old) (n ∷ new) half = ap (λ k. k ∷ taken_by new) (ap (λ (i : Intake). i.taken) half.0.intake) ∙ ap (λ ks. l.taken ∷ ks) (taken_half old new half.1)

-- all have gone to the switch, once what is settled has
pub record Ends {Z : Type 0} (old new : Machine Z) : Type 0 where
  pub gone : HaveGone (texts_at old.lanes.items) new
  pub same : IsOfSameTable old.switch new.switch
  pub taken : taken_by new.lanes.items ≡ taken_by old.lanes.items
  pub many : length new.lanes.items ≡ length old.lanes.items

pub ends : {Z : Type 0} (begun : Bool) (old mid new : Machine Z) (first : Option (ℕ × ℕ)) → AllByRecursion (IsMarked begun) old.lanes.items
    → AreOfTable old.switch.run.table old.lanes.items → length old.switch.run.handed ≡ length old.switch.run.table.ports
    → mid.switch ≡ old.switch → AreHalfDone old.lanes.items mid.lanes.items → AreEndedLanes old.lanes.items mid.lanes.items
    → AreTouched mid.lanes.items new.lanes.items → IsOfSameTable mid.switch new.switch
    → IsGoing new.switch.run.table new.lanes.items new.switch new.counts → NoneGoes (limit_at new.lanes.items) new.lanes.items first → Ends old new
ends {Z} begun old mid new first marked of handed switch half closed touched same going none = record {
  gone = record {
    carrying = record {
      of = touched_table mid new touched same of_mid;
      handed = handed_stays mid.switch new.switch same (subst (λ (s : State). length s.run.handed ≡ length s.run.table.ports) (sym switch) handed);
      going = going;
      over = over_ended old.lanes.items new.lanes.items ended (nothing_waits new.lanes.items first all none);
    };
    over = texts_ended begun old.lanes.items new.lanes.items marked ended;
    all = all;
  };
  same = subst (λ (s : State). IsOfSameTable s new.switch) switch same;
  taken = taken;
  many = same_length old.lanes.items new.lanes.items taken;
} where
  of_mid : AreOfTable mid.switch.run.table mid.lanes.items
  of_mid = subst (λ (s : State). AreOfTable s.run.table mid.lanes.items) (sym switch) (half_of_table old.switch.run.table old.lanes.items mid.lanes.items half of)

  ended : AreEndedLanes old.lanes.items new.lanes.items
  ended = all_ended_touched old.lanes.items mid.lanes.items new.lanes.items closed touched

  all : AllByRecursion (λ (l : Lane Z). l.ended ≡ true) new.lanes.items
  all = all_end old.lanes.items new.lanes.items ended

  taken : taken_by new.lanes.items ≡ taken_by old.lanes.items
  taken = taken_touched mid.lanes.items new.lanes.items touched ∙ taken_half old.lanes.items mid.lanes.items half

-- and then what left went to the files
pub ends_into : {F Z : Type 0} (contents : F → Option (List ℕ)) (old mid new : Machine Z) (files now : List F) → Ends old mid → Proceeds contents mid files new now → left_in new.lanes.items ≡ 0
    → IsOfSameTable old.switch new.switch × HasEndedInto contents (texts_at old.lanes.items) old.lanes.items files new now
ends_into {F} {Z} contents old mid new files now end on none = (
  same_both old.switch mid.switch new.switch end.same on.same,
  record {
    gone = record { carrying = on.carrying; over = on.texts ∙ end.gone.over; all = none_left_to_read new.lanes.items none };
    long = on.long;
    more = λ start have.
        have_over contents mid.switch.run.table new.switch.run.table (texts_over mid.lanes.items) texts (taken_by new.lanes.items) start now (sym on.same.table) end.gone.over
        (on.more start
        (have_over contents new.switch.run.table mid.switch.run.table texts (texts_over mid.lanes.items) (taken_by mid.lanes.items) start files on.same.table (sym end.gone.over)
        (subst (λ ns. HaveMore contents new.switch.run.table texts ns start files) (sym end.taken) have)));
  },
) where
  texts : List Text
  texts = texts_at old.lanes.items

-- ---- what was taken of each port is in the files

pub row_found : (ports : List PortRow) (k : ℕ) (p : PortRow) → table.Rises ports → slice_get ports k ≡ Some p → find (λ (q : PortRow). q.id == p.id) ports ≡ Some p
row_found [] k p rises at = absurd cc
row_found (q ∷ ports) zero p rises at =
    subst (λ (x : PortRow). find (λ (r : PortRow). r.id == x.id) (q ∷ ports) ≡ Some x) (same_Some q p at)
    (ap (λ b. cond b (Some q) (find (λ (r : PortRow). r.id == q.id) ports)) (eq-eqb q.id q.id refl))
row_found (q ∷ ports) (suc k) p rises at =
    let above = all_slice_get (λ (other : PortRow). q.id < other.id) ports k p rises.0 at in
    ap (λ b. cond b (Some q) (find (λ (r : PortRow). r.id == p.id) ports)) (ne_eqb q.id p.id (λ same. omega (arith, above, same)))
    ∙ row_found ports k p rises.1 at

take_prefix : (xs ys : List ℕ) → take (length xs) (xs ++ ys) ≡ xs
take_prefix [] ys = refl
take_prefix (x ∷ xs) ys = ap (λ zs. x ∷ zs) (take_prefix xs ys)

-- of a machine that is between two calls, none of which has failed
pub have_taken : {F Z : Type 0} → TakenStays → TakenIsAPrefix → (contents : F → Option (List ℕ)) (m : Machine Z) (begun : Bool) (start now : List F) → IsKeptMachine m begun false
    → HaveTaken contents (seen_of m begun false) start now → HaveMore contents m.switch.run.table (texts_at m.lanes.items) (taken_by m.lanes.items) start now
have_taken {F} {Z} stays prefix contents m begun start now kept have read are = record {
  long = have.long;
  each = λ place k p f g is_port is_k is_f is_g. at place k p f g is_port is_k (have.each place p f g is_port is_f is_g);
} where
  v : Seen
  v = seen_of m begun false

  t : Content
  t = m.switch.run.table

  texts : List Text
  texts = texts_at m.lanes.items

  whole : Results
  whole = record { captures = outputs t (merged read); counts = counts_of t (rows_of t (merged read)) }

  outcome : IsOutcome t texts whole
  outcome = record { ports = text_ports m.lanes.items ∙ kept.of.ports; read = read; are_read = are; captures = refl; counts = refl }

  at : (place k : ℕ) (p : PortRow) (f g : F) → slice_get t.ports place ≡ Some p → slice_get (taken_by m.lanes.items) place ≡ Some k → HasTaken contents v p.id f g
      → Appends (contents f) (contents g) (take k (output_text t (merged read) p))
  at place k p f g is_port is_k has = subst (Appends (contents f) (contents g)) (sym taken_is) has.appended where
    out : List ℕ
    out = output_text t (merged read) p

    row : port_row t p.id ≡ Some p
    row = row_found t.ports place p kept.of.formed.ports_rise is_port

    text : List ℕ
    text = gone_out t begun kept.shown.streams p

    was : WasTaken v p.id has.taken
    was = stays has.were.before v p.id p has.taken text has.were.on has.were.same (ap (λ (c : Content). port_row c p.id) (sym has.were.on.table) ∙ row)
        (record { streams = kept.shown.streams; are = kept.shown.are; text_is = refl }) has.were.was

    rest : (more : List ℕ) × (capture_at p.id whole.captures ≡ has.taken ++ more)
    rest = prefix v p.id has.taken texts whole was (all_continued (intakes_of m.lanes.items)) outcome

    out_is : out ≡ has.taken ++ rest.0
    out_is = sym (ap bytes_in (found_output (output_text t (merged read)) t.ports p.id p row)) ∙ rest.1

    from : (l : Lane Z) × (slice_get m.lanes.items place ≡ Some l) × (l.taken ≡ k)
    from = mapped_from (λ (l : Lane Z). l.taken) m.lanes.items place k is_k

    port : p.id ≡ from.0.port
    port = let q = port_of_lane t.ports m.lanes.items place from.0 kept.of.ports from.1 in ap (λ (x : PortRow). x.id) (same_Some p q.0 (sym is_port ∙ q.1)) ∙ q.2

    intake : was.intake ≡ intake_of from.0
    intake = same_Some was.intake (intake_of from.0) (sym was.intake_is ∙ ap (λ n. find (λ (i : Intake). i.port == n) (intakes_of m.lanes.items)) port
        ∙ find_intake t.ports m.lanes.items place from.0 kept.of.formed.ports_rise kept.of.ports from.1)

    count : k ≡ length has.taken
    count = sym from.2 ∙ ap (λ (i : Intake). i.taken) (sym intake) ∙ was.count

    taken_is : take k out ≡ has.taken
    taken_is = ap (λ n. take n out) count ∙ ap (take (length has.taken)) out_is ∙ take_prefix has.taken rest.0

-- ---- the end of a session

pub finished_into : {F Z : Type 0} → TakenStays → TakenIsAPrefix → AcceptedRunsIsolate → (contents : F → Option (List ℕ)) (m new : Machine Z) (begun : Bool) (r : Rest) (read : List Capture)
    (files mid now : List F) (counts : Tally) → IsKeptMachine m begun false → IsOfSameTable m.switch new.switch → AreCaptures (texts_at m.lanes.items) read
    → HasEndedInto contents (texts_at m.lanes.items) m.lanes.items files new mid → r.taken ≡ taken_by new.lanes.items
    → length r.taken ≡ length m.switch.run.table.ports → counts ≡ counts_of m.switch.run.table (rows_of m.switch.run.table (merged read))
    → HaveRests contents m.switch.run.table (merged read) r.taken (length m.switch.run.table.ports) mid now → IsFinishedInto contents (seen_of m begun false) files now counts
finished_into {F} {Z} stays prefix isolate contents m new begun r read files mid now counts kept same are ended taken many counted rests = record {
  none_failed = refl;
  whole = whole;
  outcome = outcome;
  counted = counted;
  appended = λ start have. all_appended contents t (merged read) r.taken start mid now many
      (more start (have_taken stays prefix contents m begun start files kept have) read are) rests;
  isolated = λ accepted. isolate t texts whole kept.of.formed (kept.accepted accepted) outcome;
} where
  t : Content
  t = m.switch.run.table

  texts : List Text
  texts = texts_at m.lanes.items

  whole : Results
  whole = record { captures = outputs t (merged read); counts = counts_of t (rows_of t (merged read)) }

  outcome : IsOutcome t texts whole
  outcome = record { ports = text_ports m.lanes.items ∙ kept.of.ports; read = read; are_read = are; captures = refl; counts = refl }

  more : (start : List F) → HaveMore contents t texts (taken_by m.lanes.items) start files → HaveMore contents t texts r.taken start mid
  more start have =
      have_over contents new.switch.run.table t texts texts r.taken start mid same.table refl
      (subst (λ ns. HaveMore contents new.switch.run.table texts ns start mid) (sym taken)
      (ended.more start (have_over contents t new.switch.run.table texts texts (taken_by m.lanes.items) start files (sym same.table) refl have)))

-- ---- the switch that is left

-- handing out what is left changes no more of it
done_before : (cleared : Bool) (t : Content) (texts : List Text) (old new : State) → IsDoneOf cleared t texts old → IsAsBefore old new → IsDoneOf cleared t texts new
done_before cleared t texts old new done before = record {
  ports = done.ports;
  read = done.read;
  are_read = done.are_read;
  table = before.table ∙ done.table;
  rows = before.rows ∙ done.rows;
  is_run = record {
    arrivals = subst (λ (u : Content). All (IsOfAnArrival u) new.run.rows) (sym before.table)
        (subst (λ (rows : List Row). All (IsOfAnArrival old.run.table) rows) (sym before.rows) done.is_run.arrivals);
    stamps = subst (λ (rows : List Row). InOrder 0 (map frame_of_row rows)) (sym before.rows) done.is_run.stamps;
    latest = subst (λ (n : ℕ). All (λ (row : Row). row.stamp ≤ n) new.run.rows) (sym before.latest)
        (subst (λ (rows : List Row). All (λ (row : Row). row.stamp ≤ old.run.latest) rows) (sym before.rows) done.is_run.latest);
  };
  all = before.finished ∙ done.all;
  accepted = before.accepted ∙ done.accepted;
}

pub session_done : {Z : Type 0} → TakenAreTheCapture → (m new : Machine Z) (s now : State) (begun : Bool) → IsKeptMachine m begun false → IsOfSameTable m.switch new.switch
    → HaveGone (texts_at m.lanes.items) new → s.run ≡ after_finish new.switch.run → Keeps new.switch s → IsRun s.run → IsAsBefore s now
    → IsDoneOf (seen_of m begun false).accepted (seen_of m begun false).table (texts_in (seen_of m begun false)) now
session_done takes m new s now begun kept same gone run keeps is_run before =
    let t = m.switch.run.table in
    let texts = texts_at m.lanes.items in
    done_before m.switch.accepted t texts s now
    (done_of takes m.switch.accepted t texts new s (text_ports m.lanes.items ∙ kept.of.ports) same.table same.accepted gone run keeps.accepted is_run) before
