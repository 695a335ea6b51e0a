-- What is left of the outputs when a run is over.
use Rattle.std.proofs.Common.{◌≡◌, ◌≢◌, ◌⊎◌, ℕ, zero, suc, ◌+◌, ◌<◌, ◌≤◌, ◌==◌, Bool, true, List, [], ◌∷◌, ◌++◌, map, length, take, drop, set, slice_get, slice_index, Option, Some, None}
use Rattle.std.proofs.Common.{get_or, option_map, refl, ap, sym, ◌∙◌, arith, subst, inl, inr, append_assoc, length-set}
use Rattle.std.specs.List.{AllByRecursion, flat_map, position}
use Rattle.std.specs.Io.KnownBytes.{Appends}
use Rattle.std.proofs.KnownBytes.{Appends-trans}
use Rattle.std.proofs.lemmas.Bool.{cases_lt}
use Rattle.std.proofs.lemmas.List.{append-nil, length-map, map-append, take-append-drop, take-append-le}
use Rattle.std.proofs.lemmas.Option.{same_Some, slice_get_within, slice_get-map, slice_get-get_or}
use Rattle.afdx_pcap.specs.Record.{Record}
use Rattle.afdx_pcap.specs.Text.{record_text, capture_text}
use Rattle.afdx_table.specs.declared.rows.PortRow.{PortRow}
use Rattle.afdx_table.specs.Content.{Content}
use Rattle.afdx_port.specs.declared.Sent.{Sent}
use Rattle.afdx_port.specs.Content.{done}
use Rattle.afdx_port.specs.Service.{sent_of}
use Rattle.afdx_port.specs.Inner.Order.{ReachesInOrder}
use Rattle.afdx_port.specs.Inner.Events.{SentGoesOn}
use Rattle.afdx_core.specs.declared.step.Row.{Row}
use Rattle.afdx_core.specs.State.{Run, State, sent_in, port_after, place_of, next_by, after_finish}
use Rattle.afdx_core.specs.Held.{Keeps}
use Rattle.afdx_core.specs.Isolation.{IsRun}
use Rattle.afdx_core.specs.Merge.{Arrival, arrivals_of, by_stamp, merged}
use Rattle.afdx_count.specs.Tally.{ended_tally}
use Rattle.afdx_count.specs.Run.{counts_so_far, counts_of}
use Rattle.afdx_count.specs.Inner.Laws.{EndCountsTheRun}
use Rattle.afdx_session.specs.declared.lane.Lane.{Lane}
use Rattle.afdx_session.specs.declared.machine.Machine.{Machine}
use Rattle.afdx_session.specs.Texts.{Text, AreOfPorts}
use Rattle.afdx_session.specs.Reading.{AreCaptures}
use Rattle.afdx_session.specs.Outcome.{IsDoneOf}
use Rattle.afdx_session.specs.Output.{rows_of, written, output_text, outputs, sent_by}
use Rattle.afdx_session.specs.Inner.Replay.{HasBytesOf, left_at, IsDrained}
use Rattle.afdx_session.specs.Streams.{Stream, captures_of, sent_up_to}
use Rattle.afdx_session.specs.Inner.Settled.{Draws}
use Rattle.afdx_session.specs.Inner.Lanes.{waiting_of}
use Rattle.afdx_session.specs.Inner.Lent.{IsOver, texts_over, taken_by, HaveGone, HasPassed}
use Rattle.afdx_session.specs.Inner.Kept.{AreLanesOf, AreOfTable, text_up_to, IsOut, IsGoing}
use Rattle.afdx_session.specs.Inner.Files.{HavePrefixes}
use Rattle.afdx_session.specs.Inner.Rest.{Rest, IsLeft, HaveRests}
use Rattle.afdx_session.specs.Written.{AreAppended}
use Rattle.afdx_session.proofs.Draining.{none_left}
use Rattle.afdx_session.proofs.Drawing.{sent-prefix, capture-append, same_handed}
use Rattle.afdx_session.proofs.Parts.{at_set}
use Rattle.afdx_session.proofs.Ending.{TakenAreTheCapture, lane_capture}
use Rattle.afdx_session.proofs.Growing.{sent_later}
use Rattle.afdx_session.proofs.Handing.{its_place}
use Rattle.afdx_session.proofs.Replaying.{bytes_stay}

-- ---- lists

-- the numbers at one place of lists that have the same numbers
number_at : {X Y : Type 0} (f : X → ℕ) (g : Y → ℕ) (xs : List X) (ys : List Y) (k : ℕ) (x : X) (y : Y) → map f xs ≡ map g ys → slice_get xs k ≡ Some x → slice_get ys k ≡ Some y → f x ≡ g y
number_at f g [] ys k x y same at there = absurd cc
number_at f g (z ∷ xs) [] k x y same at there = absurd cc
number_at f g (z ∷ xs) (w ∷ ys) zero x y same at there = ap f (sym (same_Some z x at)) ∙ ap (λ (ns : List ℕ). get_or ns 0 0) same ∙ ap g (same_Some w y there)
number_at f g (z ∷ xs) (w ∷ ys) (suc k) x y same at there = number_at f g xs ys k x y (ap (drop 1) same) at there

-- the element that a mapped one comes from
pub mapped_from : {X Y : Type 0} (f : X → Y) (xs : List X) (k : ℕ) (y : Y) → slice_get (map f xs) k ≡ Some y → (x : X) × (slice_get xs k ≡ Some x) × (f x ≡ y)
mapped_from f [] k y at = absurd cc
mapped_from f (x ∷ xs) zero y at = (x, refl, same_Some (f x) y at)
mapped_from f (x ∷ xs) (suc k) y at = mapped_from f xs k y at

-- ---- one port hands out what is left of it

-- what a port sent, by the parts of a run that it rests on
abbrev sent_with : Content → List Row → ℕ → Bool → Option PortRow → List Sent
sent_with t rows latest finished None = []
sent_with t rows latest finished (Some p) = sent_of (done (port_after t rows latest finished p))

sent_is : (r : Run) (o : Option PortRow) → sent_in r o ≡ sent_with r.table r.rows r.latest r.finished o
sent_is r None = refl
sent_is r (Some p) = refl

-- nothing changes at the others
left_stays : (port k : ℕ) (old new : State) → IsDrained port old new → place_of old.run port ≢ Some k → left_at new.run (Some k) ≡ left_at old.run (Some k)
left_stays port k old new drained other =
    ap (λ n. drop n (sent_in new.run (slice_get new.run.table.ports k))) (drained.others k other)
    ∙ ap (drop (slice_index old.run.handed k)) (
    sent_is new.run (slice_get new.run.table.ports k)
    ∙ ap (λ (c : Content). sent_with c new.run.rows new.run.latest new.run.finished (slice_get c.ports k)) drained.table
    ∙ ap (λ (rows : List Row). sent_with old.run.table rows new.run.latest new.run.finished (slice_get old.run.table.ports k)) drained.rows
    ∙ ap (λ n. sent_with old.run.table old.run.rows n new.run.finished (slice_get old.run.table.ports k)) drained.latest
    ∙ ap (λ b. sent_with old.run.table old.run.rows old.run.latest b (slice_get old.run.table.ports k)) drained.finished
    ∙ sym (sent_is old.run (slice_get old.run.table.ports k)))

-- the rest of its output is then written, and those behind it are left
pub writes : (t : Content) (arrivals : List Arrival) (n k : ℕ) (p : PortRow) (old new : Rest) (text : Text) (before out : List ℕ) → IsLeft t arrivals n old → slice_get t.ports n ≡ Some p
    → slice_get old.taken n ≡ Some k → slice_get old.texts n ≡ Some text → new.texts ≡ old.texts → new.taken ≡ old.taken → new.counts ≡ old.counts → before ≡ text.1
    → ((given : List Arrival) (place : ℕ) → place_of old.state.run text.0 ≡ Some place → length given ≡ length old.state.run.rows → HasBytesOf given old.state
    → Draws given text.0 place old.state new.state before out)
    → next_by new.state.run (place_of new.state.run text.0) ≡ None → IsLeft t arrivals (n + 1) new × (take k (output_text t arrivals p) ++ out ≡ output_text t arrivals p)
writes t arrivals n k p old new text before out left is_port is_taken is_text texts taken counts before_is draws none = (
  record {
    formed = left.formed;
    table = drawn.drained.table ∙ left.table;
    long = left.long ∙ ap length (sym drawn.drained.rows);
    handed = same_handed text.0 old.state new.state left.handed drawn.drained;
    frames = drawn.drained.frames arrivals left.long left.frames;
    ports = ap (map (λ (x : Text). x.0)) texts ∙ left.ports;
    many = ap length taken ∙ left.many;
    counts = counts ∙ left.counts;
    rest = λ place j q other le is_q is_j is_other.
        ap (λ more. take j (output_text t arrivals q) ++ other.1 ++ flat_map record_text (map (written arrivals) more)) (left_stays text.0 place old.state new.state drawn.drained (behind place le))
        ∙ left.rest place j q other (omega (arith, le)) is_q (ap (λ ns. slice_get ns place) (sym taken) ∙ is_j) (ap (λ ts. slice_get ts place) (sym texts) ∙ is_other);
  },
  ap (λ xs. take k (output_text t arrivals p) ++ xs) out_is
      ∙ sym (append_assoc (take k (output_text t arrivals p)) text.1 (flat_map record_text (map (written arrivals) (left_at old.state.run (Some n)))))
      ∙ left.rest n k p text (omega arith) is_port is_taken is_text,
) where
  id : p.id ≡ text.0
  id = sym (number_at (λ (x : Text). x.0) (λ (q : PortRow). q.id) old.texts t.ports n text p left.ports is_text is_port)

  place_is : place_of old.state.run text.0 ≡ Some n
  place_is =
      ap (λ (c : Content). position (λ (q : PortRow). q.id == text.0) c.ports) left.table
      ∙ ap (λ m. position (λ (q : PortRow). q.id == m) t.ports) (sym id)
      ∙ its_place t.ports n p left.formed.ports_rise is_port

  drawn : Draws arrivals text.0 n old.state new.state before out
  drawn = draws arrivals n place_is left.long left.frames

  place_now : place_of new.state.run text.0 ≡ Some n
  place_now = ap (λ (c : Content). position (λ (q : PortRow). q.id == text.0) c.ports) drawn.drained.table ∙ place_is

  none_now : left_at new.state.run (Some n) ≡ []
  none_now = ap (left_at new.state.run) (sym place_now) ∙ none_left new.state.run (place_of new.state.run text.0) none

  out_is : out ≡ text.1 ++ flat_map record_text (map (written arrivals) (left_at old.state.run (Some n)))
  out_is =
      sym (append-nil out)
      ∙ ap (λ more. out ++ flat_map record_text (map (written arrivals) more)) (sym none_now)
      ∙ sym drawn.rest
      ∙ ap (λ prefix. prefix ++ flat_map record_text (map (written arrivals) (left_at old.state.run (Some n)))) before_is

  behind : (place : ℕ) → n + 1 ≤ place → place_of old.state.run text.0 ≢ Some place
  behind place le is = let same = same_Some n place (sym place_is ∙ is) in absurd (omega (arith, same, le))

-- ---- captures that were lent

over_captures : {Z : Type 0} → TakenAreTheCapture → (lanes : List (Lane Z)) (streams : List Stream) → AllByRecursion IsOver lanes → AllByRecursion (λ (l : Lane Z). l.ended ≡ true) lanes
    → AreLanesOf lanes streams → AreCaptures (texts_over lanes) (captures_of streams)
over_captures law [] [] over ended are = tt
over_captures law [] (s ∷ streams) over ended are = absurd are
over_captures law (l ∷ lanes) [] over ended are = absurd are
over_captures law (l ∷ lanes) (s ∷ streams) over ended are = (
  are.0.port,
  lane_capture law l s are.0 (over.0.read ended.0).1 over.0.closed,
  over_captures law lanes streams over.1 ended.1 are.1,
)

none_waits : {Z : Type 0} (lanes : List (Lane Z)) → AllByRecursion IsOver lanes → AllByRecursion (λ (l : Lane Z). l.ended ≡ true) lanes → arrivals_of (map waiting_of lanes) ≡ []
none_waits [] over ended = refl
none_waits (l ∷ lanes) over ended =
    ap (λ rs. map {B = Arrival} (λ (r : Record). record { port = l.port; frame = r }) rs ++ arrivals_of (map waiting_of lanes)) (over.0.read ended.0).0
    ∙ none_waits lanes over.1 ended.1

-- what a lane shows of its output
abbrev pub text_by : {Z : Type 0} → Lane Z → Text
text_by l = (l.port, l.out.items)

out_ports : {Z : Type 0} (lanes : List (Lane Z)) → map (λ (text : Text). text.0) (map (λ (l : Lane Z). (l.port, l.out.items)) lanes) ≡ map (λ (l : Lane Z). l.port) lanes
out_ports [] = refl
out_ports {Z = Z} (l ∷ lanes) = ap (λ ns. l.port ∷ ns) (out_ports lanes)

-- ---- the switch is finished

-- what it sent is all that is sent of the arrivals
sent_in_the_end : (given : List Arrival) (r : Run) (p : PortRow) → r.rows ≡ rows_of r.table given → sent_in (after_finish r) (Some p) ≡ sent_up_to r.table given None p
unfolding sent_up_to
sent_in_the_end given r p rows = ap (λ (xs : List Row). sent_of (done (port_after r.table xs r.latest true p))) rows

all_sent : (t : Content) (given : List Arrival) (p : PortRow) → sent_up_to t given None p ≡ sent_by t given p
unfolding sent_up_to sent_by
all_sent t given p = refl

-- what went before, what a lane has of the output, and what the finished switch did not hand out, are the whole
rest_of_port : {Z : Type 0} → SentGoesOn → ReachesInOrder → (given : List Arrival) (since : ℕ) (s : State) (p : PortRow) (place : ℕ) (l : Lane Z) → s.run.rows ≡ rows_of s.run.table given
    → slice_get s.run.table.ports place ≡ Some p → IsOut s.run.table given since s p place l
    → take l.taken (output_text s.run.table given p) ++ l.out.items ++ flat_map record_text (map (written given) (left_at (after_finish s.run) (Some place))) ≡ output_text s.run.table given p
rest_of_port {Z} goes_on reaches given since s p place l rows is_port out =
    ap (λ more. take l.taken (output_text t given p) ++ l.out.items ++ flat_map record_text (map (written given) more)) left_is
    ∙ ap (λ xs. take l.taken xs ++ l.out.items ++ behind) whole
    ∙ ap (λ xs. xs ++ l.out.items ++ behind) (take-append-le l.taken text behind out.taken)
    ∙ ap (λ xs. take l.taken text ++ xs ++ behind) out.left
    ∙ ap (λ xs. xs ++ behind) (take-append-drop l.taken text)
    ∙ sym whole where
      t : Content
      t = s.run.table

      text : List ℕ
      text = text_up_to t given since p

      first : List Sent
      first = sent_up_to t given (Some since) p

      rest : (more : List Sent) × (sent_up_to t given None p ≡ first ++ more)
      rest = sent_later goes_on reaches t given since None p tt

      behind : List ℕ
      behind = flat_map record_text (map (written given) rest.0)

      whole : output_text t given p ≡ text ++ behind
      whole =
          ap (λ sent. capture_text (map (written given) sent)) (sym (all_sent t given p) ∙ rest.1)
          ∙ ap capture_text (map-append (written given) first rest.0)
          ∙ capture-append (map (written given) first) (map (written given) rest.0)

      left_is : left_at (after_finish s.run) (Some place) ≡ rest.0
      left_is =
          ap (λ (o : Option PortRow). drop (slice_index s.run.handed place) (sent_in (after_finish s.run) o)) is_port
          ∙ ap (λ n. drop n (sent_in (after_finish s.run) (Some p))) out.count
          ∙ ap (drop (length first)) (sent_in_the_end given s.run p rows ∙ rest.1)
          ∙ sent-prefix first rest.0

-- ---- a machine whose switch took all records of these captures

-- what it was given is the program's merge of them
all_given : {Z : Type 0} (texts : List Text) (m : Machine Z) (gone : HaveGone texts m) → merged (captures_of gone.carrying.going.streams) ≡ gone.carrying.going.given
all_given texts m gone =
    let going = gone.carrying.going in
    going.settling.whole ∙ ap (λ xs. going.given ++ by_stamp xs) (none_waits m.lanes.items gone.carrying.over gone.all) ∙ append-nil going.given

-- they are what was read
all_read : {Z : Type 0} → TakenAreTheCapture → (texts : List Text) (m : Machine Z) (gone : HaveGone texts m) → AreCaptures texts (captures_of gone.carrying.going.streams)
all_read takes texts m gone =
    let streams = gone.carrying.going.streams in
    subst (λ ts. AreCaptures ts (captures_of streams)) gone.over (over_captures takes m.lanes.items streams gone.carrying.over gone.all gone.carrying.going.lanes_are)

-- its switch, once it is finished
pub done_of : {Z : Type 0} → TakenAreTheCapture → (cleared : Bool) (t : Content) (texts : List Text) (m : Machine Z) (s : State) → AreOfPorts t texts → m.switch.run.table ≡ t
    → m.switch.accepted ≡ cleared → (gone : HaveGone texts m) → s.run ≡ after_finish m.switch.run → s.accepted ≡ m.switch.accepted → IsRun s.run → IsDoneOf cleared t texts s
done_of takes cleared t texts m s ports table is_cleared gone run accepted is_run =
    let going = gone.carrying.going in
    record {
      ports = ports;
      read = captures_of going.streams;
      are_read = all_read takes texts m gone;
      table = ap (λ (r : Run). r.table) run ∙ table;
      rows = ap (λ (r : Run). r.rows) run ∙ going.is_given.rows ∙ ap (rows_of m.switch.run.table) (sym (all_given texts m gone))
          ∙ ap (λ (c : Content). rows_of c (merged (captures_of going.streams))) table;
      is_run = is_run;
      all = ap (λ (r : Run). r.finished) run;
      accepted = accepted ∙ is_cleared;
    }

pub passed_done : {Z : Type 0} → TakenAreTheCapture → (cleared : Bool) (t : Content) (texts : List Text) (m : Machine Z) (s : State) → HasPassed cleared t texts m → s.run ≡ after_finish m.switch.run
    → s.accepted ≡ m.switch.accepted → IsRun s.run → IsDoneOf cleared t texts s
passed_done takes cleared t texts m s passed run accepted is_run =
    done_of takes cleared t texts m s passed.ports passed.table passed.accepted passed.gone run accepted is_run

-- what is left of it
pub gone_is_left : {Z : Type 0} → SentGoesOn → ReachesInOrder → TakenAreTheCapture → EndCountsTheRun → (t : Content) (texts : List Text) (m : Machine Z) (r : Rest) (gone : HaveGone texts m)
    → m.switch.run.table ≡ t → r.state.run ≡ after_finish m.switch.run → Keeps m.switch r.state → r.counts ≡ ended_tally (after_finish m.switch.run) m.counts
    → r.texts ≡ map (λ (l : Lane Z). (l.port, l.out.items)) m.lanes.items → r.taken ≡ taken_by m.lanes.items
    → AreCaptures texts (captures_of gone.carrying.going.streams) × IsLeft t (merged (captures_of gone.carrying.going.streams)) 0 r
gone_is_left {Z} goes_on reaches takes law t texts m r gone table run keeps counts outs taken = (
  all_read takes texts m gone,
  subst (λ (c : Content). IsLeft c (merged (captures_of going.streams)) 0 r) table (subst (λ xs. IsLeft u xs 0 r) (sym given_is) left),
) where
  u : Content
  u = m.switch.run.table

  lanes : List (Lane Z)
  lanes = m.lanes.items

  going : IsGoing u lanes m.switch m.counts
  going = gone.carrying.going

  given : List Arrival
  given = going.given

  given_is : merged (captures_of going.streams) ≡ given
  given_is = all_given texts m gone

  rows : m.switch.run.rows ≡ rows_of u given
  rows = going.is_given.rows

  long : length m.switch.run.rows ≡ length given
  long = ap length rows ∙ length-map given _

  of : AreOfTable u lanes
  of = gone.carrying.of

  left : IsLeft u given 0 r
  left = record {
    formed = of.formed;
    table = ap (λ (x : Run). x.table) run;
    long = sym (ap (λ (x : Run). length x.rows) run ∙ long);
    handed = ap (λ (x : Run). length x.handed) run ∙ gone.carrying.handed ∙ ap (λ (x : Run). length x.table.ports) (sym run);
    frames = bytes_stay given m.switch r.state (omega (arith, long)) keeps going.is_given.frames;
    ports = ap (map (λ (x : Text). x.0)) outs ∙ out_ports lanes ∙ of.ports;
    many = ap length taken ∙ length-map lanes (λ l. l.taken) ∙ sym (length-map lanes (λ l. l.port)) ∙ ap length of.ports ∙ length-map u.ports (λ p. p.id);
    counts = counts ∙ ap (ended_tally (after_finish m.switch.run)) (going.counts_are ∙ ap (counts_so_far u) (sym rows)) ∙ law m.switch.run of.formed ∙ ap (counts_of u) rows;
    rest = λ place k p text le is_port is_k is_text.
        let from = mapped_from (λ (l : Lane Z). (l.port, l.out.items)) lanes place text (ap (λ ts. slice_get ts place) (sym outs) ∙ is_text) in
        let taken_at = slice_get-map (λ (l : Lane Z). l.taken) lanes place ∙ ap (option_map (λ (l : Lane Z). l.taken)) from.1 in
        let taken_is = same_Some from.0.taken k (sym taken_at ∙ ap (λ ns. slice_get ns place) (sym taken) ∙ is_k) in
        ap (λ j. take j (output_text u given p) ++ text.1 ++ flat_map record_text (map (written given) (left_at r.state.run (Some place)))) (sym taken_is)
        ∙ ap (λ (x : Text). take from.0.taken (output_text u given p) ++ x.1 ++ flat_map record_text (map (written given) (left_at r.state.run (Some place)))) (sym from.2)
        ∙ ap (λ (x : Run). take from.0.taken (output_text u given p) ++ from.0.out.items ++ flat_map record_text (map (written given) (left_at x (Some place)))) run
        ∙ rest_of_port goes_on reaches given going.since m.switch p place from.0 rows is_port (going.outs place p from.0 tt is_port from.1);
  }

-- ---- the files have the whole

pub rests_none : {F : Type 0} (contents : F → Option (List ℕ)) (t : Content) (arrivals : List Arrival) (taken : List ℕ) (files : List F) → HaveRests contents t arrivals taken 0 files files
rests_none contents t arrivals taken files = record {
  long = refl;
  rests = λ place k p f g lt is_port is_k is_f is_g. absurd (omega (arith, lt));
  others = λ place le. refl;
}

-- one more has its rest
pub rests_on : {F : Type 0} (contents : F → Option (List ℕ)) (t : Content) (arrivals : List Arrival) (taken : List ℕ) (n : ℕ) (files now : List F) (old new : F) (bytes : List ℕ)
    → slice_get now n ≡ Some old → Appends (contents old) (contents new) bytes
    → ((p : PortRow) (k : ℕ) → slice_get t.ports n ≡ Some p → slice_get taken n ≡ Some k → take k (output_text t arrivals p) ++ bytes ≡ output_text t arrivals p)
    → HaveRests contents t arrivals taken n files now → HaveRests contents t arrivals taken (n + 1) files (set now n new)
rests_on {F} contents t arrivals taken n files now old new bytes at appends whole was = record {
  long = length-set now n new ∙ was.long;
  rests = λ place k p f g lt is_port is_k is_f is_g. by place k p f g lt is_port is_k is_f (at_set now n place new g is_g);
  others = λ place le. set_behind now n place new (omega (arith, le)) ∙ was.others place (omega (arith, le));
} where
  below : (place : ℕ) → place < n + 1 → place ≢ n → place < n
  below place lt ne = elim (cases_lt place n) [
    | inl less ↦ less
    | inr ge ↦ absurd (ne (omega (arith, lt, ge)))
  ]

  set_behind : (xs : List F) (k place : ℕ) (x : F) → k < place → slice_get (set xs k x) place ≡ slice_get xs place
  set_behind [] k place x lt = refl
  set_behind (y ∷ xs) zero zero x lt = absurd (omega (arith, lt))
  set_behind (y ∷ xs) zero (suc place) x lt = refl
  set_behind (y ∷ xs) (suc k) zero x lt = absurd (omega (arith, lt))
  set_behind (y ∷ xs) (suc k) (suc place) x lt = set_behind xs k place x (omega (arith, lt))

  by : (place k : ℕ) (p : PortRow) (f g : F) → place < n + 1 → slice_get t.ports place ≡ Some p → slice_get taken place ≡ Some k → slice_get files place ≡ Some f
      → ((place ≡ n) × (g ≡ new)) ⊎ ((place ≢ n) × (slice_get now place ≡ Some g))
      → (more : List ℕ) × Appends (contents f) (contents g) more × (take k (output_text t arrivals p) ++ more ≡ output_text t arrivals p)
  by place k p f g lt is_port is_k is_f (inr other) = let ne = other.0 in was.rests place k p f g (below place lt ne) is_port is_k is_f other.1
  by place k p f g lt is_port is_k is_f (inl here) =
      let same : f ≡ old = same_Some f old (sym is_f ∙ ap (slice_get files) here.0 ∙ sym (was.others n (omega arith)) ∙ at) in (
        bytes,
        subst (λ (x : F). Appends (contents f) (contents x) bytes) (sym here.1) (subst (λ (x : F). Appends (contents x) (contents new) bytes) (sym same) appends),
        whole p k (ap (slice_get t.ports) (sym here.0) ∙ is_port) (ap (slice_get taken) (sym here.0) ∙ is_k),
      )

-- what went before and the rest are the outputs
pub all_appended : {F : Type 0} (contents : F → Option (List ℕ)) (t : Content) (arrivals : List Arrival) (taken : List ℕ) (files mid now : List F) → length taken ≡ length t.ports
    → HavePrefixes contents t arrivals taken files mid → HaveRests contents t arrivals taken (length t.ports) mid now → AreAppended contents files now (outputs t arrivals)
all_appended {F} contents t arrivals taken files mid now many prefixes rests = (
  rests.long ∙ prefixes.long,
  λ place f g text is_f is_g is_text.
      let from = mapped_from (λ (p : PortRow). (p.id, output_text t arrivals p)) t.ports place text is_text in
      let lt = slice_get_within t.ports place from.0 from.1 in
      let there = slice_get_within files place f is_f in
      let long = prefixes.long in
      let h = slice_get-get_or mid place f (omega (arith, there, long)) in
      let k = slice_get-get_or taken place 0 (omega (arith, lt, many)) in
      let rest = rests.rests place (get_or taken place 0) from.0 (get_or mid place f) g lt from.1 k h is_g in
      let first = prefixes.each place (get_or taken place 0) from.0 f (get_or mid place f) from.1 k is_f h in
      subst (λ xs. Appends (contents f) (contents g) xs) (rest.2 ∙ ap (λ (x : Text). x.1) from.2)
      (Appends-trans (contents f) (contents (get_or mid place f)) (contents g) (take (get_or taken place 0) (output_text t arrivals from.0)) rest.0 first rest.1),
)
