-- What has gone out is in the lanes.
use Rattle.std.proofs.Common.{◌≡◌, ◌≢◌, ℕ, zero, suc, ◌+◌, ◌<◌, ◌≤◌, ◌==◌, List, [], ◌∷◌, ◌++◌, map, length, set, get_or, slice_get, Option, Some, None, refl, ap, sym, ◌∙◌, arith, append_assoc, drop}
use Rattle.std.proofs.Common.{inl, inr, subst, Vec}
use Rattle.std.specs.List.{AllByRecursion, position}
use Rattle.std.proofs.lemmas.List.{append-nil, length-map}
use Rattle.std.proofs.lemmas.Bool.{cases_lt}
use Rattle.std.proofs.lemmas.Option.{slice_get_within, get_or_from_slice_get, same_Some}
use Rattle.afdx_units.specs.Time.{last_instant}
use Rattle.afdx_pcap.specs.Text.{capture_text}
use Rattle.afdx_table.specs.declared.rows.PortRow.{PortRow}
use Rattle.afdx_table.specs.Content.{Content}
use Rattle.afdx_port.specs.Inner.Admission.{EarlierEventsStayAdmitted}
use Rattle.afdx_port.specs.Inner.Order.{ReachesInOrder}
use Rattle.afdx_port.specs.Inner.Events.{SentGoesOn}
use Rattle.afdx_core.specs.State.{State, place_of, next_by}
use Rattle.afdx_core.specs.Merge.{Arrival, merged}
use Rattle.afdx_core.specs.Inner.Merge.{ByStampIsOrdered}
use Rattle.afdx_count.specs.Tally.{Tally}
use Rattle.afdx_session.specs.declared.lane.Lane.{Lane}
use Rattle.afdx_session.specs.Output.{written}
use Rattle.afdx_session.specs.Inner.Replay.{HasBytesOf, IsDrained}
use Rattle.afdx_session.specs.Streams.{Stream, merged_so_far, frontier, sent_up_to, output_so_far, text_so_far, AllStartBeforeTheLastInstant}
use Rattle.afdx_session.specs.Inner.Settled.{IsSettling, IsGiven, IsAt, HandsOut, Draws}
use Rattle.afdx_session.specs.Inner.Lanes.{waiting_of}
use Rattle.afdx_pcap.specs.Reading.{HasTaken}
use Rattle.afdx_session.specs.Inner.Kept.{IsLaneOf, AreLanesOf, AreOfTable, come_to, text_up_to, IsOutAt, IsOut, AreOut, Every, IsGoing, HasCome, IsRunning, IsTouched, IsGrown, AreGrown}
use Rattle.afdx_session.specs.Inner.Kept.{IsDrawnOff, AreDrawnOff}
use Rattle.afdx_session.proofs.Joining.{AllFrom}
use Rattle.afdx_session.proofs.Settling.{all_prefix, all_back}
use Rattle.afdx_session.proofs.Later.{same_sent, same_bytes}
use Rattle.afdx_session.proofs.Handing.{its_place}
use Rattle.afdx_session.proofs.Drawing.{goes_out, takes_first}
use Rattle.afdx_session.proofs.Going.{Early, lanes_early, get-set}
use Rattle.afdx_session.proofs.Numbered.{set_here}

-- ---- lanes that have changed in their output alone

pub off_waiting : {Z : Type 0} (old new : List (Lane Z)) → AreDrawnOff old new → map waiting_of new ≡ map waiting_of old
off_waiting [] [] off = refl
off_waiting [] (n ∷ new) off = absurd off
off_waiting (l ∷ old) [] off = absurd off
off_waiting (l ∷ old) (n ∷ new) off =
    ap (λ w. record { port = n.port; records = w.items } ∷ map waiting_of new) off.0.waiting
    ∙ ap (λ m. record { port = m; records = l.waiting.items } ∷ map waiting_of new) off.0.alike.port
    ∙ ap (λ ws. waiting_of l ∷ ws) (off_waiting old new off.1)

pub off_ports : {Z : Type 0} (old new : List (Lane Z)) → AreDrawnOff old new → map (λ (l : Lane Z). l.port) new ≡ map (λ (l : Lane Z). l.port) old
off_ports [] [] off = refl
off_ports [] (n ∷ new) off = absurd off
off_ports (l ∷ old) [] off = absurd off
off_ports {Z = Z} (l ∷ old) (n ∷ new) off = ap (λ m. m ∷ map (λ (x : Lane Z). x.port) new) off.0.alike.port ∙ ap (λ ms. l.port ∷ ms) (off_ports old new off.1)

pub off_length : {Z : Type 0} (old new : List (Lane Z)) → AreDrawnOff old new → length new ≡ length old
off_length [] [] off = refl
off_length [] (n ∷ new) off = absurd off
off_length (l ∷ old) [] off = absurd off
off_length (l ∷ old) (n ∷ new) off = ap suc (off_length old new off.1)

off_lanes : {Z : Type 0} (old new : List (Lane Z)) (streams : List Stream) → AreDrawnOff old new → AreLanesOf old streams → AreLanesOf new streams
off_lanes [] [] streams off are = are
off_lanes [] (n ∷ new) streams off are = absurd off
off_lanes (l ∷ old) [] streams off are = absurd off
off_lanes (l ∷ old) (n ∷ new) [] off are = absurd are
off_lanes (l ∷ old) (n ∷ new) (s ∷ streams) off are = (lane off.0 are.0, off_lanes old new streams off.1 are.1) where
  lane : IsDrawnOff l n → IsLaneOf l s → IsLaneOf n s
  lane g is = record {
    port = is.port ∙ sym g.alike.port;
    ended = is.ended ∙ sym g.alike.ended;
    read = record {
      no_fault = ap (λ r. r.fault) g.alike.reader ∙ is.read.no_fault;
      taken = subst (λ r. HasTaken (record { bytes = r.bytes; given = r.given }) s.records) (sym g.alike.reader) is.read.taken;
      last = g.last ∙ is.read.last;
    };
  }

pub off_none : {Z : Type 0} (lanes : List (Lane Z)) → AreDrawnOff lanes lanes
off_none [] = tt
off_none (l ∷ lanes) = (record { alike = record { port = refl; reader = refl; ended = refl; undone = refl; closed = refl; ready = refl }; last = refl; waiting = refl }, off_none lanes)

-- one more was drained
pub off_on : {Z : Type 0} (start now : List (Lane Z)) (k : ℕ) (old new : Lane Z) → AreDrawnOff start now → slice_get start k ≡ Some old → IsDrawnOff old new → AreDrawnOff start (set now k new)
off_on [] [] k old new off at one = tt
off_on [] (n ∷ now) k old new off at one = absurd off
off_on (l ∷ start) [] k old new off at one = absurd off
off_on {Z = Z} (l ∷ start) (n ∷ now) zero old new off at one = (subst (λ (x : Lane Z). IsDrawnOff x new) (sym (same_Some l old at)) one, off.1)
off_on (l ∷ start) (n ∷ now) (suc k) old new off at one = (off.0, off_on start now k old new off.1 at one)

-- ---- lanes that have grown

pub grown_off : {Z : Type 0} (old new : List (Lane Z)) → AreGrown old new → AreDrawnOff old new
grown_off [] [] grown = tt
grown_off [] (n ∷ new) grown = absurd grown
grown_off (l ∷ old) [] grown = absurd grown
grown_off (l ∷ old) (n ∷ new) grown = (one grown.0, grown_off old new grown.1) where
  one : IsGrown l n → IsDrawnOff l n
  one g = record {
    alike = record {
      port = g.touched.port;
      reader = g.touched.reader;
      ended = g.touched.ended;
      undone = g.touched.undone;
      closed = g.touched.closed;
      ready = g.touched.ready;
    };
    last = g.last;
    waiting = g.waiting;
  }

pub grown_length : {Z : Type 0} (old new : List (Lane Z)) → AreGrown old new → length new ≡ length old
grown_length old new grown = off_length old new (grown_off old new grown)

pub touched_none : {Z : Type 0} (l : Lane Z) → IsTouched l l
touched_none l = record { port = refl; reader = refl; ended = refl; undone = refl; closed = refl; ready = refl; taken = refl; more = []; out = sym (append-nil l.out.items) }

pub touched_both : {Z : Type 0} (a b c : Lane Z) → IsTouched a b → IsTouched b c → IsTouched a c
touched_both a b c one two = record {
  port = two.port ∙ one.port;
  reader = two.reader ∙ one.reader;
  ended = two.ended ∙ one.ended;
  undone = two.undone ∙ one.undone;
  closed = two.closed ∙ one.closed;
  ready = two.ready ∙ one.ready;
  taken = two.taken ∙ one.taken;
  more = one.more ++ two.more;
  out = two.out ∙ ap (λ xs. xs ++ two.more) one.out ∙ append_assoc a.out.items one.more two.more;
}

grows_none : {Z : Type 0} (l : Lane Z) → IsGrown l l
grows_none l = record { touched = touched_none l; last = refl; waiting = refl }

pub grown_none : {Z : Type 0} (lanes : List (Lane Z)) → AreGrown lanes lanes
grown_none [] = tt
grown_none (l ∷ lanes) = (grows_none l, grown_none lanes)

grows_both : {Z : Type 0} (a b c : Lane Z) → IsGrown a b → IsGrown b c → IsGrown a c
grows_both a b c one two = record { touched = touched_both a b c one.touched two.touched; last = two.last ∙ one.last; waiting = two.waiting ∙ one.waiting }

-- one more lane has grown
pub grown_on : {Z : Type 0} (start now : List (Lane Z)) (k : ℕ) (old new : Lane Z) → AreGrown start now → slice_get now k ≡ Some old → IsGrown old new → AreGrown start (set now k new)
grown_on [] [] k old new grown at one = tt
grown_on [] (n ∷ now) k old new grown at one = absurd grown
grown_on (l ∷ start) [] k old new grown at one = absurd grown
grown_on {Z = Z} (l ∷ start) (n ∷ now) zero old new grown at one = (grows_both l n new grown.0 (subst (λ (x : Lane Z). IsGrown x new) (sym (same_Some n old at)) one), grown.1)
grown_on (l ∷ start) (n ∷ now) (suc k) old new grown at one = (grown.0, grown_on start now k old new grown.1 at one)

-- ---- one port after the other

-- those before a place have handed out all up to where the switch is, the others up to where they had
pub record AreDrained {Z : Type 0} (t : Content) (given : List Arrival) (h k : ℕ) (s : State) (lanes : List (Lane Z)) (n : ℕ) : Type 0 where
  pub done : AreOut t given k s lanes (λ place. place < n)
  pub rest : AreOut t given h s lanes (λ place. n ≤ place)

pub drained_none : {Z : Type 0} (t : Content) (given : List Arrival) (h k : ℕ) (s : State) (lanes : List (Lane Z)) → AreOut t given h s lanes Every → AreDrained t given h k s lanes 0
drained_none t given h k s lanes outs = record {
  done = λ place p l lt is_port is_lane. absurd (omega (arith, lt));
  rest = λ place p l le is_port is_lane. outs place p l tt is_port is_lane;
}

pub drained_all : {Z : Type 0} (t : Content) (given : List Arrival) (h k : ℕ) (s : State) (lanes : List (Lane Z)) (n : ℕ) → length lanes ≤ n → AreDrained t given h k s lanes n
    → AreOut t given k s lanes Every
drained_all t given h k s lanes n le drained place p l in_all is_port is_lane =
    let lt = slice_get_within lanes place l is_lane in
    drained.done place p l (omega (arith, le, lt)) is_port is_lane

pub port_of_lane : {Z : Type 0} (ports : List PortRow) (lanes : List (Lane Z)) (k : ℕ) (l : Lane Z) → map (λ (m : Lane Z). m.port) lanes ≡ map (λ (p : PortRow). p.id) ports → slice_get lanes k
    ≡ Some l
    → (p : PortRow) × (slice_get ports k ≡ Some p) × (p.id ≡ l.port)
port_of_lane [] [] k l same at = absurd cc
port_of_lane [] (m ∷ lanes) k l same at = absurd cc
port_of_lane (p ∷ ports) [] k l same at = absurd cc
port_of_lane {Z = Z} (p ∷ ports) (m ∷ lanes) zero l same at = (p, refl, sym (ap (λ (ns : List ℕ). get_or ns 0 0) same) ∙ ap (λ (x : Lane Z). x.port) (same_Some m l at))
port_of_lane {Z = Z} (p ∷ ports) (m ∷ lanes) (suc k) l same at = port_of_lane ports lanes k l (ap (drop 1) same) at

-- the place of a lane's port is its own
pub place_here : {Z : Type 0} (t : Content) (given : List Arrival) (k : ℕ) (s : State) (lanes : List (Lane Z)) (n : ℕ) (l : Lane Z) → AreOfTable t lanes → IsAt t given k s
    → slice_get lanes n ≡ Some l → place_of s.run l.port ≡ Some n
place_here t given k s lanes n l of at is_lane =
    let row = port_of_lane t.ports lanes n l of.ports is_lane in
    ap (λ (c : Content). position (λ (q : PortRow). q.id == l.port) c.ports) at.is_given.table
    ∙ ap (λ m. position (λ (q : PortRow). q.id == m) t.ports) (sym row.2)
    ∙ its_place t.ports n row.0 of.formed.ports_rise row.1

differ_places : (m n : ℕ) (o : Option ℕ) → o ≡ Some n → (m ≡ n → ⊥) → o ≢ Some m
differ_places m n o is differ same = differ (same_Some m n (sym same ∙ is))

-- what the port at a place has not handed out goes behind what its lane has
pub out_here : {Z : Type 0} → SentGoesOn → ReachesInOrder → (t : Content) (given : List Arrival) (h k : ℕ) (s next : State) (lanes : List (Lane Z)) (n : ℕ) (old : Lane Z) (after : List ℕ)
    → AreOfTable t lanes → IsAt t given k s → h ≤ k → slice_get lanes n ≡ Some old
    → ((place : ℕ) → place_of s.run old.port ≡ Some place → length given ≡ length s.run.rows → HasBytesOf given s → Draws given old.port place s next old.out.items after)
    → next_by next.run (place_of next.run old.port) ≡ None → AreOut t given h s lanes (λ place. n ≤ place) → (p : PortRow) → slice_get t.ports n ≡ Some p
    → IsOutAt t given k next p n old.taken after
out_here {Z} goes_on reaches t given h k s next lanes n old after of at le is_old draws none rest p is_port =
    let row = port_of_lane t.ports lanes n old of.ports is_old in
    let place = place_here t given k s lanes n old of at is_old in
    let long = sym (ap length at.is_given.rows ∙ length-map given _) in
    let id : p.id ≡ old.port = ap (λ (q : PortRow). q.id) (same_Some p row.0 (sym is_port ∙ row.1)) ∙ row.2 in
    goes_out goes_on reaches t given h k s next p n old.taken old.out.items after at le (ap (λ m. place_of s.run m) id ∙ place) is_port (rest n p old (omega arith) is_port is_old)
    (subst (λ m. Draws given m n s next old.out.items after) (sym id) (draws n place long at.is_given.frames))
    (ap (λ m. next_by next.run (place_of next.run m)) id ∙ none)

-- of what then is there, the first may be taken at once
pub drained_on : {Z : Type 0} → SentGoesOn → ReachesInOrder → (t : Content) (given : List Arrival) (h k : ℕ) (s next : State) (lanes : List (Lane Z)) (n : ℕ) (old new : Lane Z) (bytes : List ℕ)
    → AreOfTable t lanes → IsAt t given k s → h ≤ k
    → slice_get lanes n ≡ Some old → new.taken ≡ old.taken + length bytes → IsDrained old.port s next
    → ((place : ℕ) → place_of s.run old.port ≡ Some place → length given ≡ length s.run.rows → HasBytesOf given s
    → Draws given old.port place s next old.out.items (bytes ++ new.out.items))
    → next_by next.run (place_of next.run old.port) ≡ None → AreDrained t given h k s lanes n → AreDrained t given h k next (set lanes n new) (n + 1)
drained_on {Z} goes_on reaches t given h k s next lanes n old new bytes of at le is_old taken drained draws none was = record {
  done = λ place p l lt is_port is_lane. elim (get-set lanes n place old new l is_old is_lane) [
    | inl same ↦ subst (λ (x : Lane Z). IsOut t given k next p place x) (sym same.1) (subst (λ m. IsOut t given k next p m new) (sym same.0) (here p (ap (slice_get t.ports) (sym same.0) ∙ is_port)))
    | inr other ↦ elim (cases_lt place n) [
      | inl before ↦ stays place p l k (λ same. absurd (omega (arith, same, before))) (was.done place p l before is_port other)
      | inr after ↦
          let same : place ≡ n = omega (arith, lt, after) in
          subst (λ (x : Lane Z). IsOut t given k next p place x) (same_Some new l (sym (set_here lanes n old new is_old) ∙ ap (slice_get (set lanes n new)) (sym same) ∙ is_lane))
          (subst (λ m. IsOut t given k next p m new) (sym same) (here p (ap (slice_get t.ports) (sym same) ∙ is_port)))
    ]
  ];
  rest = λ place p l le_place is_port is_lane. elim (get-set lanes n place old new l is_old is_lane) [
    | inl same ↦ let e = same.0 in absurd (omega (arith, e, le_place))
    | inr other ↦ stays place p l h (λ same. omega (arith, same, le_place)) (was.rest place p l (omega (arith, le_place)) is_port other)
  ];
} where
  here : (p : PortRow) → slice_get t.ports n ≡ Some p → IsOut t given k next p n new
  here p is_port =
      subst (λ m. IsOutAt t given k next p n m new.out.items) (sym taken)
      (takes_first t given k next p n old.taken bytes new.out.items
      (out_here goes_on reaches t given h k s next lanes n old (bytes ++ new.out.items) of at le is_old draws none was.rest p is_port))

  stays : (place : ℕ) (p : PortRow) (l : Lane Z) (m : ℕ) → (place ≡ n → ⊥) → IsOut t given m s p place l → IsOut t given m next p place l
  stays place p l m other out = record {
    count = drained.others place (differ_places place n (place_of s.run old.port) (place_here t given k s lanes n old of at is_old) other) ∙ out.count;
    taken = out.taken;
    left = out.left;
  }

-- ---- frames of several ports

pub hands_none : (s : State) → HandsOut s s
hands_none s = record { table = refl; rows = refl; latest = refl; finished = refl; accepted = refl; keeps = refl; handed = refl; frames = λ arrivals long has. has }

pub hands_on : (start now next : State) (port : ℕ) → HandsOut start now → IsDrained port now next → HandsOut start next
hands_on start now next port was drained = record {
  table = drained.table ∙ was.table;
  rows = drained.rows ∙ was.rows;
  latest = drained.latest ∙ was.latest;
  finished = drained.finished ∙ was.finished;
  accepted = drained.accepted ∙ was.accepted;
  keeps = drained.keeps ∙ was.keeps;
  handed = drained.handed ∙ was.handed;
  frames = λ arrivals long has. drained.frames arrivals (long ∙ ap length (sym was.rows)) (was.frames arrivals long has);
}

pub hands_at : (t : Content) (given : List Arrival) (k : ℕ) (old new : State) → IsAt t given k old → HandsOut old new → IsAt t given k new
hands_at t given k old new at hands = record {
  is_given = record {
    table = hands.table ∙ at.is_given.table;
    rows = hands.rows ∙ at.is_given.rows;
    still_open = hands.finished ∙ at.is_given.still_open;
    frames = hands.frames given (sym (ap length at.is_given.rows ∙ length-map given _)) at.is_given.frames;
  };
  latest = hands.latest ∙ at.latest;
}

-- what has left goes out
pub drained_going : {Z : Type 0} (t : Content) (old new : List (Lane Z)) (s next : State) (counts : Tally) (going : IsGoing t old s counts) → AreDrawnOff old new → HandsOut s next
    → AreOut t going.given s.run.latest next new Every → IsGoing t new next counts
drained_going t old new s next counts going off hands outs = record {
  streams = going.streams;
  given = going.given;
  since = s.run.latest;
  lanes_are = off_lanes old new going.streams off going.lanes_are;
  settling = subst (IsSettling going.streams going.given) (sym (off_waiting old new off)) going.settling;
  is_given = (hands_at t going.given s.run.latest s next (record { is_given = going.is_given; latest = refl }) hands).is_given;
  come = let same = hands.latest in omega (arith, same);
  later = subst (λ ws. AllFrom next.run.latest (merged ws)) (sym (off_waiting old new off)) (subst (λ n. AllFrom n (merged (map waiting_of old))) (sym hands.latest) going.later);
  until = let same = hands.latest in let le = going.until in omega (arith, same, le);
  counts_are = going.counts_are;
  few = going.few;
  outs = outs;
}

-- so all has gone out up to the frontier
pub runs_on : {Z : Type 0} (t : Content) (old new : List (Lane Z)) (s next : State) (counts : Tally) (come : HasCome t old s counts) → AreDrawnOff old new → HandsOut s next
    → AreOut t come.going.given s.run.latest next new Every
    → IsRunning t new next counts
unfolding drained_going
runs_on t old new s next counts come off hands outs = record { going = drained_going t old new s next counts come.going off hands outs; out = λ some. come.at }

-- of the same arrivals, up to where the switch is
pub runs_with : {Z : Type 0} (t : Content) (old new : List (Lane Z)) (s next : State) (counts : Tally) (come : HasCome t old s counts) → AreDrawnOff old new → HandsOut s next
    → AreOut t come.going.given s.run.latest next new Every
    → (run : IsRunning t new next counts) × (run.going.given ≡ come.going.given) × (run.going.since ≡ s.run.latest)
unfolding runs_on drained_going
runs_with t old new s next counts come off hands outs = (runs_on t old new s next counts come off hands outs, refl, refl)

-- ---- the bytes

-- nothing that is early comes at the last instant
pub none_late : (arrivals : List Arrival) → AllFrom last_instant arrivals → AllByRecursion Early arrivals → arrivals ≡ []
none_late [] late early = refl
none_late (a ∷ arrivals) late early = absurd (omega (arith, late.0, early.0))

some_lane : {X : Type 0} (xs : List X) (k : ℕ) (x : X) → slice_get xs k ≡ Some x → 0 < length xs
some_lane xs k x is = let lt = slice_get_within xs k x is in omega (arith, lt)

-- what has left so far of the streams is what was handed out
pub text_is : {Z : Type 0} → ByStampIsOrdered → EarlierEventsStayAdmitted → ReachesInOrder → AllStartBeforeTheLastInstant
    → (t : Content) (lanes : List (Lane Z)) (s : State) (counts : Tally) (run : IsRunning t lanes s counts) (place : ℕ) (p : PortRow) (l : Lane Z)
    → AreOfTable t lanes → slice_get t.ports place ≡ Some p → slice_get lanes place ≡ Some l → text_so_far t run.going.streams p ≡ text_up_to t run.going.given run.going.since p
text_is {Z} ordered stay reaches ends t lanes s counts run place p l of is_port is_lane = ap capture_text (shown (frontier going.streams) refl) where
  going : IsGoing t lanes s counts
  going = run.going

  waiting : List Arrival
  waiting = merged (map waiting_of lanes)

  since : going.since ≡ come_to (frontier going.streams)
  since = run.out (some_lane lanes place l is_lane)

  later : AllFrom (come_to (frontier going.streams)) waiting
  later = subst (λ n. AllFrom n waiting) (let come = going.come in let until = going.until in omega (arith, come, until, since)) going.later

  whole : merged_so_far going.streams ≡ going.given ++ waiting
  whole = going.settling.whole

  early : AllByRecursion Early (going.given ++ waiting)
  early = subst (AllByRecursion Early) whole (lanes_early ordered lanes going.streams going.lanes_are)

  shown : (h : Option ℕ) → frontier going.streams ≡ h → output_so_far t going.streams p ≡ map (written going.given) (sent_up_to t going.given (Some going.since) p)
  shown (Some h) at_frontier =
      ap (λ f. map (written (merged_so_far going.streams)) (sent_up_to t (merged_so_far going.streams) f p)) at_frontier
      ∙ ap (λ xs. map (written xs) (sent_up_to t xs (Some h) p)) whole
      ∙ ap (map (written (going.given ++ waiting))) (same_sent stay reaches t going.given waiting h p (subst (λ f. AllFrom (come_to f) waiting) at_frontier later))
      ∙ same_bytes t going.given waiting (Some h) p
      ∙ ap (λ n. map (written going.given) (sent_up_to t going.given (Some n) p)) (sym (since ∙ ap come_to at_frontier))
  shown None at_frontier =
      let none : waiting ≡ [] = none_late waiting (subst (λ f. AllFrom (come_to f) waiting) at_frontier later) (all_back Early going.given waiting early) in
      ap (λ f. map (written (merged_so_far going.streams)) (sent_up_to t (merged_so_far going.streams) f p)) at_frontier
      ∙ ap (λ xs. map (written xs) (sent_up_to t xs None p)) (whole ∙ ap (λ xs. going.given ++ xs) none ∙ append-nil going.given)
      ∙ ap (map (written going.given)) (sym (ends t going.given p of.formed (place, slice_get_within t.ports place p is_port, get_or_from_slice_get t.ports place p p is_port)
      (all_prefix Early going.given waiting early)))
      ∙ ap (λ n. map (written going.given) (sent_up_to t going.given (Some n) p)) (sym (since ∙ ap come_to at_frontier))

-- ---- the loop over the lanes

none_more : (n : ℕ) → n ≡ n + length {A = ℕ} []
none_more n = omega arith

-- a lane with another output
abbrev pub with_out : {Z : Type 0} → Vec ℕ Z → Lane Z → Lane Z
with_out out l = record { port = l.port; reader = l.reader; last = l.last; ended = l.ended; waiting = l.waiting; out = out; undone = l.undone; closed = l.closed; ready = l.ready; taken = l.taken }

pub grown_out : {Z : Type 0} (l : Lane Z) (out : Vec ℕ Z) (more : List ℕ) → out.items ≡ l.out.items ++ more → IsGrown l (with_out out l)
grown_out l out more is = record {
  touched = record { port = refl; reader = refl; ended = refl; undone = refl; closed = refl; ready = refl; taken = refl; more = more; out = is };
  last = refl;
  waiting = refl;
}

-- the lanes before a place were drained
pub record DrainsUpTo {Z : Type 0} (start : State) (lanes : List (Lane Z)) (now : State) (new : List (Lane Z)) (n : ℕ) : Type 0 where
  pub hands : HandsOut start now
  pub grown : AreGrown lanes new
  pub drained : (t : Content) (given : List Arrival) (h : ℕ) → AreOfTable t lanes → IsGiven t given start → h ≤ start.run.latest → AreOut t given h start lanes Every
      → AreDrained t given h start.run.latest now new n

pub drains_none : {Z : Type 0} (start : State) (lanes : List (Lane Z)) → DrainsUpTo start lanes start lanes 0
drains_none start lanes = record { hands = hands_none start; grown = grown_none lanes; drained = λ t given h of is le outs. drained_none t given h start.run.latest start lanes outs }

pub drains_one : {Z : Type 0} → SentGoesOn → ReachesInOrder → (start now next : State) (lanes new : List (Lane Z)) (n : ℕ) (old drained : Lane Z) → slice_get new n ≡ Some old
    → IsGrown old drained → IsDrained old.port now next
    → ((given : List Arrival) (place : ℕ) → place_of now.run old.port ≡ Some place → length given ≡ length now.run.rows → HasBytesOf given now
    → Draws given old.port place now next old.out.items drained.out.items)
    → next_by next.run (place_of next.run old.port) ≡ None → DrainsUpTo start lanes now new n → DrainsUpTo start lanes next (set new n drained) (n + 1)
drains_one goes_on reaches start now next lanes new n old drained at grown is_drained draws none was = record {
  hands = hands_on start now next old.port was.hands is_drained;
  grown = grown_on lanes new n old drained was.grown at grown;
  drained = λ t given h of is le outs.
      drained_on goes_on reaches t given h start.run.latest now next new n old drained [] (record { formed = of.formed; ports = off_ports lanes new (grown_off lanes new was.grown) ∙ of.ports })
      (hands_at t given start.run.latest start now (record { is_given = is; latest = refl }) was.hands) le at (grown.touched.taken ∙ none_more old.taken) is_drained (draws given) none
      (was.drained t given h of is le outs);
}

pub drains_all : {Z : Type 0} (start : State) (lanes : List (Lane Z)) (now : State) (new : List (Lane Z)) (n : ℕ) → length new ≤ n → DrainsUpTo start lanes now new n
    → (t : Content) (given : List Arrival) (h : ℕ) → AreOfTable t lanes → IsGiven t given start → h ≤ start.run.latest → AreOut t given h start lanes Every
    → AreOut t given start.run.latest now new Every
drains_all start lanes now new n le was t given h of is since outs = drained_all t given h start.run.latest now new n le (was.drained t given h of is since outs)
