-- What has gone out of a port is a prefix of its output, whatever the captures that lanes are over are read as.
use Rattle.std.proofs.Common.{◌≡◌, ℕ, ◌≤◌, List, [], ◌∷◌, ◌++◌, map, length, Option, Some, None, refl, ap, sym, ◌∙◌, arith, append_assoc}
use Rattle.std.specs.List.{AllByRecursion, flat_map}
use Rattle.std.proofs.lemmas.List.{length-append, map-append}
use Rattle.afdx_pcap.specs.Record.{Record}
use Rattle.afdx_pcap.specs.Text.{record_text, capture_text}
use Rattle.afdx_pcap.specs.Capture.{IsCapture}
use Rattle.afdx_pcap.specs.Reading.{Taking, HasTaken, AreFirst}
use Rattle.afdx_table.specs.declared.rows.PortRow.{PortRow}
use Rattle.afdx_table.specs.Content.{Content}
use Rattle.afdx_port.specs.declared.Sent.{Sent}
use Rattle.afdx_port.specs.Inner.Admission.{EarlierEventsStayAdmitted}
use Rattle.afdx_port.specs.Inner.Order.{ReachesInOrder}
use Rattle.afdx_port.specs.Inner.Events.{SentGoesOn}
use Rattle.afdx_core.specs.State.{State}
use Rattle.afdx_core.specs.Merge.{Arrival, Capture, merged}
use Rattle.afdx_core.specs.Inner.Merge.{ByStampIsOrdered}
use Rattle.afdx_count.specs.Tally.{Tally}
use Rattle.afdx_session.specs.declared.lane.Lane.{Lane}
use Rattle.afdx_session.specs.Reading.{AreCaptures}
use Rattle.afdx_session.specs.Output.{written, output_text}
use Rattle.afdx_session.specs.Streams.{Stream, merged_so_far, frontier, sent_up_to, text_so_far, whole_of, GoesOn, GoOn}
use Rattle.afdx_session.specs.Inner.Lanes.{waiting_of}
use Rattle.afdx_session.specs.Inner.Lent.{IsOver, texts_over}
use Rattle.afdx_session.specs.Inner.Kept.{IsLaneOf, AreLanesOf, come_to, text_up_to, IsGoing}
use Rattle.afdx_session.proofs.Joining.{AllFrom, weaken}
use Rattle.afdx_session.proofs.Later.{same_sent, same_bytes}
use Rattle.afdx_session.proofs.Growing.{IsBeyond, sent_later, prefix_of_output}
use Rattle.afdx_session.proofs.Drawing.{capture-append}
use Rattle.afdx_session.proofs.Ending.{TakenAreTheCapture, lane_capture}
use Rattle.afdx_session.proofs.Readings.{first_rises}

-- what the laws of captures say of records that were taken, and of captures
abbrev pub TakenBeginTheCapture : Type 0
TakenBeginTheCapture = (t : Taking) (taken all : List Record) → HasTaken t taken → IsCapture t.bytes all → (later : List Record) × (all ≡ taken ++ later)

abbrev pub OneReading : Type 0
OneReading = (bytes : List ℕ) (rs qs : List Record) → IsCapture bytes rs → IsCapture bytes qs → rs ≡ qs

-- ---- the records that were read so far go on

whole_first : (bytes : List ℕ) (rs : List Record) → IsCapture bytes rs → AreFirst bytes rs
whole_first bytes [] is = tt
whole_first bytes (r ∷ rs) is = ([], is)

none_added : (rs added : List Record) → rs ≡ rs ++ added → added ≡ []
none_added rs [] same = refl
none_added rs (a ∷ added) same = let long = ap length same ∙ length-append rs (a ∷ added) in absurd (omega (arith, long))

lane_goes_on : {Z : Type 0} → TakenAreTheCapture → TakenBeginTheCapture → OneReading → (l : Lane Z) (s : Stream) (c : Capture) → IsOver l → IsLaneOf l s → c.port ≡ l.port
    → IsCapture l.reader.bytes c.records → GoesOn s (whole_of c)
lane_goes_on takes begin one l s c over is port capture = record {
  port = port ∙ sym is.port;
  more = more.0;
  records = more.1;
  in_order = first_rises l.reader.bytes c.records (whole_first l.reader.bytes c.records capture);
  ended = λ closed.
      let read = lane_capture takes l s is (over.read (sym is.ended ∙ closed)).1 over.closed in
      (none_added s.records more.0 (one l.reader.bytes s.records c.records read capture ∙ more.1), refl);
} where
  more : (later : List Record) × (c.records ≡ s.records ++ later)
  more = begin (record { bytes = l.reader.bytes; given = l.reader.given }) s.records c.records is.read.taken capture

lanes_go_on : {Z : Type 0} → TakenAreTheCapture → TakenBeginTheCapture → OneReading → (lanes : List (Lane Z)) (streams : List Stream) (read : List Capture) → AllByRecursion IsOver lanes
    → AreLanesOf lanes streams → AreCaptures (texts_over lanes) read → GoOn streams (map whole_of read)
lanes_go_on takes begin one [] [] [] over are is = tt
lanes_go_on takes begin one [] [] (c ∷ read) over are is = absurd is
lanes_go_on takes begin one [] (s ∷ streams) read over are is = absurd are
lanes_go_on takes begin one (l ∷ lanes) [] read over are is = absurd are
lanes_go_on takes begin one (l ∷ lanes) (s ∷ streams) [] over are is = absurd is
lanes_go_on takes begin one (l ∷ lanes) (s ∷ streams) (c ∷ read) over are is = (
  lane_goes_on takes begin one l s c over.0 are.0 is.0 is.1,
  lanes_go_on takes begin one lanes streams read over.1 are.1 is.2,
)

-- ---- the prefix

abbrev NoSooner : ℕ → Option ℕ → Type 0
NoSooner since h = since ≤ come_to h

beyond : (since : ℕ) (h : Option ℕ) → NoSooner since h → IsBeyond since h
beyond since None le = tt
beyond since (Some k) le = le

-- what went out up to an instant that has come is a prefix of what has left so far
prefix_so_far : {Z : Type 0} → EarlierEventsStayAdmitted → ReachesInOrder → SentGoesOn → (t : Content) (lanes : List (Lane Z)) (s : State) (counts : Tally) (going : IsGoing t lanes s counts)
    (p : PortRow) → (rest : List ℕ) × (text_so_far t going.streams p ≡ text_up_to t going.given going.since p ++ rest)
prefix_so_far {Z} stay reaches goes_on t lanes s counts going p = (
  flat_map record_text (map (written m) more.0),
  ap (λ sent. capture_text (map (written m) sent)) more.1
      ∙ ap capture_text (map-append (written m) (out m) more.0)
      ∙ ap (λ rs. capture_text (rs ++ map (written m) more.0)) first
      ∙ capture-append (map (written given) (out given)) (map (written m) more.0),
) where
  given : List Arrival
  given = going.given

  waits : List Arrival
  waits = merged (map waiting_of lanes)

  m : List Arrival
  m = merged_so_far going.streams

  out : List Arrival → List Sent
  out arrivals = sent_up_to t arrivals (Some going.since) p

  late : going.since ≤ come_to (frontier going.streams)
  late = let a = going.come in let b = going.until in omega (arith, a, b)

  more : (rest : List Sent) × (sent_up_to t m (frontier going.streams) p ≡ out m ++ rest)
  more = sent_later goes_on reaches t m going.since (frontier going.streams) p (beyond going.since (frontier going.streams) late)

  later : AllFrom going.since waits
  later = weaken s.run.latest going.since waits going.come going.later

  first : map (written m) (out m) ≡ map (written given) (out given)
  first =
      ap (λ xs. map (written xs) (out xs)) going.settling.whole
      ∙ ap (map (written (given ++ waits))) (same_sent stay reaches t given waits going.since p later)
      ∙ same_bytes t given waits (Some going.since) p

pub out_is_a_prefix : {Z : Type 0} → ByStampIsOrdered → EarlierEventsStayAdmitted → ReachesInOrder → SentGoesOn → TakenAreTheCapture → TakenBeginTheCapture → OneReading
    → (t : Content) (lanes : List (Lane Z)) (s : State) (counts : Tally) (going : IsGoing t lanes s counts) → AllByRecursion IsOver lanes
    → (read : List Capture) → AreCaptures (texts_over lanes) read → (p : PortRow)
    → (rest : List ℕ) × (output_text t (merged read) p ≡ text_up_to t going.given going.since p ++ rest)
out_is_a_prefix ordered stay reaches goes_on takes begin one t lanes s counts going over read are p =
    let all = prefix_of_output ordered stay reaches goes_on t going.streams read p (lanes_go_on takes begin one lanes going.streams read over going.lanes_are are) in
    let so_far = prefix_so_far stay reaches goes_on t lanes s counts going p in (
      so_far.0 ++ all.0,
      all.1 ∙ ap (λ text. text ++ all.0) so_far.1 ∙ append_assoc (text_up_to t going.given going.since p) so_far.0 all.0,
    )
