-- What one port hands out, where some was handed out before.
use Rattle.std.proofs.Common.{◌≡◌, ℕ, zero, suc, ◌+◌, ◌<◌, ◌≤◌, ◌==◌, List, [], ◌∷◌, ◌++◌, map, length, take, drop, slice_get, slice_index, Option, Some, None, refl, ap, sym, ◌∙◌, arith, append_assoc}
use Rattle.std.proofs.Common.{subst, get_or-set_same, get_or-set_other}
use Rattle.std.specs.List.{flat_map, position}
use Rattle.std.proofs.lemmas.List.{length-set, append-nil, map-append}
use Rattle.std.proofs.lemmas.Grind.{flat_map-append}
use Rattle.afdx_pcap.specs.Record.{Record}
use Rattle.afdx_pcap.specs.Text.{header_text, record_text, capture_text}
use Rattle.afdx_table.specs.declared.rows.PortRow.{PortRow}
use Rattle.afdx_table.specs.Content.{Content}
use Rattle.afdx_port.specs.declared.Sent.{Sent}
use Rattle.afdx_port.specs.Inner.Order.{ReachesInOrder}
use Rattle.afdx_port.specs.Inner.Events.{SentGoesOn}
use Rattle.afdx_core.specs.declared.step.Row.{Row}
use Rattle.afdx_core.specs.Step.{Step}
use Rattle.afdx_core.specs.Rows.{row_of}
use Rattle.afdx_core.specs.State.{Run, State, sent_in, place_of, next_by, after_advance, after_handing}
use Rattle.afdx_core.specs.Held.{Keeps, IsTaken, IsHanded}
use Rattle.afdx_core.specs.Merge.{Arrival}
use Rattle.afdx_session.specs.Output.{rows_of, written}
use Rattle.afdx_session.specs.Inner.Rest.{IsAsBefore}
use Rattle.afdx_session.specs.Inner.Replay.{HasBytesOf, left_at, IsDrained}
use Rattle.afdx_session.specs.Streams.{sent_up_to}
use Rattle.afdx_session.specs.Inner.Settled.{IsGiven, IsAt, Draws}
use Rattle.afdx_session.specs.Inner.Kept.{text_up_to, IsOutAt}
use Rattle.afdx_session.proofs.Replaying.{bytes_stay, bytes_more}
use Rattle.afdx_session.proofs.Draining.{left_before, left_after, place_within, written_out, none_left}
use Rattle.afdx_session.proofs.Growing.{sent_later}
use Rattle.afdx_session.proofs.Showing.{sent_is}
use Rattle.std.proofs.Math.Seq.{drop-append_seam}
use Rattle.std.proofs.lemmas.List.{drop-drop, length-append, length-drop, length-take-le, take-append-drop}
use Rattle.std.proofs.lemmas.List.{length-map}
use Rattle.std.proofs.lemmas.Option.{same_Some}

-- ---- the calls of a switch

long_rows : (t : Content) (given : List Arrival) (s : State) → IsGiven t given s → length s.run.rows ≡ length given
long_rows t given s is = ap length is.rows ∙ length-map given (λ (b : Arrival). row_of t b.port b.frame)

-- one more arrival is given
pub gives : (t : Content) (given : List Arrival) (a : Arrival) (old new : State) (step : Step) → IsGiven t given old → IsTaken old new (row_of old.run.table a.port a.frame) a.frame step
    → IsGiven t (given ++ a ∷ []) new
gives t given a old new step is taken = record {
  table = ap (λ (r : Run). r.table) taken.run ∙ is.table;
  rows = ap (λ (r : Run). r.rows) taken.run ∙ ap (λ (rows : List Row). rows ++ row_of old.run.table a.port a.frame ∷ []) is.rows
      ∙ ap (λ (c : Content). rows_of t given ++ row_of c a.port a.frame ∷ []) is.table
      ∙ sym (map-append (λ (b : Arrival). row_of t b.port b.frame) given (a ∷ []));
  still_open = ap (λ (r : Run). r.finished) taken.run ∙ is.still_open;
  frames = bytes_more given a old new (row_of old.run.table a.port a.frame) step (long_rows t given old is) taken is.frames;
}

-- the switch comes to an instant
pub comes : (t : Content) (given : List Arrival) (h : ℕ) (old new : State) → IsGiven t given old → new.run ≡ after_advance h old.run → Keeps old new → IsAt t given h new
comes t given h old new is run keeps = record {
  is_given = record {
    table = ap (λ (r : Run). r.table) run ∙ is.table;
    rows = ap (λ (r : Run). r.rows) run ∙ is.rows;
    still_open = ap (λ (r : Run). r.finished) run ∙ is.still_open;
    frames = bytes_stay given old new (let long = long_rows t given old is in omega (arith, long)) keeps is.frames;
  };
  latest = ap (λ (r : Run). r.latest) run;
}

-- ---- one port is drained

pub draws_start : (given : List Arrival) (port place : ℕ) (start : State) (before : List ℕ) → Draws given port place start start before before
draws_start given port place start before = record {
  drained = record { table = refl; rows = refl; finished = refl; accepted = refl; keeps = refl; latest = refl; handed = refl; others = λ place other. refl; frames = λ arrivals len has. has };
  count = refl;
  rest = refl;
}

pub draws_on : (given : List Arrival) (port place : ℕ) (start now new : State) (before text more : List ℕ) (out : Record) (k : ℕ) (s : Sent) → place_of start.run port ≡ Some place
    → length start.run.handed ≡ length start.run.table.ports
    → length given ≡ length start.run.rows → HasBytesOf given start → Draws given port place start now before text → IsHanded now new port out k s → more ≡ text ++ record_text out
    → Draws given port place start new before more
draws_on given port place start now new before text more out k s at len long has draws handed is =
    let d = draws.drained in
    let place_now : place_of now.run port ≡ Some place = ap (λ (c : Content). position (λ (p : PortRow). p.id == port) c.ports) d.table ∙ at in
    let same : k ≡ place = same_Some k place (sym handed.at ∙ place_now) in
    let own : IsHanded now new port out place s = subst (λ n. IsHanded now new port out n s) same handed in
    let same_length : length now.run.handed ≡ length now.run.table.ports = d.handed ∙ len ∙ ap (λ (c : Content). length c.ports) (sym d.table) in
    let within : place < length now.run.handed = omega (arith, same_length, place_within now.run port place place_now) in
    let after = drop (suc (slice_index now.run.handed place)) (sent_in now.run (slice_get now.run.table.ports place)) in
    let place_after : place_of (after_handing place now.run) port ≡ Some place = place_now in
    let left_now : left_at now.run (Some place) ≡ s ∷ after = ap (left_at now.run) (sym place_now) ∙ left_before now.run port place s place_now own.next in
    let left_new : left_at new.run (Some place) ≡ after = ap (λ (r : Run). left_at r (Some place)) own.run ∙ ap (left_at (after_handing place now.run)) (sym place_after)
    ∙ left_after now.run port place place_now within in
    let counted : slice_index new.run.handed place ≡ slice_index now.run.handed place + 1 = ap (λ (r : Run). slice_index r.handed place) own.run
    ∙ get_or-set_same now.run.handed place (slice_index now.run.handed place + 1) 0 within in
    let texts : List Sent → List ℕ = λ left. flat_map record_text (map (written given) left) in
    record {
      drained = record {
        table = ap (λ (r : Run). r.table) own.run ∙ d.table;
        rows = ap (λ (r : Run). r.rows) own.run ∙ d.rows;
        latest = ap (λ (r : Run). r.latest) own.run ∙ d.latest;
        finished = ap (λ (r : Run). r.finished) own.run ∙ d.finished;
        accepted = own.keeps.accepted ∙ d.accepted;
        keeps = own.keeps.lists ∙ d.keeps;
        handed = ap (λ (r : Run). length r.handed) own.run ∙ length-set now.run.handed place (slice_index now.run.handed place + 1) ∙ d.handed;
        others = λ other differs.
            ap (λ (r : Run). slice_index r.handed other) own.run
            ∙ get_or-set_other now.run.handed place other (slice_index now.run.handed place + 1) 0 (λ (e : other ≡ place). differs (at ∙ ap Some (sym e)))
            ∙ d.others other differs;
        frames = λ arrivals l h. bytes_stay arrivals now new (omega (arith, l, ap length d.rows)) own.keeps (d.frames arrivals l h);
      };
      count =
          let old_left = ap length left_now in
          let new_left = ap length left_new in
          let total = draws.count in
          omega (arith, old_left, new_left, total, counted);
      rest =
          draws.rest
          ∙ ap (λ left. text ++ texts left) left_now
          ∙ ap (λ (e : Record). text ++ (record_text e ++ texts after)) (written_out given now new port place out s (long ∙ sym (ap length d.rows)) (d.frames given long has) own)
          ∙ sym (append_assoc text (record_text out) (texts after))
          ∙ ap (λ t. t ++ texts after) (sym is)
          ∙ ap (λ left. more ++ texts left) (sym left_new);
    }

-- ---- all goes out

pub sent-prefix : (xs ys : List Sent) → drop (length xs) (xs ++ ys) ≡ ys
sent-prefix [] ys = refl
sent-prefix (x ∷ xs) ys = sent-prefix xs ys

pub capture-append : (es more : List Record) → capture_text (es ++ more) ≡ capture_text es ++ flat_map record_text more
capture-append es more = ap (λ text. header_text ++ text) (flat_map-append record_text es more) ∙ sym (append_assoc header_text (flat_map record_text es) (flat_map record_text more))

drop-within : (n : ℕ) (xs ys : List ℕ) → n ≤ length xs → drop n (xs ++ ys) ≡ drop n xs ++ ys
drop-within zero xs ys le = refl
drop-within (suc n) [] ys le = absurd (omega (arith, le))
drop-within (suc n) (x ∷ xs) ys le = drop-within n xs ys (omega (arith, le))

-- what a port sends up to an instant is what it sends up to an earlier one, and then these frames, which are left where it handed out
-- those before them
pub record IsBehind (t : Content) (given : List Arrival) (h k : ℕ) (start : State) (p : PortRow) (place : ℕ) : Type 0 where
  pub rest : List Sent
  pub long : length (sent_up_to t given (Some k) p) ≡ length (sent_up_to t given (Some h) p) + length rest
  pub text : text_up_to t given k p ≡ text_up_to t given h p ++ flat_map record_text (map (written given) rest)
  pub left : left_at start.run (Some place) ≡ rest

is_behind : SentGoesOn → ReachesInOrder → (t : Content) (given : List Arrival) (h k : ℕ) (start : State) (p : PortRow) (place : ℕ) → IsAt t given k start → h ≤ k
    → slice_get t.ports place ≡ Some p → slice_index start.run.handed place ≡ length (sent_up_to t given (Some h) p) → IsBehind t given h k start p place
is_behind goes_on reaches t given h k start p place at le row count = record {
  rest = rest.0;
  long = ap length rest.1 ∙ length-append first rest.0;
  text = ap (λ sent. capture_text (map (written given) sent)) rest.1 ∙ ap capture_text (map-append (written given) first rest.0)
      ∙ capture-append (map (written given) first) (map (written given) rest.0);
  left =
      ap (λ (o : Option PortRow). drop (slice_index start.run.handed place) (sent_in start.run o)) row_start
      ∙ ap (λ n. drop n (sent_in start.run (Some p))) count
      ∙ ap (drop (length first)) (sent_is t given k start p at ∙ rest.1)
      ∙ sent-prefix first rest.0;
} where
  first : List Sent
  first = sent_up_to t given (Some h) p

  rest : (more_sent : List Sent) × (sent_up_to t given (Some k) p ≡ first ++ more_sent)
  rest = sent_later goes_on reaches t given h (Some k) p le

  row_start : slice_get start.run.table.ports place ≡ Some p
  row_start = ap (λ (c : Content). slice_get c.ports place) at.is_given.table ∙ row

-- so the text is as long as all of it
pub long_behind : SentGoesOn → ReachesInOrder → (t : Content) (given : List Arrival) (h k : ℕ) (start : State) (p : PortRow) (place n : ℕ) (out : List ℕ) → IsAt t given k start → h ≤ k
    → slice_get t.ports place ≡ Some p → IsOutAt t given h start p place n out
    → n + length out + length (flat_map record_text (map (written given) (left_at start.run (Some place)))) ≡ length (text_up_to t given k p)
long_behind goes_on reaches t given h k start p place n out at le row is =
    let behind = is_behind goes_on reaches t given h k start p place at le row is.count in
    let text = text_up_to t given h p in
    let left = ap (λ sent. length (flat_map record_text (map (written given) sent))) behind.left in
    let whole = ap length behind.text ∙ length-append text (flat_map record_text (map (written given) behind.rest)) in
    let here = ap length is.left in
    let cut = length-drop n text in
    let within = is.taken in
    omega (arith, left, whole, here, cut, within)

-- a port that had handed out all up to an instant hands out all up to the one that the switch has come to
pub goes_out : SentGoesOn → ReachesInOrder → (t : Content) (given : List Arrival) (h k : ℕ) (start now : State) (p : PortRow) (place n : ℕ) (before after : List ℕ)
    → IsAt t given k start → h ≤ k → place_of start.run p.id ≡ Some place → slice_get t.ports place ≡ Some p → IsOutAt t given h start p place n before
    → Draws given p.id place start now before after → next_by now.run (place_of now.run p.id) ≡ None → IsOutAt t given k now p place n after
goes_out goes_on reaches t given h k start now p place n before after at le place_start row out draws none = record {
  count = let long = behind.long in let was = out.count in omega (arith, total, left_none, was, all_long, long);
  taken = let here = ap length behind.text in let both = length-append (text_up_to t given h p) rest_text in let was = out.taken in omega (arith, here, both, was);
  left =
      sym (append-nil after)
      ∙ ap (λ left. after ++ flat_map record_text (map (written given) left)) (sym none_now)
      ∙ sym draws.rest
      ∙ ap (λ left. before ++ flat_map record_text (map (written given) left)) behind.left
      ∙ ap (λ text. text ++ rest_text) out.left
      ∙ sym (drop-within n (text_up_to t given h p) rest_text out.taken)
      ∙ ap (drop n) (sym behind.text);
} where
  behind : IsBehind t given h k start p place
  behind = is_behind goes_on reaches t given h k start p place at le row out.count

  rest_text : List ℕ
  rest_text = flat_map record_text (map (written given) behind.rest)

  place_now : place_of now.run p.id ≡ Some place
  place_now = ap (λ (c : Content). position (λ (q : PortRow). q.id == p.id) c.ports) draws.drained.table ∙ place_start

  none_now : left_at now.run (Some place) ≡ []
  none_now = ap (left_at now.run) (sym place_now) ∙ none_left now.run (place_of now.run p.id) none

  total : slice_index now.run.handed place + length (left_at now.run (Some place)) ≡ slice_index start.run.handed place + length (left_at start.run (Some place))
  total = draws.count

  left_none : length (left_at now.run (Some place)) ≡ 0
  left_none = ap length none_now

  all_long : length (left_at start.run (Some place)) ≡ length behind.rest
  all_long = ap length behind.left

-- ---- the first of a text is taken

left_behind : (n : ℕ) (text bytes left : List ℕ) → drop n text ≡ bytes ++ left → left ≡ drop (n + length bytes) text
left_behind n text bytes left same = sym (drop-append_seam bytes left) ∙ ap (drop (length bytes)) (sym same) ∙ drop-drop (length bytes) n text

taken_within : (n : ℕ) (text bytes left : List ℕ) → n ≤ length text → drop n text ≡ bytes ++ left → n + length bytes ≤ length text
taken_within n text bytes left le same =
    let whole = ap length (sym (take-append-drop n text)) ∙ length-append (take n text) (drop n text) in
    let first = length-take-le n text le in
    let rest = ap length same ∙ length-append bytes left in
    omega (arith, whole, first, rest)

-- where these bytes of it are taken, the rest is left
pub takes_first : (t : Content) (given : List Arrival) (h : ℕ) (s : State) (p : PortRow) (place n : ℕ) (bytes out : List ℕ) → IsOutAt t given h s p place n (bytes ++ out)
    → IsOutAt t given h s p place (n + length bytes) out
takes_first t given h s p place n bytes out is = record {
  count = is.count;
  taken = taken_within n (text_up_to t given h p) bytes out is.taken (sym is.left);
  left = left_behind n (text_up_to t given h p) bytes out (sym is.left);
}

-- ---- the loop

pub drained_on : (port : ℕ) (start now new : State) (out : Record) (place : ℕ) (s : Sent) → length start.run.handed ≡ length start.run.table.ports → IsDrained port start now
    → IsHanded now new port out place s → IsDrained port start new
drained_on port start now new out place s len d handed =
    let place_start : place_of start.run port ≡ Some place = ap (λ (c : Content). position (λ (p : PortRow). p.id == port) c.ports) (sym d.table) ∙ handed.at in
    record {
      table = ap (λ (r : Run). r.table) handed.run ∙ d.table;
      rows = ap (λ (r : Run). r.rows) handed.run ∙ d.rows;
      latest = ap (λ (r : Run). r.latest) handed.run ∙ d.latest;
      finished = ap (λ (r : Run). r.finished) handed.run ∙ d.finished;
      accepted = handed.keeps.accepted ∙ d.accepted;
      keeps = handed.keeps.lists ∙ d.keeps;
      handed = ap (λ (r : Run). length r.handed) handed.run ∙ length-set now.run.handed place (slice_index now.run.handed place + 1) ∙ d.handed;
      others = λ other differs.
          ap (λ (r : Run). slice_index r.handed other) handed.run
          ∙ get_or-set_other now.run.handed place other (slice_index now.run.handed place + 1) 0 (λ (same : other ≡ place). differs (place_start ∙ ap Some (sym same)))
          ∙ d.others other differs;
      frames = λ arrivals long has. bytes_stay arrivals now new (omega (arith, long, ap length d.rows)) handed.keeps (d.frames arrivals long has);
    }

pub starts_drained : (port : ℕ) (start : State) → IsDrained port start start
starts_drained port start = record {
  table = refl;
  rows = refl;
  finished = refl;
  accepted = refl;
  keeps = refl;
  latest = refl;
  handed = refl;
  others = λ place other. refl;
  frames =
      λ arrivals len has. has;
}

pub as_before : (port : ℕ) (start now : State) → IsDrained port start now → IsAsBefore start now
as_before port start now d = record { table = d.table; rows = d.rows; latest = d.latest; finished = d.finished; accepted = d.accepted }

pub as_itself : (s : State) → IsAsBefore s s
as_itself s = record { table = refl; rows = refl; latest = refl; finished = refl; accepted = refl }

pub then_before : (old mid new : State) → IsAsBefore old mid → IsAsBefore mid new → IsAsBefore old new
then_before old mid new first next = record {
  table = next.table ∙ first.table;
  rows = next.rows ∙ first.rows;
  latest = next.latest ∙ first.latest;
  finished = next.finished ∙ first.finished;
  accepted = next.accepted ∙ first.accepted;
}

pub same_handed : (port : ℕ) (start now : State) → length start.run.handed ≡ length start.run.table.ports → IsDrained port start now → length now.run.handed ≡ length now.run.table.ports
same_handed port start now len d = d.handed ∙ len ∙ ap (λ (c : Content). length c.ports) (sym d.table)

-- nothing changed in the last step
pub draws_same : (given : List Arrival) (port place : ℕ) (start now new : State) (before text more : List ℕ) → new ≡ now → more ≡ text → Draws given port place start now before text
    → Draws given port place start new before more
draws_same given port place start now new before text more same is draws =
    subst (λ (s : State). Draws given port place start s before more) (sym same) (subst (λ (t : List ℕ). Draws given port place start now before t) (sym is) draws)
