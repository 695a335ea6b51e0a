-- A port's output is not longer than what is counted can be.
use Rattle.std.proofs.Common.{◌≡◌, ℕ, zero, suc, ◌*◌, ◌<◌, ◌≤◌, ◌^◌, ◌&&◌, nat_lt, Bool, true, false, cond, List, [], ◌∷◌, ◌++◌, length, map, filter, Option, Some, None, refl, arith, subst, drop}
use Rattle.std.specs.List.{AllByRecursion, flat_map}
use Rattle.std.proofs.lemmas.List.{length-append, length-map}
use Rattle.afdx_pcap.specs.Record.{Record}
use Rattle.afdx_pcap.specs.declared.format.Format.{Format}
use Rattle.afdx_pcap.specs.Capture.{Splits, after}
use Rattle.afdx_pcap.specs.Reading.{AreFirst}
use Rattle.afdx_pcap.specs.Text.{header_text, head_text, record_text}
use Rattle.afdx_table.specs.declared.rows.PortRow.{PortRow}
use Rattle.afdx_table.specs.Link.{Link, leads_to}
use Rattle.afdx_table.specs.Content.{Content}
use Rattle.afdx_port.specs.declared.Settings.{Settings}
use Rattle.afdx_port.specs.declared.Item.{Item}
use Rattle.afdx_port.specs.declared.Sent.{Sent}
use Rattle.afdx_port.specs.Admission.{admitted}
use Rattle.afdx_port.specs.Service.{Event, sending, aging, reach, next, others, free_after, serve, service, before, instant, sent_of}
use Rattle.afdx_isolation.specs.Table.{settings_of}
use Rattle.afdx_core.specs.declared.step.Row.{Row}
use Rattle.afdx_core.specs.Rows.{row_of, named, passes, copy_of, copies_by, copies, each_after, feed_of}
use Rattle.afdx_core.specs.State.{State}
use Rattle.afdx_core.specs.Merge.{Arrival, arrivals_of, merged}
use Rattle.afdx_core.specs.Inner.Merge.{ByStampIsOrdered}
use Rattle.afdx_count.specs.Tally.{Tally}
use Rattle.afdx_session.specs.declared.lane.Lane.{Lane}
use Rattle.afdx_session.specs.Output.{rows_of, bytes_at, written}
use Rattle.afdx_session.specs.Streams.{Stream, captures_of, merged_so_far, sent_up_to}
use Rattle.afdx_session.specs.Inner.Lanes.{waiting_of}
use Rattle.afdx_session.specs.Inner.Kept.{AreLanesOf, text_up_to, IsGoing}
use Rattle.afdx_session.proofs.Joining.{by_stamp_every}
use Rattle.afdx_session.proofs.Losing.{length-admit_all}
use Rattle.afdx_session.proofs.Numbered.{all_append}
use Rattle.afdx_session.proofs.Settling.{all_prefix, arrived, all_arrived}

-- ---- no record is too long

abbrev Small : Record → Type 0
Small r = length r.bytes ≤ 262144

abbrev SmallArrival : Arrival → Type 0
SmallArrival a = length a.frame.bytes ≤ 262144

splits_small : (f : Format) (last : ℕ) (bytes : List ℕ) (rs : List Record) (rest : List ℕ) → Splits f last bytes rs rest → AllByRecursion Small rs
splits_small f last bytes [] rest splits = tt
splits_small f last bytes (r ∷ rs) rest splits = (splits.0.not_huge, splits_small f r.stamp (after r bytes) rs rest splits.1)

first_small : (bytes : List ℕ) (rs : List Record) → AreFirst bytes rs → AllByRecursion Small rs
first_small bytes [] first = tt
first_small bytes (r ∷ rs) first = let held = first.1 in splits_small held.format 0 (drop 24 bytes) (r ∷ rs) first.0 held.records

arrivals_small : {Z : Type 0} (lanes : List (Lane Z)) (streams : List Stream) → AreLanesOf lanes streams → AllByRecursion SmallArrival (arrivals_of (captures_of streams))
arrivals_small [] [] are = tt
arrivals_small [] (s ∷ streams) are = absurd are
arrivals_small (l ∷ lanes) [] are = absurd are
arrivals_small (l ∷ lanes) (s ∷ streams) are =
    all_append SmallArrival (arrived s.port s.records) (arrivals_of (captures_of streams))
    (all_arrived SmallArrival s.port s.records (first_small l.reader.bytes s.records are.0.read.taken.first))
    (arrivals_small lanes streams are.1)

small_in : (arrivals : List Arrival) (n : ℕ) → AllByRecursion SmallArrival arrivals → length (bytes_at arrivals n) ≤ 262144
small_in [] n all = omega arith
small_in (a ∷ arrivals) zero all = all.0
small_in (a ∷ arrivals) (suc n) all = small_in arrivals n all.1

-- ---- nothing is sent twice

length-filter : {X : Type 0} (p : X → Bool) (xs : List X) → length (filter p xs) ≤ length xs
length-filter p [] = omega arith
length-filter p (x ∷ xs) = by (p x) (length-filter p xs) where
  by : (b : Bool) → length (filter p xs) ≤ length xs → length (cond b (x ∷ filter p xs) (filter p xs)) ≤ suc (length xs)
  by true le = omega (arith, le)
  by false le = omega (arith, le)

length-serve : (n : ℕ) (s : Settings) (free : ℕ) (items : List Item) → length (serve n s free items) ≤ n
length-serve zero s free items = omega arith
length-serve (suc n) s free [] = omega arith
length-serve (suc n) s free (first ∷ rest) = let le = length-serve n s (free_after (next s free first rest)) (others s free first rest) in omega (arith, le)

length-sent : (es : List Event) → length (sent_of es) ≤ length es
length-sent [] = omega arith
length-sent (sending x ∷ es) = let le = length-sent es in omega (arith, le)
length-sent (aging x ∷ es) = let le = length-sent es in omega (arith, le)

length-copies : (l : Option Link) (port : ℕ) (earlier : List Row) (row : Row) → length (copies_by l port earlier row) ≤ 1
length-copies None port earlier row = omega arith
length-copies (Some l) port earlier row = by (passes l earlier row && leads_to port l) where
  by : (b : Bool) → length (cond b (copy_of l earlier row ∷ []) []) ≤ 1
  by true = omega arith
  by false = omega arith

length-each : (t : Content) (port : ℕ) (earlier rows : List Row) → length (each_after (copies t port) earlier rows) ≤ length rows
length-each t port earlier [] = omega arith
length-each t port earlier (row ∷ rows) =
    let one = length-copies (named t row.verdict) port earlier row in
    let more = length-each t port (earlier ++ row ∷ []) rows in
    let both = length-append (copies t port earlier row) (each_after (copies t port) (earlier ++ row ∷ []) rows) in
    omega (arith, one, more, both)

feed_few : (t : Content) (port : ℕ) (rows : List Row) → length (feed_of t port rows) ≤ length rows
unfolding feed_of
feed_few t port rows = length-each t port [] rows

sent_few : (t : Content) (given : List Arrival) (h : ℕ) (p : PortRow) → length (sent_up_to t given (Some h) p) ≤ length given
unfolding sent_up_to
sent_few t given h p =
    let s = settings_of t.latency p in
    let feed = feed_of t p.id (rows_of t given) in
    let items = admitted s feed in
    let events = service s 0 items in
    let sent = length-sent (before (reach s h) events) in
    let kept = length-filter (λ (e : Event). nat_lt (instant e) (reach s h)) events in
    let served = length-serve (length items) s 0 items in
    let let_in = length-admit_all s [] feed in
    let fed = feed_few t p.id (rows_of t given) in
    let rows = length-map given (λ (a : Arrival). row_of t a.port a.frame) in
    omega (arith, sent, kept, served, let_in, fed, rows)

-- ---- the text

texts_long : (given : List Arrival) (sent : List Sent) → AllByRecursion SmallArrival given → length (flat_map record_text (map (written given) sent)) ≤ 262160 * length sent
unfolding head_text
texts_long given [] all = omega arith
texts_long given (x ∷ sent) all =
    let r = written given x in
    let head : length (head_text r) ≡ 16 = refl in
    let bytes = small_in given x.item.number all in
    let one = length-append (head_text r) r.bytes in
    let more = texts_long given sent all in
    let both = length-append (record_text r) (flat_map record_text (map (written given) sent)) in
    omega (arith, head, bytes, one, more, both)

pub text_bound_at : {Z : Type 0} → ByStampIsOrdered → (t : Content) (lanes : List (Lane Z)) (s : State) (counts : Tally) (going : IsGoing t lanes s counts) (h : ℕ) (p : PortRow)
    → length (text_up_to t going.given h p) < 2 ^ 128
text_bound_at ordered t lanes s counts going h p =
    let all : AllByRecursion SmallArrival (merged_so_far going.streams) =
    by_stamp_every ordered SmallArrival (arrivals_of (captures_of going.streams)) (arrivals_small lanes going.streams going.lanes_are) in
    let given : AllByRecursion SmallArrival going.given = all_prefix SmallArrival going.given (merged (map waiting_of lanes)) (subst (AllByRecursion SmallArrival) going.settling.whole all) in
    let sent = sent_up_to t going.given (Some h) p in
    let few = sent_few t going.given h p in
    let long = texts_long going.given sent given in
    let both = length-append header_text (flat_map record_text (map (written going.given) sent)) in
    let most = going.few in
    omega (arith, few, long, both, most)

pub text_bound : {Z : Type 0} → ByStampIsOrdered → (t : Content) (lanes : List (Lane Z)) (s : State) (counts : Tally) (going : IsGoing t lanes s counts) (p : PortRow)
    → length (text_up_to t going.given going.since p) < 2 ^ 128
text_bound ordered t lanes s counts going p = text_bound_at ordered t lanes s counts going going.since p
