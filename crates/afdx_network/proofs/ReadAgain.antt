-- What left any switch is read as it was written, and so is what comes over a cable.
use Rattle.std.proofs.Common.{◌≡◌, ◌+◌, ◌<◌, ◌≤◌, ℕ, List, [], ◌∷◌, map, drop, length, slice_get, Option, Some, None, refl, arith}
use Rattle.std.specs.Prelude.{Contains}
use Rattle.std.specs.List.{AllByRecursion}
use Rattle.std.proofs.lemmas.List.Elements.{All-from_recursion}
use Rattle.afdx_units.specs.Time.{second, last_second, IsInstant}
use Rattle.afdx_pcap.specs.declared.format.Format.{Format}
use Rattle.afdx_pcap.specs.Record.{Record, IsWithinLimit, captured_limit}
use Rattle.afdx_pcap.specs.Text.{capture_text}
use Rattle.afdx_pcap.specs.Capture.{Splits, after, IsCapture}
use Rattle.afdx_pcap.specs.Inner.ReadBack.{WrittenTextsReadBack}
use Rattle.afdx_pcap.proofs.Early.{capture_early}
use Rattle.afdx_table.specs.declared.rows.PortRow.{PortRow}
use Rattle.afdx_table.specs.Content.{Content}
use Rattle.afdx_table.specs.WellFormed.{IsWellFormed}
use Rattle.afdx_filter.specs.Inner.Clean.{CleanFramesHaveALink}
use Rattle.afdx_port.specs.declared.Sent.{Sent}
use Rattle.afdx_port.specs.Admission.{admitted}
use Rattle.afdx_port.specs.Service.{service, sent_of}
use Rattle.afdx_port.specs.Inner.Work.{EndsWithinASecond}
use Rattle.afdx_isolation.specs.Table.{settings_of}
use Rattle.afdx_core.specs.Inner.Agreement.{VerdictsNameLinks}
use Rattle.afdx_core.specs.Inner.Merge.{ByStampIsOrdered}
use Rattle.afdx_core.specs.Merge.{Arrival, Capture, arrivals_of, merged}
use Rattle.afdx_core.specs.Rows.{feed_of}
use Rattle.afdx_session.specs.Texts.{Text}
use Rattle.afdx_session.specs.Reading.{AreCaptures}
use Rattle.afdx_session.specs.Output.{rows_of, bytes_in, written, sent_by, output_of}
use Rattle.afdx_session.proofs.Gathering.{port_every, merged_early}
use Rattle.afdx_session.proofs.Joining.{by_stamp_every}
use Rattle.afdx_session.proofs.Last.{IsSmall, items_small, sent_soon, sent_at, delay_within}
use Rattle.afdx_network.specs.Way.{delayed}
use Rattle.afdx_network.proofs.AllLeft.{at_among}
use Rattle.afdx_network.proofs.Found.{all_by, of_all}
use Rattle.afdx_network.proofs.Lists.{all_map, all_weaken}

-- ---- what was read holds no more than the most bytes

records_within : (f : Format) (last : ℕ) (bytes : List ℕ) (rs : List Record) (rest : List ℕ) → Splits f last bytes rs rest → AllByRecursion IsWithinLimit rs
records_within f last bytes [] rest splits = tt
records_within f last bytes (r ∷ rs) rest splits = (splits.0.not_huge, records_within f r.stamp (after r bytes) rs rest splits.1)

pub capture_within : (bytes : List ℕ) (rs : List Record) → IsCapture bytes rs → AllByRecursion IsWithinLimit rs
capture_within bytes rs capture = records_within capture.format 0 (drop 24 bytes) rs [] capture.records

captures_within : (texts : List Text) (read : List Capture) → AreCaptures texts read → AllByRecursion (λ (a : Arrival). IsWithinLimit a.frame) (arrivals_of read)
captures_within [] [] are = tt
captures_within [] (c ∷ read) are = absurd are
captures_within (text ∷ texts) [] are = absurd are
captures_within (text ∷ texts) (c ∷ read) are =
    port_every (λ (a : Arrival). IsWithinLimit a.frame) c.port c.records (arrivals_of read) (capture_within text.1 c.records are.1) (captures_within texts read are.2)

-- ---- so it is with what leaves, and it ends at an instant

written_within : (came : List Arrival) → AllByRecursion (λ (a : Arrival). IsWithinLimit a.frame) came → (sent : List Sent) → AllByRecursion IsWithinLimit (map (written came) sent)
written_within came all [] = tt
written_within came all (x ∷ sent) = (by (slice_get came x.item.number) refl, written_within came all sent) where
  by : (o : Option Arrival) → slice_get came x.item.number ≡ o → length (bytes_in o) ≤ captured_limit
  by None is = omega arith
  by (Some a) is = of_all (λ (b : Arrival). IsWithinLimit b.frame) came a all (at_among came x.item.number a is)

written_ends : (came : List Arrival) (sent : List Sent) → AllByRecursion (λ (x : Sent). x.end < x.item.stamp + second) sent → AllByRecursion (λ (x : Sent). x.item.stamp < last_second) sent
    → AllByRecursion (λ (r : Record). IsInstant r.stamp) (map (written came) sent)
written_ends came [] soon early = tt
written_ends came (x ∷ sent) soon early = let end = soon.0 in let stamp = early.0 in (omega (arith, end, stamp), written_ends came sent soon.1 early.1)

written_whole : (came : List Arrival) (sent : List Sent) → AllByRecursion (λ (r : Record). r.original ≡ length r.bytes) (map (written came) sent)
written_whole came [] = tt
written_whole came (x ∷ sent) = (refl, written_whole came sent)

-- the laws that this rests on
pub record Reading : Type 0 where
  pub back : WrittenTextsReadBack
  pub ordered : ByStampIsOrdered
  pub soon : EndsWithinASecond
  pub have_link : CleanFramesHaveALink
  pub verdicts : VerdictsNameLinks

module _ (g : Reading) (t : Content) (texts : List Text) (read : List Capture) (p : PortRow) (formed : IsWellFormed t) (are : AreCaptures texts read) (among : Contains t.ports p) where
  ends : AllByRecursion (λ (r : Record). IsInstant r.stamp) (output_of t (merged read) p)
  unfolding sent_by
  ends =
      let s = settings_of t.latency p in
      let items = admitted s (feed_of t p.id (rows_of t (merged read))) in
      let early = merged_early g.ordered texts (merged read) (record { read = read; are_read = are; all = refl }) in
      let small : AllByRecursion (IsSmall (λ n. n < last_second)) items = items_small g.have_link g.verdicts (λ n. n < last_second) t (merged read) p formed early in
      written_ends (merged read) (sent_of (service s 0 items)) (sent_soon g.soon (λ n. n < last_second) s items (delay_within t p formed among) small) (sent_at (λ n. n < last_second) s items small)

  pub read_again : (qs : List Record) → IsCapture (capture_text (output_of t (merged read) p)) qs → qs ≡ output_of t (merged read) p
  read_again qs capture =
      let out = output_of t (merged read) p in
      let limits = by_stamp_every g.ordered (λ (a : Arrival). IsWithinLimit a.frame) (arrivals_of read) (captures_within texts read are) in
      g.back out qs (All-from_recursion IsWithinLimit out (written_within (merged read) limits (sent_by t (merged read) p)))
      (All-from_recursion (λ (r : Record). IsInstant r.stamp) out ends)
      (All-from_recursion (λ (r : Record). r.original ≡ length r.bytes) out (written_whole (merged read) (sent_by t (merged read) p))) capture

-- what was read, and came a millisecond later at most
pub comes_again : WrittenTextsReadBack → (cable : ℕ) → cable ≤ 1000000 → (bytes : List ℕ) (rs qs : List Record) → IsCapture bytes rs → IsCapture (capture_text (map (delayed cable) rs)) qs
    → qs ≡ map (delayed cable) rs
comes_again back cable small bytes rs qs capture read =
    let late = map (delayed cable) rs in
    back late qs (All-from_recursion IsWithinLimit late (all_map IsWithinLimit (delayed cable) rs (capture_within bytes rs capture)))
    (All-from_recursion (λ (r : Record). IsInstant r.stamp) late (all_map (λ (r : Record). IsInstant r.stamp) (delayed cable) rs
    (all_weaken (λ (r : Record). r.stamp < last_second) (λ (r : Record). IsInstant (r.stamp + cable)) rs (λ r lt. omega (arith, lt, small)) (capture_early bytes rs capture))))
    (All-from_recursion (λ (r : Record). r.original ≡ length r.bytes) late (all_map (λ (r : Record). r.original ≡ length r.bytes) (delayed cable) rs
    (all_by (λ (r : Record). length r.bytes ≡ length r.bytes) rs (λ r here. refl)))) read
