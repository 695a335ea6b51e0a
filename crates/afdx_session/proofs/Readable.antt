-- What leaves can be read again.
use Rattle.std.proofs.Common.{◌≡◌, ℕ, zero, suc, ◌+◌, ◌<◌, ◌≤◌, List, [], ◌∷◌, length, map, drop, slice_get, Option, Some, None, refl, arith}
use Rattle.std.specs.Prelude.{All, AllPairs, Contains}
use Rattle.std.specs.List.{AllByRecursion}
use Rattle.std.proofs.lemmas.List.Elements.{All-from_recursion, recursion_from_All}
use Rattle.afdx_units.specs.Time.{second, last_second}
use Rattle.afdx_pcap.specs.declared.format.Format.{Format}
use Rattle.afdx_pcap.specs.Record.{Record, IsWithinLimit, captured_limit}
use Rattle.afdx_pcap.specs.Capture.{Splits, after}
use Rattle.afdx_pcap.specs.Text.{AreReadable}
use Rattle.afdx_table.specs.declared.rows.PortRow.{PortRow}
use Rattle.afdx_table.specs.Content.{Content}
use Rattle.afdx_table.specs.WellFormed.{IsWellFormed}
use Rattle.afdx_filter.specs.Inner.Clean.{CleanFramesHaveALink}
use Rattle.afdx_port.specs.declared.Sent.{Sent}
use Rattle.afdx_port.specs.Admission.{admitted}
use Rattle.afdx_port.specs.Inner.Order.{EndsDoNotFall}
use Rattle.afdx_port.specs.Service.{service, sent_of}
use Rattle.afdx_port.specs.Inner.Work.{EndsWithinASecond}
use Rattle.afdx_isolation.specs.Table.{settings_of}
use Rattle.afdx_core.specs.Inner.Agreement.{VerdictsNameLinks}
use Rattle.afdx_core.specs.Merge.{Arrival, Capture, arrivals_of, merged}
use Rattle.afdx_core.specs.Rows.{feed_of}
use Rattle.afdx_core.specs.Inner.Merge.{ByStampIsOrdered}
use Rattle.afdx_session.specs.Texts.{Text}
use Rattle.afdx_session.specs.Output.{rows_of, bytes_in, bytes_at, written, sent_by, output_of}
use Rattle.afdx_session.specs.Reading.{AreCaptures}
use Rattle.afdx_session.proofs.Gathering.{port_every}
use Rattle.afdx_session.proofs.Joining.{by_stamp_every}
use Rattle.afdx_session.proofs.Last.{IsSmall, items_small, sent_soon, sent_at, delay_within}
use Rattle.afdx_session.proofs.Numbered.{all_slice_get}

-- ---- records of bytes that came are within the limit

abbrev AreWithinLimit : List Arrival → Type 0
AreWithinLimit arrivals = AllByRecursion (λ a. IsWithinLimit a.frame) arrivals

records_within : (f : Format) (last : ℕ) (bytes : List ℕ) (rs : List Record) (rest : List ℕ) → Splits f last bytes rs rest → AllByRecursion IsWithinLimit rs
records_within f last bytes [] rest splits = tt
records_within f last bytes (r ∷ rs) rest splits = (splits.0.not_huge, records_within f r.stamp (after r bytes) rs rest splits.1)

captures_within : (texts : List Text) (read : List Capture) → AreCaptures texts read → AreWithinLimit (arrivals_of read)
captures_within [] [] are = tt
captures_within [] (c ∷ read) are = absurd are
captures_within (text ∷ texts) [] are = absurd are
captures_within (text ∷ texts) (c ∷ read) are =
    port_every (λ a. IsWithinLimit a.frame) c.port c.records (arrivals_of read) (records_within are.1.format 0 (drop 24 text.1) c.records [] are.1.records) (captures_within texts read are.2)

bytes_within : (arrivals : List Arrival) (number : ℕ) → AreWithinLimit arrivals → length (bytes_at arrivals number) ≤ captured_limit
bytes_within arrivals number all = by_slot (slice_get arrivals number) refl where
  by_slot : (o : Option Arrival) → slice_get arrivals number ≡ o → length (bytes_in o) ≤ captured_limit
  by_slot None is = omega arith
  by_slot (Some a) is = all_slice_get (λ a. IsWithinLimit a.frame) arrivals number a all is

written_within : (arrivals : List Arrival) (sent : List Sent) → AreWithinLimit arrivals → AllByRecursion IsWithinLimit (map (written arrivals) sent)
written_within arrivals [] all = tt
written_within arrivals (x ∷ sent) all = (bytes_within arrivals x.item.number all, written_within arrivals sent all)

-- ---- their stamps do not fall, and none lies in the last second

ends_early : (sent : List Sent) → AllByRecursion (λ (x : Sent). x.end < x.item.stamp + second) sent → AllByRecursion (λ (x : Sent). x.item.stamp + second ≤ last_second) sent
    → AllByRecursion (λ (x : Sent). x.end < last_second) sent
ends_early [] ends early = tt
ends_early (x ∷ sent) ends early = (omega (arith, ends.0, early.0), ends_early sent ends.1 early.1)

written_readable : (arrivals : List Arrival) (last : ℕ) (sent : List Sent) → AllByRecursion (λ (x : Sent). last ≤ x.end) sent → AllPairs (λ (a : Sent) (b : Sent). a.end ≤ b.end) sent
    → AllByRecursion (λ (x : Sent). x.end < last_second) sent → AreReadable last (map (written arrivals) sent)
written_readable arrivals last [] from pairs early = tt
written_readable arrivals last (x ∷ sent) from pairs early =
    let heads : All (λ (y : Sent). x.end ≤ y.end) sent = λ k d within. pairs zero (suc k) d (omega arith) (omega (arith, within)) in
    let tails : AllPairs (λ (a : Sent) (b : Sent). a.end ≤ b.end) sent = λ i j d lt within. pairs (suc i) (suc j) d (omega (arith, lt)) (omega (arith, within)) in
    (from.0, early.0, refl, written_readable arrivals x.end sent (recursion_from_All (λ (y : Sent). x.end ≤ y.end) sent heads) tails early.1)

module _ (ordered : ByStampIsOrdered) (order : EndsDoNotFall) (soon : EndsWithinASecond) (have_link : CleanFramesHaveALink) (verdicts : VerdictsNameLinks) where
  output_readable : (t : Content) (arrivals : List Arrival) (p : PortRow) → IsWellFormed t → Contains t.ports p → AllByRecursion (λ (a : Arrival). a.frame.stamp + second ≤ last_second) arrivals
      → AreReadable 0 (output_of t arrivals p)
  unfolding sent_by
  output_readable t arrivals p formed among early =
      let s = settings_of t.latency p in
      let items = admitted s (feed_of t p.id (rows_of t arrivals)) in
      let sent = sent_of (service s 0 items) in
      let small : AllByRecursion (IsSmall (λ n. n + second ≤ last_second)) items = items_small have_link verdicts (λ n. n + second ≤ last_second) t arrivals p formed early in
      written_readable arrivals 0 sent (recursion_from_All (λ (x : Sent). 0 ≤ x.end) sent (order.from_free s 0 items)) (order.in_order s 0 items)
      (ends_early sent (sent_soon soon (λ n. n + second ≤ last_second) s items (delay_within t p formed among) small) (sent_at (λ n. n + second ≤ last_second) s items small))

  pub outputs_are_readable : (t : Content) (texts : List Text) (read : List Capture) → IsWellFormed t → AreCaptures texts read
      → AllByRecursion (λ (a : Arrival). a.frame.stamp + second ≤ last_second) (merged read) → (p : PortRow) → Contains t.ports p
      → AreReadable 0 (output_of t (merged read) p) × All IsWithinLimit (output_of t (merged read) p)
  outputs_are_readable t texts read formed are early p among = (
    output_readable t (merged read) p formed among early,
    All-from_recursion IsWithinLimit (output_of t (merged read) p)
        (written_within (merged read) (sent_by t (merged read) p) (by_stamp_every ordered (λ a. IsWithinLimit a.frame) (arrivals_of read) (captures_within texts read are))),
  )
