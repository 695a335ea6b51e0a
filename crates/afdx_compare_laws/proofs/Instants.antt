-- The stamps of what came and of what a run answers are instants that pcap can hold.
use Rattle.std.proofs.Common.{◌+◌, ◌<◌, ◌≤◌, List, [], ◌∷◌, map, arith}
use Rattle.std.specs.Prelude.{Contains}
use Rattle.std.specs.List.{AllByRecursion}
use Rattle.std.proofs.ByRecursion.{all_kept_by}
use Rattle.afdx_units.specs.Time.{second, last_second, last_instant}
use Rattle.afdx_pcap.specs.Record.{Record}
use Rattle.afdx_pcap.proofs.Early.{capture_early}
use Rattle.afdx_table.specs.declared.rows.PortRow.{PortRow}
use Rattle.afdx_table.specs.Content.{Content}
use Rattle.afdx_table.specs.WellFormed.{IsWellFormed}
use Rattle.afdx_filter.specs.Inner.Clean.{CleanFramesHaveALink}
use Rattle.afdx_port.specs.declared.Sent.{Sent}
use Rattle.afdx_port.specs.Admission.{admitted}
use Rattle.afdx_port.specs.Service.{service, sent_of}
use Rattle.afdx_port.specs.Inner.Work.{EndsWithinASecond}
use Rattle.afdx_isolation.specs.Table.{settings_of}
use Rattle.afdx_core.specs.Inner.Agreement.{VerdictsNameLinks}
use Rattle.afdx_core.specs.Inner.Merge.{ByStampIsOrdered}
use Rattle.afdx_core.specs.Merge.{Arrival, Capture, arrivals_of, merged}
use Rattle.afdx_core.specs.Rows.{feed_of}
use Rattle.afdx_session.specs.Texts.{Text}
use Rattle.afdx_session.specs.Reading.{AreCaptures}
use Rattle.afdx_session.specs.Output.{rows_of, written, sent_by, output_of}
use Rattle.afdx_session.proofs.Gathering.{port_every}
use Rattle.afdx_session.proofs.Joining.{by_stamp_every}
use Rattle.afdx_session.proofs.Last.{IsSmall, items_small, sent_soon, sent_at, delay_within}
use Rattle.afdx_recordings.specs.declared.recordings.Recordings.{Recordings}
use Rattle.afdx_recordings.specs.Recordings.{is_recorded}
use Rattle.afdx_compare.specs.Inner.Laws.{recorded_ports}
use Rattle.afdx_compare_laws.specs.Runs.{captures_of, AreBy}
use Rattle.afdx_compare_laws.proofs.Narrowing.{all_map, all_both}
use Rattle.afdx_compare_laws.proofs.Spans.{contained}

abbrev IsInstant : Record → Type 0
IsInstant x = x.stamp ≤ last_instant

-- ---- what came

came_early : (texts : List Text) (read : List Capture) → AreCaptures texts read → AllByRecursion (λ (a : Arrival). a.frame.stamp < last_second) (arrivals_of read)
came_early [] [] are = tt
came_early [] (c ∷ read) are = absurd are
came_early (text ∷ texts) [] are = absurd are
came_early (text ∷ texts) (c ∷ read) are =
    port_every (λ (a : Arrival). a.frame.stamp < last_second) c.port c.records (arrivals_of read) (capture_early text.1 c.records are.1) (came_early texts read are.2)

came_by : (texts : List Text) (read : List Capture) → AreCaptures texts read → AllByRecursion (AllByRecursion IsInstant) (map (λ c. c.records) read)
came_by [] [] are = tt
came_by [] (c ∷ read) are = absurd are
came_by (text ∷ texts) [] are = absurd are
came_by (text ∷ texts) (c ∷ read) are =
    (all_map (λ (x : Record). x.stamp < last_second) IsInstant (λ x early. omega (arith, early)) c.records (capture_early text.1 c.records are.1), came_by texts read are.2)

-- ---- what left, within a second after it came

written_by : (came : List Arrival) (sent : List Sent) → AllByRecursion (λ (x : Sent). x.end < x.item.stamp + second) sent → AllByRecursion (λ (x : Sent). x.item.stamp < last_second) sent
    → AllByRecursion IsInstant (map (written came) sent)
written_by came [] soon early = tt
written_by came (x ∷ sent) soon early =
    let first = soon.0 in
    let stamp = early.0 in
    let is : x.end ≤ last_instant = omega (arith, first, stamp) in
    (is, written_by came sent soon.1 early.1)

all_mapped : (P : List Record → Type 0) (f : PortRow → List Record) (ps : List PortRow) → AllByRecursion (λ p. P (f p)) ps → AllByRecursion P (map f ps)
all_mapped P f [] all = tt
all_mapped P f (p ∷ ps) all = (all.0, all_mapped P f ps all.1)

module _ (ordered : ByStampIsOrdered) (soon : EndsWithinASecond) (have_link : CleanFramesHaveALink) (verdicts : VerdictsNameLinks) (t : Content) (formed : IsWellFormed t) where
  left_by : (came : List Arrival) (p : PortRow) → Contains t.ports p → AllByRecursion (λ (a : Arrival). a.frame.stamp < last_second) came → AllByRecursion IsInstant (output_of t came p)
  unfolding sent_by
  left_by came p among early =
      let s = settings_of t.latency p in
      let items = admitted s (feed_of t p.id (rows_of t came)) in
      let small : AllByRecursion (IsSmall (λ n. n < last_second)) items = items_small have_link verdicts (λ n. n < last_second) t came p formed early in
      written_by came (sent_of (service s 0 items)) (sent_soon soon (λ n. n < last_second) s items (delay_within t p formed among) small) (sent_at (λ n. n < last_second) s items small)

  pub captures_by : (r : Recordings) (texts : List Text) (read : List Capture) → AreCaptures texts read → AreBy last_instant (captures_of t r read)
  captures_by r texts read are =
      let early = by_stamp_every ordered (λ (a : Arrival). a.frame.stamp < last_second) (arrivals_of read) (came_early texts read are) in
      let ports = all_kept_by (λ (p : PortRow). is_recorded r.outputs p.id) (Contains t.ports) t.ports (contained t.ports) in
      all_both (AllByRecursion IsInstant) (map (λ c. c.records) read) (map (λ p. output_of t (merged read) p) (recorded_ports t r)) (came_by texts read are)
      (all_mapped (AllByRecursion IsInstant) (λ p. output_of t (merged read) p) (recorded_ports t r)
      (all_map (Contains t.ports) (λ p. AllByRecursion IsInstant (output_of t (merged read) p)) (λ p among. left_by (merged read) p among early) (recorded_ports t r) ports))
