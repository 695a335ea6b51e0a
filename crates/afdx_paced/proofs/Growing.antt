-- What leaves up to an instant comes first of what leaves later.
use Rattle.std.proofs.Common.{◌≡◌, ℕ, ◌≤◌, List, ◌++◌, map, Some, None, ap, ◌∙◌}
use Rattle.std.proofs.lemmas.List.{map-append}
use Rattle.afdx_pcap.specs.Record.{Record}
use Rattle.afdx_table.specs.declared.rows.PortRow.{PortRow}
use Rattle.afdx_table.specs.Content.{Content}
use Rattle.afdx_port.specs.declared.Sent.{Sent}
use Rattle.afdx_port.specs.Admission.{admitted}
use Rattle.afdx_port.specs.Service.{reach}
use Rattle.afdx_port.specs.Inner.Events.{SentGoesOn}
use Rattle.afdx_port.specs.Inner.Order.{ReachesInOrder}
use Rattle.afdx_isolation.specs.Table.{settings_of}
use Rattle.afdx_core.specs.Rows.{feed_of}
use Rattle.afdx_core.specs.Merge.{Arrival}
use Rattle.afdx_session.specs.Output.{rows_of, written}
use Rattle.afdx_session.specs.Streams.{sent_up_to}
use Rattle.afdx_paced.specs.Paced.{arrivals}
use Rattle.afdx_paced.specs.Laws.{OutGoesOn}

pub sent_until : SentGoesOn → ReachesInOrder → (t : Content) (came : List Arrival) (h n : ℕ) (p : PortRow) → h ≤ n
    → (rest : List Sent) × (sent_up_to t came (Some n) p ≡ sent_up_to t came (Some h) p ++ rest)
unfolding sent_up_to
sent_until law reaches t came h n p le =
    let s = settings_of t.latency p in
    law.until s (reach s h) (reach s n) (admitted s (feed_of t p.id (rows_of t came))) (reaches s h n le)

pub sent_in_the_end : SentGoesOn → (t : Content) (came : List Arrival) (h : ℕ) (p : PortRow)
    → (rest : List Sent) × (sent_up_to t came None p ≡ sent_up_to t came (Some h) p ++ rest)
unfolding sent_up_to
sent_in_the_end law t came h p =
    let s = settings_of t.latency p in
    law.in_the_end s (reach s h) (admitted s (feed_of t p.id (rows_of t came)))

pub out_goes_on : SentGoesOn → ReachesInOrder → OutGoesOn
out_goes_on law reaches = record {
  until = λ v h n p le.
      let more = sent_until law reaches v.table (arrivals v) h n p le in
      let made : List Sent → List Record = map (written (arrivals v)) in
      (made more.0, ap made more.1 ∙ map-append (written (arrivals v)) (sent_up_to v.table (arrivals v) (Some h) p) more.0);
  in_the_end = λ v h p.
      let more = sent_in_the_end law v.table (arrivals v) h p in
      let made : List Sent → List Record = map (written (arrivals v)) in
      (made more.0, ap made more.1 ∙ map-append (written (arrivals v)) (sent_up_to v.table (arrivals v) (Some h) p) more.0);
}
