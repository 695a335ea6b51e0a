-- What leaves a port is in order.
use Rattle.std.proofs.Common.{◌≡◌, ℕ, zero, suc, ◌≤◌, List, [], ◌∷◌, map, length, None, refl, arith}
use Rattle.std.specs.Prelude.{All, AllPairs}
use Rattle.std.specs.List.{AllByRecursion}
use Rattle.std.proofs.lemmas.List.Elements.{recursion_from_All}
use Rattle.afdx_pcap.specs.Record.{Record}
use Rattle.afdx_table.specs.declared.rows.PortRow.{PortRow}
use Rattle.afdx_table.specs.Content.{Content}
use Rattle.afdx_port.specs.declared.Sent.{Sent}
use Rattle.afdx_port.specs.Admission.{admitted}
use Rattle.afdx_port.specs.Inner.Order.{EndsDoNotFall}
use Rattle.afdx_isolation.specs.Table.{settings_of}
use Rattle.afdx_core.specs.Rows.{feed_of}
use Rattle.afdx_core.specs.Merge.{Arrival, Rises}
use Rattle.afdx_session.specs.Output.{rows_of, written}
use Rattle.afdx_session.specs.Streams.{sent_up_to}
use Rattle.afdx_paced.specs.Paced.{arrivals}
use Rattle.afdx_paced.specs.Laws.{OutIsInOrder}

-- what is written of a frame has its end
written_from : (came : List Arrival) (n : ℕ) (sent : List Sent) → AllByRecursion (λ (x : Sent). n ≤ x.end) sent → AllByRecursion (λ (r : Record). n ≤ r.stamp) (map (written came) sent)
written_from came n [] all = tt
written_from came n (x ∷ sent) all = (all.0, written_from came n sent all.1)

written_rises : (came : List Arrival) (sent : List Sent) → AllPairs (λ (a : Sent) (b : Sent). a.end ≤ b.end) sent → Rises (map (written came) sent)
written_rises came [] pairs = tt
written_rises came (x ∷ sent) pairs =
    let heads : All (λ (y : Sent). x.end ≤ y.end) sent = λ k d within. pairs zero (suc k) d (omega arith) (omega (arith, within)) in
    let tails : AllPairs (λ (a : Sent) (b : Sent). a.end ≤ b.end) sent = λ i j d lt within. pairs (suc i) (suc j) d (omega (arith, lt)) (omega (arith, within)) in
    (written_from came x.end sent (recursion_from_All (λ (y : Sent). x.end ≤ y.end) sent heads), written_rises came sent tails)

written_whole : (came : List Arrival) (sent : List Sent) → AllByRecursion (λ (r : Record). r.original ≡ length r.bytes) (map (written came) sent)
written_whole came [] = tt
written_whole came (x ∷ sent) = (refl, written_whole came sent)

sent_pairs : EndsDoNotFall → (t : Content) (came : List Arrival) (p : PortRow) → AllPairs (λ (a : Sent) (b : Sent). a.end ≤ b.end) (sent_up_to t came None p)
unfolding sent_up_to
sent_pairs law t came p = law.in_order (settings_of t.latency p) 0 (admitted (settings_of t.latency p) (feed_of t p.id (rows_of t came)))

pub out_is_in_order : EndsDoNotFall → OutIsInOrder
out_is_in_order law = record {
  rises = λ v p. written_rises (arrivals v) (sent_up_to v.table (arrivals v) None p) (sent_pairs law v.table (arrivals v) p);
  whole = λ v p. written_whole (arrivals v) (sent_up_to v.table (arrivals v) None p);
}
