-- Recordings of our own switch are in order, and so keep to what is proved of it.
use Rattle.std.proofs.Common.{◌≡◌, ℕ, zero, suc, ◌≤◌, List, [], ◌∷◌, map, refl, sym, ap, subst, ◌∙◌, arith}
use Rattle.std.specs.Prelude.{All, AllPairs}
use Rattle.std.specs.List.{AllByRecursion}
use Rattle.std.proofs.lemmas.List.Elements.{recursion_from_All}
use Rattle.afdx_pcap.specs.Record.{Record}
use Rattle.afdx_table.specs.declared.rows.PortRow.{PortRow}
use Rattle.afdx_table.specs.Content.{Content}
use Rattle.afdx_table.specs.WellFormed.{IsWellFormed}
use Rattle.afdx_account.specs.Level.{InOrder}
use Rattle.afdx_filter.specs.Frame.{frame_of}
use Rattle.afdx_filter.specs.Verdict.{verdict_of}
use Rattle.afdx_port.specs.declared.Sent.{Sent}
use Rattle.afdx_port.specs.Admission.{admitted}
use Rattle.afdx_port.specs.Inner.Order.{EndsDoNotFall}
use Rattle.afdx_isolation.specs.Table.{settings_of}
use Rattle.afdx_core.specs.Rows.{says_clean, feed_of}
use Rattle.afdx_core.specs.Merge.{Arrival, Capture, Rises, records_of, merged}
use Rattle.afdx_session.specs.Texts.{Text, AreOfPorts}
use Rattle.afdx_session.specs.Reading.{AreCaptures}
use Rattle.afdx_session.specs.Output.{rows_of, sent_by, written, output_of}
use Rattle.afdx_session.specs.Lined.{OutcomesIsolate}
use Rattle.afdx_session.specs.Inner.Settled.{Ascend, AllRise, ports_of}
use Rattle.afdx_session.proofs.Gathering.{capture_rises}
use Rattle.afdx_session.proofs.Going.{ids_ascend}
use Rattle.afdx_session.proofs.Settling.{always, rises_at}
use Rattle.afdx_compare.specs.Inner.Laws.{ComeInOrder}
use Rattle.afdx_compare_laws.specs.Spans.{LeaveInOrder, OurSpansAreKept}
use Rattle.afdx_compare_laws.specs.Runs.{OurAnswersAreKept}
use Rattle.afdx_compare.proofs.OwnRuns.{order_filter}

-- ---- what came

stamps_order : (since : ℕ) (rs : List Record) → AllByRecursion (λ (r : Record). since ≤ r.stamp) rs → Rises rs → InOrder since (map frame_of rs)
stamps_order since [] from rises = tt
stamps_order since (r ∷ rs) from rises = (from.0, stamps_order r.stamp rs rises.0 rises.1)

read_ports : (texts : List Text) (read : List Capture) → AreCaptures texts read → ports_of read ≡ map (λ (text : Text). text.0) texts
read_ports [] [] are = refl
read_ports [] (c ∷ read) are = absurd are
read_ports (text ∷ texts) [] are = absurd are
read_ports (text ∷ texts) (c ∷ read) are = ap (λ (n : ℕ). n ∷ ports_of read) are.0 ∙ ap (λ (ns : List ℕ). text.0 ∷ ns) (read_ports texts read are.2)

read_rises : (texts : List Text) (read : List Capture) → AreCaptures texts read → AllRise read
read_rises [] [] are = tt
read_rises [] (c ∷ read) are = absurd are
read_rises (text ∷ texts) [] are = absurd are
read_rises (text ∷ texts) (c ∷ read) are = (capture_rises text.1 c.records are.1, read_rises texts read are.2)

pub come_in_order : (t : Content) (texts : List Text) (read : List Capture) → IsWellFormed t → AreOfPorts t texts → AreCaptures texts read → ComeInOrder t read
come_in_order t texts read formed of_ports are l there =
    let ascend = subst Ascend (sym (read_ports texts read are ∙ of_ports)) (ids_ascend t.ports formed.ports_rise) in
    let rises = rises_at read ascend (read_rises texts read are) l.from in
    order_filter (λ r. says_clean l.id (verdict_of t l.from r)) 0 (records_of read l.from)
    (stamps_order 0 (records_of read l.from) (always (λ (r : Record). 0 ≤ r.stamp) (records_of read l.from) (λ r. omega arith)) rises)

-- ---- what left

written_order : (came : List Arrival) (since : ℕ) (sent : List Sent) → AllByRecursion (λ (x : Sent). since ≤ x.end) sent → AllPairs (λ (a : Sent) (b : Sent). a.end ≤ b.end) sent
    → InOrder since (map frame_of (map (written came) sent))
written_order came since [] from pairs = tt
written_order came since (x ∷ sent) from pairs =
    let heads : All (λ (y : Sent). x.end ≤ y.end) sent = λ k d within. pairs zero (suc k) d (omega arith) (omega (arith, within)) in
    let tails : AllPairs (λ (a : Sent) (b : Sent). a.end ≤ b.end) sent = λ i j d lt within. pairs (suc i) (suc j) d (omega (arith, lt)) (omega (arith, within)) in
    (from.0, written_order came x.end sent (recursion_from_All (λ (y : Sent). x.end ≤ y.end) sent heads) tails)

sent_pairs : EndsDoNotFall → (t : Content) (came : List Arrival) (p : PortRow) → AllPairs (λ (a : Sent) (b : Sent). a.end ≤ b.end) (sent_by t came p)
unfolding sent_by
sent_pairs law t came p = law.in_order (settings_of t.latency p) 0 (admitted (settings_of t.latency p) (feed_of t p.id (rows_of t came)))

pub leave_in_order : EndsDoNotFall → (t : Content) (came : List Arrival) → LeaveInOrder t.ports (output_of t came)
leave_in_order law t came p there =
    written_order came 0 (sent_by t came p) (always (λ (x : Sent). 0 ≤ x.end) (sent_by t came p) (λ x. omega arith)) (sent_pairs law t came p)

-- ---- so each span is kept

pub our_answers_are_kept : OutcomesIsolate → EndsDoNotFall → OurSpansAreKept → OurAnswersAreKept
our_answers_are_kept isolate ends spans t texts results least tolerance start until formed accepted run sooner span differ =
    spans t run.read (output_of t (merged run.read)) least tolerance start until formed accepted sooner span (come_in_order t texts run.read formed run.ports run.are_read)
    (leave_in_order ends t (merged run.read)) differ (λ p there. isolate t texts results formed accepted run p there)
