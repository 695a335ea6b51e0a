-- Why captures are not read, said of their ports.
use Rattle.std.proofs.Common.{◌≡◌, ◌<◌, ℕ, zero, suc, List, [], ◌∷◌, length, slice_get, Option, Some, refl, ◌∙◌, arith, inl, inr}
use Rattle.afdx_pcap.specs.declared.fault.PcapFault.{PcapFault}
use Rattle.afdx_pcap.specs.Record.{Record}
use Rattle.afdx_pcap.specs.Capture.{IsCapture}
use Rattle.afdx_pcap.specs.Fault.{IsFault}
use Rattle.afdx_table.specs.declared.rows.PortRow.{PortRow}
use Rattle.afdx_table.specs.Content.{Content}
use Rattle.afdx_merging.specs.declared.fault.MergeFault.{MergeFault}
use Rattle.afdx_merging.specs.declared.fault.MergeFault.TheVariants as merge
use Rattle.afdx_merging.specs.Read.{IsMergeFault}
use Rattle.afdx_session.specs.Reading.{IsFirstFault}
use Rattle.afdx_session.specs.Sources.{IsSourceFault}
use Rattle.afdx_trace_run.specs.Inner.Running.{number_at, source_fault, IsAmong}
use Rattle.afdx_trace_run.proofs.Merged.{texts_at, of_ports, texts_read}

-- the first text that is no capture is that of the port at its place
first_at : (ports : List PortRow) (texts : List (List ℕ)) (place : ℕ) (why : PcapFault) → length texts ≡ length ports → place < length texts
    → ((text : List ℕ) → slice_get texts place ≡ Some text → IsFault text why)
    → ((k : ℕ) (text : List ℕ) → k < place → slice_get texts k ≡ Some text → (rs : List Record) × IsCapture text rs)
    → IsFirstFault (texts_at ports texts) (number_at ports place) why
first_at ports [] place why long within here before = absurd (omega (arith, within))
first_at [] (text ∷ texts) place why long within here before = absurd (omega (arith, long))
first_at (p ∷ ports) (text ∷ texts) zero why long within here before = inl (refl, here text refl)
first_at (p ∷ ports) (text ∷ texts) (suc place) why long within here before =
    inr (
      before 0 text (omega arith) refl,
      first_at ports texts place why (omega (arith, long)) (omega (arith, within)) here (λ k t lt there. before (suc k) t (omega (arith, lt)) there),
    )

pub is_among : {R : Type 0} (remaining : R → Option (List ℕ)) (readers : List R) (ports : List PortRow) (fault : MergeFault) → length readers ≡ length ports → IsMergeFault remaining readers fault
    → IsAmong (length ports) fault
is_among remaining readers ports merge.Memory long is = tt
is_among remaining readers ports (merge.Read place) long is = tt
is_among remaining readers ports (merge.Capture place why) long is =
    let within = is.within in let many = is.read.many in omega (arith, within, many, long)

pub is_source_fault : {R : Type 0} (remaining : R → Option (List ℕ)) (t : Content) (readers : List R) (fault : MergeFault) → length readers ≡ length t.ports → IsMergeFault remaining readers fault
    → IsSourceFault remaining t readers (source_fault t.ports fault)
is_source_fault remaining t readers merge.Memory long is = tt
is_source_fault remaining t readers (merge.Read place) long is = is
is_source_fault remaining t readers (merge.Capture place why) long is =
    let many : length is.texts ≡ length t.ports = is.read.many ∙ long in
    record {
      texts = texts_at t.ports is.texts;
      ports = of_ports t.ports is.texts many;
      read = texts_read remaining t.ports readers is.texts many is.read;
      first = first_at t.ports is.texts place why many is.within is.here is.before;
    }
