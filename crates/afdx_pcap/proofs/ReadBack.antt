-- What is read of a written text is what was written.
use Rattle.std.proofs.Common.{◌≡◌, ℕ, ◌/◌, ◌<◌, ◌≤◌, List, [], ◌∷◌, ◌++◌, length, refl, sym, ap, subst, ◌∙◌, arith}
use Rattle.std.specs.List.{flat_map, All}
use Rattle.std.proofs.lemmas.List.{length-append}
use Rattle.std.proofs.lemmas.List.Concat.{flat_map-cons}
use Rattle.std.proofs.lemmas.List.Elements.{All-head, All-tail}
use Rattle.afdx_units.specs.Time.{second, last_second, IsInstant}
use Rattle.afdx_pcap.specs.declared.format.Head.{Head}
use Rattle.afdx_pcap.specs.declared.format.Format.{Format}
use Rattle.afdx_pcap.specs.Record.{Record, IsWithinLimit}
use Rattle.afdx_pcap.specs.Capture.{header_of, greatest_seconds, Begins, after, Splits, IsCapture}
use Rattle.afdx_pcap.specs.Text.{record_text, capture_text}
use Rattle.afdx_pcap.proofs.Written.{written, header_is, head_is, text_long, after_is, begins}
use Rattle.afdx_pcap.proofs.Unique.{one_record, one_format, not_in_nothing, same_tail}

-- a record that is read is not late, so the one that was written begins there too
same_record : (last : ℕ) (r q : Record) (x : List ℕ) → IsWithinLimit r → IsInstant r.stamp → r.original ≡ length r.bytes → Begins written last (record_text r ++ x) q → q ≡ r
same_record last r q x limit instant original read =
    let seconds : r.stamp / second ≤ greatest_seconds = subst (λ (h : Head). h.seconds ≤ greatest_seconds) (head_is r x instant limit) read.not_late in
    let early : r.stamp < last_second = omega (arith, seconds) in
    one_record written last 0 (record_text r ++ x) q r read (begins 0 r x (omega arith) early original limit)

not_nothing : (r : Record) (x : List ℕ) → record_text r ++ x ≡ [] → ⊥
not_nothing r x none = let lengths = ap length none in omega (arith, lengths, length-append (record_text r) x, text_long r)

same_records : (last : ℕ) (rs qs : List Record) → All IsWithinLimit rs → All (λ r. IsInstant r.stamp) rs → All (λ r. r.original ≡ length r.bytes) rs
    → Splits written last (flat_map record_text rs) qs [] → qs ≡ rs
same_records last [] [] limits instants originals read = refl
same_records last [] (q ∷ qs) limits instants originals read = absurd (not_in_nothing written last [] q refl read.0)
same_records last (r ∷ rs) [] limits instants originals read = absurd (not_nothing r (flat_map record_text rs) (sym (flat_map-cons record_text r rs) ∙ read))
same_records last (r ∷ rs) (q ∷ qs) limits instants originals read =
    let x = flat_map record_text rs in
    let text : flat_map record_text (r ∷ rs) ≡ record_text r ++ x = flat_map-cons record_text r rs in
    let limit : IsWithinLimit r = All-head IsWithinLimit r rs limits in
    let instant : IsInstant r.stamp = All-head (λ (e : Record). IsInstant e.stamp) r rs instants in
    let original : r.original ≡ length r.bytes = All-head (λ (e : Record). e.original ≡ length e.bytes) r rs originals in
    let same : q ≡ r = same_record last r q x limit instant original (subst (λ (t : List ℕ). Begins written last t q) text read.0) in
    let further : Splits written r.stamp x qs [] = subst (λ (t : List ℕ). Splits written r.stamp t qs []) (ap (after r) text ∙ after_is r x)
    (same_tail written (flat_map record_text (r ∷ rs)) r q qs [] (sym same) read.1) in
    let others : qs ≡ rs = same_records r.stamp rs qs (All-tail IsWithinLimit r rs limits) (All-tail (λ (e : Record). IsInstant e.stamp) r rs instants)
    (All-tail (λ (e : Record). e.original ≡ length e.bytes) r rs originals) further in
    cc

pub written_texts_read_back : (rs qs : List Record) → All IsWithinLimit rs → All (λ r. IsInstant r.stamp) rs → All (λ r. r.original ≡ length r.bytes) rs
    → IsCapture (capture_text rs) qs → qs ≡ rs
written_texts_read_back rs qs limits instants originals read =
    let same : read.format ≡ written = one_format (header_of (capture_text rs)) read.format written read.header (header_is (flat_map record_text rs)) in
    same_records 0 rs qs limits instants originals (subst (λ (f : Format). Splits f 0 (flat_map record_text rs) qs []) same read.records)
