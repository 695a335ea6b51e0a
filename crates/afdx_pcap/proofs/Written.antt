-- The written text is read again.
use Rattle.std.proofs.Common.{◌≡◌, ℕ, ◌+◌, ◌/◌, ◌%◌, ◌<◌, ◌≤◌, ◌^◌, List, [], ◌∷◌, ◌++◌, length, take, drop, refl, sym, ap, ◌∙◌, arith, Ok, append_assoc, get_or, subst}
use Rattle.std.specs.List.{flat_map}
use Rattle.std.proofs.lemmas.List.{take_at, drop_at, length-append, take_all, take_more, flat_map_more}
use Rattle.std.proofs.lemmas.List.Concat.{flat_map-cons}
use Rattle.std.proofs.lemmas.List.Elements.{All-head, All-tail, All-push}
use Rattle.std.specs.List.{All}
use Rattle.std.proofs.lemmas.Bool.{le-ltb}
use Rattle.byteorder.specs.Numbers.{little_number-reads_back}
use Rattle.afdx_units.specs.Time.{second, last_second, stamp_end}
use Rattle.afdx_pcap.specs.declared.format.Endian.TheVariants.{Little}
use Rattle.afdx_pcap.specs.declared.format.Resolution.TheVariants.{Nanos}
use Rattle.afdx_pcap.specs.declared.format.Format.{Format}
use Rattle.afdx_pcap.specs.declared.format.Head.{Head}
use Rattle.afdx_pcap.specs.Record.{Record, captured_limit, IsWithinLimit}
use Rattle.afdx_pcap.specs.Number.{number}
use Rattle.afdx_pcap.specs.Capture.{header_of, head_of, Begins, after, Splits, IsCapture}
use Rattle.afdx_pcap.specs.Text.{header_text, word, head_text, record_text, capture_text, AreReadable}

abbrev pub written : Format
written = record { endian = Little; resolution = Nanos }

pub header_is : (x : List ℕ) → header_of (header_text ++ x) ≡ Ok written
unfolding header_of number
header_is x =
    let long = le-ltb (length (header_text ++ x)) 24 (omega arith) in
    rw long refl

abbrev head : ℕ → ℕ → ℕ → ℕ → Head
head a b c d = record { seconds = a; fraction = b; captured = c; original = d }

same_heads : (a b c d k l m n : ℕ) → a ≡ k → b ≡ l → c ≡ m → d ≡ n → head a b c d ≡ head k l m n
same_heads a b c d k l m n ea eb ec ed = cc

head_again : (a b c d : ℕ) (x : List ℕ) → a < 2 ^ 32 → b < 2 ^ 32 → c < 2 ^ 32 → d < 2 ^ 32
    → head_of Little ((word a ++ word b ++ word c ++ word d) ++ x) ≡ head a b c d
unfolding head_of number
head_again a b c d x la lb lc ld =
    same_heads _ _ _ _ a b c d
    (little_number-reads_back 4 a (word b ++ (word c ++ (word d ++ x))) la)
    (little_number-reads_back 4 b (word c ++ (word d ++ x)) lb)
    (little_number-reads_back 4 c (word d ++ x) lc)
    (little_number-reads_back 4 d x ld)

pub head_is : (r : Record) (x : List ℕ) → r.stamp < stamp_end → length r.bytes ≤ captured_limit
    → head_of Little (record_text r ++ x) ≡ head (r.stamp / second) (r.stamp % second) (length r.bytes) (length r.bytes)
unfolding head_text
head_is r x instant limit =
    ap (head_of Little) (append_assoc (head_text r) r.bytes x)
    ∙ head_again (r.stamp / second) (r.stamp % second) (length r.bytes) (length r.bytes) (r.bytes ++ x) (omega arith) (omega arith) (omega arith) (omega arith)

head_long : (r : Record) → length (head_text r) ≡ 16
unfolding head_text
head_long r = refl

pub text_long : (r : Record) → length (record_text r) ≡ 16 + length r.bytes
text_long r = length-append (head_text r) r.bytes ∙ ap (λ (n : ℕ). n + length r.bytes) (head_long r)

pub after_is : (r : Record) (x : List ℕ) → after r (record_text r ++ x) ≡ x
after_is r x = drop_at (record_text r) x (16 + length r.bytes) (text_long r)

pub begins : (last : ℕ) (r : Record) (x : List ℕ) → last ≤ r.stamp → r.stamp < last_second → r.original ≡ length r.bytes → length r.bytes ≤ captured_limit
    → Begins written last (record_text r ++ x) r
begins last r x in_order early original limit =
    let h = head_is r x (omega (arith, early)) limit in
    let len = text_long r in
    let kept : take (length r.bytes) (drop 16 (record_text r ++ x)) ≡ r.bytes =
    ap (λ (t : List ℕ). take (length r.bytes) (drop 16 t)) (append_assoc (head_text r) r.bytes x)
    ∙ ap (take (length r.bytes)) (drop_at (head_text r) (r.bytes ++ x) 16 (head_long r))
    ∙ take_at r.bytes x (length r.bytes) refl in
    record {
      whole = omega (arith, length-append (record_text r) x, len);
      captured = rw h refl;
      not_huge = limit;
      fraction = rw h (omega arith);
      not_late = rw h (omega arith);
      stamp = rw h (omega arith);
      in_order = in_order;
      original = rw h original;
      data_is = sym kept;
    }

records_are : (last : ℕ) (rs : List Record) → AreReadable last rs → All IsWithinLimit rs → Splits written last (flat_map record_text rs) rs []
records_are last [] readable limits = refl
records_are last (r ∷ rs) readable limits =
    let x = flat_map record_text rs in
    rw flat_map-cons
    (begins last r x readable.0 readable.1 readable.2 (All-head IsWithinLimit r rs limits), rw (after_is r x) (records_are r.stamp rs readable.3 (All-tail IsWithinLimit r rs limits)))

pub text_is_capture : (rs : List Record) → AreReadable 0 rs → All IsWithinLimit rs → IsCapture (capture_text rs) rs
text_is_capture rs readable limits = record { format = written; header = header_is (flat_map record_text rs); records = records_are 0 rs readable limits }

-- the whole text of records within the limit
pub written_all : (rs : List Record) (i : ℕ) (out : List ℕ) → length rs ≤ i → out ≡ capture_text (take i rs) → All IsWithinLimit (take i rs) → AreReadable 0 rs → IsCapture out rs
written_all rs i out end out-is limits readable =
    let all = take_all i rs end in
    subst (λ (t : List ℕ). IsCapture t rs) (sym (out-is ∙ ap capture_text all)) (text_is_capture rs readable (subst (All IsWithinLimit) all limits))

-- ---- one record more

prefix_more : (rs : List Record) (i : ℕ) (r : Record) → i < length rs → r ≡ get_or rs i r → take (i + 1) rs ≡ take i rs ++ r ∷ []
prefix_more rs i r below is = take_more rs i r below ∙ ap (λ (q : Record). take i rs ++ q ∷ []) (sym is)

-- the text of one more record
pub capture_text-push : (rs : List Record) (r : Record) → capture_text (rs ++ r ∷ []) ≡ capture_text rs ++ record_text r
capture_text-push rs r = sym (flat_map_more record_text header_text rs r)

text_more : (rs : List Record) (i : ℕ) (r : Record) → i < length rs → r ≡ get_or rs i r → capture_text (take (i + 1) rs) ≡ capture_text (take i rs) ++ record_text r
text_more rs i r below is = ap capture_text (prefix_more rs i r below is) ∙ capture_text-push (take i rs) r

pub written_more : (rs : List Record) (i : ℕ) (r : Record) (out longer : List ℕ) → i < length rs → r ≡ get_or rs i r → out ≡ capture_text (take i rs) → longer ≡ out ++ record_text r → longer
    ≡ capture_text (take (i + 1) rs)
written_more rs i r out longer below is out-is longer-is = longer-is ∙ ap (λ (t : List ℕ). t ++ record_text r) out-is ∙ sym (text_more rs i r below is)

pub length_more : (rs : List Record) (i : ℕ) (r : Record) → i < length rs → r ≡ get_or rs i r → length (capture_text (take (i + 1) rs)) ≡ length (capture_text (take i rs)) + (16 + length r.bytes)
length_more rs i r below is = ap length (text_more rs i r below is) ∙ length-append (capture_text (take i rs)) (record_text r) ∙ ap (λ (n : ℕ). length (capture_text (take i rs)) + n) (text_long r)

pub limits_more : (rs : List Record) (i : ℕ) (r : Record) → i < length rs → r ≡ get_or rs i r → All IsWithinLimit (take i rs) → IsWithinLimit r → All IsWithinLimit (take (i + 1) rs)
limits_more rs i r below is limits limit = subst (All IsWithinLimit) (sym (prefix_more rs i r below is)) (All-push IsWithinLimit (take i rs) r limits limit)
