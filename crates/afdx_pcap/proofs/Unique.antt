-- Each file has one reading.
use Rattle.std.proofs.Common.{◌≡◌, ℕ, zero, suc, ◌+◌, ◌<◌, ◌≤◌, Bool, true, false, List, [], ◌∷◌, ◌++◌, length, take, drop, Option, Some, None, Result, Ok, Err, refl, sym, ap, subst, ◌∙◌, arith}
use Rattle.std.proofs.Common.{nat_lt, nat_le, cond, inl, inr, ◌⊎◌, zero-add}
use Rattle.std.specs.Option.{option_or}
use Rattle.std.proofs.lemmas.Bool.{le-ltb, lt-leb, ltb-false, leb-false}
use Rattle.std.proofs.lemmas.List.{length-drop, length-take}
use Rattle.afdx_pcap.specs.declared.format.Format.{Format}
use Rattle.afdx_pcap.specs.declared.fault.PcapFault.{PcapFault}
use Rattle.afdx_pcap.specs.Record.{Record}
use Rattle.afdx_pcap.specs.Capture.{header_of, head_of, stamp_of, parts_of_second, Begins, after, Splits, Holds, IsCapture}
use Rattle.afdx_pcap.specs.Reading.{IsNext}
use Rattle.afdx_pcap.specs.Fault.{head_fault, data_fault, record_fault, IsFault, Breaks, last_stamp}

-- ---- a record

same_record : (r q : Record) → r.stamp ≡ q.stamp → r.original ≡ q.original → r.bytes ≡ q.bytes → r ≡ q
same_record r q a b c =
    let made : ℕ → ℕ → List ℕ → Record = λ s o t. record { stamp = s; original = o; bytes = t } in
    ap (λ (s : ℕ). made s r.original r.bytes) a ∙ ap (λ (o : ℕ). made q.stamp o r.bytes) b ∙ ap (made q.stamp q.original) c

pub one_record : (f : Format) (k l : ℕ) (bytes : List ℕ) (r q : Record) → Begins f k bytes r → Begins f l bytes q → r ≡ q
one_record f k l bytes r q a b =
    let len : length r.bytes ≡ length q.bytes = sym a.captured ∙ b.captured in
    same_record r q (a.stamp ∙ sym b.stamp) (a.original ∙ sym b.original)
    (a.data_is ∙ ap (λ (n : ℕ). take n (drop 16 bytes)) len ∙ sym b.data_is)

-- a whole record has no fault
pub begins_fine : (f : Format) (last n : ℕ) (bytes : List ℕ) (r : Record) → Begins f last bytes r → record_fault f last n bytes ≡ None
unfolding record_fault
begins_fine f last n bytes r b =
    let whole = b.whole in
    let captured = b.captured in
    let not_huge = b.not_huge in
    let fraction = b.fraction in
    let not_late = b.not_late in
    let stamp = b.stamp in
    let in_order = b.in_order in
    let h = head_of f.endian bytes in
    let e0 : nat_lt (length bytes) 16 ≡ false = le-ltb _ _ (omega arith) in
    let e1 : nat_lt 262144 h.captured ≡ false = le-ltb _ _ (omega arith) in
    let e2 : nat_le (parts_of_second f.resolution) h.fraction ≡ false = lt-leb _ _ fraction in
    let e3 : nat_lt 4294967294 h.seconds ≡ false = le-ltb _ _ not_late in
    let e4 : nat_lt (stamp_of f.resolution h) last ≡ false = le-ltb _ _ (omega arith) in
    let e5 : nat_lt (length bytes) (16 + h.captured) ≡ false = le-ltb _ _ (omega arith) in
    rw (e0, e1, e2, e3, e4, e5) refl

-- a test that found no fault
passed : (b : Bool) (e : PcapFault) (other : Option PcapFault) → cond b (Some e) other ≡ None → (b ≡ false) × (other ≡ None)
passed true e other h = absurd cc
passed false e other h = (refl, h)

both_passed : (a b : Option PcapFault) → option_or a b ≡ None → (a ≡ None) × (b ≡ None)
both_passed (Some e) b h = absurd cc
both_passed None b h = (refl, h)

abbrev pub prefix : Format → List ℕ → Record
prefix f bytes = let h = head_of f.endian bytes in record { stamp = stamp_of f.resolution h; original = h.original; bytes = take h.captured (drop 16 bytes) }

-- where the head and what is left have no fault, there is a whole record
pub behind_begins : (f : Format) (last n : ℕ) (bytes : List ℕ)
    → option_or (head_fault f.resolution last n (head_of f.endian bytes)) (data_fault n (head_of f.endian bytes) (length bytes)) ≡ None → Begins f last bytes (prefix f bytes)
behind_begins f last n bytes none =
    let h = head_of f.endian bytes in
    let p = both_passed (head_fault f.resolution last n h) (data_fault n h (length bytes)) none in
    let p1 = passed (nat_lt 262144 h.captured) _ _ p.0 in
    let p2 = passed (nat_le (parts_of_second f.resolution) h.fraction) _ _ p1.1 in
    let p3 = passed (nat_lt 4294967294 h.seconds) _ _ p2.1 in
    let p4 = passed (nat_lt (stamp_of f.resolution h) last) _ _ p3.1 in
    let p5 = passed (nat_lt (length bytes) (16 + h.captured)) _ _ p.1 in
    let long : 16 + h.captured ≤ length bytes = ltb-false _ _ p5.0 in
    let len : length (take h.captured (drop 16 bytes)) ≡ h.captured = omega (arith, length-take h.captured (drop 16 bytes), length-drop 16 bytes) in
    let limit : h.captured ≤ 262144 = ltb-false _ _ p1.0 in
    record {
      whole = rw len long;
      captured = sym len;
      not_huge = rw len limit;
      fraction = leb-false _ _ p2.0;
      not_late = ltb-false _ _ p3.0;
      stamp = refl;
      in_order = ltb-false _ _ p4.0;
      original = refl;
      data_is = rw len refl;
    }

-- where there is no fault, there is a whole record
pub fine_begins : (f : Format) (last n : ℕ) (bytes : List ℕ) → record_fault f last n bytes ≡ None → Begins f last bytes (prefix f bytes)
unfolding record_fault
fine_begins f last n bytes none = behind_begins f last n bytes (passed (nat_lt (length bytes) 16) _ _ none).1

-- ---- records

-- no record is in nothing
pub not_in_nothing : (f : Format) (last : ℕ) (bytes : List ℕ) (r : Record) → bytes ≡ [] → Begins f last bytes r → ⊥
not_in_nothing f last bytes r e b = let whole = b.whole in let none = ap length e in omega (arith, whole, none)

-- the same records after the same first one
pub same_tail : (f : Format) (bytes : List ℕ) (r q : Record) (qs : List Record) (rest : List ℕ) → r ≡ q → Splits f q.stamp (after q bytes) qs rest → Splits f r.stamp (after r bytes) qs rest
same_tail f bytes r q qs rest e s = subst (λ (x : Record). Splits f x.stamp (after x bytes) qs rest) (sym e) s

one_list : (f : Format) (last : ℕ) (bytes : List ℕ) (rs qs : List Record) → Splits f last bytes rs [] → Splits f last bytes qs [] → rs ≡ qs
one_list f last bytes [] [] a b = refl
one_list f last bytes [] (q ∷ qs) a b = absurd (not_in_nothing f last bytes q a b.0)
one_list f last bytes (r ∷ rs) [] a b = absurd (not_in_nothing f last bytes r b a.0)
one_list f last bytes (r ∷ rs) (q ∷ qs) a b =
    let same = one_record f last last bytes r q a.0 b.0 in
    let others = one_list f r.stamp (after r bytes) rs qs a.1 (same_tail f bytes r q qs [] same b.1) in
    cc

-- a list of records up to the end, or a fault after some
not_both : (f : Format) (last n : ℕ) (bytes rest : List ℕ) (rs qs : List Record) (e : PcapFault) → Splits f last bytes rs [] → Splits f last bytes qs rest
    → 0 < length rest → record_fault f (last_stamp last qs) n rest ≡ Some e → ⊥
not_both f last n bytes rest [] [] e a b more first = let none = ap length (sym b ∙ a) in omega (arith, more, none)
not_both f last n bytes rest [] (q ∷ qs) e a b more first = not_in_nothing f last bytes q a b.0
not_both f last n bytes rest (r ∷ rs) [] e a b more first =
    let whole : Begins f last rest r = subst (λ (x : List ℕ). Begins f last x r) b a.0 in
    let none = begins_fine f last n rest r whole in
    cc
not_both f last n bytes rest (r ∷ rs) (q ∷ qs) e a b more first =
    let same = one_record f last last bytes r q a.0 b.0 in
    not_both f r.stamp n (after r bytes) rest rs qs e a.1 (same_tail f bytes r q qs rest same b.1) more
    (subst (λ (x : Record). record_fault f (last_stamp x.stamp qs) n rest ≡ Some e) (sym same) first)

pub one_fault : (f : Format) (last n : ℕ) (bytes : List ℕ) (rs qs : List Record) (rest others : List ℕ) (d e : PcapFault) → Splits f last bytes rs rest → Splits f last bytes qs others
    → record_fault f (last_stamp last rs) (length rs + n) rest ≡ Some d → record_fault f (last_stamp last qs) (length qs + n) others ≡ Some e → d ≡ e
one_fault f last n bytes [] [] rest others d e a b x y =
    let same : rest ≡ others = sym a ∙ b in
    cc
one_fault f last n bytes [] (q ∷ qs) rest others d e a b x y =
    let none = begins_fine f last (0 + n) rest q (subst (λ (t : List ℕ). Begins f last t q) a b.0) in
    absurd cc
one_fault f last n bytes (r ∷ rs) [] rest others d e a b x y =
    let none = begins_fine f last (0 + n) others r (subst (λ (t : List ℕ). Begins f last t r) b a.0) in
    absurd cc
one_fault f last n bytes (r ∷ rs) (q ∷ qs) rest others d e a b x y =
    let same = one_record f last last bytes r q a.0 b.0 in
    let k : suc (length rs) + n ≡ length rs + (n + 1) = omega arith in
    let l : suc (length qs) + n ≡ length qs + (n + 1) = omega arith in
    one_fault f r.stamp (n + 1) (after r bytes) rs qs rest others d e a.1 (same_tail f bytes r q qs others same b.1)
    (subst (λ (m : ℕ). record_fault f (last_stamp r.stamp rs) m rest ≡ Some d) k x)
    (subst (λ (p : Record). record_fault f (last_stamp p.stamp qs) (length qs + (n + 1)) others ≡ Some e) (sym same) (subst (λ (m : ℕ). record_fault f (last_stamp q.stamp qs) m others ≡ Some e) l y))

-- the records up to the end, or those before a fault
abbrev pub Reading : Format → ℕ → ℕ → List ℕ → Type 0
Reading f last n bytes = ((rs : List Record) × Splits f last bytes rs [])
    ⊎ ((rs : List Record) × (rest : List ℕ) × (e : PcapFault) × Splits f last bytes rs rest × (0 < length rest) × (record_fault f (last_stamp last rs) (length rs + n) rest ≡ Some e))

-- one more record before
in_prefix : (f : Format) (last n : ℕ) (bytes : List ℕ) (r : Record) → Begins f last bytes r → Reading f r.stamp (n + 1) (after r bytes) → Reading f last n bytes
in_prefix f last n bytes r b (inl found) = inl (r ∷ found.0, (b, found.1))
in_prefix f last n bytes r b (inr found) =
    let k : length found.0 + (n + 1) ≡ suc (length found.0) + n = omega arith in
    inr (r ∷ found.0, found.1, found.2, (b, found.3), found.4, subst (λ (m : ℕ). record_fault f (last_stamp r.stamp found.0) m found.1 ≡ Some found.2) k found.5)

from_fault : (f : Format) (last n fuel : ℕ) (bytes : List ℕ) → ((last n : ℕ) (bytes : List ℕ) → length bytes ≤ fuel → Reading f last n bytes) → length bytes ≤ suc fuel → 0 < length bytes
    → (o : Option PcapFault) → record_fault f last n bytes ≡ o → Reading f last n bytes
from_fault f last n fuel bytes shorter le more (Some e) is = inr ([], bytes, e, refl, more, subst (λ (m : ℕ). record_fault f last m bytes ≡ Some e) (sym (zero-add n)) is)
from_fault f last n fuel bytes shorter le more None is =
    let r = prefix f bytes in
    in_prefix f last n bytes r (fine_begins f last n bytes is) (shorter r.stamp (n + 1) (after r bytes) (omega (arith, length-drop (16 + length r.bytes) bytes)))

-- every list of bytes has a reading; fuel bounds its length
some_reading : (f : Format) (fuel last n : ℕ) (bytes : List ℕ) → length bytes ≤ fuel → Reading f last n bytes
some_reading f fuel last n [] le = inl ([], refl)
some_reading f zero last n (b ∷ bytes) le = absurd (omega arith)
some_reading f (suc fuel) last n (b ∷ bytes) le =
    from_fault f last n fuel (b ∷ bytes) (some_reading f fuel) le (omega arith) (record_fault f last n (b ∷ bytes)) refl

-- ---- files

-- two answers of a header are one
pub one_format : (r : Result Format PcapFault) (f g : Format) → r ≡ Ok f → r ≡ Ok g → f ≡ g
one_format r f g a b = cc

pub one_capture : (bytes : List ℕ) (rs qs : List Record) → IsCapture bytes rs → IsCapture bytes qs → rs ≡ qs
one_capture bytes rs qs a b =
    let same = one_format (header_of bytes) a.format b.format a.header b.header in
    one_list a.format 0 (drop 24 bytes) rs qs a.records (subst (λ (f : Format). Splits f 0 (drop 24 bytes) qs []) (sym same) b.records)

pub capture_or_fault : (bytes : List ℕ) (rs : List Record) (e : PcapFault) → IsCapture bytes rs → IsFault bytes e → ⊥
capture_or_fault bytes rs e a (inl h) = let k = a.header in cc
capture_or_fault bytes rs e a (inr b) =
    let same = one_format (header_of bytes) a.format b.0 a.header b.1 in
    not_both b.0 0 (length b.2.records + 1) (drop 24 bytes) b.2.rest rs b.2.records e (subst (λ (f : Format). Splits f 0 (drop 24 bytes) rs []) same a.records) b.2.before b.2.more b.2.first

pub one_file_fault : (bytes : List ℕ) (d e : PcapFault) → IsFault bytes d → IsFault bytes e → d ≡ e
one_file_fault bytes d e (inl h) (inl k) = cc
one_file_fault bytes d e (inl h) (inr b) = let k = b.1 in absurd cc
one_file_fault bytes d e (inr a) (inl k) = let h = a.1 in absurd cc
one_file_fault bytes d e (inr a) (inr b) =
    let same = one_format (header_of bytes) b.0 a.0 b.1 a.1 in
    let other = subst (λ (f : Format). Breaks f (drop 24 bytes) e) same b.2 in
    one_fault a.0 0 1 (drop 24 bytes) a.2.records other.records a.2.rest other.rest d e a.2.before other.before a.2.first other.first

abbrev Verdict : List ℕ → Type 0
Verdict bytes = ((rs : List Record) × IsCapture bytes rs) ⊎ ((e : PcapFault) × IsFault bytes e)

from_reading : (bytes : List ℕ) (f : Format) → header_of bytes ≡ Ok f → Reading f 0 1 (drop 24 bytes) → Verdict bytes
from_reading bytes f h (inl found) = inl (found.0, record { format = f; header = h; records = found.1 })
from_reading bytes f h (inr found) = inr (found.2, inr (f, h, record { records = found.0; rest = found.1; before = found.3; more = found.4; first = found.5 }))

from_header : (bytes : List ℕ) (r : Result Format PcapFault) → header_of bytes ≡ r → Verdict bytes
from_header bytes (Ok f) h = from_reading bytes f h (some_reading f (length (drop 24 bytes)) 0 1 (drop 24 bytes) (omega arith))
from_header bytes (Err e) h = inr (e, inl h)

pub some_verdict : (bytes : List ℕ) → ((rs : List Record) × IsCapture bytes rs) ⊎ ((e : PcapFault) × IsFault bytes e)
some_verdict bytes = from_header bytes (header_of bytes) refl

-- ---- so many records

same_prefix : (f : Format) (last : ℕ) (bytes rest others : List ℕ) (rs qs : List Record) → Splits f last bytes rs rest → Splits f last bytes qs others → length rs ≡ length qs → rs ≡ qs
same_prefix f last bytes rest others [] [] a b same = refl
same_prefix f last bytes rest others [] (q ∷ qs) a b same = absurd (omega arith)
same_prefix f last bytes rest others (r ∷ rs) [] a b same = absurd (omega arith)
same_prefix f last bytes rest others (r ∷ rs) (q ∷ qs) a b same =
    let one = one_record f last last bytes r q a.0 b.0 in
    let others-too = same_prefix f r.stamp (after r bytes) rest others rs qs a.1 (same_tail f bytes r q qs others one b.1) (omega arith) in
    cc

pub one_prefix : (bytes rest others : List ℕ) (rs qs : List Record) → Holds bytes rs rest → Holds bytes qs others → length rs ≡ length qs → rs ≡ qs
one_prefix bytes rest others rs qs a b same =
    let formats = one_format (header_of bytes) a.format b.format a.header b.header in
    same_prefix a.format 0 (drop 24 bytes) rest others rs qs a.records (subst (λ (f : Format). Splits f 0 (drop 24 bytes) qs others) (sym formats) b.records) same

-- what is left after the records but the last
prefix_but_last : (f : Format) (last : ℕ) (bytes rest : List ℕ) (rs : List Record) (r : Record) → Splits f last bytes (rs ++ r ∷ []) rest → (between : List ℕ) × Splits f last bytes rs between
prefix_but_last f last bytes rest [] r s = (bytes, refl)
prefix_but_last f last bytes rest (q ∷ qs) r s = let shorter = prefix_but_last f q.stamp (after q bytes) rest qs r s.1 in (shorter.0, (s.0, shorter.1))

-- the record after so many is the one after these
pub next_after : (bytes rest : List ℕ) (rs : List Record) (r : Record) → Holds bytes rs rest → IsNext bytes (length rs) r → (left : List ℕ) × Holds bytes (rs ++ r ∷ []) left
next_after bytes rest rs r held next =
    let found = next.2 in
    let shorter = prefix_but_last found.format 0 (drop 24 bytes) next.1 next.0 r found.records in
    let before : Holds bytes next.0 shorter.0 = record { format = found.format; header = found.header; records = shorter.1 } in
    let same = one_prefix bytes shorter.0 rest next.0 rs before held next.3 in
    (next.1, subst (λ (qs : List Record). Holds bytes (qs ++ r ∷ []) next.1) same found)
