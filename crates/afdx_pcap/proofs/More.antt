-- What more bytes at the end leave as it was.
use Rattle.std.proofs.Common.{◌≡◌, ℕ, ◌+◌, ◌≤◌, Bool, true, false, List, [], ◌∷◌, ◌++◌, length, take, drop, Option, Some, None, Result, Ok, Err, refl, sym, ap, ◌∙◌, arith, nat_lt, cond, inl, inr}
use Rattle.std.specs.Option.{option_or}
use Rattle.std.proofs.lemmas.Bool.{le-ltb, ltb-false, false≢true}
use Rattle.std.proofs.lemmas.List.{length-drop, length-append, take-append-le, drop-append-le}
use Rattle.byteorder.specs.Numbers.{big_from-append, little_from-append}
use Rattle.afdx_pcap.specs.declared.format.Endian.{Endian}
use Rattle.afdx_pcap.specs.declared.format.Endian.TheVariants.{Big, Little}
use Rattle.afdx_pcap.specs.declared.format.Format.{Format}
use Rattle.afdx_pcap.specs.declared.fault.PcapFault.{PcapFault}
use Rattle.afdx_pcap.specs.declared.fault.PcapFault.TheVariants.{NoHeader, CutHeader, CutData}
use Rattle.afdx_pcap.specs.Record.{Record}
use Rattle.afdx_pcap.specs.Number.{number, field}
use Rattle.afdx_pcap.specs.Capture.{format_of, checked_header, header_of, head_of, Begins, after, Splits, Holds}
use Rattle.afdx_pcap.specs.Reading.{AreReadUpTo}
use Rattle.afdx_pcap.specs.Fault.{head_fault, record_fault, IsFault, IsEarlyFault, is_cut, last_stamp}

number-more : (e : Endian) (n : ℕ) (xs ys : List ℕ) → n ≤ length xs → number e n (xs ++ ys) ≡ number e n xs
unfolding number
number-more Big n xs ys h = big_from-append n xs ys h
number-more Little n xs ys h = little_from-append n xs ys h

field-more : (e : Endian) (place n : ℕ) (xs ys : List ℕ) → place + n ≤ length xs → field e place n (xs ++ ys) ≡ field e place n xs
field-more e place n xs ys h =
    ap (number e n) (drop-append-le place xs ys (omega arith)) ∙ number-more e n (drop place xs) ys (omega (arith, length-drop place xs))

checked_header-more : (o : Option Format) (xs ys : List ℕ) → 24 ≤ length xs → checked_header o (xs ++ ys) ≡ checked_header o xs
checked_header-more None xs ys h = refl
checked_header-more (Some f) xs ys h =
    rw (field-more f.endian 4 2 xs ys (omega arith), field-more f.endian 6 2 xs ys (omega arith), field-more f.endian 20 4 xs ys (omega arith)) refl

pub header-more : (xs ys : List ℕ) → 24 ≤ length xs → header_of (xs ++ ys) ≡ header_of xs
unfolding header_of
header-more xs ys h =
    rw (le-ltb (length (xs ++ ys)) 24 (omega (arith, length-append xs ys)), le-ltb (length xs) 24 h, number-more Big 4 xs ys (omega arith))
    (checked_header-more (format_of (number Big 4 xs)) xs ys h)

pub head-more : (e : Endian) (xs ys : List ℕ) → 16 ≤ length xs → head_of e (xs ++ ys) ≡ head_of e xs
unfolding head_of
head-more e xs ys h =
    rw (field-more e 0 4 xs ys (omega arith), field-more e 4 4 xs ys (omega arith), field-more e 8 4 xs ys (omega arith), field-more e 12 4 xs ys (omega arith)) refl

pub Begins-more : (f : Format) (last : ℕ) (xs ys : List ℕ) (r : Record) → Begins f last xs r → Begins f last (xs ++ ys) r
Begins-more f last xs ys r b =
    let whole = b.whole in
    let h = head-more f.endian xs ys (omega arith) in
    let long : length r.bytes ≤ length (drop 16 xs) = omega (arith, length-drop 16 xs) in
    record {
      whole = omega (arith, length-append xs ys);
      captured = rw h b.captured;
      not_huge = b.not_huge;
      fraction = rw h b.fraction;
      not_late = rw h b.not_late;
      stamp = rw h b.stamp;
      in_order = b.in_order;
      original = rw h b.original;
      data_is = b.data_is ∙ sym (ap (take (length r.bytes)) (drop-append-le 16 xs ys (omega arith)) ∙ take-append-le (length r.bytes) (drop 16 xs) ys long);
    }

pub Splits-more : (f : Format) (last : ℕ) (xs ys : List ℕ) (rs : List Record) (rest : List ℕ) → Splits f last xs rs rest → Splits f last (xs ++ ys) rs (rest ++ ys)
Splits-more f last xs ys [] rest s = ap (λ (t : List ℕ). t ++ ys) s
Splits-more f last xs ys (r ∷ rs) rest s =
    let e : after r (xs ++ ys) ≡ after r xs ++ ys = drop-append-le (16 + length r.bytes) xs ys s.0.whole in
    (Begins-more f last xs ys r s.0, rw e (Splits-more f r.stamp (after r xs) ys rs rest s.1))

-- a fault that more bytes may mend is no other
pub not_cut : (d e : PcapFault) → is_cut d ≡ true → is_cut e ≡ false → d ≡ e → ⊥
not_cut d e cut kept same = false≢true (sym kept ∙ ap is_cut (sym same) ∙ cut)

-- a fault that stays is not that of a cut header
whole_head : (short : Bool) (n : ℕ) (o : Option PcapFault) (e : PcapFault) → is_cut e ≡ false → cond short (Some (CutHeader n)) o ≡ Some e → (short ≡ false) × (o ≡ Some e)
whole_head true n o e kept h = let k : CutHeader n ≡ e = cc in absurd (not_cut (CutHeader n) e refl kept k)
whole_head false n o e kept h = (refl, h)

-- and it comes before that of cut data
of_head : (o : Option PcapFault) (n : ℕ) (a b : Bool) (e : PcapFault) → is_cut e ≡ false → option_or o (cond a (Some (CutData n)) None) ≡ Some e → option_or o (cond b (Some (CutData n)) None) ≡ Some e
of_head (Some d) n a b e kept h = h
of_head None n true b e kept h = let k : CutData n ≡ e = cc in absurd (not_cut (CutData n) e refl kept k)
of_head None n false b e kept h = absurd cc

record_fault-more : (f : Format) (last n : ℕ) (xs ys : List ℕ) (e : PcapFault) → is_cut e ≡ false → record_fault f last n xs ≡ Some e → record_fault f last n (xs ++ ys) ≡ Some e
unfolding record_fault
record_fault-more f last n xs ys e kept first =
    let p = whole_head (nat_lt (length xs) 16) n _ e kept first in
    let long : 16 ≤ length xs = ltb-false _ _ p.0 in
    rw (le-ltb (length (xs ++ ys)) 16 (omega (arith, length-append xs ys)), head-more f.endian xs ys long)
    (of_head (head_fault f.resolution last n (head_of f.endian xs)) n (nat_lt (length xs) (16 + (head_of f.endian xs).captured)) (nat_lt (length (xs ++ ys)) (16 + (head_of f.endian xs).captured)) e
    kept p.1)

abbrev header_error : PcapFault → Result Format PcapFault
header_error e = Err e

long_unless : (short : Bool) (r q : Result Format PcapFault) → cond short (Err NoHeader) r ≡ q → (q ≡ Err NoHeader → ⊥) → short ≡ false
long_unless true r q h other = absurd (other (sym h))
long_unless false r q h other = refl

pub long_header : (bytes : List ℕ) (q : Result Format PcapFault) → header_of bytes ≡ q → (q ≡ Err NoHeader → ⊥) → 24 ≤ length bytes
unfolding header_of
long_header bytes q h other = ltb-false _ _ (long_unless (nat_lt (length bytes) 24) _ q h other)

-- a header that has a format is long
pub format_long : (bytes : List ℕ) (f : Format) → header_of bytes ≡ Ok f → 24 ≤ length bytes
format_long bytes f h = long_header bytes (Ok f) h (λ same. absurd cc)

pub read_up_to-more : (f : Format) (bytes more rest : List ℕ) (rs : List Record) → AreReadUpTo f bytes rs rest → AreReadUpTo f (bytes ++ more) rs (rest ++ more)
read_up_to-more f bytes more rest rs read =
    let long = format_long bytes f read.0 in
    (header-more bytes more long ∙ read.0, rw (drop-append-le 24 bytes more long) (Splits-more f 0 (drop 24 bytes) more rs rest read.1))

kept_header : (e : PcapFault) → is_cut e ≡ false → header_error e ≡ header_error NoHeader → ⊥
kept_header e kept h = let k : NoHeader ≡ e = cc in not_cut NoHeader e refl kept k

pub Holds-more : (bytes more rest : List ℕ) (rs : List Record) → Holds bytes rs rest → Holds (bytes ++ more) rs (rest ++ more)
Holds-more bytes more rest rs held =
    let long = format_long bytes held.format held.header in
    record {
      format = held.format;
      header = header-more bytes more long ∙ held.header;
      records = rw (drop-append-le 24 bytes more long) (Splits-more held.format 0 (drop 24 bytes) more rs rest held.records);
    }

pub IsEarlyFault-more : (bytes more : List ℕ) (e : PcapFault) → IsEarlyFault bytes e → IsEarlyFault (bytes ++ more) e
IsEarlyFault-more bytes more e (inl h, kept) = (inl (header-more bytes more (long_header bytes (Err e) h (kept_header e kept)) ∙ h), kept)
IsEarlyFault-more bytes more e (inr (f, h, b), kept) =
    let long = format_long bytes f h in
    let fault : IsFault (bytes ++ more) e = inr (
      f,
      header-more bytes more long ∙ h,
      record {
        records = b.records;
        rest = b.rest ++ more;
        before = rw (drop-append-le 24 bytes more long) (Splits-more f 0 (drop 24 bytes) more b.records b.rest b.before);
        more = let m = b.more in omega (arith, length-append b.rest more, m);
        first = record_fault-more f (last_stamp 0 b.records) (length b.records + 1) b.rest more e kept b.first;
      },
    ) in (fault, kept)
