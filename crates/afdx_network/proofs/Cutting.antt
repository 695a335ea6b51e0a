-- The whole records at the start of some bytes are the capture of a shorter text.
use Rattle.std.proofs.Common.{◌≡◌, ℕ, zero, suc, ◌+◌, ◌≤◌, Bool, true, false, List, [], ◌∷◌, ◌++◌, length, take, drop, Option, Some, None, Ok, Err, refl, sym, ap, ◌∙◌, arith, nat_lt, cond, subst}
use Rattle.std.proofs.Common.{append_assoc}
use Rattle.std.proofs.lemmas.Bool.{le-ltb, ltb-false}
use Rattle.std.proofs.lemmas.List.{length-drop, length-append, length-take-le, take-append-le, drop-append-le, drop_all}
use Rattle.byteorder.specs.Numbers.{big_from-append, little_from-append}
use Rattle.afdx_pcap.specs.declared.format.Endian.{Endian}
use Rattle.afdx_pcap.specs.declared.format.Endian.TheVariants.{Big, Little}
use Rattle.afdx_pcap.specs.declared.format.Format.{Format}
use Rattle.afdx_pcap.specs.declared.fault.PcapFault.TheVariants.{NoHeader}
use Rattle.afdx_pcap.specs.Record.{Record}
use Rattle.afdx_pcap.specs.Number.{number, field}
use Rattle.afdx_pcap.specs.Capture.{format_of, checked_header, header_of, head_of, Begins, after, Splits, Holds, IsCapture}
use Rattle.afdx_pcap.specs.Reading.{AreFirst}

-- ---- bytes at the end change nothing of what is before them

number_front : (e : Endian) (n : ℕ) (xs ys : List ℕ) → n ≤ length xs → number e n (xs ++ ys) ≡ number e n xs
unfolding number
number_front Big n xs ys h = big_from-append n xs ys h
number_front Little n xs ys h = little_from-append n xs ys h

field_front : (e : Endian) (place n : ℕ) (xs ys : List ℕ) → place + n ≤ length xs → field e place n (xs ++ ys) ≡ field e place n xs
field_front e place n xs ys h =
    ap (number e n) (drop-append-le place xs ys (omega arith)) ∙ number_front e n (drop place xs) ys (omega (arith, length-drop place xs))

checked_front : (o : Option Format) (xs ys : List ℕ) → 24 ≤ length xs → checked_header o (xs ++ ys) ≡ checked_header o xs
checked_front None xs ys h = refl
checked_front (Some f) xs ys h =
    rw (field_front f.endian 4 2 xs ys (omega arith), field_front f.endian 6 2 xs ys (omega arith), field_front f.endian 20 4 xs ys (omega arith)) refl

header_front : (xs ys : List ℕ) → 24 ≤ length xs → header_of (xs ++ ys) ≡ header_of xs
unfolding header_of
header_front xs ys h =
    rw (le-ltb (length (xs ++ ys)) 24 (omega (arith, length-append xs ys)), le-ltb (length xs) 24 h, number_front Big 4 xs ys (omega arith))
    (checked_front (format_of (number Big 4 xs)) xs ys h)

head_front : (e : Endian) (xs ys : List ℕ) → 16 ≤ length xs → head_of e (xs ++ ys) ≡ head_of e xs
unfolding head_of
head_front e xs ys h =
    rw (field_front e 0 4 xs ys (omega arith), field_front e 4 4 xs ys (omega arith), field_front e 8 4 xs ys (omega arith), field_front e 12 4 xs ys (omega arith)) refl

header_long : (bytes : List ℕ) (f : Format) → header_of bytes ≡ Ok f → 24 ≤ length bytes
unfolding header_of
header_long bytes f is = by (nat_lt (length bytes) 24) refl is where
  by : (b : Bool) → nat_lt (length bytes) 24 ≡ b → cond b (Err NoHeader) (checked_header (format_of (number Big 4 bytes)) bytes) ≡ Ok f → 24 ≤ length bytes
  by true short fails = absurd (differ fails) where
    differ : Err NoHeader ≡ Ok f → ⊥
    differ e = cc
  by false long fine = ltb-false (length bytes) 24 long

-- ---- records, one after the other

begins_front : (f : Format) (last : ℕ) (xs ys : List ℕ) (r : Record) → 16 + length r.bytes ≤ length xs → Begins f last (xs ++ ys) r → Begins f last xs r
begins_front f last xs ys r whole b =
    let h = head_front f.endian xs ys (omega (arith, whole)) in
    let long : length r.bytes ≤ length (drop 16 xs) = omega (arith, whole, length-drop 16 xs) in
    record {
      whole = whole;
      captured = rw h at b.captured;
      not_huge = b.not_huge;
      fraction = rw h at b.fraction;
      not_late = rw h at b.not_late;
      stamp = rw h at b.stamp;
      in_order = b.in_order;
      original = rw h at b.original;
      data_is = b.data_is ∙ ap (take (length r.bytes)) (drop-append-le 16 xs ys (omega (arith, whole))) ∙ take-append-le (length r.bytes) (drop 16 xs) ys long;
    }

take_drop : (n : ℕ) (xs : List ℕ) → xs ≡ take n xs ++ drop n xs
take_drop zero xs = refl
take_drop (suc n) [] = refl
take_drop (suc n) (x ∷ xs) = ap (λ ys. x ∷ ys) (take_drop n xs)

splits_cut : (f : Format) (last : ℕ) (bytes : List ℕ) (rs : List Record) (rest : List ℕ) → Splits f last bytes rs rest → (front : List ℕ) × (bytes ≡ front ++ rest) × Splits f last front rs []
splits_cut f last bytes [] rest s = ([], s, refl)
splits_cut f last bytes (r ∷ rs) rest s =
    let more = splits_cut f r.stamp (after r bytes) rs rest s.1 in (
      head ++ more.0,
      whole more.0 more.1,
      (
        begins_front f last (head ++ more.0) rest r (let both = length-append head more.0 in omega (arith, long, both)) (subst (λ (b : List ℕ). Begins f last b r) (whole more.0 more.1) s.0),
        subst (λ (b : List ℕ). Splits f r.stamp b rs []) (sym (next more.0)) more.2,
      ),
    ) where
      head : List ℕ
      head = take (16 + length r.bytes) bytes

      long : length head ≡ 16 + length r.bytes
      long = length-take-le (16 + length r.bytes) bytes s.0.whole

      whole : (front : List ℕ) → after r bytes ≡ front ++ rest → bytes ≡ (head ++ front) ++ rest
      whole front is = take_drop (16 + length r.bytes) bytes ∙ ap (λ (b : List ℕ). head ++ b) is ∙ sym (append_assoc head front rest)

      next : (front : List ℕ) → after r (head ++ front) ≡ front
      next front =
          drop-append-le (16 + length r.bytes) head front (omega (arith, long))
          ∙ ap (λ (b : List ℕ). b ++ front) (drop_all (16 + length r.bytes) head (omega (arith, long)))

splits_front : (f : Format) (last : ℕ) (bytes : List ℕ) (rs more : List Record) (rest : List ℕ) → Splits f last bytes (rs ++ more) rest → (left : List ℕ) × Splits f last bytes rs left
splits_front f last bytes [] more rest s = (bytes, refl)
splits_front f last bytes (r ∷ rs) more rest s =
    let further = splits_front f r.stamp (after r bytes) rs more rest s.1 in
    (further.0, (s.0, further.1))

-- ---- a file

holds_cut : (bytes : List ℕ) (rs : List Record) (rest : List ℕ) → Holds bytes rs rest → (text : List ℕ) × IsCapture text rs
holds_cut bytes rs rest h = (
  head ++ front.0,
  record {
    format = h.format;
    header = header_front head front.0 (omega (arith, long)) ∙ sym (header_front head (drop 24 bytes) (omega (arith, long))) ∙ ap header_of (sym (take_drop 24 bytes)) ∙ h.header;
    records = subst (λ (b : List ℕ). Splits h.format 0 b rs []) (sym next) front.2;
  },
) where
  front : (front : List ℕ) × (drop 24 bytes ≡ front ++ rest) × Splits h.format 0 front rs []
  front = splits_cut h.format 0 (drop 24 bytes) rs rest h.records

  head : List ℕ
  head = take 24 bytes

  long : length head ≡ 24
  long = length-take-le 24 bytes (header_long bytes h.format h.header)

  next : drop 24 (head ++ front.0) ≡ front.0
  next = drop-append-le 24 head front.0 (omega (arith, long)) ∙ ap (λ (b : List ℕ). b ++ front.0) (drop_all 24 head (omega (arith, long)))

-- what was read so far has a text of its own
pub text_of_first : (empty : List ℕ) → IsCapture empty [] → (bytes : List ℕ) (rs more : List Record) → AreFirst bytes (rs ++ more) → (text : List ℕ) × IsCapture text rs
text_of_first empty none bytes [] more first = (empty, none)
text_of_first empty none bytes (r ∷ rs) more first =
    let h = first.1 in
    let s = splits_front h.format 0 (drop 24 bytes) (r ∷ rs) more first.0 h.records in
    holds_cut bytes (r ∷ rs) s.0 (record { format = h.format; header = h.header; records = s.1 })
