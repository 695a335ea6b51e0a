-- Records that are taken one by one.
use Rattle.std.proofs.Common.{◌≡◌, ℕ, ◌+◌, ◌<◌, ◌≤◌, arith, List, [], ◌∷◌, ◌++◌, length, drop, true, subst, sym, ap, ◌∙◌, refl, length-append}
use Rattle.std.proofs.Common.{Option, Some, Ok, cond}
use Rattle.std.specs.Prelude.{IfNone, is_some}
use Rattle.afdx_pcap.specs.declared.format.Format.{Format}
use Rattle.afdx_pcap.specs.Record.{Record}
use Rattle.afdx_pcap.specs.Capture.{header_of, Splits, Holds, IsCapture, after}
use Rattle.afdx_pcap.specs.Fault.{last_stamp}
use Rattle.afdx_pcap.specs.Reading.{Answers, AreFirst, HasTaken, IsNext, IsSound, Reading, Taking, taking_on, whole_reading}
use Rattle.afdx_pcap.proofs.Unique.{not_in_nothing, one_format, one_prefix, one_record, next_after, same_tail}
use Rattle.afdx_pcap.proofs.More.{Holds-more}

none_of : (rs : List Record) → length rs ≡ 0 → rs ≡ []
none_of [] empty = refl
none_of (r ∷ rs) more = absurd cc

-- with the next record the bytes hold one more
holds_next : (bytes : List ℕ) (rs : List Record) (r : Record) → AreFirst bytes rs → IsNext bytes (length rs) r
    → (left : List ℕ) × Holds bytes (rs ++ r ∷ []) left
holds_next bytes [] r first next = (next.1, subst (λ (qs : List Record). Holds bytes (qs ++ r ∷ []) next.1) (none_of next.0 next.3) next.2)
holds_next bytes (q ∷ qs) r first next = next_after bytes first.0 (q ∷ qs) r first.1 next

first_more : (bytes : List ℕ) (rs : List Record) (r : Record) → AreFirst bytes rs → IsNext bytes (length rs) r → AreFirst bytes (rs ++ r ∷ [])
first_more bytes [] r first next = holds_next bytes [] r first next
first_more bytes (q ∷ qs) r first next = holds_next bytes (q ∷ qs) r first next

-- the next one, counted by the list
next_of : (t : Taking) (rs : List Record) (r : Record) → HasTaken t rs → IsNext t.bytes t.given r → IsNext t.bytes (length rs) r
next_of t rs r taken next = subst (λ (n : ℕ). IsNext t.bytes n r) (sym taken.count) next

pub next_joins : (t : Taking) (rs : List Record) (r : Record) → HasTaken t rs → IsNext t.bytes t.given r → HasTaken (taking_on t) (rs ++ r ∷ [])
next_joins t rs r taken next = record {
  first = first_more t.bytes rs r taken.first (next_of t rs r taken next);
  count = length-append rs (r ∷ []) ∙ ap (λ (n : ℕ). n + 1) taken.count;
}

first_stay : (bytes more : List ℕ) (rs : List Record) → AreFirst bytes rs → AreFirst (bytes ++ more) rs
first_stay bytes more [] first = tt
first_stay bytes more (q ∷ qs) first = (first.0 ++ more, Holds-more bytes more first.0 (q ∷ qs) first.1)

pub taken_stay : (t : Taking) (more : List ℕ) (rs : List Record) → HasTaken t rs → HasTaken (record t { bytes = t.bytes ++ more }) rs
taken_stay t more rs taken = record { first = first_stay t.bytes more rs taken.first; count = taken.count }

-- the last of some records is not below those before it
last_is_latest : (f : Format) (last : ℕ) (bytes : List ℕ) (rs : List Record) (r : Record) (rest : List ℕ) → Splits f last bytes (rs ++ r ∷ []) rest → last_stamp last rs ≤ r.stamp
last_is_latest f last bytes [] r rest split = split.0.in_order
last_is_latest f last bytes (q ∷ qs) r rest split = last_is_latest f q.stamp (after q bytes) qs r rest split.1

pub next_in_order : (t : Taking) (rs : List Record) (r : Record) → HasTaken t rs → IsNext t.bytes t.given r → last_stamp 0 rs ≤ r.stamp
next_in_order t rs r taken next =
    let held = holds_next t.bytes rs r taken.first (next_of t rs r taken next) in
    last_is_latest held.1.format 0 (drop 24 t.bytes) rs r held.0 held.1.records

first_are_all : (bytes : List ℕ) (rs : List Record) → AreFirst bytes rs → IsSound bytes (length rs) true → IsCapture bytes rs
first_are_all bytes [] first sound = subst (IsCapture bytes) (none_of sound.0 sound.2) sound.1
first_are_all bytes (q ∷ qs) first sound = subst (IsCapture bytes) (one_prefix bytes [] first.0 sound.0 (q ∷ qs) sound.1 first.1 sound.2) sound.1

pub taken_are_all : (t : Taking) (rs : List Record) → HasTaken t rs → IsSound t.bytes t.given true → IsCapture t.bytes rs
taken_are_all t rs taken sound = first_are_all t.bytes rs taken.first (subst (λ (n : ℕ). IsSound t.bytes n true) (sym taken.count) sound)

-- a file that holds all these records and nothing else has no record after them
more_than : (f : Format) (last : ℕ) (bytes : List ℕ) (rs before : List Record) (r : Record) (rest : List ℕ) → Splits f last bytes rs [] → Splits f last bytes (before ++ r ∷ []) rest
    → length before < length rs
more_than f last bytes [] [] r rest all some = let whole = some.0.whole in let none = ap length all in omega (arith, whole, none)
more_than f last bytes [] (q ∷ qs) r rest all some = let whole = some.0.whole in let none = ap length all in omega (arith, whole, none)
more_than f last bytes (p ∷ ps) [] r rest all some = omega arith
more_than f last bytes (p ∷ ps) (q ∷ qs) r rest all some =
    let one = one_record f last last bytes p q all.0 some.0 in
    omega (arith, more_than f p.stamp (after p bytes) ps qs r rest all.1 (same_tail f bytes p q (qs ++ r ∷ []) rest one some.1))

pub fewer_than_all : (bytes : List ℕ) (n : ℕ) (rs : List Record) (r : Record) → IsCapture bytes rs → IsNext bytes n r → n < length rs
fewer_than_all bytes n rs r all next =
    let held = next.2 in
    let same = one_format (header_of bytes) all.format held.format all.header held.header in
    let some = subst (λ (f : Format). Splits f 0 (drop 24 bytes) (next.0 ++ r ∷ []) next.1) (sym same) held.records in
    subst (λ (k : ℕ). k < length rs) next.3 (more_than all.format 0 (drop 24 bytes) rs next.0 r next.1 all.records some)

-- the records of a capture begin with the first ones of its bytes
split_begins : (f : Format) (last : ℕ) (bytes : List ℕ) (rs all : List Record) (rest : List ℕ) → Splits f last bytes rs rest → Splits f last bytes all [] → (later : List Record) × (all ≡ rs ++ later)
split_begins f last bytes [] all rest some whole = (all, refl)
split_begins f last bytes (q ∷ qs) [] rest some whole = absurd (not_in_nothing f last bytes q whole some.0)
split_begins f last bytes (q ∷ qs) (p ∷ ps) rest some whole =
    let one = one_record f last last bytes q p some.0 whole.0 in
    let found = split_begins f q.stamp (after q bytes) qs ps rest some.1 (same_tail f bytes q p ps [] one whole.1) in
    let same = found.1 in
    (found.0, cc)

first_begin : (bytes : List ℕ) (rs all : List Record) → AreFirst bytes rs → IsCapture bytes all → (later : List Record) × (all ≡ rs ++ later)
first_begin bytes [] all first whole = (all, refl)
first_begin bytes (q ∷ qs) all first whole =
    let held = first.1 in
    let same = one_format (header_of bytes) held.format whole.format held.header whole.header in
    split_begins held.format 0 (drop 24 bytes) (q ∷ qs) all first.0 held.records (subst (λ (f : Format). Splits f 0 (drop 24 bytes) all []) (sym same) whole.records)

pub taken_begin : (t : Taking) (taken all : List Record) → HasTaken t taken → IsCapture t.bytes all → (later : List Record) × (all ≡ taken ++ later)
taken_begin t taken all has whole = first_begin t.bytes taken all has.first whole

-- ---- a reader over a whole capture

pub whole_answers : (r : Reading) (bytes : List ℕ) (n : ℕ) (found what : Option Record) → r ≡ whole_reading bytes n
    → IfNone r.fault (Answers r.bytes r.given r.closed (Ok found)) → found ≡ what → Answers bytes n true (Ok what)
whole_answers r bytes n found what is h same =
    let reported : Answers bytes n true (Ok found) = subst (λ (x : Reading). IfNone x.fault (Answers x.bytes x.given x.closed (Ok found))) is h in
    subst (λ (o : Option Record). Answers bytes n true (Ok o)) same reported

pub whole_goes_on : (old new : Reading) (bytes : List ℕ) (n : ℕ) (found : Option Record) (r : Record) → old ≡ whole_reading bytes n
    → new ≡ record old { given = cond (is_some found) (old.given + 1) old.given } → found ≡ Some r → new ≡ whole_reading bytes (n + 1)
whole_goes_on old new bytes n found r is came some =
    let on : new ≡ whole_reading bytes (cond (is_some found) (n + 1) n) = subst (λ (x : Reading). new ≡ record x { given = cond (is_some found) (x.given + 1) x.given }) is came in
    subst (λ (o : Option Record). new ≡ whole_reading bytes (cond (is_some o) (n + 1) n)) some on
