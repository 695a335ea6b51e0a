-- The whole records at the start of some bytes, and where more bytes come.
use Rattle.std.proofs.Common.{◌≡◌, ℕ, zero, suc, ◌<◌, ◌≤◌, true, List, [], ◌∷◌, ◌++◌, length, drop, refl, ap, sym, ◌∙◌, arith, inl, inr, subst, append_assoc}
use Rattle.std.proofs.lemmas.List.{append-nil, length-append}
use Rattle.std.proofs.lemmas.Bool.{cases_lt}
use Rattle.afdx_pcap.specs.Record.{Record}
use Rattle.afdx_pcap.specs.declared.format.Format.{Format}
use Rattle.afdx_pcap.specs.Capture.{Splits, Holds, after}
use Rattle.afdx_pcap.specs.Reading.{NoNext, AreFirst}
use Rattle.afdx_table.specs.declared.rows.PortRow.{PortRow}
use Rattle.afdx_table.specs.Content.{Content}
use Rattle.afdx_port.specs.Inner.Admission.{EarlierEventsStayAdmitted}
use Rattle.afdx_port.specs.Inner.Order.{ReachesInOrder}
use Rattle.afdx_port.specs.Inner.Events.{SentGoesOn}
use Rattle.afdx_core.specs.Merge.{Rises}
use Rattle.afdx_core.specs.Inner.Merge.{ByStampIsOrdered}
use Rattle.afdx_session.specs.Streams.{Stream, AreWhole, text_so_far, GoesOn, GoOn}
use Rattle.afdx_session.specs.Session.{Intake, IsStream, AreStreams, IsFedOn, AreFedOn}
use Rattle.afdx_session.proofs.Gathering.{splits_rise}
use Rattle.afdx_session.proofs.Growing.{text_grows}

-- what the laws of captures say of whole records
abbrev pub RecordsStay : Type 0
RecordsStay = (bytes more rest : List ℕ) (rs : List Record) → Holds bytes rs rest → Holds (bytes ++ more) rs (rest ++ more)

abbrev pub RecordsAreUnique : Type 0
RecordsAreUnique = (bytes rest others : List ℕ) (rs qs : List Record) → Holds bytes rs rest → Holds bytes qs others → length rs ≡ length qs → rs ≡ qs

-- ---- prefixes

splits_prefix : (f : Format) (last : ℕ) (bytes : List ℕ) (xs ys : List Record) (rest : List ℕ) → Splits f last bytes (xs ++ ys) rest → (mid : List ℕ) × Splits f last bytes xs mid
splits_prefix f last bytes [] ys rest splits = (bytes, refl)
splits_prefix f last bytes (x ∷ xs) ys rest splits = let more = splits_prefix f x.stamp (after x bytes) xs ys rest splits.1 in (more.0, (splits.0, more.1))

pub holds_prefix : (bytes : List ℕ) (xs ys : List Record) (rest : List ℕ) → Holds bytes (xs ++ ys) rest → (mid : List ℕ) × Holds bytes xs mid
holds_prefix bytes xs ys rest holds =
    let prefix = splits_prefix holds.format 0 (drop 24 bytes) xs ys rest holds.records in
    (prefix.0, record { format = holds.format; header = holds.header; records = prefix.1 })

-- a list is so many elements and others
pub record IsCutAt {X : Type 0} (n : ℕ) (xs : List X) : Type 0 where
  prefix : List X
  back : List X
  both : xs ≡ prefix ++ back
  long : length prefix ≡ n

cut_at : {X : Type 0} (n : ℕ) (xs : List X) → n ≤ length xs → IsCutAt n xs
cut_at zero xs le = record { prefix = []; back = xs; both = refl; long = refl }
cut_at (suc n) [] le = absurd (omega (arith, le))
cut_at (suc n) (x ∷ xs) le =
    let c = cut_at n xs (omega (arith, le)) in
    record { prefix = x ∷ c.prefix; back = c.back; both = ap (λ ys. x ∷ ys) c.both; long = ap suc c.long }

first_holds : (bytes : List ℕ) (rs : List Record) (n : ℕ) → n < length rs → AreFirst bytes rs → (rest : List ℕ) × Holds bytes rs rest
first_holds bytes [] n lt first = absurd (omega (arith, lt))
first_holds bytes (r ∷ rs) n lt first = first

-- there are no more whole records than the most
pub no_more : (bytes : List ℕ) (rs : List Record) (n : ℕ) → AreFirst bytes rs → NoNext bytes n → length rs ≤ n
no_more bytes rs n first none = elim (cases_lt n (length rs)) [
  | inr ge ↦ ge
  | inl lt ↦
      let held = first_holds bytes rs n lt first in
      let c = cut_at n rs (omega (arith, lt)) in
      absurd (by_back c lt held c.back c.both)
] where
  by_back : (c : IsCutAt n rs) → n < length rs → (rest : List ℕ) × Holds bytes rs rest → (back : List Record) → rs ≡ c.prefix ++ back → ⊥
  by_back c lt held [] both =
      let long : length rs ≡ length c.prefix = ap length (both ∙ append-nil c.prefix) in
      let same = c.long in
      omega (arith, lt, long, same)
  by_back c lt held (r ∷ back) both =
      let whole : Holds bytes ((c.prefix ++ r ∷ []) ++ back) held.0 = subst (λ xs. Holds bytes xs held.0) (both ∙ sym (append_assoc c.prefix (r ∷ []) back)) held.1 in
      let prefix = holds_prefix bytes (c.prefix ++ r ∷ []) back held.0 whole in
      none r (c.prefix, prefix.0, prefix.1, c.long)

-- more bytes leave the whole records so far, and may add others
pub whole_on : RecordsStay → RecordsAreUnique → (bytes more : List ℕ) (rs qs : List Record) → AreWhole bytes rs → AreWhole (bytes ++ more) qs → (added : List Record) × (qs ≡ rs ++ added)
whole_on stay unique bytes more [] qs was is = (qs, refl)
whole_on stay unique bytes more (r ∷ rs) qs was is =
    let held : Holds (bytes ++ more) (r ∷ rs) (was.first.0 ++ more) = stay bytes more was.first.0 (r ∷ rs) was.first.1 in
    let le : length (r ∷ rs) ≤ length qs = no_more (bytes ++ more) (r ∷ rs) (length qs) (was.first.0 ++ more, held) is.none_left in
    let c = cut_at (length (r ∷ rs)) qs le in
    let whole = first_holds (bytes ++ more) qs (length rs) (omega (arith, le)) is.first in
    let prefix = holds_prefix (bytes ++ more) c.prefix c.back whole.0 (subst (λ xs. Holds (bytes ++ more) xs whole.0) c.both whole.1) in
    let same : c.prefix ≡ r ∷ rs = unique (bytes ++ more) prefix.0 (was.first.0 ++ more) c.prefix (r ∷ rs) prefix.1 held c.long in
    (c.back, c.both ∙ ap (λ xs. xs ++ c.back) same)

pub whole_rises : (bytes : List ℕ) (rs : List Record) → AreWhole bytes rs → Rises rs
whole_rises bytes [] are = tt
whole_rises bytes (r ∷ rs) are = let held = are.first.1 in (splits_rise held.format 0 (drop 24 bytes) (r ∷ rs) are.first.0 held.records).1

-- one list of whole records
pub whole_unique : RecordsStay → RecordsAreUnique → (bytes : List ℕ) (rs qs : List Record) → AreWhole bytes rs → AreWhole bytes qs → rs ≡ qs
whole_unique stay unique bytes rs qs was is =
    let again : AreWhole (bytes ++ []) qs = subst (λ b. AreWhole b qs) (sym (append-nil bytes)) is in
    let more = whole_on stay unique bytes [] rs qs was again in
    let le : length qs ≤ length rs = no_more bytes qs (length rs) is.first was.none_left in
    by_added more.0 more.1 le where
      by_added : (added : List Record) → qs ≡ rs ++ added → length qs ≤ length rs → rs ≡ qs
      by_added [] same le = sym (same ∙ append-nil rs)
      by_added (a ∷ added) same le = let long = ap length same ∙ length-append rs (a ∷ added) in absurd (omega (arith, le, long))

-- ---- sessions

goes_on : RecordsStay → RecordsAreUnique → (i later : Intake) (s next : Stream) → IsFedOn i later → IsStream i s → IsStream later next → GoesOn s next
goes_on stay unique i later s next on is are =
    let whole : AreWhole (i.bytes ++ on.more) next.records = subst (λ b. AreWhole b next.records) on.bytes are.records in
    let more = whole_on stay unique i.bytes on.more s.records next.records is.records whole in
    record {
      port = are.port ∙ on.port ∙ sym is.port;
      more = more.0;
      records = more.1;
      in_order = whole_rises later.bytes next.records are.records;
      ended = λ (closed : s.closed ≡ true).
          let ended = on.ended (sym is.closed ∙ closed) in
          let same_bytes : AreWhole i.bytes next.records = subst (λ b. AreWhole b next.records) (on.bytes ∙ ap (λ m. i.bytes ++ m) ended.0 ∙ append-nil i.bytes) are.records in
          let same : s.records ≡ next.records = whole_unique stay unique i.bytes s.records next.records is.records same_bytes in
          (none_added s.records more.0 (same ∙ more.1), are.closed ∙ ended.1);
    } where
      none_added : (rs added : List Record) → rs ≡ rs ++ added → added ≡ []
      none_added rs [] same = refl
      none_added rs (a ∷ added) same = let long = ap length same ∙ length-append rs (a ∷ added) in absurd (omega (arith, long))

pub go_on : RecordsStay → RecordsAreUnique → (intakes later : List Intake) (streams others : List Stream) → AreFedOn intakes later → AreStreams intakes streams → AreStreams later others
    → GoOn streams others
go_on stay unique [] [] [] [] on are is = tt
go_on stay unique [] [] [] (s ∷ others) on are is = absurd is
go_on stay unique [] [] (s ∷ streams) others on are is = absurd are
go_on stay unique [] (n ∷ later) streams others on are is = absurd on
go_on stay unique (i ∷ intakes) [] streams others on are is = absurd on
go_on stay unique (i ∷ intakes) (n ∷ later) [] others on are is = absurd are
go_on stay unique (i ∷ intakes) (n ∷ later) (s ∷ streams) [] on are is = absurd is
go_on stay unique (i ∷ intakes) (n ∷ later) (s ∷ streams) (o ∷ others) on are is = (goes_on stay unique i n s o on.0 are.0 is.0, go_on stay unique intakes later streams others on.1 are.1 is.1)

pub grows_with_bytes : ByStampIsOrdered → EarlierEventsStayAdmitted → ReachesInOrder → SentGoesOn → RecordsStay → RecordsAreUnique
    → (t : Content) (intakes later : List Intake) (streams others : List Stream) (p : PortRow) → AreFedOn intakes later → AreStreams intakes streams → AreStreams later others
    → (rest : List ℕ) × (text_so_far t others p ≡ text_so_far t streams p ++ rest)
grows_with_bytes ordered stay reaches goes_on records unique t intakes later streams others p on are is = text_grows ordered stay reaches goes_on t streams others p
    (go_on records unique intakes later streams others on are is)

pub streams_unique : RecordsStay → RecordsAreUnique → (intakes : List Intake) (streams others : List Stream) → AreStreams intakes streams → AreStreams intakes others → streams ≡ others
streams_unique stay unique [] [] [] are is = refl
streams_unique stay unique [] [] (o ∷ others) are is = absurd is
streams_unique stay unique [] (s ∷ streams) others are is = absurd are
streams_unique stay unique (i ∷ intakes) [] others are is = absurd are
streams_unique stay unique (i ∷ intakes) (s ∷ streams) [] are is = absurd is
streams_unique stay unique (i ∷ intakes) (s ∷ streams) (o ∷ others) are is =
    let records = whole_unique stay unique i.bytes s.records o.records are.0.records is.0.records in
    ap (λ p. record { port = p; records = s.records; closed = s.closed } ∷ streams) (are.0.port ∙ sym is.0.port)
    ∙ ap (λ rs. record { port = o.port; records = rs; closed = s.closed } ∷ streams) records
    ∙ ap (λ b. record { port = o.port; records = o.records; closed = b } ∷ streams) (are.0.closed ∙ sym is.0.closed)
    ∙ ap (λ more. o ∷ more) (streams_unique stay unique intakes streams others are.1 is.1)
