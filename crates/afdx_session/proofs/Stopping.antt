-- A run over readers that has stopped: the captures are read on to their ends, and the first fault of all is found.
use Rattle.std.proofs.Common.{◌≡◌, ℕ, zero, suc, ◌+◌, ◌<◌, ◌≤◌, false, List, [], ◌∷◌, ◌++◌, map, length, take, set, slice_get, Option, Some, None}
use Rattle.std.proofs.Common.{refl, ap, sym, ◌∙◌, arith, subst, inl, inr, append_assoc}
use Rattle.std.specs.Prelude.{unwrap_or}
use Rattle.std.specs.Io.KnownBytes.{Consumes, IsAtEnd}
use Rattle.std.proofs.KnownBytes.{Consumes-nil, Consumes-trans, Consumes-whole}
use Rattle.std.proofs.lemmas.List.{append-nil, length-map}
use Rattle.std.proofs.lemmas.Option.{same_Some}
use Rattle.std.proofs.Math.Numerals.{suc-eq-add-one}
use Rattle.afdx_pcap.specs.declared.fault.PcapFault.{PcapFault}
use Rattle.afdx_pcap.specs.Fault.{IsFault, IsEarlyFault}
use Rattle.afdx_folder.specs.Input.{AreGiven}
use Rattle.afdx_session.specs.declared.lane.Lane.{Lane}
use Rattle.afdx_session.specs.declared.sources.SourceFault.{SourceFault}
use Rattle.afdx_session.specs.declared.sources.SourceFault.TheVariants as fault
use Rattle.afdx_session.specs.Texts.{Text}
use Rattle.afdx_session.specs.Reading.{IsSound, IsFirstFault}
use Rattle.afdx_session.specs.Sources.{AreRead, HasFirstFault, IsSourceFault}
use Rattle.afdx_session.specs.Inner.Lent.{AreSound}
use Rattle.afdx_session.specs.Inner.Stop.{MayReadOn, IsKnown, AreStoppedAt, AreReadOut, IsFoundIn, IsSkimmed, IsEndOf, first_found, IsUnread}
use Rattle.afdx_table.specs.Content.{Content}

-- an early fault stays
abbrev pub EarlyStays : Type 0
EarlyStays = (bytes more : List ℕ) (why : PcapFault) → IsEarlyFault bytes why → IsEarlyFault (bytes ++ more) why

-- ---- one capture

-- all that a reader still has to give
pub more_of : (a b : Option (List ℕ)) (xs : List ℕ) → Consumes a b xs → (more : List ℕ) × AreGiven a (xs ++ more)
more_of None b xs came = ([], tt)
more_of (Some ys) None xs came = absurd came
more_of (Some ys) (Some zs) xs came = (zs, sym came)

-- it is at its end
pub given_at_end : (a b : Option (List ℕ)) (xs : List ℕ) → Consumes a b xs → IsAtEnd b → AreGiven a xs
given_at_end a b xs came end = Consumes-whole a b xs (λ all. xs ≡ all) came end refl

-- a piece had a fault, so that all has
pub found_in_piece : EarlyStays → (a b : Option (List ℕ)) (start bytes so_far piece : List ℕ) (why : PcapFault) → bytes ≡ start ++ so_far → Consumes a b (so_far ++ piece)
    → IsEarlyFault (bytes ++ piece) why → (more : List ℕ) × AreGiven a more × IsEndOf (start ++ more) (Some why)
found_in_piece law a b start bytes so_far piece why are came early =
    let rest = more_of a b (so_far ++ piece) came in
    let joined : (bytes ++ piece) ++ rest.0 ≡ start ++ ((so_far ++ piece) ++ rest.0) =
    ap (λ xs. (xs ++ piece) ++ rest.0) are ∙ ap (λ xs. xs ++ rest.0) (append_assoc start so_far piece) ∙ append_assoc start (so_far ++ piece) rest.0 in
    ((so_far ++ piece) ++ rest.0, rest.1, subst (λ xs. IsFault xs why) joined (law (bytes ++ piece) rest.0 why early).0)

-- a lane reads on by itself, so many bytes after where it began
pub record IsReading {Z : Type 0} (a b : Option (List ℕ)) (start : List ℕ) (l : Lane Z) : Type 0 where
  pub so_far : List ℕ
  pub came : Consumes a b so_far
  pub bytes : l.reader.bytes ≡ start ++ so_far
  pub still_open : l.reader.closed ≡ false
  pub may : MayReadOn l

-- a piece came
pub reading_on : {Z : Type 0} (a b c : Option (List ℕ)) (start piece : List ℕ) (old new now : Lane Z) → IsReading a b start old → Consumes b c piece → IsSkimmed old new piece None → now ≡ new
    → IsReading a c start now
reading_on {Z} a b c start piece old new now was came skimmed is = subst (λ (l : Lane Z). IsReading a c start l) (sym is) (record {
  so_far = was.so_far ++ piece;
  came = Consumes-trans a b c was.so_far piece was.came came;
  bytes = skimmed.1 ∙ ap (λ xs. xs ++ piece) was.bytes ∙ append_assoc start was.so_far piece;
  still_open = skimmed.2;
  may = skimmed.3;
})

-- nothing came
pub reading_still : {Z : Type 0} (a b c : Option (List ℕ)) (start : List ℕ) (old now : Lane Z) → IsReading a b start old → Consumes b c [] → now ≡ old → IsReading a c start now
reading_still {Z} a b c start old now was came is = subst (λ (l : Lane Z). IsReading a c start l) (sym is) (record {
  so_far = was.so_far;
  came = subst (Consumes a c) (append-nil was.so_far) (Consumes-trans a b c was.so_far [] was.came came);
  bytes = was.bytes;
  still_open = was.still_open;
  may = was.may;
})

-- it has a fault in a piece
pub reading_found : {Z : Type 0} → EarlyStays → (a b c : Option (List ℕ)) (start piece : List ℕ) (l : Lane Z) (why : PcapFault) → IsReading a b start l → Consumes b c piece
    → IsEarlyFault (l.reader.bytes ++ piece) why → (more : List ℕ) × AreGiven a more × IsEndOf (start ++ more) (Some why)
reading_found law a b c start piece l why was came early =
    found_in_piece law a c start l.reader.bytes was.so_far piece why was.bytes (Consumes-trans a b c was.so_far piece was.came came) early

-- it had come to its end before
pub ended_before : (a : Option (List ℕ)) (bytes : List ℕ) (found : Option PcapFault) → IsAtEnd a → IsEndOf bytes found → (more : List ℕ) × AreGiven a more × IsEndOf (bytes ++ more) found
ended_before a bytes found end is = ([], given_at_end a a [] (Consumes-nil a) end, subst (λ xs. IsEndOf xs found) (sym (append-nil bytes)) is)

-- ---- one capture after the other

-- of one more, all came
pub out_more : {R Z : Type 0} (remaining : R → Option (List ℕ)) (n : ℕ) (lanes : List (Lane Z)) (readers : List R) (texts : List Text) (l : Lane Z) (r : R) (more : List ℕ)
    → AreReadOut remaining (take n lanes) (take n readers) texts → slice_get lanes n ≡ Some l → slice_get readers n ≡ Some r → AreGiven (remaining r) more
    → AreReadOut remaining (take (n + 1) lanes) (take (n + 1) readers) (texts ++ (l.port, l.reader.bytes ++ more) ∷ [])
out_more {R} {Z} remaining n lanes readers texts l r more out lane reader given =
    subst (λ k. AreReadOut remaining (take k lanes) (take k readers) (texts ++ (l.port, l.reader.bytes ++ more) ∷ [])) (suc-eq-add-one n) (by n lanes readers texts out lane reader) where
      by : (n : ℕ) (lanes : List (Lane Z)) (readers : List R) (texts : List Text) → AreReadOut remaining (take n lanes) (take n readers) texts → slice_get lanes n ≡ Some l
          → slice_get readers n ≡ Some r
          → AreReadOut remaining (take (suc n) lanes) (take (suc n) readers) (texts ++ (l.port, l.reader.bytes ++ more) ∷ [])
      by n [] readers texts out lane reader = absurd cc
      by n (x ∷ lanes) [] texts out lane reader = absurd cc
      by zero (x ∷ lanes) (y ∷ readers) [] out lane reader = (
        ap (λ (a : Lane Z). a.port) (sym (same_Some x l lane)),
        (more, subst (λ (a : R). AreGiven (remaining a) more) (sym (same_Some y r reader)) given, ap (λ (a : Lane Z). a.reader.bytes ++ more) (sym (same_Some x l lane))),
        tt,
      )
      by zero (x ∷ lanes) (y ∷ readers) (text ∷ texts) out lane reader = absurd out
      by (suc n) (x ∷ lanes) (y ∷ readers) [] out lane reader = absurd out
      by (suc n) (x ∷ lanes) (y ∷ readers) (text ∷ texts) out lane reader = (out.0, out.1, by n lanes readers texts out.2 lane reader)

sound_one_more : (texts : List Text) (text : Text) → AreSound texts → IsSound text → AreSound (texts ++ text ∷ [])
sound_one_more [] text are is = (is, tt)
sound_one_more (other ∷ texts) text are is = (are.0, sound_one_more texts text are.1 is)

pub first_stays : (texts later : List Text) (port : ℕ) (why : PcapFault) → IsFirstFault texts port why → IsFirstFault (texts ++ later) port why
first_stays [] later port why is = absurd is
first_stays (text ∷ texts) later port why (inl here) = inl here
first_stays (text ∷ texts) later port why (inr on) = inr (on.0, first_stays texts later port why on.1)

pub first_here : (texts later : List Text) (text : Text) (why : PcapFault) → AreSound texts → IsFault text.1 why → IsFirstFault (texts ++ text ∷ later) text.0 why
first_here [] later text why are has = inl (refl, has)
first_here (other ∷ texts) later text why are has = inr (are.0, first_here texts later text why are.1 has)

-- and the first fault was found
pub found_more : (texts : List Text) (found : Option (ℕ × PcapFault)) (port : ℕ) (bytes : List ℕ) (why : Option PcapFault) → IsFoundIn texts found → IsEndOf bytes why
    → IsFoundIn (texts ++ (port, bytes) ∷ []) (first_found found port why)
found_more texts (Some found) port bytes why is end = first_stays texts ((port, bytes) ∷ []) found.0 found.1 is
found_more texts None port bytes None is end = sound_one_more texts (port, bytes) is end
found_more texts None port bytes (Some why) is end = first_here texts [] (port, bytes) why is end

-- ---- all captures

-- each reader gave at first what came and what is still to come
abbrev AreWhole : {R : Type 0} → (R → Option (List ℕ)) → List R → List Text → List Text → Type 0
AreWhole remaining [] [] [] = Unit {0}
AreWhole remaining (f ∷ first) (c ∷ came) (text ∷ texts) = (text.0 ≡ c.0) × AreGiven (remaining f) text.1 × AreWhole remaining first came texts
AreWhole remaining _ _ _ = ⊥

-- what came, and what a reader still gives
whole_text : (f r : Option (List ℕ)) (bytes : List ℕ) → Consumes f r bytes → (all : List ℕ) × AreGiven f all × ((P : List ℕ → Type 0) → ((more : List ℕ) → P (bytes ++ more)) → P all)
whole_text f r bytes came = let rest = more_of f r bytes came in (bytes ++ rest.0, rest.1, λ P holds. holds rest.0)

given_both : (f r : Option (List ℕ)) (bytes more : List ℕ) → Consumes f r bytes → AreGiven r more → AreGiven f (bytes ++ more)
given_both None r bytes more came given = tt
given_both (Some xs) None bytes more came given = absurd came
given_both (Some xs) (Some ys) bytes more came given = ap (λ zs. bytes ++ zs) given ∙ sym came

-- the fault that is known is that of all that the reader gave
known_whole : EarlyStays → (f r : Option (List ℕ)) (bytes : List ℕ) (why : PcapFault) → Consumes f r bytes → IsKnown r bytes why → (all : List ℕ) × AreGiven f all × IsFault all why
known_whole law f r bytes why came (inl early) = let rest = more_of f r bytes came in (bytes ++ rest.0, rest.1, (law bytes rest.0 why early).0)
known_whole law f r bytes why came (inr is) = (bytes, given_at_end f r bytes came is.1, is.0)

-- those after the place
later_whole : {R : Type 0} (remaining : R → Option (List ℕ)) (first now : List R) (came : List Text) → length now ≡ length came → length first ≡ length came
    → ((k : ℕ) (f r : R) (text : Text) → slice_get first k ≡ Some f → slice_get now k ≡ Some r → slice_get came k ≡ Some text → Consumes (remaining f) (remaining r) text.1)
    → (texts : List Text) × AreWhole remaining first came texts
later_whole remaining [] [] [] many long gave = ([], tt)
later_whole remaining [] [] (c ∷ came) many long gave = absurd cc
later_whole remaining [] (r ∷ now) [] many long gave = absurd cc
later_whole remaining [] (r ∷ now) (c ∷ came) many long gave = absurd cc
later_whole remaining (f ∷ first) [] [] many long gave = absurd cc
later_whole remaining (f ∷ first) [] (c ∷ came) many long gave = absurd cc
later_whole remaining (f ∷ first) (r ∷ now) [] many long gave = absurd cc
later_whole remaining (f ∷ first) (r ∷ now) (c ∷ came) many long gave =
    let here = whole_text (remaining f) (remaining r) c.1 (gave 0 f r c refl refl refl) in
    let on = later_whole remaining first now came (omega (arith, many)) (omega (arith, long)) (λ k. gave (suc k)) in
    ((c.0, here.0) ∷ on.0, (refl, here.1, on.1))

-- all of them: those before the place were read on, and that there has the fault
record IsWhole {R : Type 0} (remaining : R → Option (List ℕ)) (first : List R) (came before : List Text) (port : ℕ) (why : PcapFault) : Type 0 where
  here : Text
  later : List Text
  whole : AreWhole remaining first came (before ++ here ∷ later)
  port_is : here.0 ≡ port
  has : IsFault here.1 why

whole_from : {R Z : Type 0} → EarlyStays → (remaining : R → Option (List ℕ)) (first now : List R) (lanes : List (Lane Z)) (came before : List Text) (place : ℕ) (at : Lane Z) (why : PcapFault)
    → length now ≡ length came → length first ≡ length came → map (λ (l : Lane Z). l.port) lanes ≡ map (λ (text : Text). text.0) came → slice_get lanes place ≡ Some at
    → ((k : ℕ) (f r : R) (text : Text) → slice_get first k ≡ Some f → slice_get now k ≡ Some r → slice_get came k ≡ Some text → Consumes (remaining f) (remaining r) text.1)
    → ((r : R) (text : Text) → slice_get now place ≡ Some r → slice_get came place ≡ Some text → IsKnown (remaining r) text.1 why)
    → ((k : ℕ) (l : Lane Z) (text : Text) → k < place → slice_get lanes k ≡ Some l → slice_get came k ≡ Some text → l.reader.bytes ≡ text.1)
    → AreReadOut remaining (take place lanes) (take place now) before → IsWhole remaining first came before at.port why
whole_from law remaining first now [] came before place at why many long ports is gave here bytes out = absurd cc
whole_from law remaining first now (l ∷ lanes) [] before place at why many long ports is gave here bytes out = absurd cc
whole_from law remaining first [] (l ∷ lanes) (c ∷ came) before place at why many long ports is gave here bytes out = absurd cc
whole_from law remaining [] (r ∷ now) (l ∷ lanes) (c ∷ came) before place at why many long ports is gave here bytes out = absurd cc
whole_from {R} {Z} law remaining (f ∷ first) (r ∷ now) (l ∷ lanes) (c ∷ came) [] zero at why many long ports is gave here bytes out =
    let own = known_whole law (remaining f) (remaining r) c.1 why (gave 0 f r c refl refl refl) (here r c refl refl) in
    let on = later_whole remaining first now came (omega (arith, many)) (omega (arith, long)) (λ k. gave (suc k)) in
    let same : c.0 ≡ at.port = sym (heads ports) ∙ ap (λ (x : Lane Z). x.port) (same_Some l at is) in
    record { here = (c.0, own.0); later = on.0; whole = (refl, own.1, on.1); port_is = same; has = own.2 } where
      heads : {x y : ℕ} {xs ys : List ℕ} → x ∷ xs ≡ y ∷ ys → x ≡ y
      heads same = cc
whole_from law remaining (f ∷ first) (r ∷ now) (l ∷ lanes) (c ∷ came) (text ∷ before) zero at why many long ports is gave here bytes out = absurd out
whole_from law remaining (f ∷ first) (r ∷ now) (l ∷ lanes) (c ∷ came) [] (suc place) at why many long ports is gave here bytes out = absurd out
whole_from {R} {Z} law remaining (f ∷ first) (r ∷ now) (l ∷ lanes) (c ∷ came) (text ∷ before) (suc place) at why many long ports is gave here bytes out =
    let on = whole_from law remaining first now lanes came before place at why (omega (arith, many)) (omega (arith, long)) (tails ports) is (λ k. gave (suc k)) here
    (λ k x y lt. bytes (suc k) x y (omega (arith, lt))) out.2 in
    let own : text.1 ≡ c.1 ++ out.1.0 = out.1.2 ∙ ap (λ xs. xs ++ out.1.0) (bytes 0 l c (omega (arith)) refl refl) in
    record {
      here = on.here;
      later = on.later;
      whole = (
        out.0 ∙ heads ports,
        subst (AreGiven (remaining f)) (sym own) (given_both (remaining f) (remaining r) c.1 out.1.0 (gave 0 f r c refl refl refl) out.1.1),
        on.whole,
      );
      port_is = on.port_is;
      has = on.has;
    } where
      heads : {x y : ℕ} {xs ys : List ℕ} → x ∷ xs ≡ y ∷ ys → x ≡ y
      heads same = cc

      tails : {x y : ℕ} {xs ys : List ℕ} → x ∷ xs ≡ y ∷ ys → xs ≡ ys
      tails same = cc

whole_ports : {R : Type 0} (remaining : R → Option (List ℕ)) (first : List R) (came texts : List Text) → AreWhole remaining first came texts
    → map (λ (text : Text). text.0) texts ≡ map (λ (text : Text). text.0) came
whole_ports remaining [] [] [] all = refl
whole_ports remaining [] [] (text ∷ texts) all = absurd all
whole_ports remaining [] (c ∷ came) texts all = absurd all
whole_ports remaining (f ∷ first) [] texts all = absurd all
whole_ports remaining (f ∷ first) (c ∷ came) [] all = absurd all
whole_ports remaining (f ∷ first) (c ∷ came) (text ∷ texts) all = rw (all.0, whole_ports remaining first came texts all.2) refl

whole_read : {R : Type 0} (remaining : R → Option (List ℕ)) (first : List R) (came texts : List Text) → AreWhole remaining first came texts → AreRead remaining first texts
whole_read {R} remaining first came texts all = record { many = long first came texts all; each = each first came texts all } where
  long : (first : List R) (came texts : List Text) → AreWhole remaining first came texts → length texts ≡ length first
  long [] [] [] all = refl
  long [] [] (text ∷ texts) all = absurd all
  long [] (c ∷ came) texts all = absurd all
  long (f ∷ first) [] texts all = absurd all
  long (f ∷ first) (c ∷ came) [] all = absurd all
  long (f ∷ first) (c ∷ came) (text ∷ texts) all = ap suc (long first came texts all.2)

  each : (first : List R) (came texts : List Text) → AreWhole remaining first came texts → (place : ℕ) (reader : R) (text : Text) → slice_get first place ≡ Some reader
      → slice_get texts place ≡ Some text
      → AreGiven (remaining reader) text.1
  each [] came texts all place reader text is at = absurd cc
  each (f ∷ first) [] texts all place reader text is at = absurd all
  each (f ∷ first) (c ∷ came) [] all place reader text is at = absurd all
  each (f ∷ first) (c ∷ came) (t ∷ texts) all zero reader text is at =
      subst (λ (x : R). AreGiven (remaining x) text.1) (same_Some f reader is) (subst (λ (x : Text). AreGiven (remaining f) x.1) (same_Some t text at) all.1)
  each (f ∷ first) (c ∷ came) (t ∷ texts) all (suc place) reader text is at = each first came texts all.2 place reader text is at

-- the fault that is answered: the first that was found before the place, or that there
abbrev pub or_here : Option (ℕ × PcapFault) → ℕ → PcapFault → ℕ × PcapFault
or_here found port why = unwrap_or found (port, why)

pub first_of_all : {R Z : Type 0} → EarlyStays → (remaining : R → Option (List ℕ)) (t : Content) (first now : List R) (lanes : List (Lane Z)) (place : ℕ) (at : Lane Z) (why : PcapFault)
    (before : List Text) (found : Option (ℕ × PcapFault)) → slice_get lanes place ≡ Some at → AreReadOut remaining (take place lanes) (take place now) before → IsFoundIn before found
    → AreStoppedAt remaining t first now place why lanes → HasFirstFault remaining t first (or_here found at.port why).0 (or_here found at.port why).1
first_of_all law remaining t first now lanes place at why before found is out in_before stopped =
    let all = whole_from law remaining first now lanes stopped.came before place at why stopped.many stopped.long stopped.lane_ports is stopped.gave stopped.here stopped.bytes out in
    record {
      texts = before ++ all.here ∷ all.later;
      ports = whole_ports remaining first stopped.came (before ++ all.here ∷ all.later) all.whole ∙ stopped.ports;
      read = whole_read remaining first stopped.came (before ++ all.here ∷ all.later) all.whole;
      first = by found in_before all;
    } where
      by : (found : Option (ℕ × PcapFault)) → IsFoundIn before found → (all : IsWhole remaining first stopped.came before at.port why)
          → IsFirstFault (before ++ all.here ∷ all.later) (or_here found at.port why).0 (or_here found at.port why).1
      by (Some found) is all = first_stays before (all.here ∷ all.later) found.0 found.1 is
      by None is all = subst (λ n. IsFirstFault (before ++ all.here ∷ all.later) n why) all.port_is (first_here before all.later all.here why is all.has)

-- the place is that of a lane and of a reader
pub stopped_within : {R Z : Type 0} (remaining : R → Option (List ℕ)) (t : Content) (first now : List R) (place : ℕ) (why : PcapFault) (lanes : List (Lane Z))
    → AreStoppedAt remaining t first now place why lanes → (place < length lanes) × (place < length now)
stopped_within {Z = Z} remaining t first now place why lanes stopped =
    let same = sym (length-map lanes (λ (l : Lane Z). l.port)) ∙ ap length stopped.lane_ports ∙ length-map stopped.came (λ (text : Text). text.0) in
    (subst (λ n. place < n) (sym same) stopped.within, subst (λ n. place < n) (sym stopped.many) stopped.within)

-- what stays behind a place
pub set_later : {X : Type 0} (xs : List X) (n k : ℕ) (y : X) → n < k → slice_get (set xs n y) k ≡ slice_get xs k
set_later [] n k y lt = refl
set_later (x ∷ xs) zero zero y lt = absurd (omega (arith, lt))
set_later (x ∷ xs) zero (suc k) y lt = refl
set_later (x ∷ xs) (suc n) zero y lt = absurd (omega (arith, lt))
set_later (x ∷ xs) (suc n) (suc k) y lt = set_later xs n k y (omega (arith, lt))

-- a reader that failed is one of those that there were at first
pub unread_fails : {R : Type 0} (remaining : R → Option (List ℕ)) (t : Content) (first now : List R) (why : SourceFault) → length now ≡ length first → IsUnread (length now) why
    → IsSourceFault remaining t first why
unread_fails remaining t first now fault.Memory many is = tt
unread_fails remaining t first now (fault.Read place) many is = subst (λ n. place < n) many is
unread_fails remaining t first now (fault.Capture port why) many is = absurd is

-- a failure of one of fewer readers is one of more
pub unread_more : (few many : ℕ) (why : SourceFault) → few ≤ many → IsUnread few why → IsUnread many why
unread_more few many fault.Memory le is = tt
unread_more few many (fault.Read place) le is = omega (arith, le, is)
unread_more few many (fault.Capture port why) le is = absurd is
