-- A rest that is no record: it waits for more bytes, or the capture has a fault.
use Rattle.std.proofs.Common.{◌≡◌, ◌≢◌, ℕ, ◌+◌, ◌-◌, ◌<◌, ◌≤◌, ◌==◌, nat_lt, Bool, true, false, cond, not, ◌||◌, ◌&&◌, List, ◌++◌}
use Rattle.std.proofs.Common.{length, take, drop, Option, Some, None, Result, Ok, Err, Bor, refl, sym, ap, subst, ◌∙◌, arith, inr, append_assoc, take-append-drop}
use Rattle.std.specs.Prelude.{MatchResult, IfOk}
use Rattle.std.specs.Option.{option_or}
use Rattle.std.proofs.lemmas.Bool.{ltb-true, ltb-false}
use Rattle.std.proofs.lemmas.List.{take_rest}
use Rattle.afdx_pcap.specs.declared.format.Format.{Format}
use Rattle.afdx_pcap.specs.declared.format.Endian.TheVariants.{Big}
use Rattle.afdx_pcap.specs.declared.fault.PcapFault.{PcapFault}
use Rattle.afdx_pcap.specs.declared.fault.PcapFault.TheVariants as pcap
use Rattle.afdx_pcap.specs.Record.{captured_limit}
use Rattle.afdx_pcap.specs.Capture.{header_of, head_of, checked_header, format_of, Splits, IsCapture}
use Rattle.afdx_pcap.specs.Number.{number, field}
use Rattle.afdx_pcap.specs.Fault.{head_fault, data_fault, record_fault, IsFault, is_cut, last_stamp}
use Rattle.afdx_alone.specs.declared.link.Alone.{Alone}
use Rattle.afdx_alone.specs.declared.fault.AloneFault.{AloneFault}
use Rattle.afdx_alone.specs.declared.policing.Policing.{Policing}
use Rattle.afdx_alone.specs.declared.fault.AloneFault.TheVariants as alone
use Rattle.afdx_alone.specs.Answer.{IsAnswer}
use Rattle.afdx_alone.specs.Faults.{fault_of, IsFaultOf}
use Rattle.afdx_alone.specs.Inner.Sizes.{longest_record}
use Rattle.afdx_alone.specs.Inner.Polices.{Polices, Leaves, IsPieceFault}
use Rattle.afdx_alone.proofs.Progress.{read}

-- the fault that is answered
pub piece_fault : (bytes : List ℕ) (ended : Bool) (fault : PcapFault) → fault ≢ pcap.Memory → IsFault bytes fault → (ended ≡ false → is_cut fault ≡ false) → IsPieceFault bytes ended (fault_of fault)
piece_fault bytes ended pcap.Memory real is stays = tt
piece_fault bytes ended pcap.NoHeader real is stays = (is, stays)
piece_fault bytes ended pcap.Magic real is stays = (is, stays)
piece_fault bytes ended pcap.Version real is stays = (is, stays)
piece_fault bytes ended (pcap.LinkType word) real is stays = (is, stays)
piece_fault bytes ended (pcap.CutHeader n) real is stays = (is, stays)
piece_fault bytes ended (pcap.Huge n) real is stays = (is, stays)
piece_fault bytes ended (pcap.Fraction n) real is stays = (is, stays)
piece_fault bytes ended (pcap.Late n) real is stays = (is, stays)
piece_fault bytes ended (pcap.Backwards n) real is stays = (is, stays)
piece_fault bytes ended (pcap.CutData n) real is stays = (is, stays)

-- no further byte mends it, unless the input has ended
pub stays : (ended cut : Bool) → (ended || not cut) ≡ true → ended ≡ false → cut ≡ false
stays true cut is more = absurd cc
stays false true is more = absurd cc
stays false false is more = refl

pub waits : (ended cut : Bool) → (ended || not cut) ≡ false → (ended ≡ false) × (cut ≡ true)
waits true cut is = absurd cc
waits false true is = (refl, refl)
waits false false is = absurd cc

-- what becomes of a rest that is no record, or of bytes that are no header
module _ (all rest : List ℕ) (ended : Bool) (fault : PcapFault) where
  abbrev pub WaitsOrFails : Result (Bor (List ℕ)) AloneFault → Type 0
  WaitsOrFails result =
      MatchResult result (λ left. (left.now ≡ rest) × ((ended || not (is_cut fault)) ≡ false)) (λ e. (e ≡ fault_of fault) × ((ended || not (is_cut fault)) ≡ true))

  pub stopped : (P : List ℕ → Type 0) (result : Result (Bor (List ℕ)) AloneFault) → WaitsOrFails result → fault ≢ pcap.Memory → IsFault all fault → P rest
      → MatchResult result (λ left. P left.now) (IsPieceFault all ended)
  stopped P (Ok left) h real wrong holds = subst P (sym h.0) holds
  stopped P (Err e) h real wrong holds = subst (IsPieceFault all ended) (sym h.0) (piece_fault all ended fault real wrong (stays ended (is_cut fault) h.1))

  pub left_short : (o : Option Format) (result : Result (Bor (List ℕ)) AloneFault) → WaitsOrFails result → (is_cut fault ≡ true → length rest ≤ longest_record)
      → IfOk result (λ left. Leaves ended o left.now)
  left_short o (Ok left) h short =
      let w = waits ended (is_cut fault) h.1 in
      subst (λ (e : Bool). Leaves e o left.now) (sym w.0) (subst (λ (bytes : List ℕ). length bytes ≤ longest_record) (sym h.0) (short w.1))
  left_short o (Err e) h short = tt

  pub last_rest : (result : Result (Bor (List ℕ)) AloneFault) → WaitsOrFails result → (bytes : List ℕ) → (before : List ℕ) × (before ++ rest ≡ bytes)
      → IfOk result (λ left. (before : List ℕ) × (before ++ left.now ≡ bytes))
  last_rest (Ok left) h bytes last = (last.0, ap (λ (t : List ℕ). last.0 ++ t) h.0 ∙ last.1)
  last_rest (Err e) h bytes last = tt

-- what is left after the header is at the end of all
pub behind_header : (bytes : List ℕ) (result : Result (Bor (List ℕ)) AloneFault) → IfOk result (λ left. (before : List ℕ) × (before ++ left.now ≡ take (length bytes - 24) (drop 24 bytes)))
    → IfOk result (λ left. (before : List ℕ) × (before ++ left.now ≡ bytes))
behind_header bytes (Ok left) (before, is) =
    (take 24 bytes ++ before, append_assoc (take 24 bytes) before left.now ∙ ap (λ (t : List ℕ). take 24 bytes ++ t) (is ∙ take_rest bytes 24) ∙ take-append-drop 24 bytes)
behind_header bytes (Err e) last = tt

-- ---- a record that is cut

cut_data : (n left captured : ℕ) (fault : PcapFault) (less : Bool) → nat_lt left (16 + captured) ≡ less → captured ≤ captured_limit → cond less (Some (pcap.CutData n)) None ≡ Some fault
    → left ≤ longest_record
cut_data n left captured fault true less small is = let lt = ltb-true left (16 + captured) less in omega (arith, lt, small)
cut_data n left captured fault false less small is = absurd cc

-- what is left after the tests of the head
after_tests : (n left captured : ℕ) (fault : PcapFault) (fraction late backwards : Bool) → captured ≤ captured_limit → is_cut fault ≡ true
    → option_or (cond fraction (Some (pcap.Fraction n)) (cond late (Some (pcap.Late n)) (cond backwards (Some (pcap.Backwards n)) None)))
    (cond (nat_lt left (16 + captured)) (Some (pcap.CutData n)) None) ≡ Some fault
    → left ≤ longest_record
after_tests n left captured fault true late backwards small cut is = let same : pcap.Fraction n ≡ fault = cc in let no : is_cut (pcap.Fraction n) ≡ true = ap is_cut same ∙ cut in absurd cc
after_tests n left captured fault false true backwards small cut is = let same : pcap.Late n ≡ fault = cc in let no : is_cut (pcap.Late n) ≡ true = ap is_cut same ∙ cut in absurd cc
after_tests n left captured fault false false true small cut is = let same : pcap.Backwards n ≡ fault = cc in let no : is_cut (pcap.Backwards n) ≡ true = ap is_cut same ∙ cut in absurd cc
after_tests n left captured fault false false false small cut is = cut_data n left captured fault (nat_lt left (16 + captured)) refl small is

cut_rest : (n left captured : ℕ) (fault : PcapFault) (huge fraction late backwards : Bool) → nat_lt captured_limit captured ≡ huge → is_cut fault ≡ true
    → option_or (cond huge (Some (pcap.Huge n)) (cond fraction (Some (pcap.Fraction n)) (cond late (Some (pcap.Late n)) (cond backwards (Some (pcap.Backwards n)) None))))
    (cond (nat_lt left (16 + captured)) (Some (pcap.CutData n)) None) ≡ Some fault
    → left ≤ longest_record
cut_rest n left captured fault true fraction late backwards huge cut is = let same : pcap.Huge n ≡ fault = cc in let no : is_cut (pcap.Huge n) ≡ true = ap is_cut same ∙ cut in absurd cc
cut_rest n left captured fault false fraction late backwards huge cut is =
    after_tests n left captured fault fraction late backwards (ltb-false captured_limit captured huge) cut is

cut_whole : (f : Format) (last n : ℕ) (rest : List ℕ) (fault : PcapFault) (short : Bool) → nat_lt (length rest) 16 ≡ short → is_cut fault ≡ true
    → cond short (Some (pcap.CutHeader n)) (option_or (head_fault f.resolution last n (head_of f.endian rest)) (data_fault n (head_of f.endian rest) (length rest))) ≡ Some fault
    → length rest ≤ longest_record
cut_whole f last n rest fault true short cut is = let lt = ltb-true (length rest) 16 short in omega (arith, lt)
cut_whole f last n rest fault false short cut is = cut_rest n (length rest) (head_of f.endian rest).captured fault _ _ _ _ refl cut is

pub short_rest : (f : Format) (last n : ℕ) (rest : List ℕ) (fault : PcapFault) → is_cut fault ≡ true → record_fault f last n rest ≡ Some fault → length rest ≤ longest_record
unfolding record_fault
short_rest f last n rest fault cut is = cut_whole f last n rest fault (nat_lt (length rest) 16) refl cut is

-- ---- a header that is cut

no_header : (o : Option Format) (bytes : List ℕ) (fault : PcapFault) → is_cut fault ≡ true → checked_header o bytes ≡ Err fault → length bytes ≤ longest_record
no_header None bytes fault cut is = let same : pcap.Magic ≡ fault = cc in let no : is_cut pcap.Magic ≡ true = ap is_cut same ∙ cut in absurd cc
no_header (Some f) bytes fault cut is = by ((field f.endian 4 2 bytes == 2) && (field f.endian 6 2 bytes == 4)) (field f.endian 20 4 bytes == 1) is where
  by : (version ethernet : Bool) → cond version (cond ethernet (Ok f) (Err (pcap.LinkType (field f.endian 20 4 bytes)))) (Err pcap.Version) ≡ Err fault → length bytes ≤ longest_record
  by true true is = absurd cc
  by true false is = let same : pcap.LinkType (field f.endian 20 4 bytes) ≡ fault = cc in let no : is_cut (pcap.LinkType (field f.endian 20 4 bytes)) ≡ true = ap is_cut same ∙ cut in absurd cc
  by false ethernet is = let same : pcap.Version ≡ fault = cc in let no : is_cut pcap.Version ≡ true = ap is_cut same ∙ cut in absurd cc

cut_header : (bytes : List ℕ) (fault : PcapFault) (short : Bool) → nat_lt (length bytes) 24 ≡ short → is_cut fault ≡ true
    → cond short (Err pcap.NoHeader) (checked_header (format_of (number Big 4 bytes)) bytes) ≡ Err fault → length bytes ≤ longest_record
cut_header bytes fault true short cut is = let lt = ltb-true (length bytes) 24 short in omega (arith, lt)
cut_header bytes fault false short cut is = no_header (format_of (number Big 4 bytes)) bytes fault cut is

pub short_header : (bytes : List ℕ) (fault : PcapFault) → is_cut fault ≡ true → header_of bytes ≡ Err fault → length bytes ≤ longest_record
unfolding header_of
short_header bytes fault cut is = cut_header bytes fault (nat_lt (length bytes) 24) refl cut is

-- ---- the rest of a capture

module _ {Z : Type 0} (link : Alone) (bytes rest : List ℕ) (p : Policing Z) (f : Format) (opened : p.format ≡ Some f) (polices : Polices link bytes rest p) where
  -- where it is no record, and there is some, that is the fault of all
  pub is_fault : (fault : PcapFault) → 0 < length rest → record_fault f p.last (p.count + 1) rest ≡ Some fault → IsFault bytes fault
  is_fault fault more wrong =
      let up_to = read link bytes rest p f opened polices in
      inr (
        f,
        up_to.0,
        record {
          records = polices.seen;
          rest = rest;
          before = up_to.1;
          more = more;
          first = subst (λ (n : ℕ). record_fault f (last_stamp 0 polices.seen) (n + 1) rest ≡ Some fault) polices.count
              (subst (λ (l : ℕ). record_fault f l (p.count + 1) rest ≡ Some fault) polices.last wrong);
        },
      )

-- where nothing is left, all was a capture, and there is its answer
pub answered : {Z : Type 0} (link : Alone) (bytes rest : List ℕ) (p : Policing Z) → Leaves true p.format rest → Polices link bytes rest p → IsAnswer link bytes p.answer.items
answered link bytes rest p left polices = (polices.seen, by p.format refl left, polices.answer_is) where
  by : (o : Option Format) → p.format ≡ o → Leaves true o rest → IsCapture bytes polices.seen
  by None is none = absurd none
  by (Some f) is none =
      let up_to = read link bytes rest p f is polices in
      record { format = f; header = up_to.0; records = subst (λ (later : List ℕ). Splits f 0 (drop 24 bytes) polices.seen later) none up_to.1 }

-- what is wrong once all has come
pub whole_fault : (bytes : List ℕ) (fault : AloneFault) → IsPieceFault bytes true fault → IsFaultOf bytes fault
whole_fault bytes alone.Memory wrong = tt
whole_fault bytes (alone.Capture fault) wrong = wrong.0
