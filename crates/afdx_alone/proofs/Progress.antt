-- What holds while the frames of a capture are offered to a link's account, one after the other.
use Rattle.std.proofs.Common.{◌≡◌, ℕ, ◌+◌, ◌-◌, ◌≤◌, Bool, true, false, cond, List, [], ◌∷◌, ◌++◌, length, take, drop}
use Rattle.std.proofs.Common.{map, Option, Some, None, Ok, refl, sym, ap, subst, ◌∙◌, arith, append-nil, append_assoc, length-append, take-append-drop}
use Rattle.std.specs.Prelude.{filter, IsTrue}
use Rattle.std.proofs.lemmas.List.{map-append, take_rest, length-drop}
use Rattle.std.proofs.lemmas.List.Elements.{filter-append}
use Rattle.afdx_account.specs.declared.byte_account.ByteAccount.{ByteAccount}
use Rattle.afdx_account.specs.declared.frame.Frame.{Frame}
use Rattle.afdx_account.specs.Account.{byte_account_since, byte_account_level}
use Rattle.afdx_account.specs.Policing.{Terms, conforms, passed_of}
use Rattle.afdx_account.specs.Level.{PassesWhatConforms, IsLevelAfter}
use Rattle.afdx_pcap.specs.Record.{Record}
use Rattle.afdx_pcap.specs.declared.format.Format.{Format}
use Rattle.afdx_pcap.specs.Capture.{header_of, Begins, after, Splits}
use Rattle.afdx_pcap.specs.Fault.{last_stamp}
use Rattle.afdx_pcap.specs.Reading.{AreReadUpTo}
use Rattle.afdx_pcap.specs.Text.{capture_text, record_text}
use Rattle.afdx_filter.specs.Frame.{frame_of}
use Rattle.afdx_alone.specs.declared.link.Alone.{Alone}
use Rattle.afdx_alone.specs.Own.{is_own}
use Rattle.afdx_alone.specs.declared.policing.Policing.{Policing}
use Rattle.afdx_alone.specs.Inner.Offer.{IsOffered}
use Rattle.afdx_alone.specs.Answer.{account_terms, passed_of_link}
use Rattle.afdx_alone.specs.Inner.Ground.{Ground}
use Rattle.afdx_alone.specs.Inner.Polices.{own_frames, Progress, IsReadUpTo, Polices, HasOffered}

-- the account with one more frame, which this one is passed or not
pub record Taken (link : Alone) (seen : List Record) (r : Record) (account : ByteAccount) (passes : Bool) : Type 0 where
  pub progress : Progress link (seen ++ r ∷ []) account
  pub passed : passed_of_link link (seen ++ r ∷ []) ≡ cond passes (passed_of_link link seen ++ r ∷ []) (passed_of_link link seen)

-- a frame that is not the link's own
skipped : Ground → (link : Alone) (seen : List Record) (r : Record) (account : ByteAccount)
    → last_stamp 0 seen ≤ r.stamp → is_own link r ≡ false → Progress link seen account → Taken link seen r account false
skipped g link seen r account order other p =
    let before = filter (is_own link) seen in
    let same : filter (is_own link) (seen ++ r ∷ []) ≡ before =
    filter-append (is_own link) seen (r ∷ []) ∙ ap (λ b. before ++ cond b (r ∷ []) []) other ∙ append-nil before in
    let latest = g.latest seen r in
    record {
      progress = record {
        terms = p.terms;
        since = let old = p.since in omega (arith, latest, old, order);
        level = subst (λ (own : List Record). IsLevelAfter (account_terms link) (byte_account_since account) (byte_account_level account (byte_account_since account)) (map frame_of own)) (sym same)
            p.level;
      };
      passed = ap (passed_of frame_of (account_terms link)) same;
    }

-- one of the link's own frames
offered : Ground → (link : Alone) (seen : List Record) (r : Record) (old new : ByteAccount) (answer : Bool)
    → IsTrue (is_own link r) → IsOffered old new (frame_of r) answer → Progress link seen old → Taken link seen r new answer
offered g link seen r old new answer own o p =
    let t = account_terms link in
    let f = frame_of r in
    let before = filter (is_own link) seen in
    let more : filter (is_own link) (seen ++ r ∷ []) ≡ before ++ r ∷ [] =
    filter-append (is_own link) seen (r ∷ []) ∙ ap (λ b. before ++ cond b (r ∷ []) []) own in
    let frames : own_frames link (seen ++ r ∷ []) ≡ own_frames link seen ++ f ∷ [] = ap (map frame_of) more ∙ map-append frame_of before (r ∷ []) in
    let reported = subst (λ (s : Terms). PassesWhatConforms s (byte_account_since old) (byte_account_level old (byte_account_since old)) f.stamp f.size answer (byte_account_level new f.stamp)) p.terms
    o.answers (own_frames link seen) p.level in
    let joins : answer ≡ conforms t (map frame_of (passed_of frame_of t before)) f = reported.0 ∙ ap (λ ps. conforms t ps f) (sym (g.by_frames frame_of t before)) in
    let latest = g.latest seen r in
    let since = o.since in
    record {
      progress = record {
        terms = o.terms ∙ p.terms;
        since = omega (arith, latest, since);
        level = subst (λ (n : ℕ). IsLevelAfter t n (byte_account_level new n) (own_frames link (seen ++ r ∷ []))) (sym o.since)
            (subst (λ (fs : List Frame). IsLevelAfter t f.stamp (byte_account_level new f.stamp) fs) (sym frames) reported.1);
      };
      passed = rw joins (ap (passed_of frame_of t) more ∙ g.next frame_of t before r);
    }

-- the next frame, by what is known of whether it passes
taken : Ground → (link : Alone) (seen : List Record) (r : Record) (old new : ByteAccount) (passes : Bool) → last_stamp 0 seen ≤ r.stamp
    → (IsTrue (is_own link r) → IsOffered old new (frame_of r) passes) → (is_own link r ≡ false → (passes ≡ false) × (new ≡ old))
    → Progress link seen old → Taken link seen r new passes
taken g link seen r old new passes order own others p = go (is_own link r) refl
  where
    go : (b : Bool) → is_own link r ≡ b → Taken link seen r new passes
    go true e = offered g link seen r old new passes e (own e) p
    go false e = let o = others e in rw (o.0, o.1) (skipped g link seen r old order e p)

-- the text with one more record
longer_text : Ground → (passes : Bool) (rs : List Record) (r : Record) (answer : List ℕ) → answer ≡ capture_text rs
    → cond passes (answer ++ record_text r) answer ≡ capture_text (cond passes (rs ++ r ∷ []) rs)
longer_text g false rs r answer is = is
longer_text g true rs r answer is = ap (λ (text : List ℕ). text ++ record_text r) is ∙ sym (g.appended rs r)

-- ---- one more record of the capture

-- what comes after the start of a rest is at the end of all, too
pub further : {bytes : List ℕ} (rest later : List ℕ) (k : ℕ) → (before : List ℕ) × (before ++ rest ≡ bytes) → later ≡ drop k rest → (before : List ℕ) × (before ++ later ≡ bytes)
further {bytes} rest later k (before, is) after-is =
    (before ++ take k rest, append_assoc before (take k rest) later ∙ ap (λ (t : List ℕ). before ++ (take k rest ++ t)) after-is ∙ ap (λ (t : List ℕ). before ++ t) (take-append-drop k rest) ∙ is)

module _ {Z : Type 0} (link : Alone) (bytes rest : List ℕ) (p : Policing Z) (f : Format) (opened : p.format ≡ Some f) (polices : Polices link bytes rest p) where
  pub read : AreReadUpTo f bytes polices.seen rest
  read = subst (λ (o : Option Format). IsReadUpTo o bytes polices.seen rest) opened polices.read

  begins : (r : Record) → Begins f p.last rest r → Begins f (last_stamp 0 polices.seen) rest r
  begins r b = subst (λ (l : ℕ). Begins f l rest r) polices.last b

  -- it may be offered
  pub in_order : (r : Record) → Begins f p.last rest r → byte_account_since p.account ≤ r.stamp
  in_order r b =
      let order = (begins r b).in_order in
      let since = polices.progress.since in
      omega (arith, order, since)

  -- and then the capture is read one record further
  pub one_further : Ground → (new : Policing Z) (r : Record) → Begins f p.last rest r → HasOffered link r p new → Polices link bytes (after r rest) new
  one_further g new r b h =
      let seen = polices.seen in
      let t = taken g link seen r p.account new.account h.passes (begins r b).in_order h.own h.others polices.progress in
      let long = length-append seen (r ∷ []) in
      let before = polices.count in
      let one = h.count in
      record {
        seen = seen ++ r ∷ [];
        read = subst (λ (o : Option Format). IsReadUpTo o bytes (seen ++ r ∷ []) (after r rest)) (sym (h.format ∙ opened)) (g.read_on f bytes rest seen r read (begins r b));
        last = h.last ∙ sym (g.latest seen r);
        count = omega (arith, long, before, one);
        progress = t.progress;
        answer_is = h.answer ∙ longer_text g h.passes (passed_of_link link seen) r p.answer.items polices.answer_is ∙ ap capture_text (sym t.passed);
      }

-- ---- one record after the other

-- while the records of some bytes are taken: what was known of what was read before is known up to the rest
pub record GoesOn {Z : Type 0} (link : Alone) (f : Format) (bytes rest : List ℕ) (start p : Policing Z) : Type 0 where
  pub polices : (all : List ℕ) → Polices link all bytes start → Polices link all rest p
  pub opened : p.format ≡ Some f
  pub few : p.count + length rest ≤ start.count + length bytes
  pub last : (before : List ℕ) × (before ++ rest ≡ bytes)

pub goes_on : {Z : Type 0} → Ground → (link : Alone) (f : Format) (bytes rest later : List ℕ) (start p new : Policing Z) (r : Record) → GoesOn link f bytes rest start p
    → Begins f p.last rest r → later ≡ after r rest → HasOffered link r p new → GoesOn link f bytes later start new
goes_on g link f bytes rest later start p new r i begins is taken =
    let whole = begins.whole in
    let before = i.few in
    let one = taken.count in
    let same = ap length is in
    let long = length-drop (16 + length r.bytes) rest in
    record {
      polices = λ all polices. subst (λ (left : List ℕ). Polices link all left new) (sym is) (one_further link all rest p f i.opened (i.polices all polices) g new r begins taken);
      opened = taken.format ∙ i.opened;
      few = omega (arith, whole, before, one, same, long);
      last = further rest later (16 + length r.bytes) i.last is;
    }

-- ---- the header

module _ {Z : Type 0} (link : Alone) (all bytes : List ℕ) (p : Policing Z) (f : Format) (unread : p.format ≡ None) (polices : Polices link all bytes p) where
  pub unopened : (polices.seen ≡ []) × (bytes ≡ all)
  unopened = subst (λ (o : Option Format). IsReadUpTo o all polices.seen bytes) unread polices.read

  -- once it was read, nothing else was
  pub opens : header_of bytes ≡ Ok f → Polices link all (take (length bytes - 24) (drop 24 bytes)) (record p { format = Some f })
  opens is =
      let whole = unopened.1 in
      record {
        seen = polices.seen;
        read = (
          ap header_of (sym whole) ∙ is,
          subst (λ (seen : List Record). Splits f 0 (drop 24 all) seen (take (length bytes - 24) (drop 24 bytes))) (sym unopened.0) (ap (drop 24) (sym whole) ∙ sym (take_rest bytes 24)),
        );
        last = polices.last;
        count = polices.count;
        progress = polices.progress;
        answer_is = polices.answer_is;
      }
