-- A reader's place in its bytes, and what it says of them.
use Rattle.std.proofs.Common.{◌≡◌, ◌≢◌, ℕ, ◌+◌, ◌-◌, ◌^◌, ◌<◌, ◌≤◌, Bool, true, false, List, [], ◌∷◌, ◌++◌, length, take, drop, Option, Some, None, Result, Ok, Err}
use Rattle.std.proofs.Common.{sym, ap, subst, ◌∙◌, arith, inl, inr, refl, cond}
use Rattle.std.proofs.Common.{not, ◌||◌}
use Rattle.std.proofs.lemmas.List.{append_assoc, length-drop, length-take, length-append, drop-append-le, drop-drop, nil_from_length}
use Rattle.std.specs.Prelude.{IfNone}
use Rattle.afdx_pcap.specs.declared.format.Format.{Format}
use Rattle.afdx_pcap.specs.declared.progress.Next.{Next}
use Rattle.afdx_pcap.specs.declared.progress.Progress.{Progress}
use Rattle.afdx_pcap.specs.declared.reading.Found.{Found}
use Rattle.afdx_pcap.specs.declared.fault.PcapFault.{PcapFault}
use Rattle.afdx_pcap.specs.declared.fault.PcapFault.TheVariants.{CutHeader}
use Rattle.afdx_pcap.specs.Record.{Record}
use Rattle.afdx_pcap.specs.Capture.{header_of, Begins, after, Splits}
use Rattle.afdx_pcap.specs.Fault.{record_fault, IsFault, IsEarlyFault, is_cut, Breaks, last_stamp}
use Rattle.afdx_pcap.specs.Inner.Place.{At, BeginsAt, Comes, IsAtPlace, IsPlaced, IsRestAnswer, NoneComes, first_place, found_in, next_in, place_of}
use Rattle.afdx_pcap.specs.Reading.{IsNext, HasNext, NoNext, IsSound, Answers, answer_without}
use Rattle.afdx_pcap.proofs.Splitting.{Splits-push, last_stamp-push}
use Rattle.afdx_pcap.proofs.Unique.{prefix, fine_begins, one_record, same_tail, begins_fine, one_fault, one_format}
use Rattle.afdx_pcap.proofs.More.{not_cut, header-more, format_long, Splits-more}

-- what is wrong with the rest, as the next record
abbrev RestFault : List ℕ → ℕ → Progress → PcapFault → Type 0
RestFault rest n p fault = record_fault p.format p.last (n + 1) rest ≡ Some fault

-- ---- a record comes

begins_last : (bytes rest : List ℕ) (n : ℕ) (p : Progress) (r : Record) (at : At bytes rest n p) → Begins p.format p.last rest r → Begins p.format (last_stamp 0 at.given) rest r
begins_last bytes rest n p r at b = subst (λ (l : ℕ). Begins p.format l rest r) at.latest b

next_at : (bytes rest : List ℕ) (n : ℕ) (p : Progress) (r : Record) → At bytes rest n p → Begins p.format p.last rest r → IsNext bytes n r
next_at bytes rest n p r at b = (
  at.given,
  after r rest,
  record { format = p.format; header = at.header; records = Splits-push p.format 0 (drop 24 bytes) at.given rest r at.records (begins_last bytes rest n p r at b) },
  at.count,
)

-- a rest without a fault is a record
fine_next : (bytes rest : List ℕ) (n : ℕ) (p : Progress) → At bytes rest n p → record_fault p.format p.last (n + 1) rest ≡ None → HasNext bytes n
fine_next bytes rest n p at fine = (prefix p.format rest, next_at bytes rest n p _ at (fine_begins p.format p.last (n + 1) rest fine))

-- behind it the bytes are read up to its end
goes_on : (bytes rest : List ℕ) (n : ℕ) (p q : Progress) (r : Record) → At bytes rest n p → Begins p.format p.last rest r → q.format ≡ p.format → q.last ≡ r.stamp
    → At bytes (after r rest) (n + 1) q
goes_on bytes rest n p q r at b format last =
    let fewer = at.fewer in
    let whole = b.whole in
    record {
      given = at.given ++ r ∷ [];
      header = subst (λ (f : Format). header_of bytes ≡ Ok f) (sym format) at.header;
      records = subst (λ (f : Format). Splits f 0 (drop 24 bytes) (at.given ++ r ∷ []) (after r rest)) (sym format)
          (Splits-push p.format 0 (drop 24 bytes) at.given rest r at.records (begins_last bytes rest n p r at b));
      count = let c = at.count in omega (arith, length-append at.given (r ∷ []), c);
      latest = last ∙ sym (last_stamp-push 0 at.given r);
      fewer = omega (arith, length-drop (16 + length r.bytes) rest, whole, fewer);
    }

-- ---- none comes

-- two lists of records, the shorter of which has a fault after it
no_longer : (f : Format) (last n : ℕ) (bytes rest others : List ℕ) (rs qs : List Record) (q : Record) (e : PcapFault) → Splits f last bytes rs rest → Splits f last bytes (qs ++ q ∷ []) others
    → length qs ≡ length rs → record_fault f (last_stamp last rs) n rest ≡ Some e → ⊥
no_longer f last n bytes rest others [] [] q e a b same first =
    let none = begins_fine f last n rest q (subst (λ (t : List ℕ). Begins f last t q) a b.0) in
    cc
no_longer f last n bytes rest others [] (p ∷ qs) q e a b same first = omega arith
no_longer f last n bytes rest others (r ∷ rs) [] q e a b same first = omega arith
no_longer f last n bytes rest others (r ∷ rs) (p ∷ qs) q e a b same first =
    let one = one_record f last last bytes r p a.0 b.0 in
    no_longer f r.stamp n (after r bytes) rest others rs qs q e a.1 (same_tail f bytes r p (qs ++ q ∷ []) others one b.1) (omega arith) first

no_next : (bytes rest : List ℕ) (n : ℕ) (p : Progress) (e : PcapFault) → At bytes rest n p → RestFault rest n p e → NoNext bytes n
no_next bytes rest n p e at fault r next =
    let held = next.2 in
    let same = one_format (header_of bytes) p.format held.format at.header held.header in
    let other : Splits p.format 0 (drop 24 bytes) (next.0 ++ r ∷ []) next.1 = subst (λ (f : Format). Splits f 0 (drop 24 bytes) (next.0 ++ r ∷ []) next.1) (sym same) held.records in
    let first : record_fault p.format (last_stamp 0 at.given) (n + 1) rest ≡ Some e = subst (λ (l : ℕ). record_fault p.format l (n + 1) rest ≡ Some e) at.latest fault in
    no_longer p.format 0 (n + 1) (drop 24 bytes) rest next.1 at.given next.0 r e at.records other (next.3 ∙ sym at.count) first

-- there is no next record where something is wrong with the rest
not_fine : (bytes rest : List ℕ) (n : ℕ) (p : Progress) (o : Option PcapFault) → At bytes rest n p → record_fault p.format p.last (n + 1) rest ≡ o → o ≢ None → NoNext bytes n
not_fine bytes rest n p None at is some = absurd (some refl)
not_fine bytes rest n p (Some e) at is some = no_next bytes rest n p e at is

-- the fault of the rest, numbered as one of the file's
numbered : (bytes rest : List ℕ) (n : ℕ) (p : Progress) (e : PcapFault) (at : At bytes rest n p) → RestFault rest n p e
    → record_fault p.format (last_stamp 0 at.given) (length at.given + 1) rest ≡ Some e
numbered bytes rest n p e at fault =
    subst (λ (m : ℕ). record_fault p.format (last_stamp 0 at.given) (m + 1) rest ≡ Some e) (sym at.count)
    (subst (λ (l : ℕ). record_fault p.format l (n + 1) rest ≡ Some e) at.latest fault)

rest_is_fault : (bytes rest : List ℕ) (n : ℕ) (p : Progress) (e : PcapFault) → At bytes rest n p → RestFault rest n p e → 0 < length rest → IsFault bytes e
rest_is_fault bytes rest n p e at fault more =
    inr (p.format, at.header, record { records = at.given; rest = rest; before = at.records; more = more; first = numbered bytes rest n p e at fault })

none_early : (bytes rest : List ℕ) (n : ℕ) (p : Progress) (e : PcapFault) → At bytes rest n p → RestFault rest n p e → is_cut e ≡ true → (d : PcapFault) → IsEarlyFault bytes d → ⊥
none_early bytes rest n p e at fault cut d (inl h, kept) = let k = at.header in cc
none_early bytes rest n p e at fault cut d (inr (f, h, b), kept) =
    let same = one_format (header_of bytes) p.format f at.header h in
    let other = subst (λ (g : Format). Breaks g (drop 24 bytes) d) (sym same) b in
    not_cut e d cut kept (sym (one_fault p.format 0 1 (drop 24 bytes) other.records at.given other.rest rest d e other.before at.records other.first (numbered bytes rest n p e at fault)))

-- ---- no header yet

no_header_no_next : (bytes : List ℕ) (n : ℕ) (e : PcapFault) → header_of bytes ≡ Err e → NoNext bytes n
no_header_no_next bytes n e h r next = let k = (next.2).header in cc

no_header_none_early : (bytes : List ℕ) (e : PcapFault) → header_of bytes ≡ Err e → is_cut e ≡ true → (d : PcapFault) → IsEarlyFault bytes d → ⊥
no_header_none_early bytes e h cut d (inl k, kept) = let same : e ≡ d = cc in not_cut e d cut kept same
no_header_none_early bytes e h cut d (inr (f, k, b), kept) = cc

-- ---- answers

-- what is wrong with no bytes at all is that the next record's header is cut
cut_at_end : (n : ℕ) (p : Progress) → RestFault [] n p (CutHeader (n + 1))
unfolding record_fault
cut_at_end n p = refl

-- nothing is left, so there is no next record
done_at_end : (bytes : List ℕ) (n : ℕ) (closed : Bool) (p : Progress) → At bytes [] n p → NoNext bytes n × IsSound bytes n closed
done_at_end bytes n true p at = (
  no_next bytes [] n p (CutHeader (n + 1)) at (cut_at_end n p),
  (at.given, record { format = p.format; header = at.header; records = at.records }, at.count),
)
done_at_end bytes n false p at = let cut = cut_at_end n p in (no_next bytes [] n p (CutHeader (n + 1)) at cut, none_early bytes [] n p (CutHeader (n + 1)) at cut refl)

-- a rest that is no record is a fault, or waits for more bytes
rest_answer : (bytes rest : List ℕ) (n : ℕ) (p : Progress) (e : PcapFault) (closed cut : Bool) → At bytes rest n p → RestFault rest n p e → 0 < length rest → is_cut e ≡ cut
    → Answers bytes n closed (answer_without (cond (closed || not cut) (Some e) None))
rest_answer bytes rest n p e true cut at fault more is = λ real. (no_next bytes rest n p e at fault, rest_is_fault bytes rest n p e at fault more)
rest_answer bytes rest n p e false false at fault more is = λ real. (no_next bytes rest n p e at fault, (rest_is_fault bytes rest n p e at fault more, is))
rest_answer bytes rest n p e false true at fault more is = (no_next bytes rest n p e at fault, none_early bytes rest n p e at fault is)

header_answer : (bytes : List ℕ) (n : ℕ) (e : PcapFault) (closed cut : Bool) → header_of bytes ≡ Err e → is_cut e ≡ cut
    → Answers bytes n closed (answer_without (cond (closed || not cut) (Some e) None))
header_answer bytes n e true cut h is = λ real. (no_header_no_next bytes n e h, inl h)
header_answer bytes n e false false h is = λ real. (no_header_no_next bytes n e h, (inl h, is))
header_answer bytes n e false true h is = (no_header_no_next bytes n e h, no_header_none_early bytes e h is)

-- ---- the bytes that are kept

-- what was found in the rest, as a part of all that are kept
abbrev ahead : Progress → Found → Next
ahead p x = record { original = x.original; start = p.place + 16; progress = record { format = p.format; place = p.place + 16 + x.length; last = x.stamp } }

same_part : (kept : List ℕ) (place n : ℕ) → take n (drop 16 (drop place kept)) ≡ take (place + 16 + n - (place + 16)) (drop (place + 16) kept)
same_part kept place n =
    let count : place + 16 + n - (place + 16) ≡ n = omega arith in
    rw (count, drop-drop 16 place kept) refl

same_found : (kept : List ℕ) (p : Progress) (x : Found) → found_in (drop p.place kept) x ≡ next_in kept (ahead p x)
same_found kept p x =
    let made : List ℕ → Record = λ t. record { stamp = x.stamp; original = x.original; bytes = t } in
    ap made (same_part kept p.place x.length)

found_length : (rest : List ℕ) (x : Found) → 16 + x.length ≤ length rest → length (found_in rest x).bytes ≡ x.length
found_length rest x whole = omega (arith, length-take x.length (drop 16 rest), length-drop 16 rest, whole)

pub begins_ahead : (kept : List ℕ) (p : Progress) (x : Found) → p.place ≤ length kept → Begins p.format p.last (drop p.place kept) (found_in (drop p.place kept) x)
    → 16 + x.length ≤ length (drop p.place kept) → BeginsAt kept p (ahead p x)
begins_ahead kept p x within b whole =
    let limit = b.not_huge in
    let long = found_length (drop p.place kept) x whole in
    let same = same_found kept p x in
    record {
      begins = subst (Begins p.format p.last (drop p.place kept)) same b;
      part = record {
        order = omega arith;
        within = omega (arith, length-drop p.place kept, whole, within);
        limit = omega (arith, limit, long);
      };
      format = refl;
      place = let bytes = ap (λ (r : Record). length r.bytes) same in omega (arith, long, bytes);
    }

-- behind the header nothing is given yet
at_first : (kept : List ℕ) (f : Format) → header_of kept ≡ Ok f → At kept (drop 24 kept) 0 (record { format = f; place = 24; last = 0 })
at_first kept f h = record {
  given = [];
  header = h;
  records = refl;
  count = refl;
  latest = refl;
  fewer = omega (arith, format_long kept f h, length-drop 24 kept);
}

first_is : (kept : List ℕ) (r : Result Format PcapFault) (p : Progress) → header_of kept ≡ r → first_place r ≡ Ok p → At kept (drop p.place kept) 0 p
first_is kept (Ok f) p h is =
    let same : record { format = f; place = 24; last = 0 } ≡ p = cc in
    subst (λ (q : Progress). At kept (drop q.place kept) 0 q) same (at_first kept f h)
first_is kept (Err e) p h is = absurd cc

-- all bytes are read up to the place
at_place : (gone kept : List ℕ) (n : ℕ) (o : Option Progress) (p : Progress) → IsAtPlace gone kept n o → place_of kept o ≡ Ok p → At (gone ++ kept) (drop p.place kept) n p
at_place gone kept n None p (none, zero) is = rw (none, zero) (first_is kept (header_of kept) p refl is)
at_place gone kept n (Some q) p at is =
    let same : q ≡ p = cc in
    subst (λ (s : Progress). At (gone ++ kept) (drop s.place kept) n s) same at

-- the record that comes is the next one
pub comes_next : (gone kept : List ℕ) (n : ℕ) (o : Option Progress) (x : Next) → IsAtPlace gone kept n o → Comes kept o x → IsNext (gone ++ kept) n (next_in kept x)
comes_next gone kept n o x place (p, is, b) = next_at (gone ++ kept) (drop p.place kept) n p (next_in kept x) (at_place gone kept n o p place is) b.begins

-- and leads on
pub comes_on : (gone kept : List ℕ) (n : ℕ) (o : Option Progress) (x : Next) → IsAtPlace gone kept n o → Comes kept o x → IsAtPlace gone kept (n + 1) (Some x.progress)
comes_on gone kept n o x place (p, is, b) =
    let r = next_in kept x in
    let rest-at : after r (drop p.place kept) ≡ drop x.progress.place kept = drop-drop (16 + length r.bytes) p.place kept ∙ ap (λ (k : ℕ). drop k kept) (sym b.place) in
    subst (λ (t : List ℕ). At (gone ++ kept) t (n + 1) x.progress) rest-at (goes_on (gone ++ kept) (drop p.place kept) n p x.progress r (at_place gone kept n o p place is) b.begins b.format refl)

header_wrong : (r : Result Format PcapFault) (e : PcapFault) → first_place r ≡ Err e → r ≡ Err e
header_wrong (Ok f) e is = absurd cc
header_wrong (Err d) e is = cc

-- where there is no place, the header of all bytes is wrong
no_place : (gone kept : List ℕ) (n : ℕ) (o : Option Progress) (e : PcapFault) → IsAtPlace gone kept n o → place_of kept o ≡ Err e → header_of (gone ++ kept) ≡ Err e
no_place gone kept n None e (none, zero) is = rw none (header_wrong (header_of kept) e is)
no_place gone kept n (Some p) e at is = absurd cc

-- there is no next record where none comes
none_next : (gone kept : List ℕ) (n : ℕ) (o : Option Progress) (q : Result Progress PcapFault) → IsAtPlace gone kept n o → place_of kept o ≡ q → NoneComes kept n o → NoNext (gone ++ kept) n
none_next gone kept n o (Ok p) place is none = not_fine (gone ++ kept) (drop p.place kept) n p _ (at_place gone kept n o p place is) refl (none p is)
none_next gone kept n o (Err e) place is none = no_header_no_next (gone ++ kept) n e (no_place gone kept n o e place is)

pub comes_not : (gone kept : List ℕ) (n : ℕ) (o : Option Progress) → IsAtPlace gone kept n o → NoneComes kept n o → NoNext (gone ++ kept) n
comes_not gone kept n o place none = none_next gone kept n o (place_of kept o) place refl none

pub none_comes : (gone kept : List ℕ) (n : ℕ) (o : Option Progress) → IsAtPlace gone kept n o → NoNext (gone ++ kept) n → NoneComes kept n o
none_comes gone kept n o place none p is fine = let next = fine_next (gone ++ kept) (drop p.place kept) n p (at_place gone kept n o p place is) fine in none next.0 next.1

-- what is said of the rest is the answer
said : (gone kept : List ℕ) (n : ℕ) (closed : Bool) (o : Option Progress) (q : Result Progress PcapFault) (answer : Option PcapFault) → IsAtPlace gone kept n o → place_of kept o ≡ q
    → IsPlaced kept n o → IsRestAnswer kept n closed q answer → Answers (gone ++ kept) n closed (answer_without answer)
said gone kept n closed o (Err e) answer place is placed says = rw says (header_answer (gone ++ kept) n e closed (is_cut e) (no_place gone kept n o e place is) refl)
said gone kept n closed o (Ok p) answer place is placed (inl (end, says)) =
    let nothing : drop p.place kept ≡ [] = nil_from_length (drop p.place kept) (omega (arith, length-drop p.place kept, end)) in
    rw says (done_at_end (gone ++ kept) n closed p (rw (← nothing) (at_place gone kept n o p place is)))
said gone kept n closed o (Ok p) answer place is placed (inr (e, fault, more, says)) =
    let at = at_place gone kept n o p place is in
    rw says (rest_answer (gone ++ kept) (drop p.place kept) n p e closed (is_cut e) at fault (omega (arith, length-drop p.place kept, more)) refl)

pub rest_says : (gone kept : List ℕ) (n : ℕ) (closed : Bool) (o : Option Progress) (answer : Option PcapFault) → IsAtPlace gone kept n o → IsPlaced kept n o
    → IsRestAnswer kept n closed (place_of kept o) answer → Answers (gone ++ kept) n closed (answer_without answer)
rest_says gone kept n closed o answer place placed says = said gone kept n closed o (place_of kept o) answer place refl placed says

-- the reader stays within what it keeps
pub placed_on : (kept : List ℕ) (n : ℕ) (o : Option Progress) (x : Next) → IsPlaced kept n o → Comes kept o x → IsPlaced kept (n + 1) (Some x.progress)
placed_on kept n None x placed (p, is, b) =
    let countable = placed.countable in
    let within = b.part.within in
    let place = b.place in
    record { within = within; countable = omega (arith, length-drop x.progress.place kept, countable, within, place) }
placed_on kept n (Some q) x placed (p, is, b) =
    let same : q ≡ p = cc in
    let places : q.place ≡ p.place = ap (λ (s : Progress). s.place) same in
    let countable = placed.countable in
    let within = b.part.within in
    let place = b.place in
    record { within = within; countable = omega (arith, length-drop x.progress.place kept, length-drop q.place kept, places, countable, within, place) }

-- ---- more bytes

at_place_more : (gone kept more : List ℕ) (n : ℕ) (o : Option Progress) → IsPlaced kept n o → IsAtPlace gone kept n o → IsAtPlace gone (kept ++ more) n o
at_place_more gone kept more n None placed place = place
at_place_more gone kept more n (Some p) placed at =
    let bytes = gone ++ kept in
    let long = format_long bytes p.format at.header in
    let fewer = at.fewer in
    let longer : At (bytes ++ more) (drop p.place kept ++ more) n p = record {
      given = at.given;
      header = header-more bytes more long ∙ at.header;
      records = rw (drop-append-le 24 bytes more long) (Splits-more p.format 0 (drop 24 bytes) more at.given (drop p.place kept) at.records);
      count = at.count;
      latest = at.latest;
      fewer = omega (arith, length-append bytes more, length-append (drop p.place kept) more, fewer);
    } in
    rw (drop-append-le p.place kept more placed.within, ← append_assoc gone kept more) longer

placed_more : (kept more : List ℕ) (n : ℕ) (o : Option Progress) → IsPlaced kept n o → n + length kept + length more < 2 ^ 64 - 1 → IsPlaced (kept ++ more) n o
placed_more kept more n None placed few = record { within = tt; countable = omega (arith, length-append kept more, few) }
placed_more kept more n (Some p) placed few =
    let within = placed.within in
    record { within = omega (arith, length-append kept more, within); countable = omega (arith, length-append kept more, length-drop p.place (kept ++ more), few) }

-- the same where they may have come or not
pub fed : (came : Bool) (gone kept more : List ℕ) (n : ℕ) (o : Option Progress) → IsAtPlace gone kept n o → IsPlaced kept n o → n + length kept + length more < 2 ^ 64 - 1
    → IsAtPlace gone (cond came (kept ++ more) kept) n o × IsPlaced (cond came (kept ++ more) kept) n o
fed true gone kept more n o place placed few = (at_place_more gone kept more n o placed place, placed_more kept more n o placed few)
fed false gone kept more n o place placed few = (place, placed)

-- what holds at all holds where there is none
pub if_none : {T : Type 0} {P : Type 0} (o : Option T) → P → IfNone o P
if_none None h = h
if_none (Some e) h = tt
