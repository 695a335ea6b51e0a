-- What has left so far is a prefix of what has left later.
use Rattle.std.proofs.Common.{◌≡◌, ℕ, ◌<◌, ◌≤◌, nat_lt, nat_le, Bool, true, false, cond, List, [], ◌∷◌, ◌++◌, map, filter, Option, Some, None, refl, ap, sym, ◌∙◌, arith, inl, inr, subst, append_assoc}
use Rattle.std.specs.List.{AllByRecursion, flat_map}
use Rattle.std.proofs.lemmas.List.{append-nil, map-append}
use Rattle.std.proofs.lemmas.List.Elements.{filter-append, All-filter, All-from_recursion, recursion_from_All}
use Rattle.std.proofs.lemmas.Grind.{flat_map-append}
use Rattle.std.proofs.lemmas.Bool.{cases_Bool, leb-true, leb-false, both_ways, cond-true, cond-false}
use Rattle.std.proofs.lemmas.Bool.Decides.{nat_tests}
use Rattle.std.proofs.lemmas.Option.{same_Some}
use Rattle.afdx_pcap.specs.Record.{Record}
use Rattle.afdx_pcap.specs.Fault.{last_stamp}
use Rattle.afdx_pcap.specs.Text.{header_text, record_text, capture_text}
use Rattle.afdx_table.specs.declared.rows.PortRow.{PortRow}
use Rattle.afdx_table.specs.Content.{Content}
use Rattle.afdx_port.specs.declared.Sent.{Sent}
use Rattle.afdx_port.specs.Service.{reach}
use Rattle.afdx_port.specs.Admission.{admitted}
use Rattle.afdx_port.specs.Inner.Admission.{EarlierEventsStayAdmitted}
use Rattle.afdx_port.specs.Inner.Order.{ReachesInOrder}
use Rattle.afdx_port.specs.Inner.Events.{SentGoesOn}
use Rattle.afdx_isolation.specs.Table.{settings_of}
use Rattle.afdx_core.specs.Rows.{feed_of}
use Rattle.afdx_core.specs.Merge.{Arrival, Capture, Rises, arrivals_of, placed, by_stamp, merged}
use Rattle.afdx_core.specs.Inner.Merge.{AreInOrder, ByStampIsOrdered}
use Rattle.afdx_session.specs.Output.{rows_of, sent_by, written, output_of, output_text}
use Rattle.afdx_session.specs.Streams.{Stream, captures_of, last_of, merged_so_far, least, frontier, sent_up_to, output_so_far, text_so_far, GoesOn, GoOn, whole_of}
use Rattle.afdx_session.proofs.Joining.{AllFrom, first-placed, later-placed, frames-from, weaken, records_weaken}
use Rattle.afdx_session.proofs.Later.{same_sent, same_bytes}

-- ---- a filter of what is by stamp

-- what passes of arrivals and one more in its place
filter-placed : (p : Arrival → Bool) (a : Arrival) (xs : List Arrival) → AreInOrder xs → filter p (placed a xs) ≡ cond (p a) (placed a (filter p xs)) (filter p xs)
filter-placed p a [] rises = refl
filter-placed p a (b ∷ xs) rises =
    elim (cases_Bool (nat_le a.frame.stamp b.frame.stamp)) [
      | inl sooner ↦
          let le = leb-true a.frame.stamp b.frame.stamp sooner in
          let all : AllFrom a.frame.stamp (b ∷ xs) = (le, weaken b.frame.stamp a.frame.stamp xs le (frames-from b.frame.stamp xs rises.0)) in
          let kept = All-filter p (λ (c : Arrival). a.frame.stamp ≤ c.frame.stamp) (b ∷ xs) (All-from_recursion (λ (c : Arrival). a.frame.stamp ≤ c.frame.stamp) (b ∷ xs) all) in
          let from : AllFrom a.frame.stamp (filter p (b ∷ xs)) = recursion_from_All (λ (c : Arrival). a.frame.stamp ≤ c.frame.stamp) (filter p (b ∷ xs)) kept in
          rw sooner (ap (λ more. cond (p a) more (filter p (b ∷ xs))) (sym (first-placed a (filter p (b ∷ xs)) from)))
      | inr after ↦
          let lt = leb-false a.frame.stamp b.frame.stamp after in
          rw after (by_own (p b) refl lt (filter-placed p a xs rises.1))
    ] where
      by_own : (t : Bool) → p b ≡ t → b.frame.stamp < a.frame.stamp → filter p (placed a xs) ≡ cond (p a) (placed a (filter p xs)) (filter p xs)
          → filter p (b ∷ placed a xs) ≡ cond (p a) (placed a (filter p (b ∷ xs))) (filter p (b ∷ xs))
      by_own true is lt ih =
          cond-true (p b) (b ∷ filter p (placed a xs)) (filter p (placed a xs)) is ∙ ap (λ more. b ∷ more) ih
          ∙ inside (p a)
          ∙ ap (λ more. cond (p a) (placed a more) more) (sym (cond-true (p b) (b ∷ filter p xs) (filter p xs) is)) where
            inside : (u : Bool) → b ∷ cond u (placed a (filter p xs)) (filter p xs) ≡ cond u (placed a (b ∷ filter p xs)) (b ∷ filter p xs)
            inside true = sym (later-placed a b (filter p xs) lt)
            inside false = refl
      by_own false is lt ih =
          cond-false (p b) (b ∷ filter p (placed a xs)) (filter p (placed a xs)) is ∙ ih
          ∙ ap (λ more. cond (p a) (placed a more) more) (sym (cond-false (p b) (b ∷ filter p xs) (filter p xs) is))

pub filter-by_stamp : ByStampIsOrdered → (p : Arrival → Bool) (xs : List Arrival) → filter p (by_stamp xs) ≡ by_stamp (filter p xs)
filter-by_stamp ordered p [] = refl
filter-by_stamp ordered p (a ∷ xs) =
    filter-placed p a (by_stamp xs) (ordered xs).in_order
    ∙ ap (λ more. cond (p a) (placed a more) more) (filter-by_stamp ordered p xs)
    ∙ inside (p a) where
      inside : (u : Bool) → cond u (placed a (by_stamp (filter p xs))) (by_stamp (filter p xs)) ≡ by_stamp (cond u (a ∷ filter p xs) (filter p xs))
      inside true = refl
      inside false = refl

-- ---- those before an instant

abbrev pub is_early : ℕ → Arrival → Bool
is_early h a = nat_lt a.frame.stamp h

early_not : (h : ℕ) (a : Arrival) → h ≤ a.frame.stamp → is_early h a ≡ false
early_not h a le = grind (arith, nat_tests)

not_early : (h : ℕ) (a : Arrival) → is_early h a ≡ false → h ≤ a.frame.stamp
not_early h a is = grind (arith, nat_tests)

none_early : (h : ℕ) (xs : List Arrival) → AllFrom h xs → filter (is_early h) xs ≡ []
none_early h [] all = refl
none_early h (a ∷ xs) all = cond-false (is_early h a) (a ∷ filter (is_early h) xs) (filter (is_early h) xs) (early_not h a all.0) ∙ none_early h xs all.1

-- arrivals by stamp are those before an instant, and then others
pub record IsCut (h : ℕ) (arrivals : List Arrival) : Type 0 where
  pub rest : List Arrival
  pub whole : arrivals ≡ filter (is_early h) arrivals ++ rest
  pub later : AllFrom h rest

pub cut : (h : ℕ) (arrivals : List Arrival) → AreInOrder arrivals → IsCut h arrivals
cut h [] rises = record { rest = []; whole = refl; later = tt }
cut h (a ∷ arrivals) rises = by_first (is_early h a) refl (cut h arrivals rises.1) where
  by_first : (b : Bool) → is_early h a ≡ b → IsCut h arrivals → IsCut h (a ∷ arrivals)
  by_first true is c = record {
    rest = c.rest;
    whole = ap (λ more. a ∷ more) c.whole ∙ ap (λ more. more ++ c.rest) (sym (cond-true (is_early h a) (a ∷ filter (is_early h) arrivals) (filter (is_early h) arrivals) is));
    later = c.later;
  }
  by_first false is c =
      let le = not_early h a is in
      let all : AllFrom h (a ∷ arrivals) = (le, weaken a.frame.stamp h arrivals le (frames-from a.frame.stamp arrivals rises.0)) in
      record {
        rest = a ∷ arrivals;
        whole = ap (λ more. more ++ a ∷ arrivals) (sym (none_early h (a ∷ arrivals) all));
        later = all;
      }

-- ---- captures that go on

-- further records come no sooner than the last one
further : (last : ℕ) (rs more : List Record) → AllByRecursion (λ (r : Record). last ≤ r.stamp) (rs ++ more) → Rises (rs ++ more) → AllByRecursion (λ (r : Record). last_stamp last rs ≤ r.stamp) more
further last [] more all rises = all
further last (r ∷ rs) more all rises = further r.stamp rs more rises.0 rises.1

from_zero : (rs : List Record) → AllByRecursion (λ (r : Record). 0 ≤ r.stamp) rs
from_zero [] = tt
from_zero (r ∷ rs) = (omega arith, from_zero rs)

pub further_of : (s later : Stream) (on : GoesOn s later) → AllByRecursion (λ (r : Record). last_of s ≤ r.stamp) on.more
further_of s later on = further 0 s.records on.more (from_zero (s.records ++ on.more)) (subst Rises on.records on.in_order)

-- and the last of them comes no sooner
last_after : (last : ℕ) (more : List Record) → AllByRecursion (λ (r : Record). last ≤ r.stamp) more → Rises more → last ≤ last_stamp last more
last_after last [] all rises = omega arith
last_after last (r ∷ more) all rises = let le = last_after r.stamp more rises.0 rises.1 in omega (arith, le, all.0)

last-append : (last : ℕ) (rs more : List Record) → last_stamp last (rs ++ more) ≡ last_stamp (last_stamp last rs) more
last-append last [] more = refl
last-append last (r ∷ rs) more = last-append r.stamp rs more

pub rises_back : (rs more : List Record) → Rises (rs ++ more) → Rises more
rises_back [] more rises = rises
rises_back (r ∷ rs) more rises = rises_back rs more rises.1

pub last_grows : (s later : Stream) → GoesOn s later → last_of s ≤ last_of later
last_grows s later on =
    let le = last_after (last_of s) on.more (further_of s later on) (rises_back s.records on.more (subst Rises on.records on.in_order)) in
    let same = ap (last_stamp 0) on.records ∙ last-append 0 s.records on.more in
    omega (arith, le, same)

-- ---- the frontier

-- each capture that has not ended has come to the instant
abbrev pub HaveReached : ℕ → List Stream → Type 0
HaveReached h streams = AllByRecursion (λ (s : Stream). s.closed ≡ false → h ≤ last_of s) streams

least_first : (n : ℕ) (m : Option ℕ) → least n m ≤ n
least_first n None = omega arith
least_first n (Some m) = omega arith

least_other : (n m : ℕ) → least n (Some m) ≤ m
least_other n m = omega arith

pub reached-weaken : (h k : ℕ) (streams : List Stream) → h ≤ k → HaveReached k streams → HaveReached h streams
reached-weaken h k [] le all = tt
reached-weaken h k (s ∷ streams) le all = ((λ (still_open : s.closed ≡ false). let here = all.0 still_open in omega (arith, le, here)), reached-weaken h k streams le all.1)

pub frontier-closed : (s : Stream) (streams : List Stream) → s.closed ≡ true → frontier (s ∷ streams) ≡ frontier streams
frontier-closed s streams is = ap (λ b. cond b (frontier streams) (Some (least (last_of s) (frontier streams)))) is

pub frontier-open : (s : Stream) (streams : List Stream) → s.closed ≡ false → frontier (s ∷ streams) ≡ Some (least (last_of s) (frontier streams))
frontier-open s streams is = ap (λ b. cond b (frontier streams) (Some (least (last_of s) (frontier streams)))) is

-- where there is none, all have ended
abbrev pub AllEnded : List Stream → Type 0
AllEnded streams = AllByRecursion (λ (s : Stream). s.closed ≡ true) streams

pub all_ended : (streams : List Stream) → frontier streams ≡ None → AllEnded streams
all_ended [] none = tt
all_ended (s ∷ streams) none = elim (cases_Bool s.closed) [
  | inl closed ↦ (closed, all_ended streams (sym (frontier-closed s streams closed) ∙ none))
  | inr still_open ↦ absurd (clash (sym (frontier-open s streams still_open) ∙ none))
] where
  clash : Some (least (last_of s) (frontier streams)) ≡ None → ⊥
  clash e = cc

pub have_reached : (streams : List Stream) (h : ℕ) → frontier streams ≡ Some h → HaveReached h streams
have_reached [] h is = tt
have_reached (s ∷ streams) h is = elim (cases_Bool s.closed) [
  | inl closed ↦ ((λ (still_open : s.closed ≡ false). absurd (both_ways s.closed still_open closed)), have_reached streams h (sym (frontier-closed s streams closed) ∙ is))
  | inr still_open ↦ by_rest (frontier streams) refl (same_Some _ h (sym (frontier-open s streams still_open) ∙ is)) (λ m some. have_reached streams m some)
] where
  ended : (more : List Stream) → AllByRecursion (λ (u : Stream). u.closed ≡ true) more → HaveReached h more
  ended [] all = tt
  ended (u ∷ more) all = ((λ (still_open : u.closed ≡ false). absurd (both u all.0 still_open)), ended more all.1) where
    both : (u : Stream) → u.closed ≡ true → u.closed ≡ false → ⊥
    both u one other = absurd cc

  by_rest : (rest : Option ℕ) → frontier streams ≡ rest → least (last_of s) rest ≡ h → ((m : ℕ) → frontier streams ≡ Some m → HaveReached m streams) → HaveReached h (s ∷ streams)
  by_rest None none same reached = let le = least_first (last_of s) None in ((λ (still_open : s.closed ≡ false). omega (arith, le, same)), ended streams (all_ended streams none))
  by_rest (Some m) some same reached =
      let le = least_first (last_of s) (Some m) in
      let other = least_other (last_of s) m in
      ((λ (still_open : s.closed ≡ false). omega (arith, le, same)), reached-weaken h m streams (omega (arith, other, same)) (reached m some))

-- an instant that all have reached is no later than the frontier
pub frontier_above : (h k : ℕ) (streams : List Stream) → HaveReached h streams → frontier streams ≡ Some k → h ≤ k
frontier_above h k [] all is = absurd cc
frontier_above h k (s ∷ streams) all is = elim (cases_Bool s.closed) [
  | inl closed ↦ frontier_above h k streams all.1 (sym (frontier-closed s streams closed) ∙ is)
  | inr still_open ↦ by_rest (frontier streams) refl (all.0 still_open) (same_Some _ k (sym (frontier-open s streams still_open) ∙ is)) (λ m some. frontier_above h m streams all.1 some)
] where
  by_rest : (rest : Option ℕ) → frontier streams ≡ rest → h ≤ last_of s → least (last_of s) rest ≡ k → ((m : ℕ) → frontier streams ≡ Some m → h ≤ m) → h ≤ k
  by_rest None none le same above = omega (arith, le, same)
  by_rest (Some m) some le same above = let other = above m some in omega (arith, le, other, same)

-- it stays reached
pub reached_on : (h : ℕ) (streams later : List Stream) → HaveReached h streams → GoOn streams later → HaveReached h later
reached_on h [] [] all on = tt
reached_on h [] (next ∷ later) all on = absurd on
reached_on h (s ∷ streams) [] all on = absurd on
reached_on h (s ∷ streams) (next ∷ later) all on = (
  (λ (still_open : next.closed ≡ false). elim (cases_Bool s.closed) [
    | inl closed ↦ absurd (both_ways next.closed still_open (on.0.ended closed).1)
    | inr was_open ↦ let here = all.0 was_open in let grows = last_grows s next on.0 in omega (arith, here, grows)
  ]),
  reached_on h streams later all.1 on.1,
)

-- ---- what comes before it stays

all_at : (h port : ℕ) (rs : List Record) → AllByRecursion (λ (r : Record). h ≤ r.stamp) rs → AllFrom h (map {B = Arrival} (λ (r : Record). record { port = port; frame = r }) rs)
all_at h port [] all = tt
all_at h port (r ∷ rs) all = (all.0, all_at h port rs all.1)

-- what a capture adds comes at the instant or later
pub more_from : (h : ℕ) (s later : Stream) (on : GoesOn s later) → (s.closed ≡ false → h ≤ last_of s) → AllByRecursion (λ (r : Record). h ≤ r.stamp) on.more
more_from h s later on reached = elim (cases_Bool s.closed) [
  | inl closed ↦ subst (λ (rs : List Record). AllByRecursion (λ (r : Record). h ≤ r.stamp) rs) (sym (on.ended closed).0) tt
  | inr still_open ↦ records_weaken (last_of s) h on.more (reached still_open) (further_of s later on)
]

early_same : (h : ℕ) (streams later : List Stream) → HaveReached h streams → GoOn streams later → filter (is_early h) (arrivals_of (captures_of later))
    ≡ filter (is_early h) (arrivals_of (captures_of streams))
early_same h [] [] all on = refl
early_same h [] (next ∷ later) all on = absurd on
early_same h (s ∷ streams) [] all on = absurd on
early_same h (s ∷ streams) (next ∷ later) all on =
    let f : ℕ → List Record → List Arrival = λ port rs. map (λ (r : Record). record { port = port; frame = r }) rs in
    let others = arrivals_of (captures_of later) in
    filter-append (is_early h) (f next.port next.records) others
    ∙ ap (λ port. filter (is_early h) (f port next.records) ++ filter (is_early h) others) on.0.port
    ∙ ap (λ rs. filter (is_early h) (f s.port rs) ++ filter (is_early h) others) on.0.records
    ∙ ap (λ xs. filter (is_early h) xs ++ filter (is_early h) others) (map-append {B = Arrival} (λ (r : Record). record { port = s.port; frame = r }) s.records on.0.more)
    ∙ ap (λ xs. xs ++ filter (is_early h) others) (filter-append (is_early h) (f s.port s.records) (f s.port on.0.more))
    ∙ ap (λ xs. (filter (is_early h) (f s.port s.records) ++ xs) ++ filter (is_early h) others) (none_early h (f s.port on.0.more) (all_at h s.port on.0.more (more_from h s next on.0 all.0)))
    ∙ ap (λ xs. xs ++ filter (is_early h) others) (append-nil (filter (is_early h) (f s.port s.records)))
    ∙ ap (λ xs. filter (is_early h) (f s.port s.records) ++ xs) (early_same h streams later all.1 on.1)
    ∙ sym (filter-append (is_early h) (f s.port s.records) (arrivals_of (captures_of streams)))

pub early_merged : ByStampIsOrdered → (h : ℕ) (streams later : List Stream) → HaveReached h streams → GoOn streams later
    → filter (is_early h) (merged_so_far later) ≡ filter (is_early h) (merged_so_far streams)
early_merged ordered h streams later all on =
    filter-by_stamp ordered (is_early h) (arrivals_of (captures_of later))
    ∙ ap by_stamp (early_same h streams later all on)
    ∙ sym (filter-by_stamp ordered (is_early h) (arrivals_of (captures_of streams)))

-- where all have ended, nothing is added
all_same : (streams later : List Stream) → AllEnded streams → GoOn streams later → (captures_of later ≡ captures_of streams) × AllEnded later
all_same [] [] all on = (refl, tt)
all_same [] (next ∷ later) all on = absurd on
all_same (s ∷ streams) [] all on = absurd on
all_same (s ∷ streams) (next ∷ later) all on =
    let more = all_same streams later all.1 on.1 in
    let ended = on.0.ended all.0 in
    let same : next.records ≡ s.records = on.0.records ∙ ap (λ rs. s.records ++ rs) ended.0 ∙ append-nil s.records in (
      ap (λ port. record { port = port; records = next.records } ∷ captures_of later) on.0.port
          ∙ ap (λ rs. record { port = s.port; records = rs } ∷ captures_of later) same
          ∙ ap (λ cs. record { port = s.port; records = s.records } ∷ cs) more.0,
      (ended.1, more.1),
    )

pub no_frontier : (streams : List Stream) → AllEnded streams → frontier streams ≡ None
no_frontier [] all = refl
no_frontier (s ∷ streams) all = frontier-closed s streams all.0 ∙ no_frontier streams all.1

-- ---- events

-- what is sent before an instant is a prefix of what is sent up to a later one, or in the end
abbrev pub IsBeyond : ℕ → Option ℕ → Type 0
IsBeyond h None = Unit {0}
IsBeyond h (Some k) = h ≤ k

pub sent_later : SentGoesOn → ReachesInOrder → (t : Content) (arrivals : List Arrival) (h : ℕ) (k : Option ℕ) (p : PortRow) → IsBeyond h k
    → (rest : List Sent) × (sent_up_to t arrivals k p ≡ sent_up_to t arrivals (Some h) p ++ rest)
unfolding sent_up_to
sent_later goes_on reaches t arrivals h None p beyond =
    let s = settings_of t.latency p in
    goes_on.in_the_end s (reach s h) (admitted s (feed_of t p.id (rows_of t arrivals)))
sent_later goes_on reaches t arrivals h (Some k) p beyond =
    let s = settings_of t.latency p in
    goes_on.until s (reach s h) (reach s k) (admitted s (feed_of t p.id (rows_of t arrivals))) (reaches s h k beyond)

-- ---- the laws

-- the records that leave before an instant that all have reached are those of the arrivals before it
pub early_output : EarlierEventsStayAdmitted → ReachesInOrder → (t : Content) (h : ℕ) (arrivals : List Arrival) (p : PortRow) → AreInOrder arrivals
    → map (written arrivals) (sent_up_to t arrivals (Some h) p) ≡ map (written (filter (is_early h) arrivals)) (sent_up_to t (filter (is_early h) arrivals) (Some h) p)
early_output stay reaches t h arrivals p rises =
    let c = cut h arrivals rises in
    let early = filter (is_early h) arrivals in
    ap (λ xs. map (written xs) (sent_up_to t xs (Some h) p)) c.whole
    ∙ ap (λ sent. map (written (early ++ c.rest)) sent) (same_sent stay reaches t early c.rest h p c.later)
    ∙ same_bytes t early c.rest (Some h) p

beyond : (h : ℕ) (k : Option ℕ) (streams : List Stream) → frontier streams ≡ k → HaveReached h streams → IsBeyond h k
beyond h None streams is all = tt
beyond h (Some k) streams is all = frontier_above h k streams all is

pub output_grows : ByStampIsOrdered → EarlierEventsStayAdmitted → ReachesInOrder → SentGoesOn → (t : Content) (streams later : List Stream) (p : PortRow) → GoOn streams later
    → (rest : List Record) × (output_so_far t later p ≡ output_so_far t streams p ++ rest)
output_grows ordered stay reaches goes_on t streams later p on = by_frontier (frontier streams) refl where
  by_frontier : (h : Option ℕ) → frontier streams ≡ h → (rest : List Record) × (output_so_far t later p ≡ output_so_far t streams p ++ rest)
  by_frontier None none =
      let same = all_same streams later (all_ended streams none) on in
      let no = no_frontier later same.1 in (
        [],
        ap (λ h. map (written (merged_so_far later)) (sent_up_to t (merged_so_far later) h p)) (no ∙ sym none)
            ∙ ap (λ (cs : List Capture). map (written (merged cs)) (sent_up_to t (merged cs) (frontier streams) p)) same.0
            ∙ sym (append-nil (output_so_far t streams p)),
      )
  by_frontier (Some h) some =
      let all = have_reached streams h some in
      let m = merged_so_far streams in
      let n = merged_so_far later in
      let more = sent_later goes_on reaches t n h (frontier later) p (beyond h (frontier later) later refl (reached_on h streams later all on)) in
      let out : List Arrival → List Record = λ xs. map (written xs) (sent_up_to t xs (Some h) p) in
      let same : out n ≡ out m = early_output stay reaches t h n p (ordered (arrivals_of (captures_of later))).in_order
      ∙ ap out (early_merged ordered h streams later all on)
      ∙ sym (early_output stay reaches t h m p (ordered (arrivals_of (captures_of streams))).in_order) in (
        map (written n) more.0,
        ap (map (written n)) more.1
            ∙ map-append (written n) (sent_up_to t n (Some h) p) more.0
            ∙ ap (λ es. es ++ map (written n) more.0) same
            ∙ ap (λ f. map (written m) (sent_up_to t m f p) ++ map (written n) more.0) (sym some),
      )

pub text_grows : ByStampIsOrdered → EarlierEventsStayAdmitted → ReachesInOrder → SentGoesOn → (t : Content) (streams later : List Stream) (p : PortRow) → GoOn streams later
    → (rest : List ℕ) × (text_so_far t later p ≡ text_so_far t streams p ++ rest)
text_grows ordered stay reaches goes_on t streams later p on =
    let more = output_grows ordered stay reaches goes_on t streams later p on in (
      flat_map record_text more.0,
      ap (λ es. header_text ++ flat_map record_text es) more.1
          ∙ ap (λ text. header_text ++ text) (flat_map-append record_text (output_so_far t streams p) more.0)
          ∙ sym (append_assoc header_text (flat_map record_text (output_so_far t streams p)) (flat_map record_text more.0)),
    )

captures_same : (captures : List Capture) → captures_of (map whole_of captures) ≡ captures
captures_same [] = refl
captures_same (c ∷ captures) = ap (λ cs. c ∷ cs) (captures_same captures)

ended_all : (captures : List Capture) → AllEnded (map whole_of captures)
ended_all [] = tt
ended_all (c ∷ captures) = (refl, ended_all captures)

pub output_of_all : (t : Content) (captures : List Capture) (p : PortRow) → output_so_far t (map whole_of captures) p ≡ output_of t (merged captures) p
unfolding sent_up_to sent_by
output_of_all t captures p =
    ap (λ (cs : List Capture). map (written (merged cs)) (sent_up_to t (merged cs) (frontier (map whole_of captures)) p)) (captures_same captures)
    ∙ ap (λ h. map (written (merged captures)) (sent_up_to t (merged captures) h p)) (no_frontier (map whole_of captures) (ended_all captures))

pub prefix_of_output : ByStampIsOrdered → EarlierEventsStayAdmitted → ReachesInOrder → SentGoesOn → (t : Content) (streams : List Stream) (captures : List Capture) (p : PortRow)
    → GoOn streams (map whole_of captures)
    → (rest : List ℕ) × (output_text t (merged captures) p ≡ text_so_far t streams p ++ rest)
prefix_of_output ordered stay reaches goes_on t streams captures p on =
    let more = text_grows ordered stay reaches goes_on t streams (map whole_of captures) p on in
    (more.0, ap capture_text (sym (output_of_all t captures p)) ∙ more.1)
