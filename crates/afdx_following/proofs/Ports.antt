-- One port of a link: what its pairing was told, and what follows where nothing of it speaks against the switch.
use Rattle.std.proofs.Common.{◌≡◌, ℕ, zero, suc, ◌+◌, ◌*◌, ◌-◌, ◌≤◌, nat_le, min, Bool, true, false, List, [], ◌∷◌, ◌++◌, map, take, drop, length}
use Rattle.std.proofs.Common.{Option, Some, None, refl, sym, ap, subst, ◌∙◌, arith, inl, inr}
use Rattle.std.specs.Prelude.{slice_get}
use Rattle.std.specs.List.{AllByRecursion, position_or_len}
use Rattle.std.proofs.lemmas.Bool.{cases_Bool, leb-false}
use Rattle.std.proofs.lemmas.List.{append-nil, append_assoc, map-append, take-append-drop}
use Rattle.afdx_units.specs.Line.{tick_of}
use Rattle.afdx_pcap.specs.Record.{Record}
use Rattle.afdx_pairing.specs.declared.limits.Limits.{Limits}
use Rattle.afdx_pairing.specs.declared.event.Event.{Event}
use Rattle.afdx_pairing.specs.Events.{Numbered}
use Rattle.afdx_pairing.specs.Limits.{left_at}
use Rattle.afdx_pairing.specs.Pairing.{Pairing, at_first as pairing_at_first, end_told}
use Rattle.afdx_pairing.specs.Kept.{IsKeptFor, Sight, Came, Left, Until, own_of, passed_of, left_of, AreInOrder, after_one, told_by_one, after_all, told_by_all, all_told, FineIsKept}
use Rattle.afdx_following.specs.declared.tally.Tally.{Tally}
use Rattle.afdx_following.specs.Tally.{no_events, tallied, tally_of, conforms_in}
use Rattle.afdx_following.specs.Output.{Output, left_by, with_came, with_waiting, with_sight, with_sights, settled, paired_up_to, earliest, gone_on, last_at, with_end}
use Rattle.afdx_following.specs.Watched.{first_unknown}
use Rattle.afdx_following.specs.Inner.InStep.{ComeInOrder, WaitsBy}
use Rattle.afdx_following.proofs.Counting.{tallied_more, conforms_where_fine}
use Rattle.afdx_following.proofs.Growing.{HaveLeftBy, AreUpTo, after_more, told_more, own_more, passed_more, left_more, order_with_came, order_with_left, order_with_until}
use Rattle.afdx_following.proofs.InStep.{all_more, all_weaker, order_more}

abbrev pub records : List Numbered → List Record
records ns = map (λ n. n.frame) ns

-- ---- sights

left_by_more : (m : Limits) (at : ℕ) (ss : List Sight) (s : Sight) → HaveLeftBy m at ss → HaveLeftBy m at (s ∷ []) → HaveLeftBy m at (ss ++ s ∷ [])
left_by_more m at [] s all one = one
left_by_more m at (Came x passes ∷ ss) s all one = left_by_more m at ss s all one
left_by_more m at (Left x ∷ ss) s all one = (all.0, left_by_more m at ss s all.1 one)
left_by_more m at (Until i ∷ ss) s all one = left_by_more m at ss s all one

left_by_later : (m : Limits) (at later : ℕ) → at ≤ later → (ss : List Sight) → HaveLeftBy m at ss → HaveLeftBy m later ss
left_by_later m at later le [] all = tt
left_by_later m at later le (Came x passes ∷ ss) all = left_by_later m at later le ss all
left_by_later m at later le (Left x ∷ ss) all = (omega (arith, le, all.0), left_by_later m at later le ss all.1)
left_by_later m at later le (Until i ∷ ss) all = left_by_later m at later le ss all

up_to_more : (m : Limits) (at : ℕ) (ss : List Sight) (s : Sight) → AreUpTo m at ss → AreUpTo m at (s ∷ []) → AreUpTo m at (ss ++ s ∷ [])
up_to_more m at [] s all one = one
up_to_more m at (Came x passes ∷ ss) s all one = up_to_more m at ss s all one
up_to_more m at (Left x ∷ ss) s all one = (all.0, up_to_more m at ss s all.1 one)
up_to_more m at (Until i ∷ ss) s all one = (all.0, up_to_more m at ss s all.1 one)

up_to_later : (m : Limits) (at later : ℕ) → at ≤ later → (ss : List Sight) → AreUpTo m at ss → AreUpTo m later ss
up_to_later m at later le [] all = tt
up_to_later m at later le (Came x passes ∷ ss) all = up_to_later m at later le ss all
up_to_later m at later le (Left x ∷ ss) all = (omega (arith, le, all.0), up_to_later m at later le ss all.1)
up_to_later m at later le (Until i ∷ ss) all = (omega (arith, le, all.0), up_to_later m at later le ss all.1)

-- ---- one port

-- what its pairing was told, for these frames of the link, those that were passed, the frames of which the fate is not told, the records that left,
-- and those of them that wait
pub record IsToldOf (latest : ℕ) (passed own : List Record) (undecided : List Numbered) (out : List Record) (waiting : List Numbered) (m : Limits) (p : Pairing) (t : Tally) : Type 0 where
  pub sights : List Sight
  pub own_is : own_of sights ≡ own
  pub passed_is : passed_of sights ≡ passed
  pub left_is : left_of sights ++ records waiting ≡ out
  pub pairing : p ≡ after_all (pairing_at_first m) sights
  pub tally : t ≡ tally_of (told_by_all (pairing_at_first m) sights)
  pub order : AreInOrder m sights
  pub by : AllByRecursion (λ n. HaveLeftBy m n.frame.stamp sights) undecided
  pub by_latest : HaveLeftBy m latest sights
  pub up_to : AreUpTo m (latest - m.tolerance) sights
  pub later : AllByRecursion (λ n. AreUpTo m (left_at m n.frame) sights) waiting
  pub rise : ComeInOrder waiting

abbrev pub IsPort : ℕ → List Record → List Record → List Numbered → List Record → Output → Type 0
IsPort latest passed own undecided out o = IsToldOf latest passed own undecided out o.waiting o.limits o.pairing o.found.tally

-- one sight more
tally_grows : (m : Limits) (p : Pairing) (t : Tally) (ss : List Sight) (s : Sight) → p ≡ after_all (pairing_at_first m) ss → t ≡ tally_of (told_by_all (pairing_at_first m) ss)
    → tallied (told_by_one p s) t ≡ tally_of (told_by_all (pairing_at_first m) (ss ++ s ∷ []))
tally_grows m p t ss s p_is t_is =
    let first = pairing_at_first m in
    ap (λ (q : Pairing). tallied (told_by_one q s) t) p_is
    ∙ ap (λ (u : Tally). tallied (told_by_one (after_all first ss) s) u) t_is
    ∙ sym (tallied_more (told_by_all first ss) (told_by_one (after_all first ss) s) no_events)
    ∙ ap (λ (es : List Event). tally_of es) (sym (told_more first ss s))

pairing_grows : (m : Limits) (p : Pairing) (ss : List Sight) (s : Sight) → p ≡ after_all (pairing_at_first m) ss → after_one p s ≡ after_all (pairing_at_first m) (ss ++ s ∷ [])
pairing_grows m p ss s p_is = ap (λ (q : Pairing). after_one q s) p_is ∙ sym (after_more (pairing_at_first m) ss s)

-- a frame and its fate
pub fate_follows : (latest : ℕ) (passed own : List Record) (n : Numbered) (ns : List Numbered) (out : List Record) (o : Output) (passes : Bool) → IsPort latest passed own (n ∷ ns) out o
    → IsPort latest (passed ++ passed_of (Came n passes ∷ [])) (own ++ n.frame ∷ []) ns out (with_came n passes o)
fate_follows latest passed own n ns out o passes h =
    let m = o.limits in
    let ss = h.sights in
    let s = Came n passes in
    record {
      sights = ss ++ s ∷ [];
      own_is = own_more ss s ∙ ap (λ (rs : List Record). rs ++ n.frame ∷ []) h.own_is;
      passed_is = passed_more ss s ∙ ap (λ (rs : List Record). rs ++ passed_of (s ∷ [])) h.passed_is;
      left_is = ap (λ (rs : List Record). rs ++ records o.waiting) (left_more ss s ∙ append-nil (left_of ss)) ∙ h.left_is;
      pairing = pairing_grows m o.pairing ss s h.pairing;
      tally = h.tally ∙ ap (λ (es : List Event). tally_of es) (sym (told_more (pairing_at_first m) ss s ∙ append-nil (told_by_all (pairing_at_first m) ss)));
      order = order_with_came m ss n passes h.order h.by.0;
      by = all_weaker (λ x. HaveLeftBy m x.frame.stamp ss) (λ x. HaveLeftBy m x.frame.stamp (ss ++ s ∷ [])) (λ x by. left_by_more m x.frame.stamp ss s by tt) ns h.by.1;
      by_latest = left_by_more m latest ss s h.by_latest tt;
      up_to = up_to_more m (latest - m.tolerance) ss s h.up_to tt;
      later = all_weaker (λ x. AreUpTo m (left_at m x.frame) ss) (λ x. AreUpTo m (left_at m x.frame) (ss ++ s ∷ [])) (λ x up. up_to_more m (left_at m x.frame) ss s up tt) o.waiting h.later;
      rise = h.rise;
    }

-- a record that is paired
by_more : (m : Limits) (ss : List Sight) (n : Numbered) (us : List Numbered) → AllByRecursion (λ u. HaveLeftBy m u.frame.stamp ss) us
    → AllByRecursion (λ u. left_at m n.frame ≤ u.frame.stamp) us → AllByRecursion (λ u. HaveLeftBy m u.frame.stamp (ss ++ Left n ∷ [])) us
by_more m ss n [] by before = tt
by_more m ss n (u ∷ us) by before = (left_by_more m u.frame.stamp ss (Left n) by.0 (before.0, tt), by_more m ss n us by.1 before.1)

later_more : (m : Limits) (ss : List Sight) (n : Numbered) (ws : List Numbered) → AllByRecursion (λ w. AreUpTo m (left_at m w.frame) ss) ws
    → AllByRecursion (λ w. n.frame.stamp ≤ w.frame.stamp) ws → AllByRecursion (λ w. AreUpTo m (left_at m w.frame) (ss ++ Left n ∷ [])) ws
later_more m ss n [] later rise = tt
later_more m ss n (w ∷ ws) later rise =
    let le : left_at m n.frame ≤ left_at m w.frame = omega (arith, rise.0) in
    (up_to_more m (left_at m w.frame) ss (Left n) later.0 (le, tt), later_more m ss n ws later.1 rise.1)

left_follows : (latest : ℕ) (passed own : List Record) (us : List Numbered) (out : List Record) (n : Numbered) (ws : List Numbered) (m : Limits) (p : Pairing) (t : Tally)
    → IsToldOf latest passed own us out (n ∷ ws) m p t → AllByRecursion (λ u. left_at m n.frame ≤ u.frame.stamp) us → left_at m n.frame + m.tolerance ≤ latest
    → IsToldOf latest passed own us out ws m (after_one p (Left n)) (tallied (told_by_one p (Left n)) t)
left_follows latest passed own us out n ws m p t h before wait =
    let ss = h.sights in
    let s = Left n in
    let soon : left_at m n.frame ≤ latest = omega (arith, wait) in
    let up : left_at m n.frame ≤ latest - m.tolerance = omega (arith, wait) in
    record {
      sights = ss ++ s ∷ [];
      own_is = own_more ss s ∙ append-nil (own_of ss) ∙ h.own_is;
      passed_is = passed_more ss s ∙ append-nil (passed_of ss) ∙ h.passed_is;
      left_is = ap (λ (rs : List Record). rs ++ records ws) (left_more ss s) ∙ append_assoc (left_of ss) (n.frame ∷ []) (records ws) ∙ h.left_is;
      pairing = pairing_grows m p ss s h.pairing;
      tally = tally_grows m p t ss s h.pairing h.tally;
      order = order_with_left m ss n h.order h.later.0;
      by = by_more m ss n us h.by before;
      by_latest = left_by_more m latest ss s h.by_latest (soon, tt);
      up_to = up_to_more m (latest - m.tolerance) ss s h.up_to (up, tt);
      later = later_more m ss n ws h.later.1 h.rise.0;
      rise = h.rise.1;
    }

lefts_follow : (latest : ℕ) (passed own : List Record) (us : List Numbered) (out : List Record) (ws : List Numbered) (o : Output)
    → IsToldOf latest passed own us out (ws ++ o.waiting) o.limits o.pairing o.found.tally
    → AllByRecursion (λ n. AllByRecursion (λ u. left_at o.limits n.frame ≤ u.frame.stamp) us) ws → AllByRecursion (λ n. left_by n o ≤ latest) ws
    → IsPort latest passed own us out (with_sights (map Left ws) o)
lefts_follow latest passed own us out [] o h before wait = h
lefts_follow latest passed own us out (n ∷ ws) o h before wait =
    lefts_follow latest passed own us out ws (with_sight (Left n) o)
    (left_follows latest passed own us out n (ws ++ o.waiting) o.limits o.pairing o.found.tally h before.0 wait.0) before.1 wait.1

-- those that are paired left before any frame of which the fate is not told
firsts_fail : {X : Type 0} (p : X → Bool) (xs : List X) → AllByRecursion (λ x. p x ≡ false) (take (position_or_len p xs) xs)
firsts_fail p [] = tt
firsts_fail {X} p (x ∷ xs) =
    elim (cases_Bool (p x)) [
      | inl is ↦ (let here : position_or_len p (x ∷ xs) ≡ 0 = rw is refl in
          subst (λ (i : ℕ). AllByRecursion (λ y. p y ≡ false) (take i (x ∷ xs))) (sym here) tt)
      | inr isnt ↦ (let later : position_or_len p (x ∷ xs) ≡ 1 + position_or_len p xs = rw isnt refl in
          let next : position_or_len p (x ∷ xs) ≡ suc (position_or_len p xs) = omega (arith, later) in
          subst (λ (i : ℕ). AllByRecursion (λ y. p y ≡ false) (take i (x ∷ xs))) (sym next) (isnt, firsts_fail p xs))
    ]

all_taken : {X : Type 0} (P : X → Type 0) (k : ℕ) (xs : List X) → AllByRecursion P xs → AllByRecursion P (take k xs)
all_taken P zero xs all = tt
all_taken P (suc k) [] all = tt
all_taken P (suc k) (x ∷ xs) all = (all.0, all_taken P k xs all.1)

none_of : {X : Type 0} (P : X → Type 0) (xs : List X) → ((x : X) → P x) → AllByRecursion P xs
none_of P [] all = tt
none_of P (x ∷ xs) all = (all x, none_of P xs all)

settled_before : (us : List Numbered) (o : Output) → ComeInOrder us
    → AllByRecursion (λ n. AllByRecursion (λ u. left_at o.limits n.frame ≤ u.frame.stamp) us) (take (settled (first_unknown us) o) o.waiting)
settled_before [] o order = none_of (λ n. Unit {0}) (take (length o.waiting) o.waiting) (λ n. tt)
settled_before (u ∷ us) o order =
    let late = o.limits.gap * tick_of o.limits.speed + o.limits.tolerance in
    let first = u.frame.stamp in
    all_weaker (λ n. nat_le (first - late) n.frame.stamp ≡ false) (λ n. AllByRecursion (λ x. left_at o.limits n.frame ≤ x.frame.stamp) (u ∷ us))
    (λ n isnt.
    let sooner = leb-false (first - late) n.frame.stamp isnt in
    let before : left_at o.limits n.frame ≤ first = omega (arith, sooner) in
    (before, all_weaker (λ x. first ≤ x.frame.stamp) (λ x. left_at o.limits n.frame ≤ x.frame.stamp) (λ x le. omega (arith, before, le)) us order.0))
    (take (settled (first_unknown (u ∷ us)) o) o.waiting) (firsts_fail (λ n. nat_le (first - late) n.frame.stamp) o.waiting)

pub pairs_follow : (latest : ℕ) (passed own : List Record) (us : List Numbered) (out : List Record) (o : Output) → IsPort latest passed own us out o → ComeInOrder us → WaitsBy latest o
    → IsPort latest passed own us out (paired_up_to (first_unknown us) o)
pairs_follow latest passed own us out o h order wait =
    let k = settled (first_unknown us) o in
    let rest : Output = record o { waiting = drop k o.waiting } in
    lefts_follow latest passed own us out (take k o.waiting) rest
    (subst (λ (ws : List Numbered). IsToldOf latest passed own us out ws o.limits o.pairing o.found.tally) (sym (take-append-drop k o.waiting)) h)
    (settled_before us o order) (all_taken (λ n. left_by n o ≤ latest) k o.waiting wait)

-- an instant before which nothing leaves any more
until_follows : (latest : ℕ) (passed own : List Record) (us : List Numbered) (out : List Record) (o : Output) (i : ℕ) → IsPort latest passed own us out o
    → i ≤ latest - o.limits.tolerance → AllByRecursion (λ n. i ≤ left_at o.limits n.frame) o.waiting → IsPort latest passed own us out (with_sight (Until i) o)
until_follows latest passed own us out o i h up before =
    let m = o.limits in
    let ss = h.sights in
    let s = Until i in
    record {
      sights = ss ++ s ∷ [];
      own_is = own_more ss s ∙ append-nil (own_of ss) ∙ h.own_is;
      passed_is = passed_more ss s ∙ append-nil (passed_of ss) ∙ h.passed_is;
      left_is = ap (λ (rs : List Record). rs ++ records o.waiting) (left_more ss s ∙ append-nil (left_of ss)) ∙ h.left_is;
      pairing = pairing_grows m o.pairing ss s h.pairing;
      tally = tally_grows m o.pairing o.found.tally ss s h.pairing h.tally;
      order = order_with_until m ss i h.order;
      by = all_weaker (λ x. HaveLeftBy m x.frame.stamp ss) (λ x. HaveLeftBy m x.frame.stamp (ss ++ s ∷ [])) (λ x by. left_by_more m x.frame.stamp ss s by tt) us h.by;
      by_latest = left_by_more m latest ss s h.by_latest tt;
      up_to = up_to_more m (latest - m.tolerance) ss s h.up_to (up, tt);
      later = until_later o.waiting h.later before;
      rise = h.rise;
    }
  where
    until_later : (ws : List Numbered) → AllByRecursion (λ n. AreUpTo o.limits (left_at o.limits n.frame) h.sights) ws → AllByRecursion (λ n. i ≤ left_at o.limits n.frame) ws
        → AllByRecursion (λ n. AreUpTo o.limits (left_at o.limits n.frame) (h.sights ++ Until i ∷ [])) ws
    until_later [] later above = tt
    until_later (w ∷ ws) later above = (up_to_more o.limits (left_at o.limits w.frame) h.sights (Until i) later.0 (above.0, tt), until_later ws later.1 above.1)

first_waits : (at : ℕ) (m : Limits) (ws : List Numbered) → ComeInOrder ws → AllByRecursion (λ n. earliest at m (slice_get ws 0) - m.tolerance ≤ left_at m n.frame) ws
first_waits at m [] rise = tt
first_waits at m (w ∷ ws) rise =
    let first : min at (left_at m w.frame) - m.tolerance ≤ left_at m w.frame = omega arith in
    (first, all_weaker (λ n. w.frame.stamp ≤ n.frame.stamp) (λ n. min at (left_at m w.frame) - m.tolerance ≤ left_at m n.frame) (λ n le. omega (arith, first, le)) ws rise.0)

earliest_by : (at : ℕ) (m : Limits) (first : Option Numbered) → earliest at m first ≤ at
earliest_by at m None = omega arith
earliest_by at m (Some n) = omega arith

pub goes_on : (latest : ℕ) (passed own : List Record) (us : List Numbered) (out : List Record) (o : Output) (at : ℕ) → IsPort latest passed own us out o → at ≤ latest
    → IsPort latest passed own us out (gone_on at o)
goes_on latest passed own us out o at h le =
    let by = earliest_by at o.limits (slice_get o.waiting 0) in
    until_follows latest passed own us out o (earliest at o.limits (slice_get o.waiting 0) - o.limits.tolerance) h (omega (arith, by, le)) (first_waits at o.limits o.waiting h.rise)

-- a frame that came, of which the fate is not told
pub own_follows : (latest : ℕ) (passed own : List Record) (us : List Numbered) (out : List Record) (o : Output) (n : Numbered) → IsPort latest passed own us out o → latest ≤ n.frame.stamp
    → IsPort n.frame.stamp passed own (us ++ n ∷ []) out o
own_follows latest passed own us out o n h le =
    let m = o.limits in
    let by = left_by_later m latest n.frame.stamp le h.sights h.by_latest in
    record {
      sights = h.sights;
      own_is = h.own_is;
      passed_is = h.passed_is;
      left_is = h.left_is;
      pairing = h.pairing;
      tally = h.tally;
      order = h.order;
      by = all_more (λ x. HaveLeftBy m x.frame.stamp h.sights) us n h.by by;
      by_latest = by;
      up_to = up_to_later m (latest - m.tolerance) (n.frame.stamp - m.tolerance) (omega (arith, le)) h.sights h.up_to;
      later = h.later;
      rise = h.rise;
    }

-- a record that left, at another port and at this one
pub other_follows : (latest : ℕ) (passed own : List Record) (us : List Numbered) (out : List Record) (o : Output) (at : ℕ) → IsPort latest passed own us out o → latest ≤ at
    → IsPort at passed own us out o
other_follows latest passed own us out o at h le = record {
  sights = h.sights;
  own_is = h.own_is;
  passed_is = h.passed_is;
  left_is = h.left_is;
  pairing = h.pairing;
  tally = h.tally;
  order = h.order;
  by = h.by;
  by_latest = left_by_later o.limits latest at le h.sights h.by_latest;
  up_to = up_to_later o.limits (latest - o.limits.tolerance) (at - o.limits.tolerance) (omega (arith, le)) h.sights h.up_to;
  later = h.later;
  rise = h.rise;
}

pub record_follows : (latest : ℕ) (passed own : List Record) (us : List Numbered) (out : List Record) (o : Output) (n : Numbered) (at : ℕ) → IsPort latest passed own us out o
    → latest ≤ at → at ≡ left_by n o → WaitsBy latest o → IsPort at passed own us (out ++ n.frame ∷ []) (with_waiting n o)
record_follows latest passed own us out o n at h le is wait =
    let m = o.limits in
    let up = up_to_later m (latest - m.tolerance) (left_at m n.frame) (omega (arith, le, is)) h.sights h.up_to in
    let last = all_weaker (λ w. left_by w o ≤ latest) (λ w. w.frame.stamp ≤ n.frame.stamp) (λ w by. omega (arith, by, le, is)) o.waiting wait in
    record {
      sights = h.sights;
      own_is = h.own_is;
      passed_is = h.passed_is;
      left_is = ap (λ (rs : List Record). left_of h.sights ++ rs) (map-append (λ (x : Numbered). x.frame) o.waiting (n ∷ []))
          ∙ sym (append_assoc (left_of h.sights) (records o.waiting) (n.frame ∷ [])) ∙ ap (λ (rs : List Record). rs ++ n.frame ∷ []) h.left_is;
      pairing = h.pairing;
      tally = h.tally;
      order = h.order;
      by = h.by;
      by_latest = left_by_later m latest at le h.sights h.by_latest;
      up_to = up_to_later m (latest - m.tolerance) (at - m.tolerance) (omega (arith, le)) h.sights h.up_to;
      later = all_more (λ x. AreUpTo m (left_at m x.frame) h.sights) o.waiting n h.later up;
      rise = order_more o.waiting n h.rise last;
    }

-- nothing speaks against the switch
pub ends : FineIsKept → (latest : ℕ) (passed own : List Record) (out : List Record) (o : Output) (last : Option ℕ) → IsPort latest passed own [] out o → o.waiting ≡ []
    → conforms_in (with_end last o).found.tally ≡ true → IsKeptFor o.limits (last_at o.limits last) own passed out
ends fine latest passed own out o last h none conforms =
    let m = o.limits in
    let first = pairing_at_first m in
    let ss = h.sights in
    let end = last_at m last in
    let tally : tallied (end_told o.pairing end) o.found.tally ≡ tally_of (all_told first end ss) =
    ap (λ (q : Pairing). tallied (end_told q end) o.found.tally) h.pairing
    ∙ ap (λ (t : Tally). tallied (end_told (after_all first ss) end) t) h.tally
    ∙ sym (tallied_more (told_by_all first ss) (end_told (after_all first ss) end) no_events) in
    let all_fine = (conforms_where_fine (all_told first end ss)).0 (ap (λ (t : Tally). conforms_in t) (sym tally) ∙ conforms) in
    let kept = fine m end ss h.order all_fine in
    let left : left_of ss ≡ out = sym (append-nil (left_of ss)) ∙ ap (λ (ws : List Numbered). left_of ss ++ records ws) (sym none) ∙ h.left_is in
    subst (λ (rs : List Record). IsKeptFor m end own passed rs) left
    (subst (λ (rs : List Record). IsKeptFor m end own rs (left_of ss)) h.passed_is
    (subst (λ (rs : List Record). IsKeptFor m end rs (passed_of ss) (left_of ss)) h.own_is kept))
