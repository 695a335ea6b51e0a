-- The numbers of what was told are 0 where they speak against a switch exactly where nothing does that was told.
use Rattle.std.proofs.Common.{◌≡◌, ℕ, zero, suc, ◌+◌, ◌<◌, ◌≤◌, Bool, true, false, ◌&&◌, ◌==◌, List, [], ◌∷◌, ◌++◌, take, length, get_or, refl, sym, ap, ◌∙◌, arith}
use Rattle.std.specs.Prelude.{filter, if◌then◌else◌}
use Rattle.std.specs.List.{AllByRecursion}
use Rattle.std.proofs.lemmas.Bool.{and_parts, eqb-true, eq-eqb}
use Rattle.std.proofs.lemmas.List.{append-nil, append_assoc, take_more}
use Rattle.std.proofs.lemmas.List.Elements.{filter-append}
use Rattle.afdx_pairing.specs.declared.event.Event.{Event}
use Rattle.afdx_pairing.specs.declared.event.Event.TheVariants.{Kept, Early, Late, Missing, After, Extra, Before}
use Rattle.afdx_pairing.specs.Events.{differs}
use Rattle.afdx_pairing.specs.Kept.{IsFine}
use Rattle.afdx_following.specs.declared.tally.Tally.{Tally}
use Rattle.afdx_following.specs.Output.{Found, with_told}
use Rattle.afdx_following.specs.Tally.{no_events, with_event, tallied, conforms_in, ConformsWhereFine}

speaks : true ≡ false → ⊥
speaks same = cc

-- ---- one event after another

pub tallied_more : (xs ys : List Event) (t : Tally) → tallied (xs ++ ys) t ≡ tallied ys (tallied xs t)
tallied_more [] ys t = refl
tallied_more (x ∷ xs) ys t = tallied_more xs ys (tallied (x ∷ []) t)

differences_more : (keeps : Bool) (kept xs ys : List Event)
    → kept ++ (if keeps then filter differs (xs ++ ys) else []) ≡ (kept ++ (if keeps then filter differs xs else [])) ++ (if keeps then filter differs ys else [])
differences_more true kept xs ys = ap (λ (zs : List Event). kept ++ zs) (filter-append differs xs ys) ∙ sym (append_assoc kept (filter differs xs) (filter differs ys))
differences_more false kept xs ys = sym (append-nil (kept ++ []))

pub told_more : (xs ys : List Event) (f : Found) → with_told (xs ++ ys) f ≡ with_told ys (with_told xs f)
told_more xs ys f =
    ap (λ (t : Tally). record { tally = t; keeps = f.keeps; differences = f.differences ++ (if f.keeps then filter differs (xs ++ ys) else []) }) (tallied_more xs ys f.tally)
    ∙ ap (λ (es : List Event). record { tally = tallied ys (tallied xs f.tally); keeps = f.keeps; differences = es }) (differences_more f.keeps f.differences xs ys)

none_kept : (keeps : Bool) (kept : List Event) → kept ++ (if keeps then filter differs [] else []) ≡ kept
none_kept true kept = append-nil kept
none_kept false kept = append-nil kept

pub told_none : (f : Found) → with_told [] f ≡ f
told_none f = ap (λ (es : List Event). record { tally = f.tally; keeps = f.keeps; differences = es }) (none_kept f.keeps f.differences)

pub told_next : (events : List Event) (i : ℕ) (e : Event) (first now new : Found) → i < length events → e ≡ get_or events i e → now ≡ with_told (take i events) first
    → new ≡ with_told (e ∷ []) now → new ≡ with_told (take (i + 1) events) first
told_next events i e first now new lt get is step =
    step ∙ ap (λ (f : Found). with_told (e ∷ []) f) is
    ∙ ap (λ (x : Event). with_told (x ∷ []) (with_told (take i events) first)) get
    ∙ sym (ap (λ (es : List Event). with_told es first) (take_more events i e lt) ∙ told_more (take i events) (get_or events i e ∷ []) first)

pub told_all : (events : List Event) (i : ℕ) (first now : Found) → length events ≤ i → now ≡ with_told (take i events) first → now ≡ with_told events first
told_all events i first now past is = is ∙ ap (λ (es : List Event). with_told es first) (taken events i past)
  where
    taken : (es : List Event) (k : ℕ) → length es ≤ k → take k es ≡ es
    taken [] zero past = refl
    taken [] (suc k) past = refl
    taken (x ∷ es) zero past = absurd (omega (arith, past))
    taken (x ∷ es) (suc k) past = ap (λ (xs : List Event). x ∷ xs) (taken es k (omega (arith, past)))

-- ---- nothing speaks against the switch

and_both : (a b : Bool) → a ≡ true → b ≡ true → (a && b) ≡ true
and_both true b first second = second
and_both false b first second = first

pub record IsZero (t : Tally) : Type 0 where
  pub missing : t.missing ≡ 0
  pub extra : t.extra ≡ 0
  pub early : t.early ≡ 0
  pub late : t.late ≡ 0

all_zero : (t : Tally) → conforms_in t ≡ true → IsZero t
all_zero t is =
    let most = and_parts ((t.missing == 0) && (t.extra == 0) && (t.early == 0)) (t.late == 0) is in
    let more = and_parts ((t.missing == 0) && (t.extra == 0)) (t.early == 0) most.0 in
    let first = and_parts (t.missing == 0) (t.extra == 0) more.0 in
    record { missing = eqb-true t.missing 0 first.0; extra = eqb-true t.extra 0 first.1; early = eqb-true t.early 0 more.1; late = eqb-true t.late 0 most.1 }

zero_conforms : (t : Tally) → IsZero t → conforms_in t ≡ true
zero_conforms t z =
    and_both ((t.missing == 0) && (t.extra == 0) && (t.early == 0)) (t.late == 0)
    (and_both ((t.missing == 0) && (t.extra == 0)) (t.early == 0)
    (and_both (t.missing == 0) (t.extra == 0) (eq-eqb t.missing 0 z.missing) (eq-eqb t.extra 0 z.extra)) (eq-eqb t.early 0 z.early))
    (eq-eqb t.late 0 z.late)

fine_by : (events : List Event) (t : Tally) → conforms_in (tallied events t) ≡ true → AllByRecursion IsFine events × (conforms_in t ≡ true)
fine_by [] t is = (tt, is)
fine_by (Kept pair ∷ events) t is = let rest = fine_by events (with_event (Kept pair) t) is in ((refl, rest.0), rest.1)
fine_by (Early pair ∷ events) t is = let rest = fine_by events (with_event (Early pair) t) is in absurd (omega (arith, (all_zero (with_event (Early pair) t) rest.1).early))
fine_by (Late pair ∷ events) t is = let rest = fine_by events (with_event (Late pair) t) is in absurd (omega (arith, (all_zero (with_event (Late pair) t) rest.1).late))
fine_by (Missing came ∷ events) t is =
    let rest = fine_by events (with_event (Missing came) t) is in absurd (omega (arith, (all_zero (with_event (Missing came) t) rest.1).missing))
fine_by (After came ∷ events) t is = let rest = fine_by events (with_event (After came) t) is in ((refl, rest.0), rest.1)
fine_by (Extra left policed ∷ events) t is =
    let rest = fine_by events (with_event (Extra left policed) t) is in absurd (omega (arith, (all_zero (with_event (Extra left policed) t) rest.1).extra))
fine_by (Before left ∷ events) t is = let rest = fine_by events (with_event (Before left) t) is in ((refl, rest.0), rest.1)

by_fine : (events : List Event) (t : Tally) → AllByRecursion IsFine events → conforms_in t ≡ true → conforms_in (tallied events t) ≡ true
by_fine [] t fine is = is
by_fine (Kept pair ∷ events) t fine is = by_fine events (with_event (Kept pair) t) fine.1 is
by_fine (Early pair ∷ events) t fine is = absurd (speaks fine.0)
by_fine (Late pair ∷ events) t fine is = absurd (speaks fine.0)
by_fine (Missing came ∷ events) t fine is = absurd (speaks fine.0)
by_fine (After came ∷ events) t fine is = by_fine events (with_event (After came) t) fine.1 is
by_fine (Extra left policed ∷ events) t fine is = absurd (speaks fine.0)
by_fine (Before left ∷ events) t fine is = by_fine events (with_event (Before left) t) fine.1 is

pub conforms_where_fine : ConformsWhereFine
conforms_where_fine events = (
  λ is. (fine_by events no_events is).0,
  λ fine. by_fine events no_events fine (zero_conforms no_events (record { missing = refl; extra = refl; early = refl; late = refl })),
)
