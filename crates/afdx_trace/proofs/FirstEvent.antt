-- Which of a port's events is the first that is left.
use Rattle.std.proofs.Common.{◌≡◌, ℕ, ◌<◌, ◌≤◌, List, [], ◌∷◌, slice_get, None, Some, refl, sym, ap, arith}
use Rattle.std.specs.Prelude.{Ok, Err}
use Rattle.std.specs.List.{AllByRecursion}
use Rattle.std.proofs.lemmas.Option.{same_Some}
use Rattle.afdx_port.specs.declared.Sent.{Sent}
use Rattle.afdx_port.specs.declared.Aged.{Aged}
use Rattle.afdx_port.specs.Service.{Event, sending, aging, instant, sent_of, aged_of}
use Rattle.afdx_trace.specs.Inner.Telling.{IsFirstOf}

aged_late : (t : ℕ) (events : List Event) (a : Aged) → AllByRecursion (λ event. t < instant event) events → slice_get (aged_of events) 0 ≡ Some a → t < a.at
aged_late t [] a late is = absurd (let e : None ≡ Some a = is in cc)
aged_late t (sending x ∷ events) a late is = aged_late t events a late.1 is
aged_late t (aging b ∷ events) a late is = let h = late.0 in let same : b.at ≡ a.at = ap (λ (x : Aged). x.at) (same_Some b a is) in omega (arith, h, same)

sent_late : (t : ℕ) (events : List Event) (x : Sent) → AllByRecursion (λ event. t ≤ instant event) events → slice_get (sent_of events) 0 ≡ Some x → t ≤ x.begin
sent_late t [] x late is = absurd (let e : None ≡ Some x = is in cc)
sent_late t (aging a ∷ events) x late is = sent_late t events x late.1 is
sent_late t (sending y ∷ events) x late is = let h = late.0 in let same : y.begin ≡ x.begin = ap (λ (s : Sent). s.begin) (same_Some y x is) in omega (arith, h, same)

pub first_none : IsFirstOf None None None
first_none [] order sent_is aged_is = refl
first_none (sending x ∷ left) order sent_is aged_is = absurd (let e : Some x ≡ None = sent_is in cc)
first_none (aging a ∷ left) order sent_is aged_is = absurd (let e : Some a ≡ None = aged_is in cc)

pub first_sent : (x : Sent) → IsFirstOf (Some x) None (Some (Ok x))
first_sent x [] order sent_is aged_is = absurd (let e : None ≡ Some x = sent_is in cc)
first_sent x (sending y ∷ left) order sent_is aged_is = ap (λ (s : Sent). Some (sending s)) (sym (same_Some y x sent_is))
first_sent x (aging a ∷ left) order sent_is aged_is = absurd (let e : Some a ≡ None = aged_is in cc)

pub first_aged : (a : Aged) → IsFirstOf None (Some a) (Some (Err a))
first_aged a [] order sent_is aged_is = absurd (let e : None ≡ Some a = aged_is in cc)
first_aged a (sending y ∷ left) order sent_is aged_is = absurd (let e : Some y ≡ None = sent_is in cc)
first_aged a (aging b ∷ left) order sent_is aged_is = ap (λ (x : Aged). Some (aging x)) (sym (same_Some b a aged_is))

-- where both are left, the one that is discarded comes first unless it lies after the start of the other
pub first_of_both_aged : (x : Sent) (a : Aged) → a.at ≤ x.begin → IsFirstOf (Some x) (Some a) (Some (Err a))
first_of_both_aged x a le [] order sent_is aged_is = absurd (let e : None ≡ Some a = aged_is in cc)
first_of_both_aged x a le (sending y ∷ left) order sent_is aged_is =
    absurd (let late = aged_late y.begin left a order.0 aged_is in let same : y.begin ≡ x.begin = ap (λ (s : Sent). s.begin) (same_Some y x sent_is) in omega (arith, le, late, same))
first_of_both_aged x a le (aging b ∷ left) order sent_is aged_is = ap (λ (y : Aged). Some (aging y)) (sym (same_Some b a aged_is))

pub first_of_both_sent : (x : Sent) (a : Aged) → x.begin < a.at → IsFirstOf (Some x) (Some a) (Some (Ok x))
first_of_both_sent x a lt [] order sent_is aged_is = absurd (let e : None ≡ Some x = sent_is in cc)
first_of_both_sent x a lt (sending y ∷ left) order sent_is aged_is = ap (λ (s : Sent). Some (sending s)) (sym (same_Some y x sent_is))
first_of_both_sent x a lt (aging b ∷ left) order sent_is aged_is =
    absurd (let late = sent_late b.at left x order.0 sent_is in let same : b.at ≡ a.at = ap (λ (y : Aged). y.at) (same_Some b a aged_is) in omega (arith, lt, late, same))
