-- One sight more of a link at a port.
use Rattle.std.proofs.Common.{◌≡◌, ℕ, zero, suc, ◌+◌, ◌≤◌, Bool, true, false, List, [], ◌∷◌, ◌++◌, drop, Option, Some, None, refl, sym, ap, subst, ◌∙◌}
use Rattle.std.specs.List.{AllByRecursion}
use Rattle.std.proofs.lemmas.List.{append-nil, append_assoc}
use Rattle.afdx_pcap.specs.Record.{Record}
use Rattle.afdx_pairing.specs.declared.limits.Limits.{Limits}
use Rattle.afdx_pairing.specs.declared.event.Event.{Event}
use Rattle.afdx_pairing.specs.Events.{Numbered}
use Rattle.afdx_pairing.specs.Limits.{left_at}
use Rattle.afdx_pairing.specs.Pairing.{Pairing, paired}
use Rattle.afdx_pairing.specs.Kept.{Sight, Came, Left, Until, own_of, passed_of, left_of, AreInOrder, after_one, told_by_one, after_all, told_by_all}

-- ---- what is held, and what is told

pub after_more : (p : Pairing) (ss : List Sight) (s : Sight) → after_all p (ss ++ s ∷ []) ≡ after_one (after_all p ss) s
after_more p [] s = refl
after_more p (x ∷ ss) s = after_more (after_one p x) ss s

pub told_more : (p : Pairing) (ss : List Sight) (s : Sight) → told_by_all p (ss ++ s ∷ []) ≡ told_by_all p ss ++ told_by_one (after_all p ss) s
told_more p [] s = append-nil (told_by_one p s)
told_more p (x ∷ ss) s =
    ap (λ (events : List Event). told_by_one p x ++ events) (told_more (after_one p x) ss s)
    ∙ sym (append_assoc (told_by_one p x) (told_by_all (after_one p x) ss) (told_by_one (after_all (after_one p x) ss) s))

-- ---- what came, and what left

pub own_more : (ss : List Sight) (s : Sight) → own_of (ss ++ s ∷ []) ≡ own_of ss ++ own_of (s ∷ [])
own_more [] s = refl
own_more (Came n passes ∷ ss) s = ap (λ (rs : List Record). n.frame ∷ rs) (own_more ss s)
own_more (Left n ∷ ss) s = own_more ss s
own_more (Until at ∷ ss) s = own_more ss s

pub passed_more : (ss : List Sight) (s : Sight) → passed_of (ss ++ s ∷ []) ≡ passed_of ss ++ passed_of (s ∷ [])
passed_more [] s = refl
passed_more (Came n true ∷ ss) s = ap (λ (rs : List Record). n.frame ∷ rs) (passed_more ss s)
passed_more (Came n false ∷ ss) s = passed_more ss s
passed_more (Left n ∷ ss) s = passed_more ss s
passed_more (Until at ∷ ss) s = passed_more ss s

pub left_more : (ss : List Sight) (s : Sight) → left_of (ss ++ s ∷ []) ≡ left_of ss ++ left_of (s ∷ [])
left_more [] s = refl
left_more (Came n passes ∷ ss) s = left_more ss s
left_more (Left n ∷ ss) s = ap (λ (rs : List Record). n.frame ∷ rs) (left_more ss s)
left_more (Until at ∷ ss) s = left_more ss s

-- ---- order

-- all records left no later than an instant
abbrev pub HaveLeftBy : Limits → ℕ → List Sight → Type 0
HaveLeftBy m at [] = Unit {0}
HaveLeftBy m at (Came n passes ∷ ss) = HaveLeftBy m at ss
HaveLeftBy m at (Left n ∷ ss) = (left_at m n.frame ≤ at) × HaveLeftBy m at ss
HaveLeftBy m at (Until i ∷ ss) = HaveLeftBy m at ss

-- and the instants before which nothing leaves any more are no later
abbrev pub AreUpTo : Limits → ℕ → List Sight → Type 0
AreUpTo m at [] = Unit {0}
AreUpTo m at (Came n passes ∷ ss) = AreUpTo m at ss
AreUpTo m at (Left n ∷ ss) = (left_at m n.frame ≤ at) × AreUpTo m at ss
AreUpTo m at (Until i ∷ ss) = (i ≤ at) × AreUpTo m at ss

joined : (P : Record → Type 0) (xs ys : List Record) → AllByRecursion P xs → AllByRecursion P ys → AllByRecursion P (xs ++ ys)
joined P [] ys first second = second
joined P (x ∷ xs) ys first second = (first.0, joined P xs ys first.1 second)

own_holds : (P : Record → Type 0) (ss : List Sight) (s : Sight) → AllByRecursion P (own_of ss) → AllByRecursion P (own_of (s ∷ [])) → AllByRecursion P (own_of (ss ++ s ∷ []))
own_holds P ss s first second = subst (λ (rs : List Record). AllByRecursion P rs) (sym (own_more ss s)) (joined P (own_of ss) (own_of (s ∷ [])) first second)

left_holds : (P : Record → Type 0) (ss : List Sight) (s : Sight) → AllByRecursion P (left_of ss) → AllByRecursion P (left_of (s ∷ [])) → AllByRecursion P (left_of (ss ++ s ∷ []))
left_holds P ss s first second = subst (λ (rs : List Record). AllByRecursion P rs) (sym (left_more ss s)) (joined P (left_of ss) (left_of (s ∷ [])) first second)

pub order_with_came : (m : Limits) (ss : List Sight) (n : Numbered) (passes : Bool) → AreInOrder m ss → HaveLeftBy m n.frame.stamp ss → AreInOrder m (ss ++ Came n passes ∷ [])
order_with_came m [] n passes order by = tt
order_with_came m (Came x fate ∷ ss) n passes order by = order_with_came m ss n passes order by
order_with_came m (Left x ∷ ss) n passes order by = (
  own_holds (λ f. left_at m x.frame ≤ f.stamp) ss (Came n passes) order.0 (by.0, tt),
  left_holds (λ r. left_at m x.frame ≤ left_at m r) ss (Came n passes) order.1 tt,
  order_with_came m ss n passes order.2 by.1,
)
order_with_came m (Until i ∷ ss) n passes order by =
    (left_holds (λ r. i ≤ left_at m r) ss (Came n passes) order.0 tt, order_with_came m ss n passes order.1 by)

pub order_with_left : (m : Limits) (ss : List Sight) (n : Numbered) → AreInOrder m ss → AreUpTo m (left_at m n.frame) ss → AreInOrder m (ss ++ Left n ∷ [])
order_with_left m [] n order up = (tt, tt, tt)
order_with_left m (Came x fate ∷ ss) n order up = order_with_left m ss n order up
order_with_left m (Left x ∷ ss) n order up = (
  own_holds (λ f. left_at m x.frame ≤ f.stamp) ss (Left n) order.0 tt,
  left_holds (λ r. left_at m x.frame ≤ left_at m r) ss (Left n) order.1 (up.0, tt),
  order_with_left m ss n order.2 up.1,
)
order_with_left m (Until i ∷ ss) n order up = (left_holds (λ r. i ≤ left_at m r) ss (Left n) order.0 (up.0, tt), order_with_left m ss n order.1 up.1)

pub order_with_until : (m : Limits) (ss : List Sight) (at : ℕ) → AreInOrder m ss → AreInOrder m (ss ++ Until at ∷ [])
order_with_until m [] at order = (tt, tt)
order_with_until m (Came x fate ∷ ss) at order = order_with_until m ss at order
order_with_until m (Left x ∷ ss) at order = (
  own_holds (λ f. left_at m x.frame ≤ f.stamp) ss (Until at) order.0 tt,
  left_holds (λ r. left_at m x.frame ≤ left_at m r) ss (Until at) order.1 tt,
  order_with_until m ss at order.2,
)
order_with_until m (Until i ∷ ss) at order = (left_holds (λ r. i ≤ left_at m r) ss (Until at) order.0 tt, order_with_until m ss at order.1)

-- ---- what is held came

abbrev pub CameBy : ℕ → List Numbered → Type 0
CameBy at ns = AllByRecursion (λ n. n.frame.stamp ≤ at) ns

pub one_came : (at : ℕ) (ns : List Numbered) (n : Numbered) → CameBy at ns → n.frame.stamp ≤ at → CameBy at (ns ++ n ∷ [])
one_came at [] n all le = (le, tt)
one_came at (x ∷ ns) n all le = (all.0, one_came at ns n all.1 le)

pub rest_came : (at k : ℕ) (ns : List Numbered) → CameBy at ns → CameBy at (drop k ns)
rest_came at zero ns all = all
rest_came at (suc k) [] all = tt
rest_came at (suc k) (n ∷ ns) all = rest_came at k ns all.1

pub paired_came : (at : ℕ) (o : Option ℕ) (p : Pairing) → CameBy at p.waiting → CameBy at (paired o p).waiting
paired_came at None p all = all
paired_came at (Some i) p all = rest_came at (i + 1) p.waiting all

pub paired_policed : (at : ℕ) (o : Option ℕ) (p : Pairing) → CameBy at p.policed → CameBy at (paired o p).policed
paired_policed at None p all = all
paired_policed at (Some i) p all = all
