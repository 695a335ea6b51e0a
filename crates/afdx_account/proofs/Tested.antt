-- The test of a frame, and the windows that it speaks of.
use Rattle.std.proofs.Common.{◌≡◌, ◌↔◌, ◌+◌, ◌-◌, ◌≤◌, nat_le, List, [], ◌∷◌, ◌++◌, IsTrue, true, refl, ap, arith, subst}
use Rattle.std.proofs.lemmas.Bool.{leb-true, le-leb, and_parts}
use Rattle.afdx_account.specs.declared.frame.Frame.{Frame}
use Rattle.afdx_account.specs.Policing.{Terms, paid, allowance, Conforms, conforms}
use Rattle.afdx_account.proofs.Windows.{paid-push}

-- a window over all of a list keeps to its allowance
abbrev Keeps : Terms → Frame → List Frame → Type 0
Keeps t f [] = Unit {0}
Keeps t f (g ∷ gs) = paid t (g ∷ gs) ≤ allowance t (f.stamp - g.stamp)

tail_of : List Frame → List Frame
tail_of [] = []
tail_of (f ∷ fs) = fs

not_empty : (before after : List Frame) (first : Frame) → [] ≡ before ++ first ∷ after → ⊥
not_empty [] after first same = cc
not_empty (b ∷ bs) after first same = cc

-- the window of the frame alone
at_once : (t : Terms) (f : Frame) → allowance t (f.stamp - f.stamp) ≡ allowance t 0
at_once t f = ap (allowance t) (let none : f.stamp - f.stamp ≡ 0 = omega arith in none)

keeps_alone : (t : Terms) (f : Frame) → t.price f.size ≤ allowance t 0 → Keeps t f (f ∷ [])
keeps_alone t f fits = rw (at_once t f) (omega (arith, fits))

pub tested_conforms : (t : Terms) (passed : List Frame) (f : Frame) → IsTrue (conforms t passed f) → Conforms t passed f
unfolding tail_of
tested_conforms t [] f h [] first after same = subst (Keeps t f) same (keeps_alone t f (leb-true (t.price f.size) (allowance t 0) h))
tested_conforms t [] f h (b ∷ bs) first after same = absurd (not_empty bs after first (ap tail_of same))
tested_conforms t (g ∷ gs) f h [] first after same =
    let whole = paid t (g ∷ gs) + t.price f.size in
    let window = allowance t (f.stamp - g.stamp) in
    let fits = leb-true whole window (and_parts (nat_le whole window) (conforms t gs f) h).0 in
    subst (Keeps t f) same (let more = paid-push t (g ∷ gs) f in omega (arith, more, fits))
tested_conforms t (g ∷ gs) f h (b ∷ bs) first after same =
    let whole = paid t (g ∷ gs) + t.price f.size in
    let window = allowance t (f.stamp - g.stamp) in
    tested_conforms t gs f (and_parts (nat_le whole window) (conforms t gs f) h).1 bs first after (ap tail_of same)

pub conforming_passes : (t : Terms) (passed : List Frame) (f : Frame) → Conforms t passed f → IsTrue (conforms t passed f)
conforming_passes t [] f keeps =
    let fits = keeps [] f [] refl in
    le-leb (t.price f.size) (allowance t 0) (let alone = at_once t f in omega (arith, fits, alone))
conforming_passes t (g ∷ gs) f keeps =
    let whole = paid t (g ∷ gs) + t.price f.size in
    let window = allowance t (f.stamp - g.stamp) in
    let fits = keeps [] g (gs ++ f ∷ []) refl in
    let first : nat_le whole window ≡ true = le-leb whole window (let more = paid-push t (g ∷ gs) f in omega (arith, more, fits)) in
    let others = conforming_passes t gs f (λ before head after same. keeps (g ∷ before) head after (ap (λ (fs : List Frame). g ∷ fs) same)) in
    rw (first, others) refl

pub conforming_is_tested : (t : Terms) (passed : List Frame) (f : Frame) → IsTrue (conforms t passed f) ↔ Conforms t passed f
conforming_is_tested t passed f = (tested_conforms t passed f, conforming_passes t passed f)
