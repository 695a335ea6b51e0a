-- What conforms once conforms again later, to terms that allow more.
use Rattle.std.proofs.Common.{◌≡◌, ℕ, ◌+◌, ◌*◌, ◌-◌, ◌≤◌, nat_le, List, [], ◌∷◌, ◌++◌, IsTrue, true, refl, ap, ◌∙◌, arith, inl, inr, map}
use Rattle.std.proofs.Math.Nat.{mul-le-mul_left}
use Rattle.std.proofs.lemmas.List.Elements.{AllZip-push}
use Rattle.std.proofs.lemmas.Bool.{cases_Bool, leb-true, le-leb, and_parts}
use Rattle.afdx_account.specs.declared.frame.Frame.{Frame}
use Rattle.afdx_account.specs.Policing.{Terms, paid, allowance, conforms, passed_after, passed_of, passed_frames}
use Rattle.afdx_jitter.specs.declared.delays.Delays.{Delays}
use Rattle.afdx_jitter.specs.Series.{AllConform, ComesLater, ComeLater, AllowsMore}
use Rattle.afdx_jitter.specs.Laws.{LaterConform, PassedPassAgain}

-- ---- what is passed conforms, and what conforms is passed

passed_after-conform : (t : Terms) (passed fs : List Frame) → AllConform t passed (passed_after (λ (f : Frame). f) t passed fs)
passed_after-conform t passed [] = tt
passed_after-conform t passed (f ∷ fs) =
    elim (cases_Bool (conforms t passed f)) [
      | inl was ↦ rw was (was, passed_after-conform t (passed ++ f ∷ []) fs)
      | inr not ↦ rw not (passed_after-conform t passed fs)
    ]

pub passed_conform : (t : Terms) (frames : List Frame) → AllConform t [] (passed_frames t frames)
passed_conform t frames = passed_after-conform t [] frames

conforming-after : {A : Type 0} (frame_of : A → Frame) (t : Terms) (passed : List Frame) (xs : List A)
    → AllConform t passed (map frame_of xs) → passed_after frame_of t passed xs ≡ xs
conforming-after frame_of t passed [] all = refl
conforming-after frame_of t passed (x ∷ xs) all =
    rw all.0 (ap (λ (ys : List _). x ∷ ys) (conforming-after frame_of t (passed ++ frame_of x ∷ []) xs all.1))

pub conforming_are_passed : {A : Type 0} (frame_of : A → Frame) (t : Terms) (xs : List A) → AllConform t [] (map frame_of xs) → passed_of frame_of t xs ≡ xs
conforming_are_passed frame_of t xs all = conforming-after frame_of t [] xs all

-- ---- later

paid-later : (d : Delays) (t u : Terms) (fs gs : List Frame) → AllowsMore (d.most - d.least) t u → ComeLater d fs gs → paid u gs ≡ paid t fs
paid-later d t u [] [] more zip = refl
paid-later d t u [] (g ∷ gs) more zip = absurd zip
paid-later d t u (f ∷ fs) [] more zip = absurd zip
paid-later d t u (f ∷ fs) (g ∷ gs) more zip =
    let price : u.price g.size ≡ t.price f.size = more.price g.size ∙ ap t.price zip.0.same in
    let rest = paid-later d t u fs gs more zip.1 in
    omega (arith, price, rest)

-- the allowance of a window that has come later
allowance-later : (d : Delays) (t u : Terms) (p q f g : Frame) → AllowsMore (d.most - d.least) t u → ComesLater d p q → ComesLater d f g
    → allowance t (f.stamp - p.stamp) ≤ allowance u (g.stamp - q.stamp)
allowance-later d t u p q f g more first last =
    let sooner = last.no_sooner in
    let later = first.no_later in
    let window : f.stamp - p.stamp ≤ (g.stamp - q.stamp) + (d.most - d.least) = omega (arith, sooner, later) in
    let credit = mul-le-mul_left t.rate window in
    let parts : t.rate * ((g.stamp - q.stamp) + (d.most - d.least)) ≡ t.rate * (g.stamp - q.stamp) + t.rate * (d.most - d.least) = omega arith in
    let same : u.rate * (g.stamp - q.stamp) ≡ t.rate * (g.stamp - q.stamp) = ap (λ (r : ℕ). r * (g.stamp - q.stamp)) more.rate in
    let cap = more.cap in
    omega (arith, credit, parts, same, cap)

conforms-later : (d : Delays) (t u : Terms) (ps qs : List Frame) (f g : Frame) → AllowsMore (d.most - d.least) t u → ComeLater d ps qs
    → ComesLater d f g → IsTrue (conforms t ps f) → IsTrue (conforms u qs g)
conforms-later d t u [] [] f g more zip now h =
    let fits = leb-true (t.price f.size) (allowance t 0) h in
    let price : u.price g.size ≡ t.price f.size = more.price g.size ∙ ap t.price now.same in
    let cap = more.cap in
    le-leb (u.price g.size) (allowance u 0) (omega (arith, fits, price, cap))
conforms-later d t u [] (q ∷ qs) f g more zip now h = absurd zip
conforms-later d t u (p ∷ ps) [] f g more zip now h = absurd zip
conforms-later d t u (p ∷ ps) (q ∷ qs) f g more zip now h =
    let both = and_parts (nat_le (paid t (p ∷ ps) + t.price f.size) (allowance t (f.stamp - p.stamp))) (conforms t ps f) h in
    let fits = leb-true (paid t (p ∷ ps) + t.price f.size) (allowance t (f.stamp - p.stamp)) both.0 in
    let price : u.price g.size ≡ t.price f.size = more.price g.size ∙ ap t.price now.same in
    let sum = paid-later d t u (p ∷ ps) (q ∷ qs) more zip in
    let room = allowance-later d t u p q f g more zip.0 now in
    let first : nat_le (paid u (q ∷ qs) + u.price g.size) (allowance u (g.stamp - q.stamp)) ≡ true
    = le-leb (paid u (q ∷ qs) + u.price g.size) (allowance u (g.stamp - q.stamp)) (omega (arith, fits, price, sum, room)) in
    let others = conforms-later d t u ps qs f g more zip.1 now both.1 in
    rw (first, others) refl

later-after : (d : Delays) (t u : Terms) (ps qs fs gs : List Frame) → AllowsMore (d.most - d.least) t u → ComeLater d ps qs
    → ComeLater d fs gs → AllConform t ps fs → AllConform u qs gs
later-after d t u ps qs [] [] more before zip all = tt
later-after d t u ps qs [] (g ∷ gs) more before zip all = absurd zip
later-after d t u ps qs (f ∷ fs) [] more before zip all = absurd zip
later-after d t u ps qs (f ∷ fs) (g ∷ gs) more before zip all = (
  conforms-later d t u ps qs f g more before zip.0 all.0,
  later-after d t u (ps ++ f ∷ []) (qs ++ g ∷ []) fs gs more (AllZip-push (ComesLater d) ps qs f g before zip.0) zip.1 all.1,
)

pub later_conform : LaterConform
later_conform d t u fs gs more zip all = later-after d t u [] [] fs gs more tt zip all

pub passed_pass_again : {A : Type 0} → PassedPassAgain A
passed_pass_again frame_of d t u frames xs more zip =
    conforming_are_passed frame_of u xs (later_conform d t u (passed_frames t frames) (map frame_of xs) more zip (passed_conform t frames))
