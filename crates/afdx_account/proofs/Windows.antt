-- The level of an account and the windows over the frames that it passed.
use Rattle.std.proofs.Common.{◌≡◌, ℕ, ◌+◌, ◌*◌, ◌-◌, ◌≤◌, min, Bool, ◌&&◌, nat_le, List, [], ◌∷◌, ◌++◌, IsTrue, true, false, refl, sym, ap, ◌∙◌, arith, cond, append_assoc, inl, inr, map, subst}
use Rattle.std.proofs.Math.Nat.{mul-le-mul_left}
use Rattle.std.proofs.lemmas.List.{append-nil, map-id}
use Rattle.std.proofs.lemmas.Bool.{cases_Bool, cond_both, leb-true, and_parts}
use Rattle.std.proofs.lemmas.Bool.Decides.{nat_tests}
use Rattle.afdx_account.specs.declared.frame.Frame.{Frame}
use Rattle.afdx_account.specs.Policing.{Terms, paid, allowance, conforms, passed_after, passed_frames}
use Rattle.afdx_account.specs.Inner.MeterLaws.{fills}
use Rattle.afdx_account.specs.Level.{headroom, NoneLater, IsLevelAfter, PassesWhatConforms, credited_level, stepped, InOrder}

-- each window from one of these frames up to an instant keeps to its allowance
abbrev pub Sound : Terms → List Frame → ℕ → Type 0
Sound t [] now = Unit {0}
Sound t (g ∷ gs) now = (paid t (g ∷ gs) ≤ allowance t (now - g.stamp)) × Sound t gs now

pub paid-push : (t : Terms) (gs : List Frame) (f : Frame) → paid t (gs ++ f ∷ []) ≡ paid t gs + t.price f.size
paid-push t [] f = omega arith
paid-push t (g ∷ gs) f = omega (arith, paid-push t gs f)

-- two tests of one number are the test against the smaller limit
both_tests : (p q a h : ℕ) → q ≤ a → (nat_le (q + p) a && nat_le p h) ≡ nat_le p (min h (a - q))
both_tests p q a h le = grind (arith, nat_tests)

pub conforms_is : (t : Terms) (ps : List Frame) (f : Frame) → Sound t ps f.stamp → conforms t ps f ≡ nat_le (t.price f.size) (headroom t ps f.stamp)
conforms_is t [] f sound = let e : allowance t 0 ≡ t.cap = omega arith in ap (nat_le (t.price f.size)) e
conforms_is t (g ∷ gs) f sound =
    ap (λ (b : Bool). nat_le (paid t (g ∷ gs) + t.price f.size) (allowance t (f.stamp - g.stamp)) && b) (conforms_is t gs f sound.1)
    ∙ both_tests (t.price f.size) (paid t (g ∷ gs)) (allowance t (f.stamp - g.stamp)) (headroom t gs f.stamp) sound.0

-- a product over a gap in two parts
gap_parts : (rate stamp now later : ℕ) → stamp ≤ now → now ≤ later → rate * (later - stamp) ≡ rate * (now - stamp) + rate * (later - now)
gap_parts rate stamp now later h k =
    let whole : later - stamp ≡ (now - stamp) + (later - now) = omega arith in
    ap (λ (n : ℕ). rate * n) whole ∙ omega arith

pub headroom-later : (t : Terms) (ps : List Frame) (now later : ℕ) → now ≤ later → NoneLater ps now → Sound t ps now
    → headroom t ps later ≡ min t.cap (headroom t ps now + t.rate * (later - now))
headroom-later t [] now later le early sound = omega arith
headroom-later t (g ∷ gs) now later le early sound =
    let below = headroom-later t gs now later le early.1 sound.1 in
    let split = gap_parts t.rate g.stamp now later early.0 le in
    let fits = sound.0 in
    omega (arith, below, split, fits)

pub headroom-push : (t : Terms) (ps : List Frame) (f : Frame)
    → headroom t (ps ++ f ∷ []) f.stamp ≡ headroom t ps f.stamp - t.price f.size
headroom-push t [] f =
    let none : t.rate * (f.stamp - f.stamp) ≡ 0 = ap (λ (n : ℕ). t.rate * n) (let z : f.stamp - f.stamp ≡ 0 = omega arith in z) ∙ omega arith in
    omega (arith, none)
headroom-push t (g ∷ gs) f =
    let below = headroom-push t gs f in
    let more = paid-push t gs f in
    omega (arith, below, more)

-- what keeps to its allowance at an instant does so later
Sound-later : (t : Terms) (ps : List Frame) (now later : ℕ) → now ≤ later → Sound t ps now → Sound t ps later
Sound-later t [] now later le sound = tt
Sound-later t (g ∷ gs) now later le sound =
    let window : now - g.stamp ≤ later - g.stamp = omega arith in
    let credit = mul-le-mul_left t.rate window in
    let fits = sound.0 in
    (omega (arith, credit, fits), Sound-later t gs now later le sound.1)

-- a frame that conforms keeps them sound
Sound-push : (t : Terms) (ps : List Frame) (f : Frame) (now : ℕ) → f.stamp ≤ now → Sound t ps now → IsTrue (conforms t ps f) → Sound t (ps ++ f ∷ []) now
Sound-push t [] f now le sound h =
    let fits = leb-true (t.price f.size) (allowance t 0) h in
    (omega (arith, fits), tt)
Sound-push t (g ∷ gs) f now le sound h =
    let both = and_parts (nat_le (paid t (g ∷ gs) + t.price f.size) (allowance t (f.stamp - g.stamp))) (conforms t gs f) h in
    let fits = leb-true (paid t (g ∷ gs) + t.price f.size) (allowance t (f.stamp - g.stamp)) both.0 in
    let window : f.stamp - g.stamp ≤ now - g.stamp = omega arith in
    let credit = mul-le-mul_left t.rate window in
    let more = paid-push t gs f in
    (omega (arith, credit, fits, more), Sound-push t gs f now le sound.1 both.1)

-- those passed before, with the frames that are passed, keep to their allowances in each window
pub passed_sound : (t : Terms) (passed fs : List Frame) (now : ℕ) → NoneLater fs now → Sound t passed now
    → Sound t (passed ++ passed_after (λ (f : Frame). f) t passed fs) now
passed_sound t passed [] now early sound = rw (append-nil passed) sound
passed_sound t passed (f ∷ fs) now early sound =
    elim (cases_Bool (conforms t passed f)) [
      | inl was ↦ rw was (subst (λ (all : List Frame). Sound t all now) (append_assoc passed (f ∷ []) (passed_after (λ (g : Frame). g) t (passed ++ f ∷ []) fs))
          (passed_sound t (passed ++ f ∷ []) fs now early.1 (Sound-push t passed f now early.0 sound was)))
      | inr not ↦ rw not (passed_sound t passed fs now early.1 sound)
    ]

pub NoneLater-push : (fs : List Frame) (f : Frame) (now : ℕ) → NoneLater fs now → f.stamp ≤ now → NoneLater (fs ++ f ∷ []) now
NoneLater-push [] f now early le = (le, tt)
NoneLater-push (g ∷ gs) f now early le = (early.0, NoneLater-push gs f now early.1 le)

pub NoneLater-later : (fs : List Frame) (now later : ℕ) → now ≤ later → NoneLater fs now → NoneLater fs later
NoneLater-later [] now later le early = tt
NoneLater-later (g ∷ gs) now later le early = (let h = early.0 in omega (arith, h), NoneLater-later gs now later le early.1)

pub passed_early : (t : Terms) (passed fs : List Frame) (now : ℕ) → NoneLater fs now → NoneLater (passed_after (λ (f : Frame). f) t passed fs) now
passed_early t passed [] now early = tt
passed_early t passed (f ∷ fs) now early =
    elim (cases_Bool (conforms t passed f)) [
      | inl was ↦ rw was (early.0, passed_early t (passed ++ f ∷ []) fs now early.1)
      | inr not ↦ rw not (passed_early t passed fs now early.1)
    ]

cond-cons : {A : Type 0} (b : Bool) (x : A) (xs ys : List A) → x ∷ cond b xs ys ≡ cond b (x ∷ xs) (x ∷ ys)
cond-cons true x xs ys = refl
cond-cons false x xs ys = refl

-- the next one joins where its frame conforms
pub passed_after-push : {A : Type 0} (frame_of : A → Frame) (t : Terms) (passed : List Frame) (xs : List A) (x : A)
    → passed_after frame_of t passed (xs ++ x ∷ [])
    ≡ cond (conforms t (passed ++ map frame_of (passed_after frame_of t passed xs)) (frame_of x))
    (passed_after frame_of t passed xs ++ x ∷ []) (passed_after frame_of t passed xs)
passed_after-push frame_of t passed [] x =
    elim (cases_Bool (conforms t passed (frame_of x))) [
      | inl was ↦ rw (append-nil passed, was) refl
      | inr not ↦ rw (append-nil passed, not) refl
    ]
passed_after-push frame_of t passed (y ∷ ys) x =
    elim (cases_Bool (conforms t passed (frame_of y))) [
      | inl was ↦ rw was (
          let more = passed_after frame_of t (passed ++ frame_of y ∷ []) ys in
          ap (λ (zs : List _). y ∷ zs) (passed_after-push frame_of t (passed ++ frame_of y ∷ []) ys x)
          ∙ cond-cons (conforms t ((passed ++ frame_of y ∷ []) ++ map frame_of more) (frame_of x)) y (more ++ x ∷ []) more
          ∙ ap (λ (gs : List Frame). cond (conforms t gs (frame_of x)) (y ∷ more ++ x ∷ []) (y ∷ more)) (append_assoc passed (frame_of y ∷ []) (map frame_of more)))
      | inr not ↦ rw not (passed_after-push frame_of t passed ys x)
    ]

-- the frames of what is passed of a list are the frames passed of its frames
pub map-passed_after : {A : Type 0} (frame_of : A → Frame) (t : Terms) (passed : List Frame) (xs : List A)
    → map frame_of (passed_after frame_of t passed xs) ≡ passed_after (λ (f : Frame). f) t passed (map frame_of xs)
map-passed_after frame_of t passed [] = refl
map-passed_after frame_of t passed (x ∷ xs) =
    elim (cases_Bool (conforms t passed (frame_of x))) [
      | inl was ↦ rw was (ap (λ (fs : List Frame). frame_of x ∷ fs) (map-passed_after frame_of t (passed ++ frame_of x ∷ []) xs))
      | inr not ↦ rw not (map-passed_after frame_of t passed xs)
    ]

-- the same of frames themselves
pub passed_frames-push : (t : Terms) (frames : List Frame) (f : Frame)
    → passed_frames t (frames ++ f ∷ [])
    ≡ cond (conforms t (passed_frames t frames) f) (passed_frames t frames ++ f ∷ []) (passed_frames t frames)
passed_frames-push t frames f =
    passed_after-push (λ (g : Frame). g) t [] frames f
    ∙ ap (λ (passed : List Frame). cond (conforms t passed f) (passed_frames t frames ++ f ∷ []) (passed_frames t frames)) (map-id (passed_frames t frames))

-- at the instant since, an account that passed these frames has this level
pub record Keeps (t : Terms) (ps : List Frame) (since level : ℕ) : Type 0 where
  pub early : NoneLater ps since
  pub sound : Sound t ps since
  pub level_is : level ≡ headroom t ps since

pub Keeps-later : (t : Terms) (ps : List Frame) (since level at : ℕ) → since ≤ at → Keeps t ps since level → Keeps t ps at (min t.cap (level + t.rate * (at - since)))
Keeps-later t ps since level at le k = record {
  early = NoneLater-later ps since at le k.early;
  sound = Sound-later t ps since at le k.sound;
  level_is = ap (λ (l : ℕ). min t.cap (l + t.rate * (at - since))) k.level_is ∙ sym (headroom-later t ps since at le k.early k.sound);
}

pub Keeps-decides : (t : Terms) (ps : List Frame) (f : Frame) (now : ℕ) → Keeps t ps f.stamp now → nat_le (t.price f.size) now ≡ conforms t ps f
Keeps-decides t ps f now k = ap (nat_le (t.price f.size)) k.level_is ∙ sym (conforms_is t ps f k.sound)

pub Keeps-push : (t : Terms) (ps : List Frame) (f : Frame) (now : ℕ) → Keeps t ps f.stamp now → IsTrue (conforms t ps f) → Keeps t (ps ++ f ∷ []) f.stamp (now - t.price f.size)
Keeps-push t ps f now k h = record {
  early = NoneLater-push ps f f.stamp k.early (omega arith);
  sound = Sound-push t ps f f.stamp (omega arith) k.sound h;
  level_is = ap (λ (l : ℕ). l - t.price f.size) k.level_is ∙ sym (headroom-push t ps f);
}

-- one offer
pub Keeps-offer : (t : Terms) (ps : List Frame) (f : Frame) (now : ℕ) → Keeps t ps f.stamp now
    → Keeps t (cond (conforms t ps f) (ps ++ f ∷ []) ps) f.stamp (cond (nat_le (t.price f.size) now) (now - t.price f.size) now)
Keeps-offer t ps f now k =
    rw (Keeps-decides t ps f now k)
    (elim (cases_Bool (conforms t ps f)) [
      | inl was ↦ rw was (Keeps-push t ps f now k was)
      | inr not ↦ rw not k
    ])

pub Keeps-passed : (t : Terms) (since level : ℕ) (frames : List Frame) → IsLevelAfter t since level frames → Keeps t (passed_frames t frames) since level
Keeps-passed t since level frames s = record {
  early = passed_early t [] frames since s.latest;
  sound = passed_sound t [] frames since s.latest tt;
  level_is = s.level_is;
}

-- the frame that is offered next
pub decides : (t : Terms) (since level : ℕ) (frames : List Frame) (f : Frame) → since ≤ f.stamp → IsLevelAfter t since level frames
    → nat_le (t.price f.size) (min t.cap (level + t.rate * (f.stamp - since))) ≡ conforms t (passed_frames t frames) f
decides t since level frames f le s =
    Keeps-decides t (passed_frames t frames) f _ (Keeps-later t (passed_frames t frames) since level f.stamp le (Keeps-passed t since level frames s))

pub IsLevelAfter-offer : (t : Terms) (since level : ℕ) (frames : List Frame) (f : Frame) → since ≤ f.stamp → IsLevelAfter t since level frames
    → IsLevelAfter t f.stamp (let now = min t.cap (level + t.rate * (f.stamp - since)) in cond (nat_le (t.price f.size) now) (now - t.price f.size) now) (frames ++ f ∷ [])
IsLevelAfter-offer t since level frames f le s =
    let now = min t.cap (level + t.rate * (f.stamp - since)) in
    let k = Keeps-offer t (passed_frames t frames) f now (Keeps-later t (passed_frames t frames) since level f.stamp le (Keeps-passed t since level frames s)) in
    record {
      latest = NoneLater-push frames f f.stamp (NoneLater-later frames since f.stamp le s.latest) (omega arith);
      level_is = k.level_is ∙ ap (λ (ps : List Frame). headroom t ps f.stamp) (sym (passed_frames-push t frames f));
    }

-- what is passed of the rest, and what steps pass of it
pub steps_on : (t : Terms) (ps fs : List Frame) (since level : ℕ) → Keeps t ps since level → InOrder since fs
    → stepped t level since fs ≡ passed_after (λ (f : Frame). f) t ps fs
steps_on t ps [] since level k order = refl
steps_on t ps (f ∷ fs) since level k order =
    let now = credited_level t level (f.stamp - since) in
    let here : Keeps t ps f.stamp now = Keeps-later t ps since level f.stamp order.0 k in
    let test : nat_le (t.price f.size) now ≡ conforms t ps f = Keeps-decides t ps f now here in
    elim (cases_Bool (conforms t ps f)) [
      | inl was ↦ rw (test, was) (ap (λ (gs : List Frame). f ∷ gs) (steps_on t (ps ++ f ∷ []) fs f.stamp (now - t.price f.size) (Keeps-push t ps f now here was) order.1))
      | inr not ↦ rw (test, not) (steps_on t ps fs f.stamp now here order.1)
    ]

pub steps_pass : (t : Terms) (fs : List Frame) → InOrder 0 fs → stepped t t.cap 0 fs ≡ passed_frames t fs
steps_pass t fs order = steps_on t [] fs 0 t.cap (record { early = tt; sound = tt; level_is = refl }) order

-- an offer that answers by the level, and leaves it less the price where it passes
pub passes_what_conforms : (t : Terms) (since level at size : ℕ) (passes : Bool) (left : ℕ) → since ≤ at
    → passes ≡ nat_le (t.price size) (credited_level t level (at - since))
    → left ≡ cond passes (credited_level t level (at - since) - t.price size) (credited_level t level (at - since))
    → PassesWhatConforms t since (credited_level t level (since - since)) at size passes (credited_level t left (at - at))
passes_what_conforms t since level at size passes left le passes-is left-is frames s =
    let f : Frame = record { stamp = at; size = size } in
    let now = credited_level t level (at - since) in
    let start = credited_level t level (since - since) in
    let same : now ≡ credited_level t start (at - since) = fills t.cap t.rate level since since at (omega arith) le in
    let low : left ≤ t.cap = rw left-is (cond_both passes (now - t.price size) now (λ (n : ℕ). n ≤ t.cap) (λ h. omega arith) (λ h. omega arith)) in
    let none : t.rate * (at - at) ≡ 0 = ap (λ (n : ℕ). t.rate * n) (let z : at - at ≡ 0 = omega arith in z) ∙ omega arith in
    let still : credited_level t left (at - at) ≡ left = omega (arith, none, low) in
    let test : passes ≡ nat_le (t.price size) (credited_level t start (at - since)) = passes-is ∙ ap (nat_le (t.price size)) same in
    let kept : left ≡ (let there = credited_level t start (at - since) in cond (nat_le (t.price size) there) (there - t.price size) there) =
    left-is ∙ rw (test, same) refl in
    (test ∙ decides t since start frames f le s, rw (still, kept) (IsLevelAfter-offer t since start frames f le s))

-- an offer that passes debits the price, which pays for the cost
pub pays_what_passes : (t : Terms) (weight cost since level at size : ℕ) (passes : Bool) (left : ℕ) → cost ≤ weight * t.price size
    → passes ≡ nat_le (t.price size) (credited_level t level (at - since))
    → left ≡ cond passes (credited_level t level (at - since) - t.price size) (credited_level t level (at - since))
    → IsTrue passes → cost + weight * credited_level t left (at - at) ≤ weight * credited_level t level (at - since)
pays_what_passes t weight cost since level at size passes left pays passes-is left-is passed =
    let now : ℕ = credited_level t level (at - since) in
    let price : ℕ = t.price size in
    let fits : price ≤ now = leb-true price now (sym passes-is ∙ passed) in
    let less : left ≡ now - price = left-is ∙ ap (λ (b : Bool). cond b (now - price) now) passed in
    let none : t.rate * (at - at) ≡ 0 = ap (λ (n : ℕ). t.rate * n) (let z : at - at ≡ 0 = omega arith in z) ∙ omega arith in
    let still : credited_level t left (at - at) ≤ left = omega (arith, none) in
    let most = mul-le-mul_left weight still in
    let whole : weight * now ≡ weight * left + weight * price = ap (λ (n : ℕ). weight * n) (let e : now ≡ left + price = omega (arith, fits, less) in e) ∙ omega arith in
    omega (arith, most, whole, pays)
