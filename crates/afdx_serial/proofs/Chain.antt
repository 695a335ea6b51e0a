-- Frames on one line, one after the other.
use Rattle.std.proofs.Common.{◌≡◌, ℕ, suc, ◌+◌, ◌-◌, ◌≤◌, nat_le, Bool, true, false, cond, List, [], ◌∷◌, ◌++◌, IsTrue, map, refl, ap, sym, subst, arith, append_assoc}
use Rattle.std.specs.Prelude.{All, AllPairs, filter}
use Rattle.std.specs.List.{AllZip}
use Rattle.std.proofs.Math.Nat.{mul-le-mul_right}
use Rattle.std.proofs.lemmas.Bool.{le-leb}
use Rattle.std.proofs.lemmas.List.Elements.{All-nil, All-cons, All-head, All-tail, All-weaker, All-map}
use Rattle.std.proofs.lemmas.List.Kept.{AllPairs-cons}
use Rattle.afdx_units.specs.declared.line.Speed.{Speed}
use Rattle.afdx_units.specs.Line.{cost_of, tick_of}
use Rattle.afdx_account.specs.declared.frame.Frame.{Frame}
use Rattle.afdx_account.specs.Policing.{Terms, paid, allowance, conforms, passed_after, passed_frames}
use Rattle.afdx_serial.specs.Serial.{IsRounded, KeepsToLine, KeepsToLineWithin, line_terms, line_time}

-- ---- pairs of a list

pub pairs_head : {X : Type 0} (R : X → X → Type 0) (x : X) (xs : List X) → AllPairs R (x ∷ xs) → All (R x) xs
pairs_head R x xs h k d lt = h 0 (suc k) d (omega arith) (omega (arith, lt))

pub pairs_tail : {X : Type 0} (R : X → X → Type 0) (x : X) (xs : List X) → AllPairs R (x ∷ xs) → AllPairs R xs
pairs_tail R x xs h i j d lt within = h (suc i) (suc j) d (omega (arith, lt)) (omega (arith, within))

pub no_pairs : {X : Type 0} (R : X → X → Type 0) → AllPairs R []
no_pairs R i j d lt within = absurd (omega (arith, within))

all_front : {X : Type 0} (P : X → Type 0) (xs ys : List X) → All P (xs ++ ys) → All P xs
all_front P [] ys h = All-nil P
all_front P (x ∷ xs) ys h = All-cons P x xs (All-head P x (xs ++ ys) h) (all_front P xs ys (All-tail P x (xs ++ ys) h))

pairs_front : {X : Type 0} (R : X → X → Type 0) (xs ys : List X) → AllPairs R (xs ++ ys) → AllPairs R xs
pairs_front R [] ys h = no_pairs R
pairs_front R (x ∷ xs) ys h = AllPairs-cons R x xs (all_front (R x) xs ys (pairs_head R x (xs ++ ys) h)) (pairs_front R xs ys (pairs_tail R x (xs ++ ys) h))

pairs_back : {X : Type 0} (R : X → X → Type 0) (xs ys : List X) → AllPairs R (xs ++ ys) → AllPairs R ys
pairs_back R [] ys h = h
pairs_back R (x ∷ xs) ys h = pairs_back R xs ys (pairs_tail R x (xs ++ ys) h)

pairs_map : {X Y : Type 0} (R : X → X → Type 0) (S : Y → Y → Type 0) (f : X → Y) → ((a b : X) → R a b → S (f a) (f b)) → (xs : List X) → AllPairs R xs → AllPairs S (map f xs)
pairs_map R S f step [] h = no_pairs S
pairs_map R S f step (x ∷ xs) h =
    AllPairs-cons S (f x) (map f xs) (All-map (S (f x)) f xs (All-weaker (R x) (λ y. S (f x) (f y)) (step x) xs (pairs_head R x xs h)))
    (pairs_map R S f step xs (pairs_tail R x xs h))

-- ---- some of a list

-- what of the second list stands where members of the first were chosen
abbrev chosen : {X Y : Type 0} → (X → Bool) → List X → List Y → List Y
chosen p [] ys = []
chosen p (x ∷ xs) [] = []
chosen p (x ∷ xs) (y ∷ ys) = cond (p x) (y ∷ chosen p xs ys) (chosen p xs ys)

all_chosen : {X Y : Type 0} (P : Y → Type 0) (p : X → Bool) (xs : List X) (ys : List Y) → All P ys → All P (chosen p xs ys)
all_chosen P p [] ys h = All-nil P
all_chosen P p (x ∷ xs) [] h = All-nil P
all_chosen P p (x ∷ xs) (y ∷ ys) h = by (p x) (All-head P y ys h) (all_chosen P p xs ys (All-tail P y ys h)) where
  by : (b : Bool) → P y → All P (chosen p xs ys) → All P (cond b (y ∷ chosen p xs ys) (chosen p xs ys))
  by true here rest = All-cons P y (chosen p xs ys) here rest
  by false here rest = rest

pairs_chosen : {X Y : Type 0} (R : Y → Y → Type 0) (p : X → Bool) (xs : List X) (ys : List Y) → AllPairs R ys → AllPairs R (chosen p xs ys)
pairs_chosen R p [] ys h = no_pairs R
pairs_chosen R p (x ∷ xs) [] h = no_pairs R
pairs_chosen R p (x ∷ xs) (y ∷ ys) h = by (p x) (all_chosen (R y) p xs ys (pairs_head R y ys h)) (pairs_chosen R p xs ys (pairs_tail R y ys h)) where
  by : (b : Bool) → All (R y) (chosen p xs ys) → AllPairs R (chosen p xs ys) → AllPairs R (cond b (y ∷ chosen p xs ys) (chosen p xs ys))
  by true behind rest = AllPairs-cons R y (chosen p xs ys) behind rest
  by false behind rest = rest

zip_chosen : {X Y Z : Type 0} (R : Y → Z → Type 0) (f : X → Y) (p : X → Bool) (xs : List X) (zs : List Z) → AllZip R (map f xs) zs → AllZip R (map f (filter p xs)) (chosen p xs zs)
zip_chosen R f p [] zs zip = tt
zip_chosen R f p (x ∷ xs) [] zip = absurd zip
zip_chosen R f p (x ∷ xs) (z ∷ zs) zip = by (p x) zip.0 (zip_chosen R f p xs zs zip.1) where
  by : (b : Bool) → R (f x) z → AllZip R (map f (filter p xs)) (chosen p xs zs)
      → AllZip R (map f (cond b (x ∷ filter p xs) (filter p xs))) (cond b (z ∷ chosen p xs zs) (chosen p xs zs))
  by true here rest = (here, rest)
  by false here rest = rest

pub parts : {X : Type 0} (f : X → Frame) (rounding : ℕ) (speed : Speed) (p : X → Bool) (xs : List X) → KeepsToLineWithin rounding speed (map f xs)
    → KeepsToLineWithin rounding speed (map f (filter p xs))
parts f rounding speed p xs keeps = (
  chosen p xs keeps.0,
  zip_chosen (IsRounded rounding) f p xs keeps.0 keeps.1,
  pairs_chosen (λ (f g : Frame). f.stamp + cost_of speed g.size ≤ g.stamp) p xs keeps.0 keeps.2,
)

-- ---- the first of a list

abbrev front_of : {X Y : Type 0} → List X → List Y → List Y
front_of [] ys = []
front_of (x ∷ xs) [] = []
front_of (x ∷ xs) (y ∷ ys) = y ∷ front_of xs ys

all_front_of : {X Y : Type 0} (P : Y → Type 0) (xs : List X) (ys : List Y) → All P ys → All P (front_of xs ys)
all_front_of P [] ys h = All-nil P
all_front_of P (x ∷ xs) [] h = All-nil P
all_front_of P (x ∷ xs) (y ∷ ys) h = All-cons P y (front_of xs ys) (All-head P y ys h) (all_front_of P xs ys (All-tail P y ys h))

pairs_front_of : {X Y : Type 0} (R : Y → Y → Type 0) (xs : List X) (ys : List Y) → AllPairs R ys → AllPairs R (front_of xs ys)
pairs_front_of R [] ys h = no_pairs R
pairs_front_of R (x ∷ xs) [] h = no_pairs R
pairs_front_of R (x ∷ xs) (y ∷ ys) h = AllPairs-cons R y (front_of xs ys) (all_front_of (R y) xs ys (pairs_head R y ys h)) (pairs_front_of R xs ys (pairs_tail R y ys h))

zip_front_of : {X Y : Type 0} (R : X → Y → Type 0) (xs more : List X) (ys : List Y) → AllZip R (xs ++ more) ys → AllZip R xs (front_of xs ys)
zip_front_of R [] more ys zip = tt
zip_front_of R (x ∷ xs) more [] zip = absurd zip
zip_front_of R (x ∷ xs) more (y ∷ ys) zip = (zip.0, zip_front_of R xs more ys zip.1)

pub front : (rounding : ℕ) (speed : Speed) (xs more : List Frame) → KeepsToLineWithin rounding speed (xs ++ more) → KeepsToLineWithin rounding speed xs
front rounding speed xs more keeps = (
  front_of xs keeps.0,
  zip_front_of (IsRounded rounding) xs more keeps.0 keeps.1,
  pairs_front_of (λ (f g : Frame). f.stamp + cost_of speed g.size ≤ g.stamp) xs keeps.0 keeps.2,
)

-- ---- a list without one of its members

abbrev without : {X Y : Type 0} → List X → List Y → List Y
without [] [] = []
without [] (y ∷ ys) = ys
without (x ∷ xs) [] = []
without (x ∷ xs) (y ∷ ys) = y ∷ without xs ys

all_without : {X Y : Type 0} (P : Y → Type 0) (xs : List X) (ys : List Y) → All P ys → All P (without xs ys)
all_without P [] [] h = All-nil P
all_without P [] (y ∷ ys) h = All-tail P y ys h
all_without P (x ∷ xs) [] h = All-nil P
all_without P (x ∷ xs) (y ∷ ys) h = All-cons P y (without xs ys) (All-head P y ys h) (all_without P xs ys (All-tail P y ys h))

pairs_without : {X Y : Type 0} (R : Y → Y → Type 0) (xs : List X) (ys : List Y) → AllPairs R ys → AllPairs R (without xs ys)
pairs_without R [] [] h = no_pairs R
pairs_without R [] (y ∷ ys) h = pairs_tail R y ys h
pairs_without R (x ∷ xs) [] h = no_pairs R
pairs_without R (x ∷ xs) (y ∷ ys) h = AllPairs-cons R y (without xs ys) (all_without (R y) xs ys (pairs_head R y ys h)) (pairs_without R xs ys (pairs_tail R y ys h))

zip_without : {X Y : Type 0} (R : X → Y → Type 0) (xs : List X) (x : X) (more : List X) (ys : List Y) → AllZip R (xs ++ x ∷ more) ys → AllZip R (xs ++ more) (without xs ys)
zip_without R [] x more [] zip = absurd zip
zip_without R [] x more (y ∷ ys) zip = zip.1
zip_without R (x' ∷ xs) x more [] zip = absurd zip
zip_without R (x' ∷ xs) x more (y ∷ ys) zip = (zip.0, zip_without R xs x more ys zip.1)

pub skip : (rounding : ℕ) (speed : Speed) (xs : List Frame) (x : Frame) (more : List Frame) → KeepsToLineWithin rounding speed (xs ++ x ∷ more) → KeepsToLineWithin rounding speed (xs ++ more)
skip rounding speed xs x more keeps = (
  without xs keeps.0,
  zip_without (IsRounded rounding) xs x more keeps.0 keeps.1,
  pairs_without (λ (f g : Frame). f.stamp + cost_of speed g.size ≤ g.stamp) xs keeps.0 keeps.2,
)

-- ---- a line

module _ (speed : Speed) where
  abbrev Apart : Frame → Frame → Type 0
  Apart f g = f.stamp + cost_of speed g.size ≤ g.stamp

  -- from the first on, the line times of all later ones have gone by
  runs : (f : Frame) (gs : List Frame) (end : ℕ) → AllPairs Apart (f ∷ gs) → All (λ (g : Frame). g.stamp ≤ end) (f ∷ gs) → f.stamp + line_time speed gs ≤ end
  runs f [] end pairs soon = let here = All-head (λ (g : Frame). g.stamp ≤ end) f [] soon in omega (arith, here)
  runs f (g ∷ gs) end pairs soon =
      let ih = runs g gs end (pairs_tail Apart f (g ∷ gs) pairs) (All-tail (λ (g : Frame). g.stamp ≤ end) f (g ∷ gs) soon) in
      let step = All-head (Apart f) g gs (pairs_head Apart f (g ∷ gs) pairs) in
      omega (arith, ih, step)

  pub windows : (before : List Frame) (first : Frame) (more after : List Frame) (end : ℕ) → AllPairs Apart (before ++ ((first ∷ more) ++ after))
      → All (λ (f : Frame). f.stamp ≤ end) (first ∷ more) → line_time speed (first ∷ more) ≤ cost_of speed first.size + (end - first.stamp)
  windows before first more after end pairs soon =
      let here = pairs_front Apart (first ∷ more) after (pairs_back Apart before ((first ∷ more) ++ after) pairs) in
      let gone = runs first more end here soon in
      omega (arith, gone)

  module _ (rounding : ℕ) where
    -- when the first came, all later ones with the last have come no later than the stamp of that and what it may lack
    run_to : (g : Frame) (gs : List Frame) (f : Frame) (c : Frame) (cs : List Frame) → AllZip (IsRounded rounding) (gs ++ f ∷ []) cs → AllPairs Apart (c ∷ cs)
        → c.stamp + (line_time speed gs + cost_of speed f.size) ≤ f.stamp + rounding
    run_to g [] f c [] zip pairs = absurd zip
    run_to g [] f c (d ∷ cs) zip pairs =
        let step = All-head (Apart c) d cs (pairs_head Apart c (d ∷ cs) pairs) in
        let size = ap (cost_of speed) zip.0.size in
        let late = zip.0.no_later in
        omega (arith, step, size, late)
    run_to g (h ∷ gs) f c [] zip pairs = absurd zip
    run_to g (h ∷ gs) f c (d ∷ cs) zip pairs =
        let ih = run_to h gs f d cs zip.1 (pairs_tail Apart c (d ∷ cs) pairs) in
        let step = All-head (Apart c) d cs (pairs_head Apart c (d ∷ cs) pairs) in
        let size = ap (cost_of speed) zip.0.size in
        omega (arith, ih, step, size)

    module _ (largest : ℕ) where
      abbrev terms : Terms
      terms = line_terms speed rounding largest

      abbrev IsSmall : Frame → Type 0
      IsSmall f = f.size ≤ largest

      within : (f : Frame) → IsSmall f → cost_of speed f.size ≤ cost_of speed largest
      within f small = let le : f.size + 20 ≤ largest + 20 = omega (arith, small) in mul-le-mul_right (tick_of speed) le

      paid_is : (gs : List Frame) → paid terms gs ≡ line_time speed gs
      paid_is [] = refl
      paid_is (g ∷ gs) = let ih = paid_is gs in omega (arith, ih)

      by_instants : (ps : List Frame) (f : Frame) (cs : List Frame) → AllZip (IsRounded rounding) (ps ++ f ∷ []) cs → AllPairs Apart cs → All IsSmall (ps ++ f ∷ [])
          → IsTrue (conforms terms ps f)
      by_instants [] f cs zip pairs small = le-leb (cost_of speed f.size) (allowance terms 0) (omega (arith, within f (All-head IsSmall f [] small)))
      by_instants (g ∷ gs) f [] zip pairs small = absurd zip
      by_instants (g ∷ gs) f (c ∷ cs) zip pairs small =
          let gone = run_to g gs f c cs zip.1 pairs in
          let soon = zip.0.no_sooner in
          let fits = within g (All-head IsSmall g (gs ++ f ∷ []) small) in
          let sum = paid_is gs in
          let first : nat_le (paid terms (g ∷ gs) + cost_of speed f.size) (allowance terms (f.stamp - g.stamp)) ≡ true
          = le-leb (paid terms (g ∷ gs) + cost_of speed f.size) (allowance terms (f.stamp - g.stamp)) (omega (arith, gone, soon, fits, sum)) in
          let others = by_instants gs f cs zip.1 (pairs_tail Apart c cs pairs) (All-tail IsSmall g (gs ++ f ∷ []) small) in
          rw (first, others) refl

      pub conforms_to : (ps : List Frame) (f : Frame) → KeepsToLineWithin rounding speed (ps ++ f ∷ []) → All IsSmall (ps ++ f ∷ []) → IsTrue (conforms terms ps f)
      conforms_to ps f keeps small = by_instants ps f keeps.0 keeps.1 keeps.2 small

      passes_all : (ps fs : List Frame) → KeepsToLineWithin rounding speed (ps ++ fs) → All IsSmall (ps ++ fs) → passed_after (λ (f : Frame). f) terms ps fs ≡ fs
      passes_all ps [] keeps small = refl
      passes_all ps (f ∷ fs) keeps small =
          let same = sym (append_assoc ps (f ∷ []) fs) in
          let keeps' : KeepsToLineWithin rounding speed ((ps ++ f ∷ []) ++ fs) = subst (λ (xs : List Frame). KeepsToLineWithin rounding speed xs) same keeps in
          let small' : All IsSmall ((ps ++ f ∷ []) ++ fs) = subst (λ (xs : List Frame). All IsSmall xs) same small in
          let joins : conforms terms ps f ≡ true = conforms_to ps f (front rounding speed (ps ++ f ∷ []) fs keeps') (all_front IsSmall (ps ++ f ∷ []) fs small') in
          rw joins (ap (λ (ys : List Frame). f ∷ ys) (passes_all (ps ++ f ∷ []) fs keeps' small'))

      pub all_passed : (frames : List Frame) → KeepsToLineWithin rounding speed frames → All IsSmall frames → passed_frames terms frames ≡ frames
      all_passed frames keeps small = passes_all [] frames keeps small

-- where stamps are exact, the frames came when they say
pub exact : (rounding : ℕ) (speed : Speed) (frames : List Frame) → KeepsToLine speed frames → KeepsToLineWithin rounding speed frames
exact rounding speed frames pairs = (frames, own frames, pairs) where
  own : (fs : List Frame) → AllZip (IsRounded rounding) fs fs
  own [] = tt
  own (f ∷ fs) = (record { size = refl; no_sooner = omega arith; no_later = omega arith }, own fs)

pub later : (speed : Speed) (cable : ℕ) (frames : List Frame) → KeepsToLine speed frames → KeepsToLine speed (map (λ (f : Frame). record { stamp = f.stamp + cable; size = f.size }) frames)
later speed cable frames pairs =
    pairs_map (λ (f g : Frame). f.stamp + cost_of speed g.size ≤ g.stamp) (λ (f g : Frame). f.stamp + cost_of speed g.size ≤ g.stamp) (λ (f : Frame). record { stamp = f.stamp + cable; size = f.size })
    (λ a b h. omega (arith, h)) frames pairs
