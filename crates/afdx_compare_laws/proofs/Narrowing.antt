-- Frames and fates of a span of recordings.
use Rattle.std.proofs.Common.{◌≡◌, ◌⊎◌, ℕ, ◌+◌, ◌*◌, ◌-◌, ◌≤◌, min, cond, Bool, true, false, List, [], ◌∷◌, ◌++◌, map, Option, Some, None, refl, sym, ap, subst, ◌∙◌, arith, inl, inr}
use Rattle.std.specs.Prelude.{filter, ◌&&◌}
use Rattle.std.specs.List.{AllByRecursion}
use Rattle.std.proofs.Math.Nat.{mul-le-mul_left}
use Rattle.std.proofs.lemmas.Bool.{cases_Bool, and_from, and_left, and_right, leb-true, leb-false, le-leb, lt-leb, ltb-true, lt-ltb}
use Rattle.afdx_pcap.specs.Record.{Record}
use Rattle.afdx_account.specs.Policing.{Terms}
use Rattle.afdx_account.specs.Level.{InOrder}
use Rattle.afdx_filter.specs.Frame.{frame_of}
use Rattle.afdx_levels.specs.Levels.{Levels, slack_of, unknown, credited, after, Allowed}
use Rattle.afdx_levels.specs.Inner.Laws.{chosen, AllFit}
use Rattle.afdx_following.specs.declared.watch.Start.{Start}
use Rattle.afdx_following.specs.declared.watch.Start.TheVariants.{Rest, Cut}
use Rattle.afdx_following.specs.Watch.{has_begun, has_not_ended}
use Rattle.afdx_compare.proofs.OwnRuns.{order_from}

-- ---- instants of a span

pub begun_stays : (s : Start) (tolerance a b : ℕ) → has_begun s tolerance a ≡ true → a ≤ b → has_begun s tolerance b ≡ true
begun_stays Rest tolerance a b is le = refl
begun_stays (Cut from) tolerance a b is le = let first = leb-true (from + tolerance) a is in le-leb (from + tolerance) b (omega (arith, first, le))

pub ended_stays : (u : Option ℕ) (a b : ℕ) → has_not_ended u a ≡ false → a ≤ b → has_not_ended u b ≡ false
ended_stays None a b is le = is
ended_stays (Some until) a b is le = let past = leb-false a until is in lt-leb b until (omega (arith, past, le))

-- a frame that came at an instant is of the span
abbrev pub is_within : Start → Option ℕ → ℕ → Record → Bool
is_within s u tolerance x = has_begun s tolerance x.stamp && has_not_ended u x.stamp

-- the fates of the frames that are
abbrev pub fates_within : (Record → Bool) → List Record → List Bool → List Bool
fates_within keeps [] fates = []
fates_within keeps (x ∷ xs) [] = []
fates_within keeps (x ∷ xs) (passes ∷ fates) = cond (keeps x) (passes ∷ fates_within keeps xs fates) (fates_within keeps xs fates)

pub chosen_within : (keeps : Record → Bool) (xs : List Record) (fates : List Bool)
    → chosen (fates_within keeps xs fates) (filter keeps xs) ≡ filter keeps (chosen fates xs)
chosen_within keeps [] [] = refl
chosen_within keeps [] (b ∷ fates) = refl
chosen_within keeps (x ∷ xs) [] = refl
chosen_within keeps (x ∷ xs) (true ∷ fates) = elim (cases_Bool (keeps x)) [
  | inl is ↦ rw is (ap (λ (ys : List Record). x ∷ ys) (chosen_within keeps xs fates))
  | inr not ↦ rw not (chosen_within keeps xs fates)
]
chosen_within keeps (x ∷ xs) (false ∷ fates) = elim (cases_Bool (keeps x)) [
  | inl is ↦ rw is (chosen_within keeps xs fates)
  | inr not ↦ rw not (chosen_within keeps xs fates)
]

-- ---- lists

pub all_map : {X : Type 0} (P Q : X → Type 0) → ((x : X) → P x → Q x) → (xs : List X) → AllByRecursion P xs → AllByRecursion Q xs
all_map P Q f [] all = tt
all_map P Q f (x ∷ xs) all = (f x all.0, all_map P Q f xs all.1)

pub all_first : {X : Type 0} (P : X → Type 0) (xs ys : List X) → AllByRecursion P (xs ++ ys) → AllByRecursion P xs
all_first P [] ys all = tt
all_first P (x ∷ xs) ys all = (all.0, all_first P xs ys all.1)

pub all_both : {X : Type 0} (P : X → Type 0) (xs ys : List X) → AllByRecursion P xs → AllByRecursion P ys → AllByRecursion P (xs ++ ys)
all_both P [] ys all more = more
all_both P (x ∷ xs) ys all more = (all.0, all_both P xs ys all.1 more)

pub all_chosen : (P : Record → Type 0) (fates : List Bool) (xs : List Record) → AllByRecursion P xs → AllByRecursion P (chosen fates xs)
all_chosen P [] xs all = tt
all_chosen P (b ∷ fates) [] all = tt
all_chosen P (true ∷ fates) (x ∷ xs) all = (all.0, all_chosen P fates xs all.1)
all_chosen P (false ∷ fates) (x ∷ xs) all = all_chosen P fates xs all.1

pub order_chosen : (fates : List Bool) (since : ℕ) (rs : List Record) → InOrder since (map frame_of rs) → InOrder since (map frame_of (chosen fates rs))
order_chosen [] since rs order = tt
order_chosen (b ∷ fates) since [] order = tt
order_chosen (true ∷ fates) since (r ∷ rs) order = (order.0, order_chosen fates r.stamp rs order.1)
order_chosen (false ∷ fates) since (r ∷ rs) order = order_from since r.stamp (map frame_of (chosen fates rs)) order.0 (order_chosen fates r.stamp rs order.1)

pub order_first : (xs ys : List Record) (since : ℕ) → InOrder since (map frame_of (xs ++ ys)) → InOrder since (map frame_of xs)
order_first [] ys since order = tt
order_first (x ∷ xs) ys since order = (order.0, order_first xs ys x.stamp order.1)

pub order_last : (xs ys : List Record) (since : ℕ) → InOrder since (map frame_of (xs ++ ys)) → InOrder since (map frame_of ys)
order_last [] ys since order = order
order_last (x ∷ xs) ys since order = order_from since x.stamp (map frame_of ys) order.0 (order_last xs ys x.stamp order.1)

pub kept_one : {X : Type 0} (p : X → Bool) (x : X) (xs : List X) → p x ≡ true → filter p (x ∷ xs) ≡ x ∷ filter p xs
kept_one p x xs is = ap (λ b. cond b (x ∷ filter p xs) (filter p xs)) is

pub left_one : {X : Type 0} (p : X → Bool) (x : X) (xs : List X) → p x ≡ false → filter p (x ∷ xs) ≡ filter p xs
left_one p x xs not = ap (λ b. cond b (x ∷ filter p xs) (filter p xs)) not

pub filter_narrows : {X : Type 0} (p q : X → Bool) → ((x : X) → q x ≡ true → p x ≡ true) → (xs : List X) → filter q (filter p xs) ≡ filter q xs
filter_narrows p q more [] = refl
filter_narrows {X} p q more (x ∷ xs) = elim (cases_Bool (q x)) [
  | inl is ↦ ap (λ (ys : List X). filter q ys) (kept_one p x xs (more x is)) ∙ kept_one q x (filter p xs) is ∙ ap (λ (ys : List X). x ∷ ys) (filter_narrows p q more xs)
      ∙ sym (kept_one q x xs is)
  | inr not ↦ elim (cases_Bool (p x)) [
    | inl also ↦ ap (λ (ys : List X). filter q ys) (kept_one p x xs also) ∙ left_one q x (filter p xs) not ∙ filter_narrows p q more xs ∙ sym (left_one q x xs not)
    | inr neither ↦ ap (λ (ys : List X). filter q ys) (left_one p x xs neither) ∙ filter_narrows p q more xs ∙ sym (left_one q x xs not)
  ]
]

pub filter_swaps : {X : Type 0} (p q : X → Bool) (xs : List X) → filter p (filter q xs) ≡ filter q (filter p xs)
filter_swaps p q [] = refl
filter_swaps {X} p q (x ∷ xs) =
    let rest = filter_swaps p q xs in
    elim (cases_Bool (p x)) [
      | inl is ↦ elim (cases_Bool (q x)) [
        | inl also ↦ ap (λ (ys : List X). filter p ys) (kept_one q x xs also) ∙ kept_one p x (filter q xs) is ∙ ap (λ (ys : List X). x ∷ ys) rest
            ∙ sym (ap (λ (ys : List X). filter q ys) (kept_one p x xs is) ∙ kept_one q x (filter p xs) also)
        | inr not ↦ ap (λ (ys : List X). filter p ys) (left_one q x xs not) ∙ rest
            ∙ sym (ap (λ (ys : List X). filter q ys) (kept_one p x xs is) ∙ left_one q x (filter p xs) not)
      ]
      | inr without ↦ elim (cases_Bool (q x)) [
        | inl also ↦ ap (λ (ys : List X). filter p ys) (kept_one q x xs also) ∙ left_one p x (filter q xs) without ∙ rest ∙ sym (ap (λ (ys : List X). filter q ys) (left_one p x xs without))
        | inr neither ↦ ap (λ (ys : List X). filter p ys) (left_one q x xs neither) ∙ rest ∙ sym (ap (λ (ys : List X). filter q ys) (left_one p x xs without))
      ]
    ]

-- ---- levels

-- what is known allows no less: of a full account it is no less likely, and it was known no sooner
pub record IsLooser (t : Terms) (tolerance : ℕ) (l looser : Levels) : Type 0 where
  pub since : l.since ≤ looser.since
  pub least : looser.least ≤ l.least
  pub most : (t.cap + 2 * slack_of t tolerance ≤ looser.most) ⊎ ((l.since ≡ looser.since) × (min (t.cap + 2 * slack_of t tolerance) l.most ≤ looser.most))

-- and where both are credited until a frame comes
pub record AreLooser (full least most least_of most_of : ℕ) : Type 0 where
  pub low : least_of ≤ least
  pub high : min full most ≤ most_of

looser_now : (t : Terms) (tolerance : ℕ) (l looser : Levels) (at : ℕ) → IsLooser t tolerance l looser
    → AreLooser (t.cap + 2 * slack_of t tolerance) (credited t l at).least (credited t l at).most (credited t looser at).least (credited t looser at).most
looser_now t tolerance l looser at is =
    let early = is.since in
    let least = is.least in
    let gap : at - looser.since ≤ at - l.since = omega (arith, early) in
    let less = mul-le-mul_left t.rate gap in
    elim is.most [
      | inl full ↦ record { low = omega (arith, less, least); high = omega (arith, full) }
      | inr both ↦ (let same = ap (λ (n : ℕ). t.rate * (at - n)) both.0 in
          let most = both.1 in
          record { low = omega (arith, less, least); high = omega (arith, same, most) })
    ]

none_within : (s : Start) (u : Option ℕ) (tolerance since : ℕ) (xs : List Record) → has_not_ended u since ≡ false → InOrder since (map frame_of xs)
    → filter (is_within s u tolerance) xs ≡ []
none_within s u tolerance since [] ended order = refl
none_within s u tolerance since (x ∷ xs) ended order =
    let over = ended_stays u since x.stamp ended order.0 in
    let not = and_right (has_begun s tolerance x.stamp) (has_not_ended u x.stamp) over in
    rw not (none_within s u tolerance x.stamp xs over order.1)

no_fates_within : (s : Start) (u : Option ℕ) (tolerance since : ℕ) (xs : List Record) (fates : List Bool) → has_not_ended u since ≡ false → InOrder since (map frame_of xs)
    → fates_within (is_within s u tolerance) xs fates ≡ []
no_fates_within s u tolerance since [] fates ended order = refl
no_fates_within s u tolerance since (x ∷ xs) [] ended order = refl
no_fates_within s u tolerance since (x ∷ xs) (b ∷ fates) ended order =
    let over = ended_stays u since x.stamp ended order.0 in
    let not = and_right (has_begun s tolerance x.stamp) (has_not_ended u x.stamp) over in
    rw not (no_fates_within s u tolerance x.stamp xs fates over order.1)

module _ (t : Terms) (tolerance : ℕ) (s : Start) (u : Option ℕ) where
  abbrev keeps : Record → Bool
  keeps = is_within s u tolerance

  abbrev AllowedWithin : Levels → List Record → List Bool → Type 0
  AllowedWithin l xs fates = Allowed t tolerance l (map frame_of (filter keeps xs)) (fates_within keeps xs fates)

  allowed_none : (l : Levels) (since : ℕ) (xs : List Record) (fates : List Bool) → has_not_ended u since ≡ false → InOrder since (map frame_of xs) → AllowedWithin l xs fates
  allowed_none l since xs fates ended order =
      subst (λ (bs : List Bool). Allowed t tolerance l (map frame_of (filter keeps xs)) bs) (sym (no_fates_within s u tolerance since xs fates ended order))
      (subst (λ (ys : List Record). Allowed t tolerance l (map frame_of ys) []) (sym (none_within s u tolerance since xs ended order)) tt)

  pub after_begun : (l looser : Levels) (since : ℕ) (xs : List Record) (fates : List Bool) → has_begun s tolerance since ≡ true → InOrder since (map frame_of xs)
      → AllFit t (map frame_of xs) → IsLooser t tolerance l looser → Allowed t tolerance l (map frame_of xs) fates → AllowedWithin looser xs fates
  after_begun l looser since [] [] begun order fit is may = tt
  after_begun l looser since [] (b ∷ fates) begun order fit is may = absurd may
  after_begun l looser since (x ∷ xs) [] begun order fit is may = absurd may
  after_begun l looser since (x ∷ xs) (true ∷ fates) begun order fit is may =
      let has = begun_stays s tolerance since x.stamp begun order.0 in
      let now = looser_now t tolerance l looser x.stamp is in
      let low = now.low in
      let high = now.high in
      let fits = fit.0 in
      let q = t.price (frame_of x).size in
      let enough = leb-true q (credited t l x.stamp).most may.0 in
      let left = after t tolerance (frame_of x).size true (credited t l x.stamp) in
      let left_looser = after t tolerance (frame_of x).size true (credited t looser x.stamp) in
      let next : IsLooser t tolerance left left_looser =
      record { since = omega arith; least = omega (arith, low); most = inr (refl, omega (arith, high, fits)) } in
      elim (cases_Bool (has_not_ended u x.stamp)) [
        | inl on ↦ rw (and_from _ _ has on)
            (le-leb q (credited t looser x.stamp).most (omega (arith, high, enough, fits)), after_begun left left_looser x.stamp xs fates has order.1 fit.1 next may.1)
        | inr over ↦ allowed_none looser x.stamp (x ∷ xs) (true ∷ fates) over (omega arith, order.1)
      ]
  after_begun l looser since (x ∷ xs) (false ∷ fates) begun order fit is may =
      let has = begun_stays s tolerance since x.stamp begun order.0 in
      let now = looser_now t tolerance l looser x.stamp is in
      let low = now.low in
      let high = now.high in
      let fits = fit.0 in
      let q = t.price (frame_of x).size in
      let edge = q + 2 * slack_of t tolerance in
      let lacks = ltb-true (credited t l x.stamp).least edge may.0 in
      let left = after t tolerance (frame_of x).size false (credited t l x.stamp) in
      let left_looser = after t tolerance (frame_of x).size false (credited t looser x.stamp) in
      let next : IsLooser t tolerance left left_looser =
      record { since = omega arith; least = omega (arith, low); most = inr (refl, omega (arith, high, fits)) } in
      elim (cases_Bool (has_not_ended u x.stamp)) [
        | inl on ↦ rw (and_from _ _ has on)
            (lt-ltb (credited t looser x.stamp).least edge (omega (arith, low, lacks)), after_begun left left_looser x.stamp xs fates has order.1 fit.1 next may.1)
        | inr over ↦ allowed_none looser x.stamp (x ∷ xs) (false ∷ fates) over (omega arith, order.1)
      ]

-- whatever frames came before those that count, what is known of a level then lies within all that one can be
module _ (t : Terms) (tolerance from : ℕ) (u : Option ℕ) where
  pub before_begun : (l : Levels) (since : ℕ) (xs : List Record) (fates : List Bool) → l.since ≤ from + tolerance → InOrder since (map frame_of xs)
      → AllFit t (map frame_of xs) → Allowed t tolerance l (map frame_of xs) fates
      → Allowed t tolerance (unknown t tolerance (from + tolerance)) (map frame_of (filter (is_within (Cut from) u tolerance) xs)) (fates_within (is_within (Cut from) u tolerance) xs fates)
  before_begun l since [] [] early order fit may = tt
  before_begun l since [] (b ∷ fates) early order fit may = absurd may
  before_begun l since (x ∷ xs) [] early order fit may = absurd may
  before_begun l since (x ∷ xs) (b ∷ fates) early order fit may =
      elim (cases_Bool (has_begun (Cut from) tolerance x.stamp)) [
        | inl has ↦ after_begun t tolerance (Cut from) u l (unknown t tolerance (from + tolerance)) x.stamp (x ∷ xs) (b ∷ fates) has (omega arith, order.1) fit
            (record { since = early; least = omega arith; most = inl (omega arith) }) may
        | inr not ↦ (let past = leb-false (from + tolerance) x.stamp not in
            let by : x.stamp ≤ from + tolerance = omega (arith, past) in
            rw (and_left _ (has_not_ended u x.stamp) not) (before_begun (after t tolerance (frame_of x).size b (credited t l x.stamp)) x.stamp xs fates (since_after b by) order.1 fit.1 may.1))
      ]
    where
      since_after : (c : Bool) → x.stamp ≤ from + tolerance → (after t tolerance (frame_of x).size c (credited t l x.stamp)).since ≤ from + tolerance
      since_after true by = by
      since_after false by = by
