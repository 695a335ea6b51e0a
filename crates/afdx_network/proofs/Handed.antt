-- What has gone to files, part by part.
use Rattle.std.proofs.Common.{◌≡◌, ◌<◌, ◌≤◌, ◌+◌, ◌-◌, ℕ, zero, suc, List, [], ◌∷◌, ◌++◌, length, map, take, drop, set, slice_get, Option, Some, refl, ap, sym, ◌∙◌, arith, inl, inr, subst}
use Rattle.std.specs.Prelude.{◌⊎◌, Result, Ok, Err, OnOk}
use Rattle.std.specs.Option.{option_map}
use Rattle.std.specs.Io.KnownBytes.{Appends}
use Rattle.std.proofs.KnownBytes.{Appends-trans}
use Rattle.std.proofs.lemmas.Bool.{cases_lt}
use Rattle.std.proofs.lemmas.List.{append-nil, length-append, length-set, length-map, length-take-le, length-drop, map-set, drop_all, take_all}
use Rattle.std.proofs.lemmas.Option.{same_Some, slice_get-map}
use Rattle.afdx_session.specs.Texts.{Text}
use Rattle.afdx_network.specs.Inner.Outputs.{Output, all_gone, texts_in, gone_in, HaveGone}

-- ---- one file more

got_set : {X : Type 0} (xs : List X) (k j : ℕ) (new x : X) → slice_get (set xs k new) j ≡ Some x → ((j ≡ k) × (x ≡ new)) ⊎ ((j ≡ k → ⊥) × (slice_get xs j ≡ Some x))
got_set [] k j new x is = absurd cc
got_set (y ∷ xs) zero zero new x is = inl (refl, sym (same_Some new x is))
got_set (y ∷ xs) zero (suc j) new x is = inr (λ same. absurd (omega (arith, same)), is)
got_set (y ∷ xs) (suc k) zero new x is = inr (λ same. absurd (omega (arith, same)), is)
got_set (y ∷ xs) (suc k) (suc j) new x is = elim (got_set xs k j new x is) [
  | inl same ↦ inl (ap suc same.0, same.1)
  | inr other ↦ inr (λ same. other.0 (omega (arith, same)), other.1)
]

pub gone_more : {F : Type 0} (contents : F → Option (List ℕ)) (start files : List F) (all : List (List ℕ)) (k : ℕ) (f g : F) (bytes more : List ℕ) → HaveGone contents start files all
    → slice_get files k ≡ Some f → slice_get all k ≡ Some bytes → Appends (contents f) (contents g) more → HaveGone contents start (set files k g) (set all k (bytes ++ more))
gone_more {F} contents start files all k f g bytes more have is has appends = record {
  long = length-set files k g ∙ have.long;
  each = λ place o n text first now there. elim (got_set files k place g n now) [
    | inl same ↦ elim (got_set all k place (bytes ++ more) text there) [
      | inl here ↦
          let before = have.each k o f bytes (sym (ap (slice_get start) same.0) ∙ first) is has in
          subst (λ (x : F). Appends (contents o) (contents x) text) (sym same.1)
          (subst (λ (t : List ℕ). Appends (contents o) (contents g) t) (sym here.1) (Appends-trans (contents o) (contents f) (contents g) bytes more before appends))
      | inr other ↦ absurd (other.0 same.0)
    ]
    | inr other ↦ elim (got_set all k place (bytes ++ more) text there) [
      | inl here ↦ absurd (other.0 here.0)
      | inr too ↦ have.each place o n text first other.1 too.1
    ]
  ];
}

-- ---- files side by side

pub took : {X : Type 0} (n k : ℕ) (xs : List X) (x : X) → slice_get (take n xs) k ≡ Some x → (k < n) × (slice_get xs k ≡ Some x)
took zero k xs x is = absurd cc
took (suc n) k [] x is = absurd cc
took (suc n) zero (y ∷ xs) x is = (omega arith, is)
took (suc n) (suc k) (y ∷ xs) x is = let rest = took n k xs x is in let less = rest.0 in (omega (arith, less), rest.1)

sum_start : (k : ℕ) → k ≡ 0 + k
sum_start k = omega arith

sum_more : (n k : ℕ) → suc (n + k) ≡ suc n + k
sum_more n k = omega arith

dropped : {X : Type 0} (n k : ℕ) (xs : List X) → slice_get (drop n xs) k ≡ slice_get xs (n + k)
dropped zero k xs = ap (slice_get xs) (sum_start k)
dropped (suc n) k [] = refl
dropped (suc n) k (y ∷ xs) = dropped n k xs ∙ ap (slice_get (y ∷ xs)) (sum_more n k)

in_front : {X : Type 0} (xs ys : List X) (k : ℕ) (x : X) → slice_get xs k ≡ Some x → slice_get (xs ++ ys) k ≡ Some x
in_front [] ys k x is = absurd cc
in_front (y ∷ xs) ys zero x is = is
in_front (y ∷ xs) ys (suc k) x is = in_front xs ys k x is

behind_them : {X : Type 0} (xs ys : List X) (k : ℕ) → slice_get (xs ++ ys) (length xs + k) ≡ slice_get ys k
behind_them [] ys k = ap (slice_get ys) (sym (sum_start k))
behind_them (x ∷ xs) ys k = ap (slice_get (x ∷ (xs ++ ys))) (sym (sum_more (length xs) k)) ∙ behind_them xs ys k

pub have_front : {F : Type 0} (contents : F → Option (List ℕ)) (start now : List F) (xs ys : List (List ℕ)) → HaveGone contents start now (xs ++ ys)
    → HaveGone contents (take (length xs) start) (take (length xs) now) xs
have_front contents start now xs ys have = record {
  long = same_length (length xs) start now have.long;
  each = λ k f g bytes first later there.
      have.each k f g bytes (took (length xs) k start f first).1 (took (length xs) k now g later).1 (in_front xs ys k bytes there);
} where
  same_length : {X : Type 0} (n : ℕ) (items bs : List X) → length bs ≡ length items → length (take n bs) ≡ length (take n items)
  same_length zero items bs same = refl
  same_length (suc n) [] [] same = refl
  same_length (suc n) [] (b ∷ bs) same = absurd (omega (arith, same))
  same_length (suc n) (a ∷ items) [] same = absurd (omega (arith, same))
  same_length (suc n) (a ∷ items) (b ∷ bs) same = ap suc (same_length n items bs (omega (arith, same)))

pub have_rest : {F : Type 0} (contents : F → Option (List ℕ)) (start now : List F) (xs ys : List (List ℕ)) → HaveGone contents start now (xs ++ ys)
    → HaveGone contents (drop (length xs) start) (drop (length xs) now) ys
have_rest contents start now xs ys have = record {
  long = same_length (length xs) start now have.long;
  each = λ k f g bytes first later there.
      have.each (length xs + k) f g bytes (sym (dropped (length xs) k start) ∙ first) (sym (dropped (length xs) k now) ∙ later) (behind_them xs ys k ∙ there);
} where
  same_length : {X : Type 0} (n : ℕ) (items bs : List X) → length bs ≡ length items → length (drop n bs) ≡ length (drop n items)
  same_length zero items bs same = same
  same_length (suc n) [] [] same = refl
  same_length (suc n) [] (b ∷ bs) same = absurd (omega (arith, same))
  same_length (suc n) (a ∷ items) [] same = absurd (omega (arith, same))
  same_length (suc n) (a ∷ items) (b ∷ bs) same = same_length n items bs (omega (arith, same))

-- of files side by side each part
pub front_is : {X : Type 0} (xs ys : List X) (k : ℕ) → k < length xs → slice_get (xs ++ ys) k ≡ slice_get xs k
front_is [] ys k lt = absurd (omega (arith, lt))
front_is (x ∷ xs) ys zero lt = refl
front_is (x ∷ xs) ys (suc k) lt = front_is xs ys k (omega (arith, lt))

pub rest_is : {X : Type 0} (xs ys : List X) (k n : ℕ) → n ≡ length xs → n ≤ k → slice_get (xs ++ ys) k ≡ slice_get ys (k - n)
rest_is xs ys k n long past = ap (slice_get (xs ++ ys)) number ∙ behind_them xs ys (k - n) where
  number : k ≡ length xs + (k - n)
  number = omega (arith, long, past)

pub have_join : {F : Type 0} (contents : F → Option (List ℕ)) (start now more later : List F) (xs ys : List (List ℕ)) → length start ≡ length xs → HaveGone contents start now xs
    → HaveGone contents more later ys
    → HaveGone contents (start ++ more) (now ++ later) (xs ++ ys)
have_join {F} contents start now more later xs ys same one other = record {
  long = let first = one.long in let second = other.long in omega (arith, first, second, length-append now later, length-append start more);
  each = λ k f g bytes first then there. elim (cases_lt k (length start)) [
    | inl within ↦
        one.each k f g bytes (sym (front_is start more k within) ∙ first)
        (sym (front_is now later k (let long = one.long in omega (arith, within, long))) ∙ then)
        (sym (front_is xs ys k (omega (arith, within, same))) ∙ there)
    | inr past ↦
        other.each (k - length start) f g bytes (sym (rest_is start more k (length start) refl past) ∙ first)
        (sym (rest_is now later k (length start) (sym one.long) past) ∙ then)
        (sym (rest_is xs ys k (length start) same past) ∙ there)
  ];
}

parted : {X : Type 0} (n : ℕ) (xs : List X) → take n xs ++ drop n xs ≡ xs
parted zero xs = refl
parted (suc n) [] = refl
parted (suc n) (x ∷ xs) = ap (λ ys. x ∷ ys) (parted n xs)

-- some of the files, one after the other, have more
pub have_middle : {F : Type 0} (contents : F → Option (List ℕ)) (start now middle : List F) (xs ys new zs : List (List ℕ)) (first many : ℕ) → first ≡ length xs → many ≡ length ys
    → length new ≡ length ys
    → length start ≡ length (xs ++ (ys ++ zs)) → HaveGone contents start now (xs ++ (ys ++ zs))
    → ((part : List F) → HaveGone contents part (take many (drop first now)) ys → HaveGone contents part middle new)
    → HaveGone contents start (take first now ++ (middle ++ drop many (drop first now))) (xs ++ (new ++ zs))
have_middle {F} contents start now middle xs ys new zs first many is count same long have more =
    subst (λ (from : List F). HaveGone contents from (take first now ++ (middle ++ drop many (drop first now))) (xs ++ (new ++ zs))) whole
    (have_join contents (take first start) (take first now) (take many (drop first start) ++ drop many (drop first start)) (middle ++ drop many (drop first now)) xs (new ++ zs)
    (length-take-le first start (omega (arith, is, long, length-append xs (ys ++ zs))) ∙ is)
    (subst (λ n. HaveGone contents (take n start) (take n now) xs) (sym is) (have_front contents start now xs (ys ++ zs) have))
    (have_join contents (take many (drop first start)) middle (drop many (drop first start)) (drop many (drop first now)) new zs
    (length-take-le many (drop first start) enough ∙ count ∙ sym same)
    (more (take many (drop first start))
    (subst (λ n. HaveGone contents (take n (drop first start)) (take n (drop first now)) ys) (sym count) (have_front contents (drop first start) (drop first now) ys zs rest)))
    (subst (λ n. HaveGone contents (drop n (drop first start)) (drop n (drop first now)) zs) (sym count) (have_rest contents (drop first start) (drop first now) ys zs rest)))) where
      rest : HaveGone contents (drop first start) (drop first now) (ys ++ zs)
      rest = subst (λ n. HaveGone contents (drop n start) (drop n now) (ys ++ zs)) (sym is) (have_rest contents start now xs (ys ++ zs) have)

      enough : many ≤ length (drop first start)
      enough = omega (arith, is, count, long, length-append xs (ys ++ zs), length-append ys zs, length-drop first start)

      whole : take first start ++ (take many (drop first start) ++ drop many (drop first start)) ≡ start
      whole = ap (λ (items : List F). take first start ++ items) (parted many (drop first start)) ∙ parted first start

-- ---- the captures of a switch

pub gone_then : (outputs : List Output) → gone_in (map all_gone outputs) ≡ map (λ (text : Text). text.1) (texts_in outputs)
gone_then [] = refl
gone_then (o ∷ outputs) = ap (λ (all : List (List ℕ)). (o.gone ++ o.text) ∷ all) (gone_then outputs)

abbrev by_port : ℕ → List ℕ → Text
by_port port bytes = (port, bytes)

pub texts_stay : (outputs : List Output) → texts_in (map all_gone outputs) ≡ texts_in outputs
texts_stay [] = refl
texts_stay (o ∷ outputs) =
    ap (λ (bytes : List ℕ). by_port o.port bytes ∷ texts_in (map all_gone outputs)) (append-nil (o.gone ++ o.text))
    ∙ ap (λ (texts : List Text). by_port o.port (o.gone ++ o.text) ∷ texts) (texts_stay outputs)

-- those before a place have gone to their files
pub record AreHanded {F : Type 0} (contents : F → Option (List ℕ)) (old now : List Output) (before files : List F) (k : ℕ) : Type 0 where
  pub outputs : now ≡ map all_gone (take k old) ++ drop k old
  pub many : length files ≡ length now
  pub gone : (start : List F) → HaveGone contents start before (gone_in old) → HaveGone contents start files (gone_in now)

next_set : (old : List Output) (k : ℕ) (o : Output) → slice_get old k ≡ Some o → set (map all_gone (take k old) ++ drop k old) k (all_gone o) ≡ map all_gone (take (suc k) old) ++ drop (suc k) old
next_set [] k o is = absurd cc
next_set (x ∷ old) zero o is = ap (λ (y : Output). all_gone y ∷ old) (sym (same_Some x o is))
next_set (x ∷ old) (suc k) o is = ap (λ (items : List Output). all_gone x ∷ items) (next_set old k o is)

next_was : (old : List Output) (k : ℕ) → slice_get (map all_gone (take k old) ++ drop k old) k ≡ slice_get old k
next_was old zero = refl
next_was [] (suc k) = refl
next_was (x ∷ old) (suc k) = next_was old k

pub none_handed : {F : Type 0} (contents : F → Option (List ℕ)) (old : List Output) (before : List F) → length before ≡ length old → AreHanded contents old old before before 0
none_handed contents old before same = record { outputs = refl; many = same; gone = λ start have. have }

pub one_handed : {F : Type 0} (contents : F → Option (List ℕ)) (old now : List Output) (before files : List F) (k : ℕ) (o new : Output) (f g : F) → AreHanded contents old now before files k
    → slice_get now k ≡ Some o → slice_get files k ≡ Some f → new ≡ all_gone o → Appends (contents f) (contents g) o.text → AreHanded contents old (set now k new) before (set files k g) (k + 1)
one_handed {F} contents old now before files k o new f g h at there is appends = record {
  outputs = ap (λ (x : Output). set now k x) is ∙ ap (λ (items : List Output). set items k (all_gone o)) h.outputs
      ∙ next_set old k o (sym (next_was old k) ∙ ap (λ (items : List Output). slice_get items k) (sym h.outputs) ∙ at)
      ∙ ap (λ n. map all_gone (take n old) ++ drop n old) (number k);
  many = length-set files k g ∙ h.many ∙ sym (length-set now k new);
  gone = λ start have.
      subst (HaveGone contents start (set files k g)) (sym (map-set (λ (x : Output). x.gone) now k new ∙ ap (λ (x : Output). set (gone_in now) k x.gone) is))
      (gone_more contents start files (gone_in now) k f g o.gone o.text (h.gone start have) there (slice_get-map (λ (x : Output). x.gone) now k ∙ ap (option_map (λ (x : Output). x.gone)) at) appends);
} where
  number : (n : ℕ) → suc n ≡ n + 1
  number n = omega arith

pub all_handed : {F : Type 0} (contents : F → Option (List ℕ)) (old now : List Output) (before files : List F) (k : ℕ) → AreHanded contents old now before files k → length old ≤ k
    → now ≡ map all_gone old
all_handed contents old now before files k h past =
    h.outputs ∙ ap (λ (items : List Output). map all_gone items ++ drop k old) (take_all k old past) ∙ ap (λ (items : List Output). map all_gone old ++ items) (drop_all k old past)
    ∙ append-nil (map all_gone old)

-- ---- of a switch

pub on_ok : {T E : Type 0} (P Q : Type 0) (r : Result T E) → OnOk r P → (P → Q) → OnOk r Q
on_ok P Q (Ok x) holds then = then holds
on_ok P Q (Err e) holds then = tt

pub both_ok : {T E : Type 0} (P Q S : Type 0) (r : Result T E) → OnOk r P → OnOk r Q → (P → Q → S) → OnOk r S
both_ok P Q S (Ok x) one other then = then one other
both_ok P Q S (Err e) one other then = tt

pub left_stays : (outputs new : List Output) → new ≡ map all_gone outputs → texts_in new ≡ texts_in outputs
left_stays outputs new is = ap (λ (all : List Output). texts_in all) is ∙ texts_stay outputs

pub as_many_gone : (outputs new : List Output) → new ≡ map all_gone outputs → length (gone_in new) ≡ length (gone_in outputs)
as_many_gone outputs new is =
    length-map new (λ (o : Output). o.gone) ∙ ap (λ (all : List Output). length all) is ∙ length-map outputs all_gone ∙ sym (length-map outputs (λ (o : Output). o.gone))

pub gone_of_all : {F : Type 0} (contents : F → Option (List ℕ)) (start files : List F) (outputs new : List Output) → new ≡ map all_gone outputs
    → HaveGone contents start files (map (λ (text : Text). text.1) (texts_in outputs)) → HaveGone contents start files (gone_in new)
gone_of_all contents start files outputs new is = subst (HaveGone contents start files) (sym (ap (λ (all : List Output). gone_in all) is ∙ gone_then outputs))
