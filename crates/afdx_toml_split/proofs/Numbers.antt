-- Words in a text that is followed by a new line.
use Rattle.std.proofs.Common.{◌≡◌, ℕ, zero, suc, ◌+◌, ◌<◌, ◌≤◌, Bool, true, false, not, ◌&&◌, ◌==◌, refl, sym, ◌∙◌, inl, inr, arith}
use Rattle.std.proofs.Common.{List, [], ◌∷◌, length, length-drop, slice_index, take, drop, filter, Option, Some, None, option_map}
use Rattle.std.proofs.lemmas.Bool.{cases_Bool, eqb-true, and_parts, and_right}
use Rattle.std.proofs.lemmas.List.{take-append-le, drop-append-le}
use Rattle.std.proofs.lemmas.List.Sums.{prefix_len-le-length}
use Rattle.std.proofs.lemmas.Option.{none-some, some_pair_parts}
use Rattle.std.specs.Char.{is_digit, is_ascii_digit}
use Rattle.std.specs.Float.Numeral.{scan_numeral}
use Rattle.std.specs.List.{prefix_len}
use Rattle.toml_parser.specs.Lexical.{first, is_word}
use Rattle.toml_parser.specs.Numbers.{underscores_fit, underscore_radix, decimal_number, number, plain_number, word_len, word_value, unquoted}
use Rattle.toml_parser.specs.declared.scalar.Scalar.{Scalar}
use Rattle.afdx_toml_split.proofs.Followed.{followed}
use Rattle.afdx_toml_split.proofs.Runs.{prefix_len-followed}

-- A test that 0 and a line feed fail says the same of the byte at an index.
pub test-followed : (p : ℕ → Bool) (text more : List ℕ) (i : ℕ) → p 0 ≡ false → p 10 ≡ false → i ≤ length text
    → p (slice_index (followed text more) i) ≡ p (slice_index text i)
test-followed p [] more zero none stop within = stop ∙ sym none
test-followed p [] more (suc i) none stop within = absurd (omega arith)
test-followed p (c ∷ cs) more zero none stop within = refl
test-followed p (c ∷ cs) more (suc i) none stop within = test-followed p cs more i none stop (omega arith)

-- a byte that passes such a test stands inside the text
test-within : (p : ℕ → Bool) (text : List ℕ) (i : ℕ) → p 0 ≡ false → p (slice_index text i) ≡ true → i < length text
test-within p [] i none passes = absurd (cc)
test-within p (c ∷ cs) zero none passes = omega arith
test-within p (c ∷ cs) (suc i) none passes = omega (arith, test-within p cs i none passes)

-- the word at the front is as long
pub word_len-followed : (text more : List ℕ) → word_len (followed text more) ≡ word_len text
unfolding word_len
word_len-followed text more =
    let len = prefix_len is_word text in
    let fits = prefix_len-le-length is_word text in
    rw (prefix_len-followed is_word text more refl, test-followed (λ c. c == 32) text more len refl refl fits) (elim (cases_Bool (slice_index text len == 32)) [
      | inl space ↦
          let within : len < length text = test-within (λ c. c == 32) text len refl space in
          let next = drop (len + 1) text in
          rw (space, test-followed is_ascii_digit text more (len + 1) refl refl (omega arith), drop-append-le (len + 1) text (10 ∷ more) (omega arith))
          (rw (prefix_len-followed is_word next more refl))
      | inr other ↦ rw other
    ])

word_len-within : (text : List ℕ) → word_len text ≤ length text
unfolding word_len
word_len-within text =
    let len = prefix_len is_word text in
    let digit = is_ascii_digit (slice_index text (len + 1)) in
    elim (cases_Bool (slice_index text len == 32 && digit)) [
      | inl joins ↦
          let inside : len + 1 < length text = test-within is_ascii_digit text (len + 1) refl (and_parts (slice_index text len == 32) digit joins).1 in
          rw joins (omega (arith, inside, prefix_len-le-length is_word (drop (len + 1) text), length-drop (len + 1) text))
      | inr alone ↦ rw alone (prefix_len-le-length is_word text)
    ]

plain_number-space : (w : List ℕ) → plain_number (32 ∷ w) ≡ None
unfolding plain_number decimal_number scan_numeral
plain_number-space w = rw (and_right _ _ refl)

number-space : (w : List ℕ) → number (32 ∷ w) ≡ None
unfolding number
number-space w =
    elim (cases_Bool (underscores_fit (λ c. is_digit c (underscore_radix (32 ∷ w))) 0 (32 ∷ w))) [
      | inl fit ↦ rw fit (plain_number-space (filter (λ c. not (c == 95)) w))
      | inr unfit ↦ rw unfit
    ]

word_value-space : (n : ℕ) (w : List ℕ) → word_value (take n (32 ∷ w)) ≡ None
unfolding word_value number plain_number decimal_number scan_numeral
word_value-space zero w = refl
word_value-space (suc n) w = number-space (take n w)

-- A space joins two words, but no value begins with one.
unquoted-space : (w : List ℕ) → unquoted (32 ∷ w) ≡ None
unfolding unquoted
unquoted-space w =
    elim (cases_Bool (word_len (32 ∷ w) == 0)) [
      | inl none ↦ rw none
      | inr some ↦ rw (some, word_value-space (word_len (32 ∷ w)) w)
    ]

unquoted-none : (text : List ℕ) → is_word (first text) ≡ false → unquoted text ≡ None
unfolding unquoted word_len
unquoted-none [] other = refl
unquoted-none (c ∷ cs) other =
    elim (cases_Bool (c == 32)) [
      | inl space ↦ rw (eqb-true c 32 space) (unquoted-space cs)
      | inr stop ↦ rw (other, stop)
    ]

-- a text that a value without quotes is read of begins with a byte of a word
pub unquoted-start : (text : List ℕ) (d : Scalar) (rest : List ℕ) → unquoted text ≡ Some (d, rest) → is_word (first text) ≡ true
unquoted-start text d rest read =
    elim (cases_Bool (is_word (first text))) [
      | inl here ↦ here
      | inr other ↦ absurd (none-some _ (rw (unquoted-none text other) at read))
    ]

-- the rest behind the word
taken : (n : ℕ) (o : Option Scalar) (text more : List ℕ) (d : Scalar) (rest : List ℕ) → n ≤ length text → option_map {U = Scalar × List ℕ} (λ x. (x, drop n text)) o ≡ Some (d, rest)
    → option_map {U = Scalar × List ℕ} (λ x. (x, drop n (followed text more))) o ≡ Some (d, followed rest more)
taken n None text more d rest within read = absurd (none-some _ read)
taken n (Some x) text more d rest within read =
    let (same, after) = some_pair_parts x d (drop n text) rest read in
    rw (drop-append-le n text (10 ∷ more) within, same, after)

-- the same value is read
pub unquoted-followed : (text more : List ℕ) (d : Scalar) (rest : List ℕ) → unquoted text ≡ Some (d, rest) → unquoted (followed text more) ≡ Some (d, followed rest more)
unfolding unquoted
unquoted-followed text more d rest read =
    let within = word_len-within text in
    rw (word_len-followed text more, take-append-le (word_len text) text (10 ∷ more) within) (elim (cases_Bool (word_len text == 0)) [
      | inl none ↦ absurd (none-some _ (rw none at read))
      | inr some ↦ rw some (taken (word_len text) _ text more d rest within (rw some at read))
    ])
