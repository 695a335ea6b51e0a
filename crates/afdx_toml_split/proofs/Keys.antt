-- Keys in a text that is followed by a new line.
use Rattle.std.proofs.Common.{◌≡◌, ℕ, zero, suc, true, cond, ◌||◌, ◌==◌, List, [], ◌∷◌, ◌++◌, drop, Some, option_map, refl, inl, inr, arith}
use Rattle.std.proofs.lemmas.Bool.{cases_Bool, or_left, or_right}
use Rattle.std.proofs.lemmas.Option.{none-some, some_pair_parts, option_and_then_some}
use Rattle.toml_parser.specs.Lexical.{Read, first, is_bare, split_while, skip_ws}
use Rattle.toml_parser.specs.Strings.{Key, key, key_after, simple_key, starts_string}
use Rattle.toml.specs.Parse.{after_byte, key_equals}
use Rattle.afdx_toml_split.proofs.Followed.{followed}
use Rattle.afdx_toml_split.proofs.Numbers.{test-followed}
use Rattle.afdx_toml_split.proofs.Runs.{split_while-followed, skip_ws-followed}
use Rattle.afdx_toml_split.proofs.Strings.{one_line-followed}

simple_key-start : (text part rest : List ℕ) → simple_key text ≡ Some (part, rest) → (starts_string text || is_bare (first text)) ≡ true
unfolding simple_key
simple_key-start text part rest read =
    elim (cases_Bool (starts_string text)) [
      | inl string ↦ or_left _ _ string
      | inr other ↦ elim (cases_Bool (is_bare (first text))) [
        | inl bare ↦ or_right _ _ bare
        | inr none ↦ absurd (none-some _ (rw none at (rw other at read)))
      ]
    ]

bare_key : (text more part rest : List ℕ) → ◌≡◌ {A = Read (List ℕ)} (Some (split_while is_bare text)) (Some (part, rest))
    → ◌≡◌ {A = Read (List ℕ)} (Some (split_while is_bare (followed text more))) (Some (part, followed rest more))
bare_key text more part rest read =
    let (front, after) = some_pair_parts (split_while is_bare text).0 part (split_while is_bare text).1 rest read in
    rw (split_while-followed is_bare text more refl, front, after)

simple_key-followed : (text more part rest : List ℕ) → simple_key text ≡ Some (part, rest) → simple_key (followed text more) ≡ Some (part, followed rest more)
unfolding simple_key
simple_key-followed text more part rest read =
    rw (test-followed (λ c. c == 34 || c == 39) text more 0 refl refl (omega arith), test-followed is_bare text more 0 refl refl (omega arith))
    (elim (cases_Bool (starts_string text)) [
      | inl string ↦ rw string (one_line-followed text more part rest string (rw string at read))
      | inr other ↦ elim (cases_Bool (is_bare (first text))) [
        | inl bare ↦ rw (other, bare) (bare_key text more part rest (rw bare at (rw other at read)))
        | inr none ↦ absurd (none-some _ (rw none at (rw other at read)))
      ]
    ])

-- a text that a key is read of begins with one
pub key_after-start : (n : ℕ) (path : List (List ℕ)) (text : List ℕ) (k : Key) (rest : List ℕ) → key_after n path text ≡ Some (k, rest)
    → (starts_string text || is_bare (first text)) ≡ true
unfolding key_after
key_after-start zero path text k rest read = absurd (none-some _ read)
key_after-start (suc n) path text k rest read = option_and_then_some _ (simple_key text) (k, rest) read (λ part some more. simple_key-start text part.0 part.1 some)

-- the text behind a part of a key
after_part : (n : ℕ) (path : List (List ℕ)) (part after more : List ℕ) (k : Key) (rest : List ℕ)
    → ((text : List ℕ) → key_after n (path ++ part ∷ []) text ≡ Some (k, rest) → key_after n (path ++ part ∷ []) (followed text more) ≡ Some (k, followed rest more))
    → cond (first after == 46) (key_after n (path ++ part ∷ []) (skip_ws (drop 1 after))) (Some ((path, part), after)) ≡ Some (k, rest)
    → cond (first (followed after more) == 46) (key_after n (path ++ part ∷ []) (skip_ws (drop 1 (followed after more)))) (Some ((path, part), followed after more)) ≡ Some (k, followed rest more)
after_part n path part [] more k rest ih read =
    let (same, end) = some_pair_parts (path, part) k [] rest read in
    rw (same, ← end)
after_part n path part (c ∷ cs) more k rest ih read =
    elim (cases_Bool (c == 46)) [
      | inl dot ↦ rw (dot, skip_ws-followed cs more) (ih (skip_ws cs) (rw dot at read))
      | inr end ↦
          let (same, after) = some_pair_parts (path, part) k (c ∷ cs) rest (rw end at read) in
          rw (end, same, ← after)
    ]

-- the same key is read
pub key_after-followed : (n : ℕ) (path : List (List ℕ)) (text more : List ℕ) (k : Key) (rest : List ℕ) → key_after n path text ≡ Some (k, rest)
    → key_after n path (followed text more) ≡ Some (k, followed rest more)
unfolding key_after
key_after-followed zero path text more k rest read = absurd (none-some _ read)
key_after-followed (suc n) path text more k rest read =
    option_and_then_some _ (simple_key text) (k, rest) read (λ part some then.
    rw (simple_key-followed text more part.0 part.1 some, skip_ws-followed part.1 more)
    (after_part n path part.0 (skip_ws part.1) more k rest (λ t h. key_after-followed n _ t more k rest h) then))

-- and so does one that a key with its `=` is read of
pub key_equals-start : (text : List ℕ) (k : Key) (rest : List ℕ) → key_equals text ≡ Some (k, rest) → (starts_string text || is_bare (first text)) ≡ true
unfolding key_equals
key_equals-start text k rest read = option_and_then_some _ (key text) (k, rest) read (λ part some more. key_after-start _ _ text part.0 part.1 some)

-- the text behind a key
after_equals : (this k : Key) (after more rest : List ℕ) → option_map {U = Key × List ℕ} (λ t. (this, skip_ws t)) (after_byte 61 after) ≡ Some (k, rest)
    → option_map {U = Key × List ℕ} (λ t. (this, skip_ws t)) (after_byte 61 (followed after more)) ≡ Some (k, followed rest more)
after_equals this k [] more rest read = absurd (none-some _ read)
after_equals this k (c ∷ cs) more rest read =
    elim (cases_Bool (c == 61)) [
      | inl here ↦
          let (same, end) = some_pair_parts this k (skip_ws cs) rest (rw here at read) in
          rw (here, skip_ws-followed cs more, same, end)
      | inr other ↦ absurd (none-some _ (rw other at read))
    ]

-- the same key is read with its `=`
pub key_equals-followed : (text more : List ℕ) (k : Key) (rest : List ℕ) → key_equals text ≡ Some (k, rest) → key_equals (followed text more) ≡ Some (k, followed rest more)
unfolding key_equals
key_equals-followed text more k rest read =
    option_and_then_some _ (key text) (k, rest) read (λ part some then.
    rw (key_after-followed _ _ text more part.0 part.1 some) (after_equals part.0 k part.1 more rest then))
