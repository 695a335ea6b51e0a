-- Lines of a text that is followed by a new line.
use Rattle.std.proofs.Common.{◌≡◌, ℕ, zero, suc, ◌+◌, ◌≤◌, true, false, ◌==◌, List, [], ◌∷◌, length, Option, Some, option_and_then, option_map, length-append, refl, sym, inl, inr, arith}
use Rattle.std.proofs.lemmas.Bool.{cases_Bool, eqb-true}
use Rattle.std.proofs.lemmas.Bool.Decides.{nat_tests}
use Rattle.std.proofs.lemmas.Option.{none-some, same_Some, cond_some, option_and_then_some}
use Rattle.toml_parser.specs.Lexical.{first, skip_blank, skip_ws}
use Rattle.toml_parser.specs.Strings.{Key, key}
use Rattle.toml.specs.Tables.{Document, Expression, array_table, std_table, key_value, define}
use Rattle.toml.specs.Parse.{after_byte, read_map, keyval, val, header_key, expression, ends_line, line, lines}
use Rattle.afdx_toml_split.proofs.Followed.{followed, carried, option_map_some}
use Rattle.afdx_toml_split.proofs.Runs.{skip_ws-followed, skip_from-followed, skip_from-through}
use Rattle.afdx_toml_split.proofs.Keys.{key_after-followed, key_equals-start}
use Rattle.afdx_toml_split.proofs.Values.{keyval-followed}

bracket-followed : (text more rest : List ℕ) → after_byte 93 text ≡ Some rest → after_byte 93 (followed text more) ≡ Some (followed rest more)
bracket-followed [] more rest read = absurd (none-some rest read)
bracket-followed (c ∷ cs) more rest read =
    let (is, same) = cond_some (c == 93) cs rest read in
    rw (is, same) refl

header_key-followed : (text more : List ℕ) (k : Key) (rest : List ℕ) → header_key text ≡ Some (k, rest) → header_key (followed text more) ≡ Some (k, followed rest more)
unfolding header_key
header_key-followed text more k rest read =
    option_and_then_some _ (key (skip_ws text)) (k, rest) read (λ x found closed.
    option_map_some _ (after_byte 93 x.1) (k, rest) closed (λ after bracket same.
    rw (skip_ws-followed text more, key_after-followed 80 [] (skip_ws text) more x.0 x.1 found, bracket-followed x.1 more after bracket)
    (carried more same)))

-- the three kinds of expressions
abbrev array_header : List ℕ → Option (Expression × List ℕ)
array_header text = option_and_then (λ k. option_map (λ rest. ((k.0, array_table), rest)) (after_byte 93 k.1)) (header_key text)

abbrev table_header : List ℕ → Option (Expression × List ℕ)
table_header text = read_map (λ k. (k, std_table)) (header_key text)

abbrev pair : List ℕ → Option (Expression × List ℕ)
pair text = read_map (λ p. (p.0, key_value p.1)) (keyval (val 80) text)

array_header-followed : (text more : List ℕ) (e : Expression) (rest : List ℕ) → array_header text ≡ Some (e, rest) → array_header (followed text more) ≡ Some (e, followed rest more)
array_header-followed text more e rest read =
    option_and_then_some _ (header_key text) (e, rest) read (λ x found closed.
    option_map_some _ (after_byte 93 x.1) (e, rest) closed (λ after bracket same.
    rw (header_key-followed text more x.0 x.1 found, bracket-followed x.1 more after bracket) (carried more same)))

table_header-followed : (text more : List ℕ) (e : Expression) (rest : List ℕ) → table_header text ≡ Some (e, rest) → table_header (followed text more) ≡ Some (e, followed rest more)
table_header-followed text more e rest read =
    option_map_some _ (header_key text) (e, rest) read (λ x found same.
    rw (header_key-followed text more x.0 x.1 found) (carried more same))

pair-followed : (text more : List ℕ) (e : Expression) (rest : List ℕ) → pair text ≡ Some (e, rest) → pair (followed text more) ≡ Some (e, followed rest more)
pair-followed text more e rest read =
    option_map_some _ (keyval (val 80) text) (e, rest) read (λ x found same.
    rw (keyval-followed 80 text more x.0 x.1 found) (carried more same))

expression-followed : (text more : List ℕ) (e : Expression) (rest : List ℕ) → expression text ≡ Some (e, rest) → expression (followed text more) ≡ Some (e, followed rest more)
unfolding expression
expression-followed [] more e rest read = pair-followed [] more e rest read
expression-followed (c ∷ []) more e rest read =
    elim (cases_Bool (c == 91)) [
      | inl bracket ↦ rw bracket (table_header-followed [] more e rest (rw bracket at read))
      | inr other ↦ rw other (pair-followed (c ∷ []) more e rest (rw other at read))
    ]
expression-followed (c ∷ x ∷ xs) more e rest read =
    elim (cases_Bool (c == 91)) [
      | inl bracket ↦ elim (cases_Bool (x == 91)) [
        | inl both ↦ rw (bracket, both) (array_header-followed xs more e rest (rw (bracket, both) at read))
        | inr one ↦ rw (bracket, one) (table_header-followed (x ∷ xs) more e rest (rw (bracket, one) at read))
      ]
      | inr other ↦ rw other (pair-followed (c ∷ x ∷ xs) more e rest (rw other at read))
    ]

ends_line-followed : (text more : List ℕ) → ends_line text ≡ true → ends_line (followed text more) ≡ true
ends_line-followed [] more ends = grind (arith, nat_tests)
ends_line-followed (c ∷ cs) more ends = grind (arith, nat_tests)

line-followed : (text more : List ℕ) (e : Expression) (rest : List ℕ) → line text ≡ Some (e, rest) → line (followed text more) ≡ Some (e, followed rest more)
unfolding line
line-followed text more e rest read =
    option_and_then_some _ (expression text) (e, rest) read (λ x found ended.
    let (ends, same) = cond_some (ends_line (skip_ws x.1)) x (e, rest) ended in
    rw (expression-followed text more x.0 x.1 found, skip_ws-followed x.1 more, ends_line-followed (skip_ws x.1) more ends)
    (carried more same))

-- a line does not begin with half a line end
pair-start : (text : List ℕ) (e : Expression × List ℕ) → pair text ≡ Some e → (first text == 13) ≡ false
pair-start text e read =
    option_map_some _ (keyval (val 80) text) e read (λ x found same.
    option_and_then_some _ _ x found (λ k key_found value_found.
    let start = key_equals-start text k.0 k.1 key_found in
    grind (arith, nat_tests)))

expression-start : (text : List ℕ) (e : Expression × List ℕ) → expression text ≡ Some e → (first text == 13) ≡ false
unfolding expression
expression-start text e read =
    elim (cases_Bool (first text == 91)) [
      | inl bracket ↦ grind (arith, nat_tests)
      | inr other ↦ pair-start text e (rw other at read)
    ]

line-start : (text : List ℕ) (e : Expression × List ℕ) → line text ≡ Some e → (first text == 13) ≡ false
unfolding line
line-start text e read = option_and_then_some _ (expression text) e read (λ x found ended. expression-start text x found)

-- more room for lines changes nothing
pub lines-room : (n m : ℕ) (doc end : Document) (text : List ℕ) → n ≤ m → lines n doc text ≡ Some end → lines m doc text ≡ Some end
unfolding lines
lines-room zero m doc end text room read = absurd (none-some end read)
lines-room (suc n) zero doc end text room read = absurd (omega arith)
lines-room (suc n) (suc m) doc end text room read =
    elim (cases_Bool (length (skip_blank text) == 0)) [
      | inl none ↦ rw none (rw none at read)
      | inr some ↦
          option_and_then_some _ (line (skip_blank text)) end (rw some at read) (λ e found rest.
          option_and_then_some _ (define doc e.0) end rest (λ next defined tail.
          rw (some, found, defined) (lines-room n m next end e.1 (omega arith) tail)))
    ]

-- what is defined where the next line begins is defined from the same place
lines-from : (m : ℕ) (doc end : Document) (text other : List ℕ) → skip_blank text ≡ skip_blank other → lines m doc text ≡ Some end → lines m doc other ≡ Some end
unfolding lines
lines-from zero doc end text other same read = absurd (none-some end read)
lines-from (suc m) doc end text other same read = rw same at read

-- the lines of a text, and then those that follow it
pub lines-join : (n m : ℕ) (doc done end : Document) (text more : List ℕ) → lines n doc text ≡ Some done → lines m done more ≡ Some end → lines (n + m) doc (followed text more) ≡ Some end
unfolding lines
lines-join zero m doc done end text more one two = absurd (none-some done one)
lines-join (suc n) m doc done end text more one two =
    elim (cases_Bool (length (skip_blank text) == 0)) [
      | inl none ↦
          let here : doc ≡ done = same_Some doc done (rw none at one) in
          let behind : skip_blank (followed text more) ≡ skip_blank more = skip_from-through true false text more (eqb-true (length (skip_blank text)) 0 none) in
          rw here (lines-from (suc n + m) done end more (followed text more) (sym behind) (lines-room m (suc n + m) done end more (omega arith) two))
      | inr some ↦
          option_and_then_some _ (line (skip_blank text)) done (rw some at one) (λ e found rest.
          option_and_then_some _ (define doc e.0) done rest (λ next defined tail.
          let at_next : skip_blank (followed text more) ≡ followed (skip_blank text) more = skip_from-followed true false text more (grind (arith, nat_tests)) (line-start (skip_blank text) e found) in
          let size = length-append (skip_blank text) (10 ∷ more) in
          let more_left : (length (followed (skip_blank text) more) == 0) ≡ false = grind (arith, nat_tests) in
          let room : suc n + m ≡ suc (n + m) = omega arith in
          rw (room, at_next, more_left, line-followed (skip_blank text) more e.0 e.1 found, defined) (lines-join n m next done end e.1 more tail two)))
    ]
