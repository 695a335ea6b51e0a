-- Strings in a text that is followed by a new line.
use Rattle.std.proofs.Common.{◌≡◌, ℕ, zero, suc, ◌<◌, ◌≤◌, Bool, true, false, not, cond, ◌&&◌, ◌||◌, ◌==◌, nat_lt, nat_le, unwrap_or, List, [], ◌∷◌, length, length-append, drop}
use Rattle.std.proofs.Common.{slice_index, Option, Some, None, is_some, option_map, option_and_then, encode_utf8, refl, sym, ap, ◌∙◌, inl, inr, arith}
use Rattle.std.proofs.lemmas.Bool.{cases_Bool, false≢true, and_parts, and_from, and_left, and_right, cond-true}
use Rattle.std.proofs.lemmas.Bool.Decides.{nat_tests}
use Rattle.std.proofs.lemmas.List.{take-append-le, drop-append-le}
use Rattle.std.proofs.lemmas.List.Sums.{prefix_len-le-length}
use Rattle.std.specs.List.{prefix_len}
use Rattle.toml_parser.specs.Lexical.{Read, first, is_ws, starts_newline, skip_ws, skip_from, skip_lines, skip_turn}
use Rattle.toml_parser.specs.Strings.{is_plain, hex_len, simple_escape, hex_escape, escape_char, escape, at_delims, special, prepend, after_piece, body, trim_newline, one_line, quoted, starts_string}
use Rattle.toml_parser.proofs.LexicalLemmas.{skip_ws_none}
use Rattle.toml_parser.proofs.StringsLemmas.{after_special, body_plain, body_special}
use Rattle.afdx_toml_split.proofs.Followed.{followed, carry}
use Rattle.afdx_toml_split.proofs.Runs.{prefix_len-followed, skip_ws-followed, skip_from-followed}

parts : {A : Type 0} (p q : A × List ℕ) → Some p ≡ Some q → (p.0 ≡ q.0) × (p.1 ≡ q.1)
parts p q read =
    let same : p ≡ q = cc in
    (ap (λ x. x.0) same, ap (λ x. x.1) same)

carry_if : {A : Type 0} (b : Bool) (x : A) (text more : List ℕ) (c : A) (rest : List ℕ) → cond {A = Read A} b (Some (x, text)) None ≡ Some (c, rest)
    → cond {A = Read A} b (Some (x, followed text more)) None ≡ Some (c, followed rest more)
carry_if true x text more c rest read = ap (carry more) read
carry_if false x text more c rest read = absurd (false≢true (ap is_some read))

carry_map : {A : Type 0} (o : Option A) (text more : List ℕ) (c : A) (rest : List ℕ) → option_map {U = A × List ℕ} (λ x. (x, text)) o ≡ Some (c, rest)
    → option_map {U = A × List ℕ} (λ x. (x, followed text more)) o ≡ Some (c, followed rest more)
carry_map None text more c rest read = absurd (false≢true (ap is_some read))
carry_map (Some x) text more c rest read = ap (carry more) read

-- a string can go on here: neither at the end of the text nor at half of a line end
abbrev goes_on : List ℕ → Bool
goes_on text = not (first text == 0) && (not (first text == 13) || starts_newline text)

goes_on-some : (text : List ℕ) → goes_on text ≡ true → 0 < length text
goes_on-some [] h = absurd (false≢true h)
goes_on-some (c ∷ cs) h = omega arith

starts_newline-followed : (text more : List ℕ) → starts_newline text ≡ true → starts_newline (followed text more) ≡ true
starts_newline-followed [] more h = absurd (false≢true h)
starts_newline-followed (c ∷ []) more h = let feed : (c == 10) ≡ true = grind (arith, nat_tests) in rw feed
starts_newline-followed (c ∷ d ∷ ds) more h = h

no_newline : (comments inside : Bool) (c next : ℕ) → is_some (skip_turn comments inside c next) ≡ false → (c == 10 || (c == 13 && next == 10)) ≡ false
no_newline comments inside c next stop = grind (arith, nat_tests)

-- no line end stands behind what is skipped
skip_from-stop : (comments inside : Bool) (text : List ℕ) → starts_newline (skip_from comments inside text) ≡ false
unfolding skip_from
skip_from-stop comments inside [] = refl
skip_from-stop comments inside (c ∷ cs) =
    elim (cases_Bool (is_some (skip_turn comments inside c (first cs)))) [
      | inl more ↦ rw more (skip_from-stop comments (unwrap_or (skip_turn comments inside c (first cs)) false) cs)
      | inr stop ↦ rw stop (no_newline comments inside c (first cs) stop)
    ]

nat_le-followed : (n : ℕ) (text more : List ℕ) → nat_le n (length text) ≡ true → nat_le n (length (followed text more)) ≡ true
nat_le-followed n text more fits = let size = length-append text (10 ∷ more) in grind (arith, nat_tests)

hex_escape-followed : (n : ℕ) (text more : List ℕ) (c : ℕ) (rest : List ℕ) → hex_escape n text ≡ Some (c, rest) → hex_escape n (followed text more) ≡ Some (c, followed rest more)
unfolding hex_escape
hex_escape-followed n text more c rest read =
    elim (cases_Bool (nat_le n (length text))) [
      | inl fits ↦
          let within : n ≤ length text = grind (arith, nat_tests) in
          rw (nat_le-followed n text more fits, take-append-le n text (10 ∷ more) within, drop-append-le n text (10 ∷ more) within) (carry_if _ _ (drop n text) more c rest (rw fits at read))
      | inr short ↦ absurd (false≢true (ap is_some (rw short at read)))
    ]

escape_step : (n : ℕ) (o : Option ℕ) (text more : List ℕ) (c : ℕ) (rest : List ℕ) → cond (nat_lt 0 n) (hex_escape n text) (option_map (λ x. (x, text)) o) ≡ Some (c, rest)
    → cond (nat_lt 0 n) (hex_escape n (followed text more)) (option_map (λ x. (x, followed text more)) o) ≡ Some (c, followed rest more)
escape_step n o text more c rest read =
    elim (cases_Bool (nat_lt 0 n)) [
      | inl hex ↦ rw hex (hex_escape-followed n text more c rest (rw hex at read))
      | inr other ↦ rw other (carry_map o text more c rest (rw other at read))
    ]

escape_char-followed : (text more : List ℕ) (c : ℕ) (rest : List ℕ) → escape_char text ≡ Some (c, rest) → escape_char (followed text more) ≡ Some (c, followed rest more)
unfolding escape_char
escape_char-followed [] more c rest read = absurd (false≢true (ap is_some read))
escape_char-followed (x ∷ xs) more c rest read = escape_step (hex_len x) (simple_escape x) xs more c rest read

no_letter : (c : ℕ) → (is_ws c || (c == 10 || c == 13)) ≡ true → (hex_len c ≡ 0) × (simple_escape c ≡ None)
no_letter c h = (grind (arith, nat_tests), grind (arith, nat_tests))

-- neither white space nor a line end is an escape
escape_char-start : (c : ℕ) (cs : List ℕ) → is_some (escape_char (c ∷ cs)) ≡ true → (is_ws c || (c == 10 || c == 13)) ≡ false
unfolding escape_char
escape_char-start c cs read =
    elim (cases_Bool (is_ws c || (c == 10 || c == 13))) [
      | inl blank ↦ let (a, b) = no_letter c blank in absurd (false≢true (rw (a, b) at read))
      | inr letter ↦ letter
    ]

newline_at_letter : (c : ℕ) (cs : List ℕ) → (is_ws c || (c == 10 || c == 13)) ≡ false → starts_newline (skip_ws (c ∷ cs)) ≡ false
newline_at_letter c cs letter =
    let some : is_ws c ≡ false = grind (arith, nat_tests) in
    rw (skip_ws_none (c ∷ cs) some) (grind (arith, nat_tests))

-- the bytes of the character that was read
abbrev encoded : Read ℕ → Read (List ℕ)
encoded r = option_map (λ p. (encode_utf8 p.0, p.1)) r

escape_lines : (text : List ℕ) → starts_newline (skip_ws text) ≡ true → escape true text ≡ Some ([], skip_lines text)
unfolding escape
escape_lines text newline = rw newline

escape_one : (multi : Bool) (text : List ℕ) → (multi && starts_newline (skip_ws text)) ≡ false → escape multi text ≡ encoded (escape_char text)
unfolding escape
escape_one multi text none = rw none

escape_one-followed : (multi : Bool) (text more bytes rest : List ℕ) (o : Read ℕ) → escape_char text ≡ o → encoded o ≡ Some (bytes, rest)
    → escape multi (followed text more) ≡ Some (bytes, followed rest more)
unfolding escape_char
escape_one-followed multi text more bytes rest None e read = absurd (false≢true (ap is_some read))
escape_one-followed multi [] more bytes rest (Some p) e read = absurd (false≢true (ap is_some e))
escape_one-followed multi (c ∷ cs) more bytes rest (Some p) e read =
    let none = newline_at_letter c (followed cs more) (escape_char-start c cs (ap is_some e)) in
    escape_one multi (followed (c ∷ cs) more) (and_right multi _ none) ∙ ap encoded (escape_char-followed (c ∷ cs) more p.0 p.1 e) ∙ ap (carry more) read

skip_lines-followed : (text more : List ℕ) → goes_on (skip_lines text) ≡ true → skip_lines (followed text more) ≡ followed (skip_lines text) more
skip_lines-followed text more ready =
    let stop = skip_from-stop false false text in
    let whole : (first (skip_lines text) == 13) ≡ false = grind (arith, nat_tests) in
    skip_from-followed false false text more (goes_on-some (skip_lines text) ready) whole

escape_lines-followed : (text more bytes rest : List ℕ) → goes_on rest ≡ true → starts_newline (skip_ws text) ≡ true → escape true text ≡ Some (bytes, rest)
    → escape true (followed text more) ≡ Some (bytes, followed rest more)
escape_lines-followed text more bytes rest ready newline read =
    let lines = sym (escape_lines text newline) ∙ read in
    let same : rest ≡ skip_lines text = sym (parts _ _ lines).1 in
    escape_lines (followed text more) (rw skip_ws-followed (starts_newline-followed (skip_ws text) more newline))
    ∙ ap (λ t. Some ([], t)) (skip_lines-followed text more (rw (← same) ready)) ∙ ap (carry more) lines

escape-followed : (multi : Bool) (text more bytes rest : List ℕ) → goes_on rest ≡ true → escape multi text ≡ Some (bytes, rest) → escape multi (followed text more) ≡ Some (bytes, followed rest more)
escape-followed false text more bytes rest ready read = escape_one-followed false text more bytes rest _ refl (sym (escape_one false text refl) ∙ read)
escape-followed true text more bytes rest ready read =
    elim (cases_Bool (starts_newline (skip_ws text))) [
      | inl newline ↦ escape_lines-followed text more bytes rest ready newline read
      | inr none ↦ escape_one-followed true text more bytes rest _ refl (sym (escape_one true text none) ∙ read)
    ]

-- what a run of n delimiters at the front stands for
abbrev delims : ℕ → ℕ → List ℕ → Read (Option (List ℕ))
delims n delim text = cond (n == 3) (Some (None, drop 3 text)) (cond (nat_lt n 6) (Some (Some (delim ∷ []), drop 1 text)) None)

delims-followed : (n delim c : ℕ) (cs more : List ℕ) (piece : Option (List ℕ)) (rest : List ℕ) → n ≤ length (c ∷ cs) → delims n delim (c ∷ cs) ≡ Some (piece, rest)
    → delims n delim (followed (c ∷ cs) more) ≡ Some (piece, followed rest more)
delims-followed n delim c cs more piece rest within read =
    elim (cases_Bool (n == 3)) [
      | inl three ↦
          let room : 3 ≤ length (c ∷ cs) = grind (arith, nat_tests) in
          rw (three, drop-append-le 3 (c ∷ cs) (10 ∷ more) room) (ap (carry more) (rw three at read))
      | inr other ↦ rw other (carry_if (nat_lt n 6) _ cs more piece rest (rw other at read))
    ]

no_feed : (delim : ℕ) → (delim == 34 || delim == 39) ≡ true → (10 == delim) ≡ false
no_feed delim is_delim = grind (arith, nat_tests)

at_delims-followed : (delim c : ℕ) (cs more : List ℕ) (piece : Option (List ℕ)) (rest : List ℕ) → (delim == 34 || delim == 39) ≡ true
    → at_delims delim (c ∷ cs) ≡ Some (piece, rest) → at_delims delim (followed (c ∷ cs) more) ≡ Some (piece, followed rest more)
at_delims-followed delim c cs more piece rest is_delim read =
    ap (λ n. delims n delim (followed (c ∷ cs) more)) (prefix_len-followed (λ x. x == delim) (c ∷ cs) more (no_feed delim is_delim))
    ∙ delims-followed (prefix_len (λ x. x == delim) (c ∷ cs)) delim c cs more piece rest (prefix_len-le-length (λ x. x == delim) (c ∷ cs)) read

delim-followed : (multi : Bool) (delim c : ℕ) (cs more : List ℕ) (piece : Option (List ℕ)) (rest : List ℕ) → (delim == 34 || delim == 39) ≡ true
    → cond multi (at_delims delim (c ∷ cs)) (Some (None, cs)) ≡ Some (piece, rest)
    → cond multi (at_delims delim (followed (c ∷ cs) more)) (Some (None, followed cs more)) ≡ Some (piece, followed rest more)
delim-followed true delim c cs more piece rest is_delim read = at_delims-followed delim c cs more piece rest is_delim read
delim-followed false delim c cs more piece rest is_delim read = ap (carry more) read

-- what was read, as the bytes of a piece
abbrev as_piece : Read (List ℕ) → Read (Option (List ℕ))
as_piece r = option_map (λ p. (Some p.0, p.1)) r

piece-followed : (multi : Bool) (text more : List ℕ) (piece : Option (List ℕ)) (rest : List ℕ) (o : Read (List ℕ)) → escape multi text ≡ o → (is_some piece ≡ true → goes_on rest ≡ true)
    → as_piece o ≡ Some (piece, rest) → as_piece (escape multi (followed text more)) ≡ Some (piece, followed rest more)
piece-followed multi text more piece rest None e ready read = absurd (false≢true (ap is_some read))
piece-followed multi text more piece rest (Some p) e ready read =
    let (whole, same) = parts _ _ read in
    ap as_piece (escape-followed multi text more p.0 p.1 (rw same (ready (sym (ap is_some whole)))) e) ∙ ap (carry more) read

-- neither the end of the text nor half of a line end stands for anything in a string
special_none : (delim : ℕ) (multi : Bool) (text : List ℕ) → (delim == 34 || delim == 39) ≡ true → goes_on text ≡ false → special delim multi text ≡ None
unfolding special
special_none delim multi text is_delim closed =
    let no_delim : (first text == delim) ≡ false = grind (arith, nat_tests) in
    let no_escape : (first text == 92) ≡ false = grind (arith, nat_tests) in
    let newline : starts_newline text ≡ false = grind (arith, nat_tests) in
    rw (no_delim, no_escape, and_right multi (starts_newline text) newline)

special-followed : (delim : ℕ) (multi : Bool) (text more : List ℕ) (piece : Option (List ℕ)) (rest : List ℕ) → (delim == 34 || delim == 39) ≡ true → (is_some piece ≡ true → goes_on rest ≡ true)
    → special delim multi text ≡ Some (piece, rest) → special delim multi (followed text more) ≡ Some (piece, followed rest more)
unfolding special
special-followed delim multi [] more piece rest is_delim ready read = absurd (false≢true (ap is_some (sym (special_none delim multi [] is_delim refl) ∙ read)))
special-followed delim multi (c ∷ cs) more piece rest is_delim ready read =
    elim (cases_Bool (c == delim)) [
      | inl at_delim ↦ cond-true _ _ _ at_delim ∙ delim-followed multi delim c cs more piece rest is_delim (sym (cond-true _ _ _ at_delim) ∙ read)
      | inr other ↦ elim (cases_Bool (c == 92)) [
        | inl slash ↦ rw (other, slash) (piece-followed multi cs more piece rest _ refl ready (rw (other, slash) at read))
        | inr plain ↦ elim (cases_Bool (multi && starts_newline (c ∷ cs))) [
          | inl newline ↦
              let (many, starts) = and_parts multi (starts_newline (c ∷ cs)) newline in
              rw (other, plain, and_from multi _ many (starts_newline-followed (c ∷ cs) more starts)) (ap (carry more) (rw (other, plain, newline) at read))
          | inr none ↦ absurd (false≢true (ap is_some (rw (other, plain, none) at read)))
        ]
      ]
    ]

trim_newline-followed : (text more : List ℕ) → goes_on (trim_newline text) ≡ true → trim_newline (followed text more) ≡ followed (trim_newline text) more
trim_newline-followed [] more ready = absurd (false≢true ready)
trim_newline-followed (c ∷ []) more ready =
    elim (cases_Bool (c == 10)) [
      | inl feed ↦ absurd (false≢true (rw feed at ready))
      | inr other ↦
          let alone = rw other at ready in
          let whole : (c == 13) ≡ false = grind (arith, nat_tests) in
          rw (other, whole)
    ]
trim_newline-followed (c ∷ d ∷ ds) more ready =
    elim (cases_Bool (c == 10)) [
      | inl feed ↦ rw feed
      | inr other ↦ elim (cases_Bool (c == 13 && d == 10)) [ inl newline ↦ rw (other, newline) | inr none ↦ rw (other, none) ]
    ]

-- where a string goes on
body_goes_on : (delim : ℕ) (multi : Bool) (n : ℕ) (text : List ℕ) → (delim == 34 || delim == 39) ≡ true → is_some (body delim multi n text) ≡ true → goes_on text ≡ true
unfolding body
body_goes_on delim multi zero text is_delim read = absurd (false≢true read)
body_goes_on delim multi (suc n) text is_delim read =
    elim (cases_Bool (goes_on text)) [
      | inl open_end ↦ open_end
      | inr closed ↦
          let special_one : is_plain delim multi (first text) ≡ false = grind (arith, nat_tests) in
          absurd (false≢true (rw (special_one, special_none delim multi text is_delim closed) at read))
    ]

is_some-prepend : (front : List ℕ) (r : Read (List ℕ)) → is_some (prepend front r) ≡ is_some r
is_some-prepend front None = refl
is_some-prepend front (Some p) = refl

prepend-followed : (front more s rest : List ℕ) (o longer : Read (List ℕ)) → ((t r : List ℕ) → o ≡ Some (t, r) → longer ≡ Some (t, followed r more))
    → prepend front o ≡ Some (s, rest) → prepend front longer ≡ Some (s, followed rest more)
prepend-followed front more s rest None longer next read = absurd (false≢true (ap is_some read))
prepend-followed front more s rest (Some p) longer next read = rw (next p.0 p.1 refl) (ap (carry more) read)

after_special-followed : (delim : ℕ) (multi : Bool) (n m : ℕ) (text more s rest : List ℕ) (o : Read (Option (List ℕ))) → (delim == 34 || delim == 39) ≡ true → special delim multi text ≡ o
    → ((t u r : List ℕ) → body delim multi n t ≡ Some (u, r) → body delim multi m (followed t more) ≡ Some (u, followed r more))
    → option_and_then (λ p. after_piece (body delim multi n) p.0 p.1) o ≡ Some (s, rest) → after_special delim multi m (followed text more) ≡ Some (s, followed rest more)
after_special-followed delim multi n m text more s rest None is_delim e next read = absurd (false≢true (ap is_some read))
after_special-followed delim multi n m text more s rest (Some (None, after)) is_delim e next read =
    rw (special-followed delim multi text more None after is_delim (λ is. absurd (false≢true is)) e) (ap (carry more) read)
after_special-followed delim multi n m text more s rest (Some (Some bytes, after)) is_delim e next read =
    let more_text = body_goes_on delim multi n after is_delim (sym (is_some-prepend bytes (body delim multi n after)) ∙ ap is_some read) in
    rw (special-followed delim multi text more (Some bytes) after is_delim (λ is. more_text) e) (prepend-followed bytes more s rest _ _ (next after) read)

-- the content of a string and its closing delimiter, with more fuel
pub body-followed : (delim : ℕ) (multi : Bool) (n m : ℕ) (text more s rest : List ℕ) → (delim == 34 || delim == 39) ≡ true → n ≤ m
    → body delim multi n text ≡ Some (s, rest) → body delim multi m (followed text more) ≡ Some (s, followed rest more)
unfolding body
body-followed delim multi zero m text more s rest is_delim fuel read = absurd (false≢true (ap is_some read))
body-followed delim multi (suc n) zero text more s rest is_delim fuel read = absurd (omega arith)
body-followed delim multi (suc n) (suc m) [] more s rest is_delim fuel read = absurd (false≢true (body_goes_on delim multi (suc n) [] is_delim (ap is_some read)))
body-followed delim multi (suc n) (suc m) (c ∷ cs) more s rest is_delim fuel read =
    elim (cases_Bool (is_plain delim multi c)) [
      | inl plain ↦ body_plain delim multi m c (followed cs more) plain
          ∙ prepend-followed (c ∷ []) more s rest _ _ (λ t r. body-followed delim multi n m cs more t r is_delim (omega arith)) (sym (body_plain delim multi n c cs plain) ∙ read)
      | inr other ↦ body_special delim multi m (followed (c ∷ cs) more) other
          ∙ after_special-followed delim multi n m (c ∷ cs) more s rest _ is_delim refl (λ t u r. body-followed delim multi n m t more u r is_delim (omega arith))
          (sym (body_special delim multi n (c ∷ cs) other) ∙ read)
    ]

-- a string of one line
pub one_line-followed : (text more s rest : List ℕ) → starts_string text ≡ true → one_line text ≡ Some (s, rest) → one_line (followed text more) ≡ Some (s, followed rest more)
unfolding one_line
one_line-followed [] more s rest starts read = absurd (false≢true starts)
one_line-followed (c ∷ cs) more s rest starts read =
    body-followed c false (length (c ∷ cs)) (length (followed (c ∷ cs) more)) cs more s rest starts (omega (arith, length-append (c ∷ cs) (10 ∷ more))) read

-- two more of the delimiter
abbrev opens_lines : List ℕ → Bool
opens_lines text = slice_index text 1 == first text && slice_index text 2 == first text

quoted_one : (text : List ℕ) → opens_lines text ≡ false → quoted text ≡ one_line text
unfolding quoted
quoted_one text one = rw one

quoted_lines : (text : List ℕ) → opens_lines text ≡ true → quoted text ≡ body (first text) true (length text) (trim_newline (drop 3 text))
unfolding quoted
quoted_lines text lines = rw lines

quoted_one-followed : (text more s rest : List ℕ) → starts_string text ≡ true → opens_lines text ≡ false → opens_lines (followed text more) ≡ false → quoted text ≡ Some (s, rest)
    → quoted (followed text more) ≡ Some (s, followed rest more)
quoted_one-followed text more s rest starts one still read = quoted_one (followed text more) still ∙ one_line-followed text more s rest starts (sym (quoted_one text one) ∙ read)

quoted_lines-followed : (c d e : ℕ) (ts more s rest : List ℕ) → (c == 34 || c == 39) ≡ true → body c true (length (c ∷ d ∷ e ∷ ts)) (trim_newline ts) ≡ Some (s, rest)
    → body c true (length (followed (c ∷ d ∷ e ∷ ts) more)) (trim_newline (followed ts more)) ≡ Some (s, followed rest more)
quoted_lines-followed c d e ts more s rest is_delim read =
    let text = c ∷ d ∷ e ∷ ts in
    let ready = body_goes_on c true (length text) (trim_newline ts) is_delim (ap is_some read) in
    ap (body c true (length (followed text more))) (trim_newline-followed ts more ready)
    ∙ body-followed c true (length text) (length (followed text more)) (trim_newline ts) more s rest is_delim (omega (arith, length-append text (10 ∷ more))) read

-- a string of any kind
pub quoted-followed : (text more s rest : List ℕ) → starts_string text ≡ true → quoted text ≡ Some (s, rest) → quoted (followed text more) ≡ Some (s, followed rest more)
quoted-followed [] more s rest starts read = absurd (false≢true starts)
quoted-followed (c ∷ []) more s rest starts read =
    quoted_one-followed (c ∷ []) more s rest starts (grind (arith, nat_tests)) (and_left (10 == c) _ (no_feed c starts)) read
quoted-followed (c ∷ d ∷ []) more s rest starts read =
    quoted_one-followed (c ∷ d ∷ []) more s rest starts (grind (arith, nat_tests)) (and_right (d == c) _ (no_feed c starts)) read
quoted-followed (c ∷ d ∷ e ∷ ts) more s rest starts read =
    elim (cases_Bool (d == c && e == c)) [
      | inl lines ↦ quoted_lines (followed (c ∷ d ∷ e ∷ ts) more) lines ∙ quoted_lines-followed c d e ts more s rest starts (sym (quoted_lines (c ∷ d ∷ e ∷ ts) lines) ∙ read)
      | inr one ↦ quoted_one-followed (c ∷ d ∷ e ∷ ts) more s rest starts one one read
    ]
