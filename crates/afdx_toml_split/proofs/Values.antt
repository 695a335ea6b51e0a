-- Values in a text that is followed by a new line.
use Rattle.std.proofs.Common.{◌≡◌, ℕ, zero, suc, ◌<◌, ◌≤◌, ◌-◌, true, false, ◌||◌, ◌==◌, List, [], ◌∷◌, length, length-append, drop, option_map, Some, None, refl, sym, ap, ◌∙◌, inl, inr, arith}
use Rattle.std.proofs.lemmas.Bool.{cases_Bool}
use Rattle.std.proofs.lemmas.Bool.Decides.{nat_tests}
use Rattle.std.proofs.lemmas.Option.{option_and_then_some}
use Rattle.toml_parser.specs.Lexical.{Read, first, is_ws, skip_blank}
use Rattle.toml_parser.specs.Strings.{Key, starts_string, quoted}
use Rattle.toml_parser.specs.Numbers.{unquoted}
use Rattle.toml.specs.Data.{Data, string, array, table, Items, no_items, push_item, Members}
use Rattle.toml.specs.Tables.{Nodes, no_nodes, put}
use Rattle.toml.specs.Parse.{read_map, scalar_data, atom, after_element, key_equals, items, members, keyval, val}
use Rattle.toml.proofs.Turns.{items_end, items_more, val_atom, keyval_ok, members_end, members_more}
use Rattle.afdx_toml_split.proofs.Followed.{followed, carry}
use Rattle.afdx_toml_split.proofs.Runs.{skip_from-followed}
use Rattle.afdx_toml_split.proofs.Strings.{quoted-followed}
use Rattle.afdx_toml_split.proofs.Keys.{key_equals-start, key_equals-followed}
use Rattle.afdx_toml_split.proofs.Numbers.{unquoted-start, unquoted-followed}

-- the text begins with a byte that is neither half of a line end nor missing
abbrev Begins : List ℕ → Type 0
Begins text = (first text == 0 || first text == 13) ≡ false

-- what the reader reads begins so, and is read of the text followed by a new line as well
abbrev Starts : {A : Type 0} → (List ℕ → Read A) → Type 0
Starts {A} r = (text : List ℕ) (a : A) (rest : List ℕ) → r text ≡ Some (a, rest) → Begins text

abbrev Follows : {A : Type 0} → (List ℕ → Read A) → Type 0
Follows {A} r = (text more : List ℕ) (a : A) (rest : List ℕ) → r text ≡ Some (a, rest) → r (followed text more) ≡ Some (a, followed rest more)

begins_some : (text : List ℕ) → Begins text → 0 < length text
begins_some [] h = absurd (grind (arith, nat_tests))
begins_some (c ∷ cs) h = omega arith

begins_first : (text more : List ℕ) → Begins text → first (followed text more) ≡ first text
begins_first [] more h = absurd (grind (arith, nat_tests))
begins_first (c ∷ cs) more h = refl

begins_drop : (text more : List ℕ) → Begins text → drop 1 (followed text more) ≡ followed (drop 1 text) more
begins_drop [] more h = absurd (grind (arith, nat_tests))
begins_drop (c ∷ cs) more h = refl

-- such a text is what is left after blanks, where a new line follows too
begins_skip : (text more : List ℕ) → Begins (skip_blank text) → skip_blank (followed text more) ≡ followed (skip_blank text) more
begins_skip text more h =
    let whole : (first (skip_blank text) == 13) ≡ false = grind (arith, nat_tests) in
    skip_from-followed true false text more (begins_some (skip_blank text) h) whole

skip_first : (text more : List ℕ) → Begins (skip_blank text) → first (skip_blank (followed text more)) ≡ first (skip_blank text)
skip_first text more h = rw (begins_skip text more h) (begins_first (skip_blank text) more h)

skip_drop : (text more : List ℕ) → Begins (skip_blank text) → drop 1 (skip_blank (followed text more)) ≡ followed (drop 1 (skip_blank text)) more
skip_drop text more h = rw (begins_skip text more h) (begins_drop (skip_blank text) more h)

-- back from what was read under a function to what was read
map_some : {A B : Type 0} (f : A → B) (o : Read A) (y : B) (rest : List ℕ) → read_map f o ≡ Some (y, rest) → (x : A) × (o ≡ Some (x, rest)) × (f x ≡ y)
map_some f None y rest h = absurd (cc)
map_some {B = B} f (Some p) y rest h =
    let same : ◌≡◌ {A = B × List ℕ} (f p.0, p.1) (y, rest) = cc in
    (p.0, ap (λ q. Some (p.0, q.1)) same, ap (λ q. q.0) same)

-- what is read under a function, where the text is followed by a new line as well
map-followed : {A B : Type 0} (f : A → B) (o o2 : Read A) (more : List ℕ) (y : B) (rest : List ℕ) → ((x : A) → o ≡ Some (x, rest) → o2 ≡ Some (x, followed rest more))
    → read_map f o ≡ Some (y, rest) → read_map f o2 ≡ Some (y, followed rest more)
map-followed f o o2 more y rest follows read =
    let (x, at_x, same) = map_some f o y rest read in
    rw (follows x at_x, same)

starts_string-followed : (text more : List ℕ) → starts_string (followed text more) ≡ starts_string text
starts_string-followed [] more = refl
starts_string-followed (c ∷ cs) more = refl

-- a string or a scalar
pub atom-followed : (text more : List ℕ) (d : Data) (rest : List ℕ) → atom text ≡ Some (d, rest) → atom (followed text more) ≡ Some (d, followed rest more)
unfolding atom
atom-followed text more d rest read =
    elim (cases_Bool (starts_string text)) [
      | inl quote ↦
          rw (starts_string-followed text more, quote)
          (map-followed string (quoted text) (quoted (followed text more)) more d rest (λ s. quoted-followed text more s rest quote) (rw quote at read))
      | inr other ↦
          rw (starts_string-followed text more, other)
          (map-followed scalar_data (unquoted text) (unquoted (followed text more)) more d rest (λ s. unquoted-followed text more s rest) (rw other at read))
    ]

-- what is left after an element
pub after_element-followed : (closing : ℕ) (text more rest : List ℕ) → (closing == 93 || closing == 125) ≡ true → after_element closing text ≡ Some rest
    → after_element closing (followed text more) ≡ Some (followed rest more)
unfolding after_element
after_element-followed closing text more rest is_closing read =
    elim (cases_Bool (first (skip_blank text) == 44)) [
      | inl comma ↦
          let begins : Begins (skip_blank text) = grind (arith, nat_tests) in
          let same : Some (drop 1 (skip_blank text)) ≡ Some rest = rw comma at read in
          rw (skip_first text more begins, comma, skip_drop text more begins) (ap (option_map (λ t. followed t more)) same)
      | inr other ↦ elim (cases_Bool (first (skip_blank text) == closing)) [
        | inl close ↦
            let begins : Begins (skip_blank text) = grind (arith, nat_tests) in
            let same : Some (skip_blank text) ≡ Some rest = rw (other, close) at read in
            rw (skip_first text more begins, other, close, begins_skip text more begins) (ap (option_map (λ t. followed t more)) same)
        | inr neither ↦
            let none : None ≡ Some rest = rw (other, neither) at read in
            absurd (cc)
      ]
    ]

atom-start : Starts atom
unfolding atom
atom-start text d rest read =
    elim (cases_Bool (starts_string text)) [
      | inl quote ↦ grind (arith, nat_tests)
      | inr other ↦
          let (s, at_s, same) = map_some scalar_data (unquoted text) d rest (rw other at read) in
          let word = unquoted-start text s rest at_s in
          grind (arith, nat_tests)
    ]

-- a text that a value is read of begins with none of these
pub val-start : (depth : ℕ) (text : List ℕ) (d : Data) (rest : List ℕ) → val depth text ≡ Some (d, rest) → (first text == 0 || first text == 13) ≡ false
val-start depth text d rest read =
    elim (cases_Bool (first text == 91)) [
      | inl bracket ↦ grind (arith, nat_tests)
      | inr other ↦ elim (cases_Bool (first text == 123)) [
        | inl brace ↦ grind (arith, nat_tests)
        | inr neither ↦ atom-start text d rest (sym (val_atom depth text other neither) ∙ read)
      ]
    ]

atom-visible : (text : List ℕ) (d : Data) (rest : List ℕ) → atom text ≡ Some (d, rest) → is_ws (first text) ≡ false
unfolding atom
atom-visible text d rest read =
    elim (cases_Bool (starts_string text)) [
      | inl quote ↦ grind (arith, nat_tests)
      | inr other ↦
          let (s, at_s, same) = map_some scalar_data (unquoted text) d rest (rw other at read) in
          let word = unquoted-start text s rest at_s in
          grind (arith, nat_tests)
    ]

-- nor with a blank
pub val-visible : (depth : ℕ) (text : List ℕ) (d : Data) (rest : List ℕ) → val depth text ≡ Some (d, rest) → is_ws (first text) ≡ false
val-visible depth text d rest read =
    elim (cases_Bool (first text == 91)) [
      | inl bracket ↦ grind (arith, nat_tests)
      | inr other ↦ elim (cases_Bool (first text == 123)) [
        | inl brace ↦ grind (arith, nat_tests)
        | inr neither ↦ atom-visible text d rest (sym (val_atom depth text other neither) ∙ read)
      ]
    ]

-- a turn of an array that a further element was read in
items_turn : (r : List ℕ → Read Data) (n : ℕ) (found : Items) (text : List ℕ) (ds : Items) (rest : List ℕ) → (first (skip_blank text) == 93) ≡ false → items r (suc n) found text ≡ Some (ds, rest)
    → (d : Data) × (after : List ℕ) × (next : List ℕ) × (r (skip_blank text) ≡ Some (d, after)) × (after_element 93 after ≡ Some next) × (items r n (push_item found d) next ≡ Some (ds, rest))
unfolding items
items_turn r n found text ds rest other read =
    option_and_then_some _ _ _ (rw other at read) (λ v at_v more. option_and_then_some _ _ _ more (λ next at_next tail. (v.0, v.1, next, at_v, at_next, tail)))

-- the rest of an array, with any greater fuel
items-followed : (r : List ℕ → Read Data) → Starts r → Follows r → (n m : ℕ) (found : Items) (text more : List ℕ) (ds : Items) (rest : List ℕ) → n ≤ m → items r n found text ≡ Some (ds, rest)
    → items r m found (followed text more) ≡ Some (ds, followed rest more)
unfolding items
items-followed r starts follows zero m found text more ds rest fuel read = absurd (cc)
items-followed r starts follows (suc n) m found text more ds rest fuel read =
    elim (cases_Bool (first (skip_blank text) == 93)) [
      | inl close ↦
          let begins : Begins (skip_blank text) = grind (arith, nat_tests) in
          let same_first : (first (skip_blank (followed text more)) == 93) ≡ true = rw (skip_first text more begins) close in
          let same = sym (items_end r (suc n) found text (omega arith) close) ∙ read in
          items_end r m found (followed text more) (omega arith) same_first ∙ rw (skip_drop text more begins) (ap (carry more) same)
      | inr other ↦
          let (d, after, next, at_d, at_next, tail) = items_turn r n found text ds rest other read in
          let begins = starts (skip_blank text) d after at_d in
          let same_first : (first (skip_blank (followed text more)) == 93) ≡ false = rw (skip_first text more begins) other in
          let read_more : r (skip_blank (followed text more)) ≡ Some (d, followed after more) = rw (begins_skip text more begins) (follows (skip_blank text) more d after at_d) in
          items_more r m found (followed text more) d (followed after more) (followed next more) (omega arith) same_first read_more (after_element-followed 93 after more next refl at_next)
          ∙ items-followed r starts follows n (m - 1) (push_item found d) next more ds rest (omega arith) tail
    ]

-- the key and the value of a pair that was read
keyval_turn : (r : List ℕ → Read Data) (text : List ℕ) (e : Key × Data) (rest : List ℕ) → keyval r text ≡ Some (e, rest)
    → (k : Key) × (d : Data) × (value_at : List ℕ) × (key_equals text ≡ Some (k, value_at)) × (r value_at ≡ Some (d, rest)) × ((k, d) ≡ e)
keyval_turn r text e rest read =
    option_and_then_some _ (key_equals text) _ read (λ k at_k more. let (d, at_d, same) = map_some (λ d. (k.0, d)) (r k.1) e rest more in (k.0, d, k.1, at_k, at_d, same))

keyval-start : (r : List ℕ → Read Data) → Starts (keyval r)
keyval-start r text e rest read =
    let (k, d, value_at, at_k, at_d, same) = keyval_turn r text e rest read in
    let key = key_equals-start text k value_at at_k in
    grind (arith, nat_tests)

keyval-follows : (r : List ℕ → Read Data) → Follows r → Follows (keyval r)
keyval-follows r follows text more e rest read =
    let (k, d, value_at, at_k, at_d, same) = keyval_turn r text e rest read in
    keyval_ok r (followed text more) (followed value_at more) (followed rest more) k d (key_equals-followed text more k value_at at_k) (follows value_at more d rest at_d)
    ∙ ap (λ p. Some (p, followed rest more)) same

-- a turn of an inline table that a further pair was read in
members_turn : (r : List ℕ → Read Data) (n : ℕ) (found : Nodes) (text : List ℕ) (ms : Members) (rest : List ℕ) → (first (skip_blank text) == 125) ≡ false
    → members r (suc n) found text ≡ Some (ms, rest)
    → (e : Key × Data) × (after : List ℕ) × (new : Nodes) × (next : List ℕ) × (keyval r (skip_blank text) ≡ Some (e, after)) × (put e.0 e.1 found ≡ Some new) × (after_element 125 after ≡ Some next)
    × (members r n new next ≡ Some (ms, rest))
unfolding members
members_turn r n found text ms rest other read =
    option_and_then_some _ (keyval r (skip_blank text)) _ (rw other at read) (λ e at_e more.
    option_and_then_some _ _ _ more (λ new at_new rest_of. option_and_then_some _ _ _ rest_of (λ next at_next tail. (e.0, e.1, new, next, at_e, at_new, at_next, tail))))

-- the rest of an inline table, with any greater fuel
members-followed : (r : List ℕ → Read Data) → Follows r → (n m : ℕ) (found : Nodes) (text more : List ℕ) (ms : Members) (rest : List ℕ) → n ≤ m → members r n found text ≡ Some (ms, rest)
    → members r m found (followed text more) ≡ Some (ms, followed rest more)
unfolding members
members-followed r follows zero m found text more ms rest fuel read = absurd (cc)
members-followed r follows (suc n) m found text more ms rest fuel read =
    elim (cases_Bool (first (skip_blank text) == 125)) [
      | inl close ↦
          let begins : Begins (skip_blank text) = grind (arith, nat_tests) in
          let same_first : (first (skip_blank (followed text more)) == 125) ≡ true = rw (skip_first text more begins) close in
          let same = sym (members_end r (suc n) found text (omega arith) close) ∙ read in
          members_end r m found (followed text more) (omega arith) same_first ∙ rw (skip_drop text more begins) (ap (carry more) same)
      | inr other ↦
          let (e, after, new, next, at_e, at_new, at_next, tail) = members_turn r n found text ms rest other read in
          let begins = keyval-start r (skip_blank text) e after at_e in
          let same_first : (first (skip_blank (followed text more)) == 125) ≡ false = rw (skip_first text more begins) other in
          let pair = keyval-follows r follows (skip_blank text) more e after at_e in
          let read_more : keyval r (skip_blank (followed text more)) ≡ Some (e, followed after more) = rw (begins_skip text more begins) pair in
          let element = after_element-followed 125 after more next refl at_next in
          members_more r m found new (followed text more) e.0 e.1 (followed after more) (followed next more) (omega arith) same_first read_more at_new element
          ∙ members-followed r follows n (m - 1) new next more ms rest (omega arith) tail
    ]

-- a value
pub val-followed : (depth : ℕ) (text more : List ℕ) (d : Data) (rest : List ℕ) → val depth text ≡ Some (d, rest) → val depth (followed text more) ≡ Some (d, followed rest more)
unfolding val
val-followed zero text more d rest read = atom-followed text more d rest read
val-followed (suc depth) [] more d rest read = let start = val-start (suc depth) [] d rest read in absurd (grind (arith, nat_tests))
val-followed (suc depth) (c ∷ cs) more d rest read =
    let longer = length-append cs (10 ∷ more) in
    elim (cases_Bool (c == 91)) [
      | inl bracket ↦
          rw bracket (map-followed array (items (val depth) (length (c ∷ cs)) no_items cs) (items (val depth) (length (c ∷ followed cs more)) no_items (followed cs more)) more d rest
          (λ ds. items-followed (val depth) (val-start depth) (val-followed depth) (length (c ∷ cs)) (length (c ∷ followed cs more)) no_items cs more ds rest (omega arith)) (rw bracket at read))
      | inr other ↦ elim (cases_Bool (c == 123)) [
        | inl brace ↦
            rw (other, brace) (map-followed table (members (val depth) (length (c ∷ cs)) no_nodes cs) (members (val depth) (length (c ∷ followed cs more)) no_nodes (followed cs more)) more d rest
            (λ ms. members-followed (val depth) (val-followed depth) (length (c ∷ cs)) (length (c ∷ followed cs more)) no_nodes cs more ms rest (omega arith)) (rw (other, brace) at read))
        | inr neither ↦ rw (other, neither) (atom-followed (c ∷ cs) more d rest (rw (other, neither) at read))
      ]
    ]

-- a pair
pub keyval-followed : (depth : ℕ) (text more : List ℕ) (e : Key × Data) (rest : List ℕ) → keyval (val depth) text ≡ Some (e, rest)
    → keyval (val depth) (followed text more) ≡ Some (e, followed rest more)
keyval-followed depth = keyval-follows (val depth) (val-followed depth)
