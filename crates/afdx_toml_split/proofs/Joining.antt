-- The elements of the array, one after another.
use Rattle.std.proofs.Common.{◌≡◌, ℕ, suc, ◌+◌, ◌≤◌, true, false, ◌&&◌, ◌==◌, List, [], ◌∷◌, ◌++◌, length, Some, None, length-append, refl, sym, ap, ◌∙◌, inl, inr, arith}
use Rattle.std.proofs.lemmas.Bool.{cases_Bool}
use Rattle.std.proofs.lemmas.Bool.Decides.{nat_tests}
use Rattle.toml_parser.specs.Lexical.{first, is_ws, skip_ws, skip_blank}
use Rattle.toml_parser.specs.Strings.{key_after, simple_key}
use Rattle.toml.specs.Data.{table, array, Items, no_items, push_item, Members, same_key, get_member}
use Rattle.toml.specs.Tables.{Nodes, no_nodes, open_array, get_node, insert, close, Document, array_table, define}
use Rattle.toml.specs.Parse.{ends_line, line, lines, skip_bom, parse_document, expression, header_key}
use Rattle.toml_parser.proofs.LexicalLemmas.{skip_ws_none}
use Rattle.toml.proofs.ReadValues.{item_join, item_join-none, item_join-push}
use Rattle.toml.proofs.Blanks.{skip_start}
use Rattle.afdx_toml_split.specs.Joined.{link, header, joined, are_plain, AreRead, items_of, all_keys}
use Rattle.afdx_toml_split.specs.Laws.{LinksAreReadApart}
use Rattle.afdx_toml_split.proofs.Followed.{followed, option_map_some}
use Rattle.afdx_toml_split.proofs.Lines.{lines-join, lines-room}
use Rattle.afdx_toml_split.proofs.Tables.{lines-in_element, define-first, define-next, get_node-close, get_member-whole, get_member-link, all_keys-whole}

skip_bom-followed : (text more : List ℕ) → skip_bom (followed text more) ≡ followed (skip_bom text) more
unfolding skip_bom
skip_bom-followed [] more = refl
skip_bom-followed (a ∷ []) more =
    elim (cases_Bool (a == 0xEF)) [
      | inl one ↦ rw one refl
      | inr none ↦ rw none refl
    ]
skip_bom-followed (a ∷ b ∷ []) more =
    elim (cases_Bool (a == 0xEF && b == 0xBB)) [
      | inl two ↦ rw two refl
      | inr none ↦ rw none refl
    ]
skip_bom-followed (a ∷ b ∷ c ∷ cs) more =
    elim (cases_Bool ((a == 0xEF && b == 0xBB) && c == 0xBF)) [
      | inl mark ↦ rw mark refl
      | inr none ↦ rw none refl
    ]

no_mark : (text : List ℕ) → ends_line text ≡ true → skip_bom text ≡ text
unfolding skip_bom
no_mark [] h = refl
no_mark (c ∷ cs) h = let none : (c == 0xEF) ≡ false = grind (arith, nat_tests) in rw none refl

-- the header has its line to itself
header_expression : (text : List ℕ) → expression (header ++ text) ≡ Some ((([], link), array_table), text)
unfolding expression header_key key_after simple_key skip_ws
header_expression text = refl

no_blank : (text : List ℕ) → ends_line text ≡ true → is_ws (first text) ≡ false
no_blank [] h = refl
no_blank (c ∷ cs) h = grind (arith, nat_tests)

header_line : (text : List ℕ) → ends_line text ≡ true → line (header ++ text) ≡ Some ((([], link), array_table), text)
unfolding line
header_line text h = rw (header_expression text, skip_ws_none text (no_blank text h), h) refl

ends_line-joined : (text : List ℕ) (texts : List (List ℕ)) → ends_line text ≡ true → ends_line (joined text texts) ≡ true
ends_line-joined [] [] h = h
ends_line-joined [] (next ∷ rest) h = grind (arith, nat_tests)
ends_line-joined (c ∷ cs) [] h = h
ends_line-joined (c ∷ cs) (next ∷ rest) h = grind (arith, nat_tests)

header_lines : (m : ℕ) (doc next end : Document) (text : List ℕ) → ends_line text ≡ true → define doc (([], link), array_table) ≡ Some next → lines m next text ≡ Some end
    → lines (suc m) doc (header ++ text) ≡ Some end
unfolding lines
header_lines m doc next end text h defined read =
    let start : skip_blank (header ++ text) ≡ header ++ text = skip_start (header ++ text) refl in
    let some : (length (header ++ text) == 0) ≡ false = grind (arith, nat_tests) in
    rw (start, some, header_line text h, defined) read

-- what an element's text says by itself, as its lines say it in the array
element : (text : List ℕ) (ms : Members) (root : Nodes) (done : Items) → ends_line text ≡ true → parse_document text ≡ Some ms → are_plain ms ≡ true
    → (last : Nodes) × (close last ≡ ms) × (lines (suc (length text)) (insert link (open_array done no_nodes) root, link ∷ []) text ≡ Some (insert link (open_array done last) root, link ∷ []))
unfolding parse_document
element text ms root done h read plain =
    option_map_some _ (lines (suc (length text)) (no_nodes, []) (skip_bom text)) ms read (λ end found same.
    let by_itself : lines (suc (length text)) (no_nodes, []) text ≡ Some end = rw (no_mark text h) at found in
    (end.0, same, lines-in_element (suc (length text)) text no_nodes end root done by_itself (ap are_plain same ∙ plain)))

-- the elements, as they lie in the root's array, of which some were read before
abbrev Chained : Nodes → Items → List ℕ → List (List ℕ) → List Members → Type 0
Chained root done text texts tables =
    (m : ℕ) × (all : Items) × (last : Nodes) × (m ≤ suc (length (joined text texts)))
    × (lines m (insert link (open_array done no_nodes) root, link ∷ []) (joined text texts) ≡ Some (insert link (open_array all last) root, link ∷ []))
    × (push_item all (table (close last)) ≡ item_join done (items_of tables))

chain : (root : Nodes) (done : Items) (text : List ℕ) (texts : List (List ℕ)) (ms : Members) (tables : List Members) → AreRead (text ∷ texts) (ms ∷ tables)
    → Chained root done text texts (ms ∷ tables)
chain root done text [] ms [] (h, read, plain, more) =
    let (last, same, found) = element text ms root done h read plain in
    (suc (length text), done, last, omega arith, found, rw same (sym (item_join-none _) ∙ item_join-push done (table ms) no_items))
chain root done text [] ms (other ∷ tables) (h, read, plain, more) = absurd more
chain root done text (next ∷ rest) ms [] (h, read, plain, more) = absurd more
chain root done text (next ∷ rest) ms (other ∷ tables) (h, read, plain, more) =
    let (last, same, found) = element text ms root done h read plain in
    let (m, all, end, room, tail, items) = chain root (push_item done (table (close last))) next rest other tables more in
    let behind = header_lines m _ _ _ (joined next rest) (ends_line-joined next rest more.0) (define-next root (link ∷ []) done last) tail in
    let size = length-append text (10 ∷ (header ++ joined next rest)) in
    let header_size = length-append header (joined next rest) in (
      suc (length text) + suc m,
      all,
      end,
      omega (arith, size, header_size),
      lines-join (suc (length text)) (suc m) _ _ _ text (header ++ joined next rest) found behind,
      items ∙ rw same (item_join-push done (table ms) (items_of (other ∷ tables))),
    )

pub read_apart : LinksAreReadApart
unfolding parse_document
read_apart head top text texts ms tables read none elements =
    option_map_some _ (lines (suc (length head)) (no_nodes, []) (skip_bom head)) top read (λ doc found same.
    let no_array : get_node link doc.0 ≡ None = get_node-close link doc.0 (ap (get_member link) same ∙ none) in
    let (m, all, last, room, tail, items) = chain doc.0 no_items text texts ms tables elements in
    let more = header ++ joined text texts in
    let behind = header_lines m doc _ _ (joined text texts) (ends_line-joined text texts elements.0) (define-first doc.0 doc.1 no_array) tail in
    let size = length-append head (10 ∷ more) in
    let header_size = length-append header (joined text texts) in
    let both = lines-join (suc (length head)) (suc m) (no_nodes, []) doc _ (skip_bom head) more found behind in
    let end = insert link (open_array all last) doc.0 in
    let all_lines : lines (suc (length (followed head more))) (no_nodes, []) (skip_bom (followed head more)) ≡ Some (end, link ∷ []) =
    rw (skip_bom-followed head more) (lines-room (suc (length head) + suc m) _ (no_nodes, []) _ _ (omega (arith, size, header_size)) both) in (
      close end,
      rw all_lines refl,
      record {
        values = λ k. elim (cases_Bool (same_key k link)) [
          | inl is ↦ rw is (get_member-link k doc.0 all last is ∙ ap (λ (ds : Items). Some (array ds)) items)
          | inr other ↦ rw other (get_member-whole k doc.0 all last no_array other ∙ ap (get_member k) same)
        ];
        keys = λ p. all_keys-whole p doc.0 all last no_array ∙ ap (λ (t : Members). p link && all_keys p t) same;
      },
    ))
