-- What the lines of an element define, in a table of its own and in the last element of the array.
use Rattle.std.proofs.Common.{◌≡◌, ℕ, zero, suc, Bool, true, false, ◌&&◌, ◌||◌, ◌==◌, List, [], ◌∷◌, ◌++◌, length}
use Rattle.std.proofs.Common.{Option, Some, None, option_map, option_and_then, if◌then◌else◌, Ordering, Less, Equal, Greater, nat_cmp, is_eq, refl, sym, ap, ◌∙◌, inl, inr}
use Rattle.std.proofs.lemmas.Bool.{cases_Bool, true≢false, or_right, and_right}
use Rattle.std.proofs.lemmas.Cmp.{nat_list_cmp_total}
use Rattle.std.proofs.lemmas.Option.{none-some, same_Some, option_and_then_some}
use Rattle.std.specs.Cmp.{Equal-is}
use Rattle.std.specs.Cmp.Lexicographic.{slice_cmp}
use Rattle.std.specs.Ordering.{match_ordering}
use Rattle.toml_parser.specs.Lexical.{skip_blank}
use Rattle.toml_parser.specs.Strings.{Key}
use Rattle.toml.specs.Data.{Data, table, array, Items, no_items, item, push_item, Members, same_key, get_member}
use Rattle.toml.specs.Tables.{Node, Nodes, no_nodes, node, value, open_table, open_array, implicit, dotted, header, get_node, insert, replace, close, close_node}
use Rattle.toml.specs.Tables.{Edit, header_node, dot_node, by_header, by_dot, along_header, along_dots}
use Rattle.toml.specs.Tables.{Definition, key_value, std_table, array_table, Expression, new_node, redefine, at_found, at_key, put, Document, define}
use Rattle.toml.specs.Parse.{line, lines}
use Rattle.toml.proofs.NodeLaws.{get_node-insert, replace-insert}
use Rattle.afdx_toml_split.specs.Joined.{link, is_plain, ends_in_table, are_plain, all_keys}

-- a node that is no value
abbrev is_open : Node → Bool
is_open (value d) = false
is_open (open_table origin ns) = true
is_open (open_array done last) = true

abbrev any_open : Nodes → Bool
any_open no_nodes = false
any_open (node k x ns) = is_open x || any_open ns

insert-open : (k : List ℕ) (x : Node) (ns : Nodes) → is_open x ≡ true → any_open (insert k x ns) ≡ true
insert-open k x no_nodes h = rw h
insert-open k x (node l y ns) h = by_order (slice_cmp nat_cmp k l) (insert-open k x ns h)
  where
    by_order : (o : Ordering) → any_open (insert k x ns) ≡ true → any_open (match_ordering o (node k x (node l y ns)) (node l x ns) (node l y (insert k x ns))) ≡ true
    by_order Less rest = rw h
    by_order Equal rest = rw h
    by_order Greater rest = or_right (is_open y) _ rest

-- a new key leaves the others
insert-keeps : (k : List ℕ) (x : Node) (ns : Nodes) → get_node k ns ≡ None → any_open ns ≡ true → any_open (insert k x ns) ≡ true
insert-keeps k x no_nodes none some = absurd (true≢false (sym some))
insert-keeps k x (node l y ns) none some = by_order (slice_cmp nat_cmp k l) (is_open y) refl none some (insert-keeps k x ns)
  where
    by_order : (o : Ordering) (b : Bool) → is_open y ≡ b → (if is_eq o then Some y else get_node k ns) ≡ None → (b || any_open ns) ≡ true
        → (get_node k ns ≡ None → any_open ns ≡ true → any_open (insert k x ns) ≡ true)
        → any_open (match_ordering o (node k x (node l y ns)) (node l x ns) (node l y (insert k x ns))) ≡ true
    by_order Less b same new some rest = or_right (is_open x) _ (rw same some)
    by_order Equal b same new some rest = absurd (none-some y (sym new))
    by_order Greater true same new some rest = rw same
    by_order Greater false same new some rest = or_right (is_open y) _ (rest new some)

replace-open : (k : List ℕ) (x y : Node) (ns : Nodes) → get_node k ns ≡ Some x → is_open y ≡ true → any_open (replace k y ns) ≡ true
replace-open k x y no_nodes found h = absurd (none-some x found)
replace-open k x y (node l z ns) found h =
    elim (cases_Bool (same_key k l)) [
      | inl same ↦ rw (same, h)
      | inr other ↦ rw other (or_right (is_open z) _ (replace-open k x y ns (rw other at found) h))
    ]

-- an edit that leaves a node that is no value, whatever the nodes before
replaced : (k : List ℕ) (ns : Nodes) (x : Node) (made : Option Node) (after : Nodes) → get_node k ns ≡ Some x → ((y : Node) → made ≡ Some y → is_open y ≡ true)
    → option_map (λ y. replace k y ns) made ≡ Some after → any_open after ≡ true
replaced k ns x None after found h step = absurd (none-some after step)
replaced k ns x (Some y) after found h step = rw (← same_Some (replace k y ns) after step) (replace-open k x y ns found (h y refl))

inserted : (k : List ℕ) (ns : Nodes) (wrap : Nodes → Node) (made : Option Nodes) (after : Nodes) → ((new : Nodes) → is_open (wrap new) ≡ true)
    → option_map (λ new. insert k (wrap new) ns) made ≡ Some after → any_open after ≡ true
inserted k ns wrap None after h step = absurd (none-some after step)
inserted k ns wrap (Some new) after h step = rw (← same_Some (insert k (wrap new) ns) after step) (insert-open k (wrap new) ns (h new))

wrapped : (wrap : Nodes → Node) (made : Option Nodes) (y : Node) → ((new : Nodes) → is_open (wrap new) ≡ true) → option_map wrap made ≡ Some y → is_open y ≡ true
wrapped wrap None y h step = absurd (none-some y step)
wrapped wrap (Some new) y h step = rw (← same_Some (wrap new) y step) (h new)

header_node-open : (edit : Edit) (x y : Node) → header_node edit x ≡ Some y → is_open y ≡ true
header_node-open edit (value d) y step = absurd (none-some y step)
header_node-open edit (open_table origin inner) y step = wrapped (open_table origin) (edit inner) y (λ new. refl) step
header_node-open edit (open_array done last) y step = wrapped (open_array done) (edit last) y (λ new. refl) step

dot_node-open : (edit : Edit) (x y : Node) → dot_node edit x ≡ Some y → is_open y ≡ true
dot_node-open edit (value d) y step = absurd (none-some y step)
dot_node-open edit (open_table header inner) y step = absurd (none-some y step)
dot_node-open edit (open_table implicit inner) y step = wrapped (open_table dotted) (edit inner) y (λ new. refl) step
dot_node-open edit (open_table dotted inner) y step = wrapped (open_table dotted) (edit inner) y (λ new. refl) step
dot_node-open edit (open_array done last) y step = absurd (none-some y step)

redefine-open : (what : Definition) (x y : Node) → redefine what x ≡ Some y → is_open y ≡ true
redefine-open std_table (open_table implicit inner) y step = rw (← same_Some (open_table header inner) y step)
redefine-open array_table (open_array done last) y step = rw (← same_Some (open_array (push_item done (table (close last))) no_nodes) y step)
redefine-open _ _ y step = absurd (none-some y step)

by_header-open : (k : List ℕ) (edit : Edit) (ns : Nodes) (o : Option Node) (after : Nodes) → get_node k ns ≡ o → by_header k edit ns o ≡ Some after → any_open after ≡ true
by_header-open k edit ns None after found step = inserted k ns (open_table implicit) (edit no_nodes) after (λ new. refl) step
by_header-open k edit ns (Some x) after found step = replaced k ns x (header_node edit x) after found (header_node-open edit x) step

by_dot-open : (k : List ℕ) (edit : Edit) (ns : Nodes) (o : Option Node) (after : Nodes) → get_node k ns ≡ o → by_dot k edit ns o ≡ Some after → any_open after ≡ true
by_dot-open k edit ns None after found step = inserted k ns (open_table dotted) (edit no_nodes) after (λ new. refl) step
by_dot-open k edit ns (Some x) after found step = replaced k ns x (dot_node edit x) after found (dot_node-open edit x) step

-- a definition at a key, of a node that is no value or beside one
at_found-open : (k : List ℕ) (what : Definition) (ns : Nodes) (o : Option Node) (after : Nodes) → get_node k ns ≡ o → (is_open (new_node what) || any_open ns) ≡ true
    → at_found k what ns o ≡ Some after → any_open after ≡ true
at_found-open k (key_value d) ns None after found some step = rw (← same_Some (insert k (value d) ns) after step) (insert-keeps k (value d) ns found some)
at_found-open k std_table ns None after found some step = rw (← same_Some (insert k (new_node std_table) ns) after step) (insert-open k (new_node std_table) ns refl)
at_found-open k array_table ns None after found some step = rw (← same_Some (insert k (new_node array_table) ns) after step) (insert-open k (new_node array_table) ns refl)
at_found-open k what ns (Some x) after found some step = replaced k ns x (redefine what x) after found (redefine-open what x) step

-- a pair leaves the nodes that are no values
put-open : (path : List (List ℕ)) (k : List ℕ) (d : Data) (ns after : Nodes) → any_open ns ≡ true → put (path, k) d ns ≡ Some after → any_open after ≡ true
unfolding along_dots at_key
put-open [] k d ns after some step = at_found-open k (key_value d) ns (get_node k ns) after refl some step
put-open (l ∷ path) k d ns after some step = by_dot-open l (along_dots path (at_key k (key_value d))) ns (get_node l ns) after refl step

pair-open : (section : List (List ℕ)) (key : Key) (d : Data) (ns after : Nodes) → any_open ns ≡ true → along_header section (put key d) ns ≡ Some after → any_open after ≡ true
unfolding along_header
pair-open [] (path, k) d ns after some step = put-open path k d ns after some step
pair-open (l ∷ section) key d ns after some step = by_header-open l (along_header section (put key d)) ns (get_node l ns) after refl step

-- a header leaves a node that is no value
header-open : (path : List (List ℕ)) (k : List ℕ) (what : Definition) (ns after : Nodes) → is_open (new_node what) ≡ true → along_header path (at_key k what) ns ≡ Some after → any_open after ≡ true
unfolding along_header at_key
header-open [] k what ns after some step = at_found-open k what ns (get_node k ns) after refl (rw some) step
header-open (l ∷ path) k what ns after some step = by_header-open l (along_header path (at_key k what)) ns (get_node l ns) after refl step

-- the nodes of a document that an edit made
edited : (made : Option Nodes) (section : List (List ℕ)) (next : Document) → ((after : Nodes) → made ≡ Some after → any_open after ≡ true)
    → option_map (λ root. (root, section)) made ≡ Some next → any_open next.0 ≡ true
edited None section next h step = absurd (none-some next step)
edited (Some after) section next h step = rw (← same_Some (after, section) next step) (h after refl)

define-open : (doc : Document) (key : Key) (what : Definition) (next : Document) → (is_open (new_node what) || any_open doc.0) ≡ true → define doc (key, what) ≡ Some next → any_open next.0 ≡ true
unfolding define
define-open doc key (key_value d) next some step = edited (along_header doc.1 (put key d) doc.0) doc.1 next (λ after. pair-open doc.1 key d doc.0 after some) step
define-open doc key std_table next some step =
    edited (along_header key.0 (at_key key.1 std_table) doc.0) (key.0 ++ key.1 ∷ []) next (λ after. header-open key.0 key.1 std_table doc.0 after refl) step
define-open doc key array_table next some step =
    edited (along_header key.0 (at_key key.1 array_table) doc.0) (key.0 ++ key.1 ∷ []) next (λ after. header-open key.0 key.1 array_table doc.0 after refl) step

-- what the lines found there is there at their end
lines-open : (n : ℕ) (doc : Document) (text : List ℕ) (end : Document) → any_open doc.0 ≡ true → lines n doc text ≡ Some end → any_open end.0 ≡ true
unfolding lines
lines-open zero doc text end some read = absurd (none-some end read)
lines-open (suc n) doc text end some read =
    elim (cases_Bool (length (skip_blank text) == 0)) [
      | inl over ↦ rw (← same_Some doc end (rw over at read)) some
      | inr more ↦ option_and_then_some _ (line (skip_blank text)) end (rw more at read) (λ e found after. option_and_then_some _ (define doc e.0) end after (λ next defined rest.
          lines-open n next e.1 end (define-open doc e.0.0 e.0.1 next (or_right _ _ some) defined) rest))
    ]

ends_in_table-push_item : (ds : Items) (ms : Members) → ends_in_table (push_item ds (table ms)) ≡ true
ends_in_table-push_item no_items ms = refl
ends_in_table-push_item (item d no_items) ms = refl
ends_in_table-push_item (item d (item e ds)) ms = ends_in_table-push_item (item e ds) ms

-- a node that is no value becomes no plain one
open_is_not_plain : (ns : Nodes) → any_open ns ≡ true → are_plain (close ns) ≡ false
open_is_not_plain no_nodes some = absurd (true≢false (sym some))
open_is_not_plain (node k (value d) ns) some = and_right (is_plain d) _ (open_is_not_plain ns some)
open_is_not_plain (node k (open_table origin inner) ns) some = refl
open_is_not_plain (node k (open_array done last) ns) some = rw (ends_in_table-push_item done (close last))

-- a header among the lines leaves what is not plain
header_is_not_plain : {A : Type 0} (n : ℕ) (ns : Nodes) (key : Key) (what : Definition) (next : Document) (text : List ℕ) (end : Document) → is_open (new_node what) ≡ true
    → define (ns, []) (key, what) ≡ Some next → lines n next text ≡ Some end → are_plain (close end.0) ≡ true → A
header_is_not_plain n ns key what next text end h defined read plain =
    absurd (true≢false (sym plain ∙ open_is_not_plain end.0 (lines-open n next text end (define-open (ns, []) key what next (rw h) defined) read)))

-- a pair in a table of its own, and in the last element
pair-apart : (key : Key) (d : Data) (ns : Nodes) (next : Document) → define (ns, []) (key, key_value d) ≡ Some next → (put key d ns ≡ Some next.0) × (next ≡ (next.0, []))
unfolding define along_header
pair-apart key d ns next defined = go (put key d ns) defined
  where
    go : (made : Option Nodes) → option_map (λ root. (root, [])) made ≡ Some next → (made ≡ Some next.0) × (next ≡ (next.0, []))
    go None step = absurd (none-some next step)
    go (Some after) step = let same = same_Some (after, []) next step in rw (← same) (refl, refl)

pair-in_element : (key : Key) (d : Data) (ns after : Nodes) (root : Nodes) (done : Items) → put key d ns ≡ Some after
    → define (insert link (open_array done ns) root, link ∷ []) (key, key_value d) ≡ Some (insert link (open_array done after) root, link ∷ [])
unfolding define along_header
pair-in_element key d ns after root done made =
    rw (get_node-insert link (open_array done ns) root, made, replace-insert link (open_array done ns) (open_array done after) root)

-- the lines after one expression
expression-in_element : (n : ℕ) (e : Expression) (text : List ℕ) (ns : Nodes) (next end : Document) (root : Nodes) (done : Items) → define (ns, []) e ≡ Some next → lines n next text ≡ Some end
    → are_plain (close end.0) ≡ true
    → ((after : Nodes) → lines n (after, []) text ≡ Some end → lines n (insert link (open_array done after) root, link ∷ []) text ≡ Some (insert link (open_array done end.0) root, link ∷ []))
    → option_and_then (λ doc. lines n doc text) (define (insert link (open_array done ns) root, link ∷ []) e) ≡ Some (insert link (open_array done end.0) root, link ∷ [])
expression-in_element n (key, key_value d) text ns next end root done defined read plain rest =
    let (made, is) = pair-apart key d ns next defined in
    rw (pair-in_element key d ns next.0 root done made) (rest next.0 (rw is at read))
expression-in_element n (key, std_table) text ns next end root done defined read plain rest = header_is_not_plain n ns key std_table next text end refl defined read plain
expression-in_element n (key, array_table) text ns next end root done defined read plain rest = header_is_not_plain n ns key array_table next text end refl defined read plain

-- lines that define plain values alone define them in the last element of the array as in a table of its own
pub lines-in_element : (n : ℕ) (text : List ℕ) (ns : Nodes) (end : Document) (root : Nodes) (done : Items) → lines n (ns, []) text ≡ Some end → are_plain (close end.0) ≡ true
    → lines n (insert link (open_array done ns) root, link ∷ []) text ≡ Some (insert link (open_array done end.0) root, link ∷ [])
unfolding lines
lines-in_element zero text ns end root done read plain = absurd (none-some end read)
lines-in_element (suc n) text ns end root done read plain =
    elim (cases_Bool (length (skip_blank text) == 0)) [
      | inl over ↦ rw over (ap (λ (doc : Document). Some (insert link (open_array done doc.0) root, link ∷ [])) (same_Some (ns, []) end (rw over at read)))
      | inr more ↦ option_and_then_some _ (line (skip_blank text)) end (rw more at read) (λ e found after. option_and_then_some _ (define (ns, []) e.0) end after (λ next defined rest.
          rw (more, found) (expression-in_element n e.0 e.1 ns next end root done defined rest plain (λ new left. lines-in_element n e.1 new end root done left plain))))
    ]

-- the header of the first element
pub define-first : (root : Nodes) (section : List (List ℕ)) → get_node link root ≡ None
    → define (root, section) (([], link), array_table) ≡ Some (insert link (open_array no_items no_nodes) root, link ∷ [])
unfolding define along_header at_key
define-first root section none = rw none

-- the header of a further element
pub define-next : (root : Nodes) (section : List (List ℕ)) (done : Items) (last : Nodes)
    → define (insert link (open_array done last) root, section) (([], link), array_table) ≡ Some (insert link (open_array (push_item done (table (close last))) no_nodes) root, link ∷ [])
unfolding define along_header at_key
define-next root section done last =
    rw (get_node-insert link (open_array done last) root, replace-insert link (open_array done last) (open_array (push_item done (table (close last))) no_nodes) root)

-- a key that the table lacks is new
pub get_node-close : (k : List ℕ) (ns : Nodes) → get_member k (close ns) ≡ None → get_node k ns ≡ None
get_node-close k no_nodes none = refl
get_node-close k (node l x ns) none = by_order (slice_cmp nat_cmp k l) none (get_node-close k ns)
  where
    by_order : (o : Ordering) → match_ordering o (get_member k (close ns)) (Some (close_node x)) (get_member k (close ns)) ≡ None → (get_member k (close ns) ≡ None → get_node k ns ≡ None)
        → (if is_eq o then Some x else get_node k ns) ≡ None
    by_order Less new rest = rest new
    by_order Equal new rest = absurd (none-some (close_node x) (sym new))
    by_order Greater new rest = rest new

-- another key at the front
passed_over : (o : Ordering) (a b : Option Data) → is_eq o ≡ false → match_ordering o a b a ≡ a
passed_over Less a b other = refl
passed_over Equal a b other = absurd (true≢false other)
passed_over Greater a b other = refl

get_member-insert_other : (k l : List ℕ) (x : Node) (ns : Nodes) → get_node l ns ≡ None → same_key k l ≡ false → get_member k (close (insert l x ns)) ≡ get_member k (close ns)
get_member-insert_other k l x no_nodes none other = passed_over (slice_cmp nat_cmp k l) None _ other
get_member-insert_other k l x (node m y ns) none other = by_order (slice_cmp nat_cmp l m) none (λ new. get_member-insert_other k l x ns new other)
  where
    by_order : (o : Ordering) → (if is_eq o then Some y else get_node l ns) ≡ None → (get_node l ns ≡ None → get_member k (close (insert l x ns)) ≡ get_member k (close ns))
        → get_member k (close (match_ordering o (node l x (node m y ns)) (node m x ns) (node m y (insert l x ns)))) ≡ get_member k (close (node m y ns))
    by_order Less new rest = passed_over (slice_cmp nat_cmp k l) (get_member k (close (node m y ns))) _ other
    by_order Equal new rest = absurd (none-some y (sym new))
    by_order Greater new rest = rw (rest new)

get_member-insert_same : (k l : List ℕ) (x : Node) (ns : Nodes) → slice_cmp nat_cmp k l ≡ Equal → get_member k (close (insert l x ns)) ≡ Some (close_node x)
get_member-insert_same k l x no_nodes same = rw same
get_member-insert_same k l x (node m y ns) same = by_order (slice_cmp nat_cmp l m) (nat_list_cmp_total.congr k l m same) (get_member-insert_same k l x ns same)
  where
    by_order : (o : Ordering) → slice_cmp nat_cmp k m ≡ o → get_member k (close (insert l x ns)) ≡ Some (close_node x)
        → get_member k (close (match_ordering o (node l x (node m y ns)) (node m x ns) (node m y (insert l x ns)))) ≡ Some (close_node x)
    by_order Less order rest = rw same
    by_order Equal order rest = rw order
    by_order Greater order rest = rw order rest

and_swap : (a b c : Bool) → (a && (b && c)) ≡ (b && (a && c))
and_swap true b c = refl
and_swap false true c = refl
and_swap false false c = refl

all_keys-insert : (p : List ℕ → Bool) (k : List ℕ) (x : Node) (ns : Nodes) → get_node k ns ≡ None → all_keys p (close (insert k x ns)) ≡ (p k && all_keys p (close ns))
all_keys-insert p k x no_nodes none = refl
all_keys-insert p k x (node l y ns) none = by_order (slice_cmp nat_cmp k l) none (all_keys-insert p k x ns)
  where
    by_order : (o : Ordering) → (if is_eq o then Some y else get_node k ns) ≡ None → (get_node k ns ≡ None → all_keys p (close (insert k x ns)) ≡ (p k && all_keys p (close ns)))
        → all_keys p (close (match_ordering o (node k x (node l y ns)) (node l x ns) (node l y (insert k x ns)))) ≡ (p k && (p l && all_keys p (close ns)))
    by_order Less new rest = refl
    by_order Equal new rest = absurd (none-some y (sym new))
    by_order Greater new rest = rw (rest new) (and_swap (p l) (p k) _)

-- what is found in the whole at another key
pub get_member-whole : (k : List ℕ) (root : Nodes) (done : Items) (last : Nodes) → get_node link root ≡ None → same_key k link ≡ false
    → get_member k (close (insert link (open_array done last) root)) ≡ get_member k (close root)
get_member-whole k root done last none other = get_member-insert_other k link (open_array done last) root none other

-- the array, at its key
pub get_member-link : (k : List ℕ) (root : Nodes) (done : Items) (last : Nodes) → same_key k link ≡ true
    → get_member k (close (insert link (open_array done last) root)) ≡ Some (array (push_item done (table (close last))))
get_member-link k root done last same = get_member-insert_same k link (open_array done last) root ((Equal-is (slice_cmp nat_cmp k link)).0 same)

-- the keys of the whole
pub all_keys-whole : (p : List ℕ → Bool) (root : Nodes) (done : Items) (last : Nodes) → get_node link root ≡ None
    → all_keys p (close (insert link (open_array done last) root)) ≡ (p link && all_keys p (close root))
all_keys-whole p root done last none = all_keys-insert p link (open_array done last) root none
