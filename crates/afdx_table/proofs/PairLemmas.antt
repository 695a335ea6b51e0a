-- Lines that are each a key and its value: what the grammar reads of them, and what a table of them says.
use Rattle.std.proofs.Common.{◌≡◌, ◌≢◌, ℕ, suc, ◌+◌, ◌-◌, ◌<◌, Bool, true, false, ◌&&◌, ◌==◌, List, [], ◌∷◌, ◌++◌, length, length-append, append_assoc, drop, codes}
use Rattle.std.proofs.Common.{set, take, get_or, take-append-drop, drop_of_length-le, le_refl, encode_utf8, get_or-set_same, get_or-set_other}
use Rattle.std.proofs.Common.{Some, None, option_map, Bor, Ordering, Less, Equal, Greater, nat_cmp, is_eq, refl, sym, ap, ◌∙◌, inl, inr, arith}
use Rattle.std.proofs.lemmas.Bool.{cases_Bool, and_right, and_parts, or_parts, eqb-true}
use Rattle.std.proofs.lemmas.Bool.Decides.{Decides-eqb, nat_tests}
use Rattle.std.proofs.lemmas.Option.{cond_some, option_and_then_some}
use Rattle.std.proofs.lemmas.Slice.Eq.{bytes_eq-Decides}
use Rattle.std.proofs.lemmas.Map.Text.{is_eq-slice_cmp}
use Rattle.std.proofs.Math.Numerals.{suc-eq-add-one}
use Rattle.std.proofs.Math.Seq.{drop-cons}
use Rattle.std.specs.List.{list_any}
use Rattle.std.specs.Str.{bytes_eq}
use Rattle.std.specs.Str.Pattern.{FindsChar, FindsCharPrefix, FindsCharSuffix, FindsTextPrefix, SplitsAroundMatch, StripsPrefix, StripsSuffix}
use Rattle.std.specs.Cmp.Lexicographic.{slice_cmp}
use Rattle.std.specs.Ordering.{match_ordering}
use Rattle.toml_parser.specs.Lexical.{first, skip_ws, skip_blank}
use Rattle.toml_parser.specs.Strings.{key_after, simple_key}
use Rattle.toml_parser.proofs.LexicalLemmas.{skip_ws_none, skip_ws_space, skip_from-nil}
use Rattle.toml.specs.Data.{Data, no_members, member, same_key, get_member}
use Rattle.toml.specs.View.{view}
use Rattle.toml.specs.Tables.{Node, Nodes, no_nodes, node, value, get_node, insert, close, close_node, key_value, define, along_header, along_dots}
use Rattle.toml.specs.Parse.{skip_bom, key_equals, val, expression, line, lines, parse_value, parse_document}
use Rattle.toml.specs.declared.value.Value.{Value}
use Rattle.toml.proofs.Blanks.{starts_value, skip_start}
use Rattle.toml.proofs.Turns.{keyval_ok, document_some, lines_end, lines_more, at_key_new}
use Rattle.afdx_toml_split.specs.Joined.{is_plain, are_plain}
use Rattle.afdx_toml_split.proofs.Values.{val-visible}
use Rattle.afdx_toml_split.proofs.Lines.{lines-join}
use Rattle.afdx_table.specs.declared.fault.Key.{Key}
use Rattle.afdx_table.specs.declared.fault.Key.TheVariants as key
use Rattle.afdx_table.specs.Names.{key_text}
use Rattle.afdx_table.specs.Fields.{are_known, is_one_of}
use Rattle.afdx_table.specs.Inner.Slots.{key_place, value_in, AreValues}
use Rattle.afdx_table.specs.Inner.Pairs.{nodes_after, nodes_in, ReadsLines}
use Rattle.afdx_table.proofs.SlotLemmas.{Slots, same_place, named, same_text, get_member-other, get_member-here, turned_not}

-- the next of some pairs
pub next_pair : (ps : List (Key × Value)) (i : ℕ) (p : Key × Value) → i < length ps → p ≡ get_or ps i p → drop i ps ≡ p ∷ drop (i + 1) ps
next_pair ps i p lt is = drop-cons ps i p lt ∙ ap (λ x. x ∷ drop (suc i) ps) (sym is) ∙ ap (λ n. p ∷ drop n ps) (suc-eq-add-one i)

-- the parts of a text round a character, and what it leaves at one end
split_char : (c : ℕ) (s front back : List ℕ) → SplitsAroundMatch (FindsChar c) s front back → s ≡ front ++ (encode_utf8 c ++ back)
split_char c s front back (i, j, (lacks, at), is_front, is_back, le, front_size, back_size) =
    sym (take-append-drop i s) ∙ ap (λ (t : List ℕ). take i s ++ t) at.split ∙ rw (is_front, is_back) refl

strip_front : (c : ℕ) (s back : List ℕ) → StripsPrefix (FindsCharPrefix c) s back → s ≡ encode_utf8 c ++ back
strip_front c s back (k, at, is, rest) = rw is at.split

strip_end : (c : ℕ) (s front : List ℕ) → StripsSuffix (FindsCharSuffix c) s front → s ≡ front ++ (encode_utf8 c ++ [])
strip_end c s front (k, (width, at, boundary), is, rest) =
    let none : drop (length s) s ≡ [] = drop_of_length-le s (le_refl (length s)) in
    sym (take-append-drop (length s - k) s) ∙ ap (λ (t : List ℕ). take (length s - k) s ++ t) (at.split ∙ ap (λ (t : List ℕ). encode_utf8 c ++ t) none) ∙ rw is refl

-- a line whose key and value are parted by ` = `
pub pair_text : (all before after name text : List ℕ) → SplitsAroundMatch (FindsChar 61) all before after → StripsSuffix (FindsCharSuffix 32) before name
    → StripsPrefix (FindsCharPrefix 32) after text → all ≡ name ++ 32 ∷ 61 ∷ 32 ∷ [] ++ text
unfolding lib.Utf8.encode
pair_text all before after name text split suffix prefix =
    let whole : all ≡ before ++ 61 ∷ after = split_char 61 all before after split in
    let front : before ≡ name ++ 32 ∷ [] = strip_end 32 before name suffix in
    let behind : after ≡ 32 ∷ text = strip_front 32 after text prefix in
    whole ∙ rw (front, behind) (append_assoc name (32 ∷ []) (61 ∷ 32 ∷ text) ∙ sym (append_assoc name (32 ∷ 61 ∷ 32 ∷ []) text))

-- the text behind another at its front
pub strip_text : (n s back : List ℕ) → StripsPrefix (FindsTextPrefix n) s back → s ≡ n ++ back
strip_text n s back (k, (size, split, at), is, rest) = rw is split

-- ---- one line by itself

-- a key's text begins neither a header nor a blank
abbrev KeyStarts : List ℕ → Type 0
KeyStarts text = ((first text == 91) ≡ false) × (starts_value (first text) ≡ true)

key_starts : (k : Key) (v : List ℕ) → KeyStarts (key_text k ++ codes " = " ++ v)
key_starts key.Version v = (refl, refl)
key_starts key.Constant v = (refl, refl)
key_starts key.Latency v = (refl, refl)
key_starts key.Port v = (refl, refl)
key_starts key.Link v = (refl, refl)
key_starts key.Id v = (refl, refl)
key_starts key.Mbit v = (refl, refl)
key_starts key.Buffer v = (refl, refl)
key_starts key.MaxDelay v = (refl, refl)
key_starts key.From v = (refl, refl)
key_starts key.To v = (refl, refl)
key_starts key.Bag v = (refl, refl)
key_starts key.Jitter v = (refl, refl)
key_starts key.MaxSize v = (refl, refl)
key_starts key.Priority v = (refl, refl)
key_starts key.Police v = (refl, refl)

key_long : (k : Key) (v : List ℕ) → 0 < length (key_text k ++ codes " = " ++ v)
key_long k v =
    let whole = length-append (key_text k ++ codes " = ") v in
    let front = length-append (key_text k) (codes " = ") in
    omega (arith, whole, front)

-- what is read of a key before its value
key_read : (k : Key) (v : List ℕ) → key_equals (key_text k ++ codes " = " ++ v) ≡ Some (([], key_text k), skip_ws (32 ∷ v))
unfolding key_equals key_after simple_key skip_ws
key_read key.Version v = refl
key_read key.Constant v = refl
key_read key.Latency v = refl
key_read key.Port v = refl
key_read key.Link v = refl
key_read key.Id v = refl
key_read key.Mbit v = refl
key_read key.Buffer v = refl
key_read key.MaxDelay v = refl
key_read key.From v = refl
key_read key.To v = refl
key_read key.Bag v = refl
key_read key.Jitter v = refl
key_read key.MaxSize v = refl
key_read key.Priority v = refl
key_read key.Police v = refl

none_left : (xs : List ℕ) → (length xs == 0) ≡ true → xs ≡ []
none_left [] h = refl
none_left (x ∷ xs) h = absurd (grind (arith, nat_tests))

no_mark : (v : List ℕ) → (first v == 239) ≡ false → skip_bom v ≡ v
unfolding skip_bom
no_mark v h = rw h refl

-- a value that is read by itself
whole_value : (v : List ℕ) (d : Data) → (first v == 239) ≡ false → parse_value v ≡ Some d → val 80 v ≡ Some (d, [])
unfolding parse_value
whole_value v d unmarked parsed =
    option_and_then_some _ (val 80 v) d (rw (no_mark v unmarked) at parsed) (λ x found over.
    let (none, same) = cond_some (length x.1 == 0) x.0 d over in
    found ∙ ap (λ (e : Data). Some (e, x.1)) same ∙ ap (λ (r : List ℕ). Some (d, r)) (none_left x.1 none))

pair_line : (text v name : List ℕ) (d : Data) → (first text == 91) ≡ false → key_equals text ≡ Some (([], name), v) → val 80 v ≡ Some (d, [])
    → line text ≡ Some ((([], name), key_value d), [])
unfolding line expression skip_ws
pair_line text v name d other key_is value_is = rw (other, keyval_ok (val 80) text v [] ([], name) d key_is value_is) refl

pair_defined : (name : List ℕ) (d : Data) (ns : Nodes) → get_node name ns ≡ None → define (ns, []) (([], name), key_value d) ≡ Some (insert name (value d) ns, [])
unfolding define along_header along_dots
pair_defined name d ns none = rw (at_key_new name (key_value d) ns none) refl

-- a line with a key that is new, and its value
line_alone : (k : Key) (v : List ℕ) (d : Data) (ns : Nodes) → (first v == 239) ≡ false → parse_value v ≡ Some d → get_node (key_text k) ns ≡ None
    → lines (suc (length (key_text k ++ codes " = " ++ v))) (ns, []) (key_text k ++ codes " = " ++ v) ≡ Some (insert (key_text k) (value d) ns, [])
line_alone k v d ns unmarked parsed new =
    let text : List ℕ = key_text k ++ codes " = " ++ v in
    let (other, start) = key_starts k v in
    let long = key_long k v in
    let some : (length (key_text k ++ codes " = " ++ v) == 0) ≡ false = grind (arith, nat_tests) in
    let read = whole_value v d unmarked parsed in
    let at_value : skip_ws (32 ∷ v) ≡ v = skip_ws_space v ∙ skip_ws_none v (val-visible 80 v d [] read) in
    let key_is : key_equals text ≡ Some (([], key_text k), v) = key_read k v ∙ ap (λ (t : List ℕ). Some (([], key_text k), t)) at_value in
    let same : skip_blank text ≡ text = skip_start text start in
    let line_is = pair_line text v (key_text k) d other key_is read in
    lines_more (suc (length text)) (ns, []) (insert (key_text k) (value d) ns, []) text (([], key_text k), key_value d) [] (omega arith)
    (rw same some) (rw same line_is) (pair_defined (key_text k) d ns new)
    ∙ lines_end (suc (length text) - 1) (insert (key_text k) (value d) ns, []) [] (omega (arith, long)) (ap length (skip_from-nil true false))

-- ---- the nodes of pairs

same_by : (l m : List ℕ) → slice_cmp nat_cmp l m ≡ Equal → l ≡ m
same_by l m is = (bytes_eq-Decides l m).0 (sym (is_eq-slice_cmp l m) ∙ ap is_eq is)

other_by : (l m : List ℕ) → is_eq (slice_cmp nat_cmp l m) ≡ false → bytes_eq m l ≡ false
other_by l m is = turned_not l m (sym (is_eq-slice_cmp l m) ∙ is)

get_node-other : (k l : List ℕ) (x : Node) (ns : Nodes) → same_key k l ≡ false → get_node k (insert l x ns) ≡ get_node k ns
get_node-other k l x no_nodes other = rw other refl
get_node-other k l x (node m y ns) other = by_order (slice_cmp nat_cmp l m) refl (get_node-other k l x ns other)
  where
    by_order : (o : Ordering) → slice_cmp nat_cmp l m ≡ o → get_node k (insert l x ns) ≡ get_node k ns
        → get_node k (match_ordering o (node l x (node m y ns)) (node m x ns) (node m y (insert l x ns))) ≡ get_node k (node m y ns)
    by_order Less is rest = rw other refl
    by_order Equal is rest =
        let differs : same_key k m ≡ false = ap (λ (t : List ℕ). same_key k t) (sym (same_by l m is)) ∙ other in
        rw differs refl
    by_order Greater is rest = rw rest refl

-- the texts of two keys
key_differs : (j k : Key) → (key_place j == key_place k) ≡ false → bytes_eq (key_text k) (key_text j) ≡ false
key_differs j k h = same_text (key_text k) k j (named k) ∙ h

lacks_after : (ps : List (Key × Value)) (ns : Nodes) (k : Key) → list_any (λ p. key_place p.0 == key_place k) ps ≡ false → get_node (key_text k) ns ≡ None
    → get_node (key_text k) (nodes_after ns ps) ≡ None
lacks_after [] ns k none new = new
lacks_after (p ∷ ps) ns k none new =
    let (here, later) = or_parts (key_place p.0 == key_place k) (list_any (λ q. key_place q.0 == key_place k) ps) none in
    let differs : same_key (key_text k) (key_text p.0) ≡ false = is_eq-slice_cmp (key_text k) (key_text p.0) ∙ key_differs p.0 k here in
    lacks_after ps (insert (key_text p.0) (value (view p.1)) ns) k later (get_node-other (key_text k) (key_text p.0) (value (view p.1)) ns differs ∙ new)

nodes-last : (ps : List (Key × Value)) (ns : Nodes) (p : Key × Value) → nodes_after ns (ps ++ p ∷ []) ≡ insert (key_text p.0) (value (view p.1)) (nodes_after ns ps)
nodes-last [] ns p = refl
nodes-last (q ∷ qs) ns p = nodes-last qs (insert (key_text q.0) (value (view q.1)) ns) p

plain_insert : (k : List ℕ) (d : Data) (ns : Nodes) → is_plain d ≡ true → are_plain (close ns) ≡ true → are_plain (close (insert k (value d) ns)) ≡ true
plain_insert k d no_nodes one all = rw one refl
plain_insert k d (node m y ns) one all = by_order (slice_cmp nat_cmp k m) (and_parts (is_plain (close_node y)) (are_plain (close ns)) all) (plain_insert k d ns one)
  where
    by_order : (o : Ordering) → (is_plain (close_node y) ≡ true) × (are_plain (close ns) ≡ true) → (are_plain (close ns) ≡ true → are_plain (close (insert k (value d) ns)) ≡ true)
        → are_plain (close (match_ordering o (node k (value d) (node m y ns)) (node m (value d) ns) (node m y (insert k (value d) ns)))) ≡ true
    by_order Less (first_is, rest_is) rest = rw (one, first_is, rest_is) refl
    by_order Equal (first_is, rest_is) rest = rw (one, rest_is) refl
    by_order Greater (first_is, rest_is) rest = rw (first_is, rest rest_is) refl

-- ---- a text of such lines

-- an empty line
pub reads_none : (before : List (Key × Value)) → ReadsLines before [] before
reads_none before = (lines_end 1 (nodes_in before, []) [] (omega arith) (ap length (skip_from-nil true false)), λ plain. plain)

-- a key and its value
pub reads_pair : (before : List (Key × Value)) (text v : List ℕ) (k : Key) (x : Value) → text ≡ key_text k ++ codes " = " ++ v → (first v == 239) ≡ false → parse_value v ≡ Some (view x)
    → list_any (λ p. key_place p.0 == key_place k) before ≡ false → is_plain (view x) ≡ true → ReadsLines before text (before ++ (k, x) ∷ [])
reads_pair before text v k x is unmarked parsed none one =
    let new = lacks_after before no_nodes k none refl in
    let same = nodes-last before no_nodes (k, x) in
    (rw (is, same) (line_alone k v (view x) (nodes_in before) unmarked parsed new), λ plain. rw same (plain_insert (key_text k) (view x) (nodes_in before) one plain))

-- a line after others
pub reads_join : (a b c : List (Key × Value)) (front text : List ℕ) → ReadsLines a front b → ReadsLines b text c → ReadsLines a (front ++ 10 ∷ text) c
reads_join a b c front text (one, one_plain) (two, two_plain) =
    let longer = length-append front (10 ∷ text) in
    let size : suc (length (front ++ 10 ∷ text)) ≡ suc (length front) + suc (length text) = omega (arith, longer) in
    (rw size (lines-join (suc (length front)) (suc (length text)) (nodes_in a, []) (nodes_in b, []) (nodes_in c, []) front text one two), λ plain. two_plain (one_plain plain))

-- all of a text that begins with a line end
pub reads_document : (text rest : List ℕ) (ps : List (Key × Value)) → text ≡ 10 ∷ rest → ReadsLines [] text ps
    → (parse_document text ≡ Some (close (nodes_in ps))) × (are_plain (close (nodes_in ps)) ≡ true)
reads_document text rest ps is (read, plain) =
    let marked : (first text == 239) ≡ false = rw is refl in
    (document_some text (nodes_in ps, []) (rw (no_mark text marked) read), plain refl)

-- ---- the values of pairs

-- the value that a key was given last
member_here : (k : Key) (x : Node) (ns : Nodes) → get_member (key_text k) (close (insert (key_text k) x ns)) ≡ Some (close_node x)
member_here k x no_nodes = get_member-here k (key_text k) (close_node x) no_members ((bytes_eq-Decides (key_text k) (key_text k)).1 refl)
member_here k x (node m y ns) = by_order (slice_cmp nat_cmp (key_text k) m) refl (member_here k x ns)
  where
    by_order : (o : Ordering) → slice_cmp nat_cmp (key_text k) m ≡ o → get_member (key_text k) (close (insert (key_text k) x ns)) ≡ Some (close_node x)
        → get_member (key_text k) (close (match_ordering o (node (key_text k) x (node m y ns)) (node m x ns) (node m y (insert (key_text k) x ns)))) ≡ Some (close_node x)
    by_order Less is rest = get_member-here k (key_text k) (close_node x) (member m (close_node y) (close ns)) ((bytes_eq-Decides (key_text k) (key_text k)).1 refl)
    by_order Equal is rest = get_member-here k m (close_node x) (close ns) ((bytes_eq-Decides m (key_text k)).1 (sym (same_by (key_text k) m is)))
    by_order Greater is rest = get_member-other k m (close_node y) (close (insert (key_text k) x ns)) (other_by (key_text k) m (ap is_eq is)) ∙ rest

-- the value of another key
member_other : (k : Key) (l : List ℕ) (x : Node) (ns : Nodes) → bytes_eq l (key_text k) ≡ false → get_member (key_text k) (close (insert l x ns)) ≡ get_member (key_text k) (close ns)
member_other k l x no_nodes other = get_member-other k l (close_node x) no_members other
member_other k l x (node m y ns) other = by_order (slice_cmp nat_cmp l m) refl (member_other k l x ns other)
  where
    by_order : (o : Ordering) → slice_cmp nat_cmp l m ≡ o → get_member (key_text k) (close (insert l x ns)) ≡ get_member (key_text k) (close ns)
        → get_member (key_text k) (close (match_ordering o (node l x (node m y ns)) (node m x ns) (node m y (insert l x ns)))) ≡ get_member (key_text k) (close (node m y ns))
    by_order Less is rest = get_member-other k l (close_node x) (member m (close_node y) (close ns)) other
    by_order Equal is rest =
        let there : bytes_eq m (key_text k) ≡ false = ap (λ (t : List ℕ). bytes_eq t (key_text k)) (sym (same_by l m is)) ∙ other in
        get_member-other k m (close_node x) (close ns) there ∙ sym (get_member-other k m (close_node y) (close ns) there)
    by_order Greater is rest = rw rest refl

and_twice : (a b : Bool) → (a && b) ≡ (a && (a && b))
and_twice true b = refl
and_twice false b = refl

and_swap : (a b c : Bool) → (a && (b && c)) ≡ (b && (a && c))
and_swap true b c = refl
and_swap false true c = refl
and_swap false false c = refl

-- whether all keys are known, with one more
known_insert : (ks : List Key) (l : List ℕ) (x : Node) (ns : Nodes) → are_known ks (close (insert l x ns)) ≡ (is_one_of ks l && are_known ks (close ns))
known_insert ks l x no_nodes = refl
known_insert ks l x (node m y ns) = by_order (slice_cmp nat_cmp l m) refl (known_insert ks l x ns)
  where
    by_order : (o : Ordering) → slice_cmp nat_cmp l m ≡ o → are_known ks (close (insert l x ns)) ≡ (is_one_of ks l && are_known ks (close ns))
        → are_known ks (close (match_ordering o (node l x (node m y ns)) (node m x ns) (node m y (insert l x ns)))) ≡ (is_one_of ks l && (is_one_of ks m && are_known ks (close ns)))
    by_order Less is rest = refl
    by_order Equal is rest =
        and_twice (is_one_of ks m) (are_known ks (close ns)) ∙ ap (λ (t : List ℕ). is_one_of ks t && (is_one_of ks m && are_known ks (close ns))) (sym (same_by l m is))
    by_order Greater is rest = ap (λ (b : Bool). is_one_of ks m && b) rest ∙ and_swap (is_one_of ks m) (is_one_of ks l) (are_known ks (close ns))

-- a key that is not known is not known after others
unknown_after : (ks : List Key) (ps : List (Key × Value)) (ns : Nodes) → are_known ks (close ns) ≡ false → are_known ks (close (nodes_after ns ps)) ≡ false
unknown_after ks [] ns h = h
unknown_after ks (p ∷ ps) ns h =
    unknown_after ks ps (insert (key_text p.0) (value (view p.1)) ns) (known_insert ks (key_text p.0) (value (view p.1)) ns ∙ and_right (is_one_of ks (key_text p.0)) (are_known ks (close ns)) h)

-- the values of the pairs that were passed are in their places, and these are the rest
pub record PairsYet (ks : List Key) (slots : Slots) (rest all : List (Key × Value)) : Type 0 where
  pub nodes : Nodes
  pub whole : nodes_after nodes rest ≡ nodes_in all
  pub values : AreValues slots (close nodes)
  pub known : are_known ks (close nodes) ≡ true

pub pairs_first : (ks : List Key) (slots : Slots) (all : List (Key × Value)) → ((k : Key) → value_in slots k ≡ None) → PairsYet ks slots all all
pairs_first ks slots all none = record { nodes = no_nodes; whole = refl; values = none; known = refl }

-- a pair whose key is none of these
pub pairs_refuse : (ks : List Key) (slots : Slots) (p : Key × Value) (rest all : List (Key × Value)) → is_one_of ks (key_text p.0) ≡ false → PairsYet ks slots (p ∷ rest) all
    → are_known ks (close (nodes_in all)) ≡ false
pairs_refuse ks slots p rest all none yet =
    let here : are_known ks (close (insert (key_text p.0) (value (view p.1)) yet.nodes)) ≡ false = known_insert ks (key_text p.0) (value (view p.1)) yet.nodes ∙ rw none refl in
    ap (λ (ns : Nodes). are_known ks (close ns)) (sym yet.whole) ∙ unknown_after ks rest (insert (key_text p.0) (value (view p.1)) yet.nodes) here

-- a pair whose value is put in its place
pub pairs_put : (ks : List Key) (slots : Slots) (p : Key × Value) (v : Bor Value) (rest all : List (Key × Value)) → is_one_of ks (key_text p.0) ≡ true
    → v.now ≡ p.1 → key_place p.0 < length slots → PairsYet ks slots (p ∷ rest) all → PairsYet ks (set slots (key_place p.0) (Some v)) rest all
pairs_put ks slots p v rest all one is within yet =
    let x : Node = value (view p.1) in
    record {
      nodes = insert (key_text p.0) x yet.nodes;
      whole = yet.whole;
      values = λ k. elim (cases_Bool (key_place k == key_place p.0)) [
        | inl same ↦
            let this : k ≡ p.0 = same_place k p.0 (eqb-true (key_place k) (key_place p.0) same) in
            let now : value_in (set slots (key_place p.0) (Some v)) p.0 ≡ Some (view v.now) =
            ap (option_map (λ (b : Bor Value). view b.now)) (get_or-set_same slots (key_place p.0) (Some v) None within) in
            rw this (now ∙ ap (λ (w : Value). Some (view w)) is ∙ sym (member_here p.0 x yet.nodes))
        | inr other ↦
            let apart : key_place k ≢ key_place p.0 = λ e. let same = (Decides-eqb (key_place k) (key_place p.0)).1 e in cc in
            let kept : value_in (set slots (key_place p.0) (Some v)) k ≡ value_in slots k =
            ap (option_map (λ (b : Bor Value). view b.now)) (get_or-set_other slots (key_place p.0) (key_place k) (Some v) None apart) in
            let differs : bytes_eq (key_text p.0) (key_text k) ≡ false = same_text (key_text p.0) p.0 k (named p.0) ∙ other in
            kept ∙ yet.values k ∙ sym (member_other k (key_text p.0) x yet.nodes differs)
      ];
      known = known_insert ks (key_text p.0) x yet.nodes ∙ rw (one, yet.known) refl;
    }

pub pairs_over : (ks : List Key) (slots : Slots) (rest all : List (Key × Value)) → rest ≡ [] → PairsYet ks slots rest all
    → (are_known ks (close (nodes_in all)) ≡ true) × AreValues slots (close (nodes_in all))
pairs_over ks slots rest all none yet =
    let same : yet.nodes ≡ nodes_in all = ap (nodes_after yet.nodes) (sym none) ∙ yet.whole in
    (ap (λ (ns : Nodes). are_known ks (close ns)) (sym same) ∙ yet.known, λ k. yet.values k ∙ ap (λ (ns : Nodes). get_member (key_text k) (close ns)) same)
