-- What was read under a key is there.
use Rattle.std.proofs.Common.{◌≡◌, ◌⊎◌, ◌==◌, ℕ, ℤ, pos, negsuc, true, List, [], ◌∷◌, Option, Some, None, option_map, option_and_then, Result, Ok, refl, sym, ap, ◌∙◌, inl, inr}
use Rattle.std.proofs.Common.{arith}
use Rattle.std.specs.Str.{bytes_eq}
use Rattle.std.proofs.lemmas.Bool.{cases_Bool}
use Rattle.std.proofs.lemmas.Bool.Decides.{nat_tests}
use Rattle.std.proofs.lemmas.List.Folds.{find_at}
use Rattle.std.proofs.lemmas.List.Sums.{passes_at_first}
use Rattle.std.proofs.lemmas.Option.{gets}
use Rattle.std.proofs.lemmas.Slice.Eq.{bytes_eq-Decides}
use Rattle.toml.specs.Data.{Data, string, integer, float, boolean, datetime, array, table, Items, no_items, item, Members, get_member, as_integer, as_str, as_array, as_table}
use Rattle.afdx_units.specs.Time.{bag_ms}
use Rattle.afdx_units.specs.declared.bag.Bag.{Bag}
use Rattle.afdx_units.specs.declared.line.Speed.{Speed}
use Rattle.afdx_units.specs.declared.line.Speed.TheVariants.{Ten, Hundred, Thousand}
use Rattle.afdx_units.specs.declared.line.Priority.{Priority}
use Rattle.afdx_units.specs.declared.line.Priority.TheVariants.{High, Low}
use Rattle.afdx_units.specs.declared.police.Police.{Police}
use Rattle.afdx_units.specs.declared.police.Police.TheVariants.{Byte, Frame}
use Rattle.afdx_table.specs.declared.fault.At.{At}
use Rattle.afdx_table.specs.declared.fault.Key.{Key}
use Rattle.afdx_table.specs.declared.fault.Key.TheVariants as key
use Rattle.afdx_table.specs.declared.fault.TableFault.{TableFault}
use Rattle.afdx_table.specs.declared.fault.TableFault.TheVariants.{MissingKey, Kind, Range}
use Rattle.afdx_table.specs.Names.{key_text, speed_of, bags, bag_of, priority_text, priority_of, police_text, police_of}
use Rattle.afdx_table.specs.Refusal.{or_refuse}
use Rattle.afdx_table.specs.Fields.{natural_of, are_known, known_at, all_of, value_at, number_in, text_in, number_at, bounded, bounded_at, text_at, if_present, optional_number_at, optional_text_at}
use Rattle.afdx_table.specs.Fields.{tables_in, tables_at, as_natural, bounded_natural, all_bounded, numbers_at}
use Rattle.afdx_table.specs.Links.{police_from}
use Rattle.afdx_table.specs.Inner.Holds.{Has, HasNone, HasNumber, HasText, number_items, HasNumbers, table_items, HasTables, mbit_of, HasPolice, HasSpeed}
use Rattle.afdx_table.proofs.Steps.{steps, ok_inside}

-- ---- values of one kind

pub there : {A : Type 0} (e : TableFault) (o : Option A) (x : A) → or_refuse e o ≡ Ok x → o ≡ Some x
there e None x h = absurd cc
there e (Some y) x h = ap Some (ok_inside y x h)

pub known_at-says : (at : At) (ks : List Key) (ms : Members) (u : Unit {0}) → known_at at ks ms ≡ Ok u → are_known ks ms ≡ true
unfolding known_at
known_at-says at ks ms u h = elim (cases_Bool (are_known ks ms)) [
  | inl known ↦ known
  | inr other ↦ let g = rw other at h in absurd cc
]

is_integer : (d : Data) (z : ℤ) → as_integer d ≡ Some z → d ≡ integer z
is_integer (string s) z h = absurd cc
is_integer (integer y) z h = ap integer (let same : y ≡ z = cc in same)
is_integer (float x) z h = absurd cc
is_integer (boolean b) z h = absurd cc
is_integer (datetime t) z h = absurd cc
is_integer (array ds) z h = absurd cc
is_integer (table ms) z h = absurd cc

is_text : (d : Data) (s : List ℕ) → as_str d ≡ Some s → d ≡ string s
is_text (string t) s h = ap string (let same : t ≡ s = cc in same)
is_text (integer y) s h = absurd cc
is_text (float x) s h = absurd cc
is_text (boolean b) s h = absurd cc
is_text (datetime t) s h = absurd cc
is_text (array ds) s h = absurd cc
is_text (table ms) s h = absurd cc

pub is_array : (d : Data) (ds : Items) → as_array d ≡ Some ds → d ≡ array ds
is_array (string t) s h = absurd cc
is_array (integer y) s h = absurd cc
is_array (float x) s h = absurd cc
is_array (boolean b) s h = absurd cc
is_array (datetime t) s h = absurd cc
is_array (array es) ds h = ap array (let same : es ≡ ds = cc in same)
is_array (table ms) s h = absurd cc

is_table : (d : Data) (ms : Members) → as_table d ≡ Some ms → d ≡ table ms
is_table (string t) s h = absurd cc
is_table (integer y) s h = absurd cc
is_table (float x) s h = absurd cc
is_table (boolean b) s h = absurd cc
is_table (datetime t) s h = absurd cc
is_table (array es) ds h = absurd cc
is_table (table ns) ms h = ap table (let same : ns ≡ ms = cc in same)

is_natural : (z : ℤ) (n : ℕ) → natural_of z ≡ Some n → z ≡ pos n
is_natural (pos m) n h = ap pos (let same : m ≡ n = cc in same)
is_natural (negsuc m) n h = absurd cc

-- ---- required values

value_at-says : (at : At) (k : Key) (ms : Members) (d : Data) → value_at at k ms ≡ Ok d → Has ms k d
unfolding value_at
value_at-says at k ms d h = there (MissingKey at k) (get_member (key_text k) ms) d h

number_in-says : (at : At) (k : Key) (d : Data) (n : ℕ) → number_in at k d ≡ Ok n → d ≡ integer (pos n)
unfolding number_in
number_in-says at k d n h =
    let s = steps (or_refuse (Kind at k) (as_integer d)) _ n h in
    is_integer d s.value (there (Kind at k) (as_integer d) s.value s.first) ∙ ap integer (is_natural s.value n (there (Range at k) (natural_of s.value) n s.rest))

text_in-says : (at : At) (k : Key) (d : Data) (t : List ℕ) → text_in at k d ≡ Ok t → d ≡ string t
unfolding text_in
text_in-says at k d t h = is_text d t (there (Kind at k) (as_str d) t h)

pub number_at-says : (at : At) (k : Key) (ms : Members) (n : ℕ) → number_at at k ms ≡ Ok n → HasNumber ms k n
unfolding number_at
number_at-says at k ms n h =
    let s = steps (value_at at k ms) _ n h in
    value_at-says at k ms s.value s.first ∙ ap Some (number_in-says at k s.value n s.rest)

bounded-says : (at : At) (k : Key) (low high m n : ℕ) → bounded at k low high m ≡ Ok n → m ≡ n
unfolding bounded
bounded-says at k low high m n h = grind (arith, nat_tests)

pub bounded_at-says : (at : At) (k : Key) (low high : ℕ) (ms : Members) (n : ℕ) → bounded_at at k low high ms ≡ Ok n → HasNumber ms k n
unfolding bounded_at
bounded_at-says at k low high ms n h =
    let s = steps (number_at at k ms) _ n h in
    number_at-says at k ms n (s.first ∙ ap Ok (bounded-says at k low high s.value n s.rest))

pub text_at-says : (at : At) (k : Key) (ms : Members) (t : List ℕ) → text_at at k ms ≡ Ok t → HasText ms k t
unfolding text_at
text_at-says at k ms t h =
    let s = steps (value_at at k ms) _ t h in
    value_at-says at k ms s.value s.first ∙ ap Some (text_in-says at k s.value t s.rest)

-- ---- optional values

present : {A : Type 0} (f : Data → Result A TableFault) (o : Option Data) (x : A) → if_present f o ≡ Ok (Some x) → (d : Data) × (o ≡ Some d) × (f d ≡ Ok x)
present f None x h = absurd (let no : None ≡ Some x = ok_inside None (Some x) h in cc)
present f (Some d) x h =
    let s = steps (f d) (λ y. Ok (Some y)) (Some x) h in
    let same : Some s.value ≡ Some x = ok_inside (Some s.value) (Some x) s.rest in
    (d, refl, s.first ∙ ap Ok (let e : s.value ≡ x = cc in e))

missing : {A : Type 0} (f : Data → Result A TableFault) (o : Option Data) → if_present f o ≡ Ok None → o ≡ None
missing f None h = refl
missing f (Some d) h =
    let s = steps (f d) (λ y. Ok (Some y)) None h in
    absurd (let no : Some s.value ≡ None = ok_inside (Some s.value) None s.rest in cc)

pub optional_number_at-says : (at : At) (k : Key) (ms : Members) (n : ℕ) → optional_number_at at k ms ≡ Ok (Some n) → HasNumber ms k n
unfolding optional_number_at
optional_number_at-says at k ms n h =
    let p = present (number_in at k) (get_member (key_text k) ms) n h in
    p.1 ∙ ap Some (number_in-says at k p.0 n p.2)

pub no_number : (at : At) (k : Key) (ms : Members) → optional_number_at at k ms ≡ Ok None → HasNone ms k
unfolding optional_number_at
no_number at k ms h = missing (number_in at k) (get_member (key_text k) ms) h

pub optional_text_at-says : (at : At) (k : Key) (ms : Members) (t : List ℕ) → optional_text_at at k ms ≡ Ok (Some t) → HasText ms k t
unfolding optional_text_at
optional_text_at-says at k ms t h =
    let p = present (text_in at k) (get_member (key_text k) ms) t h in
    p.1 ∙ ap Some (text_in-says at k p.0 t p.2)

pub no_text : (at : At) (k : Key) (ms : Members) → optional_text_at at k ms ≡ Ok None → HasNone ms k
unfolding optional_text_at
no_text at k ms h = missing (text_in at k) (get_member (key_text k) ms) h

-- ---- arrays

-- what f says of the first item and of the rest
record First {A : Type 0} (x : Option A) (more : Option (List A)) (xs : List A) : Type 0 where
  head : A
  tail : List A
  is_head : x ≡ Some head
  is_tail : more ≡ Some tail
  whole : xs ≡ head ∷ tail

first : {A : Type 0} (x : Option A) (more : Option (List A)) (xs : List A) → option_and_then (λ y. option_map (λ ys. y ∷ ys) more) x ≡ Some xs → First x more xs
first None more xs h = absurd cc
first (Some y) None xs h = absurd cc
first (Some y) (Some ys) xs h = record { head = y; tail = ys; is_head = refl; is_tail = refl; whole = let same : (y ∷ ys) ≡ xs = cc in sym same }

is_tables : (ds : Items) (tables : List Members) → all_of as_table ds ≡ Some tables → ds ≡ table_items tables
is_tables no_items tables h = let same : [] ≡ tables = cc in ap table_items same
is_tables (item d ds) tables h =
    let f = first (as_table d) (all_of as_table ds) tables h in
    ap (λ x. item x ds) (is_table d f.head f.is_head) ∙ ap (λ xs. item (table f.head) xs) (is_tables ds f.tail f.is_tail) ∙ ap table_items (sym f.whole)

-- an item that f says nothing of
inside : {A B : Type 0} (f : A → Option B) (o : Option A) (y : B) → option_and_then f o ≡ Some y → (x : A) × (o ≡ Some x) × (f x ≡ Some y)
inside f None y h = absurd cc
inside f (Some x) y h = (x, refl, h)

tables_in-says : (at : At) (k : Key) (o : Option Data) (tables : List Members) → tables_in at k o ≡ Ok tables → ((o ≡ None) × (tables ≡ [])) ⊎ (o ≡ Some (array (table_items tables)))
tables_in-says at k None tables h = inl (refl, sym (ok_inside [] tables h))
tables_in-says at k (Some d) tables h =
    let p = inside (all_of as_table) (as_array d) tables (there (Kind at k) (option_and_then (all_of as_table) (as_array d)) tables h) in
    inr (ap Some (is_array d p.0 p.1 ∙ ap array (is_tables p.0 tables p.2)))

pub tables_at-says : (at : At) (k : Key) (ms : Members) (tables : List Members) → tables_at at k ms ≡ Ok tables → HasTables ms k tables
unfolding tables_at
tables_at-says at k ms tables h = tables_in-says at k (get_member (key_text k) ms) tables h

natural_is : (d : Data) (o : Option ℕ) (n : ℕ) → as_natural d ≡ Some o → o ≡ Some n → d ≡ integer (pos n)
natural_is d o n h is = by (as_integer d) refl where
  by : (i : Option ℤ) → as_integer d ≡ i → d ≡ integer (pos n)
  by None e = let g = rw e at h in absurd cc
  by (Some z) e =
      let g : Some (natural_of z) ≡ Some o = rw e at h in
      let same : natural_of z ≡ o = cc in
      is_integer d z e ∙ ap integer (is_natural z n (same ∙ is))

bounded_natural-says : (at : At) (k : Key) (low high : ℕ) (o : Option ℕ) (n : ℕ) → bounded_natural at k low high o ≡ Ok n → o ≡ Some n
unfolding bounded_natural
bounded_natural-says at k low high o n h =
    let s = steps (or_refuse (Range at k) o) _ n h in
    there (Range at k) o s.value s.first ∙ ap Some (bounded-says at k low high s.value n s.rest)

no_numbers : (at : At) (k : Key) (low high : ℕ) (os : List (Option ℕ)) (ns : List ℕ) → os ≡ [] → all_bounded at k low high os ≡ Ok ns → no_items ≡ number_items ns
unfolding all_bounded
no_numbers at k low high os ns e b =
    let done : Result (List ℕ) TableFault = Ok [] in
    let g : done ≡ Ok ns = rw e at b in
    ap number_items (let same : [] ≡ ns = cc in same)

-- a number that is bounded, and those after it
record Bounded (at : At) (k : Key) (low high : ℕ) (o : Option ℕ) (os : List (Option ℕ)) (ns : List ℕ) : Type 0 where
  head : ℕ
  tail : List ℕ
  is_head : o ≡ Some head
  is_tail : all_bounded at k low high os ≡ Ok tail
  whole : ns ≡ head ∷ tail

one_bounded : (at : At) (k : Key) (low high : ℕ) (o : Option ℕ) (os : List (Option ℕ)) (ns : List ℕ) → all_bounded at k low high (o ∷ os) ≡ Ok ns → Bounded at k low high o os ns
unfolding all_bounded
one_bounded at k low high o os ns b =
    let s = steps (bounded_natural at k low high o) _ ns b in
    let t = steps (all_bounded at k low high os) _ ns s.rest in
    record {
      head = s.value;
      tail = t.value;
      is_head = bounded_natural-says at k low high o s.value s.first;
      is_tail = t.first;
      whole = sym (ok_inside (s.value ∷ t.value) ns t.rest);
    }

all_bounded-says : (at : At) (k : Key) (low high : ℕ) (ds : Items) (os : List (Option ℕ)) (ns : List ℕ) → all_of as_natural ds ≡ Some os → all_bounded at k low high os ≡ Ok ns → ds ≡ number_items ns
all_bounded-says at k low high no_items os ns h b = no_numbers at k low high os ns (let same : [] ≡ os = cc in sym same) b
all_bounded-says at k low high (item d ds) os ns h b =
    let f = first (as_natural d) (all_of as_natural ds) os h in
    let n = one_bounded at k low high f.head f.tail ns (ap (all_bounded at k low high) (sym f.whole) ∙ b) in
    ap (λ x. item x ds) (natural_is d f.head n.head f.is_head n.is_head)
    ∙ ap (λ xs. item (integer (pos n.head)) xs) (all_bounded-says at k low high ds f.tail n.tail f.is_tail n.is_tail)
    ∙ ap number_items (sym n.whole)

pub numbers_at-says : (at : At) (k : Key) (low high : ℕ) (ms : Members) (ns : List ℕ) → numbers_at at k low high ms ≡ Ok ns → HasNumbers ms k ns
unfolding numbers_at
numbers_at-says at k low high ms ns h =
    let s = steps (value_at at k ms) _ ns h in
    let t = steps (or_refuse (Kind at k) (option_and_then (all_of as_natural) (as_array s.value))) _ ns s.rest in
    let p = inside (all_of as_natural) (as_array s.value) t.value (there (Kind at k) (option_and_then (all_of as_natural) (as_array s.value)) t.value t.first) in
    value_at-says at k ms s.value s.first ∙ ap Some (is_array s.value p.0 p.1 ∙ ap array (all_bounded-says at k low high p.0 t.value ns p.2 t.rest))

-- ---- what numbers and words name

pub speed-says : (version mbit : ℕ) (speed : Speed) → speed_of version mbit ≡ Some speed → (mbit ≡ mbit_of speed) × HasSpeed version speed
speed-says version mbit Ten h = (grind (arith, nat_tests), tt)
speed-says version mbit Hundred h = (grind (arith, nat_tests), tt)
speed-says version mbit Thousand h = (grind (arith, nat_tests), grind (arith, nat_tests))

pub bag-says : (ms : ℕ) (bag : Bag) → bag_of ms ≡ Some bag → ms ≡ bag_ms bag
unfolding bag_of
bag-says ms bag h = grind (arith, gets, nat_tests, find_at (λ b. bag_ms b == ms) bags, passes_at_first (λ b. bag_ms b == ms) bags)

pub priority-says : (text : List ℕ) (priority : Priority) → priority_of text ≡ Some priority → text ≡ priority_text priority
priority-says text priority h = elim (cases_Bool (bytes_eq text (priority_text High))) [
  | inl high ↦
      let g : Some High ≡ Some priority = rw high at h in
      let same : High ≡ priority = cc in
      (bytes_eq-Decides text (priority_text High)).0 high ∙ ap priority_text same
  | inr not_high ↦ elim (cases_Bool (bytes_eq text (priority_text Low))) [
    | inl low ↦
        let g : Some Low ≡ Some priority = rw (not_high, low) at h in
        let same : Low ≡ priority = cc in
        (bytes_eq-Decides text (priority_text Low)).0 low ∙ ap priority_text same
    | inr not_low ↦ let g = rw (not_high, not_low) at h in absurd cc
  ]
]

police_named : (text : List ℕ) (police : Police) → police_of text ≡ Some police → text ≡ police_text police
police_named text police h = elim (cases_Bool (bytes_eq text (police_text Byte))) [
  | inl by_bytes ↦
      let g : Some Byte ≡ Some police = rw by_bytes at h in
      let same : Byte ≡ police = cc in
      (bytes_eq-Decides text (police_text Byte)).0 by_bytes ∙ ap police_text same
  | inr other ↦ elim (cases_Bool (bytes_eq text (police_text Frame))) [
    | inl by_frames ↦
        let g : Some Frame ≡ Some police = rw (other, by_frames) at h in
        let same : Frame ≡ police = cc in
        (bytes_eq-Decides text (police_text Frame)).0 by_frames ∙ ap police_text same
    | inr neither ↦ let g = rw (other, neither) at h in absurd cc
  ]
]

pub police-says : (at : At) (ms : Members) (stated : Option (List ℕ)) (police : Police) → optional_text_at at key.Police ms ≡ Ok stated → police_from at stated ≡ Ok police → HasPolice ms police
police-says at ms None police h p = inl (no_text at key.Police ms h, sym (ok_inside Byte police p))
police-says at ms (Some text) police h p =
    inr (optional_text_at-says at key.Police ms text h ∙ ap (λ t. Some (string t)) (police_named text police (there (Range at key.Police) (police_of text) police p)))
