-- The values of a table in the places of their keys, as a pass over its entries fills them.
use Rattle.std.proofs.Common.{◌≡◌, ◌≢◌, ◌<◌, ◌==◌, ◌||◌, ◌∷◌, ℕ, zero, suc, Bool, true, false, List, [], length, Option, Some, None, option_map, get_or, get_or-set_same, get_or-set_other, set}
use Rattle.std.proofs.Common.{Bor, String, Global, string_bytes, nat_cmp, Ordering, Less, Equal, Greater, is_eq, refl, sym, ap, ◌∙◌, inl, inr, arith}
use Rattle.std.specs.Prelude.{find}
use Rattle.std.specs.Option.{is_some}
use Rattle.std.specs.List.{list_any}
use Rattle.std.specs.Str.{bytes_eq}
use Rattle.std.specs.Cmp.Lexicographic.{slice_cmp}
use Rattle.std.specs.Ordering.{match_ordering}
use Rattle.std.proofs.lemmas.Bool.{cases_Bool, eqb-true}
use Rattle.std.proofs.lemmas.Bool.Decides.{Decides-eqb}
use Rattle.std.proofs.lemmas.Slice.Eq.{bytes_eq-Decides}
use Rattle.std.proofs.lemmas.Map.Text.{is_eq-slice_cmp}
use Rattle.toml.specs.Data.{Data, Members, member, get_member}
use Rattle.toml.specs.View.{view, members_view}
use Rattle.toml.specs.declared.value.Value.{Value}
use Rattle.afdx_table.specs.declared.fault.Key.{Key}
use Rattle.afdx_table.specs.declared.fault.Key.TheVariants as key
use Rattle.afdx_table.specs.Names.{key_text}
use Rattle.afdx_table.specs.Fields.{are_known, is_one_of}
use Rattle.afdx_table.specs.Inner.Slots.{key_place, key_named, keys, value_in}

abbrev by_place : List Key
by_place =
    key.Version ∷ key.Constant ∷ key.Latency ∷ key.Port ∷ key.Link ∷ key.Id ∷ key.Mbit ∷ key.Buffer
    ∷ key.MaxDelay ∷ key.From ∷ key.To ∷ key.Bag ∷ key.Jitter ∷ key.MaxSize ∷ key.Priority ∷ key.Police ∷ []

placed : (k : Key) → get_or by_place (key_place k) key.Version ≡ k
placed key.Version = refl
placed key.Constant = refl
placed key.Latency = refl
placed key.Port = refl
placed key.Link = refl
placed key.Id = refl
placed key.Mbit = refl
placed key.Buffer = refl
placed key.MaxDelay = refl
placed key.From = refl
placed key.To = refl
placed key.Bag = refl
placed key.Jitter = refl
placed key.MaxSize = refl
placed key.Priority = refl
placed key.Police = refl

pub same_place : (j k : Key) → key_place j ≡ key_place k → j ≡ k
same_place j k h = sym (placed j) ∙ ap (λ (n : ℕ). get_or by_place n key.Version) h ∙ placed k

pub named : (k : Key) → key_named (key_text k) ≡ Some k
named key.Version = refl
named key.Constant = refl
named key.Latency = refl
named key.Port = refl
named key.Link = refl
named key.Id = refl
named key.Mbit = refl
named key.Buffer = refl
named key.MaxDelay = refl
named key.From = refl
named key.To = refl
named key.Bag = refl
named key.Jitter = refl
named key.MaxSize = refl
named key.Priority = refl
named key.Police = refl

found_passes : (test : Key → Bool) (ks : List Key) (k : Key) → find test ks ≡ Some k → test k ≡ true
found_passes test [] k h = absurd cc
found_passes test (x ∷ ks) k h =
    elim (cases_Bool (test x)) [
      | inl here ↦
          let is : Some x ≡ Some k = rw here at h in
          let same : x ≡ k = cc in
          ap test (sym same) ∙ here
      | inr later ↦ found_passes test ks k (rw later at h)
    ]

-- a text that is a key's names it
names : (text : List ℕ) (k : Key) → bytes_eq text (key_text k) ≡ true → key_named text ≡ Some k
names text k h = ap key_named ((bytes_eq-Decides text (key_text k)).0 h) ∙ named k

-- a text that names a key is that key's
pub named_is : (text : List ℕ) (k : Key) → key_named text ≡ Some k → text ≡ key_text k
named_is text k h = (bytes_eq-Decides text (key_text k)).0 (found_passes (λ x. bytes_eq text (key_text x)) keys k h)

-- whether a text that names j is the text of k
pub same_text : (text : List ℕ) (j k : Key) → key_named text ≡ Some j → bytes_eq text (key_text k) ≡ (key_place k == key_place j)
same_text text j k h =
    elim (cases_Bool (bytes_eq text (key_text k))) [
      | inl is ↦
          let both : Some j ≡ Some k = sym h ∙ names text k is in
          let same : j ≡ k = cc in
          is ∙ sym ((Decides-eqb (key_place k) (key_place j)).1 (ap key_place (sym same)))
      | inr not ↦
          elim (cases_Bool (key_place k == key_place j)) [
            | inl same ↦
                let is : k ≡ j = same_place k j (eqb-true (key_place k) (key_place j) same) in
                ap (λ (x : Key). bytes_eq text (key_text x)) is ∙ found_passes (λ x. bytes_eq text (key_text x)) keys j h ∙ sym same
            | inr other ↦ not ∙ sym other
          ]
    ]

other_text : (text : List ℕ) (k : Key) → key_named text ≡ None → bytes_eq text (key_text k) ≡ false
other_text text k h =
    elim (cases_Bool (bytes_eq text (key_text k))) [
      | inl is ↦ let both : None ≡ Some k = sym h ∙ names text k is in absurd cc
      | inr not ↦ not
    ]

-- whether a text that names j is one of these keys
pub is_one_of-named : (ks : List Key) (text : List ℕ) (j : Key) → key_named text ≡ Some j → is_one_of ks text ≡ list_any (λ k. key_place k == key_place j) ks
is_one_of-named [] text j h = refl
is_one_of-named (k ∷ ks) text j h = rw (same_text text j k h, is_one_of-named ks text j h) refl

-- a text that names no key is none of these
pub is_one_of-unnamed : (ks : List Key) (text : List ℕ) → key_named text ≡ None → is_one_of ks text ≡ false
is_one_of-unnamed [] text h = refl
is_one_of-unnamed (k ∷ ks) text h = rw (other_text text k h, is_one_of-unnamed ks text h) refl

pub refused : (ks : List Key) (e : String Global × Value) (es : List (String Global × Value)) (all : Bool) → is_one_of ks (string_bytes e.0) ≡ false
    → are_known ks (members_view (e ∷ es)) ≡ all → all ≡ false
refused ks e es all h yet = sym yet ∙ rw h refl

pub accepted : (ks : List Key) (e : String Global × Value) (es : List (String Global × Value)) (all : Bool) → is_one_of ks (string_bytes e.0) ≡ true
    → are_known ks (members_view (e ∷ es)) ≡ all → are_known ks (members_view es) ≡ all
accepted ks e es all h yet = rw h at yet

pass_over : (o : Ordering) (a b : Option Data) → is_eq o ≡ false → match_ordering o a b a ≡ a
pass_over Less a b h = refl
pass_over Equal a b h = absurd cc
pass_over Greater a b h = refl

take_here : (o : Ordering) (a b : Option Data) → is_eq o ≡ true → match_ordering o a b a ≡ b
take_here Less a b h = absurd cc
take_here Equal a b h = refl
take_here Greater a b h = absurd cc

pub turned : (xs ys : List ℕ) → bytes_eq xs ys ≡ true → bytes_eq ys xs ≡ true
turned xs ys h = (bytes_eq-Decides ys xs).1 (sym ((bytes_eq-Decides xs ys).0 h))

pub turned_not : (xs ys : List ℕ) → bytes_eq xs ys ≡ false → bytes_eq ys xs ≡ false
turned_not xs ys h =
    elim (cases_Bool (bytes_eq ys xs)) [
      | inl is ↦ let both = turned ys xs is in absurd cc
      | inr not ↦ not
    ]

pub get_member-other : (k : Key) (text : List ℕ) (d : Data) (ms : Members) → bytes_eq text (key_text k) ≡ false → get_member (key_text k) (member text d ms) ≡ get_member (key_text k) ms
get_member-other k text d ms h = pass_over (slice_cmp nat_cmp (key_text k) text) _ _ (is_eq-slice_cmp (key_text k) text ∙ turned_not text (key_text k) h)

pub get_member-here : (k : Key) (text : List ℕ) (d : Data) (ms : Members) → bytes_eq text (key_text k) ≡ true → get_member (key_text k) (member text d ms) ≡ Some d
get_member-here k text d ms h = take_here (slice_cmp nat_cmp (key_text k) text) _ _ (is_eq-slice_cmp (key_text k) text ∙ turned text (key_text k) h)

-- what was found before, or else what is still to come
abbrev pub found_or : Option Data → Option Data → Option Data
found_or None rest = rest
found_or (Some d) rest = Some d

pub found_or-none : (o : Option Data) → found_or o None ≡ o
found_or-none None = refl
found_or-none (Some d) = refl

abbrev pub Slots : Type 0
Slots = List (Option (Bor Value))

-- with no value yet, all are still to come
pub nothing_yet : (k : Key) → value_in (None ∷ None ∷ None ∷ None ∷ None ∷ None ∷ None ∷ None ∷ None ∷ None ∷ None ∷ None ∷ None ∷ None ∷ None ∷ None ∷ []) k ≡ None
nothing_yet key.Version = refl
nothing_yet key.Constant = refl
nothing_yet key.Latency = refl
nothing_yet key.Port = refl
nothing_yet key.Link = refl
nothing_yet key.Id = refl
nothing_yet key.Mbit = refl
nothing_yet key.Buffer = refl
nothing_yet key.MaxDelay = refl
nothing_yet key.From = refl
nothing_yet key.To = refl
nothing_yet key.Bag = refl
nothing_yet key.Jitter = refl
nothing_yet key.MaxSize = refl
nothing_yet key.Priority = refl
nothing_yet key.Police = refl

-- the values of the entries that were passed are in their places, and these are the rest
abbrev pub ValuesYet : Slots → Members → Members → Type 0
ValuesYet slots rest all = (k : Key) → found_or (value_in slots k) (get_member (key_text k) rest) ≡ get_member (key_text k) all

-- a value is put in its place
pub put : (slots : Slots) (text : List ℕ) (v : Bor Value) (rest all : Members) (j : Key) → key_named text ≡ Some j → key_place j < length slots → value_in slots j ≡ None
    → ValuesYet slots (member text (view v.now) rest) all → ValuesYet (set slots (key_place j) (Some v)) rest all
put slots text v rest all j h within free yet k =
    elim (cases_Bool (key_place k == key_place j)) [
      | inl same ↦
          let is : k ≡ j = same_place k j (eqb-true (key_place k) (key_place j) same) in
          let here : bytes_eq text (key_text k) ≡ true = same_text text j k h ∙ same in
          let before : found_or (value_in slots k) (get_member (key_text k) (member text (view v.now) rest)) ≡ get_member (key_text k) all = yet k in
          let none : value_in slots k ≡ None = ap (value_in slots) is ∙ free in
          let taken : Some (view v.now) ≡ get_member (key_text k) all = rw (none, get_member-here k text (view v.now) rest here) at before in
          let now : value_in (set slots (key_place j) (Some v)) k ≡ Some (view v.now) =
          rw is (ap (option_map (λ (x : Bor Value). view x.now)) (get_or-set_same slots (key_place j) (Some v) None within)) in
          rw now taken
      | inr other ↦
          let apart : key_place k ≢ key_place j = λ e. let is = (Decides-eqb (key_place k) (key_place j)).1 e in cc in
          let there : bytes_eq text (key_text k) ≡ false = same_text text j k h ∙ other in
          let before = yet k in
          let kept : value_in (set slots (key_place j) (Some v)) k ≡ value_in slots k =
          ap (option_map (λ (x : Bor Value). view x.now)) (get_or-set_other slots (key_place j) (key_place k) (Some v) None apart) in
          rw kept (ap (found_or (value_in slots k)) (sym (get_member-other k text (view v.now) rest there)) ∙ before)
    ]

settled : (o a b : Option Data) → is_some o ≡ true → found_or o a ≡ found_or o b
settled None a b h = absurd cc
settled (Some d) a b h = refl

-- a value whose place is taken is passed over
pub pass : (slots : Slots) (text : List ℕ) (d : Data) (rest all : Members) (j : Key) → key_named text ≡ Some j → is_some (value_in slots j) ≡ true
    → ValuesYet slots (member text d rest) all → ValuesYet slots rest all
pass slots text d rest all j h taken yet k =
    elim (cases_Bool (key_place k == key_place j)) [
      | inl same ↦
          let is : k ≡ j = same_place k j (eqb-true (key_place k) (key_place j) same) in
          settled (value_in slots k) _ _ (ap (λ (x : Key). is_some (value_in slots x)) is ∙ taken) ∙ yet k
      | inr other ↦
          let there : bytes_eq text (key_text k) ≡ false = same_text text j k h ∙ other in
          ap (found_or (value_in slots k)) (sym (get_member-other k text d rest there)) ∙ yet k
    ]

any_default : (slots : Slots) (i : ℕ) (d e : Option (Bor Value)) → i < length slots → get_or slots i d ≡ get_or slots i e
any_default [] i d e h = absurd (omega arith)
any_default (x ∷ slots) zero d e h = refl
any_default (x ∷ slots) (suc i) d e h = any_default slots i d e (omega arith)

seen_none : (o : Option (Bor Value)) → is_some o ≡ false → option_map (λ x. view x.now) o ≡ None
seen_none None h = refl
seen_none (Some x) h = absurd cc

seen_some : (o : Option (Bor Value)) → is_some o ≡ true → is_some (option_map (λ x. view x.now) o) ≡ true
seen_some None h = absurd cc
seen_some (Some x) h = refl

in_place : (slots : Slots) (place : ℕ) (j : Key) (d : Option (Bor Value)) → place ≡ key_place j → place < length slots → get_or slots (key_place j) None ≡ get_or slots place d
in_place slots place j d is within = ap (λ (n : ℕ). get_or slots n None) (sym is) ∙ any_default slots place None d within

pub free : (slots : Slots) (place : ℕ) (j : Key) (d : Option (Bor Value)) → place ≡ key_place j → place < length slots → is_some (get_or slots place d) ≡ false → value_in slots j ≡ None
free slots place j d is within h = ap (option_map (λ (x : Bor Value). view x.now)) (in_place slots place j d is within) ∙ seen_none _ h

pub taken : (slots : Slots) (place : ℕ) (j : Key) (d : Option (Bor Value)) → place ≡ key_place j → place < length slots → is_some (get_or slots place d) ≡ true → is_some (value_in slots j) ≡ true
taken slots place j d is within h = ap (λ (o : Option (Bor Value)). is_some (option_map (λ x. view x.now) o)) (in_place slots place j d is within) ∙ seen_some _ h

-- ---- the places of the keys

-- the places of the keys that were passed are marked, and these are the rest
abbrev pub MarksYet : List Bool → List Key → List Key → Type 0
MarksYet places rest all = (n : ℕ) → n < 16 → (get_or places n false || list_any (λ k. key_place k == n) rest) ≡ list_any (λ k. key_place k == n) all
