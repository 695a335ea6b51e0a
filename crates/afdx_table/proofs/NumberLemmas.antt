-- The numbers of an array, as one pass over its items reads them.
use Rattle.std.proofs.Common.{◌≡◌, ◌+◌, ◌&&◌, ◌<◌, ◌≤◌, nat_le, ℕ, ℤ, Bool, true, false, List, [], ◌∷◌, ◌++◌, length, get_or, drop}
use Rattle.std.proofs.Common.{Option, Some, None, option_map, Result, Ok, Err, refl, sym, ap, ◌∙◌, append_assoc, append-nil, inl, inr}
use Rattle.std.proofs.lemmas.Bool.{cases_Bool}
use Rattle.std.proofs.lemmas.List.{at_drop_more, at_drop_all}
use Rattle.toml.specs.Data.{Data, Items, item, no_items, as_integer}
use Rattle.toml.specs.View.{view, items_view}
use Rattle.toml.specs.declared.value.Value.{Value}
use Rattle.afdx_table.specs.declared.fault.At.{At}
use Rattle.afdx_table.specs.declared.fault.Key.{Key}
use Rattle.afdx_table.specs.declared.fault.TableFault.{TableFault}
use Rattle.afdx_table.specs.declared.fault.TableFault.TheVariants.{Kind, Range}
use Rattle.afdx_table.specs.Refusal.{◌>>=◌, or_refuse}
use Rattle.afdx_table.specs.Fields.{natural_of, all_of, as_natural, bounded, bounded_natural, all_bounded}
use Rattle.afdx_table.proofs.ArrayLemmas.{with_prefix_or_refused}

-- what an array of numbers is read as
abbrev pub numbers_said : At → Key → ℕ → ℕ → Items → Result (List ℕ) TableFault
numbers_said at k low high ds = or_refuse (Kind at k) (all_of as_natural ds) >>= all_bounded at k low high

-- the answer after some items, from whether they were within, from their numbers, and from the whole numbers of the others
abbrev pub answer_from : At → Key → ℕ → ℕ → Bool → List ℕ → List (Option ℕ) → Result (List ℕ) TableFault
answer_from at k low high true found os = with_prefix_or_refused found (all_bounded at k low high os)
answer_from at k low high false found os = Err (Range at k)

-- the same, from the other items
abbrev pub numbers_yet : At → Key → ℕ → ℕ → Bool → List ℕ → Items → Result (List ℕ) TableFault
numbers_yet at k low high within found ds = or_refuse (Kind at k) (all_of as_natural ds) >>= answer_from at k low high within found

one_more : (n : ℕ) (found : List ℕ) (r : Result (List ℕ) TableFault) → with_prefix_or_refused found (r >>= λ ns. Ok (n ∷ ns)) ≡ with_prefix_or_refused (found ++ n ∷ []) r
one_more n found (Ok ns) = ap Ok (sym (append_assoc found (n ∷ []) ns))
one_more n found (Err e) = refl

one_within : (at : At) (k : Key) (low high : ℕ) (within : Bool) (found : List ℕ) (o : Option ℕ) (os : List (Option ℕ)) (n : ℕ) → bounded_natural at k low high o ≡ Ok n
    → answer_from at k low high within found (o ∷ os) ≡ answer_from at k low high within (found ++ n ∷ []) os
unfolding all_bounded
one_within at k low high true found o os n h = rw h (one_more n found (all_bounded at k low high os))
one_within at k low high false found o os n h = refl

one_out : (at : At) (k : Key) (low high : ℕ) (within : Bool) (found : List ℕ) (o : Option ℕ) (os : List (Option ℕ)) → bounded_natural at k low high o ≡ Err (Range at k)
    → answer_from at k low high within found (o ∷ os) ≡ Err (Range at k)
unfolding all_bounded
one_out at k low high true found o os h = rw h refl
one_out at k low high false found o os h = refl

more_within : (at : At) (k : Key) (low high : ℕ) (within : Bool) (found : List ℕ) (o : Option ℕ) (r : Option (List (Option ℕ))) (n : ℕ) → bounded_natural at k low high o ≡ Ok n
    → (or_refuse (Kind at k) (option_map (λ os. o ∷ os) r) >>= answer_from at k low high within found) ≡ (or_refuse (Kind at k) r >>= answer_from at k low high within (found ++ n ∷ []))
more_within at k low high within found o None n h = refl
more_within at k low high within found o (Some os) n h = one_within at k low high within found o os n h

more_out : (at : At) (k : Key) (low high : ℕ) (within : Bool) (found : List ℕ) (o : Option ℕ) (r : Option (List (Option ℕ))) → bounded_natural at k low high o ≡ Err (Range at k)
    → (or_refuse (Kind at k) (option_map (λ os. o ∷ os) r) >>= answer_from at k low high within found) ≡ (or_refuse (Kind at k) r >>= answer_from at k low high false found)
more_out at k low high within found o None h = refl
more_out at k low high within found o (Some os) h = one_out at k low high within found o os h

in_range : (at : At) (k : Key) (low high n : ℕ) (e : TableFault) → bounded at k low high n ≡ Err e → bounded at k low high n ≡ Err (Range at k)
unfolding bounded
in_range at k low high n e h = elim (cases_Bool (nat_le low n && nat_le n high)) [
  | inl inside ↦ absurd (let g = rw inside at h in cc)
  | inr outside ↦ rw outside refl
]

-- a whole number is refused for its range alone
only_range : (at : At) (k : Key) (low high : ℕ) (o : Option ℕ) (e : TableFault) → bounded_natural at k low high o ≡ Err e → bounded_natural at k low high o ≡ Err (Range at k)
unfolding bounded_natural
only_range at k low high None e h = refl
only_range at k low high (Some n) e h = in_range at k low high n e h

-- an item whose number is within
numbers_within : (at : At) (k : Key) (low high : ℕ) (within : Bool) (found : List ℕ) (d : Data) (ds : Items) (z : ℤ) (n : ℕ) → as_integer d ≡ Some z
    → bounded_natural at k low high (natural_of z) ≡ Ok n → numbers_yet at k low high within found (item d ds) ≡ numbers_yet at k low high within (found ++ n ∷ []) ds
numbers_within at k low high within found d ds z n is h = rw is (more_within at k low high within found (natural_of z) (all_of as_natural ds) n h)

-- an item whose number is not
numbers_out : (at : At) (k : Key) (low high : ℕ) (within : Bool) (found : List ℕ) (d : Data) (ds : Items) (z : ℤ) (e : TableFault) → as_integer d ≡ Some z
    → bounded_natural at k low high (natural_of z) ≡ Err e → numbers_yet at k low high within found (item d ds) ≡ numbers_yet at k low high false found ds
numbers_out at k low high within found d ds z e is h =
    rw is (more_out at k low high within found (natural_of z) (all_of as_natural ds) (only_range at k low high (natural_of z) e h))

-- after the last item
numbers_last : (at : At) (k : Key) (low high : ℕ) (found : List ℕ) → numbers_yet at k low high true found no_items ≡ Ok found
unfolding all_bounded
numbers_last at k low high found = ap Ok (append-nil found)

-- the next of some items
next_item : (vs : List Value) (i : ℕ) (v : Value) → i < length vs → v ≡ get_or vs i v → items_view (drop i vs) ≡ item (view v) (items_view (drop (i + 1) vs))
next_item vs i v lt is = at_drop_more items_view vs i v lt ∙ ap (λ x. item (view x) (items_view (drop (i + 1) vs))) (sym is)

-- a turn of the loop whose number is within
pub turn_within : (at : At) (k : Key) (low high : ℕ) (within now : Bool) (found more : List ℕ) (vs : List Value) (i : ℕ) (v : Value) (z : ℤ) (n : ℕ) (r : Result (List ℕ) TableFault)
    → i < length vs → v ≡ get_or vs i v → as_integer (view v) ≡ Some z → bounded_natural at k low high (natural_of z) ≡ Ok n → now ≡ within → more ≡ found ++ n ∷ []
    → numbers_yet at k low high within found (items_view (drop i vs)) ≡ r → numbers_yet at k low high now more (items_view (drop (i + 1) vs)) ≡ r
turn_within at k low high within now found more vs i v z n r lt is integer bound same pushed yet =
    let rest : Items = items_view (drop (i + 1) vs) in
    ap (λ b. numbers_yet at k low high b more rest) same
    ∙ ap (λ xs. numbers_yet at k low high within xs rest) pushed
    ∙ sym (numbers_within at k low high within found (view v) rest z n integer bound)
    ∙ ap (numbers_yet at k low high within found) (sym (next_item vs i v lt is))
    ∙ yet

-- a turn of the loop whose number is not
pub turn_out : (at : At) (k : Key) (low high : ℕ) (within now : Bool) (found more : List ℕ) (vs : List Value) (i : ℕ) (v : Value) (z : ℤ) (e : TableFault) (r : Result (List ℕ) TableFault)
    → i < length vs → v ≡ get_or vs i v → as_integer (view v) ≡ Some z → bounded_natural at k low high (natural_of z) ≡ Err e → now ≡ false → more ≡ found
    → numbers_yet at k low high within found (items_view (drop i vs)) ≡ r → numbers_yet at k low high now more (items_view (drop (i + 1) vs)) ≡ r
turn_out at k low high within now found more vs i v z e r lt is integer bound out kept yet =
    let rest : Items = items_view (drop (i + 1) vs) in
    ap (λ b. numbers_yet at k low high b more rest) out
    ∙ ap (λ xs. numbers_yet at k low high false xs rest) kept
    ∙ sym (numbers_out at k low high within found (view v) rest z e integer bound)
    ∙ ap (numbers_yet at k low high within found) (sym (next_item vs i v lt is))
    ∙ yet

-- the end of the loop
pub turns_over : (at : At) (k : Key) (low high : ℕ) (within : Bool) (found : List ℕ) (vs : List Value) (i : ℕ) (r : Result (List ℕ) TableFault) → within ≡ true → length vs ≤ i
    → numbers_yet at k low high within found (items_view (drop i vs)) ≡ r → r ≡ Ok found
turns_over at k low high within found vs i r all le yet =
    sym yet
    ∙ ap (numbers_yet at k low high within found) (at_drop_all items_view vs i le)
    ∙ ap (λ b. numbers_yet at k low high b found no_items) all
    ∙ numbers_last at k low high found
