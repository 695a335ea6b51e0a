-- Values that are neither tables nor arrays that end in one.
use Rattle.std.proofs.Common.{◌≡◌, ℕ, zero, suc, ◌-◌, Bool, true, false, not, List, [], ◌∷◌, length, slice_get, Option, Some, None, is_some, option_map, refl, sym, ap, ◌∙◌, arith}
use Rattle.std.proofs.lemmas.Option.{none-some, same_Some}
use Rattle.toml.specs.Data.{Data, as_array, as_table}
use Rattle.toml.specs.View.{view, items_view}
use Rattle.toml.specs.declared.value.Value.{Value}
use Rattle.afdx_toml_split.specs.Joined.{is_plain, ends_in_table}
use Rattle.afdx_table.proofs.Says.{is_array}

pub some_mapped : {A B : Type 0} (f : A → B) (o : Option A) → is_some (option_map f o) ≡ is_some o
some_mapped f None = refl
some_mapped f (Some x) = refl

at_end : (vs : List Value) (last : Value) (n : ℕ) → length vs ≡ suc n → Some last ≡ slice_get vs n → ends_in_table (items_view vs) ≡ is_some (as_table (view last))
at_end [] last n size is = absurd (omega arith)
at_end (v ∷ []) last zero size is = ap (λ x. is_some (as_table (view x))) (sym (same_Some last v is))
at_end (v ∷ []) last (suc n) size is = absurd (omega arith)
at_end (v ∷ w ∷ vs) last zero size is = absurd (omega arith)
at_end (v ∷ w ∷ vs) last (suc n) size is = at_end (w ∷ vs) last n (omega arith) is

some_end : (vs : List Value) (last : Value) → Some last ≡ slice_get vs (length vs - 1) → ends_in_table (items_view vs) ≡ is_some (as_table (view last))
some_end [] last is = absurd (none-some last (sym is))
some_end (v ∷ vs) last is = let size : suc (length vs) - 1 ≡ length vs = omega arith in at_end (v ∷ vs) last (length vs) refl (rw size at is)

turned : (b : Bool) → b ≡ not (not b)
turned true = refl
turned false = refl

-- an array is plain where its last item is no table
pub plain_by_last : (d : Data) (vs : List Value) (last : Value) (is_none : Bool) → as_array d ≡ Some (items_view vs) → Some last ≡ slice_get vs (length vs - 1)
    → is_some (as_table (view last)) ≡ not is_none → is_none ≡ is_plain d
plain_by_last d vs last is_none is at told = turned is_none ∙ ap not (sym told ∙ sym (some_end vs last at)) ∙ sym (ap is_plain (is_array d (items_view vs) is))
