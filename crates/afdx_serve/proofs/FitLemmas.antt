-- Whether the options of `compare` fit the table.
use Rattle.std.proofs.Common.{◌≡◌, ℕ, ◌≤◌, nat_lt, Bool, true, false, cond, List, [], ◌∷◌, find, Option, Some, None, arith, refl, sym, ap, ◌∙◌}
use Rattle.std.specs.Prelude.{◌||◌, option_map}
use Rattle.std.specs.List.{list_any}
use Rattle.std.specs.Option.{option_or}
use Rattle.std.proofs.lemmas.Bool.Decides.{nat_tests}
use Rattle.afdx_table.specs.Content.{Content}
use Rattle.afdx_messages.specs.declared.argument.ArgumentFault.TheVariants.{Span}
use Rattle.afdx_recordings.specs.declared.recordings.Recordings.{Recordings}
use Rattle.afdx_serve.specs.Fits.{Fits, port_numbers, is_missing, is_stray, latency_fault, ports_fault, offset_fault, offsets_fault, span_fault, first_argument_fault}

module _ {X : Type 0} where
  not_first : (a b : Option X) → option_or a b ≡ None → a ≡ None
  not_first None b none = refl
  not_first (Some x) b none = absurd cc

  not_second : (a b : Option X) → option_or a b ≡ None → b ≡ None
  not_second None b none = none
  not_second (Some x) b none = absurd cc

  none_found : (test : X → Bool) (xs : List X) → find test xs ≡ None → list_any test xs ≡ false
  none_found test [] none = refl
  none_found test (x ∷ xs) none = go (test x) (none_found test xs) none
    where
      go : (b : Bool) → (find test xs ≡ None → list_any test xs ≡ false) → cond b (Some x) (find test xs) ≡ None → (b || list_any test xs) ≡ false
      go true more some = absurd cc
      go false more rest = more rest

none_there : {X Y : Type 0} (f : X → Y) (o : Option X) → option_map f o ≡ None → o ≡ None
none_there f None none = refl
none_there f (Some x) none = absurd cc

not_above : {X : Type 0} (limit n : ℕ) (x : X) → cond (nat_lt limit n) (Some x) None ≡ None → n ≤ limit
not_above limit n x none = go (nat_lt limit n) refl none
  where
    go : (b : Bool) → nat_lt limit n ≡ b → cond b (Some x) None ≡ None → n ≤ limit
    go true is some = absurd cc
    go false is rest = grind (arith, nat_tests)

in_span : (a b : Option ℕ) → span_fault a b ≡ None → (from until : ℕ) → a ≡ Some from → b ≡ Some until → from ≤ until
in_span a b none from until is_from is_until =
    not_above until from (Span from until)
    (sym (ap (λ (x : Option ℕ). span_fault x b) is_from ∙ ap (λ (y : Option ℕ). span_fault (Some from) y) is_until) ∙ none)

-- no option is refused
pub options_fit : (t : Content) (r : Recordings) → first_argument_fault t r ≡ None → Fits t r
options_fit t r none =
    let later = option_or (offsets_fault t r) (span_fault r.from r.until) in
    let rest = not_second (latency_fault t r) (option_or (ports_fault t r) later) none in
    let last = not_second (ports_fault t r) later rest in
    record {
      least = not_above t.latency r.least _ (not_first (latency_fault t r) (option_or (ports_fault t r) later) none);
      ports = none_found (is_missing t r) port_numbers (none_there _ _ (not_first (ports_fault t r) later rest));
      offsets = none_found (is_stray t r) port_numbers (none_there (offset_fault t) _ (not_first (offsets_fault t r) (span_fault r.from r.until) last));
      span = in_span r.from r.until (not_second (offsets_fault t r) (span_fault r.from r.until) last);
    }
