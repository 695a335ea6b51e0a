-- Places of arrivals among those of their ports.
use Rattle.std.proofs.Common.{◌≡◌, ℕ, suc, ◌<◌, ◌+◌, ◌==◌, Bool, List, [], ◌∷◌, ◌++◌, map, length, take, drop, get_or, set, slice_get, Option, Some, None}
use Rattle.std.proofs.Common.{refl, ap, sym, ◌∙◌, inl, inr, append_assoc, add-one, get_or-set_same, get_or-set_other}
use Rattle.std.specs.Prelude.{Vec, option_map, option_and_then}
use Rattle.std.specs.List.{count_by}
use Rattle.std.proofs.Math.Seq.{drop-cons, take-suc}
use Rattle.std.proofs.lemmas.Bool.{cases_eq, eq-eqb, ne_eqb}
use Rattle.std.proofs.lemmas.List.Sums.{count_by_more_yes, count_by_more_no}
use Rattle.std.proofs.lemmas.Option.{same_Some, slice_get-map, slice_get_read}
use Rattle.afdx_core.specs.declared.step.Row.{Row}
use Rattle.afdx_core.specs.Rows.{each_after}
use Rattle.afdx_core.specs.State.{State}
use Rattle.afdx_network_trace.specs.First.{place_of, places_of, place_at}

abbrev pub at_port : ℕ → Row → Bool
at_port port = λ (other : Row). other.in_port == port

abbrev pub one_place : List Row → Row → List ℕ
one_place = λ before row. place_of before row ∷ []

none_some : (xs : List ℕ) → None ≡ Some xs → ⊥
none_some xs e = absurd cc

-- one more arrival has its place
pub places_more : (rows : List Row) (i : ℕ) (row : Row) (places : List ℕ) (count : ℕ) → i < length rows → get_or rows i row ≡ row → count ≡ place_of (take i rows) row
    → places_of rows ≡ places ++ each_after one_place (take i rows) (drop i rows) → places_of rows ≡ (places ++ count ∷ []) ++ each_after one_place (take (i + 1) rows) (drop (i + 1) rows)
places_more rows i row places count lt is counted was =
    was
    ∙ ap (λ (rest : List Row). places ++ each_after one_place (take i rows) rest) (drop-cons rows i row lt ∙ ap (λ (r : Row). r ∷ drop (suc i) rows) is ∙ ap (λ n. row ∷ drop n rows) (sym (add-one i)))
    ∙ ap (λ n. places ++ (n ∷ each_after one_place (take i rows ++ row ∷ []) (drop (i + 1) rows))) (sym counted)
    ∙ ap (λ (before : List Row). places ++ (count ∷ each_after one_place before (drop (i + 1) rows))) (sym (taken))
    ∙ sym (append_assoc places (count ∷ []) (each_after one_place (take (i + 1) rows) (drop (i + 1) rows))) where
      taken : take (i + 1) rows ≡ take i rows ++ row ∷ []
      taken = ap (λ n. take n rows) (add-one i) ∙ take-suc rows i row lt ∙ ap (λ (r : Row). take i rows ++ r ∷ []) is

-- and its port one arrival more
pub counts_more : (rows : List Row) (i : ℕ) (row : Row) (here : ℕ) (counts : List ℕ) → i < length rows → get_or rows i row ≡ row → row.in_port ≡ here → here < length counts
    → ((port : ℕ) → port < 256 → get_or counts port 0 ≡ count_by (at_port port) (take i rows))
    → (port : ℕ) → port < 256 → get_or (set counts here (get_or counts here 0 + 1)) port 0 ≡ count_by (at_port port) (take (i + 1) rows)
counts_more rows i row here counts lt is at within counted port small = elim (cases_eq here port) [
  | inl same ↦
      ap (λ k. get_or (set counts here (get_or counts here 0 + 1)) k 0) (sym same)
      ∙ get_or-set_same counts here (get_or counts here 0 + 1) 0 within
      ∙ ap (λ n. n + 1) (ap (λ k. get_or counts k 0) same ∙ counted port small)
      ∙ sym (count_by_more_yes (at_port port) rows i row lt (ap (λ (r : Row). r.in_port == port) is ∙ eq-eqb row.in_port port (at ∙ same)))
  | inr other ↦
      get_or-set_other counts here port (get_or counts here 0 + 1) 0 (λ e. other (sym e))
      ∙ counted port small
      ∙ sym (count_by_more_no (at_port port) rows i row lt (ap (λ (r : Row). r.in_port == port) is ∙ ne_eqb row.in_port port (λ e. other (sym at ∙ e))))
]

-- ---- the places at a switch

-- they are there where the switch's arrivals are
pub place_there : {Z : Type 0} (runs : List State) (places : List (Vec ℕ Z)) → map (λ (v : Vec ℕ Z). v.items) places ≡ map (λ (s : State). places_of s.run.rows) runs
    → (switch number : ℕ) (v : Vec ℕ Z) → switch < length places → v ≡ get_or places switch v → slice_get v.items number ≡ place_at runs switch number
place_there {Z} runs places are switch number v lt is = by (slice_get runs switch) refl (sym (slice_get-map own runs switch) ∙ ap (λ (ps : List (List ℕ)). slice_get ps switch) (sym are)
    ∙ slice_get-map items places switch ∙ ap (option_map items) (slice_get_read places (length places) switch v refl lt is)) where
      own : State → List ℕ
      own = λ s. places_of s.run.rows

      items : Vec ℕ Z → List ℕ
      items = λ w. w.items

      by : (o : Option State) → slice_get runs switch ≡ o → option_map own (slice_get runs switch) ≡ Some v.items → slice_get v.items number ≡ place_at runs switch number
      by None there all = absurd (none_some v.items (sym (ap (option_map own) there) ∙ all))
      by (Some s) there all =
          ap (λ (ps : List ℕ). slice_get ps number) (sym (same_Some (own s) v.items (sym (ap (option_map own) there) ∙ all)))
          ∙ sym (ap (option_and_then (λ (x : State). slice_get (places_of x.run.rows) number)) there)
