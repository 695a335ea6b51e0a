-- How many arrivals came in at each port.
use Rattle.std.proofs.Common.{◌≡◌, ℕ, ◌+◌, ◌==◌, Bool, true, false, cond, List, [], ◌∷◌, ◌++◌, length, get_or, set, get_or-set_same, get_or-set_other, sym, ap, ◌∙◌, arith, inl, inr}
use Rattle.std.specs.Prelude.{◌⊎◌, count_by}
use Rattle.std.proofs.lemmas.Bool.{cases_eq, eq-eqb, ne_eqb}
use Rattle.std.proofs.lemmas.List.Sums.{sum_by_push}
use Rattle.afdx_core.specs.declared.step.Row.{Row}
use Rattle.afdx_trace.specs.Inner.Tracing.{AreCounted}

-- one arrival more is counted at its port, and at no other
pub one_more : (before : List Row) (row : Row) (records : List ℕ) (at number : ℕ) → length records ≡ 256 → at ≡ row.in_port → number ≡ get_or records at 0 + 1 → AreCounted before records
    → AreCounted (before ++ row ∷ []) (set records at number)
one_more before row records at number long is one counted port within = by (cases_eq port at) where
  pushed : (b : Bool) → (row.in_port == port) ≡ b → count_by (λ (r : Row). r.in_port == port) (before ++ row ∷ []) ≡ count_by (λ (r : Row). r.in_port == port) before + cond b 1 0
  pushed b same = sum_by_push (λ (r : Row). cond (r.in_port == port) 1 0) before row ∙ ap (λ (c : Bool). count_by (λ (r : Row). r.in_port == port) before + cond c 1 0) same

  by : (port ≡ at) ⊎ (port ≡ at → ⊥) → get_or (set records at number) port 0 ≡ count_by (λ (r : Row). r.in_port == port) (before ++ row ∷ [])
  by (inl same) =
      ap (λ (n : ℕ). get_or (set records at number) n 0) same ∙ get_or-set_same records at number 0 (omega (arith, long, same, within)) ∙ one
      ∙ ap (λ (n : ℕ). n + 1) (ap (λ (n : ℕ). get_or records n 0) (sym same) ∙ counted port within) ∙ sym (pushed true (eq-eqb row.in_port port (sym is ∙ sym same)))
  by (inr ne) = get_or-set_other records at port number 0 ne ∙ counted port within ∙ omega arith ∙ sym (pushed false (ne_eqb row.in_port port (λ e. ne (sym e ∙ sym is))))
