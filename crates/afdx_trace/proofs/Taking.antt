-- The flags of the copies that each port took.
use Rattle.std.proofs.Common.{◌≡◌, ℕ, ◌+◌, ◌<◌, ◌≤◌, ◌==◌, ◌||◌, not, Bool, false, cond, List, [], ◌∷◌, ◌++◌, length, get_or, Option, None, Some, refl, sym, ap, ◌∙◌, subst, arith, inl, inr}
use Rattle.std.specs.Prelude.{find}
use Rattle.std.specs.List.{AllByRecursion, list_any}
use Rattle.std.proofs.Math.Seq.{get_or-append_seam}
use Rattle.std.proofs.lemmas.List.{get_or_append_left, get_or_past, length-append}
use Rattle.std.proofs.lemmas.Bool.{cases_lt, ne_eqb}
use Rattle.afdx_table.specs.declared.rows.PortRow.{PortRow}
use Rattle.afdx_table.specs.Content.{port_row}
use Rattle.afdx_table.specs.WellFormed.{IsPort, IsWellFormed}
use Rattle.afdx_port.specs.declared.Sent.{Sent}
use Rattle.afdx_port.specs.declared.Aged.{Aged}
use Rattle.afdx_core.specs.State.{Run, sent_in, aged_in}
use Rattle.afdx_trace.specs.Arrivals.{took, refusing}
use Rattle.afdx_trace.specs.Inner.Taken.{flag_at, unflagged, AreTaken}

-- the flags of the ports below this one
abbrev pub AreTakenBelow : Run → ℕ → List (List Bool) → Type 0
AreTakenBelow r ports flags = (port number : ℕ) → port < ports → number < length r.rows → flag_at flags port number ≡ took r port number

-- what a port took, by what it sent and discarded
pub took_is : (r : Run) (port number : ℕ) (sent : List Sent) (aged : List Aged) → sent ≡ sent_in r (port_row r.table port) → aged ≡ aged_in r (port_row r.table port)
    → (list_any (λ (x : Sent). x.item.number == number) sent || list_any (λ (x : Aged). x.item.number == number) aged) ≡ took r port number
took_is r port number sent aged sent_is aged_is = rw (sent_is, aged_is) refl

pub one_more : (all : List (List Bool)) (flags : List Bool) (port : ℕ) → length all ≡ port → length (all ++ flags ∷ []) ≡ port + 1
one_more all flags port long = length-append all (flags ∷ []) ∙ ap (λ (n : ℕ). n + 1) long

pub taken_more : (r : Run) (all : List (List Bool)) (flags : List Bool) (port : ℕ) → length all ≡ port
    → ((number : ℕ) → number < length r.rows → get_or flags number false ≡ took r port number) → AreTakenBelow r port all → AreTakenBelow r (port + 1) (all ++ flags ∷ [])
taken_more r all flags port long new before q number lt within =
    elim (cases_lt q port) [
      | inl less ↦ ap (λ (fs : List Bool). get_or fs number false) (get_or_append_left all (flags ∷ []) [] q (omega (arith, less, long))) ∙ before q number less within
      | inr more ↦ (
          let same : length all ≡ q = omega (arith, more, lt, long) in
          let here = subst (λ (n : ℕ). get_or (all ++ flags ∷ []) n [] ≡ flags) same (get_or-append_seam all flags [] []) in
          let own = subst (λ (n : ℕ). get_or flags number false ≡ took r n number) (sym long ∙ same) (new number within) in
          ap (λ (fs : List Bool). get_or fs number false) here ∙ own
          )
    ]

-- a table has no port above 24
no_port : (ports : List PortRow) (port : ℕ) → AllByRecursion IsPort ports → 24 < port → find (λ (p : PortRow). p.id == port) ports ≡ None
no_port [] port all lt = refl
no_port (p ∷ ps) port all lt =
    ap (λ (b : Bool). cond b (Some p) (find (λ (x : PortRow). x.id == port) ps)) (ne_eqb p.id port (λ e. let most = all.0.id_most in omega (arith, most, lt, e))) ∙ no_port ps port all.1 lt

none_took : (r : Run) (port number : ℕ) → port_row r.table port ≡ None → took r port number ≡ false
none_took r port number none =
    ap (λ (o : Option PortRow). list_any (λ (x : Sent). x.item.number == number) (sent_in r o) || list_any (λ (x : Aged). x.item.number == number) (aged_in r o)) none

pub taken_all : (r : Run) (all : List (List Bool)) (ports : ℕ) → IsWellFormed r.table → 25 ≤ ports → length all ≡ ports → AreTakenBelow r ports all → AreTaken r all
taken_all r all ports well enough long below_it q number within =
    elim (cases_lt q ports) [
      | inl less ↦ below_it q number less within
      | inr more ↦
          ap (λ (fs : List Bool). get_or fs number false) (get_or_past all q [] (omega (arith, more, long)))
          ∙ sym (none_took r q number (no_port r.table.ports q well.ports (omega (arith, more, enough))))
    ]

-- those without a flag refused it
pub unflagged_refuse : (r : Run) (flags : List (List Bool)) (number : ℕ) (to : List ℕ) → AreTaken r flags → number < length r.rows → unflagged flags number to ≡ refusing r number to
unflagged_refuse r flags number [] taken within = refl
unflagged_refuse r flags number (port ∷ ports) taken within =
    ap (λ (b : Bool). cond (not b) (port ∷ unflagged flags number ports) (unflagged flags number ports)) (taken port number within)
    ∙ ap (λ (others : List ℕ). cond (not (took r port number)) (port ∷ others) others) (unflagged_refuse r flags number ports taken within)
