-- The table of the ports' places, by their numbers.
use Rattle.std.proofs.Common.{◌≡◌, ◌≢◌, ℕ, ◌+◌, ◌<◌, ◌≤◌, ◌==◌, List, length, get_or, set, position, Option, Some, None, All, ◌∙◌, sym}
use Rattle.std.proofs.Common.{refl, arith, subst, ⊎_elim}
use Rattle.std.proofs.lemmas.Bool.{cases_eq, cases_lt, eqb-true}
use Rattle.std.proofs.lemmas.List.{get_or-set_same, get_or-set_other, get_or_past}
use Rattle.std.proofs.lemmas.List.Quantifiers.{position-Some}
use Rattle.afdx_table.specs.declared.rows.PortRow.{PortRow}
use Rattle.afdx_table.specs.WellFormed.{IsPort}
use Rattle.afdx_core.specs.Inner.OutputPorts.{PlacesAre}
use Rattle.afdx_core.proofs.Calls.{position_within, some_of}

pub places_step : (places : List (Option ℕ)) (ports : List PortRow) (n : ℕ) (r : Option ℕ) → n < length places
    → ((port : ℕ) → port < n → get_or places port None ≡ position (λ (p : PortRow). p.id == port) ports)
    → r ≡ position (λ (p : PortRow). p.id == n) ports → (port : ℕ) → port < n + 1 → get_or (set places n r) port None ≡ position (λ (p : PortRow). p.id == port) ports
places_step places ports n r lt before is port plt = ⊎_elim
    (λ (here : port ≡ n). subst (λ j. get_or (set places n r) j None ≡ position (λ (p : PortRow). p.id == j) ports) (sym here) (get_or-set_same places n r None lt ∙ is))
    (λ (ne : port ≢ n). get_or-set_other places n port r None ne ∙ before port (omega (arith, plt, ne)))
    (cases_eq port n)

-- no port has a number above 24
no_port : (ports : List PortRow) (port : ℕ) → All IsPort ports → 25 ≤ port → position (λ (p : PortRow). p.id == port) ports ≡ None
no_port ports port all le = by_found (position (λ (p : PortRow). p.id == port) ports) refl where
  by_found : (r : Option ℕ) → position (λ (p : PortRow). p.id == port) ports ≡ r → position (λ (p : PortRow). p.id == port) ports ≡ None
  by_found None is = is
  by_found (Some k) is =
      let lt = position_within (λ (p : PortRow). p.id == port) ports k is in
      let d = some_of ports k lt in
      let f = position-Some (λ (p : PortRow). p.id == port) ports k d is in
      let most = (all k d lt).id_most in
      let same = eqb-true (get_or ports k d).id port f.1 in
      absurd (omega (arith, most, same, le))

pub places_end : (places : List (Option ℕ)) (ports : List PortRow) (n : ℕ) → length places ≡ 25 → 25 ≤ n → All IsPort ports
    → ((port : ℕ) → port < n → get_or places port None ≡ position (λ (p : PortRow). p.id == port) ports) → PlacesAre places ports
places_end places ports n long le all each port = ⊎_elim
    (λ (lt : port < 25). each port (omega (arith, lt, le)))
    (λ (ge : 25 ≤ port). get_or_past places port None (omega (arith, long, ge)) ∙ sym (no_port ports port all ge))
    (cases_lt port 25)
