-- Places of ports.
use Rattle.std.proofs.Common.{◌≡◌, ◌≢◌, ℕ, ◌+◌, ◌<◌, ◌≤◌, ◌==◌, Bool, Some, subst, List, [], ◌∷◌, set, get_or, length, refl, sym, ap, ◌∙◌, arith, zero, suc, inl, inr, get_or-set_other}
use Rattle.std.proofs.Common.{get_or-set_same}
use Rattle.std.specs.Prelude.{All, find, option_map}
use Rattle.std.proofs.lemmas.Bool.{cases_Bool, cases_lt}
use Rattle.std.proofs.lemmas.List.Elements.{All-from_recursion, All-head, All-tail}
use Rattle.std.specs.List.{AllByRecursion}
use Rattle.afdx_units.specs.declared.line.Speed.{Speed}
use Rattle.afdx_table.specs.declared.rows.PortRow.{PortRow}
use Rattle.afdx_table.specs.Content.{Content, port_row}
use Rattle.afdx_table.specs.WellFormed.{IsPort, Rises}
use Rattle.afdx_load.specs.Load.{Load, asked_of, behind, load_of, port_load}
use Rattle.afdx_load.specs.Inner.Slots.{speed_at, AreLoads}

pub any_default : (rows : List PortRow) (i : ℕ) (d e : PortRow) → i < length rows → get_or rows i d ≡ get_or rows i e
any_default [] i d e h = absurd (omega arith)
any_default (row ∷ rows) zero d e h = refl
any_default (row ∷ rows) (suc i) d e h = any_default rows i d e (omega arith)

above : (id : ℕ) (rows : List PortRow) (j : ℕ) (e : PortRow) → AllByRecursion (λ q. id < q.id) rows → j < length rows → id < (get_or rows j e).id
above id rows j e h within = All-from_recursion (λ q. id < q.id) rows h j e within

pub rise : (rows : List PortRow) (i j : ℕ) (d e : PortRow) → Rises rows → i < j → j < length rows → (get_or rows i d).id < (get_or rows j e).id
rise [] i j d e h lt within = absurd (omega arith)
rise (row ∷ rows) zero zero d e h lt within = absurd (omega arith)
rise (row ∷ rows) (suc i) zero d e h lt within = absurd (omega arith)
rise (row ∷ rows) zero (suc j) d e h lt within = above row.id rows j e h.0 (omega arith)
rise (row ∷ rows) (suc i) (suc j) d e h lt within = rise rows i j d e h.1 (omega arith) (omega arith)

pub id_small : (rows : List PortRow) (i : ℕ) (e : PortRow) → AllByRecursion IsPort rows → i < length rows → (get_or rows i e).id < 25
id_small rows i e h within =
    let most : (get_or rows i e).id ≤ 24 = (All-from_recursion IsPort rows h i e within).id_most in omega (arith, most)

-- after the row at i was written
pub placed : (rows : List PortRow) (speeds : List Speed) (i slot : ℕ) (e : PortRow) → AllByRecursion IsPort rows → Rises rows → i < length rows → length speeds ≡ 25
    → slot ≡ (get_or rows i e).id
    → ((k : ℕ) (d : PortRow) → k < i → speed_at speeds (get_or rows k d).id ≡ (get_or rows k d).speed)
    → (k : ℕ) (d : PortRow) → k < i + 1 → speed_at (set speeds slot (get_or rows i e).speed) (get_or rows k d).id ≡ (get_or rows k d).speed
placed rows speeds i slot e ports order within long slot-is before k d lt =
    let small : slot < length speeds = omega (arith, id_small rows i e ports within) in
    elim (cases_lt k i) [
      | inl less ↦
          let apart : (get_or rows k d).id ≢ slot = let below = rise rows k i d e order less within in omega arith in
          rw get_or-set_other (before k d less)
      | inr more ↦
          let here : k ≡ i = omega arith in
          let row-is : get_or rows k d ≡ get_or rows i e = ap (λ (n : ℕ). get_or rows n d) here ∙ any_default rows i d e within in
          let id-is : (get_or rows k d).id ≡ slot = ap (λ (r : PortRow). r.id) row-is ∙ sym slot-is in
          rw id-is (rw get_or-set_same (sym (ap (λ (r : PortRow). r.speed) row-is)))
    ]

-- what holds of each port holds of the one that is found
each_found : (P : PortRow → Type 0) (test : PortRow → Bool) (rows : List PortRow) (row : PortRow) → All P rows → Some row ≡ find test rows → P row
each_found P test [] row all found = absurd cc
each_found P test (r ∷ rows) row all found = elim (cases_Bool (test r)) [
  | inl here ↦
      let is : Some row ≡ Some r = rw here at found in
      let same : row ≡ r = cc in
      subst P (sym same) (All-head P r rows all)
  | inr later ↦ each_found P test rows row (All-tail P r rows all) (rw later at found)
]

-- a port's load is found in its place
pub slot_found : (c : Content) (slots : List Load) (port slot : ℕ) (row : PortRow) (d : Load) → AreLoads c.links c.ports slots → Some row ≡ port_row c port → slot ≡ row.id
    → Some (behind c.latency (get_or slots slot d)) ≡ port_load c port
slot_found c slots port slot row d loads found is =
    let placed_at = each_found (λ r. (r.id < 25) × ((e : Load) → get_or slots r.id e ≡ asked_of r.speed r.id c.links)) (λ r. r.id == port) c.ports row loads found in
    ap (λ (n : ℕ). Some (behind c.latency (get_or slots n d))) is ∙ ap (λ (s : Load). Some (behind c.latency s)) (placed_at.1 d)
    ∙ ap (option_map (λ (r : PortRow). load_of c.latency r.speed r.id c.links)) found
