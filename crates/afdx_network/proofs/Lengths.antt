-- A way back has each switch at most once.
use Rattle.std.proofs.Common.{◌≡◌, ℕ, ◌<◌, ◌≤◌, ◌==◌, Bool, true, false, List, [], ◌∷◌, length, map}
use Rattle.std.proofs.Common.{slice_get, Option, Some, None, option_map, option_and_then, refl, ap, sym, ◌∙◌, arith, subst}
use Rattle.std.specs.Prelude.{All, Contains}
use Rattle.std.specs.List.{AllByRecursion, IsDistinct}
use Rattle.std.proofs.lemmas.List.{length-map}
use Rattle.std.proofs.lemmas.Option.{slice_get_within, same_Some}
use Rattle.std.proofs.lemmas.Map.Steps.{length-le_from_distinct_below}
use Rattle.std.proofs.lemmas.Map.Views.{Contains-from_any}
use Rattle.std.proofs.lemmas.Bool.{eqb-true}
use Rattle.afdx_table.specs.Link.{Link}
use Rattle.afdx_table.specs.Content.{Content, link_row}
use Rattle.afdx_table.specs.WellFormed.{IsWellFormed}
use Rattle.afdx_table.specs.Inner.Found.{LinksAreFound}
use Rattle.afdx_wiring.specs.declared.layout.Wire.{Wire}
use Rattle.afdx_network_check.specs.Net.{Network, Row, Back, row_at, row_in, rows_of, IsWayBack}
use Rattle.afdx_network_check.specs.Inner.Tabled.{RowsAreOfTables}
use Rattle.afdx_network.proofs.Lists.{all_weaken, all_map}
use Rattle.afdx_network.proofs.Found.{all_at, of_all}
use Rattle.afdx_network.proofs.Rows.{row_is}

-- what is found under a number has it, at a switch of the network
pub record IsFound (net : Network) (switch id : ℕ) (r : Row) : Type 0 where
  pub table : Content
  pub table_is : slice_get net.tables switch ≡ Some table
  pub known : Contains table.links r.link
  pub switch_is : r.switch ≡ switch
  pub number : r.link.id ≡ id

none_some : {X : Type 0} {o : Option X} {x : X} → o ≡ None → o ≡ Some x → ⊥
none_some none some = cc

module _ (links : LinksAreFound) (net : Network) where
  pub found_row : (switch id : ℕ) (r : Row) → row_at net switch id ≡ Some r → IsFound net switch id r
  found_row switch id r is = by_table (slice_get net.tables switch) refl is where
    by_link : (t : Content) → slice_get net.tables switch ≡ Some t → (o : Option Link) → link_row t id ≡ o → option_map (row_in switch) o ≡ Some r → IsFound net switch id r
    by_link t table_is None link_is none = absurd cc
    by_link t table_is (Some l) link_is some =
        let same : row_in switch l ≡ r = same_Some (row_in switch l) r some in
        let h = links.is_row t id l link_is in
        record {
          table = t;
          table_is = table_is;
          known = subst (λ (q : Row). Contains t.links q.link) same h.1;
          switch_is = ap (λ (q : Row). q.switch) (sym same);
          number = ap (λ (q : Row). q.link.id) (sym same) ∙ h.0;
        }

    by_table : (o : Option Content) → slice_get net.tables switch ≡ o → option_and_then (λ t. option_map (row_in switch) (link_row t id)) o ≡ Some r → IsFound net switch id r
    by_table None table_is none = absurd cc
    by_table (Some t) table_is some = by_link t table_is (link_row t id) refl some

  -- ---- there is one way back

  one_back : (r : Row) (xs ys : List Back) → IsWayBack net r xs → IsWayBack net r ys → length xs ≡ length ys
  one_back r [] [] one two = refl
  one_back r [] (y ∷ ys) one two = absurd (none_some one two.0)
  one_back r (x ∷ xs) [] one two = absurd (none_some two one.0)
  one_back r (x ∷ xs) (y ∷ ys) one two =
      let wire : y.wire ≡ x.wire = same_Some y.wire x.wire (sym two.0 ∙ one.0) in
      let row : y.row ≡ x.row = same_Some y.row x.row (sym two.1 ∙ ap (λ (w : Wire). row_at net w.from.switch r.link.id) wire ∙ one.1) in
      let rest = one_back x.row xs ys one.3 (subst (λ (q : Row). IsWayBack net q ys) row two.3) in
      omega (arith, rest)

  -- a row on the way has a shorter way
  record IsBehind (id limit : ℕ) (b : Back) : Type 0 where
    pub found : row_at net b.row.switch id ≡ Some b.row
    pub more : List Back
    pub way : IsWayBack net b.row more
    pub fewer : length more < limit

  one_behind : (r : Row) (b : Back) → row_at net b.wire.from.switch r.link.id ≡ Some b.row → (row_at net b.row.switch r.link.id ≡ Some b.row) × (b.row.link.id ≡ r.link.id)
  one_behind r b is =
      let h = found_row b.wire.from.switch r.link.id b.row is in
      (ap (λ (n : ℕ). row_at net n r.link.id) h.switch_is ∙ is, h.number)

  behind : (r : Row) (backs : List Back) (limit : ℕ) → length backs ≤ limit → IsWayBack net r backs → AllByRecursion (IsBehind r.link.id limit) backs
  behind r [] limit few way = tt
  behind r (b ∷ backs) limit few way =
      let h = one_behind r b way.1 in (
        record { found = h.0; more = backs; way = way.3; fewer = omega (arith, few) },
        subst (λ (id : ℕ). AllByRecursion (IsBehind id limit) backs) h.1 (behind b.row backs limit (omega (arith, few)) way.3),
      )

  abbrev switches : List Back → List ℕ
  switches backs = map (λ (b : Back). b.row.switch) backs

  other_switch : (r : Row) (backs : List Back) → row_at net r.switch r.link.id ≡ Some r → IsWayBack net r backs → (b : Back) → IsBehind r.link.id (length backs) b
      → (r.switch == b.row.switch) ≡ false
  other_switch r backs is way b h = by (r.switch == b.row.switch) refl where
    by : (c : Bool) → (r.switch == b.row.switch) ≡ c → c ≡ false
    by false other = refl
    by true same =
        let row : b.row ≡ r = same_Some b.row r (sym h.found ∙ ap (λ (n : ℕ). row_at net n r.link.id) (sym (eqb-true r.switch b.row.switch same)) ∙ is) in
        let lengths = one_back r h.more backs (subst (λ (q : Row). IsWayBack net q h.more) row h.way) way in
        let fewer = h.fewer in
        absurd (omega (arith, lengths, fewer))

  are_distinct : (r : Row) (backs : List Back) → row_at net r.switch r.link.id ≡ Some r → IsWayBack net r backs → IsDistinct (λ m n. m == n) (r.switch ∷ switches backs)
  unfolding IsDistinct
  are_distinct r [] is way = (tt, tt)
  are_distinct r (b ∷ backs) is way =
      let h = one_behind r b way.1 in
      let others : AllByRecursion (λ (n : ℕ). (r.switch == n) ≡ false) (switches (b ∷ backs))
      = all_map (λ (n : ℕ). (r.switch == n) ≡ false) (λ (c : Back). c.row.switch) (b ∷ backs)
      (all_weaken (IsBehind r.link.id (length (b ∷ backs))) (λ (c : Back). (r.switch == c.row.switch) ≡ false) (b ∷ backs) (other_switch r (b ∷ backs) is way)
      (behind r (b ∷ backs) (length (b ∷ backs)) (omega arith) way)) in
      (others, are_distinct b.row backs (ap (row_at net b.row.switch) h.1 ∙ h.0) way.3)

  there_below : (r : Row) (backs : List Back) → r.switch < length net.tables → IsWayBack net r backs → AllByRecursion (λ (n : ℕ). n < length net.tables) (r.switch ∷ switches backs)
  there_below r [] first way = (first, tt)
  there_below r (b ∷ backs) first way =
      let h = found_row b.wire.from.switch r.link.id b.row way.1 in
      let within = slice_get_within net.tables b.wire.from.switch h.table h.table_is in
      (first, there_below b.row backs (subst (λ (n : ℕ). n < length net.tables) (sym h.switch_is) within) way.3)

  pub ways_are_short : RowsAreOfTables → (r : Row) (backs : List Back) → All IsWellFormed net.tables → Contains (rows_of net) r → IsWayBack net r backs → length backs < length net.tables
  ways_are_short rows r backs formed among way =
      let h = rows net r among in
      let switch = h.switch in
      let place : h.place ≡ r.switch = omega (arith, switch) in
      let there : slice_get net.tables r.switch ≡ Some h.table = subst (λ (n : ℕ). slice_get net.tables n ≡ Some h.table) place h.table_is in
      let is = row_is links net r h.table there (all_at IsWellFormed net.tables r.switch h.table formed there) h.known in
      let all = there_below r backs (slice_get_within net.tables r.switch h.table there) way in
      let count = length-le_from_distinct_below (r.switch ∷ switches backs) (length net.tables) (are_distinct r backs is way)
      (λ q h. of_all (λ (n : ℕ). n < length net.tables) (r.switch ∷ switches backs) q all (Contains-from_any eqb-true q (r.switch ∷ switches backs) h)) in
      let lengths = length-map backs (λ (b : Back). b.row.switch) in
      omega (arith, count, lengths)
