-- Rows whose jitters are given one after another: what each has then.
use Rattle.std.proofs.Common.{◌≡◌, ℕ, zero, suc, ◌*◌, ◌<◌, ◌≤◌, ◌==◌, ◌⊎◌, inl, inr, Bool, true, false, cond, nat_le, nat_lt, List, []}
use Rattle.std.proofs.Common.{◌∷◌, map, find, length, get_or, slice_get, slice_set, Option, Some, None}
use Rattle.std.proofs.Common.{refl, ap, sym, ◌∙◌, arith, subst}
use Rattle.std.specs.Prelude.{position}
use Rattle.std.specs.List.{AllByRecursion, position_or_len}
use Rattle.std.specs.Option.{option_map_or}
use Rattle.std.proofs.lemmas.Bool.{eqb-true, eq-eqb, ne_eqb, true≢false}
use Rattle.std.proofs.lemmas.Bool.Decides.{nat_tests}
use Rattle.std.proofs.lemmas.List.Folds.{find_at, find-set, find_past}
use Rattle.std.proofs.lemmas.Option.{same_Some, cond_some, slice_get-get_or}
use Rattle.afdx_table.specs.Link.{Link, with_jitter}
use Rattle.afdx_table.specs.Content.{Content, link_row, link_place}
use Rattle.afdx_table.specs.Inner.Found.{LinksAreAtTheirPlaces}
use Rattle.afdx_network_check.specs.declared.jitters.RowNeed.{RowNeed}
use Rattle.afdx_network_check.specs.Net.{Network, Row, row_in, row_at}
use Rattle.afdx_network_check.specs.Needs.{bare, DiffersInJitters}
use Rattle.afdx_network_check.specs.Inner.Given.{given_in, given, given_all}
use Rattle.afdx_network_check.proofs.NeedLemmas.{bare_same, bare_set}
use Rattle.afdx_network_check.proofs.Reaching.{found_passes}
use Rattle.afdx_network_check.proofs.Alike.{found, row_there, numbered}

-- ---- the network stays alike

abbrev pub with_tables : Network → List Content → Network
with_tables net ts = record net { tables = ts }

given_in_bare : (n : RowNeed) (t : Content) → bare (given_in n t) ≡ bare t
given_in_bare n t = by (link_place t n.link) where
  by : (o : Option ℕ) → bare (option_map_or (λ place. record t { links = with_jitter place (n.need * 1000) t.links }) o t) ≡ bare t
  by None = refl
  by (Some place) = bare_same t (record t { links = with_jitter place (n.need * 1000) t.links }) place (n.need * 1000) refl

given_bare : (n : RowNeed) (ts : List Content) → map bare (given n ts) ≡ map bare ts
given_bare n ts = by (nat_le n.need 10000) (slice_get ts n.switch) refl where
  by : (few : Bool) (o : Option Content) → slice_get ts n.switch ≡ o → map bare (cond few (option_map_or (λ t. slice_set ts n.switch (given_in n t)) o ts) ts) ≡ map bare ts
  by false o is = refl
  by true None is = refl
  by true (Some t) is = bare_set ts n.switch t (given_in n t) (at ts n.switch t is) (given_in_bare n t) where
    at : (ts : List Content) (i : ℕ) (t : Content) → slice_get ts i ≡ Some t → t ≡ get_or ts i t
    at [] i t is = absurd cc
    at (x ∷ ts) zero t is = sym (same_Some x t is)
    at (x ∷ ts) (suc i) t is = at ts i t is

pub given_alike : (ns : List RowNeed) (net : Network) → DiffersInJitters net (with_tables net (given_all ns net.tables))
given_alike [] net = (refl, refl)
given_alike (n ∷ ns) net = (refl, (given_alike ns (with_tables net (given n net.tables))).1 ∙ given_bare n net.tables)

-- ---- one link

with_set : (place jitter : ℕ) (ls : List Link) (d : Link) → place < length ls → with_jitter place jitter ls ≡ slice_set ls place (record (get_or ls place d) { jitter = jitter })
with_set place jitter [] d within = absurd (omega (arith, within))
with_set zero jitter (l ∷ ls) d within = refl
with_set (suc place) jitter (l ∷ ls) d within = ap (λ (rest : List Link). l ∷ rest) (with_set place jitter ls d (omega (arith, within)))

-- the link at the place of a number
record Placed (number place : ℕ) (ls : List Link) : Type 0 where
  pub link : Link
  pub within : place < length ls
  pub place_is : place ≡ position_or_len (numbered number) ls
  pub at : get_or ls place link ≡ link
  pub found : find (numbered number) ls ≡ Some link
  pub number_is : link.id ≡ number

placed : (number place : ℕ) (ls : List Link) → position (numbered number) ls ≡ Some place → Placed number place ls
placed number place ls is =
    let h = cond_some (nat_lt (position_or_len (numbered number) ls) (length ls)) (position_or_len (numbered number) ls) place is in
    let test = h.0 in
    let same = h.1 in
    let below : position_or_len (numbered number) ls < length ls = less (position_or_len (numbered number) ls) (length ls) test in
    let within : place < length ls = omega (arith, below, same) in
    by (slice_get ls place) refl within same where
      less : (m n : ℕ) → nat_lt m n ≡ true → m < n
      less m n test = grind (arith, nat_tests)

      by : (o : Option Link) → slice_get ls place ≡ o → place < length ls → position_or_len (numbered number) ls ≡ place → Placed number place ls
      by None none within same = absurd (none_at ls place within none) where
        none_at : (ls : List Link) (i : ℕ) → i < length ls → slice_get ls i ≡ None → ⊥
        none_at [] i within none = omega (arith, within)
        none_at (l ∷ ls) zero within none = cc
        none_at (l ∷ ls) (suc i) within none = none_at ls i (omega (arith, within)) none
      by (Some l) l_is within same =
          let found = find_at (numbered number) ls ∙ ap (slice_get ls) same ∙ l_is in
          record {
            link = l;
            within = within;
            place_is = sym same;
            at = same_Some (get_or ls place l) l (sym (slice_get-get_or ls place l within) ∙ l_is);
            found = found;
            number_is = eqb-true l.id number (found_passes (numbered number) ls l found).0;
          }

link_here : (number place jitter : ℕ) (ls : List Link) → position (numbered number) ls ≡ Some place → (l : Link) → find (numbered number) (with_jitter place jitter ls) ≡ Some l → l.jitter ≡ jitter
link_here number place jitter ls is l l_is =
    let h = placed number place ls is in
    let k : Link = get_or ls place h.link in
    let passes : numbered number (get_or ls place h.link) ≡ true = ap (numbered number) h.at ∙ (found_passes (numbered number) ls h.link h.found).0 in
    let there = ap (find (numbered number)) (with_set place jitter ls h.link h.within)
    ∙ find-set (numbered number) ls place (record (get_or ls place h.link) { jitter = jitter }) h.place_is h.within passes in
    ap (λ (q : Link). q.jitter) (same_Some l (record (get_or ls place h.link) { jitter = jitter }) (sym l_is ∙ there))

link_there : (number id place jitter : ℕ) (ls : List Link) → position (numbered number) ls ≡ Some place → (number ≡ id → ⊥) → find (numbered id) (with_jitter place jitter ls) ≡ find (numbered id) ls
link_there number id place jitter ls is other =
    let h = placed number place ls is in
    let fails : numbered id (get_or ls place h.link) ≡ false = ne_eqb (get_or ls place h.link).id id (λ same. other (sym h.number_is ∙ sym (ap (λ (q : Link). q.id) h.at) ∙ same)) in
    ap (find (numbered id)) (with_set place jitter ls h.link h.within) ∙ find_past (numbered id) ls place (record (get_or ls place h.link) { jitter = jitter }) h.link fails fails

-- ---- one table

set_here : (ts : List Content) (i : ℕ) (u t : Content) → slice_get ts i ≡ Some t → slice_get (slice_set ts i u) i ≡ Some u
set_here [] i u t is = absurd cc
set_here (x ∷ ts) zero u t is = refl
set_here (x ∷ ts) (suc i) u t is = set_here ts i u t is

set_there : (ts : List Content) (i k : ℕ) (u : Content) → (k ≡ i → ⊥) → slice_get (slice_set ts i u) k ≡ slice_get ts k
set_there [] i k u other = refl
set_there (x ∷ ts) zero zero u other = absurd (other refl)
set_there (x ∷ ts) zero (suc k) u other = refl
set_there (x ∷ ts) (suc i) zero u other = refl
set_there (x ∷ ts) (suc i) (suc k) u other = set_there ts i k u (λ same. other (ap suc same))

-- ---- one row

-- the row is the one that is given a jitter
pub record IsMeant (n : RowNeed) (switch id : ℕ) : Type 0 where
  pub switch_is : n.switch ≡ switch
  pub number_is : n.link ≡ id
  pub few : n.need ≤ 10000

-- a row that is found was there before; it has the jitter that it was given, or the one that it had
abbrev pub Says : RowNeed → Network → ℕ → ℕ → Row → Type 0
Says n net switch id r = (q : Row) × (row_at net switch id ≡ Some q) × ((IsMeant n switch id × (r.link.jitter ≡ n.need * 1000)) ⊎ ((IsMeant n switch id → ⊥) × (r.link.jitter ≡ q.link.jitter)))

pub given_says : LinksAreAtTheirPlaces → (n : RowNeed) (net : Network) (switch id : ℕ) (r : Row) → row_at (with_tables net (given n net.tables)) switch id ≡ Some r → Says n net switch id r
given_says places n net switch id r is = by (nat_le n.need 10000) refl (slice_get net.tables n.switch) refl is where
  unmeant : (few : Bool) → nat_le n.need 10000 ≡ few → few ≡ false → IsMeant n switch id → ⊥
  unmeant few test is_not meant = let fewer = meant.few in not_few n.need fewer (test ∙ is_not) where
    not_few : (m : ℕ) → m ≤ 10000 → nat_le m 10000 ≡ false → ⊥
    not_few m fewer test = grind (arith, nat_tests)

  few_of : nat_le n.need 10000 ≡ true → n.need ≤ 10000
  few_of test = few_in n.need test where
    few_in : (m : ℕ) → nat_le m 10000 ≡ true → m ≤ 10000
    few_in m test = grind (arith, nat_tests)

  same_place : (t : Content) → slice_get net.tables n.switch ≡ Some t → n.switch ≡ switch → slice_get net.tables switch ≡ Some t
  same_place t t_is same = subst (λ (k : ℕ). slice_get net.tables k ≡ Some t) same t_is

  differs : (n.link == id) ≡ false → n.link ≡ id → ⊥
  differs test same = true≢false (sym (eq-eqb n.link id same) ∙ test)

  other_number : (n.link == id) ≡ false → IsMeant n switch id → ⊥
  other_number test meant = differs test meant.number_is

  -- in the table
  in_table : nat_le n.need 10000 ≡ true → (t : Content) → slice_get net.tables n.switch ≡ Some t → n.switch ≡ switch → (o : Option ℕ) → link_place t n.link ≡ o
      → link_row (option_map_or (λ place. record t { links = with_jitter place (n.need * 1000) t.links }) o t) id ≡ Some r.link
      → (same_number : Bool) → (n.link == id) ≡ same_number → Says n net switch id r
  in_table few t t_is same None o_is l_is true number =
      let numbers = eqb-true n.link id number in
      absurd (none_some (subst (λ (k : ℕ). link_row t k ≡ None) numbers (places.none t n.link o_is)) l_is) where
        none_some : {o : Option Link} {l : Link} → o ≡ None → o ≡ Some l → ⊥
        none_some none some = cc
  in_table few t t_is same None o_is l_is false number =
      (row_in switch r.link, row_there net switch id t r.link (same_place t t_is same) l_is, inr (other_number number, refl))
  in_table few t t_is same (Some place) o_is l_is true number =
      let numbers = eqb-true n.link id number in
      let h = placed n.link place t.links o_is in
      let row_is = row_there net switch id t h.link (same_place t t_is same) (subst (λ (k : ℕ). link_row t k ≡ Some h.link) numbers h.found) in
      let jitter = link_here n.link place (n.need * 1000) t.links o_is r.link
      (subst (λ (k : ℕ). find (numbered k) (with_jitter place (n.need * 1000) t.links) ≡ Some r.link) (sym numbers) l_is) in
      (row_in switch h.link, row_is, inl (record { switch_is = same; number_is = numbers; few = few_of few }, jitter))
  in_table few t t_is same (Some place) o_is l_is false number =
      let before = sym (link_there n.link id place (n.need * 1000) t.links o_is (differs number)) ∙ l_is in
      (row_in switch r.link, row_there net switch id t r.link (same_place t t_is same) before, inr (other_number number, refl))

  by : (few : Bool) → nat_le n.need 10000 ≡ few → (o : Option Content) → slice_get net.tables n.switch ≡ o
      → row_at (with_tables net (cond few (option_map_or (λ t. slice_set net.tables n.switch (given_in n t)) o net.tables) net.tables)) switch id ≡ Some r → Says n net switch id r
  by false few o o_is row_is = (r, row_is, inr (unmeant false few refl, refl))
  by true few None o_is row_is = (r, row_is, inr (no_table, refl)) where
    no_table : IsMeant n switch id → ⊥
    no_table meant = let h = found net switch id r row_is in none_some (subst (λ (k : ℕ). slice_get net.tables k ≡ None) meant.switch_is o_is) h.table_is where
      none_some : {o : Option Content} {t : Content} → o ≡ None → o ≡ Some t → ⊥
      none_some none some = cc
  by true few (Some t) o_is row_is = at (n.switch == switch) refl where
    next : Network
    next = with_tables net (slice_set net.tables n.switch (given_in n t))

    at : (here : Bool) → (n.switch == switch) ≡ here → Says n net switch id r
    at true here =
        let same = eqb-true n.switch switch here in
        let h = found next switch id r row_is in
        let table : h.table ≡ given_in n t = same_Some h.table (given_in n t) (sym h.table_is
        ∙ subst (λ (k : ℕ). slice_get (slice_set net.tables n.switch (given_in n t)) k ≡ Some (given_in n t)) same (set_here net.tables n.switch (given_in n t) t o_is)) in
        in_table few t o_is same (link_place t n.link) refl (subst (λ (c : Content). link_row c id ≡ Some r.link) table h.link_is) (n.link == id) refl
    at false here =
        let other : switch ≡ n.switch → ⊥ = λ same. true≢false (sym (eq-eqb n.switch switch (sym same)) ∙ here) in
        let h = found next switch id r row_is in
        let before = sym (set_there net.tables n.switch switch (given_in n t) other) ∙ h.table_is in
        (row_in switch r.link, row_there net switch id h.table r.link before h.link_is, inr ((λ meant. other (sym meant.switch_is)), refl))

-- ---- one after another

-- what holds of what is given and of what was there holds of what is there then
pub given_holds : LinksAreAtTheirPlaces → (P : ℕ → Type 0) (ns : List RowNeed) (net : Network) (switch id : ℕ) → AllByRecursion (λ n. IsMeant n switch id → P (n.need * 1000)) ns
    → ((q : Row) → row_at net switch id ≡ Some q → P q.link.jitter) → (r : Row) → row_at (with_tables net (given_all ns net.tables)) switch id ≡ Some r → P r.link.jitter
given_holds places P [] net switch id each was r is = was r is
given_holds places P (n ∷ ns) net switch id each was r is =
    given_holds places P ns (with_tables net (given n net.tables)) switch id each.1 (λ q q_is. by q (given_says places n net switch id q q_is)) r is where
      by : (q : Row) → Says n net switch id q → P q.link.jitter
      by q (before, before_is, inl meant) = subst P (sym meant.1) (each.0 meant.0)
      by q (before, before_is, inr unmeant) = subst P (sym unmeant.1) (was before before_is)

-- where it is one of those that are given, what was there does not count
abbrev pub IsAmong : RowNeed → List RowNeed → Type 0
IsAmong n [] = ⊥
IsAmong n (m ∷ ms) = (m ≡ n) ⊎ IsAmong n ms

pub given_sets : LinksAreAtTheirPlaces → (P : ℕ → Type 0) (ns : List RowNeed) (net : Network) (switch id : ℕ) → AllByRecursion (λ n. IsMeant n switch id → P (n.need * 1000)) ns
    → (n : RowNeed) → IsMeant n switch id → IsAmong n ns → (r : Row) → row_at (with_tables net (given_all ns net.tables)) switch id ≡ Some r → P r.link.jitter
given_sets places P [] net switch id each n meant among r is = absurd among
given_sets places P (m ∷ ms) net switch id each n meant (inr later) r is = given_sets places P ms (with_tables net (given m net.tables)) switch id each.1 n meant later r is
given_sets places P (m ∷ ms) net switch id each n meant (inl same) r is =
    given_holds places P ms (with_tables net (given m net.tables)) switch id each.1 (λ q q_is. by q (given_says places m net switch id q q_is)) r is where
      by : (q : Row) → Says m net switch id q → P q.link.jitter
      by q (before, before_is, inl h) = subst P (sym h.1) (each.0 h.0)
      by q (before, before_is, inr h) = absurd (h.0 (subst (λ (k : RowNeed). IsMeant k switch id) (sym same) meant))
