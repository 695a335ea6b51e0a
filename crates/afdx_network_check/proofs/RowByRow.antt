-- Rows of two networks that differ in their jitters alone, row by row and by their numbers.
use Rattle.std.proofs.Common.{◌≡◌, ℕ, zero, suc, ◌+◌, List, [], ◌∷◌, ◌++◌, map, get_or, slice_get, Some, refl, ap, sym, ◌∙◌, arith, subst}
use Rattle.std.specs.Prelude.{All, Contains}
use Rattle.std.specs.List.{AllZip}
use Rattle.std.proofs.lemmas.List.{length-map, get_or-map}
use Rattle.std.proofs.lemmas.List.Elements.{AllZip-get_or, length_all_zip, Contains-append_left, Contains-append_right, Contains-get_or}
use Rattle.std.proofs.lemmas.Option.{same_Some}
use Rattle.afdx_table.specs.Link.{Link}
use Rattle.afdx_table.specs.Content.{Content}
use Rattle.afdx_table.specs.WellFormed.{IsWellFormed}
use Rattle.afdx_table.specs.Inner.Found.{LinksAreFound}
use Rattle.afdx_network_check.specs.Net.{Network, Row, row_in, rows_in, rows_from, rows_of, row_at}
use Rattle.afdx_network_check.specs.Needs.{bare_link, bare, DiffersInJitters}
use Rattle.afdx_network_check.proofs.Alike.{found, known, first_same, rest_same, contains_tail}

-- of one switch and one number
abbrev pub AreOne : Row → Row → Type 0
AreOne r s = (s.switch ≡ r.switch) × (s.link.id ≡ r.link.id)

zip_append : (R : Row → Row → Type 0) (xs us ys vs : List Row) → AllZip R xs us → AllZip R ys vs → AllZip R (xs ++ ys) (us ++ vs)
zip_append R [] [] ys vs one two = two
zip_append R [] (u ∷ us) ys vs one two = absurd one
zip_append R (x ∷ xs) [] ys vs one two = absurd one
zip_append R (x ∷ xs) (u ∷ us) ys vs one two = (one.0, zip_append R xs us ys vs one.1 two)

ones_in : (n : ℕ) (ls ms : List Link) → map bare_link ms ≡ map bare_link ls → AllZip AreOne (rows_in n ls) (rows_in n ms)
ones_in n [] [] same = tt
ones_in n [] (m ∷ ms) same = absurd cc
ones_in n (l ∷ ls) [] same = absurd cc
ones_in n (l ∷ ls) (m ∷ ms) same = ((refl, ap (λ (k : Link). k.id) (first_same bare_link l m ls ms same)), ones_in n ls ms (rest_same bare_link l m ls ms same))

ones_from : (n : ℕ) (ts us : List Content) → map bare us ≡ map bare ts → AllZip AreOne (rows_from n ts) (rows_from n us)
ones_from n [] [] same = tt
ones_from n [] (u ∷ us) same = absurd cc
ones_from n (t ∷ ts) [] same = absurd cc
ones_from n (t ∷ ts) (u ∷ us) same =
    zip_append AreOne (rows_in n t.links) (rows_in n u.links) (rows_from (n + 1) ts) (rows_from (n + 1) us)
    (ones_in n t.links u.links (ap (λ (c : Content). c.links) (first_same bare t u ts us same)))
    (ones_from (n + 1) ts us (rest_same bare t u ts us same))

narrowed : (R S : Row → Row → Type 0) (xs ys : List Row) → ((x y : Row) → Contains xs x → Contains ys y → R x y → S x y) → AllZip R xs ys → AllZip S xs ys
narrowed R S [] [] each all = tt
narrowed R S [] (y ∷ ys) each all = absurd all
narrowed R S (x ∷ xs) [] each all = absurd all
narrowed R S (x ∷ xs) (y ∷ ys) each all =
    (each x y (0, omega arith, refl) (0, omega arith, refl) all.0, narrowed R S xs ys (λ u v u_in v_in h. each u v (contains_tail xs u x u_in) (contains_tail ys v y v_in) h) all.1)

-- ---- the rows of a network

in_rows : (n m k : ℕ) (ts : List Content) (t : Content) (l : Link) → m ≡ n + k → slice_get ts k ≡ Some t → Contains t.links l → Contains (rows_from n ts) (row_in m l)
in_rows n m k [] t l place is among = absurd cc
in_rows n m zero (u ∷ ts) t l place is among =
    let here : m ≡ n = omega (arith, place) in
    let same : u ≡ t = same_Some u t is in
    let within = among.1 in
    let long = length-map t.links (row_in n) in
    let there : Contains (rows_in n t.links) (row_in n l)
    = (among.0, omega (arith, within, long), get_or-map (row_in n) t.links among.0 l (row_in n l) among.1 ∙ ap (row_in n) among.2) in
    subst (λ (j : ℕ). Contains (rows_from n (u ∷ ts)) (row_in j l)) (sym here)
    (Contains-append_left (rows_in n u.links) (rows_from (n + 1) ts) (row_in n l) (subst (λ (c : Content). Contains (rows_in n c.links) (row_in n l)) (sym same) there))
in_rows n m (suc k) (u ∷ ts) t l place is among =
    Contains-append_right (rows_in n u.links) (rows_from (n + 1) ts) (row_in m l) (in_rows (n + 1) m k ts t l (omega (arith, place)) is among)

pub among_rows : LinksAreFound → (net : Network) (switch id : ℕ) (r : Row) → row_at net switch id ≡ Some r → Contains (rows_of net) r
among_rows links net switch id r is =
    let h = found net switch id r is in
    let member = links.is_row h.table id r.link h.link_is in
    let switch_is = h.switch_is in
    in_rows 0 r.switch switch net.tables h.table r.link (omega (arith, switch_is)) h.table_is member.1

-- a row under a number has it
pub number_of : LinksAreFound → (net : Network) (switch id : ℕ) (r : Row) → row_at net switch id ≡ Some r → (r.switch ≡ switch) × (r.link.id ≡ id)
number_of links net switch id r is = let h = found net switch id r is in (h.switch_is, (links.is_row h.table id r.link h.link_is).0)

-- ---- row by row, and by number

pub record Both (net other : Network) : Type 0 where
  pub links : LinksAreFound
  pub differs : DiffersInJitters net other
  pub here : All IsWellFormed net.tables
  pub there : All IsWellFormed other.tables

-- the row of that switch and number
pub known_as : LinksAreFound → (net : Network) → All IsWellFormed net.tables → (switch id : ℕ) (r : Row) → Contains (rows_of net) r → r.switch ≡ switch → r.link.id ≡ id → row_at net switch id ≡ Some r
known_as links net formed switch id r among at number =
    subst (λ (n : ℕ). row_at net n id ≡ Some r) at (subst (λ (n : ℕ). row_at net r.switch n ≡ Some r) number (known links net formed r among))

pub row_by_row : (net other : Network) → Both net other → (P : Row → Row → Type 0)
    → ((switch id : ℕ) (r s : Row) → row_at net switch id ≡ Some r → row_at other switch id ≡ Some s → P r s) → AllZip P (rows_of net) (rows_of other)
row_by_row net other both P each =
    narrowed AreOne P (rows_of net) (rows_of other)
    (λ r s r_in s_in one. each r.switch r.link.id r s (known both.links net both.here r r_in) (known_as both.links other both.there r.switch r.link.id s s_in one.0 one.1))
    (ones_from 0 net.tables other.tables both.differs.1)

pub by_number : (net other : Network) → Both net other → (P : Row → Row → Type 0) → AllZip P (rows_of net) (rows_of other)
    → (switch id : ℕ) (r s : Row) → row_at net switch id ≡ Some r → row_at other switch id ≡ Some s → P r s
by_number net other both P all switch id r s r_is s_is =
    let among = among_rows both.links net switch id r r_is in
    let ones = ones_from 0 net.tables other.tables both.differs.1 in
    let q : Row = get_or (rows_of other) among.0 s in
    let within = among.1 in
    let long = length_all_zip AreOne (rows_of net) (rows_of other) ones in
    let q_in = Contains-get_or (rows_of other) among.0 s (omega (arith, within, long)) in
    let one : AreOne r (get_or (rows_of other) among.0 s)
    = subst (λ (p : Row). AreOne p (get_or (rows_of other) among.0 s)) among.2 (AllZip-get_or AreOne (rows_of net) (rows_of other) among.0 r s ones among.1) in
    let holds : P r (get_or (rows_of other) among.0 s)
    = subst (λ (p : Row). P p (get_or (rows_of other) among.0 s)) among.2 (AllZip-get_or P (rows_of net) (rows_of other) among.0 r s all among.1) in
    let n = number_of both.links net switch id r r_is in
    let q_is = known_as both.links other both.there switch id (get_or (rows_of other) among.0 s) q_in (one.0 ∙ n.0) (one.1 ∙ n.1) in
    subst (P r) (same_Some (get_or (rows_of other) among.0 s) s (sym q_is ∙ s_is)) holds
