-- Networks that differ in their jitters alone have the same rows, but for their jitters.
use Rattle.std.proofs.Common.{◌≡◌, ℕ, zero, suc, ◌≤◌, ◌==◌, Bool, true, false, cond, List, [], ◌∷◌, map, find, slice_get, Option, Some}
use Rattle.std.proofs.Common.{None, option_map, option_and_then, refl, ap, sym, ◌∙◌, arith, subst}
use Rattle.std.specs.Prelude.{All, Contains}
use Rattle.std.specs.List.{AllZip}
use Rattle.std.proofs.lemmas.List.Elements.{All-contains}
use Rattle.std.proofs.lemmas.Option.{same_Some, slice_get_within, get_or_from_slice_get}
use Rattle.afdx_table.specs.Link.{Link}
use Rattle.afdx_table.specs.Content.{Content, port_row, link_row}
use Rattle.afdx_table.specs.WellFormed.{IsWellFormed}
use Rattle.afdx_table.specs.Inner.Found.{LinksAreFound}
use Rattle.afdx_table.specs.declared.rows.PortRow.{PortRow}
use Rattle.afdx_wiring.specs.declared.layout.End.{End}
use Rattle.afdx_network_check.specs.Net.{Network, Row, IsRowOf, row_in, rows_of, row_at, port_at}
use Rattle.afdx_network_check.specs.Needs.{bare_link, bare, DiffersInJitters}
use Rattle.afdx_network_check.proofs.Chains.{all_rows}
use Rattle.afdx_network_check.proofs.LoadOrder.{Grows}

-- ---- lists whose elements are alike

-- lists of which a function makes one list begin with elements of which it makes one
pub first_same : {X Y : Type 0} (f : X → Y) (x y : X) (xs ys : List X) → map f (y ∷ ys) ≡ map f (x ∷ xs) → f y ≡ f x
first_same f x y xs ys h = cc

pub rest_same : {X Y : Type 0} (f : X → Y) (x y : X) (xs ys : List X) → map f (y ∷ ys) ≡ map f (x ∷ xs) → map f ys ≡ map f xs
rest_same f x y xs ys h = cc

at_place : {X Y : Type 0} (f : X → Y) (xs ys : List X) (n : ℕ) (x : X) → map f ys ≡ map f xs → slice_get xs n ≡ Some x → (y : X) × (slice_get ys n ≡ Some y) × (f y ≡ f x)
at_place f [] ys n x same is = absurd cc
at_place f (z ∷ xs) [] n x same is = absurd cc
at_place f (z ∷ xs) (v ∷ ys) zero x same is = (v, refl, first_same f z v xs ys same ∙ ap f (same_Some z x is))
at_place f (z ∷ xs) (v ∷ ys) (suc n) x same is = at_place f xs ys n x (rest_same f z v xs ys same) is

abbrev pub numbered : ℕ → Link → Bool
numbered id l = l.id == id

by_number : (id : ℕ) (ls ms : List Link) (l : Link) → map bare_link ms ≡ map bare_link ls → find (numbered id) ls ≡ Some l → (m : Link) × (find (numbered id) ms ≡ Some m) × (bare_link m ≡ bare_link l)
by_number id [] ms l same is = absurd cc
by_number id (k ∷ ls) [] l same is = absurd cc
by_number id (k ∷ ls) (n ∷ ms) l same is =
    let head = first_same bare_link k n ls ms same in
    let test : numbered id n ≡ numbered id k = ap (numbered id) head in
    by (by_number id ls ms l (rest_same bare_link k n ls ms same)) head (numbered id k) is test where
      by : (find (numbered id) ls ≡ Some l → (m : Link) × (find (numbered id) ms ≡ Some m) × (bare_link m ≡ bare_link l)) → bare_link n ≡ bare_link k
          → (b : Bool) → cond b (Some k) (find (numbered id) ls) ≡ Some l → numbered id n ≡ b → (m : Link) × (find (numbered id) (n ∷ ms) ≡ Some m) × (bare_link m ≡ bare_link l)
      by rest head true is test = (n, ap (λ b. cond b (Some n) (find (numbered id) ms)) test, head ∙ ap bare_link (same_Some k l is))
      by rest head false is test = let there = rest is in (there.0, ap (λ b. cond b (Some n) (find (numbered id) ms)) test ∙ there.1, there.2)

-- ---- rows

-- the row that is found at a switch under a number
pub record Found (net : Network) (switch id : ℕ) (r : Row) : Type 0 where
  pub table : Content
  pub table_is : slice_get net.tables switch ≡ Some table
  pub link_is : link_row table id ≡ Some r.link
  pub switch_is : r.switch ≡ switch

pub found : (net : Network) (switch id : ℕ) (r : Row) → row_at net switch id ≡ Some r → Found net switch id r
found net switch id r h = by (slice_get net.tables switch) refl h where
  by : (o : Option Content) → slice_get net.tables switch ≡ o → option_and_then (λ t. option_map (row_in switch) (link_row t id)) o ≡ Some r → Found net switch id r
  by None is none = absurd cc
  by (Some t) is some = of_link (link_row t id) refl some where
    of_link : (o : Option Link) → link_row t id ≡ o → option_map (row_in switch) o ≡ Some r → Found net switch id r
    of_link None l_is none = absurd cc
    of_link (Some l) l_is row_is =
        let same : row_in switch l ≡ r = same_Some (row_in switch l) r row_is in
        record { table = t; table_is = is; link_is = l_is ∙ ap (λ (q : Row). Some q.link) same; switch_is = ap (λ (q : Row). q.switch) (sym same) }

pub row_there : (net : Network) (switch id : ℕ) (t : Content) (l : Link) → slice_get net.tables switch ≡ Some t → link_row t id ≡ Some l → row_at net switch id ≡ Some (row_in switch l)
row_there net switch id t l t_is l_is = ap (option_and_then (λ c. option_map (row_in switch) (link_row c id))) t_is ∙ ap (option_map (row_in switch)) l_is

-- the rows under one number at one switch of two networks
pub record Pair (net other : Network) (switch id : ℕ) (r s : Row) : Type 0 where
  pub here : Found net switch id r
  pub there : Found other switch id s
  pub there_is : row_at other switch id ≡ Some s
  pub tables : bare there.table ≡ bare here.table
  pub links : bare_link s.link ≡ bare_link r.link

pub paired : (net other : Network) → DiffersInJitters net other → (switch id : ℕ) (r : Row) → row_at net switch id ≡ Some r → (s : Row) × Pair net other switch id r s
paired net other differs switch id r is =
    let here = found net switch id r is in
    let table = at_place bare net.tables other.tables switch here.table differs.1 here.table_is in
    let links : map bare_link table.0.links ≡ map bare_link here.table.links = ap (λ (t : Content). t.links) table.2 in
    let link = by_number id here.table.links table.0.links r.link links here.link_is in
    let s : Row = row_in switch link.0 in (
      row_in switch link.0,
      record {
        here = here;
        there = record { table = table.0; table_is = table.1; link_is = link.1; switch_is = refl };
        there_is = row_there other switch id table.0 link.0 table.1 link.1;
        tables = table.2;
        links = link.2;
      },
    )

-- the same port
pub same_port : (net other : Network) → DiffersInJitters net other → (e : End) (p : PortRow) → port_at net e ≡ Some p → port_at other e ≡ Some p
same_port net other differs e p is = by (slice_get net.tables e.switch) refl is where
  by : (o : Option Content) → slice_get net.tables e.switch ≡ o → option_and_then (λ t. port_row t e.port) o ≡ Some p → port_at other e ≡ Some p
  by None t_is none = absurd cc
  by (Some t) t_is some =
      let table = at_place bare net.tables other.tables e.switch t differs.1 t_is in
      let ports : table.0.ports ≡ t.ports = ap (λ (c : Content). c.ports) table.2 in
      ap (option_and_then (λ (c : Content). port_row c e.port)) table.1 ∙ ap (λ (ps : List PortRow). find (λ (q : PortRow). q.id == e.port) ps) ports ∙ some

-- ---- rows that are known

pub all_at : {X : Type 0} (P : X → Type 0) (xs : List X) (n : ℕ) (x : X) → All P xs → slice_get xs n ≡ Some x → P x
all_at P xs n x all is = subst P (get_or_from_slice_get xs n x x is) (all n x (slice_get_within xs n x is))

-- each row is found under its number
pub known : LinksAreFound → (net : Network) → All IsWellFormed net.tables → (r : Row) → Contains (rows_of net) r → row_at net r.switch r.link.id ≡ Some r
known links net formed r among =
    let h : IsRowOf 0 net.tables r = All-contains (IsRowOf 0 net.tables) (rows_of net) r (all_rows 0 net.tables) among in
    let switch = h.switch in
    let place : h.place ≡ r.switch = omega (arith, switch) in
    let there : slice_get net.tables r.switch ≡ Some h.table = subst (λ (n : ℕ). slice_get net.tables n ≡ Some h.table) place h.table_is in
    row_there net r.switch r.link.id h.table r.link there (links.found h.table (all_at IsWellFormed net.tables r.switch h.table formed there) r.link h.known)

-- ---- jitters that grow

-- each jitter is at most that of the other network's row
abbrev pub Below : Network → Network → Type 0
Below net other = (switch id : ℕ) (r s : Row) → row_at net switch id ≡ Some r → row_at other switch id ≡ Some s → r.link.jitter ≤ s.link.jitter

pub contains_tail : {X : Type 0} (xs : List X) (x y : X) → Contains xs x → Contains (y ∷ xs) x
contains_tail xs x y among = let within = among.1 in (suc among.0, omega (arith, within), among.2)

zipped : (ls ms : List Link) → map bare_link ms ≡ map bare_link ls → ((l m : Link) → Contains ls l → Contains ms m → bare_link m ≡ bare_link l → l.jitter ≤ m.jitter) → AllZip Grows ls ms
zipped [] [] same each = tt
zipped [] (m ∷ ms) same each = absurd cc
zipped (l ∷ ls) [] same each = absurd cc
zipped (l ∷ ls) (m ∷ ms) same each =
    let head = first_same bare_link l m ls ms same in (
      record { same = head; jitter = each l m (0, omega arith, refl) (0, omega arith, refl) head },
      zipped ls ms (rest_same bare_link l m ls ms same) (λ k n k_in n_in. each k n (contains_tail ls k l k_in) (contains_tail ms n m n_in)),
    )

pub links_grow : LinksAreFound → (net other : Network) → Below net other → (switch : ℕ) (t u : Content) → slice_get net.tables switch ≡ Some t → slice_get other.tables switch ≡ Some u
    → IsWellFormed t → IsWellFormed u → bare u ≡ bare t → AllZip Grows t.links u.links
links_grow links net other below switch t u t_is u_is t_formed u_formed same =
    zipped t.links u.links (ap (λ (c : Content). c.links) same)
    (λ l m l_in m_in alike.
    let number : m.id ≡ l.id = ap (λ (k : Link). k.id) alike in
    below switch l.id (row_in switch l) (row_in switch m) (row_there net switch l.id t l t_is (links.found t t_formed l l_in))
    (row_there other switch l.id u m u_is (subst (λ (id : ℕ). link_row u id ≡ Some m) number (links.found u u_formed m m_in))))
