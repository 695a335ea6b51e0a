-- Rows of a network, the wires to them, and their bounds.
use Rattle.std.proofs.Common.{◌≡◌, ℕ, zero, suc, ◌+◌, ◌==◌, ◌&&◌, true, List, [], ◌∷◌, map, slice_get, Some, option_map, option_and_then, refl, ap, sym, ◌∙◌, arith, subst}
use Rattle.std.specs.Prelude.{Contains}
use Rattle.std.proofs.lemmas.List.{get_or-map, length-map}
use Rattle.std.proofs.lemmas.List.Elements.{Contains-append_left, Contains-append_right}
use Rattle.std.proofs.lemmas.Option.{same_Some}
use Rattle.std.proofs.lemmas.Bool.{eq-eqb}
use Rattle.afdx_units.specs.declared.line.Priority.{Priority}
use Rattle.afdx_units.specs.declared.line.Priority.TheVariants.{High, Low}
use Rattle.afdx_table.specs.Link.{Link, leads_to}
use Rattle.afdx_table.specs.Content.{Content, link_row}
use Rattle.afdx_table.specs.WellFormed.{IsWellFormed}
use Rattle.afdx_table.specs.Inner.Found.{LinksAreFound}
use Rattle.afdx_load.specs.Load.{Load}
use Rattle.afdx_load.specs.Bounds.{bounds_of}
use Rattle.afdx_isolation.specs.Table.{bound_of}
use Rattle.afdx_wiring.specs.declared.layout.End.{End}
use Rattle.afdx_wiring.specs.declared.layout.Wire.{Wire}
use Rattle.afdx_wiring.specs.File.{is_end}
use Rattle.afdx_network_check.specs.Net.{Network, Row, row_at, row_in, rows_from, rows_of, rows_on, wire_to, bound_in}
use Rattle.afdx_origins.proofs.Rows.{same_end}
use Rattle.afdx_network.proofs.Lists.{all_tested}
use Rattle.afdx_network.proofs.Found.{all_by, of_all, found_passes}

-- ---- ends

pub is_itself : (e : End) → is_end e e ≡ true
is_itself e = ap (λ b. b && (e.port == e.port)) (eq-eqb e.switch e.switch refl) ∙ eq-eqb e.port e.port refl

-- the wire that is found to an end goes there
pub wire_goes_there : (net : Network) (e : End) (w : Wire) → wire_to net e ≡ Some w → (w.to ≡ e) × Contains net.layout.wires w
wire_goes_there net e w is = let h = found_passes (λ (v : Wire). is_end v.to e) net.layout.wires w is in (same_end w.to e h.0, h.1)

-- ---- rows

has_from : (n k : ℕ) (tables : List Content) (t : Content) (l : Link) → slice_get tables k ≡ Some t → Contains t.links l → Contains (rows_from n tables) (row_in (n + k) l)
has_from n k [] t l is among = absurd cc
has_from n zero (u ∷ tables) t l is among =
    let place : n ≡ n + 0 = omega arith in
    let known = subst (λ (c : Content). Contains c.links l) (sym (same_Some _ _ is)) among in
    let within = known.1 in
    subst (λ (m : ℕ). Contains (rows_from n (u ∷ tables)) (row_in m l)) place
    (Contains-append_left (map (row_in n) u.links) (rows_from (n + 1) tables) (row_in n l)
    (known.0, omega (arith, within, length-map u.links (row_in n)), get_or-map (row_in n) u.links known.0 l (row_in n l) within ∙ ap (row_in n) known.2))
has_from n (suc k) (u ∷ tables) t l is among =
    let further = has_from (n + 1) k tables t l is among in
    let place : n + 1 + k ≡ n + suc k = omega arith in
    Contains-append_right (map (row_in n) u.links) (rows_from (n + 1) tables) (row_in (n + suc k) l)
    (subst (λ (m : ℕ). Contains (rows_from (n + 1) tables) (row_in m l)) place further)

pub rows_have : (net : Network) (r : Row) (t : Content) → slice_get net.tables r.switch ≡ Some t → Contains t.links r.link → Contains (rows_of net) r
rows_have net r t is among =
    let place : 0 + r.switch ≡ r.switch = omega arith in
    subst (λ (n : ℕ). Contains (rows_of net) (row_in n r.link)) place (has_from 0 r.switch net.tables t r.link is among)

pub rows_on_have : (net : Network) (r : Row) (w : Wire) → Contains (rows_of net) r → w.from.switch ≡ r.switch → leads_to w.from.port r.link ≡ true → Contains (rows_on net w) r
rows_on_have net r w among at leads =
    let there : is_end (record { switch = r.switch; port = w.from.port }) w.from ≡ true
    = subst (λ (n : ℕ). is_end (record { switch = n; port = w.from.port }) w.from ≡ true) at (is_itself w.from) in
    of_all (λ q. is_end (record { switch = q.switch; port = w.from.port }) w.from ≡ true → leads_to w.from.port q.link ≡ true → Contains (rows_on net w) q) (rows_of net) r
    (all_tested (λ q. leads_to w.from.port q.link ≡ true → Contains (rows_on net w) q) (λ (q : Row). is_end (record { switch = q.switch; port = w.from.port }) w.from) (rows_of net)
    (all_tested (Contains (rows_on net w)) (λ (q : Row). leads_to w.from.port q.link) _ (all_by (Contains (rows_on net w)) (rows_on net w) (λ q h. h)))) among there leads

pub row_is : LinksAreFound → (net : Network) (r : Row) (t : Content) → slice_get net.tables r.switch ≡ Some t → IsWellFormed t → Contains t.links r.link
    → row_at net r.switch r.link.id ≡ Some r
row_is links net r t is formed among =
    ap (option_and_then (λ (c : Content). option_map (row_in r.switch) (link_row c r.link.id))) is ∙ ap (option_map (row_in r.switch)) (links.found t formed r.link among)

-- ---- bounds

pub same_bound : (s : Load) (priority : Priority) → bound_in (bounds_of s) priority ≡ bound_of s priority
same_bound s High = refl
same_bound s Low = refl
