-- Rows of links, and ports.
use Rattle.std.proofs.Common.{◌≡◌, ℕ, zero, suc, ◌<◌, ◌==◌, ◌&&◌, ◌||◌, Bool, true, false, cond, List, [], ◌∷◌, length, get_or, slice_get, Some, None, refl, ap, sym, ◌∙◌, arith}
use Rattle.std.specs.Option.{option_map}
use Rattle.std.specs.Prelude.{position, option_and_then}
use Rattle.std.specs.List.{list_any}
use Rattle.std.proofs.lemmas.Bool.{eqb-true, eq-eqb, ne_eqb}
use Rattle.std.proofs.lemmas.List.Quantifiers.{position-Some}
use Rattle.std.proofs.lemmas.Option.{same_Some}
use Rattle.afdx_table.specs.Link.{Link, leads_to}
use Rattle.afdx_table.specs.Content.{Content, link_row, link_place}
use Rattle.afdx_table.specs.WellFormed.{IsWellFormed}
use Rattle.afdx_table.specs.Inner.Found.{LinksAreFound, LinksAreAtTheirPlaces}
use Rattle.afdx_wiring.specs.declared.layout.End.{End}
use Rattle.afdx_wiring.specs.declared.layout.Wire.{Wire}
use Rattle.afdx_wiring.specs.File.{is_end}
use Rattle.afdx_network_check.specs.Net.{Network, Row, row_in, row_at}
use Rattle.afdx_network_check.specs.Order.{leading, row_before}
use Rattle.afdx_origins.specs.Inner.Known.{IsRowAt}

-- ---- rows

pub row_there : LinksAreFound → LinksAreAtTheirPlaces → (net : Network) (switch link place : ℕ) (t : Content) (l : Link) → slice_get net.tables switch ≡ Some t → IsWellFormed t
    → link_place t link ≡ Some place → slice_get t.links place ≡ Some l → IsRowAt net switch link place l
row_there found places net switch link place t l table formed place_is at =
    let row : link_row t link ≡ Some l = sym (places.at t link place place_is) ∙ at in
    record {
      table = t;
      table_is = table;
      formed = formed;
      place_is = place_is;
      at = at;
      found = ap (option_and_then (λ (u : Content). option_map (row_in switch) (link_row u link))) table ∙ ap (option_map (row_in switch)) row;
      number = (found.is_row t link l row).0;
    }

-- one table, one row, one place
pub same_table : (net : Network) (switch : ℕ) (t u : Content) → slice_get net.tables switch ≡ Some t → slice_get net.tables switch ≡ Some u → t ≡ u
same_table net switch t u one other = same_Some t u (sym one ∙ other)

pub one_place : (net : Network) (switch link place k : ℕ) (l m : Link) → IsRowAt net switch link place l → IsRowAt net switch link k m → place ≡ k
one_place net switch link place k l m one other =
    let same = same_table net switch one.table other.table one.table_is other.table_is in
    same_Some place k (sym one.place_is ∙ ap (λ (t : Content). link_place t link) same ∙ other.place_is)

pub one_row : (net : Network) (switch link other place : ℕ) (l m : Link) → IsRowAt net switch link place l → IsRowAt net switch other place m → l ≡ m
one_row net switch link other place l m one two =
    let same = same_table net switch one.table two.table one.table_is two.table_is in
    same_Some l m (sym one.at ∙ ap (λ (t : Content). slice_get t.links place) same ∙ two.at)

pub one_number : (net : Network) (switch link other place : ℕ) (l m : Link) → IsRowAt net switch link place l → IsRowAt net switch other place m → link ≡ other
one_number net switch link other place l m one two = sym one.number ∙ ap (λ (x : Link). x.id) (one_row net switch link other place l m one two) ∙ two.number

-- ---- ports of a row

any_there : (p : ℕ → Bool) (xs : List ℕ) (k : ℕ) → k < length xs → p (get_or xs k 0) ≡ true → list_any p xs ≡ true
any_there p [] k lt is = absurd (omega (arith, lt))
any_there p (x ∷ xs) zero lt is = ap (λ b. b || list_any p xs) is
any_there p (x ∷ xs) (suc k) lt is = by (p x) (any_there p xs k (omega (arith, lt)) is) where
  by : (b : Bool) → list_any p xs ≡ true → (b || list_any p xs) ≡ true
  by true more = refl
  by false more = more

pub leads_there : (l : Link) (port k : ℕ) → position (λ to. to == port) l.to ≡ Some k → leads_to port l ≡ true
leads_there l port k is = let at = position-Some (λ to. to == port) l.to k 0 is in any_there (λ to. to == port) l.to k at.0 at.1

-- two places of a row's ports are of two ports
pub two_ports : (xs : List ℕ) (one other j k : ℕ) → position (λ to. to == one) xs ≡ Some j → position (λ to. to == other) xs ≡ Some k → (j ≡ k → ⊥) → one ≡ other → ⊥
two_ports xs one other j k at there differ same =
    differ (same_Some j k (sym at ∙ ap (λ n. position (λ to. to == n) xs) same ∙ there))

-- one place is of one port
pub one_port : (xs : List ℕ) (one other k : ℕ) → position (λ to. to == one) xs ≡ Some k → position (λ to. to == other) xs ≡ Some k → one ≡ other
one_port xs one other k at there =
    let a = position-Some (λ to. to == one) xs k 0 at in
    let b = position-Some (λ to. to == other) xs k 0 there in
    sym (eqb-true (get_or xs k 0) one a.1) ∙ eqb-true (get_or xs k 0) other b.1

-- ---- ends

pub end_same : (e : End) (switch port : ℕ) → e.switch ≡ switch → e.port ≡ port → is_end e (record { switch = switch; port = port }) ≡ true
end_same e switch port s p = ap (λ b. b && (e.port == port)) (eq-eqb e.switch switch s) ∙ eq-eqb e.port port p

pub other_switch : (e : End) (switch port : ℕ) → (e.switch ≡ switch → ⊥) → is_end e (record { switch = switch; port = port }) ≡ false
other_switch e switch port differ = ap (λ b. b && (e.port == port)) (ne_eqb e.switch switch differ)

pub other_port : (e : End) (switch port : ℕ) → (e.port ≡ port → ⊥) → is_end e (record { switch = switch; port = port }) ≡ false
other_port e switch port differ = by (e.switch == switch) (ne_eqb e.port port differ) where
  by : (b : Bool) → (e.port == port) ≡ false → (b && (e.port == port)) ≡ false
  by true is = is
  by false is = refl

pub same_end : (d e : End) → is_end d e ≡ true → d ≡ e
same_end d e is = by (d.switch == e.switch) refl (d.port == e.port) refl is where
  end_by : ℕ → ℕ → End
  end_by n p = record { switch = n; port = p }

  by : (a : Bool) → (d.switch == e.switch) ≡ a → (b : Bool) → (d.port == e.port) ≡ b → (a && b) ≡ true → d ≡ e
  by true switch true port both = ap (λ n. end_by n d.port) (eqb-true d.switch e.switch switch) ∙ ap (end_by e.switch) (eqb-true d.port e.port port)
  by true switch false port both = absurd cc
  by false switch b port both = absurd cc

-- ---- the row behind a wire

pub row_behind : (net : Network) (link : ℕ) (w : Wire) (r : Row) → row_at net w.from.switch link ≡ Some r → leads_to w.from.port r.link ≡ true → row_before net link w ≡ Some r
row_behind net link w r at leads =
    ap (option_and_then (leading w.from.port)) at ∙ ap (λ b. cond b (Some r) None) leads
