-- Rows that are not there, and ports to which none leads.
use Rattle.std.proofs.Common.{◌≡◌, ℕ, ◌==◌, ◌||◌, Bool, true, false, cond, nat_lt, List, [], ◌∷◌, find, length, slice_get, Some, None, refl, ap, sym, ◌∙◌, inl, inr}
use Rattle.std.specs.Prelude.{position, option_and_then}
use Rattle.std.specs.Option.{option_map}
use Rattle.std.specs.List.{list_any, position_or_len}
use Rattle.std.proofs.lemmas.Bool.{cases_lt, cond-true, lt-ltb}
use Rattle.std.proofs.lemmas.List.Folds.{find_at}
use Rattle.std.proofs.lemmas.Option.{slice_get_past}
use Rattle.afdx_table.specs.Link.{Link, leads_to}
use Rattle.afdx_table.specs.Content.{Content, link_row, link_place}
use Rattle.afdx_table.specs.Inner.Found.{LinksAreAtTheirPlaces}
use Rattle.afdx_wiring.specs.declared.layout.End.{End}
use Rattle.afdx_network_check.specs.Net.{Network, Row, row_in, row_at}
use Rattle.afdx_network_check.specs.Order.{leading}
use Rattle.afdx_origins.specs.Origins.{HasNoRow}
use Rattle.afdx_origins.specs.Inner.Known.{IsRowAt}

-- ---- no row

pub no_table : (net : Network) (switch link : ℕ) → slice_get net.tables switch ≡ None → row_at net switch link ≡ None
no_table net switch link none = ap (option_and_then (λ (t : Content). option_map (row_in switch) (link_row t link))) none

pub no_link : (net : Network) (switch link : ℕ) (t : Content) → slice_get net.tables switch ≡ Some t → link_row t link ≡ None → row_at net switch link ≡ None
no_link net switch link t table none =
    ap (option_and_then (λ (u : Content). option_map (row_in switch) (link_row u link))) table ∙ ap (option_map (row_in switch)) none

-- nor where nothing is at the place
pub nothing_at : LinksAreAtTheirPlaces → (net : Network) (switch link place : ℕ) (t : Content) → slice_get net.tables switch ≡ Some t → link_place t link ≡ Some place
    → slice_get t.links place ≡ None → row_at net switch link ≡ None
nothing_at places net switch link place t table place_is none = no_link net switch link t table (sym (places.at t link place place_is) ∙ none)

pub no_row : (net : Network) (link : ℕ) (e : End) → row_at net e.switch link ≡ None → HasNoRow net link e
no_row net link e none = ap (option_and_then (leading e.port)) none

-- ---- no port

any_none : (p : ℕ → Bool) (xs : List ℕ) → find p xs ≡ None → list_any p xs ≡ false
any_none p [] is = refl
any_none p (x ∷ xs) is = by (any_none p xs) (p x) is where
  by : (find p xs ≡ None → list_any p xs ≡ false) → (b : Bool) → cond b (Some x) (find p xs) ≡ None → (b || list_any p xs) ≡ false
  by rest true none = absurd cc
  by rest false none = rest none

none_found : (p : ℕ → Bool) (xs : List ℕ) → position p xs ≡ None → find p xs ≡ None
none_found p xs is =
    elim (cases_lt (position_or_len p xs) (length xs)) [
      | inl lt ↦ let some = cond-true (nat_lt (position_or_len p xs) (length xs)) (Some (position_or_len p xs)) None (lt-ltb (position_or_len p xs) (length xs) lt) in absurd (cc)
      | inr le ↦ find_at p xs ∙ slice_get_past xs (position_or_len p xs) le
    ]

pub leads_elsewhere : (net : Network) (link place : ℕ) (l : Link) (e : End) → IsRowAt net e.switch link place l → position (λ to. to == e.port) l.to ≡ None → HasNoRow net link e
leads_elsewhere net link place l e is none =
    let elsewhere : leads_to e.port l ≡ false = any_none (λ to. to == e.port) l.to (none_found (λ to. to == e.port) l.to none) in
    let r : Row = record { switch = e.switch; link = l } in
    ap (option_and_then (leading e.port)) is.found ∙ ap (λ (b : Bool). cond b (Some r) None) elsewhere
