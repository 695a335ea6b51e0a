-- The numbers of a table's ports and links are different.
use Rattle.std.proofs.Common.{◌≡◌, ℕ, ◌+◌, nat_eq, List, [], ◌∷◌, ◌++◌, get_or, map, take, slice_get, Some, subst, sym, ap, ◌∙◌}
use Rattle.std.specs.List.{IsDistinct}
use Rattle.std.proofs.lemmas.Option.{slice_get_within, get_or_from_slice_get}
use Rattle.std.proofs.lemmas.List.{take_more, map-append}
use Rattle.afdx_table.specs.declared.rows.PortRow.{PortRow}
use Rattle.afdx_table.specs.Link.{Link}
use Rattle.afdx_table.specs.WellFormed.{Rises}
use Rattle.afdx_table.specs.Inner.Distinct.{PortsAreDistinct}
use Rattle.afdx_count.specs.declared.ports.PortTally.{PortTally}
use Rattle.afdx_count.specs.declared.links.LinkTally.{LinkTally}
use Rattle.afdx_count.specs.Tally.{new_port, new_link}
use Rattle.afdx_count.proofs.Notes.{map_twice}

pub ports_once : PortsAreDistinct → (table ports : List PortRow) (tallies : List PortTally) → Rises table → ports ≡ table → tallies ≡ map new_port ports
    → IsDistinct nat_eq (map (λ (p : PortTally). p.id) tallies)
ports_once distinct table ports tallies rises is tallies-is =
    subst (IsDistinct nat_eq) (sym (ap (map (λ (p : PortTally). p.id)) (tallies-is ∙ ap (map new_port) is) ∙ map_twice new_port (λ (p : PortTally). p.id) table)) (distinct table rises)

pub links_once : (links : List Link) (tallies : List LinkTally) → IsDistinct nat_eq (map (λ (l : Link). l.id) links) → tallies ≡ map new_link links
    → IsDistinct nat_eq (map (λ (l : LinkTally). l.id) tallies)
links_once links tallies distinct is =
    subst (IsDistinct nat_eq) (sym (ap (map (λ (l : LinkTally). l.id)) is ∙ map_twice new_link (λ (l : LinkTally). l.id) links)) distinct

-- what is made of each row, for one more row
pub new_more : {X Y : Type 0} (f : X → Y) (rows : List X) (i : ℕ) (row : X) (tally : Y) (old now : List Y) → slice_get rows i ≡ Some row → tally ≡ f row
    → old ≡ map f (take i rows) → now ≡ old ++ tally ∷ [] → now ≡ map f (take (i + 1) rows)
new_more {X} {Y} f rows i row tally old now got tally-is old-is now-is =
    let inside = slice_get_within rows i row got in
    let here = get_or_from_slice_get rows i row row got in
    now-is ∙ ap (λ (ls : List Y). ls ++ tally ∷ []) old-is ∙ ap (λ (t : Y). map f (take i rows) ++ t ∷ []) (tally-is ∙ ap f (sym here))
    ∙ sym (map-append f (take i rows) (get_or rows i row ∷ []))
    ∙ ap (map f) (sym (take_more rows i row inside))
