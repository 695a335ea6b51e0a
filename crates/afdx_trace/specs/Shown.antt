-- Which lines of a trace are written, and from when its stamps count (profile).
use Rattle.std.specs.Prelude.{ℕ, ◌==◌, Bool, true, false, if◌then◌else◌, List, [], ◌∷◌, Option, Some, None}
use Rattle.std.specs.List.{list_any}
use Rattle.afdx_core.specs.declared.step.Row.{Row}
use Rattle.afdx_trace.specs.declared.shown.Selection.{Selection}
use Rattle.afdx_trace.specs.declared.shown.Shown.{Shown}

-- whether a frame's link, if it has one, is among these; if these are none, each frame counts
abbrev pub is_among : List ℕ → Option ℕ → Bool
is_among [] link = true
is_among (l ∷ links) None = false
is_among (l ∷ links) (Some link) = list_any (λ other. other == link) (l ∷ links)

-- whether lines of this link are shown
abbrev pub is_shown : Shown → Option ℕ → Bool
is_shown shown link = is_among shown.links.now link

-- the stamp of the first arrival
abbrev pub first_stamp : List Row → ℕ
first_stamp [] = 0
first_stamp (row ∷ rows) = row.stamp

-- stamps count from that of the first arrival, or as they are
abbrev pub shown_of : Selection → List Row → Shown
shown_of selection rows = record { links = selection.links; origin = if selection.relative then first_stamp rows else 0 }
