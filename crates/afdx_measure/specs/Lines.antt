-- What is reported of a run as text (profile).
use Rattle.std.specs.Prelude.{ℕ, codes, List, [], ◌∷◌, Option, Some}
use Rattle.std.specs.Option.{option_map, option_map_or}
use Rattle.afdx_lines.specs.Lines.{line}
use Rattle.afdx_measure.specs.declared.delays.Delays.{Delays}
use Rattle.afdx_measure.specs.declared.filling.Filling.{Filling}
use Rattle.afdx_measure.specs.Delays.{least_of, greatest_of}

-- the delays of a link's copies at a port, in nanoseconds, beside the port's bound for the link's priority
abbrev pub link_line : ℕ → ℕ → Delays → Option ℕ → List ℕ
link_line link port d bound = line ((codes "link ", Some link) ∷ (codes " out ", Some port) ∷ (codes " sent ", Some d.count)
    ∷ (codes " least ", least_of d) ∷ (codes " greatest ", greatest_of d) ∷ (codes " bound ", bound) ∷ [])

-- how full a port's buffer was, in bytes, beside what it has, and the stamp of the first admission that reached it
abbrev pub peak_line : ℕ → ℕ → Option Filling → List ℕ
peak_line port buffer peak = line ((codes "out ", Some port) ∷ (codes " occupied ", Some (option_map_or (λ f. f.bytes) peak 0)) ∷ (codes " of ", Some buffer)
    ∷ (codes " at ", option_map (λ f. f.at) peak) ∷ [])
