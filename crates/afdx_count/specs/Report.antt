-- The report of a run as text (profile): lines that end with a line feed, numbers in decimal.
use Rattle.std.specs.Prelude.{ℕ, codes, decimal, List, [], ◌∷◌, ◌++◌, flat_map}
use Rattle.afdx_count.specs.declared.counters.OutCount.{OutCount}
use Rattle.afdx_count.specs.declared.ports.PortTally.{PortTally}
use Rattle.afdx_count.specs.declared.links.LinkTally.{LinkTally}
use Rattle.afdx_count.specs.Tally.{Tally}

-- a word and its number
abbrev pub part : List ℕ × ℕ → List ℕ
part p = p.0 ++ decimal p.1

-- words with their numbers, and a line feed
abbrev pub line : List (List ℕ × ℕ) → List ℕ
line parts = flat_map part parts ++ codes "\n"

-- what came in at a port: how many frames, and how many of each verdict
abbrev pub in_line : PortTally → List ℕ
in_line p = line ((codes "in ", p.id) ∷ (codes " seen ", p.input.seen) ∷ (codes " cut ", p.input.cut) ∷ (codes " short ", p.input.short)
    ∷ (codes " long ", p.input.long) ∷ (codes " foreign ", p.input.foreign) ∷ (codes " no-link ", p.input.no_link)
    ∷ (codes " wrong-port ", p.input.wrong_port) ∷ (codes " too-big ", p.input.too_big) ∷ (codes " clean ", p.input.clean) ∷ [])

-- how many frames of a link were passed, and how many were policed
abbrev pub link_line : LinkTally → List ℕ
link_line l = line ((codes "link ", l.id) ∷ (codes " passed ", l.count.passed) ∷ (codes " policed ", l.count.policed) ∷ [])

-- the copies of a priority at a port: how many were offered, and of these how many were refused, discarded and sent
unfoldable pub class_line : List ℕ → ℕ → OutCount → List ℕ
class_line class id c = line ((codes "out ", id) ∷ (class, c.offered) ∷ (codes " full ", c.full) ∷ (codes " aged ", c.aged) ∷ (codes " sent ", c.sent) ∷ [])

-- the copies at a port: the high ones, then the low ones
abbrev pub out_lines : PortTally → List ℕ
out_lines p = class_line (codes " high offered ") p.id p.high ++ class_line (codes " low offered ") p.id p.low

-- the arrivals at each port, the frames of each link, the copies at each port
abbrev pub report_of : Tally → List ℕ
report_of t = flat_map in_line t.ports ++ flat_map link_line t.links ++ flat_map out_lines t.ports
