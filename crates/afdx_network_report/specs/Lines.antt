-- The lines that are reported of a network (profile). Each ends with a line feed.
use Rattle.std.specs.Prelude.{ℕ, ◌-◌, ◌==◌, Bool, true, codes, max, if◌then◌else◌, List, [], ◌∷◌, ◌++◌, length, flat_map, fold, find, slice_get, Option, unwrap_or}
use Rattle.std.specs.Fmt.{decimal}
use Rattle.std.specs.Option.{option_map_or}
use Rattle.afdx_wiring.specs.declared.layout.End.{End}
use Rattle.afdx_network_check.specs.declared.ways.Way.{Way}
use Rattle.afdx_network_check.specs.declared.jitters.RowNeed.{RowNeed}
use Rattle.afdx_wiring.specs.Lines.{as_line}

-- the names of the switches, by their places
abbrev pub Names : Type 0
Names = List (List ℕ)

-- the name of the switch at this place
abbrev pub name_of : Names → ℕ → List ℕ
name_of names switch = unwrap_or (slice_get names switch) []

-- ---- ways

-- a port as in the network file: the name of the switch, a dot and the number of the port
abbrev pub end_text : Names → End → List ℕ
end_text names e = name_of names e.switch ++ codes "." ++ decimal e.port

-- the port at which a way leads out of the network
abbrev pub last_end : Way → End
last_end w = unwrap_or (slice_get w.ports.items (length w.ports.items - 1)) w.from

-- ports, with a space before each
abbrev pub ends_text : Names → List End → List ℕ
ends_text names = flat_map (λ e. codes " " ++ end_text names e)

-- numbers, with a space before each
abbrev pub numbers_text : List ℕ → List ℕ
numbers_text = flat_map (λ n. codes " " ++ decimal n)

-- where a link comes in and where it leads out, the output ports on its way, what a frame takes at least and at most in nanoseconds,
-- and the jitter in microseconds that it needs at each switch
abbrev pub way_text : Names → Way → List ℕ
way_text names w =
    codes "link " ++ decimal w.link ++ codes " from " ++ end_text names w.from ++ codes " to " ++ end_text names (last_end w)
    ++ codes " ways" ++ ends_text names w.ports.items ++ codes " least " ++ decimal w.delays.least ++ codes " most " ++ decimal w.delays.most
    ++ codes " jitter" ++ numbers_text w.jitters.items

-- the most that a frame takes on any of these ways, in ns
abbrev pub longest : List Way → ℕ
longest = fold (λ (most : ℕ) (w : Way). max most w.delays.most) 0

-- the first way that may take as long as any
abbrev pub greatest_of : List Way → Option Way
greatest_of ways = find (λ w. w.delays.most == longest ways) ways

-- the line of such a way: what a frame takes on it at most, in ns, its link, and where it leads out
abbrev pub greatest_text : Names → Way → List ℕ
greatest_text names w = codes "greatest " ++ decimal w.delays.most ++ codes " link " ++ decimal w.link ++ codes " to " ++ end_text names (last_end w)

-- nothing comes to the end of this way
abbrev pub lost_text : Names → Way → List ℕ
lost_text names w = codes "link " ++ decimal w.link ++ codes " to " ++ end_text names (last_end w) ++ codes " none"

-- the premise, if the report rests on what the network file says of end systems' lines
abbrev pub premise_text : (one_line : Bool) → List ℕ
premise_text one_line = if one_line then as_line (codes "premise one_line") else []

-- what is reported of an accepted network of these ways, and of those over which nothing comes
abbrev pub accepted_text : Names → (one_line : Bool) → (ways lost : List Way) → List ℕ
accepted_text names one_line ways lost =
    flat_map (λ name. as_line (codes "switch " ++ name ++ codes " accepted")) names ++ premise_text one_line ++ flat_map (λ w. as_line (way_text names w)) ways
    ++ flat_map (λ w. as_line (lost_text names w)) lost ++ option_map_or (λ w. as_line (greatest_text names w)) (greatest_of ways) [] ++ as_line (codes "accepted")

-- ---- jitters

-- what the row of a link at a switch needs, in whole microseconds
abbrev pub jitter_line : Names → RowNeed → List ℕ
jitter_line names r = as_line (codes "switch " ++ name_of names r.switch ++ codes " link " ++ decimal r.link ++ codes " jitter_us " ++ decimal r.need)

-- the lines of what all rows need
abbrev pub jitter_text : Names → List RowNeed → List ℕ
jitter_text names = flat_map (jitter_line names)

-- ---- reports

-- a text with this before the first byte of each of its lines
abbrev pub with_before : (before : List ℕ) → (begins : Bool) → List ℕ → List ℕ
with_before before begins [] = []
with_before before begins (b ∷ bs) = (if begins then before else []) ++ b ∷ with_before before (b == 10) bs

-- the report of the switch of this name: its name and a space before each line
abbrev pub report_of : (name : List ℕ) → (report : List ℕ) → List ℕ
report_of name report = with_before (name ++ codes " ") true report
