-- What is reported of the delays of links from end to end (profile).
use Rattle.std.specs.Prelude.{ℕ, codes, List, ◌++◌, Option, Some}
use Rattle.std.specs.Fmt.{decimal}
use Rattle.std.specs.Option.{option_map, option_map_or}
use Rattle.afdx_jitter.specs.declared.delays.Delays.{Delays as Bounds}
use Rattle.afdx_measure.specs.declared.delays.Delays.{Delays}
use Rattle.afdx_measure.specs.Delays.{least_of, greatest_of}
use Rattle.afdx_wiring.specs.declared.layout.End.{End}
use Rattle.afdx_network_check.specs.declared.ways.Way.{Way}
use Rattle.afdx_network_report.specs.declared.link_ends.LinkEnd.{LinkEnd}
use Rattle.afdx_network_report.specs.Lines.{Names, end_text, last_end}

-- the end of a way, with what is promised there
abbrev pub link_end_of : Way → LinkEnd
link_end_of w = record { link = w.link; from = Some w.from; to = last_end w; bounds = Some w.delays }

-- a number, or - if there is none
abbrev pub number_text : Option ℕ → List ℕ
number_text n = option_map_or decimal n (codes "-")

-- where frames come in, or -
abbrev pub come_in_text : Names → Option End → List ℕ
come_in_text names from = option_map_or (end_text names) from (codes "-")

-- the least and the greatest delay, in ns
abbrev pub delays_text : Delays → List ℕ
delays_text d = codes " least " ++ number_text (least_of d) ++ codes " greatest " ++ number_text (greatest_of d)

-- the least and the greatest delay that are promised, in ns
abbrev pub bounds_text : Option Bounds → List ℕ
bounds_text bounds = codes " bound " ++ number_text (option_map (λ b. b.least) bounds) ++ codes " to " ++ number_text (option_map (λ b. b.most) bounds)

-- where a link comes in and where it leads out, how many of its frames left there, what they took in nanoseconds, and what they may take
abbrev pub link_end_text : Names → LinkEnd → Delays → List ℕ
link_end_text names e d =
    codes "link " ++ decimal e.link ++ codes " from " ++ come_in_text names e.from ++ codes " to " ++ end_text names e.to ++ codes " sent " ++ decimal d.count
    ++ delays_text d ++ bounds_text e.bounds
