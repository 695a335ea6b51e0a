-- Where the link of a frame is, by the verdict on it.
use Rattle.std.specs.Prelude.{ℕ, Option, Some, None}
use Rattle.afdx_table.specs.Content.{Content, link_place}
use Rattle.afdx_filter.specs.declared.outcome.Verdict.{Verdict}
use Rattle.afdx_filter.specs.declared.outcome.Verdict.TheVariants.{Cut, Short, Long, Foreign, NoLink, WrongPort, TooBig, Clean}

-- the place of a clean frame's link among the links
abbrev pub place_named : Content → Verdict → Option ℕ
place_named t (Clean i) = link_place t i
place_named t Cut = None
place_named t Short = None
place_named t Long = None
place_named t Foreign = None
place_named t NoLink = None
place_named t WrongPort = None
place_named t TooBig = None

-- the number of a frame's address, if the filter found the link of that number
abbrev pub link_named : Verdict → ℕ → Option ℕ
link_named (Clean i) number = Some number
link_named WrongPort number = Some number
link_named TooBig number = Some number
link_named Cut number = None
link_named Short number = None
link_named Long number = None
link_named Foreign number = None
link_named NoLink number = None
