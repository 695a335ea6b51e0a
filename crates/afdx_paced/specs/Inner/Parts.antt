-- What there is of one port.
use Rattle.std.specs.Prelude.{ℕ, ◌≡◌, List, [], ◌∷◌, ◌++◌, map, Option, Some, None}
use Rattle.afdx_pcap.specs.Record.{Record}
use Rattle.afdx_core.specs.Merge.{Capture}
use Rattle.afdx_paced.specs.Paced.{Lane}

-- the records that went to the switch, those that wait, the stamp of the last of all, and the records that left
pub record Parts : Type 0 where
  pub port : ℕ
  pub gone : List Record
  pub waiting : List Record
  pub last : ℕ
  pub left : List Record

-- a port at which nothing came in or left
abbrev pub fresh_parts : ℕ → Parts
fresh_parts port = record { port = port; gone = []; waiting = []; last = 0; left = [] }

-- a port as contracts see it
abbrev pub lane_of : Parts → Lane
lane_of l = record { port = l.port; came = l.gone ++ l.waiting; left = l.left }

-- ports as contracts see them
abbrev pub lanes_of : List Parts → List Lane
lanes_of parts = map lane_of parts

-- what went to the switch, as a capture
abbrev pub gone_of : Parts → Capture
gone_of l = record { port = l.port; records = l.gone }

-- what waits, as a capture
abbrev pub waiting_of : Parts → Capture
waiting_of l = record { port = l.port; records = l.waiting }

-- ---- what calls do

-- a port after one more record came in, which waits
abbrev pub joined : Record → Parts → Parts
joined frame l = record { port = l.port; gone = l.gone; waiting = l.waiting ++ frame ∷ []; last = frame.stamp; left = l.left }

-- a port after one more record left
abbrev pub departed : Record → Parts → Parts
departed frame l = record { port = l.port; gone = l.gone; waiting = l.waiting; last = l.last; left = l.left ++ frame ∷ [] }

-- a port after the first record that waits went to the switch
abbrev pub taken : Record → List Record → Parts → Parts
taken frame rest l = record { port = l.port; gone = l.gone ++ frame ∷ []; waiting = rest; last = l.last; left = l.left }

-- the first record that waits is this one, and it went to the switch
pub record Takes (frame : Record) (old new : Parts) : Type 0 where
  pub rest : List Record
  pub head : old.waiting ≡ frame ∷ rest
  pub new_is : new ≡ taken frame rest old

-- ---- the first of what waits

-- the stamp of the first of some records
abbrev pub head_of : List Record → Option ℕ
head_of [] = None
head_of (r ∷ rs) = Some r.stamp

-- the stamps of the first records that wait, one for each port, if any wait there
abbrev pub heads_of : List Parts → List (Option ℕ)
heads_of parts = map (λ l. head_of l.waiting) parts
