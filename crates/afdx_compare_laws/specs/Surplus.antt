-- What cannot hide in what is not known of accounts (profile).
use Rattle.std.specs.Prelude.{◌≡◌, ℕ, ◌+◌, ◌*◌, List, map, Contains}
use Rattle.afdx_pcap.specs.Record.{Record}
use Rattle.afdx_account.specs.Policing.{passed_frames}
use Rattle.afdx_filter.specs.Frame.{frame_of}
use Rattle.afdx_table.specs.declared.rows.PortRow.{PortRow}
use Rattle.afdx_table.specs.Link.{Link}
use Rattle.afdx_table.specs.Content.{Content}
use Rattle.afdx_table.specs.WellFormed.{IsWellFormed}
use Rattle.afdx_load.specs.Load.{terms_of}
use Rattle.afdx_levels.specs.Inner.Laws.{chosen}
use Rattle.afdx_following.specs.declared.watch.Watch.{Watch}
use Rattle.afdx_core.specs.Merge.{Capture}
use Rattle.afdx_compare.specs.Within.{own_within, IsKeptWithin}
use Rattle.afdx_compare.specs.Inner.Laws.{ComeInOrder}

-- a link's row with so many ns more of jitter
abbrev pub with_jitter : ℕ → Link → Link
with_jitter more l = record l { jitter = l.jitter + more }

-- the frames of a link that were passed are all passed by its policing, if its jitter is more by twice the tolerance
abbrev pub NoSurplusHides : Type 0
NoSurplusHides = (w : Watch) (t : Content) (ports : List PortRow) (read : List Capture) (out : PortRow → List Record) (kept : IsKeptWithin w t ports read out)
    → IsWellFormed t → ComeInOrder t read → (l : Link) → Contains t.links l
    → let passed = map frame_of (chosen (kept.fates l) (own_within w t l read)) in
    passed_frames (terms_of (with_jitter (2 * w.tolerance) l)) passed ≡ passed
