-- A link's own frames are the clean ones of a table that has this link alone.
use Rattle.std.specs.Prelude.{◌≡◌, ◌↔◌, ℕ, IsTrue, [], ◌∷◌}
use Rattle.afdx_pcap.specs.Record.{Record}
use Rattle.afdx_table.specs.Link.{Link}
use Rattle.afdx_table.specs.Content.{Content}
use Rattle.afdx_filter.specs.declared.outcome.Verdict.TheVariants.{Clean}
use Rattle.afdx_filter.specs.Verdict.{verdict_of}
use Rattle.afdx_alone.specs.declared.link.Alone.{Alone}
use Rattle.afdx_alone.specs.Own.{constant, is_own}

-- the table has the profile's constant and one link: this one, whose frames come in at this port
pub record HasOnly (table : Content) (port : ℕ) (link : Alone) : Type 0 where
  pub row : Link
  pub constant_is : table.constant ≡ constant
  pub links_are : table.links ≡ row ∷ []
  pub number : row.id ≡ link.id
  pub from_port : row.from ≡ port
  pub greatest : row.max_size ≡ link.max_size

-- a frame is the link's own exactly if such a table's filter finds it clean
abbrev pub OwnFramesAreClean : Type 0
OwnFramesAreClean =
    (table : Content) (port : ℕ) (link : Alone) (frame : Record) → HasOnly table port link → IsTrue (is_own link frame) ↔ (verdict_of table port frame ≡ Clean link.id)
