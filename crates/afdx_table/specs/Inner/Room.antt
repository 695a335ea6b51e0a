-- When a refusal for memory may be answered.
use Rattle.std.specs.Prelude.{◌≡◌, ◌⊎◌, ℕ, Some, Result, Ok}
use Rattle.toml.specs.Data.{Data, array, Items, item, Members, get_member}
use Rattle.afdx_table.specs.declared.fault.At.TheVariants as place
use Rattle.afdx_table.specs.declared.fault.Key.{Key}
use Rattle.afdx_table.specs.declared.fault.Key.TheVariants as key
use Rattle.afdx_table.specs.declared.fault.TableFault.{TableFault}
use Rattle.afdx_table.specs.Refusal.{◌>>=◌}
use Rattle.afdx_table.specs.Names.{key_text}
use Rattle.afdx_table.specs.Fields.{known_at, optional_number_at, optional_text_at}
use Rattle.afdx_table.specs.Top.{all_keys, top_keys, version_from, constant_from, latency_from}

-- the latency in microseconds, if nothing of the top before the ports is refused
unfoldable pub head_at : Members → Result ℕ TableFault
head_at ms = do
  known ← known_at place.Top all_keys ms
  stated_version ← optional_number_at place.Top key.Version ms
  version ← version_from stated_version
  known_there ← known_at place.Top (top_keys version) ms
  stated_constant ← optional_text_at place.Top key.Constant ms
  constant ← constant_from stated_constant
  stated_latency ← optional_number_at place.Top key.Latency ms
  latency_from stated_latency

-- an array with an item
abbrev pub HasItems : Key → Members → Type 0
HasItems k ms = (first : Data) × (rest : Items) × (get_member (key_text k) ms ≡ Some (array (item first rest)))

-- a tree of which something is to be kept: what comes before the ports is refused for nothing, and there is a port or a link
abbrev pub WantsRoom : Members → Type 0
WantsRoom ms = (latency_us : ℕ) × (head_at ms ≡ Ok latency_us) × (HasItems key.Port ms ⊎ HasItems key.Link ms)
