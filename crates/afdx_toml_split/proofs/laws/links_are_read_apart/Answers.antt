use Rattle.afdx_toml_split.proofs.Joining.{read_apart}
use Rattle.afdx_toml_split.proofs.laws.links_are_read_apart.Goals as goal

pub returns : goal.returns
returns c = read_apart
