use Rattle.std.proofs.lemmas.List.Elements.{All-contains}
use Rattle.afdx_network_check.specs.Net.{IsRowOf, rows_of}
use Rattle.afdx_network_check.proofs.Chains.{all_rows}
use Rattle.afdx_network_check.proofs.laws.rows_are_of_tables.Goals as goal

pub returns : goal.returns
returns c = λ net r among. All-contains (IsRowOf 0 net.tables) (rows_of net) r (all_rows 0 net.tables) among
