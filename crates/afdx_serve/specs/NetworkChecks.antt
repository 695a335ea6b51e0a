-- What the check of a network writes (profile).
use Rattle.std.specs.Prelude.{◌≡◌, ℕ, Bool, List, Option}
use Rattle.afdx_network_check.specs.Net.{Network}
use Rattle.afdx_network_check.specs.Rules.{IsAcceptedNetwork}
use Rattle.afdx_network_check.specs.Outage.{up_of, lost_of}
use Rattle.afdx_network_check.specs.Ways.{AreWaysOf}
use Rattle.afdx_network_check.specs.declared.ways.Way.{Way}
use Rattle.afdx_network_report.specs.Lines.{Names, accepted_text}
use Rattle.afdx_network_report.specs.Rows.{ways_rows}
use Rattle.afdx_csv.specs.declared.form.Form.{Form}
use Rattle.afdx_csv.specs.declared.form.Form.TheVariants.{Lines, Csv}
use Rattle.afdx_folder.specs.Files.{Files}
use Rattle.afdx_serve.specs.Networks.{names_of, HasNetwork}

-- what is written of ways, and of those over which nothing comes
abbrev pub ways_text : Form → Names → (one_line : Bool) → (ways lost : List Way) → List ℕ
ways_text Lines names one_line ways lost = accepted_text names one_line ways lost
ways_text Csv names one_line ways lost = ways_rows names ways lost

-- the lines of its switches, of its ways that use nothing that is down, and of the ends of the others; or rows of these ways and ends
abbrev pub IsNetworkCheck : Form → Network → List ℕ → Type 0
IsNetworkCheck form net text = (ways : List Way) × AreWaysOf net ways × (text ≡ ways_text form (names_of net.layout.switches) net.layout.one_line (up_of net.layout ways) (lost_of net.layout ways))

-- `network check` reports this of the file's network, which is accepted
abbrev pub ChecksNetworkTo : Form → List ℕ → Option Files → List ℕ → Type 0
ChecksNetworkTo form path files text = (net : Network) × HasNetwork files path net × IsAcceptedNetwork net × IsNetworkCheck form net text
