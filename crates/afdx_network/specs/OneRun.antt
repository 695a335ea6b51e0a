-- What is given for a network has one run.
use Rattle.std.specs.Prelude.{◌≡◌, List}
use Rattle.afdx_session.specs.Texts.{Text}
use Rattle.afdx_session.specs.Outcome.{Results}
use Rattle.afdx_network_check.specs.Net.{Network}
use Rattle.afdx_network.specs.Runs.{Given, IsUncheckedRunOf}
use Rattle.afdx_network.specs.Given.{AreGiven}
use Rattle.afdx_network.specs.Laws.{IsOfFile}

-- whatever the loads are, and also if links go in circles: two runs of what was given have the same captures at each port, and the same counts
abbrev pub GivenHasOneRun : Type 0
GivenHasOneRun = (net : Network) (given : Given) (came came' : List (List Text)) (left left' : List Results) → IsOfFile net → AreGiven net given
    → IsUncheckedRunOf net given came left → IsUncheckedRunOf net given came' left' → (came ≡ came') × (left ≡ left')
