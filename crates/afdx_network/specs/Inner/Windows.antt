-- A run in the course of its windows: what was given so far, and where it stops.
use Rattle.std.specs.Prelude.{◌≡◌, ◌≤◌, ◌++◌, ℕ, false, List, [], length, All, Option, None}
use Rattle.afdx_load.specs.Accepted.{IsAccepted}
use Rattle.afdx_merging.specs.Merge.{Arrival}
use Rattle.afdx_network_check.specs.Net.{Network}
use Rattle.afdx_network.specs.declared.fault.NetworkRunFault.{NetworkRunFault}
use Rattle.afdx_network.specs.declared.fault.NetworkRunFault.TheVariants as fault
use Rattle.afdx_network.specs.declared.fault.Stop.{Stop}
use Rattle.afdx_network.specs.declared.fault.Stop.TheVariants as stop
use Rattle.afdx_network.specs.declared.intake.Intake.{Intake}
use Rattle.afdx_network.specs.Runs.{Given, KeepTheirLines}
use Rattle.afdx_network.specs.Given.{HasOrder, NoneShareAPort, IsWireFault, AreGivenBy}
use Rattle.afdx_network.specs.Inner.Sites.{Site, HasSent, AreCarried, HaveCome, AreEarly, gone_of}
use Rattle.afdx_network.specs.Inner.Outputs.{HaveGone}
use Rattle.afdx_network.specs.Inner.Intake.{HasTaken, AreGivenSoFar, IsIntakeFault, IsNotBefore, NoneCameLate, next_of}

-- all switches have come to an instant; what was given before it came in, and what comes next does not come before it
pub record IsOnWay {R : Type 0} (remaining : R → Option (List ℕ)) (net : Network) (first now : List R) (i : Intake) (came : List Arrival) (given : Given) (h : ℕ) (sites : List Site) : Type 0 where
  pub taken : HasTaken remaining net first now i came
  pub given_is : AreGivenSoFar net came given
  pub come : HaveCome net given h sites
  pub next : IsNotBefore h (next_of i)

-- more came in, and the switches went on; none is late, if none can be
pub record GoesOn {R : Type 0} (remaining : R → Option (List ℕ)) (net : Network) (first now : List R) (i : Intake) (came : List Arrival) (old : List Site) (h : ℕ) (sites : List Site) : Type 0 where
  pub more : List Arrival
  pub given : Given
  pub on : IsOnWay remaining net first now i (came ++ more) given h sites
  pub early : (order : HasOrder net) → All (λ w. w.delay ≤ 1000000) net.layout.wires → All IsAccepted net.tables → NoneCameLate (came ++ more) → AreEarly order.place old → AreEarly order.place sites

-- nothing is left of what is given, and all has left the switches
pub record IsThrough {R : Type 0} (remaining : R → Option (List ℕ)) (net : Network) (first now : List R) (i : Intake) (sites : List Site) : Type 0 where
  pub came : List Arrival
  pub given : Given
  pub taken : HasTaken remaining net first now i came
  pub given_is : AreGivenSoFar net came given
  pub carried : AreCarried net given sites
  pub sent : All (HasSent None) sites
  pub none : next_of i ≡ None

-- why a run stops on its way, or does not begin
abbrev pub IsRunFault : Network → NetworkRunFault → Type 0
IsRunFault net fault.WrongWires = NoneShareAPort net → ⊥
IsRunFault net why = IsWireFault net why

-- the run stopped after these arrivals were taken; if no frame can be late, for lack of memory alone
pub record StopsOnWay {R : Type 0} (remaining : R → Option (List ℕ)) (net : Network) (first now : List R) (i : Intake) (why : NetworkRunFault) : Type 0 where
  pub came : List Arrival
  pub taken : HasTaken remaining net first now i came
  pub wired : IsRunFault net why
  pub never : (order : HasOrder net) → All (λ w. w.delay ≤ 1000000) net.layout.wires → All IsAccepted net.tables → NoneCameLate came → why ≡ fault.Memory

-- why it stopped: what is given cannot be read on, or the run cannot go on
abbrev pub IsStop : {R : Type 0} → (R → Option (List ℕ)) → Network → List R → List R → Intake → Stop → Type 0
IsStop remaining net first now i (stop.Intake why) = IsIntakeFault remaining net first why
IsStop remaining net first now i (stop.Run why) = StopsOnWay remaining net first now i why

-- nothing is left of a run; of what left these switches only a last part is not in the files
pub record HasRunThrough {R F : Type 0} (remaining : R → Option (List ℕ)) (contents : F → Option (List ℕ)) (net : Network) (first now : List R) (i : Intake) (old new : List F)
    (sites : List Site) : Type 0 where
  pub through : IsThrough remaining net first now i sites
  pub one_each : NoneShareAPort net
  pub going : All (λ s. s.paced.failed ≡ false) sites
  pub files : length new ≡ length (gone_of sites)
  pub gone : HaveGone contents old new (gone_of sites)

-- nothing is left of a run over all that the readers give
pub record IsRunOver {R F : Type 0} (remaining : R → Option (List ℕ)) (contents : F → Option (List ℕ)) (net : Network) (first : List R) (old new : List F) (sites : List Site) : Type 0 where
  pub given : Given
  pub given_by : AreGivenBy remaining net first given
  pub lines : KeepTheirLines net given
  pub carried : AreCarried net given sites
  pub sent : All (HasSent None) sites
  pub one_each : NoneShareAPort net
  pub going : All (λ s. s.paced.failed ≡ false) sites
  pub files : length new ≡ length (gone_of sites)
  pub gone : HaveGone contents old new (gone_of sites)
