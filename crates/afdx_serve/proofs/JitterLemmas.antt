-- The jitters that a network needs, and why they were not reported.
use Rattle.std.proofs.Common.{◌≡◌, ◌≢◌, ℕ, List, Err, inl, inr}
use Rattle.afdx_wiring.specs.declared.fault.NetworkFault.{NetworkFault}
use Rattle.afdx_wiring.specs.declared.fault.NetworkFault.TheVariants as fault
use Rattle.afdx_network_check.specs.Net.{Network}
use Rattle.afdx_messages.specs.declared.failure.Failure.{Failure}
use Rattle.afdx_folder.specs.Files.{KeepsFiles}
use Rattle.afdx_serve.specs.Networks.{names_of, HasNetwork, IsRefused, FailsToGetNetwork}
use Rattle.afdx_serve.specs.NetworkJitters.{fit_of}
use Rattle.afdx_csv.specs.declared.form.Form.{Form}
use Rattle.afdx_serve.specs.Serving.{World, WritesNothing, FailsToGiveJitters}
use Rattle.afdx_serve.proofs.NetworkLemmas.{of_lost, of_refused}

module _ (form : Form) (path : List ℕ) (old new : World) (keeps : KeepsFiles old.files new.files) (none : WritesNothing old new) where
  -- the network was not got
  pub not_got : (f : Failure) → FailsToGetNetwork f old.files path old.failed new.failed → FailsToGiveJitters f form path old new
  not_got =
      of_lost (λ f. FailsToGiveJitters f form path old new) old.files path old.failed new.failed (inl (keeps, none)) (λ e h. inl (inl h, keeps, none)) (λ name h. inl (inl h, keeps, none))

  -- it does not fit
  pub not_fit : (net : Network) → HasNetwork old.files path net → new.failed ≡ old.failed → (e : NetworkFault) → (e ≢ fault.Memory → fit_of net ≡ Err e)
      → (f : Failure) → IsRefused (names_of net.layout.switches) e f → FailsToGiveJitters f form path old new
  not_fit net has count e why =
      of_refused (λ f. FailsToGiveJitters f form path old new) (names_of net.layout.switches) e (inl (keeps, none)) (λ x h. inl (inr (net, has, (e, why, h), count), keeps, none))
