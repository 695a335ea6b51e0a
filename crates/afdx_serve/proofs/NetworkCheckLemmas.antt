-- Why a network was not found to be accepted.
use Rattle.std.proofs.Common.{◌≡◌, ℕ, List, ◌∷◌, inl, inr}
use Rattle.afdx_network_check.specs.Net.{Network}
use Rattle.afdx_messages.specs.declared.network_failure.JitterRule.TheVariants.{Jitter}
use Rattle.afdx_messages.specs.declared.failure.Failure.{Failure}
use Rattle.afdx_folder.specs.Files.{KeepsFiles}
use Rattle.afdx_serve.specs.Networks.{names_of, HasNetwork, FailsToGetNetwork, FailsToAcceptNetwork}
use Rattle.afdx_csv.specs.declared.form.Form.{Form}
use Rattle.afdx_serve.specs.Serving.{World, WritesNothing, FailsToCheckNetwork}
use Rattle.afdx_serve.proofs.NetworkLemmas.{of_lost, of_refused, of_rows}

module _ (form : Form) (path : List ℕ) (old new : World) (keeps : KeepsFiles old.files new.files) (none : WritesNothing old new) where
  -- the network was not got
  pub not_got : (f : Failure) → FailsToGetNetwork f old.files path old.failed new.failed → FailsToCheckNetwork f form path old new
  not_got = of_lost (λ f. FailsToCheckNetwork f form path old new) old.files path old.failed new.failed (keeps, none) (λ e h. (inl h, keeps, none)) (λ name h. (inl h, keeps, none))

  -- it is not accepted
  pub not_accepted : (net : Network) → HasNetwork old.files path net → new.failed ≡ old.failed → (f : Failure) → FailsToAcceptNetwork f net → FailsToCheckNetwork f form path old new
  not_accepted net has count f (inl h) =
      of_refused (λ x. FailsToCheckNetwork x form path old new) (names_of net.layout.switches) h.0 (keeps, none)
      (λ x is. (inr (net, has, inl (h.0, h.1, is), count), keeps, none)) f h.2
  not_accepted net has count f (inr h) =
      of_rows (λ x. FailsToCheckNetwork x form path old new) (names_of net.layout.switches) Jitter (h.0 ∷ h.1) (keeps, none)
      (λ x is. (inr (net, has, inr (h.0, h.1, h.2, is), count), keeps, none)) f h.3
