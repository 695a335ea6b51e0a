-- Why the run of a network of which nothing is put was not made.
use Rattle.std.proofs.Common.{◌≡◌, ℕ, suc, Bool, true, false, not, List, [], ◌∷◌, length, Option, Ok, String, Global, string_bytes, inr, refl, sym, ap, subst, ◌∙◌}
use Rattle.std.specs.Io.KnownBytes.{Keeps}
use Rattle.std.proofs.lemmas.List.{length-map}
use Rattle.afdx_core.specs.State.{State}
use Rattle.afdx_count.specs.Tally.{Tally}
use Rattle.afdx_table.specs.Content.{Content}
use Rattle.afdx_session.specs.Texts.{Text}
use Rattle.afdx_session.specs.Outcome.{Results}
use Rattle.afdx_wiring.specs.File.{Switch}
use Rattle.afdx_network_check.specs.Order.{misfit}
use Rattle.afdx_network.specs.Watched.{AreEnded}
use Rattle.afdx_network_report.specs.Lines.{Names}
use Rattle.afdx_origins.specs.Origins.{Origins}
use Rattle.afdx_arguments.specs.declared.request.NetworkInputs.{NetworkInputs}
use Rattle.afdx_messages.specs.declared.failure.Failure.{Failure}
use Rattle.afdx_messages.specs.declared.failure.Failure.TheVariants as failure
use Rattle.afdx_folder.specs.Files.{Files, DeviceLog, KeepsFiles}
use Rattle.afdx_serve.specs.declared.network_watched.Planned.{Planned}
use Rattle.afdx_serve.specs.NetworkMeasures.{WatchesFrom}
use Rattle.afdx_serve.specs.NetworkRuns.{FailsToGetGiven, FailsToLeadFrom}
use Rattle.afdx_serve.specs.Serving.{world, FailsToWatchNetwork}
use Rattle.afdx_serve.specs.Inner.NetworkRunning.{network_in, is_accepted}
use Rattle.afdx_serve.specs.Inner.Watching.{IsPlanned}
use Rattle.afdx_serve.proofs.FileLemmas.{KeepsFiles-trans}
use Rattle.afdx_serve.proofs.NetworkRunLemmas.{never_write, not_given_before}

-- ---- as many switches have run as there are names

ended_count : (tables : List Content) (came : List (List Text)) (left : List Results) (switches : List (Tally × State)) → AreEnded tables came left switches → length tables ≡ length switches
ended_count [] [] [] [] are = refl
ended_count (t ∷ tables) (texts ∷ came) (r ∷ left) (both ∷ switches) are = ap suc (ended_count tables came left switches are.1)
ended_count _ _ _ _ are = absurd are

pub named_switches : (inputs : NetworkInputs) (a b : Option Files) (path : List ℕ) (p : Planned) (switches : List (Tally × State)) (o : Origins) → IsPlanned inputs a p
    → WatchesFrom b path (network_in p.plan) switches o → length p.names.items ≡ length switches
named_switches inputs a b path p switches o planned watched =
    sym (length-map p.names.items (λ (s : String Global). string_bytes s)) ∙ ap (λ (ns : Names). length ns) planned.names
    ∙ length-map (network_in p.plan).layout.switches (λ (s : Switch). s.name) ∙ sym planned.tables
    ∙ ended_count (network_in p.plan).tables watched.came watched.left switches watched.ended

-- ---- an accepted network breaks no rule

checked : (unchecked : Bool) → not unchecked ≡ true → unchecked ≡ false
checked false is = refl
checked true is = absurd cc

pub accepted_keeps : (inputs : NetworkInputs) (files : Option Files) (p : Planned) → IsPlanned inputs files p → is_accepted p.plan ≡ true → misfit (network_in p.plan) ≡ Ok tt
accepted_keeps inputs files p planned accepted = planned.kept (checked inputs.unchecked (sym planned.chosen ∙ accepted))

-- ---- why there is none

-- the captures were not all got, or lead to nothing
pub not_watched_from : (f : Failure) (inputs : NetworkInputs) (a b : Option Files) (p : Planned) (first before after : DeviceLog) → IsPlanned inputs a p → KeepsFiles a b → before ≡ first
    → FailsToGetGiven f b inputs.input.now (network_in p.plan) before after → FailsToLeadFrom f inputs.network.now inputs.unchecked inputs.input.now a first after
not_watched_from f inputs a b p first before after planned keeps same h =
    let fails = subst (λ (log : DeviceLog). FailsToGetGiven f b inputs.input.now (network_in p.plan) log after) same h in
    inr (network_in p.plan, planned.has_network, inr (planned.accepted, not_given_before f a b inputs.input.now (network_in p.plan) first after keeps fails))

-- nothing was written
pub not_watched : (IsText : List ℕ → Type 0) (f : Failure) (inputs : NetworkInputs) (a b : Option Files) (first after : DeviceLog) → KeepsFiles a b → (w v : Option (List ℕ)) → Keeps w v
    → FailsToLeadFrom f inputs.network.now inputs.unchecked inputs.input.now a first after → FailsToWatchNetwork IsText f inputs (world w a first) (world v b after)
not_watched IsText failure.Write inputs a b first after keeps w v none h = absurd (never_write inputs.network.now inputs.unchecked inputs.input.now a first after h)
not_watched IsText failure.Memory inputs a b first after keeps w v none h = (keeps, none)
not_watched IsText f inputs a b first after keeps w v none h = (h, keeps, none)

-- of a run that was planned
pub not_measured : (IsText : List ℕ → Type 0) (f : Failure) (inputs : NetworkInputs) (a b c : Option Files) (p : Planned) (first before after : DeviceLog) → IsPlanned inputs a p
    → KeepsFiles a b → KeepsFiles b c → before ≡ first → (w v : Option (List ℕ)) → Keeps w v → FailsToGetGiven f b inputs.input.now (network_in p.plan) before after
    → FailsToWatchNetwork IsText f inputs (world w a first) (world v c after)
not_measured IsText f inputs a b c p first before after planned keeps further same w v none h =
    not_watched IsText f inputs a c first after (KeepsFiles-trans a b c keeps further) w v none (not_watched_from f inputs a b p first before after planned keeps same h)
