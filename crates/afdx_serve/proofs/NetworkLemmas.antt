-- Why commands of networks were not served.
use Rattle.std.proofs.Common.{◌≢◌, ℕ, Bool, List, Option, None, Global, String, inl, inr}
use Rattle.std.specs.Prelude.{◌⊎◌}
use Rattle.afdx_wiring.specs.declared.fault.NetworkFault.{NetworkFault}
use Rattle.afdx_wiring.specs.declared.fault.NetworkFault.TheVariants as fault
use Rattle.afdx_network_report.specs.Lines.{Names}
use Rattle.afdx_arguments.specs.declared.request.NetworkPaths.{NetworkPaths}
use Rattle.afdx_arguments.specs.declared.request.NetworkRequest.{NetworkRequest}
use Rattle.afdx_arguments.specs.declared.request.NetworkRequest.TheVariants as ask
use Rattle.afdx_wiring.specs.declared.fault.Short.{Short}
use Rattle.afdx_messages.specs.declared.network_failure.JitterRule.{JitterRule}
use Rattle.afdx_messages.specs.declared.network_failure.NetworkFailure.{NetworkFailure}
use Rattle.afdx_messages.specs.declared.network_failure.NetworkFailure.TheVariants as network
use Rattle.afdx_messages.specs.declared.failure.Failure.{Failure}
use Rattle.afdx_messages.specs.declared.failure.Failure.TheVariants as failure
use Rattle.afdx_messages.specs.Inner.Failures.{wiring_failure}
use Rattle.afdx_folder.specs.Files.{Files, DeviceLog, KeepsFiles}
use Rattle.afdx_messages.specs.Reporting.{IsMade}
use Rattle.afdx_serve.specs.Networks.{names_of, verdict_of, IsRefused, AreRefusedRows, NetworkVerdict, LeadsToFailure, FailsToGetNetwork}
use Rattle.afdx_serve.specs.NetworkRuns.{FailsToLeadFrom, StopsNetwork, EndsNetwork}
use Rattle.afdx_serve.specs.NetworkTraces.{StopsNetworkTrace, EndsNetworkTrace}
use Rattle.afdx_serve.specs.Serving.{World, WritesNothing, FailsToPerformNetwork}

-- ---- a network that is not got, or is refused

-- no other failure leaves a network to be got
got : (files : Option Files) (path : List ℕ) (before after : DeviceLog) → FailsToGetNetwork failure.Usage files path before after → ⊥
got files path before after (inl h) = h
got files path before after (inr h) = h.2

-- it is not got where memory or a file is missing, or where it is refused
pub of_lost : (P : Failure → Type 0) (files : Option Files) (path : List ℕ) (before after : DeviceLog) → P failure.Memory
    → ((e : NetworkFailure) → FailsToGetNetwork (failure.Network e) files path before after → P (failure.Network e))
    → ((name : String Global) → FailsToGetNetwork (failure.Get name) files path before after → P (failure.Get name))
    → (f : Failure) → FailsToGetNetwork f files path before after → P f
of_lost P files path before after out refused unread failure.Memory h = out
of_lost P files path before after out refused unread (failure.Network e) h = refused e h
of_lost P files path before after out refused unread (failure.Get name) h = unread name h
of_lost P files path before after out refused unread f h = absurd (got files path before after h)

-- a refusal leads to itself, or to memory
pub of_refused : (P : Failure → Type 0) (names : Names) (e : NetworkFault) → P failure.Memory
    → ((x : NetworkFailure) → IsRefused names e (failure.Network x) → P (failure.Network x)) → (f : Failure) → IsRefused names e f → P f
of_refused P names e out refused failure.Memory h = out
of_refused P names e out refused (failure.Network x) h = refused x h
of_refused P names e out refused f h = absurd h

-- rows that are refused lead to themselves, or to memory
pub of_rows : (P : Failure → Type 0) (names : Names) (rule : JitterRule) (shorts : List Short) → P failure.Memory
    → ((x : NetworkFailure) → AreRefusedRows names rule shorts (failure.Network x) → P (failure.Network x)) → (f : Failure) → AreRefusedRows names rule shorts f → P f
of_rows P names rule shorts out refused failure.Memory h = out
of_rows P names rule shorts out refused (failure.Network x) h = refused x h
of_rows P names rule shorts out refused f h = absurd h

-- a verdict never leads to refused arguments
judged_usage : (names : Names) (verdict : NetworkVerdict) → LeadsToFailure names verdict failure.Usage → ⊥
judged_usage names verdict (inl h) = h.2
judged_usage names verdict (inr h) = h.3

-- nor to a write or a put that failed
pub judged_write : (names : Names) (verdict : NetworkVerdict) → LeadsToFailure names verdict failure.Write → ⊥
judged_write names verdict (inl h) = h.2
judged_write names verdict (inr h) = h.3

pub judged_put : (s : String Global) (names : Names) (verdict : NetworkVerdict) → LeadsToFailure names verdict (failure.Put s) → ⊥
judged_put s names verdict (inl h) = h.2
judged_put s names verdict (inr h) = h.3

-- nor do the files of a network and of a folder
not_led : (network : List ℕ) (unchecked : Bool) (input : List ℕ) (files : Option Files) (before after : DeviceLog)
    → FailsToLeadFrom failure.Usage network unchecked input files before after → ⊥
not_led network unchecked input files before after (inl h) = got files network before after h
not_led network unchecked input files before after (inr h) = elim h.2 [
  | inl refused ↦ judged_usage (names_of h.0.layout.switches) (verdict_of h.0) refused.0.1
  | inr given ↦ given.1
]

-- ---- of all commands of networks

-- they never refuse the arguments
pub never_usage : (r : NetworkRequest) (old new : World) → FailsToPerformNetwork failure.Usage r old new → ⊥
never_usage (ask.Check path form) old new h = elim h.0 [
  | inl fails ↦ got old.files path.now old.failed new.failed fails
  | inr fails ↦ judged_usage (names_of fails.0.layout.switches) (verdict_of fails.0) fails.2
]
never_usage (ask.Size path form) old new h = got old.files path.now old.failed new.failed h.0
never_usage (ask.Jitter path form) old new (inl h) = elim h.0 [
  | inl fails ↦ got old.files path.now old.failed new.failed fails
  | inr fails ↦ fails.2.2
]
never_usage (ask.Jitter path form) old new (inr h) = h.4
never_usage (ask.Run paths form) old new h = not_led paths.network.now paths.unchecked paths.input.now old.files old.failed new.failed h.0.0
never_usage (ask.Measure inputs form) old new h = not_led inputs.network.now inputs.unchecked inputs.input.now old.files old.failed new.failed h.0
never_usage (ask.Survey inputs form) old new h = not_led inputs.network.now inputs.unchecked inputs.input.now old.files old.failed new.failed h.0
never_usage (ask.Trace paths) old new h = not_led paths.network.now paths.unchecked paths.input.now old.files old.failed new.failed h.0.0

-- of a name that failed: no file has changed, or those before a name were put
network_ended : (name : List ℕ) (paths : NetworkPaths) (a c : Option Files) (before after : DeviceLog) → EndsNetwork name paths a c before after
    → KeepsFiles a c ⊎ ((n : List ℕ) × StopsNetwork n paths a c)
network_ended name paths a c before after h = elim h.3 [
  | inl kept ↦ inl kept.1
  | inr stops ↦ inr (name, (h.0, h.1, h.2, stops.0))
]

network_trace_ended : (name : List ℕ) (paths : NetworkPaths) (a c : Option Files) (before after : DeviceLog) → EndsNetworkTrace name paths a c before after
    → KeepsFiles a c ⊎ ((n : List ℕ) × StopsNetworkTrace n paths a c)
network_trace_ended name paths a c before after h = elim h.3 [
  | inl kept ↦ inl kept.1
  | inr stops ↦ inr (name, (h.0, h.1, h.2, stops.0))
]

-- a failure with a line that is made leaves what may be there where memory ran out
pub spares : (f : Failure) (r : NetworkRequest) (old new : World) → IsMade f → FailsToPerformNetwork f r old new
    → (WritesNothing old new × KeepsFiles old.files new.files) ⊎ FailsToPerformNetwork failure.Memory r old new
spares failure.Found r old new made h = absurd made
spares failure.Usage r old new made h = absurd made
spares failure.Read r old new made h = absurd made
spares failure.Write r old new made h = absurd made
spares failure.Memory r old new made h = absurd made
spares f (ask.Check path form) old new made h = inl (h.2, h.1)
spares f (ask.Size path form) old new made h = inl (h.2, h.1)
spares f (ask.Jitter path form) old new made (inl h) = inl (h.2, h.1)
spares (failure.Network e) (ask.Jitter path form) old new made (inr h) = inr (inr (h.0, h.1, h.2, h.3, tt))
spares f (ask.Jitter path form) old new made (inr h) = absurd h.4
spares (failure.Put name) (ask.Run paths form) old new made h = inr (network_ended _ paths _ _ _ _ h.0, h.1)
spares f (ask.Run paths form) old new made h = inl (h.1, h.0.1)
spares f (ask.Measure inputs form) old new made h = inl (h.2, h.1)
spares f (ask.Survey inputs form) old new made h = inl (h.2, h.1)
spares (failure.Put name) (ask.Trace paths) old new made h = inr (network_trace_ended _ paths _ _ _ _ h.0, h.1)
spares f (ask.Trace paths) old new made h = inl (h.1, h.0.1)

-- ---- the failures of refusals

-- what a refusal without the name of a switch leads to
pub of_wiring : (P : Failure → Type 0) (e : NetworkFault) → P failure.Memory → (e ≢ fault.Memory → P (failure.Network (network.Refused e None))) → P (wiring_failure e)
of_wiring P fault.Memory out refused = out
of_wiring P e out refused = refused (λ bad. absurd (cc))
