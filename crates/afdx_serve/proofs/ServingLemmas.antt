-- What was served, and why arguments were not served.
use Rattle.std.proofs.Common.{ℕ, List, Option, sym, subst, inl, inr}
use Rattle.afdx_arguments.specs.declared.request.NetworkRequest.{NetworkRequest}
use Rattle.afdx_arguments.specs.declared.request.Request.{Request}
use Rattle.afdx_arguments.specs.declared.request.Request.TheVariants as request
use Rattle.afdx_arguments.specs.Requests.{Asks}
use Rattle.afdx_messages.specs.declared.failure.Failure.{Failure}
use Rattle.afdx_messages.specs.declared.failure.Failure.TheVariants as failure
use Rattle.afdx_messages.specs.Reporting.{ReportsAs, IsMade}
use Rattle.afdx_serve.specs.Serving.{World, FailsToPerform, FailsToPerformNetwork, Fails, RunsOut}
use Rattle.afdx_serve.proofs.CompareLemmas.{never_refused, rows_ended}
use Rattle.afdx_serve.proofs.NetworkLemmas.{never_usage, spares}
use Rattle.afdx_serve.proofs.RunLemmas.{run_ended, trace_ended}

module _ (arguments : List (List ℕ)) (input : Option (List ℕ)) (old new : World) where
  fails : (r : Request) → Asks arguments r → (f : Failure) → FailsToPerform f r input old new → Fails f arguments input old new
  fails (request.Run paths options) asks failure.Usage h = absurd h.0.0
  fails (request.Trace paths options) asks failure.Usage h = absurd h.0.0
  fails (request.Compare c r form) asks failure.Usage h = absurd (never_refused c r old.files old.failed new.failed h.0.0)
  fails (request.Network r) asks failure.Usage h = absurd (never_usage r old new h)
  fails r asks failure.Usage h = absurd h.0
  fails r asks failure.Write h = inr (r, asks, h)
  fails r asks failure.Memory h = inr (r, asks, h)
  fails r asks f h = (r, asks, h)

  network_runs_out : (f : Failure) (r : NetworkRequest) → IsMade f → Asks arguments (request.Network r) → FailsToPerformNetwork f r old new → RunsOut arguments input old new
  network_runs_out f r made asks h = elim (spares f r old new made h) [
    | inl spared ↦ inl spared
    | inr out ↦ inr (request.Network r, asks, out)
  ]

  -- a failure with a line that is made leaves what may be there where memory ran out
  runs_out : (f : Failure) (r : Request) → IsMade f → Asks arguments r → FailsToPerform f r input old new → RunsOut arguments input old new
  runs_out failure.Found r made asks h = absurd made
  runs_out failure.Usage r made asks h = absurd made
  runs_out failure.Read r made asks h = absurd made
  runs_out failure.Write r made asks h = absurd made
  runs_out failure.Memory r made asks h = absurd made
  runs_out (failure.Capture e) (request.Alone link) made asks h = inl (h.0.1, h.1.0)
  runs_out f (request.Alone link) made asks h = absurd h.0
  runs_out f (request.Check path form) made asks h = inl (h.2, h.1)
  runs_out f (request.Size path form) made asks h = inl (h.2, h.1)
  runs_out (failure.Put name) (request.Run paths options) made asks h = inr (request.Run paths options, asks, (run_ended _ paths _ _ _ _ h.0, h.1))
  runs_out f (request.Run paths options) made asks h = inl (h.1, h.0.1)
  runs_out f (request.Measure inputs form) made asks h = inl (h.2, h.1)
  runs_out f (request.Survey inputs form) made asks h = inl (h.2, h.1)
  runs_out (failure.Put name) (request.Trace paths options) made asks h = inr (request.Trace paths options, asks, (trace_ended _ paths options _ _ _ _ h.0, h.1))
  runs_out f (request.Trace paths options) made asks h = inl (h.1, h.0.1)
  runs_out (failure.Put name) (request.Compare c r form) made asks h = inr (request.Compare c r form, asks, (rows_ended _ c r _ _ _ _ h.0, h.1))
  runs_out f (request.Compare c r form) made asks h = inl (h.1, h.0.1)
  runs_out f (request.Explain entry) made asks h = absurd h.0
  runs_out f (request.Network r) made asks h = network_runs_out f r made asks h

  -- where memory ran out for its line, memory is the failure
  pub reported : (f t : Failure) → ReportsAs f t → Fails f arguments input old new → Fails t arguments input old new
  reported f t (inl e) h = subst (λ (x : Failure). Fails x arguments input old new) (sym e) h
  reported failure.Found t (inr e) h = absurd e.0
  reported failure.Usage t (inr e) h = absurd e.0
  reported failure.Read t (inr e) h = absurd e.0
  reported failure.Write t (inr e) h = absurd e.0
  reported failure.Memory t (inr e) h = absurd e.0
  reported f t (inr e) h = subst (λ (x : Failure). Fails x arguments input old new) (sym e.1) (runs_out f h.0 e.0 h.1 h.2)
