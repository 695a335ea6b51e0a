-- What a run did, and why it was not done.
use Rattle.std.proofs.Common.{◌≡◌, ℕ, List, Option, Result, Ok, Err, sym, ap, subst, ◌∙◌, inl, inr}
use Rattle.std.specs.Prelude.{◌⊎◌, MatchResult}
use Rattle.std.proofs.Common.{map, length}
use Rattle.std.specs.Prelude.{string_bytes}
use Rattle.std.proofs.lemmas.Simd.{map-map}
use Rattle.afdx_table.specs.declared.rows.PortRow.{PortRow}
use Rattle.afdx_table.specs.Content.{Content}
use Rattle.afdx_core.specs.Merge.{merged}
use Rattle.afdx_table.specs.WellFormed.{TablesAreWellFormed}
use Rattle.afdx_session.specs.Texts.{Text}
use Rattle.afdx_session.specs.Output.{output_text}
use Rattle.afdx_session.specs.declared.plan.Plan.{Plan}
use Rattle.afdx_session.specs.Outcome.{Results, table_in, IsOutcome}
use Rattle.afdx_session.specs.Headline.{AcceptedRunsIsolate}
use Rattle.afdx_arguments.specs.declared.request.Paths.{Paths}
use Rattle.afdx_arguments.specs.declared.request.RunOptions.{RunOptions}
use Rattle.afdx_arguments.specs.declared.request.TraceOptions.{TraceOptions}
use Rattle.afdx_arguments.specs.declared.request.Inputs.{Inputs}
use Rattle.afdx_messages.specs.declared.failure.Failure.{Failure}
use Rattle.afdx_messages.specs.declared.failure.Failure.TheVariants as failure
use Rattle.afdx_folder.specs.Files.{Files, DeviceLog, KeepsFiles, PutsFiles, settled_after}
use Rattle.afdx_serve.specs.Runs.{inputs_of, IsRunOf, LeadsTo, names_in, bytes_of_captures, StopsAt, EndsAt, StopsRun, EndsRun, FailsToPut, FailsToEnd, FailsToRun, HasPlan, FailsToGetAll}
use Rattle.afdx_serve.specs.Runs.{WasNotRead, FailsToGather, FailsToLead}
use Rattle.afdx_serve.specs.Runs.{capture_name}
use Rattle.afdx_serve.specs.Traces.{trace_names, IsTraceIn, PutsTrace, StopsTrace, EndsTrace, FailsToTrace}
use Rattle.std.specs.Io.KnownBytes.{Keeps}
use Rattle.afdx_serve.specs.Serving.{world, PutsResults, FailsToRunAll}
use Rattle.afdx_serve.proofs.CaptureLemmas.{StopsAt-before, EndsAt-before, GetsUpTo-before}
use Rattle.afdx_serve.proofs.FileLemmas.{KeepsFiles-trans, PutsFiles-before}

-- what was led to was not all put
module _ (paths : Paths) (names all : List (List ℕ)) (a b c : Option Files) (first before after : DeviceLog) (keeps : KeepsFiles a b) (same : before ≡ first)
    (Ends : List ℕ → Type 0) (ends : (name : List ℕ) → EndsAt name names all a c first after → Ends name)
    (Stops : List ℕ → Type 0) (stops : (name : List ℕ) → StopsAt name names all a c → Stops name) where
  pub not_all_put : (f : Failure) → FailsToPut f names all b c before after → FailsToEnd Ends Stops f paths a c first after
  not_all_put (failure.Put name) h = ends (string_bytes name) (EndsAt-before (string_bytes name) names all a b c first before after keeps same h)
  not_all_put failure.Memory (inl kept) = inl (KeepsFiles-trans a b c keeps kept)
  not_all_put failure.Memory (inr h) = inr (h.0, stops h.0 (StopsAt-before _ _ _ a b c keeps h.1))
  not_all_put f h = absurd h

module _ (paths : Paths) (results : Results) (a b c : Option Files) (first before after : DeviceLog) (leads : LeadsTo paths a results) (keeps : KeepsFiles a b) (same : before ≡ first) where
  stopped : (name : List ℕ) → StopsAt name (names_in paths.output.now results.captures) (bytes_of_captures results.captures) a c → StopsRun name paths a c
  stopped name stops = (results, leads, stops)

  ended : (name : List ℕ) → EndsAt name (names_in paths.output.now results.captures) (bytes_of_captures results.captures) a c first after → EndsRun name paths a c first after
  ended name ends = (results, leads, ends)

  not_put_run : (f : Failure) → FailsToPut f (names_in paths.output.now results.captures) (bytes_of_captures results.captures) b c before after → FailsToRun f paths a c first after
  not_put_run = not_all_put paths (names_in paths.output.now results.captures) (bytes_of_captures results.captures) a b c first before after keeps same
      (λ name. EndsRun name paths a c first after) ended (λ name. StopsRun name paths a c) stopped

  -- what was led to was not all put, and nothing was written
  pub not_all : (options : RunOptions) (f : Failure) (w v : Option (List ℕ)) → Keeps w v
      → FailsToPut f (names_in paths.output.now results.captures) (bytes_of_captures results.captures) b c before after
      → FailsToRunAll f paths options (world w a first) (world v c after)
  not_all options (failure.Put name) w v none h = (not_put_run (failure.Put name) h, none)
  not_all options failure.Memory w v none h = (not_put_run failure.Memory h, none)
  not_all options f w v none h = absurd h

  -- what was led to was put
  pub all_put : PutsFiles b c (names_in paths.output.now results.captures) (bytes_of_captures results.captures)
      → after ≡ settled_after (length (names_in paths.output.now results.captures)) before → (w v : Option (List ℕ))
      → PutsResults paths (world w a first) (world v c after) results
  all_put put count w v = (leads, PutsFiles-before a b c _ _ keeps put, count ∙ ap (settled_after (length (names_in paths.output.now results.captures))) same)

-- of a name that failed: no file has changed, or those before a name were put
pub run_ended : (name : List ℕ) (paths : Paths) (a c : Option Files) (before after : DeviceLog) → EndsRun name paths a c before after → KeepsFiles a c ⊎ ((n : List ℕ) × StopsRun n paths a c)
run_ended name paths a c before after h = elim h.2 [
  | inl kept ↦ inl kept.1
  | inr stops ↦ inr (name, (h.0, h.1, stops.0))
]

pub trace_ended : (name : List ℕ) (paths : Paths) (options : TraceOptions) (a c : Option Files) (before after : DeviceLog) → EndsTrace name paths options a c before after
    → KeepsFiles a c ⊎ ((n : List ℕ) × StopsTrace n paths options a c)
trace_ended name paths options a c before after h = elim h.2 [
  | inl kept ↦ inl kept.1
  | inr stops ↦ inr (name, (h.0, h.1, stops.0))
]

-- ---- what a run is made of

module _ (inputs : Inputs) (a b : Option Files) (t : Content) (first before after : DeviceLog) (plan : HasPlan a inputs t) (keeps : KeepsFiles a b) (same : before ≡ first) where
  -- a capture was not got
  pub not_gathered : (f : Failure) → FailsToGetAll f b inputs.input.now t before after → FailsToGather f inputs a first after
  not_gathered (failure.Get name) h = inr (t, plan, (GetsUpTo-before _ _ a b t keeps h.0, subst (λ (log : DeviceLog). WasNotRead (string_bytes name) log after) same h.1))
  not_gathered failure.Memory h = tt
  not_gathered f h = absurd h

-- ---- what that leads to

module _ (inputs : Inputs) (a : Option Files) (plan : Plan) (captures : List Text) (before after : DeviceLog) (of : IsRunOf inputs a plan captures) (count : after ≡ before) where
  pub not_led : (f : Failure) → FailsToLead f (table_in plan) captures → FailsToGather f inputs a before after
  not_led (failure.PortCapture p r) h = (table_in plan, captures, of.has_plan, of.has_captures, h, count)
  not_led failure.Memory h = tt
  not_led f h = absurd h

-- what was reported was not all put, or was
module _ (paths : Paths) (options : TraceOptions) (texts : List (List ℕ)) (a b c : Option Files) (first before after : DeviceLog) (is : IsTraceIn paths options a texts)
    (keeps : KeepsFiles a b) (same : before ≡ first) where
  abbrev names : List (List ℕ)
  names = trace_names paths.output.now

  pub not_traced : (f : Failure) → FailsToPut f names texts b c before after → FailsToTrace f paths options a c first after
  not_traced = not_all_put paths names texts a b c first before after keeps same
      (λ name. EndsTrace name paths options a c first after)
      (λ name ends. (texts, is, ends))
      (λ name. StopsTrace name paths options a c)
      (λ name stops. (texts, is, stops))

  pub all_traced : PutsFiles b c names texts → PutsTrace paths options a c
  all_traced put = (texts, is, PutsFiles-before a b c _ _ keeps put)

  pub traced_all : {T : Type 0} (r : Result T Failure) → MatchResult r (λ _. PutsFiles b c names texts × (after ≡ settled_after (length names) before)) (λ f. FailsToPut f names texts b c before after)
      → MatchResult r (λ _. PutsTrace paths options a c × (after ≡ settled_after 2 first)) (λ f. FailsToTrace f paths options a c first after)
  traced_all (Ok x) h = (all_traced h.0, h.1 ∙ ap (settled_after 2) same)
  traced_all (Err f) h = not_traced f h

-- the files of a trace lead to nothing, and nothing was put
pub not_gathered_trace : (paths : Paths) (options : TraceOptions) (a b : Option Files) (first after : DeviceLog) → KeepsFiles a b → (f : Failure) → FailsToGather f (inputs_of paths) a first after
    → FailsToTrace f paths options a b first after
not_gathered_trace paths options a b first after keeps failure.Memory h = inl keeps
not_gathered_trace paths options a b first after keeps (failure.Table r) h = (h, keeps)
not_gathered_trace paths options a b first after keeps (failure.Get s) h = (h, keeps)
not_gathered_trace paths options a b first after keeps (failure.Load r) h = (h, keeps)
not_gathered_trace paths options a b first after keeps (failure.PortCapture p r) h = (h, keeps)
not_gathered_trace paths options a b first after keeps f h = absurd h

-- the files lead to nothing, and nothing was put or written
pub not_gathered_run : (paths : Paths) (options : RunOptions) (a b : Option Files) (first after : DeviceLog) → KeepsFiles a b → (w v : Option (List ℕ)) → Keeps w v → (f : Failure)
    → FailsToGather f (inputs_of paths) a first after
    → FailsToRunAll f paths options (world w a first) (world v b after)
not_gathered_run paths options a b first after keeps w v none failure.Memory h = (inl keeps, none)
not_gathered_run paths options a b first after keeps w v none (failure.Table r) h = ((h, keeps), none)
not_gathered_run paths options a b first after keeps w v none (failure.Get s) h = ((h, keeps), none)
not_gathered_run paths options a b first after keeps w v none (failure.Load r) h = ((h, keeps), none)
not_gathered_run paths options a b first after keeps w v none (failure.PortCapture p r) h = ((h, keeps), none)
not_gathered_run paths options a b first after keeps w v none f h = absurd h

-- what the run of the captures leads to is what the files lead to
pub leads_to : TablesAreWellFormed → AcceptedRunsIsolate → (paths : Paths) (files : Option Files) (plan : Plan) (captures : List Text) (results : Results)
    → IsRunOf (inputs_of paths) files plan captures → IsOutcome (table_in plan) captures results → LeadsTo paths files results
leads_to formed isolate paths files plan captures results of outcome = record {
  table = table_in plan;
  captures = captures;
  has_plan = of.has_plan;
  has_captures = of.has_captures;
  outcome = outcome;
  isolated = λ checked. let text = of.has_plan.0 in isolate (table_in plan) captures results (formed text.0 (table_in plan) text.2) (of.has_plan.1 checked) outcome;
}

-- the names of the outputs are those of the captures
pub same_names : (path : List ℕ) (t : Content) (captures : List Text) (results : Results) → IsOutcome t captures results → names_in path captures ≡ names_in path results.captures
same_names path t captures results is =
    sym (map-map (capture_name path) (λ (x : Text). x.0) captures)
    ∙ ap (map (capture_name path)) is.ports
    ∙ map-map (capture_name path) (λ (p : PortRow). p.id) t.ports
    ∙ sym (map-map (λ (x : Text). capture_name path x.0) (λ (p : PortRow). (p.id, output_text t (merged is.read) p)) t.ports)
    ∙ ap (names_in path) (sym is.captures)
