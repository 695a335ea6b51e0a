use Rattle.std.proofs.Common.{◌≡◌, List, map, take, string_bytes}
use Rattle.afdx_session.specs.Outcome.{Results}
use Rattle.afdx_serve.specs.NetworkRuns.{runs_text}
use Rattle.afdx_serve.proofs.network_run.runs_text.Given as goal

abbrev pub invariant-loop-switch : goal.invariant-loop-switch
invariant-loop-switch l = (left : List Results) → l.counts ≡ map (λ r. r.counts) left → l.text.items ≡ runs_text l.form (map string_bytes l.names) (take l.switch left)
