-- What a run of which nothing is put came to, and kept.
use Rattle.std.proofs.Common.{ℕ, Bool, List, Option, sym, subst}
use Rattle.std.specs.Prelude.{Contains}
use Rattle.afdx_table.specs.Content.{Content}
use Rattle.afdx_table.specs.WellFormed.{IsWellFormed, TablesAreWellFormed}
use Rattle.afdx_load.specs.Accepted.{IsAccepted}
use Rattle.afdx_core.specs.State.{State}
use Rattle.afdx_count.specs.Tally.{Tally}
use Rattle.afdx_measure.specs.Ports.{AcceptedTablesStayWithinTheLoad}
use Rattle.afdx_session.specs.Texts.{Text}
use Rattle.afdx_session.specs.declared.plan.Plan.{Plan}
use Rattle.afdx_session.specs.Outcome.{table_in, is_cleared}
use Rattle.afdx_session.specs.Sources.{AreRead}
use Rattle.afdx_session.specs.Measured.{IsMeasuredRun}
use Rattle.afdx_arguments.specs.declared.request.Inputs.{Inputs}
use Rattle.afdx_folder.specs.Files.{Files, Shows, KeepsFiles}
use Rattle.afdx_serve.specs.Measures.{IsMeasured}
use Rattle.afdx_serve.specs.Inner.Leading.{IsPlanOf, AreOpenedPorts}
use Rattle.afdx_serve.proofs.LeadLemmas.{has_plan, captures_before, opened_are_captures}

module _ (law : AcceptedTablesStayWithinTheLoad) (well : TablesAreWellFormed) {R : Type 0} (remaining : R → Option (List ℕ)) (inputs : Inputs) (a b : Option Files) (text : List ℕ)
    (plan : Plan) (names : List (List ℕ)) (readers : List R) (texts : List Text) (tally : Tally) (done : State) where
  pub is_measured : Shows a inputs.table.now text → IsPlanOf text inputs.unchecked plan → KeepsFiles a b → AreOpenedPorts remaining b inputs.input.now (table_in plan) names readers
      → AreRead remaining readers texts → IsMeasuredRun (is_cleared plan) (table_in plan) texts tally done → IsMeasured inputs a tally done
  is_measured shows of keeps opened read run = record {
    table = table_in plan;
    captures = texts;
    has_plan = has_plan inputs a text plan shows of;
    has_captures =
        captures_before a b inputs.input.now (table_in plan) texts keeps
        (opened_are_captures remaining b inputs.input.now (table_in plan) names readers texts opened.named opened.opened read run.done.ports);
    run = subst (λ (checked : Bool). IsMeasuredRun checked (table_in plan) texts tally done) of.cleared run;
    within = λ checked p among.
        law done.run run.done.is_run (subst IsWellFormed (sym run.done.table) (well text (table_in plan) of.is_table)) (subst IsAccepted (sym run.done.table) (of.accepted checked)) p
        (subst (λ (t : Content). Contains t.ports p) (sym run.done.table) among);
  }
