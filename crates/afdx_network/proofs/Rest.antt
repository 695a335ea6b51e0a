-- Runs of switches, one for each table: as one list, and with the headline where their loads are accepted.
use Rattle.std.proofs.Common.{◌≡◌, List, [], ◌∷◌, map, Result, Ok, Err, refl, ap, sym, subst}
use Rattle.std.specs.Prelude.{All, IfOk, OnOk}
use Rattle.std.proofs.lemmas.List.Elements.{All-head, All-tail}
use Rattle.afdx_table.specs.Content.{Content}
use Rattle.afdx_table.specs.WellFormed.{IsWellFormed}
use Rattle.afdx_load.specs.Accepted.{IsAccepted}
use Rattle.afdx_session.specs.Texts.{Text}
use Rattle.afdx_session.specs.Outcome.{Results}
use Rattle.afdx_session.specs.Lined.{PlainHeadlines}
use Rattle.afdx_network_check.specs.Net.{Network}
use Rattle.afdx_network.specs.Runs.{SwitchRun, Given, IsFedBy, KeepTheirLines, AreRuns, AreOutcomes, IsRunOf, IsUncheckedRunOf}

record IsList (tables : List Content) (came : List (List Text)) (left : List Results) : Type 0 where
  pub runs : List SwitchRun
  pub tables_are : map (λ (run : SwitchRun). run.table) runs ≡ tables
  pub came_is : map (λ (run : SwitchRun). run.texts) runs ≡ came
  pub left_is : map (λ (run : SwitchRun). run.results) runs ≡ left

one_list : (tables : List Content) (came : List (List Text)) (left : List Results) → AreRuns tables came left → IsList tables came left
one_list [] [] [] are = record { runs = []; tables_are = refl; came_is = refl; left_is = refl }
one_list [] [] (r ∷ left) are = absurd are
one_list [] (texts ∷ came) left are = absurd are
one_list (t ∷ tables) [] left are = absurd are
one_list (t ∷ tables) (texts ∷ came) [] are = absurd are
one_list (t ∷ tables) (texts ∷ came) (r ∷ left) are =
    let rest = one_list tables came left are.3 in
    record {
      runs = record { table = t; texts = texts; results = r; outcome = are.0; isolated = are.1; plain = are.2 } ∷ rest.runs;
      tables_are = ap (λ (others : List Content). t ∷ others) rest.tables_are;
      came_is = ap (λ (others : List (List Text)). texts ∷ others) rest.came_is;
      left_is = ap (λ (others : List Results). r ∷ others) rest.left_is;
    }

one_run : (net : Network) (given : Given) (came : List (List Text)) (left : List Results) → AreRuns net.tables came left → KeepTheirLines net given → IsFedBy net given left came
    → IsRunOf net given came left
one_run net given came left are lines fed =
    let all = one_list net.tables came left are in
    let fed_so : IsFedBy net given left (map (λ (run : SwitchRun). run.texts) all.runs) = subst (IsFedBy net given left) (sym all.came_is) fed in
    record {
      runs = all.runs;
      came_is = all.came_is;
      left_is = all.left_is;
      run = record {
        tables = all.tables_are;
        lines = lines;
        fed = subst (λ (results : List Results). IsFedBy net given results (map (λ (run : SwitchRun). run.texts) all.runs)) (sym all.left_is) fed_so;
      };
    }

-- each outcome of an accepted table has the headline
isolated_runs : PlainHeadlines → (tables : List Content) (came : List (List Text)) (left : List Results) → All IsWellFormed tables → All IsAccepted tables → AreOutcomes tables came left
    → AreRuns tables came left
isolated_runs plain [] [] [] formed accepted are = tt
isolated_runs plain [] [] (r ∷ left) formed accepted are = absurd are
isolated_runs plain [] (texts ∷ came) left formed accepted are = absurd are
isolated_runs plain (t ∷ tables) [] left formed accepted are = absurd are
isolated_runs plain (t ∷ tables) (texts ∷ came) [] formed accepted are = absurd are
isolated_runs plain (t ∷ tables) (texts ∷ came) (r ∷ left) formed accepted are =
    let headline = plain t texts r (All-head IsWellFormed t tables formed) (All-head IsAccepted t tables accepted) are.0 in
    (are.0, headline.0, (headline.1, headline.2), isolated_runs plain tables came left (All-tail IsWellFormed t tables formed) (All-tail IsAccepted t tables accepted) are.1)

accepted_run : PlainHeadlines → (net : Network) (given : Given) (came : List (List Text)) (left : List Results) → All IsWellFormed net.tables → All IsAccepted net.tables
    → IsUncheckedRunOf net given came left → IsRunOf net given came left
accepted_run plain net given came left formed accepted is =
    one_run net given came left (isolated_runs plain net.tables came left formed accepted is.outcomes) is.lines is.fed

-- and so has what is answered
pub isolates : {V F : Type 0} (r : Result V F) (By : Given → Type 0) (Put : List Results → V → Type 0) → PlainHeadlines → (net : Network) → All IsAccepted net.tables
    → IfOk r (λ v. (given : Given) × (came : List (List Text)) × (left : List Results) × By given × IsUncheckedRunOf net given came left × Put left v) → OnOk r (All IsWellFormed net.tables)
    → IfOk r (λ v. (given : Given) × (came : List (List Text)) × (left : List Results) × By given × IsRunOf net given came left × Put left v)
isolates (Ok v) By Put plain net accepted is formed = (is.0, is.1, is.2, is.3, accepted_run plain net is.0 is.1 is.2 formed accepted is.4, is.5)
isolates (Err e) By Put plain net accepted is formed = tt

-- ---- whatever the loads

outcomes_of : (runs : List SwitchRun)
    → AreOutcomes (map (λ (run : SwitchRun). run.table) runs) (map (λ (run : SwitchRun). run.texts) runs) (map (λ (run : SwitchRun). run.results) runs)
outcomes_of [] = tt
outcomes_of (run ∷ runs) = (run.outcome, outcomes_of runs)

pub runs_are_unchecked : (net : Network) (given : Given) (came : List (List Text)) (left : List Results) → IsRunOf net given came left → IsUncheckedRunOf net given came left
runs_are_unchecked net given came left is = record {
  outcomes = rw (is.run.tables, is.came_is, is.left_is) at (outcomes_of is.runs);
  lines = is.run.lines;
  fed = rw (is.came_is, is.left_is) at is.run.fed;
}
