use Rattle.std.proofs.Common.{rules, ℕ, List, Vec, Global, ◌++◌, ◌≡◌, ◌∙◌, ◌<◌, length, map, string_bytes, sym, ap, arith}
use Rattle.std.proofs.lemmas.List.{append-nil, length-map, take_all}
use Rattle.afdx_session.specs.Outcome.{Results}
use Rattle.afdx_csv.specs.declared.form.Form.{Form}
use Rattle.afdx_rows.specs.Counts.{network_run_columns}
use Rattle.afdx_serve.specs.Checks.{heading_in}
use Rattle.afdx_serve.specs.NetworkRuns.{counts_of, runs_text}
use Rattle.afdx_serve.proofs.NetworkRunLemmas.{nothing_said, one_more_said, of_counts, counted_at, as_many_counts}
use Rattle.afdx_serve.proofs.network_run.runs_text.Goals as goal

-- what is written of a switch
abbrev said : Form → List ℕ → Results → List ℕ
said form name r = counts_of form network_run_columns name r.counts

pub loop-switch-init : goal.loop-switch-init
loop-switch-init c = λ left are.
    let head = heading_in c.args.form network_run_columns in
    ap (λ (v : Vec ℕ Global). v.items) c.into_bytes-text.ensures.value ∙ c.in_ok-heading.ensures
    ∙ sym (ap (λ (more : List ℕ). head ++ more) (nothing_said (said c.args.form) (map string_bytes c.args.names.now)) ∙ append-nil head)

pub loop-switch-preserved : goal.loop-switch-preserved
loop-switch-preserved c = λ left are.
    let names = map string_bytes c.args.names.now in
    let i = c.loop-switch.switch in
    let long = as_many_counts c.args.counts.now left are in
    let count : length names ≡ length c.args.counts.now = length-map c.args.names.now (λ s. string_bytes s) ∙ c.requires in
    let within : i < length c.args.counts.now = search rules in
    let lt : i < length left = omega (arith, within, long) in
    let own = c.index-counts-switch.is ∙ counted_at c.args.counts.now left i c.index-counts-switch.result are lt in
    let grown = rw (c.name_of.ensures, own) at c.in_ok-push_counts.ensures in
    one_more_said (said c.args.form) names left i (of_counts c.index-counts-switch.result) _ _ _ (count ∙ long) lt grown (c.loop-switch.invariant left are)

pub returns : goal.returns
returns c = λ left are.
    let long = as_many_counts c.args.counts.now left are in
    let past = c.loop-switch-test.false in
    c.loop-switch.invariant left are
    ∙ ap (λ (rs : List Results). runs_text c.args.form (map string_bytes c.args.names.now) rs) (take_all c.loop-switch.switch left (omega (arith, long, past)))
