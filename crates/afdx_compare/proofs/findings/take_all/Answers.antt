use Rattle.std.proofs.Common.{◌≡◌, List, ◌∷◌, sym, ap, ◌∙◌}
use Rattle.std.proofs.lemmas.Result.{IfOk-weaker}
use Rattle.afdx_merging.specs.Merge.{Arrival}
use Rattle.afdx_compare.specs.Comparison.{Comparison, with_end}
use Rattle.afdx_compare.specs.Arrivals.{with_arrivals}
use Rattle.afdx_compare.proofs.Taking.{all_popped, rest_may}
use Rattle.afdx_compare.proofs.findings.take_all.Goals as goal

pub loop-arrival-preserved : goal.loop-arrival-preserved
loop-arrival-preserved g c =
    let captures = c.args.sources.now.captures in
    let was = c.loop-arrival.invariant in
    let now = c.loop-arrival.comparison in
    let waits = c.loop-arrival.held.items in
    let rest = c.pop_front.new.self.items in
    let a : Arrival = c.in-Some.arrival in
    let is : waits ≡ a ∷ rest = c.in-Some.ensures.items in
    record {
      told = was.told ∙ ap (λ (xs : List Arrival). with_arrivals captures xs now) is ∙ ap (λ (x : Comparison). with_arrivals captures rest x) (sym c.in_ok-take.ensures);
      may = rest_may captures waits rest a now c.take.new.comparison was.may is c.in_ok-take.ensures;
    }

pub returns : goal.returns
returns g c =
    let captures = c.args.sources.now.captures in
    let was = c.loop-arrival.invariant in
    let now = c.loop-arrival.comparison in
    let waits : List Arrival = c.loop-arrival.held.items in
    let none = all_popped waits c.pop_front.new.self.items c.in_default.ensures.items c.in_default.ensures.rest in
    let told : with_arrivals captures c.args.held.items c.args.comparison.now ≡ now = was.told ∙ ap (λ (xs : List Arrival). with_arrivals captures xs now) none in
    IfOk-weaker c.end.result (λ u. c.end.new.self ≡ with_end now) (λ u. c.end.new.self ≡ with_end (with_arrivals captures c.args.held.items c.args.comparison.now))
    (λ u is. is ∙ ap (λ (x : Comparison). with_end x) (sym told)) c.end.ensures
