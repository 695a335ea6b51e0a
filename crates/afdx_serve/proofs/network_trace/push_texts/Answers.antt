use Rattle.std.proofs.Common.{◌∙◌, ℕ, Vec, Global, ap}
use Rattle.afdx_network_trace.specs.Column.{with_column}
use Rattle.afdx_serve.proofs.NetworkTraceLemmas.{two_more}
use Rattle.afdx_serve.proofs.network_trace.push_texts.Goals as goal

pub returns : goal.returns
returns c =
    let arrivals = c.in_ok-with_first_numbers.ensures ∙ ap (with_column 0 c.args.firsts.now) (c.deref.ensures ∙ c.in_ok-arrivals.ensures) in
    let departures = ap (λ (v : Vec ℕ Global). v.items) c.into_bytes.ensures.value ∙ c.in_ok-departures.ensures in
    two_more c.args.texts.now.items c.push.new.self.items c.push-2.new.self.items _ _ _ _ c.in_ok-push.ensures.items c.in_ok-push-2.ensures.items arrivals departures
