-- The verdict of a network that is there.
use Rattle.std.proofs.Common.{◌≡◌, ◌<◌, List, [], ◌∷◌, length, Ok, Err, ap, ◌∙◌, inr, arith}
use Rattle.afdx_wiring.specs.declared.fault.NetworkFault.{NetworkFault}
use Rattle.afdx_wiring.specs.declared.fault.Short.{Short}
use Rattle.afdx_network_check.specs.Net.{Network}
use Rattle.afdx_network_check.specs.Order.{Answer, lost_latency, loads_fit, misfit}
use Rattle.afdx_wiring.specs.Refusal.{◌>>=◌}
use Rattle.afdx_messages.specs.declared.failure.Failure.{Failure}
use Rattle.afdx_messages.specs.declared.network_failure.JitterRule.TheVariants.{Jitter}
use Rattle.afdx_network_report.specs.Lines.{Names}
use Rattle.afdx_serve.specs.Networks.{AreRefusedRows, NetworkVerdict, LeadsToFailure, judged, verdict_of}
use Rattle.afdx_serve.specs.NetworkJitters.{rates_fit, fit_of}

-- it is that of its loads
pub of_loads : (net : Network) (e : NetworkFault) → loads_fit net ≡ Err e → verdict_of net ≡ Err e
unfolding verdict_of
of_loads net e is = ap (λ (r : Answer). r >>= λ loads. judged net) is

-- or, where they are accepted, what comes then
pub of_rest : (net : Network) (verdict : NetworkVerdict) → loads_fit net ≡ Ok tt → judged net ≡ verdict → verdict_of net ≡ verdict
unfolding verdict_of
of_rest net verdict loads is = ap (λ (r : Answer). r >>= λ loads. judged net) loads ∙ is

-- rows whose jitter is not enough, where there are any, are what it leads to
pub of_shorts : (names : Names) (verdict : NetworkVerdict) (shorts : List Short) (f : Failure) → 0 < length shorts → verdict ≡ Ok shorts → AreRefusedRows names Jitter shorts f
    → LeadsToFailure names verdict f
of_shorts names verdict [] f some is refused = absurd (omega (arith, some))
of_shorts names verdict (first ∷ more) f some is refused = inr (first, more, is, refused)

-- where the jitters are not judged
pub of_latencies : (net : Network) (e : NetworkFault) → lost_latency net 0 net.tables ≡ Err e → fit_of net ≡ Err e
unfolding fit_of
of_latencies net e is = ap (λ (r : Answer). r >>= λ latencies. rates_fit 0 net.tables >>= λ rates. misfit net) is

pub of_rates : (net : Network) (e : NetworkFault) → lost_latency net 0 net.tables ≡ Ok tt → rates_fit 0 net.tables ≡ Err e → fit_of net ≡ Err e
unfolding fit_of
of_rates net e latencies is =
    ap (λ (r : Answer). r >>= λ latencies. rates_fit 0 net.tables >>= λ rates. misfit net) latencies ∙ ap (λ (r : Answer). r >>= λ rates. misfit net) is

pub of_fit : (net : Network) (answer : Answer) → lost_latency net 0 net.tables ≡ Ok tt → rates_fit 0 net.tables ≡ Ok tt → misfit net ≡ answer → fit_of net ≡ answer
unfolding fit_of
of_fit net answer latencies rates is =
    ap (λ (r : Answer). r >>= λ latencies. rates_fit 0 net.tables >>= λ rates. misfit net) latencies ∙ ap (λ (r : Answer). r >>= λ rates. misfit net) rates ∙ is
