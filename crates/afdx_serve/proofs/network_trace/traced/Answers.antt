use Rattle.std.proofs.Common.{◌∙◌, ℕ, List, Vec, Global, Option, length, map, sym, ap}
use Rattle.std.proofs.lemmas.List.{length-map}
use Rattle.afdx_core.specs.State.{State}
use Rattle.afdx_serve.specs.NetworkTraces.{network_trace_texts}
use Rattle.afdx_serve.proofs.network_trace.traced.Goals as goal

abbrev numbers : Vec (Option ℕ) Global → List (Option ℕ)
numbers own = own.items

pub texts_of-requires : goal.texts_of-requires
texts_of-requires g c =
    rw (c.deref-2.ensures.value, c.deref-3.ensures.value)
    (sym (length-map c.in_ok-firsts.firsts.items numbers) ∙ c.in_ok-firsts.ensures.many ∙ ap (λ (ss : List State). length ss) c.deref.ensures.value)

pub returns-clause-led : goal.returns-clause-led
returns-clause-led g c =
    let watched = c.in_ok-switches.ensures.led in
    let texts = rw (c.deref-2.ensures.value, c.deref-3.ensures.value) at c.in_ok-texts_of.ensures in (
      record {
        switches = c.in_ok-switches.field-0.switches.items;
        origins = c.in_ok-switches.field-0.origins;
        firsts = map numbers c.in_ok-firsts.firsts.items;
        selection = texts.0;
        watched = watched.0;
        numbered = rw (c.network.ensures, c.deref.ensures.value, c.in_ok-dones.ensures) at c.in_ok-firsts.ensures;
        whole = texts.1;
        texts_are = texts.2 ∙ ap (network_trace_texts texts.0 (map numbers c.in_ok-firsts.firsts.items)) c.in_ok-dones.ensures;
      },
      watched.1,
    )
