use Rattle.std.proofs.Common.{arith, ◌∙◌}
use Rattle.std.proofs.lemmas.List.{length-set}
use Rattle.afdx_count.specs.declared.ports.PortTally.{PortTally}
use Rattle.afdx_count.proofs.Placed.{first_place, place_step}
use Rattle.afdx_count.proofs.ports.places_of.Goals as goal

pub loop-number-preserved : goal.loop-number-preserved
loop-number-preserved c =
    let l = c.loop-number in
    record {
      long = length-set l.places l.number c.unwrap_or.result ∙ l.invariant.long;
      each = place_step (λ (p : PortTally). p.id) l.places c.args.tallies.now l.number c.unwrap_or.result (omega (arith, l.invariant.long, c.loop-number-test.true)) l.invariant.each
          (c.unwrap_or.ensures ∙ first_place (λ (p : PortTally). p.id) l.number c.args.tallies.now c.search.result c.search.ensures);
    }
