use Rattle.std.proofs.Common.{take}
use Rattle.afdx_count.specs.declared.ports.PortTally.{PortTally}
use Rattle.afdx_count.proofs.Placed.{led_to, is_there, is_nowhere}
use Rattle.afdx_count.proofs.ports.Ports.place.Goals as goal

pub returns : goal.returns
returns g c =
    let place = led_to (λ (p : PortTally). p.id) c.self.inside.places c.args.id c.from.result (take c.self.inside.count c.self.inside.tallies.items) c.args.self.now
    c.self.invariant.0 c.from.ensures c.ranges.id.fits c.self.view_is in
    record {
      place = place;
      at = is_there (λ (p : PortTally). p.id) c.args.id c.args.self.now _ place;
      absent = is_nowhere (λ (p : PortTally). p.id) c.args.id c.args.self.now _ place;
      distinct = rw c.self.view_is at c.self.invariant.1;
    }
