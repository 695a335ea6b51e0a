use Rattle.std.proofs.Common.{ap, ◌∙◌, map, take}
use Rattle.std.proofs.lemmas.List.{take-map}
use Rattle.afdx_count.specs.declared.ports.PortTally.{PortTally}
use Rattle.afdx_count.specs.Tally.{ended_port}
use Rattle.afdx_count.proofs.Placed.{still_indexed}
use Rattle.afdx_count.proofs.Notes.{numbers_ended}
use Rattle.afdx_count.proofs.ports.Ports.note_end.Goals as goal

pub returns : goal.returns
returns g c =
    ap (take c.self.inside.count) c.end_all.ensures ∙ take-map (ended_port c.args.done.now.run) c.self.inside.count c.self.inside.tallies.items
    ∙ ap (map (ended_port c.args.done.now.run)) c.self.view_is

pub invariant_of-self : goal.invariant_of-self
invariant_of-self g c =
    still_indexed (λ (p : PortTally). p.id) c.self.inside.places c.self.inside.count c.self.inside.tallies.items c.end_all.new.tallies.items
    (numbers_ended c.args.done.now.run c.self.inside.tallies.items c.end_all.new.tallies.items c.end_all.ensures) c.self.invariant
