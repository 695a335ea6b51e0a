use Rattle.std.proofs.Common.{ℕ, List, map, ap, ◌∙◌}
use Rattle.afdx_port.specs.declared.Offer.{Offer}
use Rattle.afdx_count.specs.Tally.{with_class, noted}
use Rattle.afdx_count.proofs.Notes.{noted_parts}
use Rattle.afdx_count.proofs.counts.Counts.note.Goals as goal

pub returns : goal.returns
returns g c =
    noted_parts (record { number = c.step.inside.number; in_port = c.step.inside.in_port; fate = c.step.inside.fate; offers = c.step.inside.offers })
    (record { ports = c.self.inside.ports; links = c.self.inside.links })
    c.note-class.result c.note_arrival.new.self c.note_copies.new.self c.note-class.new.self c.note-class.ensures.class c.note_arrival.ensures
    (c.note_copies.ensures ∙ ap (λ (os : List (ℕ × Offer)). map (with_class c.note-class.result os) c.note_arrival.new.self) c.copied.ensures) c.note-class.ensures.links
    ∙ (λ j. noted (c.step.view_is j) (c.self.view_is j))
