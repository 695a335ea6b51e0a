use Rattle.afdx_count.proofs.Notes.{no_class}
use Rattle.afdx_count.proofs.ports.Ports.note_copies.Goals as goal

pub returns-in-None : goal.returns-in-None
returns-in-None g c = no_class c.args.class c.args.offers.now c.args.self.now c.in-None.is
