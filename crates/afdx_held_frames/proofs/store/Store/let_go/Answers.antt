use Rattle.afdx_held_frames.proofs.Keeping.{kept_gone}
use Rattle.afdx_held_frames.proofs.store.Store.let_go.Goals as goal

pub invariant_of-self : goal.invariant_of-self
invariant_of-self g c =
    let f = c.first_held-self-inside.ensures in
    let e = c.let_go.ensures in
    kept_gone c.self.inside c.let_go.new.self c.first_held-self-inside.result c.self.invariant e.items e.room e.first f.within f.none
