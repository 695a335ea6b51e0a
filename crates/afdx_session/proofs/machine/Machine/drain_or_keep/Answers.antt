use Rattle.std.proofs.Common.{refl}
use Rattle.std.specs.Vec.{with_items}
use Rattle.std.proofs.lemmas.Result.{on_ok_weaker}
use Rattle.afdx_session.proofs.Carrying.{hands_on}
use Rattle.afdx_session.proofs.machine.Machine.drain_or_keep.Goals as goal

pub returns-in-GoOut-clause-ok : goal.returns-in-GoOut-clause-ok
returns-in-GoOut-clause-ok g c =
    let m = c.args.self.now in
    on_ok_weaker c.drain_all.result
    (λ out. hands_on m (record { switch = c.drain_all.new.switch; counts = m.counts; lanes = with_items m.lanes c.drain_all.new.lanes }) c.deref_mut.result.now c.drain_all.new.lanes c.requires
    c.drain_all.ensures.hands c.deref_mut.ensures.value
    c.drain_all.ensures.grown out refl refl) c.drain_all.ensures.out
