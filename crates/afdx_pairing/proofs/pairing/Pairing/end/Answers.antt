use Rattle.std.proofs.Common.{arith, ap, sym, ◌∙◌}
use Rattle.std.specs.Prelude.{slice_get}
use Rattle.afdx_pairing.specs.Pairing.{Pairing, ended}
use Rattle.afdx_pairing.proofs.Firsts.{none_within, tells_next}
use Rattle.afdx_pairing.proofs.pairing.Pairing.end.Goals as goal
use Rattle.afdx_pairing.proofs.pairing.Pairing.end.Goals.{in-Some, in_default}

pub loop-place-preserved : goal.loop-place-preserved
loop-place-preserved g c =
    elim c.match-get.branch [
      | in-Some w ↦ record {
        told = tells_next (ended c.args.self.now.limits c.args.last) c.args.self.now.waiting c.loop-place.place w.in-Some.frame.now _ c.loop-place.events.items _
            (ap (λ (p : Pairing). slice_get p.waiting c.loop-place.place) (sym c.self.view_is) ∙ sym w.in-Some.ensures) c.loop-place.invariant.told
            (cc (w.push_reserved.ensures.items, w.ended.ensures));
        room = cc (w.push_reserved.ensures.capacity);
      }
      | in_default w ↦ absurd (none_within c.self.inside.waiting c.loop-place.place (sym (rw w.in_default.is at c.get.ensures)) (omega arith))
    ]
