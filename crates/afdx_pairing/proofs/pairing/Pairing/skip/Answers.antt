use Rattle.std.proofs.Common.{◌≡◌, List, length, drop, arith, sym, ap, ◌∙◌}
use Rattle.std.specs.Prelude.{slice_get}
use Rattle.std.proofs.lemmas.List.{drop-drop, length-drop}
use Rattle.afdx_pairing.specs.declared.event.Event.TheVariants.{Missing}
use Rattle.afdx_pairing.specs.Events.{Numbered, mark_of}
use Rattle.afdx_pairing.specs.Pairing.{Pairing}
use Rattle.afdx_pairing.proofs.Firsts.{none_within, tells_next}
use Rattle.afdx_pairing.proofs.Taking.{first_of_rest}
use Rattle.afdx_pairing.proofs.pairing.Pairing.skip.Goals as goal
use Rattle.afdx_pairing.proofs.pairing.Pairing.skip.Goals.{in-Some, in_default}

pub loop-preserved : goal.loop-preserved
loop-preserved g c =
    let ns : List Numbered = c.self.inside.waiting in
    let i = c.loop.counter in
    let rest = c.pop.ensures.rest ∙ ap (λ (xs : List Numbered). drop 1 xs) c.loop.invariant.rest ∙ drop-drop 1 i ns in
    let first : slice_get ns i ≡ slice_get c.loop.self-inside.waiting 0 = sym (first_of_rest i ns) ∙ sym (ap (λ (xs : List Numbered). slice_get xs 0) c.loop.invariant.rest) in
    elim c.match-pop.branch [
      | in-Some w ↦ record {
        rest = rest;
        policed = c.loop.invariant.policed;
        limits = c.loop.invariant.limits;
        begun = c.loop.invariant.begun;
        told = tells_next (λ (n : Numbered). Missing (mark_of n)) ns i w.in-Some.frame _ c.loop.events.items _ (first ∙ sym w.in-Some.ensures.some) c.loop.invariant.told
            (cc (w.push_reserved.ensures.items, w.mark.ensures));
        room = cc (w.push_reserved.ensures.capacity);
      }
      | in_default w ↦ absurd (
          let same : length ns ≡ length c.args.self.now.waiting = ap (λ (p : Pairing). length p.waiting) c.self.view_is in
          let left = ap (λ (xs : List Numbered). length xs) c.loop.invariant.rest in
          none_within c.loop.self-inside.waiting 0 (sym c.pop.ensures.some ∙ w.in_default.is)
          (omega (arith, same, left, length-drop i ns, c.loop-test.true, c.requires.some)))
    ]
