use Rattle.std.proofs.Common.{◌∙◌, ap, sym, List, ℕ, ◌++◌, take, drop, rules, ◌≡◌, append_assoc}
use Rattle.std.proofs.lemmas.List.{take-append-drop}
use Rattle.std.proofs.KnownBytes.{Appends-trans}
use Rattle.afdx_folder.proofs.output.write_bytes.Goals as goal

pub loop-rest-preserved : goal.loop-rest-preserved
loop-rest-preserved g c =
    let prefix = c.loop-rest.invariant.0 in
    let rest_is : c.split_at.result.1.now ≡ drop c.in-Ok.count c.loop-rest.rest.now = search rules in
    let taken = take c.in-Ok.count c.loop-rest.rest.now in (
      prefix ++ taken,
      c.loop-rest.invariant.1 ∙ ap (λ (x : List ℕ). prefix ++ x) (sym (take-append-drop c.in-Ok.count c.loop-rest.rest.now)) ∙ sym (append_assoc prefix taken _)
          ∙ ap (λ (x : List ℕ). (prefix ++ taken) ++ x) (sym rest_is),
      Appends-trans _ _ _ _ _ c.loop-rest.invariant.2 c.in-Ok.ensures.bytes,
    )
