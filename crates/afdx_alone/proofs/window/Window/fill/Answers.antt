use Rattle.std.proofs.Common.{rules, ℕ, List, [], ◌++◌, ◌<◌, ◌≤◌, length, take, sym, ap, ◌∙◌, arith}
use Rattle.std.proofs.lemmas.Bool.{eqb-true}
use Rattle.std.proofs.lemmas.List.{append-nil}
use Rattle.std.proofs.KnownBytes.{Consumes-nil, Consumes-kept}
use Rattle.afdx_alone.proofs.WindowLemmas.{grown, kept}
use Rattle.afdx_alone.proofs.window.Window.fill.Goals as goal

pub returns-in-Ok-clause-ok : goal.returns-in-Ok-clause-ok
returns-in-Ok-clause-ok g c =
    let w = c.move_to_front.new.self in
    let within : w.end ≤ length w.bytes = omega arith in
    let n = c.in-Ok.count in
    let long : 0 < length c.read.new.buf = search rules in (
      take n c.read.new.buf,
      grown w.bytes c.read.new.buf w.start w.end _ n w.ordered within c.in-Ok.ensures.bound.0 ∙ ap (λ (bytes : List ℕ). bytes ++ take n c.read.new.buf) c.move_to_front.ensures.items,
      c.in-Ok.ensures.bytes.0,
      λ none. c.in-Ok.ensures.bytes.1 (eqb-true n 0 none) long,
    )

pub returns-then-eq-clause-ok : goal.returns-then-eq-clause-ok
returns-then-eq-clause-ok g c =
    let w = c.move_to_front.new.self in
    let within : w.end ≤ length w.bytes = omega arith in (
      [],
      kept w.bytes c.read.new.buf w.start w.end _ w.ordered within ∙ c.move_to_front.ensures.items ∙ sym (append-nil _),
      Consumes-kept _ _ _ [] (Consumes-nil _) c.in-Err.ensures.bytes,
      λ no. cc,
    )
