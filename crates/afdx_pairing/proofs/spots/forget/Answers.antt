use Rattle.std.proofs.Common.{None, sym, ◌∙◌}
use Rattle.std.proofs.lemmas.Bool.{OnTrue_at}
use Rattle.afdx_pairing.proofs.Places.{left_alone}
use Rattle.afdx_pairing.proofs.spots.forget.Goals as goal

pub returns-then-is_empty : goal.returns-then-is_empty
returns-then-is_empty g c = λ b.
    left_alone c.args.bytes.now c.take_first-is_empty.new.spots c.remove.new.self None c.remove.ensures.updates
    (sym (OnTrue_at c.if-is_empty.true c.take_first-is_empty.ensures.none)) b
    ∙ c.take_first-is_empty.ensures.rest b
