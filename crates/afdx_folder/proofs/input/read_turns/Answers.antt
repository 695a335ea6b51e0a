use Rattle.std.proofs.Common.{◌<◌, ◌≡◌, ◌++◌, length, take, rules}
use Rattle.std.proofs.KnownBytes.{Consumes-trans, Consumes-kept}
use Rattle.afdx_folder.proofs.InputLemmas.{all_given}
use Rattle.afdx_folder.proofs.input.read_turns.Goals.{in-Ok+in_ok-extend_from_slice-in-Ok, in-Err+else-ne}
use Rattle.afdx_folder.proofs.input.read_turns.Goals as goal

pub returns-in-Ok-eq0-clause-bytes : goal.returns-in-Ok-eq0-clause-bytes
returns-in-Ok-eq0-clause-bytes g c =
    let long : 0 < length c.read.new.buf = search rules in
    all_given _ _ _ _ _ c.in-Ok-eq0.field-0 c.loop-turn.invariant.0 c.in-Ok-eq0.ensures.bytes c.in-Ok-eq0.field-0-test long

pub loop-turn-preserved : goal.loop-turn-preserved
loop-turn-preserved g c =
    let long : 0 < length c.read.new.buf = search rules in
    elim c.match-read.branch [
      | in-Ok+in_ok-extend_from_slice-in-Ok w ↦
          let grown : c.match-read.bytes.items ≡ c.loop-turn.bytes.items ++ take w.in-Ok.count c.read.new.buf = search rules in
          (rw grown (Consumes-trans _ _ _ _ _ c.loop-turn.invariant.0 w.in-Ok.ensures.bytes.0), long)
      | in-Err+else-ne w ↦
          let same : c.match-read.bytes.items ≡ c.loop-turn.bytes.items = search rules in
          (rw same (Consumes-kept _ _ _ _ c.loop-turn.invariant.0 w.in-Err.ensures.bytes), long)
    ]
