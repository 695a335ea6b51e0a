use Rattle.std.proofs.Common.{◌≡◌, ◌++◌, ◌∷◌, [], sym, ap, ◌∙◌, refl, arith, rules}
use Rattle.std.proofs.lemmas.Grind.{common_steps}
use Rattle.afdx_table.specs.Fields.{natural_of, bounded_natural}
use Rattle.afdx_table.proofs.NumberLemmas.{turn_within, turn_out, turns_over}
use Rattle.afdx_table.proofs.fields.numbers_of.Goals.{in-Ok+in_ok-map_err-in-Ok, in-Err}
use Rattle.afdx_table.proofs.fields.numbers_of.Goals as goal

pub loop-item-preserved : goal.loop-item-preserved
loop-item-preserved c =
    let a = c.args in
    let l = c.loop-item in
    let natural : c.natural.result ≡ natural_of c.in-Some.integer = search rules in
    elim c.match-bounded_natural.branch [
      | in-Ok+in_ok-map_err-in-Ok w ↦
          let pushed : c.match-bounded_natural.numbers.items ≡ c.loop-item.numbers.items ++ w.in-Ok.number ∷ [] = grind (arith, common_steps) in
          turn_within a.at a.key a.low a.high l.are_within c.match-bounded_natural.are_within l.numbers.items c.match-bounded_natural.numbers.items a.items.now l.item-index c.item-item.result
          c.in-Some.integer w.in-Ok.number _ c.loop-item-test.true c.item-item.is (sym c.in-Some.ensures)
          (ap (bounded_natural a.at a.key a.low a.high) (sym natural) ∙ sym w.in-Ok.ensures) w.are_within-is pushed l.invariant
      | in-Err w ↦
          let kept : c.match-bounded_natural.numbers.items ≡ c.loop-item.numbers.items = rw w.numbers-is refl in
          turn_out a.at a.key a.low a.high l.are_within c.match-bounded_natural.are_within l.numbers.items c.match-bounded_natural.numbers.items a.items.now l.item-index c.item-item.result
          c.in-Some.integer _ _ c.loop-item-test.true c.item-item.is (sym c.in-Some.ensures)
          (ap (bounded_natural a.at a.key a.low a.high) (sym natural) ∙ sym w.in-Err.ensures) w.are_within-is kept l.invariant
    ]

pub returns : goal.returns
returns c =
    let a = c.args in
    turns_over a.at a.key a.low a.high c.loop-item.are_within c.loop-item.numbers.items a.items.now c.loop-item.item-index _
    c.if-not-are_within.false (omega (arith, c.loop-item-test.false)) c.loop-item.invariant
