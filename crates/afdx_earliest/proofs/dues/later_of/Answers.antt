use Rattle.std.proofs.Common.{◌+◌, ◌∙◌, ◌&&◌, cond, ltb, get_or, pos, of_z, w64, ap, refl, arith, inl, inr}
use Rattle.std.proofs.lemmas.Bool.{cases_lt, le-ltb}
use Rattle.std.proofs.lemmas.Simd.{Each1-from_get_or, length-chunk, get_or-chunk}
use lib.Lanes.{chunk}
use lib.Signed.{lt_z}
use Rattle.afdx_earliest.proofs.Marks.{lane_bit, lane_greater, lanes_small, ones_if_less}
use Rattle.afdx_earliest.proofs.dues.later_of.Goals as goal

pub overflow_cast-lanes : goal.overflow_cast-lanes
overflow_cast-lanes c = Each1-from_get_or _ (chunk c.args.place 8 c.args.numbers.now) 0 (λ i lt.
    let long = length-chunk c.args.place 8 c.args.numbers.now c.requires.within in
    let at = get_or-chunk c.args.place 8 c.args.numbers.now i 0 (omega (arith, lt, long)) in
    let small = c.requires.kept (c.args.place + i) in
    record { sfits = omega (arith, at, small) })

pub overflow_cast-result : goal.overflow_cast-result
overflow_cast-result c =
    let long = length-chunk c.args.place 8 c.args.numbers.now c.requires.within in
    record { fits = let small = lanes_small ones_if_less (λ x. x) (of_z w64 c.args.last) (chunk c.args.place 8 c.args.numbers.now) 8 long (omega arith) in omega (arith, small) }

pub returns-clause-small : goal.returns-clause-small
returns-clause-small c =
    let long = length-chunk c.args.place 8 c.args.numbers.now c.requires.within in
    lanes_small ones_if_less (λ x. x) (of_z w64 c.args.last) (chunk c.args.place 8 c.args.numbers.now) 8 long (omega arith)

pub returns-clause-marks : goal.returns-clause-marks
returns-clause-marks c = λ j.
    let lanes = chunk c.args.place 8 c.args.numbers.now in
    let long = length-chunk c.args.place 8 c.args.numbers.now c.requires.within in
    lane_bit ones_if_less (λ x. x) (of_z w64 c.args.last) lanes 8 long (omega arith) j ∙ elim (cases_lt j 8) [
      | inl within ↦
          let at = get_or-chunk c.args.place 8 c.args.numbers.now j 0 within in
          let small = c.requires.kept (c.args.place + j) in
          ap (λ b. cond (ltb j 8 && b) 1 0) (lane_greater c.args.last (get_or lanes j 0) c.ranges.last (omega (arith, at, small))
          ∙ ap (λ x. lt_z c.args.last (pos x)) at)
      | inr past ↦ rw (le-ltb j 8 past) refl
    ]
