use Rattle.std.proofs.Common.{◌≢◌, arith, below_more, get_or-set_same, get_or-set_other, ◌∙◌}
use Rattle.std.proofs.lemmas.List.{length-set}
use Rattle.afdx_earliest.proofs.Firsts.{grouped_of}
use Rattle.afdx_earliest.proofs.instants.Instants.of.Goals as goal

pub loop-group-preserved : goal.loop-group-preserved
loop-group-preserved c =
    let l = c.loop-group in
    let i = l.invariant in
    let first = c.first_from-first.result.0 in
    let least = c.first_from-first.result.1 in
    record {
      four = length-set l.leasts l.group least ∙ i.four;
      four_firsts = length-set l.firsts l.group first ∙ i.four_firsts;
      groups = below_more _ _
          (λ g lt. let other : g ≢ l.group = omega (arith, lt) in rw (get_or-set_other l.firsts l.group g first 0 other, get_or-set_other l.leasts l.group g least 0 other) (i.groups g lt))
          (let n = i.four in let m = i.four_firsts in let lt = c.loop-group-test.true in
          let a = get_or-set_same l.firsts l.group first 0 (omega (arith, m, lt)) in
          let b = get_or-set_same l.leasts l.group least 0 (omega (arith, n, lt)) in
          rw (a, b) c.first_from-first.ensures);
    }

pub invariant_of-result : goal.invariant_of-result
invariant_of-result c =
    let l = c.loop-group in
    let i = l.invariant in
    grouped_of c.dues.inside.places c.dues.inside.numbers l.leasts l.firsts c.dues.invariant i.four i.four_firsts (λ g lt. i.groups g (omega (arith, lt, c.loop-group-test.false)))
