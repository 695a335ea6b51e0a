use Rattle.std.proofs.Common.{rules, ◌≡◌, ◌<◌, ◌+◌, ◌++◌, ◌∷◌, ◌∙◌, [], ap, length, length-append, arith}
use Rattle.afdx_table.proofs.ApartLemmas.{ends_line-front, last_apart, more_apart}
use Rattle.afdx_table.proofs.apart.read_apart.Goals as goal

pub returns-in-None : goal.returns-in-None
returns-in-None c =
    let all = rw c.in-None.is at c.cut.ensures in
    let (ms, parsed, plain, read) = c.in_ok-row.ensures.1 in
    let pushed : c.push.new.self ≡ c.loop-index.links ++ c.in_ok-row.row ∷ [] = first_of (search rules, cc, grind arith) in
    let within : c.loop-index.index < 4096 = omega (arith, c.loop-index-test.true) in
    let before = c.loop-index.links in
    let text = c.loop-index.rest.now in
    let row = c.in_ok-row.row in
    let last = last_apart c.args.version c.args.ports.now c.loop-index.index before text row ms c.loop-index.invariant.ends (rw all at parsed) plain read within in
    c.loop-index.invariant.links c.push.new.self (rw pushed last)

pub loop-index-preserved : goal.loop-index-preserved
loop-index-preserved c =
    let (whole, own_line) = rw c.in-Some.is at c.cut.ensures in
    let (ms, parsed, plain, read) = c.in_ok-row.ensures.1 in
    let pushed : c.push.new.self ≡ c.loop-index.links ++ c.in_ok-row.row ∷ [] = first_of (search rules, cc, grind arith) in
    let before = c.loop-index.links in
    let texts = c.loop-index.rest.now in
    let text = c.cut.result.0.now in
    let behind = c.in-Some.behind.now in
    let row = c.in_ok-row.row in
    let front = ends_line-front text behind (rw whole at c.loop-index.invariant.ends) in
    record {
      utf8 = search rules;
      ends = own_line;
      count = ap length pushed ∙ length-append before (row ∷ []) ∙ ap (λ n. n + 1) c.loop-index.invariant.count;
      links = λ all read_behind. c.loop-index.invariant.links all
          (more_apart c.args.version c.args.ports.now c.loop-index.index before texts text behind row ms all front parsed plain read whole (rw pushed at read_behind));
    }
