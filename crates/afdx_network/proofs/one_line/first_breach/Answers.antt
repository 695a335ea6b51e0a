use Rattle.std.proofs.Common.{◌≡◌, None}
use Rattle.afdx_network.specs.declared.line.Line.{Line}
use Rattle.afdx_network.proofs.Answering.{read_there}
use Rattle.afdx_network.proofs.Refusing.{all_more, all_taken}
use Rattle.afdx_network.proofs.one_line.first_breach.Goals as goal

pub returns-in-Some-clause-some : goal.returns-in-Some-clause-some
returns-in-Some-clause-some c =
    let line = c.index-lines-place.result in
    record {
      line = line;
      line_is = read_there c.args.lines.now c.loop-place.place line c.loop-place-test.true c.index-lines-place.is;
      broken = c.in-Some.is;
      before = c.loop-place.invariant;
    }

pub loop-place-preserved : goal.loop-place-preserved
loop-place-preserved c =
    let line = c.index-lines-place.result in
    all_more (λ (l : Line). l.breach ≡ None) c.args.lines.now c.loop-place.place line (read_there c.args.lines.now c.loop-place.place line c.loop-place-test.true c.index-lines-place.is)
    c.loop-place.invariant c.in_default.is

pub returns-clause-none : goal.returns-clause-none
returns-clause-none c = all_taken (λ (l : Line). l.breach ≡ None) c.args.lines.now c.loop-place.place c.loop-place-test.false c.loop-place.invariant
