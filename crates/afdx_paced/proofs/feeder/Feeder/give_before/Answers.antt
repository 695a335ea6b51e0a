use Rattle.std.proofs.Common.{ap, ◌∙◌, arith, length, List}
use Rattle.afdx_paced.specs.Inner.Parts.{Parts, heads_of}
use Rattle.afdx_paced.proofs.Heads.{few_lanes}
use Rattle.afdx_paced.proofs.Steps.{gives_none, gives_more, gives_all, same_both}
use Rattle.afdx_paced.proofs.feeder.Feeder.give_before.Goals as goal

pub heads_of-heads-requires : goal.heads_of-heads-requires
heads_of-heads-requires g c =
    let few = few_lanes c.args.self.now c.requires.of in
    let same = ap (λ (ls : List Parts). length ls) c.deref.ensures.value in
    omega (arith, few, same)

pub loop-init : goal.loop-init
loop-init g c = record {
  gives = gives_none c.args.until c.args.self.now c.requires.of c.requires.passing;
  heads = c.heads_of-heads.ensures ∙ ap (λ (ls : List Parts). heads_of ls) c.deref.ensures.value;
}

pub loop-preserved : goal.loop-preserved
loop-preserved g c = record {
  gives = gives_more c.args.until c.args.self.now c.loop.self c.give_next.new.self c.loop.invariant.gives c.give_next.ensures.of c.give_next.ensures.same
      (rw c.if-branch.true at c.in_ok-give_next.ensures.ok);
  heads = c.in_ok-give_next.ensures.heads;
}

pub loop-smaller : goal.loop-smaller
loop-smaller g c = c.in_ok-give_next.ensures.ok.fewer c.if-branch.true

pub returns-in_err-give_next-clause-same : goal.returns-in_err-give_next-clause-same
returns-in_err-give_next-clause-same g c = same_both c.args.self.now.switch c.loop.self.switch c.give_next.new.self.switch c.loop.invariant.gives.same c.give_next.ensures.same

pub returns-clause-same : goal.returns-clause-same
returns-clause-same g c = same_both c.args.self.now.switch c.loop.self.switch c.give_next.new.self.switch c.loop.invariant.gives.same c.give_next.ensures.same

pub returns-clause-ok : goal.returns-clause-ok
returns-clause-ok g c =
    gives_all c.args.until c.args.self.now c.loop.self c.give_next.new.self c.loop.invariant.gives (rw c.if-branch.false at c.in_ok-give_next.ensures.ok)
