use Rattle.std.proofs.Common.{◌∙◌, ap}
use Rattle.afdx_paced.specs.Paced.{Paced}
use Rattle.afdx_paced.proofs.Calls.{going_is}
use Rattle.afdx_paced.proofs.Ending.{counted, taken_all}
use Rattle.afdx_paced.proofs.paced.Paced.finish.Goals as goal

pub come_to-requires-clause-going : goal.come_to-requires-clause-going
come_to-requires-clause-going g c =
    let s = c.self.inside in
    c.self.invariant.1 (going_is s.feeder s.reached s.failed c.args.self c.self.view_is c.requires.going)

pub returns-clause-counts : goal.returns-clause-counts
returns-clause-counts g c =
    let s = c.self.inside in
    let came = c.in_ok-come_to.ensures.ok in
    counted c.merges_are_cut.ensures c.end_counts_the_run.ensures s.feeder c.come_to.new.self s.reached c.args.self c.finish-measured.result.run c.note_relayed.new.self
    (rw (going_is s.feeder s.reached s.failed c.args.self c.self.view_is c.requires.going) at c.self.view_is) c.come_to.ensures.same came.1 c.come_to.ensures.of came.0 c.finish-measured.ensures.run
    (rw c.relayed.ensures at c.note_relayed.ensures)

pub returns-clause-switch : goal.returns-clause-switch
returns-clause-switch g c =
    let s = c.self.inside in
    let came = c.in_ok-come_to.ensures.ok in
    taken_all c.merges_are_cut.ensures s.feeder c.come_to.new.self s.reached c.args.self c.finish-measured.result.run
    (rw (going_is s.feeder s.reached s.failed c.args.self c.self.view_is c.requires.going) at c.self.view_is) c.come_to.ensures.same came.1 came.0 c.finish-measured.ensures.is_run
    c.finish-measured.ensures.run

pub returns-clause-keeps : goal.returns-clause-keeps
returns-clause-keeps g c =
    c.finish-measured.ensures.keeps.lists ∙ c.come_to.ensures.same.keeps ∙ ap (λ (v : Paced). v.keeps) c.self.view_is
