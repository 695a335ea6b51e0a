use Rattle.afdx_measure.proofs.Later.{advanced_keeps}
use Rattle.afdx_measure.proofs.measuring.Measuring.advance.Goals as goal

pub invariant_of-self : goal.invariant_of-self
invariant_of-self g c =
    advanced_keeps c.advance.result c.self.inside.relay c.advance.new.self c.args.to c.self.inside.gauges c.self.inside.policing c.calls_add_what_is_sent.ensures.advance
    c.calls_make_runs.ensures.advance c.advance.ensures.ok c.advance.ensures.err c.self.invariant
