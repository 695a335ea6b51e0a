use Rattle.std.proofs.Common.{◌≡◌, false, ap, ◌∙◌, arith, ◌≤◌}
use Rattle.afdx_port.specs.Content.{FlowValue}
use Rattle.afdx_port.proofs.Keeping.{kept_passed, none_at_line}
use Rattle.afdx_port.proofs.flow.Flow.go_on_to.Goals as goal

pub go_on_to-requires-clause-none_due : goal.go_on_to-requires-clause-none_due
go_on_to-requires-clause-none_due g c =
    none_at_line c.self.inside c.args.self.now.content c.args.to c.self.invariant (ap (λ (v : FlowValue). v.content) c.self.view_is) c.requires.open c.requires.none_due

pub invariant_of-self : goal.invariant_of-self
invariant_of-self g c =
    let e = c.go_on_to.ensures in
    let open' : c.self.inside.finished ≡ false = ap (λ (v : FlowValue). v.content.finished) c.self.view_is ∙ c.requires.open in
    let none = none_at_line c.self.inside c.args.self.now.content c.args.to c.self.invariant (ap (λ (v : FlowValue). v.content) c.self.view_is) c.requires.open c.requires.none_due in
    let le : c.self.inside.horizon ≤ c.args.to = omega (arith, ap (λ (v : FlowValue). v.content.horizon) c.self.view_is, c.requires.in_order) in
    kept_passed c.self.inside c.go_on_to.new.self c.args.to c.self.invariant open' le none e.sound e.room e.settings e.first e.sent e.aged e.state
