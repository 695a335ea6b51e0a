use Rattle.std.proofs.Common.{◌≡◌, ℕ, ◌+◌, ◌-◌, ◌*◌, nat_le, Option, sym, ap, ◌∙◌}
use Rattle.std.specs.List.{position_or_len}
use Rattle.afdx_units.specs.Line.{tick_of}
use Rattle.afdx_following.specs.Output.{Output, settled}
use Rattle.afdx_following.proofs.output.Output.settled.Goals as goal

pub returns-in-Some-clause-count : goal.returns-in-Some-clause-count
returns-in-Some-clause-count g c =
    let i = c.self.inside in
    let o : Output = record { port = i.port; limits = i.limits; pairing = i.pairing; waiting = i.waiting; found = i.found } in
    let gap = i.limits.gap * tick_of i.limits.speed in
    let late : c.gap_time.result + c.from.result ≡ gap + i.limits.tolerance =
    ap (λ (k : ℕ). k + c.from.result) c.gap_time.ensures.gap ∙ ap (λ (k : ℕ). gap + k) c.from.ensures in
    let at : c.saturating_sub.result ≡ c.in-Some.stamp - (gap + i.limits.tolerance) = c.saturating_sub.ensures ∙ ap (λ (k : ℕ). c.in-Some.stamp - k) late in
    c.sooner_than.ensures.count ∙ ap (λ (k : ℕ). position_or_len (λ n. nat_le k n.frame.stamp) i.waiting) at
    ∙ ap (λ (unknown : Option ℕ). settled unknown o) (sym c.in-Some.is) ∙ ap (λ (x : Output). settled c.args.unknown x) c.self.view_is
