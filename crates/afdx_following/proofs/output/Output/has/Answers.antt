use Rattle.std.proofs.Common.{◌≡◌, ◌<◌, ◌+◌, ◌-◌, ℕ, List, arith, sym, ap, ◌∙◌}
use Rattle.std.specs.List.{list_any}
use Rattle.afdx_pairing.specs.Limits.{soonest, most_of}
use Rattle.afdx_pairing.specs.Queue.{is_within}
use Rattle.afdx_following.specs.Output.{Output, has}
use Rattle.afdx_following.proofs.Seeing.{seen_within, none_seen}
use Rattle.afdx_following.proofs.output.Output.has.Goals as goal

pub returns-in-Some : goal.returns-in-Some
returns-in-Some g c =
    let i = c.self.inside in
    let o : Output = record { port = i.port; limits = i.limits; pairing = i.pairing; waiting = i.waiting; found = i.found } in
    let n = c.args.frame.now in
    let gap = c.gap_time-gap.result in
    let first = c.saturating_sub-first.result in
    let last = c.in-Some.last in
    let from : c.from.result ≡ n.frame.stamp = c.from.ensures ∙ c.ns.ensures.same ∙ c.stamp.ensures in
    let first_is : first ≡ soonest o.limits n.frame - gap = c.saturating_sub-first.ensures ∙ ap (λ (k : ℕ). k - gap) c.soonest.ensures in
    let within = c.in-Some.ensures in
    let most = c.most.ensures.most in
    let last_is : last + gap ≡ n.frame.stamp + most_of o.limits = omega (arith, within.0, within.1, from, most) in
    c.has_within.ensures ∙ ap (λ (bs : List ℕ). list_any (is_within bs first last) o.waiting) c.bytes.ensures.bytes
    ∙ seen_within n o first last gap c.gap_time-gap.ensures.gap first_is last_is ∙ ap (λ (x : Output). has n x) c.self.view_is

pub returns-in-None : goal.returns-in-None
returns-in-None g c =
    let i = c.self.inside in
    let o : Output = record { port = i.port; limits = i.limits; pairing = i.pairing; waiting = i.waiting; found = i.found } in
    let n = c.args.frame.now in
    let gap = c.gap_time-gap.result in
    let from : c.from.result ≡ n.frame.stamp = c.from.ensures ∙ c.ns.ensures.same ∙ c.stamp.ensures in
    let most = c.most.ensures.most in
    let short : n.frame.stamp + most_of o.limits < gap = omega (arith, c.in-None.ensures, from, most) in
    sym (none_seen n o gap c.gap_time-gap.ensures.gap short) ∙ ap (λ (x : Output). has n x) c.self.view_is
