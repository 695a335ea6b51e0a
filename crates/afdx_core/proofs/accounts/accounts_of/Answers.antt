use Rattle.std.proofs.Common.{◌<◌, length, [], arith, ap, subst}
use Rattle.afdx_table.specs.Link.{Link}
use Rattle.afdx_core.specs.Kept.{AccountAgrees}
use Rattle.afdx_core.proofs.Policed.{accounts-push, account_fresh}
use Rattle.afdx_core.proofs.Steps.{link_is}
use Rattle.afdx_core.proofs.accounts.accounts_of.Goals as goal

pub loop-place-preserved : goal.loop-place-preserved
loop-place-preserved g c =
    let i = c.loop-place.invariant in
    let links = c.args.table.now.links in
    let place = c.loop-place.place in
    let lt : place < length links = omega (arith, c.loop-place-test.true, c.link_count-place-end.ensures.count) in
    let l = c.unwrap-link.result.now in
    let new = subst (λ (m : Link). AccountAgrees m c.new.result [] 0) c.link.view_is (account_fresh _ c.new.result c.new.ensures.terms c.new.ensures.full c.new.ensures.since) in
    record {
      len = omega (arith, i.len, c.in_ok-push.ensures.len, ap length c.in_ok-push.ensures.items);
      each = rw c.in_ok-push.ensures.items (accounts-push links c.loop-place.accounts.items place l c.new.result lt i.len
          (link_is links place c.link_at.result c.unwrap-link.result l c.link_at.ensures.link c.unwrap-link.ensures lt) new i.each);
    }
