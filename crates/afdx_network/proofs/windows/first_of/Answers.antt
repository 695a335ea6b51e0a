use Rattle.std.proofs.Common.{◌+◌, sym, ◌∙◌, ap, take, subst, ℕ, Option}
use Rattle.afdx_network.specs.Inner.Sites.{Site, IsFirst}
use Rattle.afdx_network.proofs.Choosing.{first_at}
use Rattle.afdx_network.proofs.windows.first_of.Goals as goal

pub loop-site-preserved : goal.loop-site-preserved
loop-site-preserved c =
    subst (λ (first : Option ℕ). IsFirst (take (c.loop-site.site-index + 1) c.args.sites.now) first) (sym c.earlier_of-first.ensures)
    (first_at c.args.sites.now c.loop-site.site-index c.site-item.result c.loop-site.first c.next.result c.loop-site-test.true
    (c.next.ensures ∙ ap (λ (s : Site). s.next) c.site-item.is) c.loop-site.invariant)
