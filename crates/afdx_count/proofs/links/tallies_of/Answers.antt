use Rattle.std.proofs.Common.{sym, ap, ◌∙◌}
use Rattle.std.specs.Option.{option_copied}
use Rattle.afdx_count.specs.Tally.{new_link}
use Rattle.afdx_count.proofs.Numbered.{new_more}
use Rattle.afdx_count.proofs.links.tallies_of.Goals as goal

pub loop-index-preserved : goal.loop-index-preserved
loop-index-preserved g c =
    new_more new_link c.args.table.now.links c.loop-index.index c.unwrap.result.now c.new.result c.loop-index.tallies.items c.push.new.self.items
    (sym c.link_at.ensures.link ∙ ap option_copied c.unwrap.ensures) c.new.ensures c.loop-index.invariant c.in_ok-push.ensures.items
