use Rattle.std.proofs.Common.{nat_le, nat_lt, List, rules, arith, ap, ◌∙◌}
use Rattle.std.specs.List.{position_or_len}
use Rattle.std.proofs.lemmas.List.Sorted.{IsPartitionPoint-from_clause}
use Rattle.afdx_pairing.specs.Events.{Numbered}
use Rattle.afdx_pairing.proofs.Places.{nobody, are_parted, sooner_counted}
use Rattle.afdx_pairing.proofs.queue.Queue.sooner_than.Goals as goal

pub returns-clause-count : goal.returns-clause-count
returns-clause-count g c =
    let parted = are_parted (λ (n : Numbered). n.frame.stamp) c.args.at c.self.inside.items.items c.self.invariant.in_order in
    let point = IsPartitionPoint-from_clause (λ (n : Numbered). nat_lt n.frame.stamp c.args.at) _ _ c.partition_point.ensures.partitioned parted (λ a r q k. search rules) in
    sooner_counted (λ (n : Numbered). n.frame.stamp) nobody c.args.at c.self.inside.items.items c.partition_point.result (omega arith) point
    ∙ ap (λ (ns : List Numbered). position_or_len (λ n. nat_le c.args.at n.frame.stamp) ns) c.self.view_is
