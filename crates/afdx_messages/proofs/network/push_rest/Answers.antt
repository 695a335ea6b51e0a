use Rattle.std.proofs.Common.{rules}
use Rattle.afdx_messages.proofs.RowLemmas.{some_rest}
use Rattle.afdx_messages.proofs.network.push_rest.Goals as goal

pub returns-in_ok-push_more : goal.returns-in_ok-push_more
returns-in_ok-push_more c =
    let rest = some_rest c.args.rule c.args.rest c.if-rest-gt0.true in
    search (rules, rest)
