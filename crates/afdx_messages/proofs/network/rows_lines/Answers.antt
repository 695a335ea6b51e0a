use Rattle.std.proofs.Common.{rules, ◌≡◌, take}
use Rattle.std.proofs.lemmas.List.{take_min}
use Rattle.afdx_messages.proofs.network.rows_lines.Goals as goal

pub returns : goal.returns
returns c =
    let first : c.split_at.result.0.now ≡ take 100 c.args.shorts.now = search (rules, take_min) in
    search (rules, first)
