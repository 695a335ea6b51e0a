use Rattle.std.proofs.Common.{◌≡◌, ◌++◌, [], Some, string_bytes, rules}
use Rattle.afdx_serve.specs.Sizes.{size_heading}
use Rattle.afdx_serve.proofs.network_size.all_sizes.Goals as goal

pub returns : goal.returns
returns c =
    let text : string_bytes c.push_str.new.self ≡ size_heading c.args.form (Some []) ++ string_bytes c.in_ok-lines.lines = search rules in
    (string_bytes c.in_ok-lines.lines, c.in_ok-lines.ensures, text)
