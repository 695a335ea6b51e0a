use Rattle.std.proofs.Common.{◌≡◌, ◌++◌, None, string_bytes, rules}
use Rattle.afdx_serve.specs.Sizes.{size_heading}
use Rattle.afdx_serve.proofs.size.table_sizes.Goals as goal

pub returns : goal.returns
returns c =
    let text : string_bytes c.push_str.new.self ≡ size_heading c.args.form None ++ string_bytes c.in_ok-lines.lines = search rules in
    (string_bytes c.in_ok-lines.lines, c.in_ok-lines.ensures, text)
