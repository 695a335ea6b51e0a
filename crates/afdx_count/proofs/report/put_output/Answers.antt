use Rattle.std.proofs.Common.{rules, string_bytes}
use Rattle.afdx_count.proofs.Texts.{high_then_low}
use Rattle.afdx_count.proofs.report.put_output.Goals as goal

pub returns : goal.returns
returns g c =
    high_then_low (string_bytes c.args.text.now) (string_bytes c.put_class.new.text) (string_bytes c.put_class-2.new.text) c.args.port.now
    (search (rules, c.in_ok-put_class.ensures)) (search (rules, c.in_ok-put_class-2.ensures))
