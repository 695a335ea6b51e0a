use Rattle.std.proofs.Common.{rules, ◌*◌}
use Rattle.afdx_units.specs.Line.{cost_of}
use Rattle.afdx_account.specs.Policing.{parts}
use Rattle.afdx_account.specs.Account.{frame_account_terms, frame_account_weight}
use Rattle.afdx_account.specs.Inner.MeterLaws.{frame_pays_for}
use Rattle.afdx_account.proofs.Windows.{passes_what_conforms, pays_what_passes}
use Rattle.afdx_account.proofs.frame_account.FrameAccountMeter.offer.Goals as goal

pub returns-clause-conforming : goal.returns-clause-conforming
returns-clause-conforming c =
    passes_what_conforms (frame_account_terms c.args.self.now) c.args.self.now.since c.args.self.now.level c.args.at c.args.size _ _ c.requires (search rules) (search rules)

pub returns-clause-paid : goal.returns-clause-paid
returns-clause-paid c = λ passed speed least most.
    pays_what_passes (frame_account_terms c.args.self.now) (frame_account_weight c.args.self.now speed) (parts * cost_of speed c.args.size)
    c.args.self.now.since c.args.self.now.level c.args.at c.args.size c.is_some.result c.unwrap_or-self.result
    (frame_pays_for c.args.self.now.bag speed c.args.self.now.max_size c.args.size most) (search rules) (search rules) passed
