use Rattle.std.proofs.Common.{[]}
use Rattle.afdx_account.specs.Policing.{passed_frames}
use Rattle.afdx_account.proofs.Windows.{passed_early, passed_sound, headroom-later, headroom-push, conforms_is}
use Rattle.afdx_account.proofs.laws.headroom_is_a_level.Goals as goal

pub returns-clause-credited : goal.returns-clause-credited
returns-clause-credited c = λ t frames now later le early. headroom-later t (passed_frames t frames) now later le (passed_early t [] frames now early) (passed_sound t [] frames now early tt)

pub returns-clause-decides : goal.returns-clause-decides
returns-clause-decides c = λ t frames f early. conforms_is t (passed_frames t frames) f (passed_sound t [] frames f.stamp early tt)

pub returns-clause-debited : goal.returns-clause-debited
returns-clause-debited c = headroom-push
