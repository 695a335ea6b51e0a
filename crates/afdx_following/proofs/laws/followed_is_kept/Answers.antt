use Rattle.afdx_following.proofs.Explained.{followed_is_kept}
use Rattle.afdx_following.proofs.laws.followed_is_kept.Goals as goal

pub returns : goal.returns
returns c = followed_is_kept c.fine_is_kept.ensures c.told_is_allowed.ensures.each
