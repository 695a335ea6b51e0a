use Rattle.afdx_jitter.proofs.Jitter.{jitter_allows_more}
use Rattle.afdx_jitter.proofs.laws.jitter_allows_more.Goals as goal

pub returns : goal.returns
returns c = jitter_allows_more
