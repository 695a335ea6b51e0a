-- What a watched link keeps between its calls.
use Rattle.std.specs.Prelude.{◌≡◌, ℕ, ◌≤◌, false, List, [], ◌∷◌}
use Rattle.std.specs.List.{AllByRecursion}
use Rattle.afdx_pairing.specs.Events.{Numbered}
use Rattle.afdx_following.specs.Output.{Output, HasComeBy, left_by}
use Rattle.afdx_following.specs.Watched.{Watched, Fits}

-- instants of frames do not fall
abbrev pub ComeInOrder : List Numbered → Type 0
ComeInOrder [] = Unit {0}
ComeInOrder (n ∷ ns) = AllByRecursion (λ other. n.frame.stamp ≤ other.frame.stamp) ns × ComeInOrder ns

-- the records that wait left no later than an instant, whatever the stamps are off by
abbrev pub WaitsBy : ℕ → Output → Type 0
WaitsBy at o = AllByRecursion (λ n. left_by n o ≤ at) o.waiting

-- no call has failed; frames of which the fate is not told came in order, after those of which it was told, and may be sent; nothing came or
-- left after the last that was taken
pub record IsInStep (f : Watched) : Type 0 where
  pub going : f.failed ≡ false
  pub bounded : f.tolerance ≤ 1000000000
  pub in_order : ComeInOrder f.undecided
  pub since : AllByRecursion (λ n. f.levels.since ≤ n.frame.stamp) f.undecided
  pub fit : AllByRecursion (Fits f.account) f.undecided
  pub by : AllByRecursion (λ n. n.frame.stamp ≤ f.latest) f.undecided
  pub known : f.levels.since ≤ f.latest
  pub held : AllByRecursion (HasComeBy f.levels.since) f.outputs
  pub wait : AllByRecursion (WaitsBy f.latest) f.outputs
