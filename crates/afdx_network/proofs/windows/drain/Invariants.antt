use Rattle.std.proofs.Common.{◌≡◌, ◌≤◌, ℕ, Bool, false, length, slice_get}
use Rattle.std.specs.Prelude.{All}
use Rattle.afdx_load.specs.Accepted.{IsAccepted}
use Rattle.afdx_network.specs.Runs.{Given}
use Rattle.afdx_network.specs.Given.{NoneIsLateAnywhere}
use Rattle.afdx_network.specs.Inner.Sites.{AreInWindow, SendOn, AreEarly, IsPortAt, waits_at, gone_at}
use Rattle.afdx_network.specs.Inner.Noted.{AreNoted}
use Rattle.afdx_network.proofs.windows.drain.Given as goal

abbrev pub invariant-loop : goal.invariant-loop
invariant-loop l = record {
  going : All (λ s. s.paced.failed ≡ false) l.sites;
  all : length l.sites ≡ length l.network.tables;
  place : IsPortAt l.sites l.from l.place;
  gone : gone_at l.sites ≡ gone_at l.initial.sites;
  reached : (h : ℕ) → All (λ s. s.paced.reached ≤ h) l.initial.sites → All (λ s. s.paced.reached ≤ h) l.sites;
  ok : (given : Given) (begin end : ℕ) → begin ≤ end → AreInWindow l.network given begin end l.initial.sites
      → AreInWindow l.network given begin end l.sites × SendOn end l.initial.sites l.sites;
  early : (given : Given) (begin end : ℕ) → begin ≤ end → AreInWindow l.network given begin end l.initial.sites → (none : NoneIsLateAnywhere l.network given)
      → All IsAccepted l.network.tables → AreEarly none.order.place l.initial.sites → AreEarly none.order.place l.sites;
  noted : (keeps : Bool) → AreNoted l.network keeps l.initial.sites l.initial.origins → AreNoted l.network keeps l.sites l.origins;
}

abbrev pub decreases-loop : goal.decreases-loop
decreases-loop l = waits_at (slice_get l.sites l.from.switch) l.from.port
