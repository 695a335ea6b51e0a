-- Several accounts in a row.
use Rattle.std.specs.Prelude.{◌≡◌, ◌-◌, List, [], ◌∷◌}
use Rattle.afdx_account.specs.declared.frame.Frame.{Frame}
use Rattle.afdx_account.specs.Policing.{Terms, passed_frames}
use Rattle.afdx_jitter.specs.declared.delays.Delays.{Delays}
use Rattle.afdx_jitter.specs.Delay.{joined}
use Rattle.afdx_jitter.specs.Series.{ComeLater, AllowsMore}

-- the way from one account to the next: what a frame takes for it, the terms there, and what comes there
pub record Hop : Type 0 where
  pub delays : Delays
  pub terms : Terms
  pub frames : List Frame

-- what was passed comes to the first hop's account, what that passes comes to the next one's, and so on
abbrev pub GoesOn : List Frame → List Hop → Type 0
GoesOn passed [] = Unit {0}
GoesOn passed (h ∷ hops) = ComeLater h.delays passed h.frames × GoesOn (passed_frames h.terms h.frames) hops

-- each account on the way allows more than the first one, by what all hops up to it scatter together
abbrev pub AllowOnTheWay : Terms → Delays → List Hop → Type 0
AllowOnTheWay t d [] = Unit {0}
AllowOnTheWay t d (h ∷ hops) =
    let e = joined d h.delays in
    AllowsMore (e.most - e.least) t h.terms × AllowOnTheWay t e hops

-- each account on the way passes all that comes to it, and what comes there is what the first one passed, so much later
abbrev pub AllPassOnTheWay : List Frame → Delays → List Hop → Type 0
AllPassOnTheWay passed d [] = Unit {0}
AllPassOnTheWay passed d (h ∷ hops) =
    (passed_frames h.terms h.frames ≡ h.frames) × ComeLater (joined d h.delays) passed h.frames × AllPassOnTheWay passed (joined d h.delays) hops
