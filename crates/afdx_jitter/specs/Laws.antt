-- The laws of accounts in series, over the definitions alone.
use Rattle.std.specs.Prelude.{◌≡◌, ℕ, ◌-◌, ◌≤◌, List, [], map}
use Rattle.std.specs.List.{AllZip, AllByRecursion}
use Rattle.afdx_units.specs.Line.{least_size}
use Rattle.afdx_units.specs.declared.bag.Bag.{Bag}
use Rattle.afdx_units.specs.declared.line.Speed.{Speed}
use Rattle.afdx_units.specs.declared.police.Police.{Police}
use Rattle.afdx_account.specs.declared.frame.Frame.{Frame}
use Rattle.afdx_account.specs.Policing.{Terms, terms_by, passed_of, passed_frames}
use Rattle.afdx_jitter.specs.declared.delays.Delays.{Delays}
use Rattle.afdx_jitter.specs.Delay.{hop_of, joined, at_once, IsEnough, Crosses}
use Rattle.afdx_jitter.specs.Series.{AllConform, ComeLater, AllowsMore}
use Rattle.afdx_jitter.specs.Hops.{Hop, GoesOn, AllowOnTheWay, AllPassOnTheWay}

-- what conforms to some terms conforms, when it comes again later, to terms that allow for the difference
abbrev pub LaterConform : Type 0
LaterConform = (d : Delays) (t u : Terms) (fs gs : List Frame) → AllowsMore (d.most - d.least) t u → ComeLater d fs gs → AllConform t [] fs → AllConform u [] gs

-- so what one account passed of any frames, an account that allows for it passes when it comes again later
abbrev pub PassedPassAgain : Type 0 → Type 0
PassedPassAgain A = (frame_of : A → Frame) (d : Delays) (t u : Terms) (frames : List Frame) (xs : List A) → AllowsMore (d.most - d.least) t u
    → ComeLater d (passed_frames t frames) (map frame_of xs) → passed_of frame_of u xs ≡ xs

-- terms of one kind, size and gap allow so much more if the jitter grows by at least that much
abbrev pub JitterAllowsMore : Type 0
JitterAllowsMore = (police : Police) (max_size : ℕ) (bag : Bag) (first later : ℕ) (d : Delays) → IsEnough d first later → d.least ≤ d.most
    → AllowsMore (d.most - d.least) (terms_by police max_size bag first) (terms_by police max_size bag later)

-- a link whose jitter is enough after a part of its way: all its frames that the first account passed, the later one passes
abbrev pub JitterEnough : Type 0 → Type 0
JitterEnough A = (frame_of : A → Frame) (d : Delays) (police : Police) (max_size : ℕ) (bag : Bag) (first later : ℕ) (frames : List Frame) (xs : List A)
    → IsEnough d first later → ComeLater d (passed_frames (terms_by police max_size bag first) frames) (map frame_of xs)
    → passed_of frame_of (terms_by police max_size bag later) xs ≡ xs

-- frames of the least size or more that cross a switch and a cable come later by the hop
abbrev pub CrossingIsAHop : Type 0
CrossingIsAHop = (speed : Speed) (latency bound cable : ℕ) (fs gs : List Frame) → AllByRecursion (λ f. least_size ≤ f.size) fs
    → AllZip (Crosses speed latency bound cable) fs gs → ComeLater (hop_of speed latency bound cable) fs gs

-- delays add up
abbrev pub DelaysAddUp : Type 0
DelaysAddUp = (d e : Delays) (ps qs rs : List Frame) → ComeLater d ps qs → ComeLater e qs rs → ComeLater (joined d e) ps rs

-- before the first hop there is no delay
abbrev pub DelaysBeginAtOnce : Type 0
DelaysBeginAtOnce = (fs : List Frame) → ComeLater at_once fs fs

-- no account on a way polices anything that the first one passed, if each allows more than the first, by what the whole way to it
-- scatters
abbrev pub WaysPassAll : Type 0
WaysPassAll = (t : Terms) (frames : List Frame) (hops : List Hop) → GoesOn (passed_frames t frames) hops → AllowOnTheWay t at_once hops
    → AllPassOnTheWay (passed_frames t frames) at_once hops
