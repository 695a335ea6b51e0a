-- Frames of a link that come again later, and accounts that allow for it.
use Rattle.std.specs.Prelude.{◌≡◌, ℕ, ◌+◌, ◌*◌, ◌≤◌, List, [], ◌∷◌, ◌++◌, IsTrue}
use Rattle.std.specs.List.{AllZip}
use Rattle.afdx_account.specs.declared.frame.Frame.{Frame}
use Rattle.afdx_account.specs.Policing.{Terms, conforms}
use Rattle.afdx_jitter.specs.declared.delays.Delays.{Delays}

-- each of these frames conforms to those before it
abbrev pub AllConform : Terms → List Frame → List Frame → Type 0
AllConform t before [] = Unit {0}
AllConform t before (f ∷ fs) = IsTrue (conforms t before f) × AllConform t (before ++ f ∷ []) fs

-- the same frame again, at least `least` and at most `most` ns later
pub record ComesLater (d : Delays) (f g : Frame) : Type 0 where
  pub same : g.size ≡ f.size
  pub no_sooner : f.stamp + d.least ≤ g.stamp
  pub no_later : g.stamp ≤ f.stamp + d.most

-- one by one and in order, the same frames again
abbrev pub ComeLater : Delays → List Frame → List Frame → Type 0
ComeLater d fs gs = AllZip (ComesLater d) fs gs

-- terms with the same prices and credit, and a cap that allows at least so many ns more
pub record AllowsMore (scatter : ℕ) (t u : Terms) : Type 0 where
  pub price : (size : ℕ) → u.price size ≡ t.price size
  pub rate : u.rate ≡ t.rate
  pub cap : t.cap + t.rate * scatter ≤ u.cap
