use Rattle.std.proofs.Common.{◌≡◌, List, ◌++◌, length}
use Rattle.afdx_origins.specs.declared.at_link.Coming.{Coming}
use Rattle.afdx_origins.specs.Inner.Known.{ArePast}
use Rattle.afdx_origins.proofs.at_link.AtLink.forget.Given as goal

abbrev pub invariant-loop-now : goal.invariant-loop-now
invariant-loop-now l = record {
  delays : l.self.delays ≡ l.initial.self.delays;
  coming : (gone : List Coming) × (l.initial.self.coming.items ≡ gone ++ l.self.coming.items) × ArePast l.now gone;
}

abbrev pub decreases-loop-now : goal.decreases-loop-now
decreases-loop-now l = length l.self.coming.items
