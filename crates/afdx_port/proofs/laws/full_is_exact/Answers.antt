use Rattle.std.proofs.Common.{◌≡◌, ℕ, ◌<◌, Bool, true, false, cond, refl, arith}
use Rattle.std.specs.Prelude.{nat_le, ◌+◌, ◌↔◌}
use Rattle.std.proofs.lemmas.Bool.Decides.{nat_tests}
use Rattle.afdx_port.specs.declared.Offer.TheVariants.{Queued, Full}
use Rattle.afdx_port.specs.Service.{came}
use Rattle.afdx_port.specs.Admission.{occupied}
use Rattle.afdx_port.proofs.laws.full_is_exact.Goals as goal

decided : (n m : ℕ) (v : Bool) → nat_le n m ≡ v → (cond v Queued Full ≡ Full) ↔ (m < n)
decided n m true is = (λ same. (cc), λ lt. let no : nat_le n m ≡ false = grind (arith, nat_tests) in (cc))
decided n m false is = (λ same. grind (arith, nat_tests), λ lt. refl)

pub returns : goal.returns
returns c = λ p x. decided (x.size + occupied p.settings (came p.settings x) p.admitted) p.settings.buffer (nat_le (x.size + occupied p.settings (came p.settings x) p.admitted) p.settings.buffer) refl
