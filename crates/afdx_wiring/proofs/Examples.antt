-- Worked examples of the definitions, which compute.
use Rattle.std.proofs.Common.{◌≡◌, true, false, codes, Some, None, refl}
use Rattle.afdx_wiring.specs.Names.{is_name, end_in}

-- ends of wires
written : end_in (codes "A.3") ≡ Some (codes "A", 3)
written = refl

tens : end_in (codes "B.10") ≡ Some (codes "B", 10)
tens = refl

greatest : end_in (codes "door-2_b.24") ≡ Some (codes "door-2_b", 24)
greatest = refl

past_the_last : end_in (codes "A.25") ≡ None
past_the_last = refl

zero_port : end_in (codes "A.0") ≡ None
zero_port = refl

with_a_zero : end_in (codes "A.03") ≡ None
with_a_zero = refl

without_a_port : end_in (codes "A") ≡ None
without_a_port = refl

of_16 : is_name (codes "AAAAAAAAAAAAAAAA") ≡ true
of_16 = refl

of_17 : is_name (codes "AAAAAAAAAAAAAAAAA") ≡ false
of_17 = refl
