-- A text says one thing at most.
use Rattle.std.proofs.Common.{◌≡◌, ℕ, ℤ, FitsSigned, ap, of_z, subst, sym, to_z, w64, ◌∙◌}
use Rattle.std.proofs.lemmas.Int.{to_z-of_z}
use Rattle.afdx_recordings.specs.declared.offsets.Offsets.{Offsets}
use Rattle.afdx_recordings.specs.declared.outputs.Outputs.{Outputs}
use Rattle.afdx_recordings.specs.Recordings.{Text, IsPort, Says, SetsOffset, AddsOutput, with_offset, with_output}

one_port : (text : Text) (a b : ℕ) → IsPort text a → IsPort text b → a ≡ b
one_port text a b is_a is_b = is_a.number.1 ∙ sym is_b.number.1

-- to what a part leads
pub set_once : (from : Offsets) (part : Text) (port : ℕ) (offset : ℤ) → Says part port offset → (other : Offsets) → SetsOffset from part other → other ≡ with_offset from port offset
set_once from part port offset says other sets =
    sets.3
    ∙ ap (λ (p : ℕ). with_offset from p sets.1) (one_port _ sets.0 port sets.2.port_is says.port_is)
    ∙ ap (with_offset from port) (sets.2.offset_is.1 ∙ sym says.offset_is.1)

pub added_once : (from : Outputs) (part : Text) (port : ℕ) → IsPort part port → (other : Outputs) → AddsOutput from part other → other ≡ with_output from port
added_once from part port is other adds = adds.2 ∙ ap (with_output from) (one_port part adds.0 port adds.1 is)

-- and where it says nothing it leads nowhere
pub sets_none : (from : Offsets) (part : Text) → ((port : ℕ) (offset : ℤ) → Says part port offset → ⊥) → (other : Offsets) → SetsOffset from part other → ⊥
sets_none from part none other sets = none sets.0 sets.1 sets.2

pub adds_none : (from : Outputs) (part : Text) → ((port : ℕ) → IsPort part port → ⊥) → (other : Outputs) → AddsOutput from part other → ⊥
adds_none from part none other adds = none adds.0 adds.1

-- the nanoseconds fit 64 bits with a sign
pub read_back : (text : Text) (port : ℕ) (offset : ℤ) → Says text port offset → to_z w64 (of_z w64 offset) ≡ offset
read_back text port offset says = to_z-of_z w64 offset (subst (λ (z : ℤ). FitsSigned w64 z) (sym says.offset_is.1) says.offset_is.0.1)
