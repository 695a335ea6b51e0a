-- Up to which instants ports are told of what left, where recordings end at one.
use Rattle.std.proofs.Common.{◌≡◌, ℕ, ◌+◌, ◌-◌, ◌≤◌, Option, Some, None, sym, subst, arith}
use Rattle.afdx_pairing.specs.declared.limits.Limits.{Limits}
use Rattle.afdx_pairing.specs.Events.{Numbered}
use Rattle.afdx_pairing.specs.Limits.{left_at}
use Rattle.afdx_following.specs.Output.{Output, IsFresh, left_by, last_at}
use Rattle.afdx_following.specs.Inner.InStep.{WaitsBy}
use Rattle.afdx_following.specs.Followed.{Arrived, Departed}
use Rattle.afdx_compare_laws.specs.Fine.{IsByEnd}
use Rattle.afdx_compare_laws.specs.Conforming.{IsByLast}
use Rattle.afdx_compare_laws.proofs.Narrowing.{all_map}

abbrev pub later_of : ℕ → ℕ → ℕ
later_of a b = a + (b - a)

-- by the stamps an instant is at most a bound past the end of the records
abbrev pub Ends : Option ℕ → Limits → ℕ → Type 0
Ends last m late = IsByEnd m (last_at m last) (late - m.tolerance)

pub first_ends : (last : Option ℕ) (m : Limits) → Ends last m 0
first_ends None m = tt
first_ends (Some last) m = omega arith

pub later_ends : (last : Option ℕ) (m : Limits) (a b : ℕ) → Ends last m a → Ends last m b → Ends last m (later_of a b)
later_ends None m a b first second = tt
later_ends (Some last) m a b first second = omega (arith, first, second)

pub frame_ends : (tolerance : ℕ) (last : Option ℕ) (m : Limits) (n : Numbered) → m.tolerance ≡ tolerance → IsByLast tolerance last (Arrived n) → Ends last m n.frame.stamp
frame_ends tolerance None m n even by = tt
frame_ends tolerance (Some last) m n even by = omega (arith, even, by)

-- a record, at its port and at others
pub record_ends : (tolerance : ℕ) (last : Option ℕ) (m : Limits) (place : ℕ) (n : Numbered) → IsByLast tolerance last (Departed place n) → Ends last m (left_at m n.frame + m.tolerance)
record_ends tolerance None m place n by = tt
record_ends tolerance (Some last) m place n by = omega (arith, by)

pub stamp_ends : (tolerance : ℕ) (last : Option ℕ) (m : Limits) (place : ℕ) (n : Numbered) (late : ℕ) → m.tolerance ≡ tolerance → late ≤ n.frame.stamp + tolerance
    → IsByLast tolerance last (Departed place n) → Ends last m late
stamp_ends tolerance None m place n late even le by = tt
stamp_ends tolerance (Some last) m place n late even le by = omega (arith, even, le, by)

-- records that wait left by an instant
pub waits_later : (at later : ℕ) → at ≤ later → (o : Output) → WaitsBy at o → WaitsBy later o
waits_later at later le o wait = all_map (λ n. left_by n o ≤ at) (λ n. left_by n o ≤ later) (λ n by. omega (arith, le, by)) o.waiting wait

pub fresh_waits : (o : Output) → IsFresh o → WaitsBy 0 o
fresh_waits o fresh = subst (λ (x : Output). WaitsBy 0 x) (sym fresh) tt
