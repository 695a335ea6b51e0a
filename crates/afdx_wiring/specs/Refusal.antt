-- A first refusal, and how a reader in the code answers it.
use Rattle.std.specs.Prelude.{◌≡◌, ◌≢◌, Bool, if◌then◌else◌, Option, Some, None, Result, Ok, Err}
use Rattle.afdx_wiring.specs.declared.fault.NetworkFault.{NetworkFault}
use Rattle.afdx_wiring.specs.declared.fault.NetworkFault.TheVariants.{Memory}

-- the first refusal is the answer
infixl 10 ◌>>=◌
abbrev pub ◌>>=◌ : {A B : Type 0} → Result A NetworkFault → (A → Result B NetworkFault) → Result B NetworkFault
(Ok x) >>= f = f x
(Err e) >>= f = Err e

-- a value that is there, or else the refusal
abbrev pub or_refuse : {A : Type 0} → NetworkFault → Option A → Result A NetworkFault
or_refuse e None = Err e
or_refuse e (Some x) = Ok x

-- the refusal if this is so, and else nothing
abbrev pub unless : Bool → NetworkFault → Result (Unit {0}) NetworkFault
unless bad e = if bad then Err e else Ok tt

-- what a function returned, seen by view, is what the definition answers, unless memory ran out
abbrev pub Gives : {X Y : Type 0} → (X → Y) → Result X NetworkFault → Result Y NetworkFault → Type 0
Gives view (Ok x) answer = answer ≡ Ok (view x)
Gives view (Err e) answer = e ≢ Memory → answer ≡ Err e
