-- A first refusal, and how a reader in the code answers it.
use Rattle.std.specs.Prelude.{◌≡◌, ◌≢◌, Option, Some, None, Result, Ok, Err}
use Rattle.afdx_table.specs.declared.fault.TableFault.{TableFault}
use Rattle.afdx_table.specs.declared.fault.TableFault.TheVariants.{Memory}

-- the first refusal is the answer
infixl 10 ◌>>=◌
abbrev pub ◌>>=◌ : {A B : Type 0} → Result A TableFault → (A → Result B TableFault) → Result B TableFault
(Ok x) >>= f = f x
(Err e) >>= f = Err e

-- a value that is there, or else the refusal
abbrev pub or_refuse : {A : Type 0} → TableFault → Option A → Result A TableFault
or_refuse e None = Err e
or_refuse e (Some x) = Ok x

-- what a function returned, seen by view, is what the definition answers, unless memory ran out
abbrev pub Gives : {X Y : Type 0} → (X → Y) → Result X TableFault → Result Y TableFault → Type 0
Gives view (Ok x) answer = answer ≡ Ok (view x)
Gives view (Err e) answer = e ≢ Memory → answer ≡ Err e
