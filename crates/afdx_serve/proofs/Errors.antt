-- What holds of the error of a call.
use Rattle.std.proofs.Common.{◌≡◌, Result, Ok, Err, sym, subst}
use Rattle.std.specs.Prelude.{MatchResult, IsErr, IsErrAnd}

-- what holds of the error that a call returned
pub of_error : {T E : Type 0} (r : Result T E) (P : T → Type 0) (Q : E → Type 0) (e : E) → IsErr r × IsErrAnd r (λ x. x ≡ e) → Q e → MatchResult r P Q
of_error (Ok x) P Q e h q = absurd h.1
of_error (Err x) P Q e h q = subst Q (sym h.1) q
