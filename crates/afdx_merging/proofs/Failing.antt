-- What goes out through a `?`.
use Rattle.std.proofs.Common.{◌≡◌, Option, None, Some, Result, Ok, Err, sym, subst}
use Rattle.std.specs.Prelude.{IsErr, IsErrAnd, IfErr, IfSome, IfNone}

pub of_error : {T E : Type 0} (P : E → Type 0) (r : Result T E) (e : E) → IsErr r × IsErrAnd r (λ x. x ≡ e) → P e → IfErr r P
of_error P (Ok x) e is holds = absurd is.1
of_error P (Err x) e is holds = subst P (sym is.1) holds

pub of_none : {T : Type 0} (P : T → Type 0) (o : Option T) → o ≡ None → IfSome o P
of_none P None is = tt
of_none P (Some x) is = absurd (let never = is in cc)

pub where_none : {T : Type 0} (P : Type 0) (o : Option T) → P → IfNone o P
where_none P None holds = holds
where_none P (Some x) holds = tt
