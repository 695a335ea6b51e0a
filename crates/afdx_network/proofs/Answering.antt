-- What a call that fails answers, and what is written back into a vector.
use Rattle.std.proofs.Common.{◌≡◌, ℕ, ◌<◌, List, ◌++◌, length, take, drop, get_or, slice_get, Some, Ok, Err, refl, ap, sym, ◌∙◌, arith, subst}
use Rattle.std.specs.Prelude.{All, Result, IfErr, IsErr, IsErrAnd, MatchResult}
use Rattle.std.proofs.lemmas.List.{append-nil, drop_all, take_all}
use Rattle.std.proofs.lemmas.Option.{slice_get-get_or, slice_get_read}

pub of_error : {T E : Type 0} (P : E → Type 0) (r : Result T E) (e : E) → IsErr r × IsErrAnd r (λ x. x ≡ e) → P e → IfErr r P
of_error P (Ok x) e is holds = absurd is.1
of_error P (Err x) e is holds = subst P (sym is.1) holds

pub match_error : {T E : Type 0} (P : T → Type 0) (Q : E → Type 0) (r : Result T E) (e : E) → IsErr r × IsErrAnd r (λ x. x ≡ e) → Q e → MatchResult r P Q
match_error P Q (Ok x) e is holds = absurd is.1
match_error P Q (Err x) e is holds = subst Q (sym is.1) holds

-- a slice of all of a vector, written back
pub written_back : {X : Type 0} (old new : List X) (n : ℕ) → length new ≡ length old → n ≡ length old → take n (new ++ drop (length new) old) ≡ new
written_back old new n same long =
    ap (λ others. take n (new ++ others)) (drop_all (length new) old (omega (arith, same))) ∙ ap (take n) (append-nil new) ∙ take_all n new (omega (arith, same, long))

pub read_there : {X : Type 0} (xs : List X) (n : ℕ) (x : X) → n < length xs → x ≡ get_or xs n x → slice_get xs n ≡ Some x
read_there xs n x within is = slice_get_read xs (length xs) n x refl within is

-- what holds at each place holds of all
pub all_places : {X : Type 0} (P : X → Type 0) (xs : List X) → ((n : ℕ) (x : X) → slice_get xs n ≡ Some x → P x) → All P xs
all_places P xs each n d within = each n (get_or xs n d) (slice_get-get_or xs n d within)
