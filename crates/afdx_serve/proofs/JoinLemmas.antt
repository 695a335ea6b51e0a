-- New files that are joined, one after the other.
use Rattle.std.proofs.Common.{◌≡◌, ◌+◌, ℕ, zero, suc, List, [], ◌∷◌, ◌++◌, length, get_or, set, slice_get, false, Result, Ok, Err, Option, Some, None, refl, sym, ap, ◌∙◌, arith, subst}
use Rattle.std.proofs.Common.{append_assoc, append-nil}
use Rattle.std.specs.Prelude.{IfSome, OnOk, is_err}
use Rattle.std.specs.Io.KnownBytes.{Appends}
use Rattle.std.proofs.lemmas.Option.{same_Some}
use Rattle.afdx_folder.specs.Files.{Files}
use Rattle.afdx_serve.specs.Inner.Outputs.{HaveBytes}
use Rattle.afdx_serve.specs.Inner.Telling.{joined}

-- two files have what was joined so far, and these are left
pub record IsJoining {N : Type 0} (contents : N → Option (List ℕ)) (first : Option Files) (arrivals departures : List ℕ) (parts : List (List ℕ)) (both left : List N) : Type 0 where
  pub more : List ℕ
  pub rest : List (List ℕ)
  pub all : more ++ joined rest ≡ departures ++ joined parts
  pub many : length rest ≡ length left
  pub have : HaveBytes contents first both (arrivals ∷ more ∷ [])
  pub have_left : HaveBytes contents first left rest

-- what holds of a call that was done
pub on_ok : {T E : Type 0} (P : Type 0) (r : Result T E) → OnOk r P → is_err r ≡ false → P
on_ok P (Ok x) holds is = holds
on_ok P (Err e) holds is = absurd cc

module _ {N : Type 0} (contents : N → Option (List ℕ)) where
  have_both : (first : Option Files) (a b : N) (left : List N) (xs ys : List ℕ) (parts : List (List ℕ)) → HaveBytes contents first (a ∷ b ∷ left) (xs ∷ ys ∷ parts)
      → HaveBytes contents first (a ∷ b ∷ []) (xs ∷ ys ∷ [])
  have_both None a b left xs ys parts has = tt
  have_both (Some f) a b left xs ys parts has = each where
    each : (place : ℕ) (n : N) (bytes : List ℕ) → slice_get (a ∷ b ∷ []) place ≡ Some n → slice_get (xs ∷ ys ∷ []) place ≡ Some bytes → contents n ≡ Some bytes
    each zero n bytes here there = has 0 n bytes here there
    each (suc zero) n bytes here there = has 1 n bytes here there
    each (suc (suc place)) n bytes here there = absurd cc

  have_rest : (first : Option Files) (a b : N) (left : List N) (xs ys : List ℕ) (parts : List (List ℕ)) → HaveBytes contents first (a ∷ b ∷ left) (xs ∷ ys ∷ parts)
      → HaveBytes contents first left parts
  have_rest None a b left xs ys parts has = tt
  have_rest (Some f) a b left xs ys parts has = λ place. has (suc (suc place))

  have_later : (first : Option Files) (a : N) (left : List N) (xs : List ℕ) (rest : List (List ℕ)) → HaveBytes contents first (a ∷ left) (xs ∷ rest) → HaveBytes contents first left rest
  have_later None a left xs rest has = tt
  have_later (Some f) a left xs rest has = λ place. has (suc place)

  pub starts : (first : Option Files) (arrivals departures : List ℕ) (parts : List (List ℕ)) (a b : N) (left files both : List N) → files ≡ a ∷ b ∷ left → both ≡ a ∷ b ∷ []
      → length parts + 2 ≡ length files → HaveBytes contents first files (arrivals ∷ departures ∷ parts) → IsJoining contents first arrivals departures parts both left
  starts first arrivals departures parts a b left files both is pair many has =
      let all = subst (λ (fs : List N). HaveBytes contents first fs (arrivals ∷ departures ∷ parts)) is has in
      record {
        more = departures;
        rest = parts;
        all = refl;
        many = (let long = many ∙ ap length is in omega (arith, long));
        have = subst (λ (fs : List N). HaveBytes contents first fs (arrivals ∷ departures ∷ [])) (sym pair) (have_both first a b left arrivals departures parts all);
        have_left = have_rest first a b left arrivals departures parts all;
      }

  -- a file to which one more was joined
  longer : (known later : Option (List ℕ)) (more bytes : List ℕ) → known ≡ Some more → Appends known later bytes → later ≡ Some (more ++ bytes)
  longer None later more bytes is appended = absurd cc
  longer (Some xs) None more bytes is appended = absurd appended
  longer (Some xs) (Some ys) more bytes is appended = ap Some (appended ∙ ap (λ (start : List ℕ). start ++ bytes) (same_Some xs more is))

  have_longer : (first : Option Files) (x y n part : N) (left : List N) (arrivals more bytes : List ℕ) (rest : List (List ℕ)) → HaveBytes contents first (x ∷ y ∷ []) (arrivals ∷ more ∷ [])
      → HaveBytes contents first (part ∷ left) (bytes ∷ rest) → IfSome (contents part) (λ own. Appends (contents y) (contents n) own)
      → HaveBytes contents first (x ∷ n ∷ []) (arrivals ∷ (more ++ bytes) ∷ [])
  have_longer None x y n part left arrivals more bytes rest has has_left appended = tt
  have_longer (Some f) x y n part left arrivals more bytes rest has has_left appended = each where
    own : Appends (contents y) (contents n) bytes
    own = subst (λ (o : Option (List ℕ)). IfSome o (λ xs. Appends (contents y) (contents n) xs)) (has_left 0 part bytes refl refl) appended

    each : (place : ℕ) (m : N) (all : List ℕ) → slice_get (x ∷ n ∷ []) place ≡ Some m → slice_get (arrivals ∷ (more ++ bytes) ∷ []) place ≡ Some all → contents m ≡ Some all
    each zero m all here there = has 0 m all here there
    each (suc zero) m all here there = ap contents (sym (same_Some n m here)) ∙ longer (contents y) (contents n) more bytes (has 1 y more refl refl) own ∙ there
    each (suc (suc place)) m all here there = absurd cc

  joins : (first : Option Files) (arrivals departures : List ℕ) (parts : List (List ℕ)) (x y n part : N) (left : List N) (more : List ℕ) (rest : List (List ℕ))
      → more ++ joined rest ≡ departures ++ joined parts → length rest ≡ suc (length left) → HaveBytes contents first (x ∷ y ∷ []) (arrivals ∷ more ∷ [])
      → HaveBytes contents first (part ∷ left) rest → IfSome (contents part) (λ own. Appends (contents y) (contents n) own)
      → IsJoining contents first arrivals departures parts (x ∷ n ∷ []) left
  joins first arrivals departures parts x y n part left more [] all many has has_left appended = absurd (omega (arith, many))
  joins first arrivals departures parts x y n part left more (bytes ∷ rest) all many has has_left appended = record {
    more = more ++ bytes;
    rest = rest;
    all = append_assoc more bytes (joined rest) ∙ all;
    many = omega (arith, many);
    have = have_longer first x y n part left arrivals more bytes rest has has_left appended;
    have_left = have_later first part left bytes rest has_left;
  }

  pub joins_next : (first : Option Files) (arrivals departures : List ℕ) (parts : List (List ℕ)) (both new : List N) (d n part : N) (old left : List N) → length both ≡ 2 → new ≡ set both 1 n
      → old ≡ part ∷ left → IfSome (contents part) (λ own. Appends (contents (get_or both 1 d)) (contents n) own) → IsJoining contents first arrivals departures parts both old
      → IsJoining contents first arrivals departures parts new left
  joins_next first arrivals departures parts [] new d n part old left two is next appended was = absurd (omega (arith, two))
  joins_next first arrivals departures parts (x ∷ []) new d n part old left two is next appended was = absurd (omega (arith, two))
  joins_next first arrivals departures parts (x ∷ y ∷ z ∷ both) new d n part old left two is next appended was = absurd (omega (arith, two))
  joins_next first arrivals departures parts (x ∷ y ∷ []) new d n part old left two is next appended was =
      subst (λ (fs : List N). IsJoining contents first arrivals departures parts fs left) (sym is)
      (joins first arrivals departures parts x y n part left was.more was.rest was.all (was.many ∙ ap length next) was.have
      (subst (λ (fs : List N). HaveBytes contents first fs was.rest) next was.have_left) appended)

  pub all_joined : (first : Option Files) (arrivals departures : List ℕ) (parts : List (List ℕ)) (both left : List N) → left ≡ [] → IsJoining contents first arrivals departures parts both left
      → HaveBytes contents first both (arrivals ∷ (departures ++ joined parts) ∷ [])
  all_joined first arrivals departures parts both left none is =
      subst (λ (xs : List ℕ). HaveBytes contents first both (arrivals ∷ xs ∷ [])) (ended is.rest (is.many ∙ ap length none) is.all) is.have where
        ended : (rest : List (List ℕ)) → length rest ≡ 0 → is.more ++ joined rest ≡ departures ++ joined parts → is.more ≡ departures ++ joined parts
        ended [] many all = sym (append-nil is.more) ∙ all
        ended (x ∷ rest) many all = absurd (omega (arith, many))
