-- Which failure is reported.
use Rattle.std.proofs.Common.{◌≡◌, ℕ, Bool, true, false, List, [], ◌++◌, Option, Some, None, Result, Ok, Err, Global, String, string_bytes, refl, sym, subst, ap, ◌∙◌, inl, inr}
use Rattle.std.specs.Prelude.{IfOk, MatchResult}
use Rattle.std.specs.Io.KnownBytes.{Appends}
use Rattle.std.proofs.KnownBytes.{Appends-trans}
use Rattle.std.proofs.lemmas.List.{append-nil, append_assoc}
use Rattle.afdx_folder.specs.Output.{AppendsPrefix}
use Rattle.afdx_messages.specs.declared.failure.Failure.{Failure}
use Rattle.afdx_messages.specs.declared.failure.Failure.TheVariants.{Found, Memory}
use Rattle.afdx_messages.specs.Codes.{more_of}
use Rattle.afdx_messages.specs.Reporting.{IsMade, ReportsAs, IsTold, line_of, memory_line, status_of}

-- of a failure with a line that is made: the failure, or memory
pub made : {E : Type 0} (f : Failure) (e : Bool) (line : Result (String Global) E) (more memory : List ℕ) (status result : ℕ) (told : Bool) (old new : Option (List ℕ)) → IsMade f
    → IfOk line (λ text. string_bytes text ≡ line_of f) → status ≡ status_of f → more ≡ more_of f e → memory ≡ more_of Memory e
    → MatchResult line (λ text. (result ≡ status) × IsTold told old new (string_bytes text ++ more)) (λ _. (result ≡ 5) × IsTold told old new (memory_line ++ memory))
    → (reported : Failure) × ReportsAs f reported × (result ≡ status_of reported) × IsTold told old new (line_of reported ++ more_of reported e)
made f e (Ok text) more memory status result told old new is_made is_line is_status is_more is_memory h =
    (f, inl refl, h.0 ∙ is_status, subst (λ (bytes : List ℕ). IsTold told old new bytes) (ap (λ (l : List ℕ). l ++ more) is_line ∙ ap (λ (m : List ℕ). line_of f ++ m) is_more) h.1)
made f e (Err x) more memory status result told old new is_made is_line is_status is_more is_memory h =
    (Memory, inr (is_made, refl), h.0, subst (λ (m : List ℕ). IsTold told old new (memory_line ++ m)) is_memory h.1)

-- of one whose line is a text
pub said : (f : Failure) (e : Bool) (line more : List ℕ) (status : ℕ) (told : Bool) (old new : Option (List ℕ)) → line ≡ line_of f → status ≡ status_of f → more ≡ more_of f e
    → IsTold told old new (line ++ more) → (reported : Failure) × ReportsAs f reported × (status ≡ status_of reported) × IsTold told old new (line_of reported ++ more_of reported e)
said f e line more status told old new is_line is_status is_more h =
    (f, inl refl, is_status, subst (λ (bytes : List ℕ). IsTold told old new bytes) (ap (λ (l : List ℕ). l ++ more) is_line ∙ ap (λ (m : List ℕ). line_of f ++ m) is_more) h)

-- without a line nothing is written
nothing : (e : Bool) → [] ≡ line_of Found ++ more_of Found e
nothing true = refl
nothing false = refl

nothing_told : (now : Option (List ℕ)) → IsTold true now now []
nothing_told None = tt
nothing_told (Some text) = sym (append-nil text)

pub found_told : (now : Option (List ℕ)) (e : Bool) → IsTold true now now (line_of Found ++ more_of Found e)
found_told now e = subst (λ (bytes : List ℕ). IsTold true now now bytes) (nothing e) (nothing_told now)

-- ---- a line and what follows it

pub begins_with : (old new : Option (List ℕ)) (line more : List ℕ) → AppendsPrefix old new line → AppendsPrefix old new (line ++ more)
begins_with old new line more h = (h.0, h.1 ++ more, ap (λ (l : List ℕ). l ++ more) h.2 ∙ append_assoc h.0 h.1 more, h.3)

pub goes_on_with : (old mid new : Option (List ℕ)) (line more : List ℕ) → Appends old mid line → AppendsPrefix mid new more → AppendsPrefix old new (line ++ more)
goes_on_with old mid new line more first h =
    (line ++ h.0, h.1, ap (λ (m : List ℕ). line ++ m) h.2 ∙ sym (append_assoc line h.0 h.1), Appends-trans old mid new line h.0 first h.3)
