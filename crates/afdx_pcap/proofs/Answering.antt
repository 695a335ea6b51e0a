-- What is answered of the same bytes is the same.
use Rattle.std.proofs.Common.{◌≡◌, ℕ, ◌+◌, ◌≢◌, Bool, true, false, List, [], ◌∷◌, ◌++◌, length, drop, Option, Some, None, Result, Ok, Err, refl, sym, ap, ◌∙◌, length-append}
use Rattle.std.proofs.lemmas.List.{drop_at}
use Rattle.afdx_pcap.specs.declared.fault.PcapFault.{PcapFault}
use Rattle.afdx_pcap.specs.declared.fault.PcapFault.TheVariants.{Memory}
use Rattle.afdx_pcap.specs.Record.{Record}
use Rattle.afdx_pcap.specs.Reading.{Answers, IsNext, IsSound, IsWrong}
use Rattle.afdx_pcap.proofs.Unique.{one_prefix, one_file_fault, capture_or_fault}

abbrev refused : PcapFault → Result (Option Record) PcapFault
refused e = Err e

same_last : (rs qs : List Record) (r q : Record) → length rs ≡ length qs → rs ++ r ∷ [] ≡ qs ++ q ∷ [] → r ≡ q
same_last rs qs r q count same =
    let one : r ∷ [] ≡ q ∷ [] = sym (drop_at rs (r ∷ []) (length rs) refl) ∙ ap (drop (length rs)) same ∙ drop_at qs (q ∷ []) (length rs) (sym count) in
    cc

one_next : (bytes : List ℕ) (n : ℕ) (r q : Record) → IsNext bytes n r → IsNext bytes n q → r ≡ q
one_next bytes n r q a b =
    let count = a.3 ∙ sym b.3 in
    let counts = length-append a.0 (r ∷ []) ∙ ap (λ (k : ℕ). k + 1) count ∙ sym (length-append b.0 (q ∷ [])) in
    same_last a.0 b.0 r q count (one_prefix bytes a.1 b.1 (a.0 ++ r ∷ []) (b.0 ++ q ∷ []) a.2 b.2 counts)

one_wrong : (bytes : List ℕ) (closed : Bool) (d e : PcapFault) → IsWrong bytes closed d → IsWrong bytes closed e → d ≡ e
one_wrong bytes true d e a b = one_file_fault bytes d e a b
one_wrong bytes false d e a b = one_file_fault bytes d e a.0 b.0

sound_or_wrong : (bytes : List ℕ) (n : ℕ) (closed : Bool) (e : PcapFault) → IsSound bytes n closed → IsWrong bytes closed e → ⊥
sound_or_wrong bytes n true e a b = capture_or_fault bytes a.0 e a.1 b
sound_or_wrong bytes n false e a b = a e b

real : (e : PcapFault) → refused e ≢ refused Memory → e ≢ Memory
real e other same = other (ap refused same)

pub one_answer : (bytes : List ℕ) (n : ℕ) (closed : Bool) (a b : Result (Option Record) PcapFault) → Answers bytes n closed a → Answers bytes n closed b
    → a ≢ Err Memory → b ≢ Err Memory → a ≡ b
one_answer bytes n closed (Ok (Some r)) (Ok (Some q)) x y ra rb = let same = one_next bytes n r q x y in cc
one_answer bytes n closed (Ok (Some r)) (Ok None) x y ra rb = absurd (y.0 r x)
one_answer bytes n closed (Ok (Some r)) (Err e) x y ra rb = absurd ((y (real e rb)).0 r x)
one_answer bytes n closed (Ok None) (Ok (Some q)) x y ra rb = absurd (x.0 q y)
one_answer bytes n closed (Ok None) (Ok None) x y ra rb = refl
one_answer bytes n closed (Ok None) (Err e) x y ra rb = absurd (sound_or_wrong bytes n closed e x.1 (y (real e rb)).1)
one_answer bytes n closed (Err d) (Ok (Some q)) x y ra rb = absurd ((x (real d ra)).0 q y)
one_answer bytes n closed (Err d) (Ok None) x y ra rb = absurd (sound_or_wrong bytes n closed d y.1 (x (real d ra)).1)
one_answer bytes n closed (Err d) (Err e) x y ra rb = ap refused (one_wrong bytes closed d e (x (real d ra)).1 (y (real e rb)).1)
