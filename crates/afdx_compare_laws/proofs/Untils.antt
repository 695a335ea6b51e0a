-- That nothing leaves any more before an instant changes nothing of what is told of an output port, but when.
use Rattle.std.proofs.Common.{◌≡◌, ℕ, ◌≤◌, Bool, List, ◌++◌, Option, sym, ap, ◌∙◌, arith}
use Rattle.std.proofs.lemmas.List.{append_assoc}
use Rattle.afdx_pairing.specs.declared.event.Event.{Event}
use Rattle.afdx_pairing.specs.Events.{Numbered}
use Rattle.afdx_pairing.specs.Limits.{left_at}
use Rattle.afdx_pairing.specs.Pairing.{Pairing, with_frame, kept_at, partner, paired, pairing_told, gone_told, end_told}
use Rattle.afdx_pairing.specs.Kept.{Left, Until}
use Rattle.afdx_following.specs.Output.{Found, Output, with_told, with_came, with_sight, last_at, with_end}
use Rattle.afdx_following.proofs.Counting.{told_more}
use Rattle.afdx_compare_laws.specs.Fine.{IsByEnd}
use Rattle.afdx_compare_laws.proofs.Ending.{later_of}
use Rattle.afdx_compare_laws.proofs.Gone.{kept_again, gone_again, frame_kept, frame_gone, gone_by_end}

-- after an instant and another it is as after the later one
pub until_again : (a b : ℕ) (o : Output) → with_sight (Until b) (with_sight (Until a) o) ≡ with_sight (Until (later_of a b)) o
until_again a b o =
    let p = o.pairing in
    let more = gone_told b (kept_at a p) in
    ap (λ (q : Pairing). record o { pairing = q; found = with_told more (with_told (gone_told a p) o.found) }) (kept_again a b p)
    ∙ ap (λ (f : Found). record o { pairing = kept_at (later_of a b) p; found = f })
    (sym (told_more (gone_told a p) more o.found) ∙ ap (λ (es : List Event). with_told es o.found) (sym (gone_again a b p)))

-- a frame that comes no sooner may as well come first
pub came_first : (at : ℕ) (n : Numbered) (passes : Bool) (o : Output) → at ≤ n.frame.stamp
    → with_came n passes (with_sight (Until at) o) ≡ with_sight (Until at) (with_came n passes o)
came_first at n passes o le =
    let p = o.pairing in
    ap (λ (q : Pairing). record o { pairing = q; found = with_told (gone_told at p) o.found }) (frame_kept at p n passes le)
    ∙ ap (λ (es : List Event). record o { pairing = kept_at at (with_frame p n passes); found = with_told es o.found }) (sym (frame_gone at p n passes le))

-- a record that leaves no sooner tells it anyway
pub left_anyway : (at : ℕ) (n : Numbered) (o : Output) → at ≤ left_at o.pairing.limits n.frame → with_sight (Left n) (with_sight (Until at) o) ≡ with_sight (Left n) o
left_anyway at n o le =
    let p = o.pairing in
    let now = left_at p.limits n.frame in
    let later : later_of at now ≡ now = omega (arith, le) in
    let same : kept_at now (kept_at at p) ≡ kept_at now p = kept_again at now p ∙ ap (λ (i : ℕ). kept_at i p) later in
    let gone = gone_told at p in
    let more = gone_told now (kept_at at p) in
    let all : gone ++ more ≡ gone_told now p = sym (gone_again at now p) ∙ ap (λ (i : ℕ). gone_told i p) later in
    let told = pairing_told (partner (kept_at now p) n.frame) (kept_at now p) n in
    ap (λ (q : Pairing). record o { pairing = paired (partner q n.frame) q; found = with_told (more ++ pairing_told (partner q n.frame) q n) (with_told gone o.found) }) same
    ∙ ap (λ (f : Found). record o { pairing = paired (partner (kept_at now p) n.frame) (kept_at now p); found = f })
    (sym (told_more gone (more ++ told) o.found)
    ∙ ap (λ (es : List Event). with_told es o.found) (sym (append_assoc gone more told) ∙ ap (λ (es : List Event). es ++ told) all))

-- and so does the end, if the instant is at most a bound past it
pub ended_anyway : (last : Option ℕ) (at : ℕ) (o : Output) → IsByEnd o.pairing.limits (last_at o.limits last) at
    → (with_end last (with_sight (Until at) o)).found ≡ (with_end last o).found
ended_anyway last at o by =
    let p = o.pairing in
    let end = last_at o.limits last in
    sym (told_more (gone_told at p) (end_told (kept_at at p) end) o.found) ∙ ap (λ (es : List Event). with_told es o.found) (sym (gone_by_end end at p by))
