-- New files that are begun, written and put.
use Rattle.std.proofs.Common.{◌≡◌, ℕ, zero, suc, ◌+◌, ◌<◌, List, [], ◌∷◌, ◌++◌, length, take, drop, get_or, slice_get, min, Option, Some, None, refl, ap, subst, sym, ◌∙◌, arith}
use Rattle.std.specs.Prelude.{IfSome}
use Rattle.std.specs.Io.KnownBytes.{Appends}
use Rattle.std.proofs.Math.Seq.{take-append_seam}
use Rattle.std.proofs.lemmas.List.{length-take, take_more}
use Rattle.std.proofs.lemmas.Option.{same_Some, slice_get-get_or, slice_get_within, get_or_from_slice_get}
use Rattle.afdx_session.specs.Texts.{Text}
use Rattle.afdx_session.specs.Written.{AreAppended}
use Rattle.afdx_folder.specs.Files.{Files, KeepsFiles, PutsFile, PutsFiles, DeviceLog, one_settled, settled_after}
use Rattle.afdx_serve.specs.Runs.{bytes_of_captures}
use Rattle.afdx_serve.specs.Inner.Outputs.{AreEmpty, HaveBytes}
use Rattle.afdx_serve.proofs.FileLemmas.{one_more_put}

-- what holds of each element of a list and of one more
pushed : {N : Type 0} (P : N → Type 0) (files : List N) (new : N) → ((place : ℕ) (n : N) → slice_get files place ≡ Some n → P n) → P new → (place : ℕ) (n : N)
    → slice_get (files ++ new ∷ []) place ≡ Some n
    → P n
pushed P [] new was one zero n is = subst P (same_Some new n is) one
pushed P [] new was one (suc place) n is = absurd cc
pushed P (x ∷ files) new was one zero n is = was zero n is
pushed P (x ∷ files) new was one (suc place) n is = pushed P files new (λ p m at. was (suc p) m at) one place n is

-- one more new file was begun
pub empty_push : {N : Type 0} (contents : N → Option (List ℕ)) (a b : Option Files) (files : List N) (new : N) → KeepsFiles a b → AreEmpty contents a files → IfSome b (λ _. contents new ≡ Some [])
    → AreEmpty contents a (files ++ new ∷ [])
empty_push contents None b files new keeps was one = tt
empty_push contents (Some f) None files new keeps was one = absurd keeps
empty_push contents (Some f) (Some g) files new keeps was one = pushed (λ n. contents n ≡ Some []) files new was one

-- ---- they are written

-- the text whose bytes are at a place
text_of : (texts : List Text) (place : ℕ) (bytes : List ℕ) → slice_get (bytes_of_captures texts) place ≡ Some bytes → (text : Text) × (slice_get texts place ≡ Some text) × (text.1 ≡ bytes)
text_of [] place bytes is = absurd cc
text_of (x ∷ texts) zero bytes is = (x, refl, same_Some x.1 bytes is)
text_of (x ∷ texts) (suc place) bytes is = text_of texts place bytes is

to_none : (new : Option (List ℕ)) (bytes : List ℕ) → Appends (Some []) new bytes → new ≡ Some bytes
to_none None bytes appended = absurd appended
to_none (Some all) bytes appended = ap (λ (xs : List ℕ). Some xs) appended

-- a list that was lent as a whole
pub written_back : {X : Type 0} (old new : List X) (len : ℕ) → len ≡ length new → take len (new ++ drop (length new) old) ≡ new
written_back old new len same = ap (λ n. take n (new ++ drop (length new) old)) same ∙ take-append_seam new (drop (length new) old)

-- what was appended to new files is what they have
pub have_bytes : {N : Type 0} (contents : N → Option (List ℕ)) (a b : Option Files) (old new : List N) (texts : List Text) → KeepsFiles a b → AreEmpty contents b old
    → AreAppended contents old new texts → HaveBytes contents a new (bytes_of_captures texts)
have_bytes contents None b old new texts keeps empty appended = tt
have_bytes contents (Some f) None old new texts keeps empty appended = absurd keeps
have_bytes contents (Some f) (Some g) old new texts keeps empty appended = λ place n bytes is_new is_bytes.
    let lt = slice_get_within new place n is_new in
    let long = appended.0 in
    let was = get_or old place n in
    let was_is : slice_get old place ≡ Some was = slice_get-get_or old place n (omega (arith, lt, long)) in
    let text = text_of texts place bytes is_bytes in
    let grown = subst (λ (k : Option (List ℕ)). Appends k (contents n) text.0.1) (empty place was was_is) (appended.1 place was n text.0 was_is is_new text.1) in
    to_none (contents n) bytes (subst (Appends (Some []) (contents n)) text.2 grown)

-- ---- the device takes them

-- so many, and one more
pub one_more_settled : (i : ℕ) (first before after : DeviceLog) → before ≡ settled_after i first → after ≡ one_settled before → after ≡ settled_after (i + 1) first
one_more_settled i first before after was one =
    let more : i + 1 ≡ suc i = omega arith in
    one ∙ ap one_settled was ∙ ap (λ (n : ℕ). settled_after n first) (sym more)

-- what holds of each place of a list and of the one after it
pushed_at : {N : Type 0} (P : ℕ → N → Type 0) (files : List N) (new : N) → ((place : ℕ) (n : N) → slice_get files place ≡ Some n → P place n) → P (length files) new → (place : ℕ) (n : N)
    → slice_get (files ++ new ∷ []) place ≡ Some n
    → P place n
pushed_at P [] new was one zero n is = subst (P zero) (same_Some new n is) one
pushed_at P [] new was one (suc place) n is = absurd cc
pushed_at P (x ∷ files) new was one zero n is = was zero n is
pushed_at P (x ∷ files) new was one (suc place) n is = pushed_at (λ k m. P (suc k) m) files new (λ k m at. was (suc k) m at) one place n is

-- one more, of the new files of a run, was taken as it was
pub taken_push : {N : Type 0} (contents : N → Option (List ℕ)) (a : Option Files) (files settled : List N) (new taken : N) (all : List (List ℕ)) → HaveBytes contents a files all
    → HaveBytes contents a settled all → slice_get files (length settled) ≡ Some new → contents taken ≡ contents new → HaveBytes contents a (settled ++ taken ∷ []) all
taken_push contents None files settled new taken all has was is same = tt
taken_push contents (Some f) files settled new taken all has was is same = λ place n bytes is_new is_bytes.
    pushed_at (λ (k : ℕ) m. (b : List ℕ) → slice_get all k ≡ Some b → contents m ≡ Some b) settled taken (λ k m at b there. was k m b at there) (λ b there. same ∙ has (length settled) new b is there)
    place n is_new bytes is_bytes

-- one more, of a text, was taken
pub text_push : {N : Type 0} (contents : N → Option (List ℕ)) (a b : Option Files) (settled : List N) (taken : N) (all : List (List ℕ)) (text : List ℕ) → KeepsFiles a b
    → HaveBytes contents a settled all → slice_get all (length settled) ≡ Some text → IfSome b (λ _. contents taken ≡ Some text) → HaveBytes contents a (settled ++ taken ∷ []) all
text_push contents None b settled taken all text keeps was is has = tt
text_push contents (Some f) None settled taken all text keeps was is has = absurd keeps
text_push contents (Some f) (Some g) settled taken all text keeps was is has = λ place n bytes is_new is_bytes.
    pushed_at (λ (k : ℕ) m. (x : List ℕ) → slice_get all k ≡ Some x → contents m ≡ Some x) settled taken (λ k m at x there. was k m x at there) (λ x there. has ∙ sym is ∙ there)
    place n is_new bytes is_bytes

-- ---- they are put

-- the next of the elements that are left
next_of : {N : Type 0} (files : List N) (i : ℕ) (new : N) (rest : List N) → drop i files ≡ new ∷ rest → (slice_get files i ≡ Some new) × (drop (suc i) files ≡ rest)
next_of [] zero new rest is = absurd cc
next_of [] (suc i) new rest is = absurd cc
next_of (x ∷ files) zero new rest is = (ap (λ xs. slice_get xs 0) is, ap (drop 1) is)
next_of (x ∷ files) (suc i) new rest is = next_of files i new rest is

pub next_left : {N : Type 0} (files : List N) (i : ℕ) (new : N) (rest : List N) → drop i files ≡ new ∷ rest → (slice_get files i ≡ Some new) × (drop (i + 1) files ≡ rest)
next_left files i new rest is =
    let more : i + 1 ≡ suc i = omega arith in
    let next = next_of files i new rest is in
    (next.0, ap (λ n. drop n files) more ∙ next.1)

take_next : {X : Type 0} (xs : List X) (i : ℕ) (x : X) → slice_get xs i ≡ Some x → take (i + 1) xs ≡ take i xs ++ x ∷ []
take_next xs i x is = take_more xs i x (slice_get_within xs i x is) ∙ ap (λ y. take i xs ++ y ∷ []) (get_or_from_slice_get xs i x x is)

-- one more was put
pub put_next : {N : Type 0} (contents : N → Option (List ℕ)) (first b c : Option Files) (files : List N) (names all : List (List ℕ)) (i : ℕ) (new : N) (name : List ℕ) → slice_get files i ≡ Some new
    → slice_get names i ≡ Some name → length all ≡ length names → HaveBytes contents first files all → PutsFiles first b (take i names) (take i all)
    → IfSome (contents new) (λ bytes. PutsFile b c name bytes)
    → PutsFiles first c (take (i + 1) names) (take (i + 1) all)
put_next contents None b c files names all i new name is_new is_name same has before put = tt
put_next contents (Some f) b c files names all i new name is_new is_name same has before put =
    let lt : i < length all = let within = slice_get_within names i name is_name in omega (arith, same, within) in
    let is_bytes : slice_get all i ≡ Some (get_or all i []) = slice_get-get_or all i [] lt in
    let one = subst (λ (o : Option (List ℕ)). IfSome o (λ bytes. PutsFile b c name bytes)) (has i new (get_or all i []) is_new is_bytes) put in
    let lengths : length (take i names) ≡ length (take i all) = length-take i names ∙ ap (min i) (sym same) ∙ sym (length-take i all) in
    rw (take_next names i name is_name, take_next all i (get_or all i []) is_bytes) (one_more_put (Some f) b c (take i names) (take i all) name (get_or all i []) lengths before one)
