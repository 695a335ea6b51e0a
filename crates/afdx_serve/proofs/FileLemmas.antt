-- Files that stay, files that were got, and files that are put in order.
use Rattle.std.proofs.Common.{◌≡◌, ℕ, List, [], ◌∷◌, ◌++◌, map, length, Option, Some, None, refl, sym, ap, subst, ◌∙◌, arith}
use Rattle.std.proofs.lemmas.List.{map-append}
use Rattle.afdx_folder.specs.Files.{Files, with_file, with_files, Shows, ShowsAll, IsOpened, KeepsFiles, PutsFile, PutsFiles}

-- ---- files that stay

-- two folders with the same files
pub same_files : (f g : Files) → ((q : List ℕ) → g q ≡ f q) → g ≡ f
same_files f g p = λ j q. p q j

-- what holds of the files that are reported holds of them while they stay
carried : (P : Option Files → Type 0) (a b : Option Files) → P None → KeepsFiles a b → P b → P a
carried P None b none keeps p = none
carried P (Some f) None none keeps p = absurd keeps
carried P (Some f) (Some g) none keeps p = subst P (ap (λ (k : Files). Some k) (same_files f g keeps)) p

pub KeepsFiles-refl : (a : Option Files) → KeepsFiles a a
KeepsFiles-refl None = tt
KeepsFiles-refl (Some f) = λ q. refl

pub KeepsFiles-trans : (a b c : Option Files) → KeepsFiles a b → KeepsFiles b c → KeepsFiles a c
KeepsFiles-trans a b c first second = carried (λ k. KeepsFiles k c) a b tt first second

pub Shows-before : (a b : Option Files) (name bytes : List ℕ) → KeepsFiles a b → Shows b name bytes → Shows a name bytes
Shows-before a b name bytes keeps = carried (λ k. Shows k name bytes) a b tt keeps

pub PutsFiles-before : (a b c : Option Files) (names all : List (List ℕ)) → KeepsFiles a b → PutsFiles b c names all → PutsFiles a c names all
PutsFiles-before a b c names all keeps = carried (λ k. PutsFiles k c names all) a b tt keeps

pub ShowsAll-before : (a b : Option Files) (names all : List (List ℕ)) → KeepsFiles a b → ShowsAll b names all → ShowsAll a names all
ShowsAll-before a b names all keeps = carried (λ k. ShowsAll k names all) a b tt keeps

pub IsOpened-before : (a b : Option Files) (name : List ℕ) (remaining : Option (List ℕ)) → KeepsFiles a b → IsOpened b name remaining → IsOpened a name remaining
IsOpened-before a b name remaining keeps = carried (λ k. IsOpened k name remaining) a b tt keeps

-- ---- files that were got

pub ShowsAll-nil : (a : Option Files) → ShowsAll a [] []
ShowsAll-nil None = tt
ShowsAll-nil (Some f) = refl

pub ShowsAll-push : (a : Option Files) (names all : List (List ℕ)) (name bytes : List ℕ) → ShowsAll a names all → Shows a name bytes → ShowsAll a (names ++ name ∷ []) (all ++ bytes ∷ [])
ShowsAll-push None names all name bytes before one = tt
ShowsAll-push (Some f) names all name bytes before one =
    map-append f names (name ∷ []) ∙ ap (λ (l : List (Option (List ℕ))). l ++ f name ∷ []) before ∙ ap (λ (b : Option (List ℕ)). map (λ (x : List ℕ). Some x) all ++ b ∷ []) one
    ∙ sym (map-append (λ (x : List ℕ). Some x) all (bytes ∷ []))

-- ---- files that are put

with_files-push : (f : Files) (ns bs : List (List ℕ)) (n b : List ℕ) → length ns ≡ length bs → with_files f (ns ++ n ∷ []) (bs ++ b ∷ []) ≡ with_file (with_files f ns bs) n b
with_files-push f [] [] n b e = refl
with_files-push f (x ∷ ns) [] n b e = absurd (omega arith)
with_files-push f [] (y ∷ bs) n b e = absurd (omega arith)
with_files-push f (x ∷ ns) (y ∷ bs) n b e = with_files-push (with_file f x y) ns bs n b (omega arith)

-- one more file was put
pub one_more_put : (a b c : Option Files) (ns bs : List (List ℕ)) (n x : List ℕ) → length ns ≡ length bs → PutsFiles a b ns bs → PutsFile b c n x → PutsFiles a c (ns ++ n ∷ []) (bs ++ x ∷ [])
one_more_put None b c ns bs n x e p r = tt
one_more_put (Some f) None c ns bs n x e p r = absurd p
one_more_put (Some f) (Some g) None ns bs n x e p r = absurd r
one_more_put (Some f) (Some g) (Some h) ns bs n x e p r = λ q.
    r q ∙ ap (λ (k : Files). with_file k n x q) (same_files (with_files f ns bs) g p) ∙ ap (λ (k : Files). k q) (sym (with_files-push f ns bs n x e))
