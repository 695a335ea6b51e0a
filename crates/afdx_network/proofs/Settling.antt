-- What has left the switches goes to the files of their ports, a switch after the other.
use Rattle.std.proofs.Common.{◌≡◌, ◌≤◌, ◌+◌, ◌-◌, ℕ, zero, suc, List, [], ◌∷◌, ◌++◌, length, map, take, drop, set, slice_get, Option, Some, refl, ap, sym, ◌∙◌, arith, subst, append_assoc}
use Rattle.std.specs.List.{AllZip}
use Rattle.std.proofs.lemmas.List.{append-nil, length-append, length-map}
use Rattle.std.proofs.lemmas.Option.{same_Some}
use borrow.Rule.Slice.PartMut.{same_len_mid}
use Rattle.afdx_count.specs.Tally.{Tally}
use Rattle.afdx_count.specs.Run.{counts_of}
use Rattle.afdx_session.specs.Texts.{Text}
use Rattle.afdx_session.specs.Output.{rows_of}
use Rattle.afdx_paced.specs.Paced.{arrivals}
use Rattle.afdx_network.specs.Inner.Outputs.{HaveGone}
use Rattle.afdx_network.specs.Inner.Sites.{Site, HandsOver, gone_of, texts_of, counts_at}
use Rattle.afdx_network.proofs.Handed.{have_middle}

-- ---- one switch of all

taken_long : (sites : List Site) (k : ℕ) (s new : Site) → slice_get sites k ≡ Some s → gone_of (take (suc k) (set sites k new)) ≡ gone_of (take k sites) ++ new.gone
taken_long [] k s new is = absurd cc
taken_long (x ∷ sites) zero s new is = append-nil new.gone
taken_long (x ∷ sites) (suc k) s new is =
    ap (λ (all : List (List ℕ)). x.gone ++ all) (taken_long sites k s new is) ∙ sym (append_assoc x.gone (gone_of (take k sites)) new.gone)

gone_split : (sites : List Site) (k : ℕ) (s : Site) → slice_get sites k ≡ Some s → gone_of sites ≡ gone_of (take k sites) ++ (s.gone ++ gone_of (drop (suc k) sites))
gone_split [] k s is = absurd cc
gone_split (x ∷ sites) zero s is = ap (λ (y : Site). y.gone ++ gone_of sites) (same_Some x s is)
gone_split (x ∷ sites) (suc k) s is =
    ap (λ (all : List (List ℕ)). x.gone ++ all) (gone_split sites k s is) ∙ sym (append_assoc x.gone (gone_of (take k sites)) (s.gone ++ gone_of (drop (suc k) sites)))

gone_set : (sites : List Site) (k : ℕ) (s new : Site) → slice_get sites k ≡ Some s → gone_of (set sites k new) ≡ gone_of (take k sites) ++ (new.gone ++ gone_of (drop (suc k) sites))
gone_set [] k s new is = absurd cc
gone_set (x ∷ sites) zero s new is = refl
gone_set (x ∷ sites) (suc k) s new is =
    ap (λ (all : List (List ℕ)). x.gone ++ all) (gone_set sites k s new is) ∙ sym (append_assoc x.gone (gone_of (take k sites)) (new.gone ++ gone_of (drop (suc k) sites)))

same_site : (s : Site) → HandsOver s s
same_site s = record { paced = refl; left = refl; next = refl; long = refl }

zip_same : (sites : List Site) → AllZip HandsOver sites sites
zip_same [] = tt
zip_same (s ∷ sites) = (same_site s, zip_same sites)

hands_then : (a b c : Site) → HandsOver a b → HandsOver b c → HandsOver a c
hands_then a b c one other = record { paced = other.paced ∙ one.paced; left = other.left ∙ one.left; next = other.next ∙ one.next; long = other.long ∙ one.long }

zip_set : (old now : List Site) (k : ℕ) (s new : Site) → AllZip HandsOver old now → slice_get now k ≡ Some s → HandsOver s new → AllZip HandsOver old (set now k new)
zip_set [] [] k s new zip is on = absurd cc
zip_set [] (y ∷ now) k s new zip is on = absurd zip
zip_set (x ∷ old) [] k s new zip is on = absurd zip
zip_set (x ∷ old) (y ∷ now) zero s new zip is on = (hands_then x y new zip.0 (subst (λ (z : Site). HandsOver z new) (sym (same_Some y s is)) on), zip.1)
zip_set (x ∷ old) (y ∷ now) (suc k) s new zip is on = (zip.0, zip_set old now k s new zip.1 is on)

-- those of the switches before a place have gone
pub record AreGone {F : Type 0} (contents : F → Option (List ℕ)) (old now : List Site) (before files : List F) (k first : ℕ) : Type 0 where
  pub zip : AllZip HandsOver old now
  pub start_is : first ≡ length (gone_of (take k now))
  pub many : length files ≡ length (gone_of now)
  pub gone : (start : List F) → HaveGone contents start before (gone_of old) → HaveGone contents start files (gone_of now)

pub none_gone : {F : Type 0} (contents : F → Option (List ℕ)) (old : List Site) (before : List F) → length before ≡ length (gone_of old) → AreGone contents old old before before 0 0
none_gone contents old before same = record { zip = zip_same old; start_is = refl; many = same; gone = λ start have. have }

-- the files of the next switch are there
pub room_for : {F : Type 0} (contents : F → Option (List ℕ)) (old now : List Site) (before files : List F) (k first : ℕ) (s : Site) → AreGone contents old now before files k first
    → slice_get now k ≡ Some s
    → first + length s.gone ≤ length files
room_for contents old now before files k first s a at =
    let is = a.start_is in let same = a.many in
    omega (
      arith,
      is,
      same,
      ap (λ (all : List (List ℕ)). length all) (gone_split now k s at),
      length-append (gone_of (take k now)) (s.gone ++ gone_of (drop (suc k) now)),
      length-append s.gone (gone_of (drop (suc k) now)),
    )

pub one_gone : {F : Type 0} (contents : F → Option (List ℕ)) (old now : List Site) (before files middle : List F) (k first next : ℕ) (s new : Site) → AreGone contents old now before files k first
    → slice_get now k ≡ Some s → HandsOver s new → next ≡ first + length s.gone → length middle ≡ length (take (next - first) (drop first files))
    → ((start : List F) → HaveGone contents start (take (next - first) (drop first files)) s.gone → HaveGone contents start middle new.gone)
    → AreGone contents old (set now k new) before (take first files ++ (middle ++ drop (next - first) (drop first files))) (k + 1) next
one_gone {F} contents old now before files middle k first next s new a at on count long more = record {
  zip = zip_set old now k s new a.zip at on;
  start_is =
      let is = a.start_is in
      let same = on.long in
      omega (
        arith,
        is,
        count,
        same,
        ap (λ n. length (gone_of (take n (set now k new)))) (number k),
        ap (λ (all : List (List ℕ)). length all) (taken_long now k s new at),
        length-append (gone_of (take k now)) new.gone,
      );
  many = same_len_mid first (next - first) files middle long ∙ a.many ∙ sym total;
  gone = λ start have.
      let was = a.gone start have in
      subst (HaveGone contents start (take first files ++ (middle ++ drop (next - first) (drop first files)))) (sym (gone_set now k s new at))
      (have_middle contents start files middle (gone_of (take k now)) s.gone new.gone (gone_of (drop (suc k) now)) first (next - first) a.start_is (omega (arith, count)) on.long
      (sym was.long ∙ a.many ∙ ap (λ (all : List (List ℕ)). length all) (gone_split now k s at)) (subst (HaveGone contents start files) (gone_split now k s at) was) more);
} where
  number : (n : ℕ) → n + 1 ≡ suc n
  number n = omega arith

  total : length (gone_of (set now k new)) ≡ length (gone_of now)
  total =
      let same = on.long in
      omega (
        arith,
        same,
        ap (λ (all : List (List ℕ)). length all) (gone_set now k s new at),
        ap (λ (all : List (List ℕ)). length all) (gone_split now k s at),
        length-append (gone_of (take k now)) (new.gone ++ gone_of (drop (suc k) now)),
        length-append (gone_of (take k now)) (s.gone ++ gone_of (drop (suc k) now)),
        length-append new.gone (gone_of (drop (suc k) now)),
        length-append s.gone (gone_of (drop (suc k) now)),
      )

-- ---- to the end

texts_more : (sites : List Site) (s : Site) → texts_of (sites ++ s ∷ []) ≡ texts_of sites ++ map (λ (text : Text). text.1) s.left
texts_more [] s = append-nil (map (λ (text : Text). text.1) s.left)
texts_more (x ∷ sites) s =
    ap (λ (all : List (List ℕ)). map (λ (text : Text). text.1) x.left ++ all) (texts_more sites s)
    ∙ sym (append_assoc (map (λ (text : Text). text.1) x.left) (texts_of sites) (map (λ (text : Text). text.1) s.left))

-- all has gone of these, and of the rest what had
pub record AreSettled {F : Type 0} (contents : F → Option (List ℕ)) (all done rest : List Site) (before files : List F) (first : ℕ) : Type 0 where
  pub start_is : first ≡ length (texts_of done)
  pub many : length files ≡ length (texts_of done ++ gone_of rest)
  pub gone : (start : List F) → HaveGone contents start before (gone_of all) → HaveGone contents start files (texts_of done ++ gone_of rest)

pub none_settled : {F : Type 0} (contents : F → Option (List ℕ)) (all rest : List Site) (before : List F) → rest ≡ all → length before ≡ length (gone_of all)
    → AreSettled contents all [] rest before before 0
none_settled contents all rest before is same = record {
  start_is = refl;
  many = same ∙ ap (λ (sites : List Site). length (gone_of sites)) (sym is);
  gone = λ start have. subst (λ (sites : List Site). HaveGone contents start before (gone_of sites)) (sym is) have;
}

pub room_to : {F : Type 0} (contents : F → Option (List ℕ)) (all done rest : List Site) (before files : List F) (first : ℕ) (s : Site) → AreSettled contents all done (s ∷ rest) before files first
    → first + length s.gone ≤ length files
room_to contents all done rest before files first s a =
    let is = a.start_is in let same = a.many in omega (arith, is, same, length-append (texts_of done) (s.gone ++ gone_of rest), length-append s.gone (gone_of rest))

pub one_settled : {F : Type 0} (contents : F → Option (List ℕ)) (all done rest : List Site) (before files middle : List F) (first next : ℕ) (s : Site)
    → AreSettled contents all done (s ∷ rest) before files first
    → next ≡ first + length s.gone → next ≡ first + length s.left → length middle ≡ length (take (next - first) (drop first files))
    → ((start : List F) → HaveGone contents start (take (next - first) (drop first files)) s.gone → HaveGone contents start middle (map (λ (text : Text). text.1) s.left))
    → AreSettled contents all (done ++ s ∷ []) rest before (take first files ++ (middle ++ drop (next - first) (drop first files))) next
one_settled {F} contents all done rest before files middle first next s a count number long more = record {
  start_is =
      let is = a.start_is in
      omega (arith, is, number, ap (λ (items : List (List ℕ)). length items) (texts_more done s), length-append (texts_of done) new, length-map s.left (λ (text : Text). text.1));
  many =
      let same = a.many in
      same_len_mid first (next - first) files middle long
      ∙ omega (
        arith,
        same,
        count,
        number,
        ap (λ (items : List (List ℕ)). length items) parts,
        length-append (texts_of done) (s.gone ++ gone_of rest),
        length-append s.gone (gone_of rest),
        length-append (texts_of done) (new ++ gone_of rest),
        length-append new (gone_of rest),
        length-map s.left (λ (text : Text). text.1),
      );
  gone = λ start have.
      let was = a.gone start have in
      subst (HaveGone contents start (take first files ++ (middle ++ drop (next - first) (drop first files)))) (sym parts)
      (have_middle contents start files middle (texts_of done) s.gone new (gone_of rest) first (next - first) a.start_is (omega (arith, count)) same_count (sym was.long ∙ a.many) was more);
} where
  new : List (List ℕ)
  new = map (λ (text : Text). text.1) s.left

  same_count : length new ≡ length s.gone
  same_count = omega (arith, count, number, length-map s.left (λ (text : Text). text.1))

  parts : texts_of (done ++ s ∷ []) ++ gone_of rest ≡ texts_of done ++ (new ++ gone_of rest)
  parts = ap (λ (items : List (List ℕ)). items ++ gone_of rest) (texts_more done s) ∙ append_assoc (texts_of done) new (gone_of rest)

counts_last : (done : List Site) (s : Site) → counts_at (done ++ s ∷ []) ≡ counts_at done ++ counts_at (s ∷ [])
counts_last [] s = refl
counts_last (x ∷ done) s = ap (λ (all : List Tally). counts_of x.paced.table (rows_of x.paced.table (arrivals x.paced)) ∷ all) (counts_last done s)

pub counts_more : (done : List Site) (s : Site) (counts : List Tally) (one : Tally) → counts ≡ counts_at done → one ≡ counts_of s.paced.table (rows_of s.paced.table (arrivals s.paced))
    → counts ++ one ∷ [] ≡ counts_at (done ++ s ∷ [])
counts_more done s counts one are is = ap (λ (all : List Tally). all ++ one ∷ []) are ∙ ap (λ (x : Tally). counts_at done ++ x ∷ []) is ∙ sym (counts_last done s)
