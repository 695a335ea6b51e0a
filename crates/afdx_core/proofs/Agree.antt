-- What a port is offered of a link is what the link's policing passes of its own frames.
use Rattle.std.proofs.Common.{◌≡◌, ℕ, ◌==◌, Bool, true, false, cond, ◌&&◌, List, [], ◌∷◌, ◌++◌, map, filter, Option, Some, None, refl, ap, sym, ◌∙◌, arith, append_assoc}
use Rattle.std.proofs.lemmas.List.{append-nil, map-append}
use Rattle.std.proofs.lemmas.List.Elements.{filter-append}
use Rattle.std.proofs.lemmas.Bool.Decides.{nat_tests}
use Rattle.std.proofs.lemmas.List.Folds.{find_at}
use Rattle.std.proofs.lemmas.List.Sums.{passes_at_first}
use Rattle.std.proofs.lemmas.Option.{gets}
use Rattle.std.proofs.lemmas.Bool.{eqb-true}
use Rattle.afdx_table.specs.Link.{Link, leads_to}
use Rattle.afdx_table.specs.Content.{Content, link_row}
use Rattle.afdx_filter.specs.declared.outcome.Verdict.{Verdict}
use Rattle.afdx_filter.specs.declared.outcome.Verdict.TheVariants.{Cut, Short, Long, Foreign, NoLink, WrongPort, TooBig, Clean}
use Rattle.afdx_account.specs.Policing.{conforms, passed_frames}
use Rattle.afdx_account.specs.Inner.Laws.{NextFrameJoinsWhereItConforms}
use Rattle.afdx_port.specs.declared.Item.{Item}
use Rattle.afdx_load.specs.Load.{terms_of}
use Rattle.afdx_core.specs.declared.step.Row.{Row}
use Rattle.afdx_core.specs.Rows.{frame_of_row, account_frames, says_clean, passes, named, copy_of, copies_by, copies, each_after, feed_of}
use Rattle.afdx_isolation.specs.Arrivals.{frame_of_item}
use Rattle.afdx_core.specs.Inner.Agreement.{part_of}
use Rattle.afdx_core.proofs.Feeds.{account-same, account-other}

pub clean_true : (i : ℕ) (v : Verdict) → says_clean i v ≡ true → v ≡ Clean i
clean_true i (Clean j) is = ap Clean (sym (eqb-true i j is))
clean_true i Cut is = (cc)
clean_true i Short is = (cc)
clean_true i Long is = (cc)
clean_true i Foreign is = (cc)
clean_true i NoLink is = (cc)
clean_true i WrongPort is = (cc)
clean_true i TooBig is = (cc)

-- a copy of another link's frame is no part of this link's
other_by : (i j port : ℕ) (r : Option Link) (before : List Row) (row : Row) → (i == j) ≡ false → ((m : Link) → r ≡ Some m → (m.id == j) ≡ true) → part_of i (copies_by r port before row) ≡ []
other_by i j port None before row ne is = refl
other_by i j port (Some m) before row ne is = by_copy (passes m before row && leads_to port m) where
  differs : (a : ℕ) → (a == j) ≡ true → (a == i) ≡ false
  differs a e = grind (arith, nat_tests)

  by_copy : (b : Bool) → part_of i (cond b (copy_of m before row ∷ []) []) ≡ []
  by_copy true = ap (λ v. map frame_of_item (cond v (copy_of m before row ∷ []) [])) (differs m.id (is m refl))
  by_copy false = refl

others : (t : Content) (i port : ℕ) (before : List Row) (row : Row) (v : Verdict) → says_clean i v ≡ false → part_of i (copies_by (named t v) port before row) ≡ []
others t i port before row (Clean j) is =
    other_by i j port (link_row t j) before row is (λ m found. grind (arith, gets, find_at (λ (l : Link). l.id == j) t.links, passes_at_first (λ (l : Link). l.id == j) t.links m))
others t i port before row Cut is = refl
others t i port before row Short is = refl
others t i port before row Long is = refl
others t i port before row Foreign is = refl
others t i port before row NoLink is = refl
others t i port before row WrongPort is = refl
others t i port before row TooBig is = refl

-- of one more arrival, the port is offered what is passed
one_more : NextFrameJoinsWhereItConforms → (t : Content) (i port : ℕ) (l : Link) (before : List Row) (row : Row) → link_row t i ≡ Some l → leads_to port l ≡ true
    → passed_frames (terms_of l) (account_frames i (before ++ row ∷ [])) ≡ passed_frames (terms_of l) (account_frames i before) ++ part_of i (copies t port before row)
unfolding passes
one_more next t i port l before row found leads = by_clean (says_clean i row.verdict) refl where
  id : (l.id == i) ≡ true
  id = grind (arith, gets, found, find_at (λ (m : Link). m.id == i) t.links, passes_at_first (λ (m : Link). m.id == i) t.links l)

  by_pass : (b : Bool) → cond b (passed_frames (terms_of l) (account_frames i before) ++ frame_of_row row ∷ []) (passed_frames (terms_of l) (account_frames i before))
      ≡ passed_frames (terms_of l) (account_frames i before) ++ part_of i (cond (b && true) (copy_of l before row ∷ []) [])
  by_pass true = ap (λ v. passed_frames (terms_of l) (account_frames i before) ++ map frame_of_item (cond v (copy_of l before row ∷ []) [])) (sym id)
  by_pass false = sym (append-nil (passed_frames (terms_of l) (account_frames i before)))

  by_clean : (b : Bool) → says_clean i row.verdict ≡ b → passed_frames (terms_of l) (account_frames i (before ++ row ∷ [])) ≡ passed_frames (terms_of l) (account_frames i before)
      ++ part_of i (copies t port before row)
  by_clean true is =
      let clean = clean_true i row.verdict is in
      let copied : copies t port before row ≡ cond (conforms (terms_of l) (passed_frames (terms_of l) (account_frames i before)) (frame_of_row row) && true) (copy_of l before row ∷ []) [] =
      ap (λ v. copies_by (named t v) port before row) clean ∙ ap (λ m. copies_by m port before row) found
      ∙ ap (λ n. cond (conforms (terms_of l) (passed_frames (terms_of l) (account_frames n before)) (frame_of_row row) && leads_to port l) (copy_of l before row ∷ []) []) (eqb-true l.id i id)
      ∙ ap (λ v. cond (conforms (terms_of l) (passed_frames (terms_of l) (account_frames i before)) (frame_of_row row) && v) (copy_of l before row ∷ []) []) leads in
      ap (passed_frames (terms_of l)) (account-same i before row clean) ∙ next (terms_of l) (account_frames i before) (frame_of_row row)
      ∙ by_pass (conforms (terms_of l) (passed_frames (terms_of l) (account_frames i before)) (frame_of_row row))
      ∙ ap (λ items. passed_frames (terms_of l) (account_frames i before) ++ part_of i items) (sym copied)
  by_clean false is =
      ap (passed_frames (terms_of l)) (account-other i before row is) ∙ sym (append-nil (passed_frames (terms_of l) (account_frames i before)))
      ∙ ap (λ fs. passed_frames (terms_of l) (account_frames i before) ++ fs) (sym (others t i port before row row.verdict is))

part-append : (i : ℕ) (xs ys : List Item) → part_of i (xs ++ ys) ≡ part_of i xs ++ part_of i ys
part-append i xs ys = ap (map frame_of_item) (filter-append (λ (x : Item). x.link == i) xs ys)
    ∙ map-append frame_of_item (filter (λ (x : Item). x.link == i) xs) (filter (λ (x : Item). x.link == i) ys)

all_more : NextFrameJoinsWhereItConforms → (t : Content) (i port : ℕ) (l : Link) (before rows : List Row) → link_row t i ≡ Some l → leads_to port l ≡ true
    → passed_frames (terms_of l) (account_frames i before) ++ part_of i (each_after (copies t port) before rows) ≡ passed_frames (terms_of l) (account_frames i (before ++ rows))
all_more next t i port l before [] found leads = append-nil (passed_frames (terms_of l) (account_frames i before))
    ∙ ap (λ rs. passed_frames (terms_of l) (account_frames i rs)) (sym (append-nil before))
all_more next t i port l before (row ∷ rows) found leads =
    ap (λ fs. passed_frames (terms_of l) (account_frames i before) ++ fs) (part-append i (copies t port before row) (each_after (copies t port) (before ++ row ∷ []) rows))
    ∙ sym (append_assoc (passed_frames (terms_of l) (account_frames i before)) (part_of i (copies t port before row)) (part_of i (each_after (copies t port) (before ++ row ∷ []) rows)))
    ∙ ap (λ fs. fs ++ part_of i (each_after (copies t port) (before ++ row ∷ []) rows)) (sym (one_more next t i port l before row found leads))
    ∙ all_more next t i port l (before ++ row ∷ []) rows found leads
    ∙ ap (λ rs. passed_frames (terms_of l) (account_frames i rs)) (append_assoc before (row ∷ []) rows)

pub feed_is_passed : NextFrameJoinsWhereItConforms → (t : Content) (i port : ℕ) (l : Link) (rows : List Row) → link_row t i ≡ Some l → leads_to port l ≡ true → part_of i (feed_of t port rows)
    ≡ passed_frames (terms_of l) (account_frames i rows)
unfolding feed_of account_frames
feed_is_passed next t i port l rows found leads = all_more next t i port l [] rows found leads
