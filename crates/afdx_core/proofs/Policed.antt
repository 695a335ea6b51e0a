-- Accounts agree with one more arrival.
use Rattle.std.proofs.Common.{◌≡◌, ◌≢◌, ℕ, ◌<◌, ◌≤◌, nat_eq, Bool, false, List, [], ◌∷◌, ◌++◌, length, map, set, get_or, slice_index_or, ap, sym, ◌∙◌, arith, ◌+◌, ◌-◌, subst, subst₂, ⊎_elim}
use Rattle.std.proofs.Common.{get_or-set_same, get_or-set_other}
use Rattle.std.specs.List.{IsDistinct}
use Rattle.std.proofs.lemmas.Map.Keys.{apart_from_distinct}
use Rattle.std.proofs.lemmas.List.{length-map, get_or-map, length-set, get_or_default, get_or_append_left, get_or-append_right}
use Rattle.std.proofs.lemmas.Bool.{cases_eq, cases_lt, ne_eqb}
use Rattle.std.proofs.lemmas.Bool.Decides.{nat_tests}
use Rattle.afdx_table.specs.Link.{Link}
use Rattle.afdx_filter.specs.declared.outcome.Verdict.TheVariants.{Clean}
use Rattle.afdx_account.specs.declared.frame.Frame.{Frame}
use Rattle.afdx_account.specs.Policing.{Terms, conforms, passed_frames}
use Rattle.afdx_account.specs.Level.{IsLevelAfter, PassesWhatConforms}
use Rattle.afdx_account.specs.Account.{account_terms, account_since, account_level}
use Rattle.afdx_account.specs.declared.account.Account.{Account}
use Rattle.afdx_load.specs.Load.{terms_of}
use Rattle.afdx_core.specs.declared.step.Row.{Row}
use Rattle.afdx_core.specs.Rows.{frame_of_row, account_frames, says_clean, passes}
use Rattle.afdx_core.specs.Kept.{AccountAgrees, AccountsAgree, Polices}
use Rattle.afdx_core.proofs.Feeds.{account-same, account-other}

-- what an account's offer of a row's frame is to say
abbrev pub Conforming : Bool → Row → Account → Account → Type 0
Conforming p row a b = PassesWhatConforms (account_terms a) (account_since a) (account_level a (account_since a)) row.stamp row.size p (account_level b row.stamp)

-- the account of the frame's link
policed_own : (l : Link) (a b : Account) (rows : List Row) (latest : ℕ) (row : Row) (p : Bool)
    → AccountAgrees l a rows latest → row.verdict ≡ Clean l.id → account_since b ≡ row.stamp → account_terms b ≡ account_terms a → Conforming p row a b
    → (p ≡ passes l rows row) × AccountAgrees l b (rows ++ row ∷ []) row.stamp
unfolding passes
policed_own l a b rows latest row p agrees clean since terms conforming =
    let before = subst (λ (t : Terms). IsLevelAfter t (account_since a) (account_level a (account_since a)) (account_frames l.id rows)) (sym agrees.terms) agrees.level in
    let both = conforming (account_frames l.id rows) before in (
      both.0 ∙ ap (λ (t : Terms). conforms t (passed_frames t (account_frames l.id rows)) (frame_of_row row)) agrees.terms,
      record {
        terms = terms ∙ agrees.terms;
        since = omega (arith, since);
        level = subst (λ (fs : List Frame). IsLevelAfter (terms_of l) (account_since b) (account_level b (account_since b)) fs) (sym (account-same l.id rows row clean))
            (subst (λ (n : ℕ). IsLevelAfter (terms_of l) n (account_level b n) (account_frames l.id rows ++ frame_of_row row ∷ [])) (sym since)
            (subst (λ (t : Terms). IsLevelAfter t row.stamp (account_level b row.stamp) (account_frames l.id rows ++ frame_of_row row ∷ [])) agrees.terms both.1));
      },
    )

-- the account of another link
policed_other : (l : Link) (a : Account) (rows : List Row) (latest : ℕ) (row : Row) (i : ℕ)
    → AccountAgrees l a rows latest → row.verdict ≡ Clean i → i ≢ l.id → latest ≤ row.stamp → AccountAgrees l a (rows ++ row ∷ []) row.stamp
policed_other l a rows latest row i agrees clean other le = record {
  terms = agrees.terms;
  since = omega (arith, agrees.since, le);
  level = rw (account-other l.id rows row (ap (says_clean l.id) clean ∙ ne_eqb l.id i (λ e. other (sym e)))) agrees.level;
}

-- links at two places have two numbers
other_link : (links : List Link) (place k : ℕ) (l m : Link) → IsDistinct nat_eq (map (λ (a : Link). a.id) links) → place < length links → k < length links → (k ≡ place → ⊥)
    → slice_index_or links place l ≡ l → l.id ≢ (slice_index_or links k m).id
other_link links place k l m distinct within klt ne at =
    ⊎_elim
    (λ lt. λ same. differ (id k) (id place) (apart_from_distinct nat_eq ids k place 0 distinct lt (omega (arith, long))) (id_at k m klt ∙ sym same ∙ sym (own_id)))
    (λ le. λ same. differ (id place) (id k) (apart_from_distinct nat_eq ids place k 0 distinct (omega arith) (omega (arith, long))) (own_id ∙ same ∙ sym (id_at k m klt)))
    (cases_lt k place) where
      ids : List ℕ
      ids = map (λ (a : Link). a.id) links

      id : ℕ → ℕ
      id j = get_or ids j 0

      long : length ids ≡ length links
      long = length-map links (λ (a : Link). a.id)

      id_at : (j : ℕ) (n : Link) → j < length links → id j ≡ (get_or links j n).id
      id_at j n lt = get_or-map (λ (a : Link). a.id) links j n 0 lt

      own_id : id place ≡ l.id
      own_id = id_at place l within ∙ ap (λ (x : Link). x.id) at

      differ : (a b : ℕ) → nat_eq a b ≡ false → a ≢ b
      differ a b apart same = grind (arith, nat_tests)

-- where no account is asked
pub unpoliced : (links : List Link) (rows : List Row) (latest : ℕ) (row : Row) (accounts : List Account)
    → ((k : ℕ) (l : Link) → k < length links → says_clean (slice_index_or links k l).id row.verdict ≡ false) → latest ≤ row.stamp
    → AccountsAgree links rows latest accounts → AccountsAgree links (rows ++ row ∷ []) row.stamp accounts
unpoliced links rows latest row accounts none le agree = record {
  len = agree.len;
  each = λ k l a lt. let s = agree.each k l a lt in record {
    terms = s.terms;
    since = omega (arith, s.since, le);
    level = rw (account-other (slice_index_or links k l).id rows row (none k l lt)) s.level;
  };
}

pub policed : (p : Bool) (row : Row) (place : ℕ) (old : List Account) (d b : Account) → place < length old
    → account_since b ≡ row.stamp → account_terms b ≡ account_terms (get_or old place d) → Conforming p row (get_or old place d) b → Polices p row place old (set old place b)
policed p row place old d b lt since terms conforming links rows latest l agree distinct within le at clean =
    let s = agree.each place l d within in
    let mine = rw at at s in
    let both = policed_own l (get_or old place d) b rows latest row p mine clean since terms conforming in (
      both.0,
      record {
        len = length-set old place b ∙ agree.len;
        each = λ k m e klt. ⊎_elim
            (λ same. subst (λ j. AccountAgrees (slice_index_or links j m) (slice_index_or (set old place b) j e) (rows ++ row ∷ []) row.stamp) (sym same)
            (rw (get_or-set_same old place b e lt, get_or_default links place m l within, at) both.1))
            (λ ne. rw (get_or-set_other old place k b e ne) (policed_other (slice_index_or links k m) (slice_index_or old k e) rows latest row l.id (agree.each k m e klt) clean
            (other_link links place k l m distinct within klt ne at) le))
            (cases_eq k place);
      },
    )

-- ---- full accounts

pub account_fresh : (l : Link) (a : Account) → account_terms a ≡ terms_of l → IsLevelAfter (terms_of l) 0 (account_level a 0) [] → account_since a ≡ 0 → AccountAgrees l a [] 0
unfolding account_frames
account_fresh l a terms full since = record {
  terms = terms;
  since = omega (arith, since);
  level = subst (λ (n : ℕ). IsLevelAfter (terms_of l) n (account_level a n) []) (sym since) full;
}

pub accounts-push : (links : List Link) (accounts : List Account) (i : ℕ) (item : Link) (a : Account) → i < length links → length accounts ≡ i → item ≡ get_or links i item → AccountAgrees item a [] 0
    → ((k : ℕ) (m : Link) (e : Account) → k < i → AccountAgrees (get_or links k m) (get_or accounts k e) [] 0)
    → (k : ℕ) (m : Link) (e : Account) → k < i + 1 → AccountAgrees (get_or links k m) (get_or (accounts ++ a ∷ []) k e) [] 0
accounts-push links accounts i item a lt len is new each k m e klt =
    ⊎_elim
    (λ before. subst (λ (x : Account). AccountAgrees (get_or links k m) x [] 0) (sym (get_or_append_left accounts (a ∷ []) e k (omega (arith, len)))) (each k m e before))
    (λ after.
    let same : k ≡ i = omega arith in
    let link : item ≡ get_or links k m = is ∙ get_or_default links i item m lt ∙ ap (λ j. get_or links j m) (sym same) in
    let account : a ≡ get_or (accounts ++ a ∷ []) k e = sym (get_or-append_right accounts (a ∷ []) i k e len (omega arith) ∙ ap (λ j. get_or (a ∷ []) j e) (at_zero k i same)) in
    subst₂ (λ (l : Link) (x : Account). AccountAgrees l x [] 0) link account new)
    (cases_lt k i) where
      at_zero : (k i : ℕ) → k ≡ i → k - i ≡ 0
      at_zero k i e = omega (arith, e)
