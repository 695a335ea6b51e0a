-- How early a frame of a link comes, by the link's account.
use Rattle.std.proofs.Common.{◌≡◌, ℕ, ◌<◌, ◌≤◌, List, length, get_or, slice_get, Option, Some, ap, sym, ◌∙◌, subst, arith}
use Rattle.std.proofs.lemmas.List.Elements.{All-from_recursion}
use Rattle.std.proofs.lemmas.Option.{slice_get-get_or, slice_get_past}
use Rattle.afdx_units.specs.declared.bag.Bag.{Bag}
use Rattle.afdx_units.specs.declared.police.Police.{Police}
use Rattle.afdx_units.specs.declared.police.Police.TheVariants.{Byte, Frame as ByFrames}
use Rattle.afdx_table.specs.Link.{Link}
use Rattle.afdx_table.specs.WellFormed.{IsLink, IsWellFormed}
use Rattle.afdx_account.specs.declared.account.Account.{Account}
use Rattle.afdx_account.specs.Policing.{Terms, terms_by, passed_frames}
use Rattle.afdx_account.specs.Level.{IsLevelAfter}
use Rattle.afdx_account.specs.Account.{account_terms, account_since, account_level}
use Rattle.afdx_account.specs.Early.{IsEarlyBy, early_by}
use Rattle.afdx_load.specs.Load.{terms_of}
use Rattle.afdx_core.specs.Rows.{account_frames}
use Rattle.afdx_core.specs.State.{Run, early_in}
use Rattle.afdx_core.specs.Kept.{AccountAgrees, AccountsAgree}
use Rattle.afdx_core.proofs.Calls.{some_of}

credits : (p : Police) (max_size : ℕ) (bag : Bag) (jitter : ℕ) → 64 ≤ max_size → 0 < (terms_by p max_size bag jitter).rate
credits Byte max_size bag jitter large = omega (arith, large)
credits ByFrames max_size bag jitter large = omega arith

-- the link at a place has an account
pub record HasAccount (r : Run) (accounts : List Account) (place : ℕ) (l : Link) : Type 0 where
  pub at : slice_get r.table.links place ≡ Some l
  pub within : place < length accounts
  pub credited : 0 < (terms_of l).rate
  pub agrees : (a : Account) → AccountAgrees l (get_or accounts place a) r.rows r.latest

pub has_account : (r : Run) (accounts : List Account) (place : ℕ) (d : Link) → IsWellFormed r.table → AccountsAgree r.table.links r.rows r.latest accounts → place < length r.table.links
    → HasAccount r accounts place (get_or r.table.links place d)
has_account r accounts place d formed agree lt =
    let l = get_or r.table.links place d in
    let link = All-from_recursion (IsLink r.table.ports) r.table.links formed.links place d lt in
    record {
      at = slice_get-get_or r.table.links place d lt;
      within = omega (arith, lt, agree.len);
      credited = credits l.police l.max_size l.bag l.jitter link.size_least;
      agrees = λ a. agree.each place d a lt;
    }

-- it may be asked
pub record MayBeAsked (accounts : List Account) (place at : ℕ) : Type 0 where
  pub within : place < length accounts
  pub in_order : (a : Account) → account_since (get_or accounts place a) ≤ at
  pub credited : (a : Account) → 0 < (account_terms (get_or accounts place a)).rate

pub may_be_asked : (r : Run) (accounts asked : List Account) (place at : ℕ) (l : Link) → HasAccount r accounts place l → r.latest ≤ at → asked ≡ accounts → MayBeAsked asked place at
may_be_asked r accounts asked place at l has le same = subst (λ xs. MayBeAsked xs place at) (sym same) (record {
  within = has.within;
  in_order = λ a. let since = (has.agrees a).since in omega (arith, since, le);
  credited = λ a. subst (λ (t : Terms). 0 < t.rate) (sym (has.agrees a).terms) has.credited;
})

-- and says it
pub says : (r : Run) (accounts asked : List Account) (place : ℕ) (l : Link) (at size early : ℕ) → HasAccount r accounts place l → asked ≡ accounts
    → ((a : Account) → IsEarlyBy (account_terms (get_or asked place a)) (account_since (get_or asked place a))
    (account_level (get_or asked place a) (account_since (get_or asked place a))) at size early)
    → early ≡ early_in r (slice_get r.table.links place) (record { stamp = at; size = size })
says r accounts asked place l at size early has same answer =
    let d = some_of accounts place has.within in
    let a = get_or accounts place d in
    let own = has.agrees d in
    let left = subst (λ (t : Terms). IsLevelAfter t (account_since a) (account_level a (account_since a)) (account_frames l.id r.rows)) (sym own.terms) own.level in
    let by_account = subst (λ (xs : List Account). IsEarlyBy (account_terms (get_or xs place d)) (account_since (get_or xs place d))
    (account_level (get_or xs place d) (account_since (get_or xs place d))) at
    size early) same (answer d) in
    by_account (account_frames l.id r.rows) left
    ∙ ap (λ (t : Terms). early_by t (passed_frames t (account_frames l.id r.rows)) (record { stamp = at; size = size })) own.terms
    ∙ sym (ap (λ (o : Option Link). early_in r o (record { stamp = at; size = size })) has.at)

pub nothing_early : (r : Run) (place at size : ℕ) → length r.table.links ≤ place → 0 ≡ early_in r (slice_get r.table.links place) (record { stamp = at; size = size })
nothing_early r place at size past = sym (ap (λ (o : Option Link). early_in r o (record { stamp = at; size = size })) (slice_get_past r.table.links place past))
