-- The link of a clean frame, at its place.
use Rattle.std.proofs.Common.{◌≡◌, ℕ, ◌<◌, ◌≤◌, ◌==◌, List, length, get_or, slice_get, Option, Some, None, Bor, IfSome, option_copied, refl, sym, ap, ◌∙◌, subst, arith}
use Rattle.std.proofs.lemmas.Option.{get_or_from_slice_get}
use Rattle.std.proofs.lemmas.List.Quantifiers.{position-Some}
use Rattle.afdx_units.specs.declared.bag.Bag.{Bag}
use Rattle.afdx_units.specs.declared.police.Police.{Police}
use Rattle.afdx_units.specs.declared.police.Police.TheVariants.{Byte, Frame as ByFrames}
use Rattle.afdx_table.specs.declared.rows.PortRow.{PortRow}
use Rattle.afdx_table.specs.Link.{Link}
use Rattle.afdx_table.specs.Content.{Content, link_row}
use Rattle.afdx_table.specs.WellFormed.{IsLink}
use Rattle.afdx_table.specs.Inner.Found.{LinksAreFound, LinksAreAtTheirPlaces}
use Rattle.afdx_filter.specs.declared.outcome.Verdict.{Verdict}
use Rattle.afdx_filter.specs.declared.outcome.Verdict.TheVariants.{Cut, Short, Long, Foreign, NoLink, WrongPort, TooBig, Clean}
use Rattle.afdx_filter.specs.Place.{place_named}
use Rattle.afdx_account.specs.declared.account.Account.{Account}
use Rattle.afdx_account.specs.Policing.{Terms, terms_by, passed_frames}
use Rattle.afdx_account.specs.Level.{IsLevelAfter}
use Rattle.afdx_account.specs.Account.{account_terms, account_since, account_level}
use Rattle.afdx_account.specs.Early.{IsEarlyBy, early_by}
use Rattle.afdx_load.specs.Load.{terms_of}
use Rattle.afdx_core.specs.declared.step.Row.{Row}
use Rattle.afdx_core.specs.Rows.{named, account_frames, frame_of_row}
use Rattle.afdx_core.specs.Kept.{AccountAgrees, AccountsAgree}

pub record IsAt (t : Content) (v : Verdict) (place : ℕ) (l : Link) : Type 0 where
  pub within : place < length t.links
  pub at : get_or t.links place l ≡ l
  pub names : named t v ≡ Some l
  pub clean : v ≡ Clean l.id

pub is_at : (t : Content) (v : Verdict) (place : ℕ) (r : Option (Bor Link)) (b : Bor Link) → LinksAreAtTheirPlaces → LinksAreFound → place_named t v ≡ Some place
    → option_copied r ≡ slice_get t.links place → r ≡ Some b → IsAt t v place b.now
is_at t (Clean i) place r b places found is copied some =
    let got : slice_get t.links place ≡ Some b.now = sym copied ∙ ap option_copied some in
    let row : link_row t i ≡ Some b.now = sym (places.at t i place is) ∙ got in
    record {
      within = (position-Some (λ (l : Link). l.id == i) t.links place b.now is).0;
      at = get_or_from_slice_get t.links place b.now b.now got;
      names = row;
      clean = ap Clean (sym (found.is_row t i b.now row).0);
    }
is_at t Cut place r b places found is copied some = (cc)
is_at t Short place r b places found is copied some = (cc)
is_at t Long place r b places found is copied some = (cc)
is_at t Foreign place r b places found is copied some = (cc)
is_at t NoLink place r b places found is copied some = (cc)
is_at t WrongPort place r b places found is copied some = (cc)
is_at t TooBig place r b places found is copied some = (cc)

-- a verdict without a place names no link
pub none_at : (t : Content) (v : Verdict) → LinksAreAtTheirPlaces → place_named t v ≡ None → named t v ≡ None
none_at t (Clean i) places is = places.none t i is
none_at t Cut places is = refl
none_at t Short places is = refl
none_at t Long places is = refl
none_at t Foreign places is = refl
none_at t NoLink places is = refl
none_at t WrongPort places is = refl
none_at t TooBig places is = refl

-- ---- its account

credits : (p : Police) (max_size : ℕ) (bag : Bag) (jitter : ℕ) → 64 ≤ max_size → 0 < (terms_by p max_size bag jitter).rate
credits Byte max_size bag jitter large = omega (arith, large)
credits ByFrames max_size bag jitter large = omega arith

pub is_credited : (ports : List PortRow) (r : Option (Bor Link)) (b : Bor Link) (a : Account) (before : List Row) (latest : ℕ) (m : Link)
    → IfSome r (λ (x : Bor Link). IsLink ports x.now) → r ≡ Some b
    → m ≡ b.now → AccountAgrees m a before latest → 0 < (account_terms a).rate
is_credited ports r b a before latest m limits some same agrees =
    let link = subst (λ (o : Option (Bor Link)). IfSome o (λ (x : Bor Link). IsLink ports x.now)) some limits in
    subst (λ (t : Terms). 0 < t.rate) (sym (agrees.terms ∙ ap terms_of same)) (credits b.now.police b.now.max_size b.now.bag b.now.jitter link.size_least)

pub comes_early : (m l : Link) (a : Account) (before : List Row) (latest : ℕ) (row : Row) (early : ℕ) → AccountAgrees m a before latest → m ≡ l
    → IsEarlyBy (account_terms a) (account_since a) (account_level a (account_since a)) row.stamp row.size early
    → early ≡ early_by (terms_of l) (passed_frames (terms_of l) (account_frames l.id before)) (frame_of_row row)
comes_early m l a before latest row early agrees same says =
    let own = subst (λ (x : Link). AccountAgrees x a before latest) same agrees in
    let left = subst (λ (t : Terms). IsLevelAfter t (account_since a) (account_level a (account_since a)) (account_frames l.id before)) (sym own.terms) own.level in
    says (account_frames l.id before) left ∙ ap (λ (t : Terms). early_by t (passed_frames t (account_frames l.id before)) (frame_of_row row)) own.terms

-- the accounts agree at a later instant too
pub agree_later : (links : List Link) (rows : List Row) (latest at : ℕ) (accounts : List Account) → latest ≤ at → AccountsAgree links rows latest accounts → AccountsAgree links rows at accounts
agree_later links rows latest at accounts le agree = record {
  len = agree.len;
  each = λ k l a lt. let s = agree.each k l a lt in record { terms = s.terms; since = (let early = s.since in omega (arith, early, le)); level = s.level };
}
