-- A comparison's links are told what came and left, each what is its own.
use Rattle.std.proofs.Common.{◌≡◌, ℕ, zero, suc, Bool, true, false, List, [], ◌∷◌, ◌++◌, Option, Some, None, refl, sym, ap, subst, ◌∙◌}
use Rattle.std.specs.Prelude.{◌==◌, if◌then◌else◌, slice_get, option_map}
use Rattle.std.proofs.lemmas.Bool.{eqb-true, eqb-false}
use Rattle.afdx_pairing.specs.Events.{Numbered}
use Rattle.afdx_following.specs.Watch.{has_frame, has_record}
use Rattle.afdx_following.specs.Watched.{Watched, changed_at}
use Rattle.afdx_following.specs.Followed.{Notice, Arrived, Departed, with_notice, with_notices}
use Rattle.afdx_merging.specs.Merge.{Arrival}
use Rattle.afdx_compare.specs.declared.sources.Source.{Source}
use Rattle.afdx_compare.specs.Comparison.{Comparison, with_seen, place_of_own, own_came, with_came, link_at, record_left, with_left}
use Rattle.afdx_compare.specs.Arrivals.{with_record_of, with_arrival, with_arrivals}
use Rattle.afdx_compare.specs.Inner.Told.{told_own, told_record, told_came, told_left, told_of, told}

notices_more : (xs ys : List Notice) (f : Watched) → with_notices (xs ++ ys) f ≡ with_notices ys (with_notices xs f)
notices_more [] ys f = refl
notices_more (x ∷ xs) ys f = notices_more xs ys (with_notice x f)

unchanged : (f : Option Watched) → f ≡ option_map (with_notices []) f
unchanged None = refl
unchanged (Some f) = refl

-- the link at a place, after that one was changed, or another one
same_here : (place : ℕ) (x : Notice) (fs : List Watched) → slice_get (changed_at place (with_notice x) fs) place ≡ option_map (with_notices (x ∷ [])) (slice_get fs place)
same_here place x [] = refl
same_here zero x (f ∷ fs) = refl
same_here (suc place) x (f ∷ fs) = same_here place x fs

other_here : (at place : ℕ) (change : Watched → Watched) (fs : List Watched) → (at ≡ place → ⊥) → slice_get (changed_at at change fs) place ≡ option_map (with_notices []) (slice_get fs place)
other_here at place change [] other = refl
other_here zero zero change (f ∷ fs) other = absurd (other refl)
other_here zero (suc place) change (f ∷ fs) other = unchanged (slice_get fs place)
other_here (suc at) zero change (f ∷ fs) other = refl
other_here (suc at) (suc place) change (f ∷ fs) other = other_here at place change fs (λ same. other (ap (λ (n : ℕ). suc n) same))

changed_if : (b : Bool) (at place : ℕ) (x : Notice) (fs : List Watched) → (at == place) ≡ b
    → slice_get (changed_at at (with_notice x) fs) place ≡ option_map (with_notices (if b then x ∷ [] else [])) (slice_get fs place)
changed_if true at place x fs is =
    subst (λ (k : ℕ). slice_get (changed_at at (with_notice x) fs) k ≡ option_map (with_notices (x ∷ [])) (slice_get fs k)) (eqb-true at place is) (same_here at x fs)
changed_if false at place x fs is = other_here at place (with_notice x) fs (eqb-false at place is)

changed_here : (at place : ℕ) (x : Notice) (fs : List Watched)
    → slice_get (changed_at at (with_notice x) fs) place ≡ option_map (with_notices (if at == place then x ∷ [] else [])) (slice_get fs place)
changed_here at place x fs = changed_if (at == place) at place x fs refl

own_told : (place : ℕ) (at : Option ℕ) (n : Numbered) (c : Comparison)
    → slice_get (own_came at n c).links place ≡ option_map (with_notices (told_own place at n)) (slice_get c.links place)
own_told place None n c = unchanged (slice_get c.links place)
own_told place (Some link) n c = changed_here link place (Arrived n) c.links

record_told : (place port : ℕ) (at : Option (ℕ × ℕ)) (n : Numbered) (c : Comparison)
    → slice_get (record_left port at n c).links place ≡ option_map (with_notices (told_record place at n)) (slice_get c.links place)
record_told place port None n c = unchanged (slice_get c.links place)
record_told place port (Some (link, output)) n c = changed_here link place (Departed output n) c.links

came_told : (place port : ℕ) (n : Numbered) (c : Comparison) → slice_get (with_came port n c).links place ≡ option_map (with_notices (told_came place port n c)) (slice_get c.links place)
came_told place port n c =
    let at = place_of_own c.table port n.frame in
    elim (has_frame c.watch n.frame.stamp)
    as (λ b. slice_get (if b then own_came at n c else c).links place ≡ option_map (with_notices (if b then told_own place at n else [])) (slice_get c.links place)) [
      | true ↦ own_told place at n c
      | false ↦ unchanged (slice_get c.links place)
    ]

left_told : (place : ℕ) (s : Source) (n : Numbered) (c : Comparison) → slice_get (with_left s n c).links place ≡ option_map (with_notices (told_left place s.port n c)) (slice_get c.links place)
left_told place s n c =
    let at = link_at s.port n.frame.bytes c in
    let seen : Comparison = record c { ports = changed_at s.place with_seen c.ports } in
    elim (has_record c.watch n.frame.stamp)
    as (λ b. slice_get (if b then record_left s.place at n seen else c).links place ≡ option_map (with_notices (if b then told_record place at n else [])) (slice_get c.links place)) [
      | true ↦ record_told place s.place at n seen
      | false ↦ unchanged (slice_get c.links place)
    ]

pub source_told : (place : ℕ) (s : Option Source) (a : Arrival) (c : Comparison)
    → slice_get (with_record_of s a c).links place ≡ option_map (with_notices (told_of place s a.head c)) (slice_get c.links place)
source_told place None a c = unchanged (slice_get c.links place)
source_told place (Some s) a c =
    elim s.leaves
    as (λ b. slice_get (if b then with_left s a.head c else with_came s.port a.head c).links place
    ≡ option_map (with_notices (if b then told_left place s.port a.head c else told_came place s.port a.head c)) (slice_get c.links place)) [
      | true ↦ left_told place s a.head c
      | false ↦ came_told place s.port a.head c
    ]

more_told : (xs ys : List Notice) (f : Option Watched) → option_map (with_notices ys) (option_map (with_notices xs) f) ≡ option_map (with_notices (xs ++ ys)) f
more_told xs ys None = refl
more_told xs ys (Some f) = ap (λ (x : Watched). Some x) (sym (notices_more xs ys f))

-- each link is what it was at first after what it was told
pub links_are_told : (place : ℕ) (captures : List Source) (arrivals : List Arrival) (c : Comparison)
    → slice_get (with_arrivals captures arrivals c).links place ≡ option_map (with_notices (told place captures arrivals c)) (slice_get c.links place)
links_are_told place captures [] c = unchanged (slice_get c.links place)
links_are_told place captures (a ∷ arrivals) c =
    let now = told_of place (slice_get captures a.place) a.head c in
    let later = told place captures arrivals (with_arrival captures a c) in
    links_are_told place captures arrivals (with_arrival captures a c)
    ∙ ap (λ (f : Option Watched). option_map (with_notices later) f) (source_told place (slice_get captures a.place) a c)
    ∙ more_told now later (slice_get c.links place)
