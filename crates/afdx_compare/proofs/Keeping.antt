-- What a watched link keeps whatever it is told: how it is policed, and its ports with their limits.
use Rattle.std.proofs.Common.{◌≡◌, ℕ, zero, suc, true, false, List, [], ◌∷◌, ◌++◌, map, take, drop, Option, Some, None, refl, ap, ◌∙◌}
use Rattle.std.specs.Prelude.{if◌then◌else◌}
use Rattle.std.specs.List.{AllByRecursion}
use Rattle.afdx_pairing.specs.declared.limits.Limits.{Limits}
use Rattle.afdx_pairing.specs.Events.{Numbered}
use Rattle.afdx_pairing.specs.Kept.{Sight, Left}
use Rattle.afdx_following.specs.Output.{Output, with_waiting, with_sights, settled, paired_up_to}
use Rattle.afdx_following.specs.Watched.{Watched, can_tell, outlook_at, with_told, decided, first_unknown, with_paired, with_gone, settled_by}
use Rattle.afdx_following.specs.Watched.{with_own, changed_at, left_by_at, stamped_by_at, with_record, with_ends}

-- a port's number, and the limits there
pub record Setting : Type 0 where
  pub port : ℕ
  pub limits : Limits

abbrev pub setting : Output → Setting
setting o = record { port = o.port; limits = o.limits }

abbrev pub settings : List Output → List Setting
settings outputs = map setting outputs

-- one link is policed as another, at the same ports
pub record IsLike (f g : Watched) : Type 0 where
  pub account : f.account ≡ g.account
  pub settings : settings f.outputs ≡ settings g.outputs

like_self : (f : Watched) → IsLike f f
like_self f = record { account = refl; settings = refl }

like_more : (f g h : Watched) → IsLike f g → IsLike g h → IsLike f h
like_more f g h one other = record { account = one.account ∙ other.account; settings = one.settings ∙ other.settings }

-- ---- outputs of which each is changed, or one

all_kept : (change : Output → Output) → ((o : Output) → setting (change o) ≡ setting o) → (os : List Output) → settings (map change os) ≡ settings os
all_kept change kept [] = refl
all_kept change kept (o ∷ os) = ap (λ (s : Setting). s ∷ settings (map change os)) (kept o) ∙ ap (λ (ss : List Setting). setting o ∷ ss) (all_kept change kept os)

one_kept : (change : Output → Output) → ((o : Output) → setting (change o) ≡ setting o) → (place : ℕ) (os : List Output) → settings (changed_at place change os) ≡ settings os
one_kept change kept place [] = refl
one_kept change kept zero (o ∷ os) = ap (λ (s : Setting). s ∷ settings os) (kept o)
one_kept change kept (suc place) (o ∷ os) = ap (λ (ss : List Setting). setting o ∷ ss) (one_kept change kept place os)

sights_kept : (sights : List Sight) (o : Output) → setting (with_sights sights o) ≡ setting o
sights_kept [] o = refl
sights_kept (s ∷ sights) o = sights_kept sights _

paired_kept : (unknown : Option ℕ) (o : Output) → setting (paired_up_to unknown o) ≡ setting o
paired_kept unknown o = sights_kept (map Left (take (settled unknown o) o.waiting)) (record o { waiting = drop (settled unknown o) o.waiting })

-- ---- fates that are told

told_like : (n : Numbered) (f : Watched) → IsLike (with_told n f) f
told_like n f = record { account = refl; settings = all_kept _ (λ o. refl) f.outputs }

decided_like : (at : Option ℕ) (ns : List Numbered) (f : Watched) → IsLike (decided at ns f) f
decided_like at [] f = record { account = refl; settings = refl }
decided_like at (n ∷ ns) f =
    elim (can_tell at f.outputs n (outlook_at f n)) as (λ b. IsLike (if b then decided at ns (with_told n f) else record f { undecided = n ∷ ns }) f) [
      | true ↦ like_more _ _ _ (decided_like at ns (with_told n f)) (told_like n f)
      | false ↦ record { account = refl; settings = refl }
    ]

paired_like : (f : Watched) → IsLike (with_paired f) f
paired_like f = record { account = refl; settings = all_kept _ (paired_kept (first_unknown f.undecided)) f.outputs }

gone_like : (at : Option ℕ) (f : Watched) → IsLike (with_gone at f) f
gone_like None f = like_self f
gone_like (Some at) f = record { account = refl; settings = all_kept _ (λ o. refl) f.outputs }

settled_like : (at : Option ℕ) (f : Watched) → IsLike (settled_by at f) f
settled_like at f =
    like_more _ _ _ (gone_like at (with_paired (decided at f.undecided f)))
    (like_more _ _ _ (paired_like (decided at f.undecided f)) (decided_like at f.undecided f))

-- ---- what a link is told

pub own_like : (n : Numbered) (f : Watched) → IsLike (with_own n f) f
own_like n f =
    like_more _ _ _ (settled_like (Some n.frame.stamp) (record f { undecided = f.undecided ++ n ∷ []; latest = n.frame.stamp })) (record { account = refl; settings = refl })

pub record_like : (place : ℕ) (n : Numbered) (f : Watched) → IsLike (with_record place n f) f
record_like place n f =
    let changed : Watched = record f { outputs = changed_at place (λ o. with_waiting n o) f.outputs; latest = left_by_at place n f } in
    like_more _ _ _ (settled_like (Some (stamped_by_at place n f)) changed) (record { account = refl; settings = one_kept (λ o. with_waiting n o) (λ o. refl) place f.outputs })

pub ends_like : (last : Option ℕ) (f : Watched) → IsLike (with_ends last f) f
ends_like last f = like_more _ _ _ (record { account = refl; settings = all_kept _ (λ o. refl) (settled_by None f).outputs }) (settled_like None f)

-- ---- what holds of ports by their settings alone

pub all_settings : (P : Setting → Type 0) (os : List Output) → AllByRecursion (λ o. P (setting o)) os → AllByRecursion P (settings os)
all_settings P [] all = tt
all_settings P (o ∷ os) all = (all.0, all_settings P os all.1)

pub all_outputs : (P : Setting → Type 0) (os : List Output) → AllByRecursion P (settings os) → AllByRecursion (λ o. P (setting o)) os
all_outputs P [] all = tt
all_outputs P (o ∷ os) all = (all.0, all_outputs P os all.1)

-- ---- the instant of the last that was taken

decided_latest : (at : Option ℕ) (ns : List Numbered) (f : Watched) → (decided at ns f).latest ≡ f.latest
decided_latest at [] f = refl
decided_latest at (n ∷ ns) f =
    elim (can_tell at f.outputs n (outlook_at f n)) as (λ b. (if b then decided at ns (with_told n f) else record f { undecided = n ∷ ns }).latest ≡ f.latest) [
      | true ↦ decided_latest at ns (with_told n f)
      | false ↦ refl
    ]

pub own_latest : (n : Numbered) (f : Watched) → (with_own n f).latest ≡ n.frame.stamp
own_latest n f = decided_latest (Some n.frame.stamp) (f.undecided ++ n ∷ []) (record f { undecided = f.undecided ++ n ∷ []; latest = n.frame.stamp })

pub record_latest : (place : ℕ) (n : Numbered) (f : Watched) → (with_record place n f).latest ≡ left_by_at place n f
record_latest place n f =
    decided_latest (Some (stamped_by_at place n f)) f.undecided
    (record f { outputs = changed_at place (λ o. with_waiting n o) f.outputs; latest = left_by_at place n f })
