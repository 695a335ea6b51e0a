-- The lines of switches, one switch after the other, and why there are none.
use Rattle.std.proofs.Common.{◌≡◌, ℕ, ◌+◌, ◌<◌, ◌≤◌, Some, List, [], ◌++◌, length, get_or, drop, refl, sym, ap, subst, ◌∙◌, append_assoc, append-nil}
use Rattle.afdx_table.specs.Content.{Content}
use Rattle.afdx_network_report.specs.Lines.{Names, name_of}
use Rattle.afdx_messages.specs.declared.failure.Failure.{Failure}
use Rattle.afdx_folder.specs.Files.{KeepsFiles}
use Rattle.afdx_csv.specs.declared.form.Form.{Form}
use Rattle.afdx_serve.specs.Networks.{FailsToGetNetwork}
use Rattle.afdx_serve.specs.Sizes.{AreSizesWith, AreSizesFrom}
use Rattle.afdx_serve.specs.Serving.{World, WritesNothing, FailsToSizeNetwork}
use Rattle.afdx_serve.proofs.CheckLemmas.{from_place, none_left}
use Rattle.afdx_serve.proofs.NetworkLemmas.{of_lost}

module _ (form : Form) (names : Names) (tables : List Content) (i : ℕ) (text : List ℕ) where
  -- what is to come completes what is there
  abbrev pub Completes : Type 0
  Completes = (rest : List ℕ) → AreSizesFrom form i names (drop i tables) rest → AreSizesFrom form 0 names tables (text ++ rest)

  -- one more switch
  pub one_more_switch : (d : Content) (lines longer : List ℕ) → longer ≡ text ++ lines → i < length tables → Completes → AreSizesWith form (Some (name_of names i)) (get_or tables i d) lines
      → (rest : List ℕ) → AreSizesFrom form (i + 1) names (drop (i + 1) tables) rest → AreSizesFrom form 0 names tables (longer ++ rest)
  one_more_switch d lines longer grown lt before is rest more =
      subst (λ (t : List ℕ). AreSizesFrom form 0 names tables t) (sym (ap (λ (t : List ℕ). t ++ rest) grown ∙ append_assoc text lines rest))
      (before (lines ++ rest) (subst (λ (ts : List Content). AreSizesFrom form i names ts (lines ++ rest)) (sym (from_place tables i d lt)) (lines, rest, is, more, refl)))

  -- no switch is left
  pub last_switch : length tables ≤ i → Completes → AreSizesFrom form 0 names tables text
  last_switch le before =
      subst (λ (t : List ℕ). AreSizesFrom form 0 names tables t) (append-nil text)
      (before [] (subst (λ (ts : List Content). AreSizesFrom form i names ts []) (sym (none_left tables i le)) refl))

-- the network was not got
pub network_not_got : (form : Form) (path : List ℕ) (old new : World) → KeepsFiles old.files new.files → WritesNothing old new
    → (f : Failure) → FailsToGetNetwork f old.files path old.failed new.failed → FailsToSizeNetwork f form path old new
network_not_got form path old new keeps none =
    of_lost (λ f. FailsToSizeNetwork f form path old new) old.files path old.failed new.failed (keeps, none) (λ e h. (h, keeps, none)) (λ name h. (h, keeps, none))
