-- Records go to the switch, one after the other.
use Rattle.std.proofs.Common.{◌≡◌, ℕ, suc, ◌≤◌, true, false, List, [], ◌∷◌, Option, Some, refl, ◌∙◌, arith, subst}
use Rattle.std.specs.List.{AllByRecursion}
use Rattle.afdx_pcap.specs.Record.{Record}
use Rattle.afdx_core.specs.State.{State}
use Rattle.afdx_core.specs.Merge.{Rises}
use Rattle.afdx_paced.specs.Inner.Parts.{Parts, head_of, heads_of}
use Rattle.afdx_paced.specs.Inner.Kept.{IsOfTable, IsSameTable, IsPassing, PassesOn, ComesTo, NoneBefore}
use Rattle.afdx_paced.specs.declared.feeder.Feeder.{Feeder}
use Rattle.afdx_paced.proofs.Lists.{all_weaker}
use Rattle.afdx_paced.proofs.Passing.{waiting_rise}

pub same_once : (s : State) → IsSameTable s s
same_once s = record { table = refl; accepted = refl; keeps = refl; handed = refl }

pub same_both : (a b c : State) → IsSameTable a b → IsSameTable b c → IsSameTable a c
same_both a b c one two = record { table = two.table ∙ one.table; accepted = two.accepted ∙ one.accepted; keeps = two.keeps ∙ one.keeps; handed = two.handed ∙ one.handed }

-- what is so while records go
pub record Gives {Z : Type 0} (until : ℕ) (start now : Feeder Z) : Type 0 where
  pub of : IsOfTable now
  pub same : IsSameTable start.switch now.switch
  pub passing : IsPassing until now
  pub comes : ComesTo start now

pub gives_none : {Z : Type 0} (until : ℕ) (start : Feeder Z) → IsOfTable start → IsPassing until start → Gives until start start
gives_none until start of passing = record { of = of; same = same_once start.switch; passing = passing; comes = record { lanes = refl } }

pub gives_more : {Z : Type 0} (until : ℕ) (start now next : Feeder Z) → Gives until start now → IsOfTable next → IsSameTable now.switch next.switch → PassesOn until true now next
    → Gives until start next
gives_more until start now next gives of same passes = record {
  of = of;
  same = same_both start.switch now.switch next.switch gives.same same;
  passing = passes.passing;
  comes = record { lanes = passes.comes.lanes ∙ gives.comes.lanes };
}

pub gives_all : {Z : Type 0} (until : ℕ) (start now next : Feeder Z) → Gives until start now → PassesOn until false now next → PassesOn until false start next
gives_all until start now next gives passes = record {
  passing = passes.passing;
  comes = record { lanes = passes.comes.lanes ∙ gives.comes.lanes };
  fewer = λ e. absurd (differ e);
  none = passes.none;
} where
  differ : false ≡ true → ⊥
  differ e = absurd cc

-- where nothing goes
pub stays : {Z : Type 0} (until : ℕ) (f : Feeder Z) → IsPassing until f → AllByRecursion (λ (l : Parts). AllByRecursion (λ (r : Record). until ≤ r.stamp) l.waiting) f.lanes.items
    → PassesOn until false f f
stays until f passing none = record { passing = passing; comes = record { lanes = refl }; fewer = λ e. absurd (differ e); none = λ e. none } where
  differ : false ≡ true → ⊥
  differ e = absurd cc

waits_by : (until : ℕ) (lanes : List Parts) → AllByRecursion (λ (l : Parts). Rises l.waiting) lanes → NoneBefore until (heads_of lanes)
    → AllByRecursion (λ (l : Parts). AllByRecursion (λ (r : Record). until ≤ r.stamp) l.waiting) lanes
waits_by until [] rise none = tt
waits_by until (l ∷ lanes) rise none = (
  here l.waiting rise.0 (λ at is. none 0 at (omega arith) is),
  waits_by until lanes rise.1 (λ place at within is. none (suc place) at (omega (arith, within)) is),
) where
  here : (rs : List Record) → Rises rs → ((at : ℕ) → head_of rs ≡ Some at → until ≤ at) → AllByRecursion (λ (r : Record). until ≤ r.stamp) rs
  here [] rises first = tt
  here (r ∷ rs) rises first =
      let le = first r.stamp refl in
      (le, all_weaker (λ (q : Record). r.stamp ≤ q.stamp) (λ (q : Record). until ≤ q.stamp) (λ q later. omega (arith, later, le)) rs rises.0)

pub none_before : {Z : Type 0} (until : ℕ) (f : Feeder Z) (heads : List (Option ℕ)) → IsPassing until f → heads ≡ heads_of f.lanes.items → NoneBefore until heads → PassesOn until false f f
none_before until f heads passing are none =
    stays until f passing (waits_by until f.lanes.items (waiting_rise f.lanes.items passing.sorted) (subst (NoneBefore until) are none))
