-- The machine that the box of a session lends is the one in it.
use Rattle.std.proofs.Common.{◌≡◌, Bool, List, ap, sym, ◌∙◌, subst}
use Rattle.afdx_session.specs.declared.lane.Lane.{Lane}
use Rattle.afdx_session.specs.declared.machine.Machine.{Machine}
use Rattle.afdx_session.specs.Session.{Seen}
use Rattle.afdx_session.specs.Inner.View.{seen_of, IsKeptMachine}

-- what is seen and kept of it
pub record IsLentOut {Z : Type 0} (m : Machine Z) (begun failed : Bool) (v : Seen) : Type 0 where
  pub view : seen_of m begun failed ≡ v
  pub kept : IsKeptMachine m begun failed

pub lent_out : {Z : Type 0} (boxed m : Machine Z) (begun failed : Bool) (v : Seen) → m ≡ boxed → seen_of boxed begun failed ≡ v → IsKeptMachine boxed begun failed
    → IsLentOut m begun failed v
lent_out {Z} boxed m begun failed v lent view kept =
    subst (λ (n : Machine Z). IsLentOut n begun failed v) (sym lent) (record { view = view; kept = kept })

-- the lanes that were looked at are those of the machine in the box
pub lanes_boxed : {Z : Type 0} (boxed shown : Machine Z) (lanes : List (Lane Z)) → shown ≡ boxed → lanes ≡ shown.lanes.items → lanes ≡ boxed.lanes.items
lanes_boxed {Z} boxed shown lanes is same = same ∙ ap (λ (n : Machine Z). n.lanes.items) is

-- and those of the one that it lends then
pub lanes_lent : {Z : Type 0} (boxed shown m : Machine Z) (lanes : List (Lane Z)) → shown ≡ boxed → m ≡ boxed → lanes ≡ shown.lanes.items → lanes ≡ m.lanes.items
lanes_lent boxed shown m lanes is lent same = lanes_boxed m shown lanes (is ∙ sym lent) same
