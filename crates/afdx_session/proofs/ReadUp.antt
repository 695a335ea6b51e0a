-- All that came was read, whatever else changes of lanes.
use Rattle.std.proofs.Common.{◌≡◌, ℕ, zero, suc, List, [], ◌∷◌, set, sym, ◌∙◌, ap, subst}
use Rattle.std.specs.List.{AllByRecursion}
use Rattle.afdx_pcap.specs.Reading.{NoNext, IsSound}
use Rattle.afdx_session.specs.declared.lane.Lane.{Lane}
use Rattle.afdx_session.specs.Inner.Lanes.{HasReadAll}
use Rattle.afdx_session.specs.Inner.Kept.{AreTouched}
use Rattle.afdx_session.specs.Inner.View.{AreSettledLanes}

pub read_same : {Z : Type 0} (a b : Lane Z) → b.reader ≡ a.reader → b.ended ≡ a.ended → HasReadAll a → HasReadAll b
read_same a b reader ended read = record {
  none_left = subst (λ r. NoNext r.bytes r.given) (sym reader) read.none_left;
  sound = subst (λ r. IsSound r.bytes r.given r.closed) (sym reader) read.sound;
  ended = ended ∙ read.ended ∙ ap (λ r. r.closed) (sym reader);
}

pub all_set : {X : Type 0} (P : X → Type 0) (xs : List X) (k : ℕ) (new : X) → AllByRecursion P xs → P new → AllByRecursion P (set xs k new)
all_set P [] k new all is = tt
all_set P (x ∷ xs) zero new all is = (is, all.1)
all_set P (x ∷ xs) (suc k) new all is = (all.0, all_set P xs k new all.1 is)

pub touched_read_up : {Z : Type 0} (old new : List (Lane Z)) → AreTouched old new → AllByRecursion HasReadAll old → AllByRecursion HasReadAll new
touched_read_up [] [] touched all = tt
touched_read_up [] (n ∷ new) touched all = absurd touched
touched_read_up (l ∷ old) [] touched all = absurd touched
touched_read_up (l ∷ old) (n ∷ new) touched all = (read_same l n touched.0.reader touched.0.ended all.0, touched_read_up old new touched.1 all.1)

pub settled_read_up : {Z : Type 0} (old new : List (Lane Z)) → AreSettledLanes old new → AllByRecursion HasReadAll old → AllByRecursion HasReadAll new
settled_read_up [] [] settled all = tt
settled_read_up [] (n ∷ new) settled all = absurd settled
settled_read_up (l ∷ old) [] settled all = absurd settled
settled_read_up (l ∷ old) (n ∷ new) settled all = (read_same l n settled.0.reader settled.0.ended all.0, settled_read_up old new settled.1 all.1)
