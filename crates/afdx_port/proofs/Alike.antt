-- Ports that differ in their buffers alone serve alike.
use Rattle.std.proofs.Common.{◌≡◌, ℕ, zero, suc, ◌+◌, ◌≤◌, List, [], ◌∷◌, ◌++◌, length, refl, ap, subst}
use Rattle.std.specs.Prelude.{not, filter, sum_by}
use Rattle.afdx_port.specs.declared.Settings.{Settings}
use Rattle.afdx_port.specs.declared.Item.{Item}
use Rattle.afdx_port.specs.Service.{Event, came, item_of, free_after, reach, next, others, serve}
use Rattle.afdx_port.specs.Admission.{is_gone, occupied, AllFitIn}
use Rattle.afdx_port.specs.Inner.Admission.{with_buffer}

serve_alike : (count : ℕ) (s : Settings) (bytes free : ℕ) (items : List Item) → serve count (with_buffer bytes s) free items ≡ serve count s free items
unfolding next others reach
serve_alike zero s bytes free items = refl
serve_alike (suc count) s bytes free [] = refl
serve_alike (suc count) s bytes free (first ∷ rest) = ap (λ es. next s free first rest ∷ es) (serve_alike count s bytes (free_after (next s free first rest)) (others s free first rest))

occupied_alike : (s : Settings) (bytes : ℕ) (before : List Item) (x : Item) → occupied (with_buffer bytes s) (came (with_buffer bytes s) x) before ≡ occupied s (came s x) before
unfolding reach
occupied_alike s bytes before x = ap (λ (es : List Event). sum_by (λ event. (item_of event).size) (filter (λ event. not (is_gone (came s x) event)) es)) (serve_alike (length before) s bytes 0 before)

pub fit_alike : (s : Settings) (bytes : ℕ) (before items : List Item) → AllFitIn bytes (with_buffer bytes s) before items → AllFitIn bytes s before items
fit_alike s bytes before [] h = tt
fit_alike s bytes before (x ∷ items) h = (subst (λ (n : ℕ). x.size + n ≤ bytes) (occupied_alike s bytes before x) h.0, fit_alike s bytes (before ++ x ∷ []) items h.1)
