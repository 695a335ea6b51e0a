-- The keys of a table.
use Rattle.std.proofs.Common.{◌≡◌, ◌&&◌, List, [], ◌∷◌, String, Global, string_bytes, refl, ap}
use Rattle.std.specs.List.{list_all}
use Rattle.std.specs.Map.{keys_of}
use Rattle.toml.specs.View.{members_view}
use Rattle.toml.specs.declared.value.Value.{Value}
use Rattle.afdx_wiring.specs.declared.fault.Key.{Key}
use Rattle.afdx_wiring.specs.Fields.{are_known, is_one_of}

-- the keys of a map are those of its members
pub are_known-keys : (ks : List Key) (es : List (String Global × Value)) → list_all (λ (s : String Global). is_one_of ks (string_bytes s)) (keys_of es) ≡ are_known ks (members_view es)
are_known-keys ks [] = refl
are_known-keys ks (e ∷ es) = ap (λ b. is_one_of ks (string_bytes e.0) && b) (are_known-keys ks es)
