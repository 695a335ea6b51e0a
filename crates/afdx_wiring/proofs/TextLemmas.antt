-- Texts that are a tree, and bytes that are none.
use Rattle.std.proofs.Common.{◌≡◌, ℕ, List, Some, None, Ok, Err, refl, inl, inr}
use Rattle.std.specs.Str.{IsUtf8, is_utf8}
use Rattle.std.proofs.lemmas.Str.{IsUtf8-from_is_utf8, is_utf8-from_IsUtf8}
use Rattle.std.proofs.lemmas.Bool.{cases_Bool}
use Rattle.toml.specs.Data.{Members}
use Rattle.toml.specs.Parse.{parse_document}
use Rattle.afdx_wiring.specs.declared.fault.NetworkFault.TheVariants.{Toml}
use Rattle.afdx_wiring.specs.File.{tree_of}

pub no_tree : (bytes : List ℕ) → (IsUtf8 bytes → parse_document bytes ≡ None) → tree_of bytes ≡ Err Toml
unfolding tree_of
no_tree bytes none =
    elim (cases_Bool (is_utf8 bytes)) [
      | inl good ↦ rw (good, none (IsUtf8-from_is_utf8 bytes good)) refl
      | inr bad ↦ rw bad refl
    ]

pub tree : (bytes : List ℕ) (ms : Members) → IsUtf8 bytes → parse_document bytes ≡ Some ms → tree_of bytes ≡ Ok ms
unfolding tree_of
tree bytes ms text parsed = rw (is_utf8-from_IsUtf8 bytes text, parsed) refl
