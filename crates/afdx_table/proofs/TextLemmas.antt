-- Texts that are a tree, and bytes that are none.
use Rattle.std.proofs.Common.{◌≡◌, ◌==◌, ℕ, true, List, Some, None, Ok, Err, refl, sym, inl, inr}
use Rattle.std.specs.Str.{IsUtf8, is_utf8}
use Rattle.std.proofs.lemmas.Str.{IsUtf8-from_is_utf8, is_utf8-from_IsUtf8}
use Rattle.std.proofs.lemmas.Bool.{cases_Bool}
use Rattle.toml.specs.Data.{Members, no_members}
use Rattle.toml.specs.Errors.{IsBlank}
use Rattle.toml.specs.Parse.{lines, parse_document}
use Rattle.afdx_table.specs.declared.fault.TableFault.TheVariants.{Toml}
use Rattle.afdx_table.specs.Text.{tree_of}
use Rattle.afdx_table.specs.Room.{SaysSomething}
use Rattle.afdx_table.specs.Inner.Room.{WantsRoom}

pub no_tree : (bytes : List ℕ) → (IsUtf8 bytes → parse_document bytes ≡ None) → tree_of bytes ≡ Err Toml
unfolding tree_of
no_tree bytes none =
    elim (cases_Bool (is_utf8 bytes)) [
      | inl good ↦ rw (good, none (IsUtf8-from_is_utf8 bytes good)) refl
      | inr bad ↦ rw bad refl
    ]

pub tree : (bytes : List ℕ) (ms : Members) → IsUtf8 bytes → parse_document bytes ≡ Some ms → tree_of bytes ≡ Ok ms
unfolding tree_of
tree bytes ms text parsed = rw (is_utf8-from_IsUtf8 bytes text, parsed) refl

is_zero : (n : ℕ) → n ≡ 0 → (n == 0) ≡ true
is_zero n h = rw h refl

-- a text of white space and comments alone has no members
blank_is_empty : (bytes : List ℕ) → IsBlank bytes → parse_document bytes ≡ Some no_members
unfolding parse_document lines
blank_is_empty bytes blank = rw (is_zero _ blank) refl

blank_tree : (bytes : List ℕ) (ms : Members) → IsBlank bytes → tree_of bytes ≡ Ok ms → ms ≡ no_members
unfolding tree_of
blank_tree bytes ms blank h =
    elim (cases_Bool (is_utf8 bytes)) [
      | inl good ↦
          let g : Ok no_members ≡ Ok ms = rw (good, blank_is_empty bytes blank) at h in
          let same : no_members ≡ ms = cc in
          sym same
      | inr bad ↦ let g = rw bad at h in absurd cc
    ]

-- nothing is kept of it
blank_keeps : (bytes : List ℕ) (ms : Members) → IsBlank bytes → tree_of bytes ≡ Ok ms → WantsRoom ms → ⊥
blank_keeps bytes ms blank h wants =
    let empty = blank_tree bytes ms blank h in
    elim wants.2 [
      | inl ports ↦ let none = rw empty at ports.2 in absurd cc
      | inr links ↦ let none = rw empty at links.2 in absurd cc
    ]

is_text : (bytes : List ℕ) (ms : Members) → tree_of bytes ≡ Ok ms → is_utf8 bytes ≡ true
unfolding tree_of
is_text bytes ms h =
    elim (cases_Bool (is_utf8 bytes)) [
      | inl good ↦ good
      | inr bad ↦ let g = rw bad at h in absurd cc
    ]

-- a text of whose tree something is to be kept
pub something_is_kept : (bytes : List ℕ) (ms : Members) → tree_of bytes ≡ Ok ms → WantsRoom ms → SaysSomething bytes
something_is_kept bytes ms h wants = (IsUtf8-from_is_utf8 bytes (is_text bytes ms h), λ blank. blank_keeps bytes ms blank h wants)
