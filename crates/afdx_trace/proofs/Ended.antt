-- Ports end one after the other, and their lines go to their files.
use Rattle.std.proofs.Common.{◌≡◌, ℕ, zero, suc, ◌+◌, ◌<◌, ◌≤◌, List, [], ◌∷◌, length, get_or, set, slice_get, Option, Some, refl, sym, ap, ◌∙◌, arith, subst, inl, inr}
use Rattle.std.specs.Prelude.{◌⊎◌}
use Rattle.std.specs.Io.KnownBytes.{Appends}
use Rattle.std.proofs.lemmas.Bool.{cases_eq}
use Rattle.std.proofs.lemmas.List.{length-set}
use Rattle.std.proofs.lemmas.Option.{same_Some, slice_get_within, slice_get-get_or}
use Rattle.afdx_table.specs.declared.rows.PortRow.{PortRow}
use Rattle.afdx_table.specs.Content.{Content}
use Rattle.afdx_core.specs.declared.step.Row.{Row}
use Rattle.afdx_core.specs.State.{Run, after_finish}
use Rattle.afdx_trace.specs.declared.shown.Selection.{Selection}
use Rattle.afdx_trace.specs.declared.shown.Shown.{Shown}
use Rattle.afdx_trace.specs.declared.traced_port.TracedPort.{TracedPort}
use Rattle.afdx_trace.specs.Shown.{shown_of}
use Rattle.afdx_trace.specs.Departures.{port_lines, LinesAreAppended}
use Rattle.afdx_trace.specs.Inner.Telling.{HasToldAll, AllTell, HaveGone, IsEnded, AreEnded}
use Rattle.afdx_trace.proofs.Ending.{ended_lines}
use Rattle.afdx_trace.proofs.Placed.{set_same, set_other}

pub none_ended : {F Z : Type 0} (shown : Shown) (contents : F → Option (List ℕ)) (files : List F) (ports : List (TracedPort Z)) → AreEnded shown contents 0 files files ports ports
none_ended shown contents files ports = record {
  many = refl;
  long = refl;
  ended = λ k f g o n lt. absurd (omega (arith, lt));
  ports_left = λ k le. refl;
  files_left = λ k le. refl;
}

pub next_ended : {F Z : Type 0} (shown : Shown) (contents : F → Option (List ℕ)) (place : ℕ) (befores nows : List F) (old new : List (TracedPort Z)) (f g : F) (o n : TracedPort Z)
    → slice_get befores place ≡ Some f → slice_get old place ≡ Some o → IsEnded shown contents f g o n → AreEnded shown contents place befores nows old new
    → AreEnded shown contents (place + 1) befores (set nows place g) old (set new place n)
next_ended {F} {Z} shown contents place befores nows old new f g o n file own it are = record {
  many = length-set new place n ∙ are.many;
  long = length-set nows place g ∙ are.long;
  ended = λ k a b p q lt first here was there. by k a b p q lt first here was there (cases_eq k place);
  ports_left = λ k le. set_other new place k n (λ e. omega (arith, le, e)) ∙ are.ports_left k (omega (arith, le));
  files_left = λ k le. set_other nows place k g (λ e. omega (arith, le, e)) ∙ are.files_left k (omega (arith, le));
} where
  ports_at : slice_get (set new place n) place ≡ Some n
  ports_at = set_same new place n (let lt = slice_get_within old place o own in let many = are.many in omega (arith, lt, many))

  file_at : slice_get (set nows place g) place ≡ Some g
  file_at = set_same nows place g (let lt = slice_get_within befores place f file in let long = are.long in omega (arith, lt, long))

  by : (k : ℕ) (a b : F) (p q : TracedPort Z) → k < place + 1 → slice_get befores k ≡ Some a → slice_get (set nows place g) k ≡ Some b → slice_get old k ≡ Some p
      → slice_get (set new place n) k ≡ Some q → (k ≡ place) ⊎ (k ≡ place → ⊥) → IsEnded shown contents a b p q
  by k a b p q lt first here was there (inl same) =
      let first_is : f ≡ a = same_Some f a (sym file ∙ ap (slice_get befores) (sym same) ∙ first) in
      let now_is : g ≡ b = same_Some g b (sym file_at ∙ ap (slice_get (set nows place g)) (sym same) ∙ here) in
      let old_is : o ≡ p = same_Some o p (sym own ∙ ap (slice_get old) (sym same) ∙ was) in
      let new_is : n ≡ q = same_Some n q (sym ports_at ∙ ap (slice_get (set new place n)) (sym same) ∙ there) in
      subst (λ (x : F). IsEnded shown contents x b p q) first_is (subst (λ (x : F). IsEnded shown contents f x p q) now_is
      (subst (λ (x : TracedPort Z). IsEnded shown contents f g x q) old_is (subst (λ (x : TracedPort Z). IsEnded shown contents f g o x) new_is it)))
  by k a b p q lt first here was there (inr ne) =
      are.ended k a b p q (omega (arith, lt, ne)) first (sym (set_other nows place k g ne) ∙ here) was (sym (set_other new place k n ne) ∙ there)

-- all ended
pub all_ended : {F Z : Type 0} (contents : F → Option (List ℕ)) (s : Selection) (r : Run) (place : ℕ) (befores nows : List F) (old new : List (TracedPort Z)) → length old ≤ place
    → length befores ≡ length old → AllTell (shown_of s r.rows) r.table r.rows r.latest old → AreEnded (shown_of s r.rows) contents place befores nows old new
    → (start : List F) → HaveGone contents start befores old → LinesAreAppended contents s (after_finish r) start nows
all_ended {F} {Z} contents s r place befores nows old new enough files all are start have = record {
  long = are.long ∙ files ∙ sym have.many;
  each = λ k p f g port first here.
      let lt = slice_get_within start k f first in
      let many = have.many in
      let old_many = are.many in
      let in_old : k < length old = omega (arith, lt, many) in
      let in_new : k < length new = omega (arith, in_old, old_many) in
      let in_files : k < length befores = omega (arith, in_old, files) in
      there k p f g port first here (get_or befores k f) (slice_get-get_or befores k f in_files) (at old k in_old).0 (at old k in_old).1 (at new k in_new).0 (at new k in_new).1 in_old;
} where
  at : (xs : List (TracedPort Z)) (k : ℕ) → k < length xs → (o : TracedPort Z) × (slice_get xs k ≡ Some o)
  at [] k lt = absurd (omega (arith, lt))
  at (o ∷ xs) zero lt = (o, refl)
  at (o ∷ xs) (suc k) lt = at xs k (omega (arith, lt))

  there : (k : ℕ) (p : PortRow) (f g : F) → slice_get r.table.ports k ≡ Some p → slice_get start k ≡ Some f → slice_get nows k ≡ Some g → (b : F) → slice_get befores k ≡ Some b
      → (o : TracedPort Z) → slice_get old k ≡ Some o → (n : TracedPort Z) → slice_get new k ≡ Some n → k < length old
      → Appends (contents f) (contents g) (port_lines (shown_of s r.rows) (after_finish r) p)
  there k p f g port first here b was o own n is lt =
      let it = are.ended k b g o n (omega (arith, lt, enough)) was here own is in
      subst (λ (text : List ℕ). Appends (contents f) (contents g) text)
      (it.all ∙ ended_lines (shown_of s r.rows) r r.latest p o n it.row it.settings it.content it.told (all.each k p o port own)) (it.gone f (have.each k f b o first was own))

-- each port of a switch that tells of its run has told of all that it has carried out
pub told_of : {Z : Type 0} (shown : Shown) (t : Content) (rows : List Row) (latest : ℕ) (ports : List (TracedPort Z)) → AllTell shown t rows latest ports
    → (k : ℕ) (o : TracedPort Z) → slice_get ports k ≡ Some o → HasToldAll shown o
told_of shown t rows latest ports all k o here =
    let lt = slice_get_within ports k o here in
    let many = all.many in
    (all.each k (get_or t.ports k o.row) o (slice_get-get_or t.ports k o.row (omega (arith, lt, many))) here).told
