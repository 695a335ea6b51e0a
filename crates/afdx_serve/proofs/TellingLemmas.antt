-- What new files have of what was told of a run, and of the files of a run's folder.
use Rattle.std.proofs.Common.{◌≡◌, ◌+◌, ◌<◌, ℕ, zero, suc, Bool, List, [], ◌∷◌, ◌++◌, length, map, get_or, set, slice_get, Option, Some, None, refl, sym, ap, ◌∙◌, arith, subst}
use Rattle.std.specs.Prelude.{flat_map, not, false}
use Rattle.std.specs.Io.KnownBytes.{Appends}
use Rattle.std.proofs.lemmas.Option.{same_Some}
use Rattle.afdx_table.specs.declared.rows.PortRow.{PortRow}
use Rattle.afdx_table.specs.Content.{Content}
use Rattle.afdx_core.specs.State.{Run}
use Rattle.afdx_trace.specs.declared.shown.Selection.{Selection}
use Rattle.afdx_trace.specs.Shown.{shown_of}
use Rattle.afdx_trace.specs.Arrivals.{arrivals_text}
use Rattle.afdx_trace.specs.Departures.{departures_heading, port_lines}
use Rattle.afdx_trace_run.specs.Traced.{IsTraced}
use Rattle.afdx_session.specs.declared.plan.Plan.{Plan}
use Rattle.afdx_session.specs.Outcome.{table_in, is_cleared, IsDoneOf}
use Rattle.afdx_arguments.specs.declared.request.Paths.{Paths}
use Rattle.afdx_folder.specs.Files.{Files, Shows, KeepsFiles}
use Rattle.afdx_serve.specs.Runs.{inputs_of}
use Rattle.afdx_serve.specs.Traces.{TracesTo, trace_texts}
use Rattle.afdx_serve.specs.Inner.Leading.{IsPlanOf, AreOpenedPorts}
use Rattle.afdx_serve.specs.Inner.Outputs.{AreEmpty, HaveBytes}
use Rattle.afdx_serve.specs.Inner.Telling.{HasMore, IsTold, joined}
use Rattle.afdx_serve.proofs.LeadLemmas.{has_plan, captures_before, opened_are_captures}

-- ---- what was told went to new files that were lent in two parts

between : {N : Type 0} (contents : N → Option (List ℕ)) (f g h i : N) (bytes : List ℕ) → f ≡ h → g ≡ i → Appends (contents f) (contents g) bytes → Appends (contents h) (contents i) bytes
between contents f g h i bytes same other more =
    subst (λ x. Appends (contents x) (contents i) bytes) same (subst (λ x. Appends (contents f) (contents x) bytes) other more)

module _ {R N : Type 0} (remaining : R → Option (List ℕ)) (contents : N → Option (List ℕ)) (shown : Option Files) (path : List ℕ) (cleared : Bool) (t : Content) (s : Selection)
    (names : List (List ℕ)) (readers : List R) (opened : AreOpenedPorts remaining shown path t names readers) (a h : N) (parts laters : List N) where
  told_of_two : (p q : N) → IsTraced remaining contents cleared t s readers p a parts laters → Appends (contents q) (contents h) departures_heading
      → IsTold contents shown path cleared t s (p ∷ q ∷ parts) (a ∷ h ∷ laters)
  told_of_two p q traced heading = record {
    texts = traced.texts;
    state = traced.state;
    captures = opened_are_captures remaining shown path t names readers traced.texts opened.named opened.opened traced.read traced.done.ports;
    done = traced.done;
    isolated = traced.isolated;
    many = ap (λ (n : ℕ). suc (suc n)) traced.departures.long;
    arrivals = λ f g here there. between contents p a f g (arrivals_text s traced.state.run) (same_Some p f here) (same_Some a g there) traced.arrivals;
    heading = λ f g here there. between contents q h f g departures_heading (same_Some q f here) (same_Some h g there) heading;
    parts = λ k row is.
        let number : suc (suc k) ≡ k + 2 = omega arith in
        subst (λ place. HasMore contents (p ∷ q ∷ parts) (a ∷ h ∷ laters) place (port_lines (shown_of s traced.state.run.rows) traced.state.run row)) number
        (λ f g here there. traced.departures.each k row f g (ap (λ (c : Content). slice_get c.ports k) traced.done.table ∙ is) here there);
  }

  pub is_told : (old both : List N) (d e : N) → old ≡ both ++ parts → length both ≡ 2 → IsTraced remaining contents cleared t s readers (get_or both 0 d) a parts laters
      → Appends (contents (get_or (set both 0 a) 1 e)) (contents h) departures_heading → IsTold contents shown path cleared t s old (set (set both 0 a) 1 h ++ laters)
  is_told old [] d e is two traced heading = absurd (omega (arith, two))
  is_told old (p ∷ []) d e is two traced heading = absurd (omega (arith, two))
  is_told old (p ∷ q ∷ r ∷ both) d e is two traced heading = absurd (omega (arith, two))
  is_told old (p ∷ q ∷ []) d e is two traced heading =
      subst (λ (fs : List N). IsTold contents shown path cleared t s fs (a ∷ h ∷ laters)) (sym is) (told_of_two p q traced heading)

-- ---- what new files have

-- what was appended to nothing
all_of_it : (old new : Option (List ℕ)) (bytes : List ℕ) → old ≡ Some [] → Appends old new bytes → new ≡ Some bytes
all_of_it None new bytes empty more = absurd (cc)
all_of_it (Some xs) None bytes empty more = absurd more
all_of_it (Some xs) (Some ys) bytes empty more = ap Some (more ∙ ap (λ (start : List ℕ). start ++ bytes) (same_Some xs [] empty))

-- the lines of the ports of a run
abbrev pub parts_of : Selection → Run → List PortRow → List (List ℕ)
parts_of s r ports = map (port_lines (shown_of s r.rows) r) ports

there_at : {X : Type 0} (xs : List X) (k : ℕ) → k < length xs → (x : X) × (slice_get xs k ≡ Some x)
there_at [] k lt = absurd (omega (arith, lt))
there_at (x ∷ xs) zero lt = (x, refl)
there_at (x ∷ xs) (suc k) lt = there_at xs k (omega (arith, lt))

within : {X : Type 0} (xs : List X) (k : ℕ) (x : X) → slice_get xs k ≡ Some x → k < length xs
within [] k x is = absurd (cc)
within (y ∷ xs) zero x is = omega arith
within (y ∷ xs) (suc k) x is = let lt = within xs k x is in omega (arith, lt)

of_port : {X Y : Type 0} (f : X → Y) (xs : List X) (k : ℕ) (y : Y) → slice_get (map f xs) k ≡ Some y → (x : X) × (slice_get xs k ≡ Some x) × (y ≡ f x)
of_port f [] k y is = absurd (cc)
of_port f (x ∷ xs) zero y is = (x, refl, sym (same_Some (f x) y is))
of_port f (x ∷ xs) (suc k) y is = of_port f xs k y is

-- new files that had no byte have what was told
pub have_told : {N : Type 0} (contents : N → Option (List ℕ)) (shown : Option Files) (files : Option Files) (path : List ℕ) (cleared : Bool) (t : Content) (s : Selection) (old new : List N)
    → AreEmpty contents files old → (told : IsTold contents shown path cleared t s old new)
    → HaveBytes contents files new (arrivals_text s told.state.run ∷ departures_heading ∷ parts_of s told.state.run t.ports)
have_told contents shown None path cleared t s old new empty told = tt
have_told {N} contents shown (Some f) path cleared t s old new empty told = each where
  of_place : (place : ℕ) (n : N) (bytes : List ℕ) → slice_get new place ≡ Some n → HasMore contents old new place bytes → contents n ≡ Some bytes
  of_place place n bytes there more =
      let o = there_at old place (let lt = within new place n there in let many = told.many in omega (arith, lt, many)) in
      all_of_it (contents o.0) (contents n) bytes (empty place o.0 o.1) (more o.0 n o.1 there)

  each : (place : ℕ) (n : N) (bytes : List ℕ) → slice_get new place ≡ Some n
      → slice_get (arrivals_text s told.state.run ∷ departures_heading ∷ parts_of s told.state.run t.ports) place ≡ Some bytes → contents n ≡ Some bytes
  each zero n bytes there is = of_place 0 n (arrivals_text s told.state.run) there told.arrivals ∙ is
  each (suc zero) n bytes there is = of_place 1 n departures_heading there told.heading ∙ is
  each (suc (suc k)) n bytes there is =
      let p = of_port (port_lines (shown_of s told.state.run.rows) told.state.run) t.ports k bytes is in
      let number : k + 2 ≡ suc (suc k) = omega arith in
      of_place (suc (suc k)) n (port_lines (shown_of s told.state.run.rows) told.state.run p.0) there
      (subst (λ place. HasMore contents old new place (port_lines (shown_of s told.state.run.rows) told.state.run p.0)) number (told.parts k p.0 p.1))
      ∙ ap Some (sym p.2)

-- the lines of all ports, one after the other
pub joined_lines : {X : Type 0} (f : X → List ℕ) (xs : List X) → joined (map f xs) ≡ flat_map f xs
joined_lines f [] = refl
joined_lines f (x ∷ xs) = ap (λ (more : List ℕ). f x ++ more) (joined_lines f xs)

-- the two texts
pub have_texts : {N : Type 0} (contents : N → Option (List ℕ)) (files : Option Files) (both : List N) (s : Selection) (r : Run) (t : Content) → r.table ≡ t
    → HaveBytes contents files both (arrivals_text s r ∷ (departures_heading ++ joined (parts_of s r t.ports)) ∷ []) → HaveBytes contents files both (trace_texts s r)
have_texts contents files both s r t is have =
    let lines = ap (λ (u : Content). joined (parts_of s r u.ports)) (sym is) ∙ joined_lines (port_lines (shown_of s r.rows) r) r.table.ports in
    subst (λ (more : List ℕ). HaveBytes contents files both (arrivals_text s r ∷ (departures_heading ++ more) ∷ [])) lines have

-- ---- what the files of a run lead to

-- what was told of the captures of a folder, after new files were begun, is what the files lead to
pub traces_to : {N : Type 0} (contents : N → Option (List ℕ)) (paths : Paths) (first b : Option Files) (text : List ℕ) (plan : Plan) (s : Selection) (old new : List N)
    → Shows first paths.table.now text → IsPlanOf text paths.unchecked plan → KeepsFiles first b
    → (told : IsTold contents b paths.input.now (is_cleared plan) (table_in plan) s old new) → TracesTo paths first told.state
traces_to contents paths first b text plan s old new shows is keeps told = record {
  table = table_in plan;
  captures = told.texts;
  has_plan = has_plan (inputs_of paths) first text plan shows is;
  has_captures = captures_before first b paths.input.now (table_in plan) told.texts keeps told.captures;
  is_done = subst (λ (cleared : Bool). IsDoneOf cleared (table_in plan) told.texts told.state) is.cleared told.done;
  isolated = λ (checked : paths.unchecked ≡ false). told.isolated (is.cleared ∙ ap not checked);
}
