-- A link's ports of those that were recorded, before anything left there.
use Rattle.std.proofs.Common.{◌≡◌, ℕ, suc, ◌+◌, ◌<◌, Bool, true, false, not, cond, List, [], ◌∷◌, ◌++◌, length, Option, Some, None, refl, sym, ap, subst, ◌∙◌, arith}
use Rattle.std.specs.Prelude.{◌==◌, ◌||◌, if◌then◌else◌}
use Rattle.std.specs.List.{AllByRecursion, position, prefix_len}
use Rattle.std.proofs.lemmas.Bool.{eqb-true, eq-eqb, lt-ltb}
use Rattle.afdx_units.specs.declared.line.Priority.{Priority}
use Rattle.afdx_table.specs.declared.rows.PortRow.{PortRow}
use Rattle.afdx_table.specs.Link.{names_port}
use Rattle.afdx_table.specs.Content.{Content, port_row}
use Rattle.afdx_pairing.specs.declared.limits.Limits.{Limits}
use Rattle.afdx_following.specs.declared.watch.Watch.{Watch}
use Rattle.afdx_following.specs.Watch.{limits_of}
use Rattle.afdx_following.specs.Output.{Output, output_at}
use Rattle.afdx_recordings.specs.declared.outputs.Outputs.{Outputs}
use Rattle.afdx_recordings.specs.Recordings.{is_recorded}
use Rattle.afdx_compare.specs.Comparison.{bound_in, output_first, outputs_first}

-- ---- each has the limits of its line, with the bound for the link's priority

pub record HasLimits (w : Watch) (t : Content) (priority : Priority) (port : ℕ) (m : Limits) : Type 0 where
  pub row : PortRow
  pub is_row : port_row t port ≡ Some row
  pub limits : m ≡ limits_of w (bound_in w.scatter t row priority) row.speed

one_has : (w : Watch) (t : Content) (keeps : Bool) (priority : Priority) (port : ℕ) (is : Bool) (row : Option PortRow) → port_row t port ≡ row → (rest : List Output)
    → AllByRecursion (λ o. HasLimits w t priority o.port o.limits) rest
    → AllByRecursion (λ o. HasLimits w t priority o.port o.limits) ((if is then output_first w t keeps priority port row else []) ++ rest)
one_has w t keeps priority port true None found rest all = all
one_has w t keeps priority port true (Some row) found rest all = (record { row = row; is_row = found; limits = refl }, all)
one_has w t keeps priority port false row found rest all = all

pub all_have : (w : Watch) (t : Content) (recorded : Outputs) (keeps : Bool) (priority : Priority) (ports : List ℕ)
    → AllByRecursion (λ o. HasLimits w t priority o.port o.limits) (outputs_first w t recorded keeps priority ports)
all_have w t recorded keeps priority [] = tt
all_have w t recorded keeps priority (port ∷ ports) =
    one_has w t keeps priority port (is_recorded recorded port) (port_row t port) refl (outputs_first w t recorded keeps priority ports) (all_have w t recorded keeps priority ports)

-- ---- each is one that the link leads to

or_right : (a b : Bool) → b ≡ true → (a || b) ≡ true
or_right true b is = refl
or_right false b is = is

or_left : (a b : Bool) → a ≡ true → (a || b) ≡ true
or_left true b is = refl
or_left false b is = absurd (let never = is in cc)

names_more : (port : ℕ) (qs ports : List ℕ) → AllByRecursion (λ q. names_port q ports ≡ true) qs → AllByRecursion (λ q. names_port q (port ∷ ports) ≡ true) qs
names_more port [] ports all = tt
names_more port (q ∷ qs) ports all = (or_right (port == q) (names_port q ports) all.0, names_more port qs ports all.1)

pub names_all : (ports : List ℕ) → AllByRecursion (λ q. names_port q ports ≡ true) ports
names_all [] = tt
names_all (port ∷ ports) = (or_left (port == port) (names_port port ports) (eq-eqb port port refl), names_more port ports ports (names_all ports))

one_leads : (w : Watch) (t : Content) (keeps : Bool) (priority : Priority) (to : List ℕ) (port : ℕ) (is : Bool) (row : Option PortRow) (rest : List Output) → names_port port to ≡ true
    → AllByRecursion (λ o. names_port o.port to ≡ true) rest → AllByRecursion (λ o. names_port o.port to ≡ true) ((if is then output_first w t keeps priority port row else []) ++ rest)
one_leads w t keeps priority to port true None rest names all = all
one_leads w t keeps priority to port true (Some row) rest names all = (names, all)
one_leads w t keeps priority to port false row rest names all = all

pub all_lead : (w : Watch) (t : Content) (recorded : Outputs) (keeps : Bool) (priority : Priority) (to ports : List ℕ) → AllByRecursion (λ q. names_port q to ≡ true) ports
    → AllByRecursion (λ o. names_port o.port to ≡ true) (outputs_first w t recorded keeps priority ports)
all_lead w t recorded keeps priority to [] names = tt
all_lead w t recorded keeps priority to (port ∷ ports) names =
    one_leads w t keeps priority to port (is_recorded recorded port) (port_row t port) (outputs_first w t recorded keeps priority ports) names.0
    (all_lead w t recorded keeps priority to ports names.1)

-- ---- and each that was recorded and that the link leads to is there

abbrev before : ℕ → List Output → ℕ
before port outputs = prefix_len (λ o. not (o.port == port)) outputs

before_more : (port : ℕ) (os rest : List Output) → before port rest < length rest → before port (os ++ rest) < length (os ++ rest)
before_more port [] rest lt = lt
before_more port (o ∷ os) rest lt =
    let more = before_more port os rest lt in
    elim (not (o.port == port)) as (λ b. cond b (1 + before port (os ++ rest)) 0 < suc (length (os ++ rest))) [
      | true ↦ let less : 1 + before port (os ++ rest) < suc (length (os ++ rest)) = omega (arith, more) in less
      | false ↦ let less : 0 < suc (length (os ++ rest)) = omega arith in less
    ]

here_first : (port : ℕ) (o : Output) (rest : List Output) → o.port ≡ port → before port (o ∷ rest) < length (o ∷ rest)
here_first port o rest same =
    let less : 0 < suc (length rest) = omega arith in
    subst (λ (b : Bool). cond (not b) (1 + before port rest) 0 < suc (length rest)) (sym (eq-eqb o.port port same)) less

here_there : (w : Watch) (t : Content) (recorded : Outputs) (keeps : Bool) (priority : Priority) (port : ℕ) (row : PortRow) (q : ℕ) (rest : List Output) → is_recorded recorded port ≡ true
    → port_row t port ≡ Some row → q ≡ port → before port ((if is_recorded recorded q then output_first w t keeps priority q (port_row t q) else []) ++ rest)
    < length ((if is_recorded recorded q then output_first w t keeps priority q (port_row t q) else []) ++ rest)
here_there w t recorded keeps priority port row q rest is there at =
    subst (λ (os : List Output). before port (os ++ rest) < length (os ++ rest))
    (sym (ap (λ (b : Bool). if b then output_first w t keeps priority q (port_row t q) else []) (ap (λ (p : ℕ). is_recorded recorded p) at ∙ is)
    ∙ ap (λ (o : Option PortRow). output_first w t keeps priority q o) (ap (λ (p : ℕ). port_row t p) at ∙ there)))
    (here_first port (output_at q (limits_of w (bound_in w.scatter t row priority) row.speed) keeps) rest at)

outputs_there : (w : Watch) (t : Content) (recorded : Outputs) (keeps : Bool) (priority : Priority) (port : ℕ) (row : PortRow) (ports : List ℕ) → is_recorded recorded port ≡ true
    → port_row t port ≡ Some row → names_port port ports ≡ true
    → before port (outputs_first w t recorded keeps priority ports) < length (outputs_first w t recorded keeps priority ports)
outputs_there w t recorded keeps priority port row [] is there names = absurd (let never = names in cc)
outputs_there w t recorded keeps priority port row (q ∷ qs) is there names = by (q == port) refl names (λ rest. outputs_there w t recorded keeps priority port row qs is there rest) where
  by : (b : Bool) → (q == port) ≡ b → (b || names_port port qs) ≡ true
      → (names_port port qs ≡ true → before port (outputs_first w t recorded keeps priority qs) < length (outputs_first w t recorded keeps priority qs))
      → before port (outputs_first w t recorded keeps priority (q ∷ qs)) < length (outputs_first w t recorded keeps priority (q ∷ qs))
  by true same names rest = here_there w t recorded keeps priority port row q (outputs_first w t recorded keeps priority qs) is there (eqb-true q port same)
  by false other names rest =
      before_more port (if is_recorded recorded q then output_first w t keeps priority q (port_row t q) else []) (outputs_first w t recorded keeps priority qs)
      (rest names)

pub output_place : (w : Watch) (t : Content) (recorded : Outputs) (keeps : Bool) (priority : Priority) (port : ℕ) (row : PortRow) (ports : List ℕ) → is_recorded recorded port ≡ true
    → port_row t port ≡ Some row → names_port port ports ≡ true
    → (k : ℕ) × (position (λ o. o.port == port) (outputs_first w t recorded keeps priority ports) ≡ Some k)
output_place w t recorded keeps priority port row ports is there names =
    let os = outputs_first w t recorded keeps priority ports in
    let lt = outputs_there w t recorded keeps priority port row ports is there names in
    (before port os, ap (λ (b : Bool). cond b (Some (before port os)) None) (lt-ltb (before port os) (length os) lt))
