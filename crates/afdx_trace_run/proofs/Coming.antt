-- One arrival after the other, and the finished switch of all of them.
use Rattle.std.proofs.Common.{◌≡◌, ◌<◌, ◌≤◌, ◌==◌, nat_lt, ℕ, zero, suc, Bool, true, false, cond, List, [], ◌∷◌, ◌++◌, length, Option, Some, None}
use Rattle.std.proofs.Common.{refl, sym, ap, ◌∙◌, arith, append-nil, inl, inr, subst}
use Rattle.std.specs.Prelude.{◌⊎◌, find, is_none, IfSome}
use Rattle.std.specs.List.{AllByRecursion}
use Rattle.std.specs.Io.KnownBytes.{Appends}
use Rattle.std.proofs.lemmas.Option.{same_Some}
use Rattle.std.proofs.lemmas.Bool.{eq-eqb}
use Rattle.std.proofs.lemmas.Bool.Decides.{nat_tests}
use Rattle.std.proofs.lemmas.List.{map-append, length-map}
use Rattle.afdx_table.specs.declared.rows.PortRow.{PortRow}
use Rattle.afdx_table.specs.Content.{Content, port_row}
use Rattle.afdx_table.specs.WellFormed.{IsWellFormed}
use Rattle.afdx_load.specs.Accepted.{IsAccepted}
use Rattle.afdx_core.specs.declared.step.CoreFault.TheVariants.{NoSuchPort, Earlier}
use Rattle.afdx_core.specs.declared.step.Row.{Row}
use Rattle.afdx_core.specs.Isolation.{IsIsolatedRun, AcceptedTablesIsolate, RunsBegin, RunsTakeArrivals, RunsFinish}
use Rattle.afdx_core.specs.Merge.{Arrival, merged}
use Rattle.afdx_core.specs.Rows.{row_of}
use Rattle.afdx_core.specs.State.{Run, State, fresh_run, after_row, after_finish, refusal_of}
use Rattle.afdx_merging.specs.declared.clock.Clock.{Clock}
use Rattle.afdx_merging.specs.declared.merging.Merging.{Merging}
use Rattle.afdx_merging.specs.Merge.{Arrival as Came, IsBy, IsAfter, same_clock}
use Rattle.afdx_merging.specs.Inner.Merging.{HasMerged}
use Rattle.afdx_merging.specs.Read.{AreMerged}
use Rattle.afdx_merging.proofs.Timed.{IsTimed, all_timed, all_last}
use Rattle.afdx_trace.specs.declared.shown.Selection.{Selection}
use Rattle.afdx_trace.specs.declared.tracing.Tracing.{Tracing}
use Rattle.afdx_trace.specs.Inner.Telling.{Tells, IsFresh, HasToldRun}
use Rattle.afdx_session.specs.Output.{rows_of}
use Rattle.afdx_session.specs.Outcome.{IsDoneOf}
use Rattle.afdx_session.specs.Inner.OneMerge.{MergedIsTheOnlyOne}
use Rattle.afdx_trace_run.specs.Traced.{IsTraced}
use Rattle.afdx_trace_run.specs.Inner.Running.{clocks_of, number_at, arrival_of, arrivals_of, TookAll, HasTold, HasTakenAll}
use Rattle.afdx_trace_run.proofs.Timed.{merged_timed, all_but_last}
use Rattle.afdx_trace_run.proofs.Merged as side

-- ---- no arrival

pub took_none : RunsBegin → (t : Content) → TookAll t [] (fresh_run t)
took_none begins t = record { table = refl; rows = refl; is_run = begins t; latest = λ n early. omega arith }

-- ---- one more

abbrev At : List PortRow → ℕ → ℕ
At ports k = number_at ports k

-- the port of a place is there
is_there : (ports : List PortRow) (k : ℕ) → k < length ports → is_none (find (λ (p : PortRow). p.id == At ports k) ports) ≡ false
is_there [] k lt = absurd (omega (arith, lt))
is_there (p ∷ ports) zero lt = ap (λ (b : Bool). is_none (cond b (Some p) (find (λ (q : PortRow). q.id == p.id) ports))) (eq-eqb p.id p.id refl)
is_there (p ∷ ports) (suc k) lt = by (p.id == At ports k) (is_there ports k (omega (arith, lt))) where
  by : (b : Bool) → is_none (find (λ (q : PortRow). q.id == At ports k) ports) ≡ false → is_none (cond b (Some p) (find (λ (q : PortRow). q.id == At ports k) ports)) ≡ false
  by true rest = refl
  by false rest = rest

not_later : (m n : ℕ) → n ≤ m → nat_lt m n ≡ false
not_later m n le = grind (arith, nat_tests)

none_before : (came : List Came) (a : Came) → IsTimed a → AllByRecursion IsTimed came → AllByRecursion (λ (b : Came). IsBy b a) came → AllByRecursion (λ (b : Came). b.due ≤ a.head.frame.stamp) came
none_before [] a timed all order = tt
none_before (b ∷ came) a timed all order = (one order.0, none_before came a timed all.1 order.1) where
  one : (b.due < a.due) ⊎ ((b.due ≡ a.due) × (b.place ≤ a.place)) → b.due ≤ a.head.frame.stamp
  one (inl less) = let own = timed.due in omega (arith, less, own)
  one (inr same) = let own = timed.due in let is = same.0 in omega (arith, is, own)

module _ (takes : RunsTakeArrivals) (t : Content) (came : List Came) (a : Came) (r : Run) (took : TookAll t came r) (timed : IsTimed a) (all : AllByRecursion IsTimed came)
    (within : a.place < length t.ports) (order : AllByRecursion (λ (b : Came). IsBy b a) came) where
  abbrev port : ℕ
  port = At t.ports a.place

  -- it may be taken
  pub may : refusal_of r port a.head.frame.stamp ≡ None
  may =
      ap (λ (b : Bool). cond b (Some NoSuchPort) (cond (nat_lt a.head.frame.stamp r.latest) (Some Earlier) None))
      (ap (λ (c : Content). is_none (port_row c port)) took.table ∙ is_there t.ports a.place within)
      ∙ ap (λ (b : Bool). cond b (Some Earlier) None) (not_later a.head.frame.stamp r.latest (took.latest a.head.frame.stamp (none_before came a timed all order)))

  pub took_next : TookAll t (came ++ a ∷ []) (after_row (row_of r.table port a.head.frame) r)
  took_next = record {
    table = took.table;
    rows = ap (λ (rows : List Row). rows ++ row_of r.table port a.head.frame ∷ []) took.rows
        ∙ ap (λ (c : Content). rows_of t (arrivals_of t.ports came) ++ row_of c port a.head.frame ∷ []) took.table
        ∙ sym (map-append (λ (x : Arrival). row_of t x.port x.frame) (arrivals_of t.ports came) (arrival_of t.ports a ∷ []))
        ∙ sym (ap (rows_of t) (map-append (arrival_of t.ports) came (a ∷ [])));
    is_run = takes r port a.head.frame may took.is_run;
    latest = λ n early. let last = all_last (λ (b : Came). b.due ≤ n) came a early in let own = timed.due in omega (arith, last, own);
  }

-- ---- all

module _ {R : Type 0} (remaining : R → Option (List ℕ)) (t : Content) (formed : IsWellFormed t) (first : List R) (came : List Came) (are : AreMerged remaining (clocks_of t.ports) first came)
    (timed : AllByRecursion IsTimed came) (only : MergedIsTheOnlyOne) (ends : RunsFinish) (r : Run) (took : TookAll t came r) (cleared : Bool) where
  -- a finished switch of the run
  pub state : State
  state = record { run = after_finish r; frames = []; accepted = cleared; keeps = false }

  pub is_done : IsDoneOf cleared t (side.texts remaining t formed first came are timed) state
  unfolding state
  is_done = record {
    ports = side.are_of_ports remaining t formed first came are timed;
    read = side.read remaining t formed first came are timed;
    are_read = side.captured remaining t formed first came are timed;
    table = took.table;
    rows = took.rows ∙ ap (rows_of t) (side.is_merged remaining t formed first came are timed only);
    is_run = ends r took.is_run;
    all = refl;
    accepted = refl;
  }

  pub is_isolated : AcceptedTablesIsolate → (cleared ≡ true → IsAccepted t) → cleared ≡ true → IsIsolatedRun (after_finish r)
  is_isolated isolate accepted is = isolate (after_finish r) (ends r took.is_run) (subst IsWellFormed (sym took.table) formed) (subst IsAccepted (sym took.table) (accepted is))

-- ---- the next of all

-- where it was read, the readers gave it after those that came
abbrev pub GoesOn : {R Z : Type 0} → (R → Option (List ℕ)) → List R → List R → Merging Z → Merging Z → Came → Type 0
GoesOn {R} {Z} remaining before now m next a =
    (clocks : List Clock) (first : List R) (came : List Came) → HasMerged remaining clocks first before m came
    → HasMerged remaining clocks first now next (came ++ a ∷ []) × IsAfter clocks came a

pub going_on : {R Z : Type 0} (remaining : R → Option (List ℕ)) (before now : List R) (m next : Merging Z) (found : Option Came) (a : Came) → found ≡ Some a
    → IfSome found (GoesOn remaining before now m next) → GoesOn remaining before now m next a
going_on remaining before now m next found a is some = subst (λ (o : Option Came). IfSome o (GoesOn remaining before now m next)) is some

-- it may be taken
module _ {R Z : Type 0} (takes : RunsTakeArrivals) (remaining : R → Option (List ℕ)) (t : Content) (first now : List R) (next : Merging Z) (came : List Came) (a : Came) (r : Run)
    (took : TookAll t came r) (merged : HasMerged remaining (clocks_of t.ports) first now next (came ++ a ∷ [])) (after : IsAfter (clocks_of t.ports) came a) where
  timed_all : AllByRecursion IsTimed (came ++ a ∷ [])
  timed_all = all_timed remaining t.ports first now next (came ++ a ∷ []) merged

  pub timed : IsTimed a
  timed = all_last IsTimed came a timed_all

  all : AllByRecursion IsTimed came
  all = all_but_last IsTimed came a timed_all

  pub is_within : a.place < length t.ports
  is_within =
      let lt = all_last (λ (b : Came). b.place < length (clocks_of t.ports)) came a merged.within in
      let count = length-map t.ports (λ (p : PortRow). same_clock) in
      omega (arith, lt, count)

  pub may_take : refusal_of r (At t.ports a.place) a.head.frame.stamp ≡ None
  may_take = may takes t came a r took timed all is_within after.after

  pub took_more : TookAll t (came ++ a ∷ []) (after_row (row_of r.table (At t.ports a.place) a.head.frame) r)
  took_more = took_next takes t came a r took timed all is_within after.after

-- ---- before the first arrival, and after the last

appends_none : (known : Option (List ℕ)) (bytes : List ℕ) → bytes ≡ [] → Appends known known bytes
appends_none None bytes none = tt
appends_none (Some xs) bytes none = sym (ap (λ (more : List ℕ). xs ++ more) none ∙ append-nil xs)

pub first_told : {R F Z : Type 0} → RunsBegin → (remaining : R → Option (List ℕ)) (contents : F → Option (List ℕ)) (t : Content) (s : Selection) (first now : List R) (file : F) (files : List F)
    (m : Merging Z) (g : Tracing Z) → Tells s (fresh_run t) g → IsFresh g → length files ≡ length t.ports → HasMerged remaining (clocks_of t.ports) first now m []
    → HasTold remaining contents t s first now file file files files m g
first_told {R} {F} {Z} begins remaining contents t s first now file files m g tells fresh long merged = record {
  came = [];
  run = fresh_run t;
  merged = merged;
  took = took_none begins t;
  tells = tells;
  has = appends_none (contents file) g.lines.gone.items fresh.arrivals;
  have = record {
    many = long ∙ sym tells.ports.many;
    long = long ∙ sym tells.ports.many;
    each = λ k f h o here there port. subst (λ (x : F). Appends (contents f) (contents x) o.lines.gone.items) (same_Some f h (sym here ∙ there))
        (appends_none (contents f) o.lines.gone.items (fresh.ports k o port));
  };
}

pub all_traced : {R F Z : Type 0} → MergedIsTheOnlyOne → RunsFinish → AcceptedTablesIsolate → (remaining : R → Option (List ℕ)) (contents : F → Option (List ℕ)) (t : Content) → IsWellFormed t
    → (cleared : Bool) → (cleared ≡ true → IsAccepted t) → (s : Selection) (first : List R) (start file later : F) (starts files laters : List F) (g : Tracing Z)
    → (took : HasTakenAll remaining contents t s first start file starts files g)
    → HasToldRun contents s (after_finish took.run) g file later files laters
    → IsTraced remaining contents cleared t s first start later starts laters
unfolding state
all_traced only ends isolate remaining contents t formed cleared accepted s first start file later starts files laters g took told = record {
  texts = side.texts remaining t formed first took.came took.all timed;
  state = state remaining t formed first took.came took.all timed only ends took.run took.took cleared;
  read = side.are_read remaining t formed first took.came took.all timed;
  done = is_done remaining t formed first took.came took.all timed only ends took.run took.took cleared;
  isolated = is_isolated remaining t formed first took.came took.all timed only ends took.run took.took cleared isolate accepted;
  arrivals = told.arrivals start took.has;
  departures = told.departures starts took.have;
} where
  timed : AllByRecursion IsTimed took.came
  timed = merged_timed remaining t.ports first took.came took.all
