-- Numbers that are met one after another, and sources of which no two have one number.
use Rattle.std.proofs.Common.{◌≡◌, ℕ, zero, suc, ◌<◌, ◌==◌, ◌||◌, Bool, true, false, not, cond, is_some, get_or, List, [], ◌∷◌, ◌++◌, length, map, filter, Option, Ok, Err, refl, ap, sym, ◌∙◌}
use Rattle.std.proofs.Common.{arith, subst, inl, inr, append_assoc}
use Rattle.std.specs.Prelude.{Contains, ◌≢◌}
use Rattle.std.specs.List.{list_any}
use Rattle.std.proofs.lemmas.Bool.{true≢false, eq-eqb}
use Rattle.std.proofs.lemmas.List.{append-nil, map-append}
use Rattle.std.proofs.lemmas.List.Elements.{Contains-append_cases, filter-append}
use Rattle.afdx_wiring.specs.declared.fault.NetworkFault.{NetworkFault}
use Rattle.afdx_wiring.specs.declared.fault.NetworkFault.TheVariants as fault
use Rattle.afdx_wiring.specs.declared.layout.Wire.{Wire}
use Rattle.afdx_wiring.specs.Refusal.{◌>>=◌, unless, Gives}
use Rattle.afdx_network_check.specs.Net.{Network, Row, IsSource}
use Rattle.afdx_network_check.specs.Order.{Answer, is_fed, fed_numbers, each_once}
use Rattle.afdx_network_check.proofs.Chains.{first_kept, rest_kept, unless_so}

-- ---- some rows, and then more

fed_append : (net : Network) (rs ss : List Row) → fed_numbers net (rs ++ ss) ≡ fed_numbers net rs ++ fed_numbers net ss
fed_append net rs ss =
    let number : Row → ℕ = λ r. r.link.id in
    ap (map number) (filter-append (is_fed net) rs ss) ∙ map-append number (filter (is_fed net) rs) (filter (is_fed net) ss)

once_append : (before xs ys : List ℕ) → each_once before (xs ++ ys) ≡ (each_once before xs >>= λ _. each_once (before ++ xs) ys)
once_append before [] ys = ap (λ (ids : List ℕ). each_once ids ys) (sym (append-nil before))
once_append before (x ∷ xs) ys =
    let more = once_append (before ++ x ∷ []) xs ys ∙ ap (λ (ids : List ℕ). each_once (before ++ x ∷ []) xs >>= λ _. each_once ids ys) (append_assoc before (x ∷ []) xs) in
    by (unless (list_any (λ n. n == x) before) (fault.TwiceSource x)) more where
      by : (a : Answer) → each_once (before ++ x ∷ []) (xs ++ ys) ≡ (each_once (before ++ x ∷ []) xs >>= λ _. each_once (before ++ x ∷ xs) ys)
          → (a >>= λ _. each_once (before ++ x ∷ []) (xs ++ ys)) ≡ ((a >>= λ _. each_once (before ++ x ∷ []) xs) >>= λ _. each_once (before ++ x ∷ xs) ys)
      by (Ok _) more = more
      by (Err e) more = refl

-- once the numbers of some rows were met, and nothing was refused
pub record Further (net : Network) (before after : List ℕ) (rows rest : List Row) : Type 0 where
  pub met : before ++ fed_numbers net rows ≡ after ++ fed_numbers net rest
  pub first : each_once before (fed_numbers net rows) ≡ each_once after (fed_numbers net rest)

pub go_further : (net : Network) (before after : List ℕ) (rs rest rows : List Row) → rows ≡ rs ++ rest → each_once before (fed_numbers net rs) ≡ Ok tt
    → after ≡ before ++ fed_numbers net rs → Further net before after rows rest
go_further net before after rs rest rows rows_are kept after_is =
    let all : fed_numbers net rows ≡ fed_numbers net rs ++ fed_numbers net rest = ap (fed_numbers net) rows_are ∙ fed_append net rs rest in
    let same : (before ++ fed_numbers net rs) ++ fed_numbers net rest ≡ after ++ fed_numbers net rest = ap (λ (ids : List ℕ). ids ++ fed_numbers net rest) (sym after_is) in
    record {
      met = ap (λ (ids : List ℕ). before ++ ids) all ∙ sym (append_assoc before (fed_numbers net rs) (fed_numbers net rest)) ∙ same;
      first =
          ap (each_once before) all ∙ once_append before (fed_numbers net rs) (fed_numbers net rest)
          ∙ ap (λ (a : Answer). a >>= λ _. each_once (before ++ fed_numbers net rs) (fed_numbers net rest)) kept
          ∙ ap (λ (ids : List ℕ). each_once ids (fed_numbers net rest)) (sym after_is);
    }

-- where a number is refused
pub stop_there : (net : Network) (before : List ℕ) (rs rest rows : List Row) (e : NetworkFault) → rows ≡ rs ++ rest → each_once before (fed_numbers net rs) ≡ Err e
    → each_once before (fed_numbers net rows) ≡ Err e
stop_there net before rs rest rows e rows_are broken =
    ap (λ (q : List Row). each_once before (fed_numbers net q)) rows_are
    ∙ ap (each_once before) (fed_append net rs rest)
    ∙ once_append before (fed_numbers net rs) (fed_numbers net rest)
    ∙ ap (λ (a : Answer). a >>= λ _. each_once (before ++ fed_numbers net rs) (fed_numbers net rest)) broken

pub gives_refusal : (answer given : Answer) (e : NetworkFault) → given ≡ Err e → (e ≢ fault.Memory → answer ≡ Err e) → Gives (λ u. u) given answer
gives_refusal answer given e is refused = subst (λ (a : Answer). Gives (λ u. u) a answer) (sym is) refused

-- ---- so no two

abbrev has : ℕ → List ℕ → Bool
has id ids = list_any (λ n. n == id) ids

has_last : (id : ℕ) (ids : List ℕ) → has id (ids ++ id ∷ []) ≡ true
has_last id [] = ap (λ b. b || false) (eq-eqb id id refl)
has_last id (n ∷ ids) = ap (λ b. (n == id) || b) (has_last id ids) ∙ or_true (n == id) where
  or_true : (b : Bool) → (b || true) ≡ true
  or_true true = refl
  or_true false = refl

has_more : (id further : ℕ) (ids : List ℕ) → has id ids ≡ true → has id (ids ++ further ∷ []) ≡ true
has_more id further [] h = absurd cc
has_more id further (n ∷ ids) h = by (n == id) h (has_more id further ids) where
  by : (b : Bool) → (b || has id ids) ≡ true → (has id ids ≡ true → has id (ids ++ further ∷ []) ≡ true) → (b || has id (ids ++ further ∷ [])) ≡ true
  by true is rest = refl
  by false is rest = rest is

-- what is new further on is new before
not_before : (id further : ℕ) (ids : List ℕ) → has id (ids ++ further ∷ []) ≡ false → has id ids ≡ false
not_before id further ids new = by (has id ids) refl where
  by : (b : Bool) → has id ids ≡ b → b ≡ false
  by false is = refl
  by true is = absurd (true≢false (sym (has_more id further ids is) ∙ new))

fed : (net : Network) (r : Row) → IsSource net r → is_fed net r ≡ true
fed net r source = ap (λ (o : Option Wire). not (is_some o)) source

alone : (x y : Row) → Contains (x ∷ []) y → x ≡ y
alone x y among = by among.0 among.1 among.2 where
  by : (k : ℕ) → k < length (x ∷ []) → get_or (x ∷ []) k y ≡ y → x ≡ y
  by zero within at = at
  by (suc k) within at = absurd (omega (arith, within))

-- the numbers of a row and more
abbrev numbers_with : Network → Row → List Row → Bool → List ℕ
numbers_with net x xs b = map (λ r. r.link.id) (cond b (x ∷ filter (is_fed net) xs) (filter (is_fed net) xs))

-- what is met at a source
record New (net : Network) (before : List ℕ) (x : Row) (xs : List Row) : Type 0 where
  pub new : has x.link.id before ≡ false
  pub rest : each_once (before ++ x.link.id ∷ []) (fed_numbers net xs) ≡ Ok tt

at_source : (net : Network) (before : List ℕ) (x : Row) (xs : List Row) → each_once before (numbers_with net x xs true) ≡ Ok tt → New net before x xs
at_source net before x xs h =
    let here : Answer = unless (has x.link.id before) (fault.TwiceSource x.link.id) in
    let rest : Unit {0} → Answer = λ _. each_once (before ++ x.link.id ∷ []) (fed_numbers net xs) in
    record { new = unless_so (has x.link.id before) (fault.TwiceSource x.link.id) (first_kept here rest tt h); rest = rest_kept here rest tt h }

-- a source among these is new
each_new : (net : Network) (before : List ℕ) (rs : List Row) (s : Row) → each_once before (fed_numbers net rs) ≡ Ok tt → Contains rs s → IsSource net s → has s.link.id before ≡ false
each_new net before [] s h among source = absurd (let within = among.1 in omega (arith, within))
each_new net before (x ∷ xs) s h among source = by (λ ids kept s_there. each_new net ids xs s kept s_there source) (is_fed net x) refl h where
  here : (b : Bool) → is_fed net x ≡ b → each_once before (numbers_with net x xs b) ≡ Ok tt → x ≡ s → has s.link.id before ≡ false
  here true is kept same = subst (λ (q : Row). has q.link.id before ≡ false) same (at_source net before x xs kept).new
  here false is kept same = absurd (true≢false (sym (fed net x (subst (IsSource net) (sym same) source)) ∙ is))

  there : ((ids : List ℕ) → each_once ids (fed_numbers net xs) ≡ Ok tt → Contains xs s → has s.link.id ids ≡ false)
      → (b : Bool) → each_once before (numbers_with net x xs b) ≡ Ok tt → Contains xs s → has s.link.id before ≡ false
  there further true kept s_there = not_before s.link.id x.link.id before (further (before ++ x.link.id ∷ []) (at_source net before x xs kept).rest s_there)
  there further false kept s_there = further before kept s_there

  by : ((ids : List ℕ) → each_once ids (fed_numbers net xs) ≡ Ok tt → Contains xs s → has s.link.id ids ≡ false)
      → (b : Bool) → is_fed net x ≡ b → each_once before (numbers_with net x xs b) ≡ Ok tt → has s.link.id before ≡ false
  by further b is kept = elim (Contains-append_cases (x ∷ []) xs s among) [ inl s_here ↦ here b is kept (alone x s s_here) | inr s_there ↦ there further b kept s_there ]

-- a source, and another one of its number behind it
clash : (net : Network) (before : List ℕ) (x : Row) (xs : List Row) → each_once before (fed_numbers net (x ∷ xs)) ≡ Ok tt → (q : Row) → Contains xs q → IsSource net x → IsSource net q
    → x.link.id ≡ q.link.id → ⊥
clash net before x xs h q q_there x_source q_source number = by (is_fed net x) refl h where
  by : (b : Bool) → is_fed net x ≡ b → each_once before (numbers_with net x xs b) ≡ Ok tt → ⊥
  by false is kept = true≢false (sym (fed net x x_source) ∙ is)
  by true is kept =
      let met : has q.link.id (before ++ x.link.id ∷ []) ≡ true = subst (λ (id : ℕ). has id (before ++ x.link.id ∷ []) ≡ true) number (has_last x.link.id before) in
      true≢false (sym met ∙ each_new net (before ++ x.link.id ∷ []) xs q (at_source net before x xs kept).rest q_there q_source)

-- what is met of the rows behind the first one
behind : (net : Network) (before : List ℕ) (x : Row) (xs : List Row) → each_once before (fed_numbers net (x ∷ xs)) ≡ Ok tt
    → (more : List ℕ) × (each_once more (fed_numbers net xs) ≡ Ok tt)
behind net before x xs h = by (is_fed net x) h where
  by : (b : Bool) → each_once before (numbers_with net x xs b) ≡ Ok tt → (more : List ℕ) × (each_once more (fed_numbers net xs) ≡ Ok tt)
  by false kept = (before, kept)
  by true kept = (before ++ x.link.id ∷ [], (at_source net before x xs kept).rest)

pub once : (net : Network) (before : List ℕ) (rs : List Row) → each_once before (fed_numbers net rs) ≡ Ok tt → (r s : Row) → Contains rs r → Contains rs s
    → IsSource net r → IsSource net s → r.link.id ≡ s.link.id → r ≡ s
once net before [] h r s r_in s_in r_source s_source same = absurd (let within = r_in.1 in omega (arith, within))
once net before (x ∷ xs) h r s r_in s_in r_source s_source same =
    let rest = behind net before x xs h in
    elim (Contains-append_cases (x ∷ []) xs r r_in) [
      | inl r_here ↦ elim (Contains-append_cases (x ∷ []) xs s s_in) [
        | inl s_here ↦ sym (alone x r r_here) ∙ alone x s s_here
        | inr s_there ↦
            let is = alone x r r_here in
            absurd (clash net before x xs h s s_there (subst (IsSource net) (sym is) r_source) s_source (ap (λ (q : Row). q.link.id) is ∙ same))
      ]
      | inr r_there ↦ elim (Contains-append_cases (x ∷ []) xs s s_in) [
        | inl s_here ↦
            let is = alone x s s_here in
            absurd (clash net before x xs h r r_there (subst (IsSource net) (sym is) s_source) r_source (ap (λ (q : Row). q.link.id) is ∙ sym same))
        | inr s_there ↦ once net rest.0 xs rest.1 r s r_there s_there r_source s_source same
      ]
    ]
