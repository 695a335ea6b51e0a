-- The verdict is the first case that holds.
use Rattle.std.proofs.Common.{◌≡◌, ℕ, ◌+◌, ◌<◌, ◌≤◌, nat_eq, true, not, cond, length, Option, Some, None, refl, sym, ap, ◌∙◌, subst, inl, inr, arith}
use Rattle.std.specs.Str.{bytes_eq}
use Rattle.std.proofs.lemmas.Bool.{cases_Bool, cases_lt, lt-ltb, le-ltb}
use Rattle.std.proofs.lemmas.Bool.Decides.{nat_tests}
use Rattle.std.proofs.lemmas.Slice.Eq.{bytes_eq-Decides}
use Rattle.afdx_units.specs.Line.{size_of}
use Rattle.afdx_pcap.specs.Record.{Record}
use Rattle.afdx_frame.specs.Address.{constant_of, link_of}
use Rattle.afdx_table.specs.Link.{Link}
use Rattle.afdx_table.specs.Content.{Content, link_row}
use Rattle.afdx_filter.specs.declared.outcome.Verdict.{Verdict}
use Rattle.afdx_filter.specs.declared.outcome.Verdict.TheVariants.{Cut, Short, Long, Foreign, NoLink, WrongPort, TooBig, Clean}
use Rattle.afdx_filter.specs.Verdict.{link_verdict, verdict_of}
use Rattle.afdx_filter.specs.Inner.Cases.{HasCase, place_of, IsFirstCase, VerdictIsTheFirstCase}

-- ---- places

-- the case at a place, of those that name no link
at_place : ℕ → Verdict
at_place n =
    cond (nat_eq n 0) Cut (cond (nat_eq n 1) Short (cond (nat_eq n 2) Long (cond (nat_eq n 3) Foreign
    (cond (nat_eq n 4) NoLink (cond (nat_eq n 5) WrongPort TooBig)))))

placed : (v : Verdict) → place_of v < 7 → v ≡ at_place (place_of v)
unfolding at_place
placed Cut h = refl
placed Short h = refl
placed Long h = refl
placed Foreign h = refl
placed NoLink h = refl
placed WrongPort h = refl
placed TooBig h = refl
placed (Clean id) h = absurd (omega arith)

same_place : (v w : Verdict) → place_of v < 7 → place_of v ≡ place_of w → v ≡ w
same_place v w low same =
    let low_too : place_of w < 7 = subst (λ n. n < 7) same low in
    placed v low ∙ ap at_place same ∙ sym (placed w low_too)

-- what has the last place is clean
last_place : (v : Verdict) → 7 ≤ place_of v → (id : ℕ) × (v ≡ Clean id)
last_place Cut h = absurd (omega arith)
last_place Short h = absurd (omega arith)
last_place Long h = absurd (omega arith)
last_place Foreign h = absurd (omega arith)
last_place NoLink h = absurd (omega arith)
last_place WrongPort h = absurd (omega arith)
last_place TooBig h = absurd (omega arith)
last_place (Clean id) h = (id, refl)

-- no case before a place holds
abbrev NoneBefore : Content → ℕ → Record → ℕ → Type 0
NoneBefore table port frame n = (other : Verdict) → place_of other < n → HasCase table port frame other → ⊥

none_at_first : (table : Content) (port : ℕ) (frame : Record) → NoneBefore table port frame 0
none_at_first table port frame other lt has = absurd (omega arith)

-- one case more
none_more : (table : Content) (port : ℕ) (frame : Record) (v : Verdict) → place_of v < 7 → (HasCase table port frame v → ⊥) → NoneBefore table port frame (place_of v)
    → NoneBefore table port frame (place_of v + 1)
none_more table port frame v low fails none other lt has =
    elim (cases_lt (place_of other) (place_of v)) [
      | inl before ↦ none other before has
      | inr after ↦
          let same : place_of v ≡ place_of other = omega arith in
          fails (subst (HasCase table port frame) (sym (same_place v other low same)) has)
    ]

-- ---- the verdict's case holds, and none before it

of_link : (table : Content) (port : ℕ) (frame : Record) (o : Option Link) → link_row table (link_of frame.bytes) ≡ o → NoneBefore table port frame 4
    → IsFirstCase table port frame (link_verdict port (size_of (length frame.bytes)) o)
of_link table port frame None is none = record { holds = is; none_before = none }
of_link table port frame (Some link) is none =
    let linked : NoneBefore table port frame 5 = none_more table port frame NoLink (omega arith) (λ no. absurd (let e = sym is ∙ no in cc)) none in
    elim (cases_Bool (nat_eq link.from port)) [
      | inr other ↦ rw other (record { holds = (link, is, grind (arith, nat_tests)); none_before = linked })
      | inl same ↦
          let at_port : NoneBefore table port frame 6 = none_more table port frame WrongPort (omega arith) (λ wrong.
          let e : Some wrong.0 ≡ Some link = sym wrong.1 ∙ is in
          let one : wrong.0 ≡ link = cc in
          wrong.2 (ap (λ (l : Link). l.from) one ∙ number link.from port same)) linked in
          elim (cases_lt link.max_size (size_of (length frame.bytes))) [
            | inl big ↦ rw (same, lt-ltb link.max_size (size_of (length frame.bytes)) big) (record { holds = (link, is, big); none_before = at_port })
            | inr fits ↦ rw (same, le-ltb link.max_size (size_of (length frame.bytes)) fits) (record {
              holds = (link, is, refl);
              none_before = none_more table port frame TooBig (omega arith) (λ big.
                  let e : Some big.0 ≡ Some link = sym big.1 ∙ is in
                  let one : big.0 ≡ link = cc in
                  let lt : link.max_size < size_of (length frame.bytes) = subst (λ (l : Link). l.max_size < size_of (length frame.bytes)) one big.2 in
                  absurd (omega (arith, lt, fits))) at_port;
            })
          ]
    ]
  where
    number : (a b : ℕ) → nat_eq a b ≡ true → a ≡ b
    number a b h = grind (arith, nat_tests)

first : (table : Content) (port : ℕ) (frame : Record) → IsFirstCase table port frame (verdict_of table port frame)
first table port frame =
    let size = size_of (length frame.bytes) in
    elim (cases_lt (length frame.bytes) frame.original) [
      | inl cut ↦ rw (lt-ltb (length frame.bytes) frame.original cut) (record { holds = cut; none_before = none_at_first table port frame })
      | inr whole ↦
          let none1 : NoneBefore table port frame 1 = none_more table port frame Cut (omega arith) (λ cut. absurd (omega (arith, cut, whole))) (none_at_first table port frame) in
          rw (le-ltb (length frame.bytes) frame.original whole) (elim (cases_lt size 64) [
            | inl short ↦ rw (lt-ltb size 64 short) (record { holds = short; none_before = none1 })
            | inr least ↦
                let none2 : NoneBefore table port frame 2 = none_more table port frame Short (omega arith) (λ short. absurd (omega (arith, short, least))) none1 in
                rw (le-ltb size 64 least) (elim (cases_lt 1518 size) [
                  | inl long ↦ rw (lt-ltb 1518 size long) (record { holds = long; none_before = none2 })
                  | inr most ↦
                      let none3 : NoneBefore table port frame 3 = none_more table port frame Long (omega arith) (λ long. absurd (omega (arith, long, most))) none2 in
                      rw (le-ltb 1518 size most) (of_constant table port frame none3)
                ])
          ])
    ]
  where
    of_constant : (table : Content) (port : ℕ) (frame : Record) → NoneBefore table port frame 3
        → IsFirstCase table port frame (cond (not (bytes_eq (constant_of frame.bytes) table.constant)) Foreign
        (link_verdict port (size_of (length frame.bytes)) (link_row table (link_of frame.bytes))))
    of_constant table port frame none =
        let decides = bytes_eq-Decides (constant_of frame.bytes) table.constant in
        elim (cases_Bool (bytes_eq (constant_of frame.bytes) table.constant)) [
          | inr other ↦ rw other (record { holds = λ same. absurd (let e = sym other ∙ decides.1 same in cc); none_before = none })
          | inl same ↦ rw same (of_link table port frame (link_row table (link_of frame.bytes)) refl
              (none_more table port frame Foreign (omega arith) (λ other. other (decides.0 same)) none))
        ]

-- ---- there is one such case

only : (table : Content) (port : ℕ) (frame : Record) (v w : Verdict) → IsFirstCase table port frame v → IsFirstCase table port frame w → v ≡ w
only table port frame v w a b =
    elim (cases_lt (place_of v) (place_of w)) [
      | inl before ↦ absurd (b.none_before v before a.holds)
      | inr le ↦ elim (cases_lt (place_of w) (place_of v)) [
        | inl after ↦ absurd (a.none_before w after b.holds)
        | inr ge ↦ elim (cases_lt (place_of v) 7) [
          | inl low ↦ same_place v w low (omega (arith, le, ge))
          | inr high ↦
              let c = last_place v high in
              let d = last_place w (omega (arith, high, le)) in
              let x = subst (HasCase table port frame) c.1 a.holds in
              let y = subst (HasCase table port frame) d.1 b.holds in
              let e : Some x.0 ≡ Some y.0 = sym x.1 ∙ y.1 in
              let one : x.0 ≡ y.0 = cc in
              c.1 ∙ ap Clean (sym x.2 ∙ ap (λ (l : Link). l.id) one ∙ y.2) ∙ sym d.1
        ]
      ]
    ]

pub is_first : VerdictIsTheFirstCase
is_first table port frame v = (
  λ is. subst (IsFirstCase table port frame) is (first table port frame),
  λ case. only table port frame (verdict_of table port frame) v (first table port frame) case,
)
