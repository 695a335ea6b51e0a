-- The fault of a table is the first, by port and by rule.
use Rattle.std.proofs.Common.{◌≡◌, ◌⊎◌, ℕ, ◌≤◌, ◌<◌, List, [], ◌∷◌, get_or, Option, Some, None, refl, sym, ap, ◌∙◌, subst, arith, inl, inr, cond, nat_eq, nat_lt}
use Rattle.std.specs.Prelude.{All, Contains, IfSome}
use Rattle.std.specs.Option.{option_or}
use Rattle.std.proofs.lemmas.Bool.{cases_Bool, cases_lt, ltb-true}
use Rattle.std.proofs.lemmas.List.Elements.{All-nil, All-cons, All-contains, All-from_recursion, Contains-append_right}
use Rattle.afdx_table.specs.declared.rows.PortRow.{PortRow}
use Rattle.afdx_table.specs.Link.{Link}
use Rattle.afdx_table.specs.Content.{Content}
use Rattle.afdx_table.specs.WellFormed.{Rises, IsWellFormed}
use Rattle.afdx_load.specs.declared.fault.Rule.{Rule}
use Rattle.afdx_load.specs.declared.fault.Rule.TheVariants.{Rate, Buffer, HighDelay, LowDelay}
use Rattle.afdx_load.specs.declared.fault.LoadFault.{LoadFault}
use Rattle.afdx_load.specs.Load.{Load, load_of}
use Rattle.afdx_load.specs.Accepted.{past_bound, fault_at, first_fault}
use Rattle.afdx_load.specs.First.{need_of, limit_of}
use Rattle.afdx_load.specs.Inner.First.{place_of, IsFirstFault, FaultIsTheFirst}
use Rattle.afdx_load.proofs.SlotLemmas.{any_default, rise}
use Rattle.afdx_load.proofs.FaultLemmas.{none_bound, or_none, some_none}

-- ---- one rule

-- the load breaks the rule
abbrev Broken : PortRow → Load → Rule → Type 0
Broken row s rule = (need : ℕ) × (need_of rule s ≡ Some need) × (limit_of rule row < need)

abbrev past_rule : PortRow → Load → Rule → Option LoadFault
past_rule row s rule = past_bound row.id rule (limit_of rule row) (need_of rule s)

record Says (port : ℕ) (rule : Rule) (limit : ℕ) (need : Option ℕ) (f : LoadFault) : Type 0 where
  of_port : port ≡ f.port
  of_rule : rule ≡ f.rule
  need_is : need ≡ Some f.need
  limit_is : limit ≡ f.limit
  above : f.limit < f.need

fault_says : (port : ℕ) (rule : Rule) (limit : ℕ) (need : Option ℕ) (f : LoadFault) → past_bound port rule limit need ≡ Some f → Says port rule limit need f
fault_says port rule limit None f h = absurd (some_none f (sym h))
fault_says port rule limit (Some need) f h = elim (cases_Bool (nat_lt limit need)) [
  | inl over ↦
      let new : LoadFault = record { port = port; rule = rule; need = need; limit = limit } in
      let g : Some new ≡ Some f = rw over at h in
      let same : new ≡ f = cc in
      let lt : new.limit < new.need = ltb-true limit need over in
      subst (λ (x : LoadFault). Says port rule limit (Some need) x) {x = new} same
      (record { of_port = refl; of_rule = refl; need_is = refl; limit_is = refl; above = lt })
  | inr within ↦ absurd (some_none f (sym (rw within at h)))
]

kept : (row : PortRow) (s : Load) (rule : Rule) → past_bound row.id rule (limit_of rule row) (need_of rule s) ≡ None → Broken row s rule → ⊥
kept row s rule h broken =
    let within = none_bound row.id rule (limit_of rule row) (need_of rule s) h in
    let le : IfSome (Some broken.0) (λ n. n ≤ limit_of rule row) = rw broken.1 at within in
    let lt = broken.2 in
    absurd (omega (arith, le, lt))

-- ---- one port

some_or : (a b : Option LoadFault) (f : LoadFault) → option_or a b ≡ Some f → (a ≡ Some f) ⊎ ((a ≡ None) × (b ≡ Some f))
some_or None b f h = inr (refl, h)
some_or (Some x) b f h = inl h

place_most : (rule : Rule) → place_of rule ≤ 3
place_most Rate = omega arith
place_most Buffer = omega arith
place_most HighDelay = omega arith
place_most LowDelay = omega arith

-- the rules before one
before : (row : PortRow) (s : Load) (rule : Rule)
    → (0 < place_of rule → Broken row s Rate → ⊥) → (1 < place_of rule → Broken row s Buffer → ⊥) → (2 < place_of rule → Broken row s HighDelay → ⊥)
    → (other : Rule) → place_of other < place_of rule → Broken row s other → ⊥
before row s rule a b c Rate lt broken = a lt broken
before row s rule a b c Buffer lt broken = b lt broken
before row s rule a b c HighDelay lt broken = c lt broken
before row s rule a b c LowDelay lt broken = absurd (omega (arith, lt, place_most rule))

record IsFirstAt (row : PortRow) (s : Load) (f : LoadFault) : Type 0 where
  says : Says row.id f.rule (limit_of f.rule row) (need_of f.rule s) f
  none_before : (other : Rule) → place_of other < place_of f.rule → Broken row s other → ⊥

first_by : (row : PortRow) (s : Load) (rule : Rule) (f : LoadFault) → past_bound row.id rule (limit_of rule row) (need_of rule s) ≡ Some f
    → ((other : Rule) → place_of other < place_of rule → Broken row s other → ⊥) → IsFirstAt row s f
first_by row s rule f h none =
    let says = fault_says row.id rule (limit_of rule row) (need_of rule s) f h in
    let is : rule ≡ f.rule = says.of_rule in
    record {
      says = subst (λ (r : Rule). Says row.id r (limit_of r row) (need_of r s) f) is says;
      none_before = subst (λ (r : Rule). (other : Rule) → place_of other < place_of r → Broken row s other → ⊥) is none;
    }

first_at : (row : PortRow) (s : Load) (f : LoadFault) → fault_at row s ≡ Some f → IsFirstAt row s f
unfolding fault_at
first_at row s f h =
    let a : Option LoadFault = past_rule row s Rate in
    let b : Option LoadFault = past_rule row s Buffer in
    let c : Option LoadFault = past_rule row s HighDelay in
    let d : Option LoadFault = past_rule row s LowDelay in
    by_place a b c d refl refl refl refl (some_or (option_or (option_or a b) c) d f h)
  where
    by_first : (a b : Option LoadFault) → a ≡ past_rule row s Rate → b ≡ past_rule row s Buffer → (a ≡ Some f) ⊎ ((a ≡ None) × (b ≡ Some f)) → IsFirstAt row s f
    by_first a b ea eb (inl rate) = first_by row s Rate f (sym ea ∙ rate) (before row s Rate (λ lt. absurd (omega (arith, lt))) (λ lt. absurd (omega (arith, lt))) (λ lt. absurd (omega (arith, lt))))
    by_first a b ea eb (inr buffer) = first_by row s Buffer f (sym eb ∙ buffer.1)
        (before row s Buffer (λ lt. kept row s Rate (sym ea ∙ buffer.0)) (λ lt. absurd (omega (arith, lt))) (λ lt. absurd (omega (arith, lt))))

    by_third : (a b c : Option LoadFault) → a ≡ past_rule row s Rate → b ≡ past_rule row s Buffer → c ≡ past_rule row s HighDelay
        → (option_or a b ≡ Some f) ⊎ ((option_or a b ≡ None) × (c ≡ Some f)) → IsFirstAt row s f
    by_third a b c ea eb ec (inl early) = by_first a b ea eb (some_or a b f early)
    by_third a b c ea eb ec (inr high) =
        let fine = or_none a b high.0 in
        first_by row s HighDelay f (sym ec ∙ high.1) (before row s HighDelay (λ lt. kept row s Rate (sym ea ∙ fine.0)) (λ lt. kept row s Buffer (sym eb ∙ fine.1)) (λ lt. absurd (omega (arith, lt))))

    by_place : (a b c d : Option LoadFault) → a ≡ past_rule row s Rate → b ≡ past_rule row s Buffer → c ≡ past_rule row s HighDelay → d ≡ past_rule row s LowDelay
        → (option_or (option_or a b) c ≡ Some f) ⊎ ((option_or (option_or a b) c ≡ None) × (d ≡ Some f)) → IsFirstAt row s f
    by_place a b c d ea eb ec ed (inl early) = by_third a b c ea eb ec (some_or (option_or a b) c f early)
    by_place a b c d ea eb ec ed (inr low) =
        let fine = or_none (option_or a b) c low.0 in
        let finer = or_none a b fine.0 in
        first_by row s LowDelay f (sym ed ∙ low.1) (before row s LowDelay (λ lt. kept row s Rate (sym ea ∙ finer.0)) (λ lt. kept row s Buffer (sym eb ∙ finer.1))
        (λ lt. kept row s HighDelay (sym ec ∙ fine.1)))

none_broken : (row : PortRow) (s : Load) → fault_at row s ≡ None → (rule : Rule) → Broken row s rule → ⊥
unfolding fault_at
none_broken row s h rule =
    let a : Option LoadFault = past_rule row s Rate in
    let b : Option LoadFault = past_rule row s Buffer in
    let c : Option LoadFault = past_rule row s HighDelay in
    let d : Option LoadFault = past_rule row s LowDelay in
    let early = or_none (option_or (option_or a b) c) d h in
    let earlier = or_none (option_or a b) c early.0 in
    let first = or_none a b earlier.0 in
    by rule first.0 first.1 earlier.1 early.1
  where
    by : (rule : Rule) → past_rule row s Rate ≡ None → past_rule row s Buffer ≡ None → past_rule row s HighDelay ≡ None → past_rule row s LowDelay ≡ None → Broken row s rule → ⊥
    by Rate p q r t = kept row s Rate p
    by Buffer p q r t = kept row s Buffer q
    by HighDelay p q r t = kept row s HighDelay r
    by LowDelay p q r t = kept row s LowDelay t

-- ---- all ports

abbrev load_at : ℕ → List Link → PortRow → Load
load_at latency links row = load_of latency row.speed row.id links

-- no port of a lower number breaks a rule
abbrev IsFineBelow : ℕ → List Link → ℕ → PortRow → Type 0
IsFineBelow latency links id other = other.id < id → (rule : Rule) → Broken other (load_at latency links other) rule → ⊥

record IsFirstIn (latency : ℕ) (links : List Link) (rows : List PortRow) (f : LoadFault) : Type 0 where
  row : PortRow
  is_port : Contains rows row
  here : IsFirstAt row (load_at latency links row) f
  lower : All (IsFineBelow latency links row.id) rows

first_in : (latency : ℕ) (links : List Link) (rows : List PortRow) (f : LoadFault) → Rises rows → first_fault latency links rows ≡ Some f → IsFirstIn latency links rows f
first_in latency links [] f rises h = absurd (some_none f (sym h))
first_in latency links (row ∷ rows) f rises h = elim (some_or (fault_at row (load_at latency links row)) (first_fault latency links rows) f h) [
  | inl now ↦ record {
    row = row;
    is_port = (0, omega arith, refl);
    here = first_at row (load_at latency links row) f now;
    lower = All-cons (IsFineBelow latency links row.id) row rows (λ lt. absurd (omega (arith, lt)))
        (λ k d within lt. absurd (let above = All-from_recursion (λ (q : PortRow). row.id < q.id) rows rises.0 k d within in omega (arith, above, lt)));
  }
  | inr later ↦
      let rest = first_in latency links rows f rises.1 later.1 in
      record {
        row = rest.row;
        is_port = Contains-append_right (row ∷ []) rows rest.row rest.is_port;
        here = rest.here;
        lower = All-cons (IsFineBelow latency links rest.row.id) row rows (λ lt. none_broken row (load_at latency links row) later.0) rest.lower;
      }
]

is_first : (c : Content) (f : LoadFault) → IsWellFormed c → first_fault c.latency c.links c.ports ≡ Some f → IsFirstFault c f
is_first c f well h =
    let first = first_in c.latency c.links c.ports f well.ports_rise h in
    let says = first.here.says in
    record {
      row = first.row;
      is_port = first.is_port;
      number = says.of_port;
      need = says.need_is;
      limit = says.limit_is;
      above = says.above;
      no_rule_before = first.here.none_before;
      no_lower_port = λ other among. All-contains (IsFineBelow c.latency c.links first.row.id) c.ports other first.lower among;
    }

-- ---- there is one such fault

-- two ports of one number are one
one_port : (rows : List PortRow) (a b : PortRow) → Rises rows → Contains rows a → Contains rows b → a.id ≡ b.id → a ≡ b
one_port rows a b rises x y same =
    let first : (get_or rows x.0 a).id ≡ a.id = ap (λ (r : PortRow). r.id) x.2 in
    let second : (get_or rows y.0 b).id ≡ b.id = ap (λ (r : PortRow). r.id) y.2 in
    elim (cases_lt x.0 y.0) [
      | inl lt ↦ absurd (let up = rise rows x.0 y.0 a b rises lt y.1 in omega (arith, up, first, second, same))
      | inr le ↦ elim (cases_lt y.0 x.0) [
        | inl lt ↦ absurd (let up = rise rows y.0 x.0 b a rises lt x.1 in omega (arith, up, first, second, same))
        | inr ge ↦
            let place : x.0 ≡ y.0 = omega (arith, le, ge) in
            sym x.2 ∙ any_default rows x.0 a b x.1 ∙ ap (λ i. get_or rows i b) place ∙ y.2
      ]
    ]

rule_at : ℕ → Rule
rule_at n = cond (nat_eq n 0) Rate (cond (nat_eq n 1) Buffer (cond (nat_eq n 2) HighDelay LowDelay))

placed : (rule : Rule) → rule ≡ rule_at (place_of rule)
unfolding rule_at
placed Rate = refl
placed Buffer = refl
placed HighDelay = refl
placed LowDelay = refl

same_rule : (a b : Rule) → place_of a ≡ place_of b → a ≡ b
same_rule a b h = placed a ∙ ap rule_at h ∙ sym (placed b)

-- a fault breaks its rule
breaks : (c : Content) (f : LoadFault) (first : IsFirstFault c f) → Broken first.row (load_at c.latency c.links first.row) f.rule
breaks c f first = (f.need, first.need, let above = first.above in rw first.limit above)

-- of two first faults, neither is at a lower port, nor of an earlier rule
no_higher : (c : Content) (f g : LoadFault) (a : IsFirstFault c f) (b : IsFirstFault c g) → b.row.id ≤ a.row.id
no_higher c f g a b = elim (cases_lt a.row.id b.row.id) [
  | inl lt ↦ absurd (b.no_lower_port a.row a.is_port lt f.rule (breaks c f a))
  | inr le ↦ le
]

no_later : (c : Content) (f g : LoadFault) (a : IsFirstFault c f) (b : IsFirstFault c g) → a.row ≡ b.row → place_of g.rule ≤ place_of f.rule
no_later c f g a b same = elim (cases_lt (place_of f.rule) (place_of g.rule)) [
  | inl lt ↦ absurd (b.no_rule_before f.rule lt (subst (λ (row : PortRow). Broken row (load_at c.latency c.links row) f.rule) same (breaks c f a)))
  | inr le ↦ le
]

fault : ℕ → Rule → ℕ → ℕ → LoadFault
fault port rule need limit = record { port = port; rule = rule; need = need; limit = limit }

same_fault : (p q : ℕ) (r s : Rule) (n m l k : ℕ) → p ≡ q → r ≡ s → n ≡ m → l ≡ k → fault p r n l ≡ fault q s m k
same_fault p q r s n m l k e1 e2 e3 e4 = cc

one_fault : (c : Content) (f g : LoadFault) → IsWellFormed c → IsFirstFault c f → IsFirstFault c g → f ≡ g
unfolding fault
one_fault c f g well a b =
    let row : a.row ≡ b.row = one_port c.ports a.row b.row well.ports_rise a.is_port b.is_port (omega (arith, no_higher c f g a b, no_higher c g f b a)) in
    let rule : f.rule ≡ g.rule = same_rule f.rule g.rule (omega (arith, no_later c f g a b row, no_later c g f b a (sym row))) in
    let need : Some f.need ≡ Some g.need = sym a.need ∙ ap (λ (r : Rule). need_of r (load_at c.latency c.links a.row)) rule ∙ ap (λ (p : PortRow). need_of g.rule (load_at c.latency c.links p)) row
    ∙ b.need in
    let limit : f.limit ≡ g.limit = sym a.limit ∙ ap (λ (r : Rule). limit_of r a.row) rule ∙ ap (limit_of g.rule) row ∙ b.limit in
    let port : f.port ≡ g.port = sym a.number ∙ ap (λ (p : PortRow). p.id) row ∙ b.number in
    same_fault f.port g.port f.rule g.rule f.need g.need f.limit g.limit port rule (let n : f.need ≡ g.need = cc in n) limit

-- no port of a table without faults breaks a rule
none_in : (latency : ℕ) (links : List Link) (rows : List PortRow) → first_fault latency links rows ≡ None → All (λ row. (rule : Rule) → Broken row (load_at latency links row) rule → ⊥) rows
none_in latency links [] h = All-nil (λ row. (rule : Rule) → Broken row (load_at latency links row) rule → ⊥)
none_in latency links (row ∷ rows) h =
    let both = or_none (fault_at row (load_at latency links row)) (first_fault latency links rows) h in
    All-cons (λ r. (rule : Rule) → Broken r (load_at latency links r) rule → ⊥) row rows (none_broken row (load_at latency links row) both.0) (none_in latency links rows both.1)

is_named : (c : Content) (f : LoadFault) → IsWellFormed c → IsFirstFault c f → first_fault c.latency c.links c.ports ≡ Some f
is_named c f well first = by (first_fault c.latency c.links c.ports) refl where
  by : (o : Option LoadFault) → first_fault c.latency c.links c.ports ≡ o → first_fault c.latency c.links c.ports ≡ Some f
  by None e = absurd (All-contains (λ row. (rule : Rule) → Broken row (load_at c.latency c.links row) rule → ⊥) c.ports first.row (none_in c.latency c.links c.ports e) first.is_port f.rule
      (breaks c f first))
  by (Some g) e = e ∙ ap Some (one_fault c g f well (is_first c g well e) first)

pub fault_is_first : FaultIsTheFirst
fault_is_first c f well = (is_first c f well, is_named c f well)
