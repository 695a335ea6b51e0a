use Rattle.std.proofs.Common.{rules, ◌≡◌, ◌-◌, ℕ, Bool, List, [], length, drop, sym, ap, subst, ◌∙◌, arith, length-append}
use Rattle.std.proofs.KnownBytes.{Consumes-nil}
use Rattle.afdx_alone.specs.Inner.Polices.{Polices, Leaves}
use Rattle.afdx_alone.specs.Inner.Window.{items}
use Rattle.afdx_alone.proofs.Reading.{next_piece, last_bytes, read_fault, read_answer}
use Rattle.afdx_alone.proofs.answer.read_alone.Goals as goal

pub loop-turn-init : goal.loop-turn-init
loop-turn-init g c =
    let none = c.new-window.ensures in
    let empty = ap length none in
    let zero = c.in_ok-policing.ensures.none in (
      ([], Consumes-nil _, subst (λ (bytes : List ℕ). Polices c.args.link.now [] bytes c.in_ok-policing.policing) (sym none) (c.in_ok-policing.ensures.polices [])),
      omega (arith, empty),
      omega (arith, empty, zero),
    )

pub take-requires-clause-polices : goal.take-requires-clause-polices
take-requires-clause-polices g c =
    let came = c.in_ok-ended.ensures.ok in
    let read = next_piece c.rests_are_read_on.ensures.stays _ _ _ _ _ _ _ _ c.loop-turn.invariant.0 (c.as_slice.ensures.same ∙ came.1) came.2 in
    (read.0, read.2)

pub returns-in_err-left-clause-fault : goal.returns-in_err-left-clause-fault
returns-in_err-left-clause-fault g c =
    let came = c.in_ok-ended.ensures.ok in
    let read = next_piece c.rests_are_read_on.ensures.stays _ _ _ _ _ _ _ _ c.loop-turn.invariant.0 (c.as_slice.ensures.same ∙ came.1) came.2 in
    let why = read_fault c.early_faults_stay.ensures _ _ read.0 c.in_ok-ended.ended c.in_err-left.field-0.0 read.1 came.3 (c.in_err-left.ensures.taken read.0 read.2) in
    search rules

pub returns-then-ended-clause-answer : goal.returns-then-ended-clause-answer
returns-then-ended-clause-answer g c =
    let came = c.in_ok-ended.ensures.ok in
    let read = next_piece c.rests_are_read_on.ensures.stays _ _ _ _ _ _ _ _ c.loop-turn.invariant.0 (c.as_slice.ensures.same ∙ came.1) came.2 in
    let left = subst (λ (ended : Bool). Leaves ended c.take.new.self.format c.in_ok-left.field-0.now) c.if-ended.true c.in_ok-left.ensures.left in
    rw c.into_answer.ensures
    (read_answer _ _ c.args.link.now read.0 c.in_ok-left.field-0.now c.take.new.self read.1 (came.3 c.if-ended.true) left (c.in_ok-left.ensures.taken read.0 read.2))

pub keep_last-requires : goal.keep_last-requires
keep_last-requires g c =
    let rest = c.in_ok-left.field-0.now in
    let last = c.in_ok-left.ensures.last in
    let all = ap length (last.1 ∙ c.as_slice.ensures.same) in
    let long = length-append last.0 rest in
    omega (arith, all, long)

pub loop-turn-preserved : goal.loop-turn-preserved
loop-turn-preserved g c =
    let came = c.in_ok-ended.ensures.ok in
    let read = next_piece c.rests_are_read_on.ensures.stays _ _ _ _ _ _ _ _ c.loop-turn.invariant.0 (c.as_slice.ensures.same ∙ came.1) came.2 in
    let rest = c.in_ok-left.field-0.now in
    let left = subst (λ (ended : Bool). Leaves ended c.take.new.self.format rest) c.if-ended.false c.in_ok-left.ensures.left in
    let kept : items c.keep_last.new.self ≡ rest =
    c.keep_last.ensures ∙ ap (λ (bytes : List ℕ). drop (length bytes - length rest) bytes) (sym c.as_slice.ensures.same) ∙ last_bytes c.as_slice.result.now rest c.in_ok-left.ensures.last in
    let long = ap length kept in
    let few = c.in_ok-left.ensures.few in
    let most = c.as_slice.ensures.few in
    let before = c.loop-turn.invariant.2 in (
      (read.0, read.1, subst (λ (bytes : List ℕ). Polices c.args.link.now read.0 bytes c.take.new.self) (sym kept) (c.in_ok-left.ensures.taken read.0 read.2)),
      omega (arith, long, left),
      omega (arith, long, few, most, before),
    )
