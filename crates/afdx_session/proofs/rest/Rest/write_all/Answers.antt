use Rattle.std.proofs.Common.{refl, ap, subst, arith, ◌≡◌, ◌∙◌, ◌<◌, ℕ, List, length, length-set, slice_get, slice_index_or, get_or, inl, inr}
use Rattle.std.specs.Io.KnownBytes.{Appends}
use Rattle.std.proofs.lemmas.Option.{slice_get-get_or, slice_get_cases}
use Rattle.afdx_session.proofs.Drawing.{as_itself, then_before}
use Rattle.afdx_session.proofs.Writing.{rests_none, rests_on}
use Rattle.afdx_session.proofs.rest.Rest.write_all.Goals as goal

pub loop-place-init : goal.loop-place-init
loop-place-init g c = record {
  before = as_itself c.args.self.now.state;
  long = refl;
  on = λ t arrivals left many. (left, refl, rests_none g.F.NewFile.contents t arrivals _ c.args.files.now);
}

pub loop-place-preserved : goal.loop-place-preserved
loop-place-preserved g c =
    let contents = g.F.NewFile.contents in
    let files = c.loop-place.files in
    let place = c.loop-place.place in
    let taken = c.args.self.now.taken in
    let file = slice_index_or files place c.index-files-place.result in
    let there : place < length files = let test = c.loop-place-test.true in let long = c.loop-place.invariant.long in omega (arith, test, long) in
    let appends = subst (Appends (contents file) (contents c.append.new.self)) c.deref.ensures.value c.in_ok-append.ensures in
    record {
      before = then_before _ _ _ c.loop-place.invariant.before c.write.ensures.before;
      long = length-set files place c.append.new.self ∙ c.loop-place.invariant.long;
      on = λ t arrivals left many.
          let was = c.loop-place.invariant.on t arrivals left many in
          let within : place < length t.ports = let long = c.loop-place.invariant.long in omega (arith, there, long, many) in
          let counts = c.loop-place.self.taken in
          let count = slice_get-get_or counts place 0 (let as_many = was.0.many in omega (arith, within, as_many)) in
          elim ((slice_get_cases t.ports place).1) [
            | inl port ↦ (
              (c.in_ok-write.ensures.rest t arrivals port.0 (get_or counts place 0) was.0 port.2 count).0,
              c.write.ensures.taken ∙ was.1,
              rests_on contents t arrivals taken place c.args.files.now files file c.append.new.self c.write.new.text.items (slice_get-get_or files place c.index-files-place.result there) appends
                  (λ p k is_port is_k. (c.in_ok-write.ensures.rest t arrivals p k was.0 is_port (ap (λ (ns : List ℕ). slice_get ns place) was.1 ∙ is_k)).1) was.2,
            )
            | inr past ↦ absurd (let le = past.0 in omega (arith, within, le))
          ];
    }

pub returns-clause-rests : goal.returns-clause-rests
returns-clause-rests g c = λ t arrivals left many.
    let was = c.loop-place.invariant.on t arrivals left many in
    let test = c.loop-place-test.false in
    let bound = c.loop-place.auto.place-end in
    let long = c.loop-place.invariant.long in
    let same : c.loop-place.place ≡ length t.ports = omega (arith, test, bound, long, many) in
    rw (← same) (was.0, was.2)

pub returns-in_err-write-clause-before : goal.returns-in_err-write-clause-before
returns-in_err-write-clause-before g c = then_before _ _ _ c.loop-place.invariant.before c.write.ensures.before

pub returns-in_err-append-clause-before : goal.returns-in_err-append-clause-before
returns-in_err-append-clause-before g c = then_before _ _ _ c.loop-place.invariant.before c.write.ensures.before
