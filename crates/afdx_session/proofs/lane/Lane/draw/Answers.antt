use Rattle.std.proofs.Common.{[], ◌∷◌, ◌++◌, ◌∙◌, ap}
use Rattle.afdx_session.proofs.Laning.{adds_none, adds_one, adds_same, read_all, fewer_left}
use Rattle.afdx_session.proofs.lane.Lane.draw.Goals as goal

pub returns-in_ok-push_back-in-Some-clause-ok : goal.returns-in_ok-push_back-in-Some-clause-ok
returns-in_ok-push_back-in-Some-clause-ok g c =
    let answer = rw c.in-Some.is at c.in_ok-record.ensures.ok in
    let on = c.next.ensures.read_on in
    record {
      frame = c.in-Some.record;
      adds = adds_one c.taken_records_are_the_first.ensures.joins c.taken_records_are_the_first.ensures.latest c.args.self.now c.args.self.now _ [] c.in-Some.record (adds_none _) answer.2 answer.0
          on.bytes answer.1 c.stamp-self.ensures
          (c.in_ok-push_back-in-Some.ensures.items ∙ ap (λ f. c.next.new.self.waiting.items ++ f ∷ []) c.guessed.ensures ∙ ap (λ w. w.items ++ c.in-Some.record ∷ []) c.next.ensures.waiting);
      last = c.stamp-self.ensures;
      ended = c.next.ensures.ended;
      no_fault = answer.0;
      fewer = fewer_left c.args.self.now.reader.bytes c.next.new.self.reader.bytes c.args.self.now.reader.given c.next.new.self.reader.given c.in-Some.record on.bytes answer.1 answer.2;
    }

pub returns-in-None-clause-ok : goal.returns-in-None-clause-ok
returns-in-None-clause-ok g c =
    let answer = rw c.in-None.is at c.in_ok-record.ensures.ok in
    let on = c.next.ensures.read_on in
    record {
      adds = adds_same c.args.self.now c.args.self.now _ [] (adds_none _) answer.0 on.bytes answer.1 c.next.ensures.last c.next.ensures.waiting;
      no_fault = answer.0;
      read = read_all c.args.self.now _ on.bytes answer.1 on.ended answer.2 c.is_closed-self.ensures;
    }
