use Rattle.std.proofs.Common.{Bool, [], refl, sym, ◌∙◌, subst}
use Rattle.std.specs.Io.KnownBytes.{Appends}
use Rattle.afdx_trace.specs.declared.traced_port.TracedPort.{TracedPort}
use Rattle.afdx_trace.specs.Inner.Telling.{IsTelling, TellsMore}
use Rattle.afdx_trace.proofs.Telling.{still_telling, fewer_left}
use Rattle.afdx_trace.proofs.traced_port.TracedPort.tell.Goals as goal

pub loop-self-init : goal.loop-self-init
loop-self-init g c = record { telling = c.requires; same = record { row = refl; settings = refl; content = refl }; gone = λ start has. has }

pub tell_next-requires : goal.tell_next-requires
tell_next-requires g c = c.loop-self.invariant.telling

pub loop-self-preserved : goal.loop-self-preserved
loop-self-preserved g c =
    let shown = c.args.shown.now in
    let contents = g.F.NewFile.contents in
    let was = c.loop-self.invariant.telling in
    let o = c.tell_next.new.self in
    let more = subst (λ (b : Bool). TellsMore shown b was.0 o) c.if-branch.true (c.in_ok-tell_next.ensures.ok was.0 was.1) in
    let lines = c.in_ok-hand_over.ensures in
    record {
      telling = (more.1, still_telling shown o _ more.1 refl refl refl refl refl more.3.sent_first more.3.aged_first lines.whole more.3);
      same = record {
        row = c.tell_next.ensures.same.row ∙ c.loop-self.invariant.same.row;
        settings = c.tell_next.ensures.same.settings ∙ c.loop-self.invariant.same.settings;
        content = c.tell_next.ensures.same.content ∙ c.loop-self.invariant.same.content;
      };
      gone = λ start has. lines.gone start (subst (λ gone. Appends (contents start) (contents c.loop-self.file) gone.items) (sym c.tell_next.ensures.gone) (c.loop-self.invariant.gone start has));
    }

pub loop-self-smaller : goal.loop-self-smaller
loop-self-smaller g c =
    let shown = c.args.shown.now in
    let was = c.loop-self.invariant.telling in
    let o = c.tell_next.new.self in
    let more = subst (λ (b : Bool). TellsMore shown b was.0 o) c.if-branch.true (c.in_ok-tell_next.ensures.ok was.0 was.1) in
    let lines = c.in_ok-hand_over.ensures in
    let now : TracedPort _ = record o { lines = c.hand_over.new.self } in
    fewer_left shown c.loop-self.self now more.0 more.1 (subst (λ left. IsTelling shown c.loop-self.self left) more.2 was.1)
    (still_telling shown o now more.1 refl refl refl refl refl more.3.sent_first more.3.aged_first lines.whole more.3)

-- all was told, and what was told is let go
pub let_go-requires-clause-sent : goal.let_go-requires-clause-sent
let_go-requires-clause-sent g c =
    let was = c.loop-self.invariant.telling in
    let all = (subst (λ (b : Bool). TellsMore c.args.shown.now b was.0 c.tell_next.new.self) c.if-branch.false (c.in_ok-tell_next.ensures.ok was.0 was.1)).1 in
    (all.sent_first, all.told.many_sent)

pub let_go-requires-clause-aged : goal.let_go-requires-clause-aged
let_go-requires-clause-aged g c =
    let was = c.loop-self.invariant.telling in
    let all = (subst (λ (b : Bool). TellsMore c.args.shown.now b was.0 c.tell_next.new.self) c.if-branch.false (c.in_ok-tell_next.ensures.ok was.0 was.1)).1 in
    (all.aged_first, all.told.many_aged)

pub returns-clause-same : goal.returns-clause-same
returns-clause-same g c = record {
  row = c.tell_next.ensures.same.row ∙ c.loop-self.invariant.same.row;
  settings = c.tell_next.ensures.same.settings ∙ c.loop-self.invariant.same.settings;
  content = c.let_go.ensures.content ∙ c.tell_next.ensures.same.content ∙ c.loop-self.invariant.same.content;
}

pub returns-clause-told : goal.returns-clause-told
returns-clause-told g c =
    let was = c.loop-self.invariant.telling in
    let all = (subst (λ (b : Bool). TellsMore c.args.shown.now b was.0 c.tell_next.new.self) c.if-branch.false (c.in_ok-tell_next.ensures.ok was.0 was.1)).1 in
    still_telling c.args.shown.now c.tell_next.new.self _ [] refl refl c.let_go.ensures.content refl refl c.let_go.ensures.first.0 c.let_go.ensures.first.1 refl all

pub returns-clause-gone : goal.returns-clause-gone
returns-clause-gone g c = λ start has.
    let contents = g.F.NewFile.contents in
    subst (λ gone. Appends (contents start) (contents c.loop-self.file) gone.items) (sym c.tell_next.ensures.gone) (c.loop-self.invariant.gone start has)
