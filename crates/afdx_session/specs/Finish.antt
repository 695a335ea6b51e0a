-- What the end of a session answers.
use Rattle.std.specs.Prelude.{◌≡◌, ◌⊎◌, true, false, List, map, drop}
use Rattle.afdx_session.specs.declared.plan.RunFault.{RunFault}
use Rattle.afdx_session.specs.declared.plan.RunFault.TheVariants as run
use Rattle.afdx_session.specs.Texts.{Text}
use Rattle.afdx_session.specs.Reading.{IsReadFault}
use Rattle.afdx_session.specs.Outcome.{Results, IsOutcome}
use Rattle.afdx_session.specs.Headline.{IsIsolated}
use Rattle.afdx_session.specs.Session.{Intake, Seen, taken_of, after_failure}

-- the capture of a port, as far as it has come
abbrev pub text_in : Intake → Text
text_in i = (i.port, i.bytes)

-- the captures of all ports, as far as they have come
abbrev pub texts_in : Seen → List Text
texts_in v = map text_in v.intakes

-- what was not taken of a port's output
abbrev pub rest_of : Seen → Text → Text
rest_of v text = (text.0, drop (taken_of v text.0) text.1)

-- what was taken of each port and then what is given is the output of a run over the whole captures; its counts are given
pub record IsFinished (v : Seen) (results : Results) : Type 0 where
  pub none_failed : v.failed ≡ false
  pub whole : Results
  pub outcome : IsOutcome v.table (texts_in v) whole
  pub captures : results.captures ≡ map (rest_of v) whole.captures
  pub counts : results.counts ≡ whole.counts
  -- on a checked table the headline holds of it
  pub isolated : v.accepted ≡ true → IsIsolated v.table (texts_in v) whole

-- there is no outcome. Either a call had failed, and nothing changes; or memory ran out or a capture has a fault, that of the lowest port,
-- and nothing changes but that a call has failed
abbrev pub IsNotFinished : Seen → RunFault × Seen → Type 0
IsNotFinished v e =
    ((v.failed ≡ true) × (e.0 ≡ run.Failed) × (e.1 ≡ v))
    ⊎ ((v.failed ≡ false) × IsReadFault (texts_in v) e.0 × (e.1 ≡ after_failure v))
