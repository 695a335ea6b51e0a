use Rattle.afdx_serve.proofs.serving.perform.Goals as goal

pub returns-in-Survey : goal.returns-in-Survey
returns-in-Survey g c = rw c.in-Survey.is c.survey.ensures

pub returns-in-Compare : goal.returns-in-Compare
returns-in-Compare g c = rw c.in-Compare.is c.compare.ensures
