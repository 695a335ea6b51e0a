use Rattle.std.proofs.Common.{ap, ◌∙◌}
use Rattle.afdx_port.specs.Service.{service, before, sent_of}
use Rattle.afdx_port.specs.Inner.Progress.{left}
use Rattle.afdx_port.proofs.Parts.{split, parts}
use Rattle.afdx_port.proofs.Steps.{sent_of-append}
use Rattle.afdx_port.proofs.laws.sent_goes_on.Goals as goal

pub returns : goal.returns
returns c = record {
  until = λ s t u items le.
      let rest = before u (service s (left s t 0 items).free (left s t 0 items).waiting) in
      (sent_of rest, ap sent_of (parts s t u 0 items le) ∙ sent_of-append (before t (service s 0 items)) rest);
  in_the_end = λ s t items.
      let rest = service s (left s t 0 items).free (left s t 0 items).waiting in
      (sent_of rest, ap sent_of (split s t 0 items) ∙ sent_of-append (before t (service s 0 items)) rest);
}
