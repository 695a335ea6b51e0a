use Rattle.std.proofs.Common.{codes, sym, subst, List, Option}
use Rattle.std.proofs.lemmas.Slice.Eq.{bytes_eq-Decides}
use Rattle.clap.specs.Words.{Row, Text, found_of, rows_of}
use Rattle.afdx_arguments.specs.declared.request.NetworkRequest.TheVariants.{Size, Jitter}
use Rattle.afdx_arguments.specs.Requests.{AsksOfNetwork}
use Rattle.afdx_arguments.proofs.ArgumentLemmas.{entered}
use Rattle.afdx_arguments.proofs.network_arguments.network_asked.Goals as goal

pub returns-in_ok-path-2 : goal.returns-in_ok-path-2
returns-in_ok-path-2 c =
    let name = c.in_ok-name.name.now in
    let is = entered c.args.matches.now name (rows_of (found_of c.in_ok-name.inner.now)) c.in_ok-name.ensures.name c.in_ok-name.ensures.rows in
    subst (λ (entry : Option (Text × List Row)). AsksOfNetwork entry (Size c.in_ok-path-2.path c.form_of-form-then-eq-2.result)) (sym is)
    ((bytes_eq-Decides name (codes "size")).0 (sym c.if-eq-2.ensures), sym c.in_ok-path-2.ensures, c.form_of-form-then-eq-2.ensures)

pub returns-in_ok-path-3 : goal.returns-in_ok-path-3
returns-in_ok-path-3 c =
    let name = c.in_ok-name.name.now in
    let is = entered c.args.matches.now name (rows_of (found_of c.in_ok-name.inner.now)) c.in_ok-name.ensures.name c.in_ok-name.ensures.rows in
    subst (λ (entry : Option (Text × List Row)). AsksOfNetwork entry (Jitter c.in_ok-path-3.path c.form_of-form-then-eq-3.result)) (sym is)
    ((bytes_eq-Decides name (codes "jitter")).0 (sym c.if-eq-3.ensures), sym c.in_ok-path-3.ensures, c.form_of-form-then-eq-3.ensures)
