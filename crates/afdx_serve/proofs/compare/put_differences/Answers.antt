use Rattle.afdx_serve.proofs.compare.put_differences.Goals as goal

pub returns : goal.returns
returns g c = rw (c.deref.ensures.value, c.deref-2.ensures.value, c.in_ok-names.ensures, c.in_ok-texts.ensures) at c.put_texts.ensures
