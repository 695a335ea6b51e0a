use Rattle.std.specs.Str.Parse.{ParsesUnsigned, ExplainsUnsignedError, HasUnsignedDigitsIfOk}
use Rattle.clap.specs.Words.{found_of}
use Rattle.afdx_arguments.proofs.ArgumentLemmas.{has_number}
use Rattle.afdx_arguments.proofs.arguments.number.Goals as goal

pub returns : goal.returns
returns c =
    has_number (λ t r. ParsesUnsigned 64 10 t r × ExplainsUnsignedError 10 t r × HasUnsignedDigitsIfOk t r) (λ t r g. g.0) (found_of c.args.matches.now) c.args.name.now c.get_one.result
    c.get_one.ensures.none c.get_one.ensures.value
