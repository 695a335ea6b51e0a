-- What is wanted of a run beside its output.
use Rattle.std.specs.Prelude.{Bool, true, false}
use Rattle.afdx_measure.specs.declared.measuring.Wanted.{Wanted}
use Rattle.afdx_measure.specs.declared.measuring.Wanted.TheVariants.{Nothing, Measures, Survey, Lists}

-- whether all its lists are kept
abbrev pub keeps_lists : Wanted → Bool
keeps_lists Nothing = false
keeps_lists Measures = false
keeps_lists Survey = false
keeps_lists Lists = true
