use Rattle.std.proofs.Common.{sym, ◌∙◌}
use Rattle.afdx_session.proofs.FromReaders.{is_there}
use Rattle.afdx_session.proofs.sources.next_place.Goals as goal

pub unreachable-requires : goal.unreachable-requires
unreachable-requires g c =
    is_there c.args.session.now c.args.ports.now c.in-Some.port c.requires.of c.requires.ports c.in-Some.ensures.some.0 (sym c.place_of.ensures ∙ c.in_default-place_of.is)
