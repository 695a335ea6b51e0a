use Rattle.std.proofs.Common.{List, ℕ, sym, subst}
use Rattle.std.specs.Io.KnownBytes.{Appends}
use Rattle.std.proofs.KnownBytes.{Appends-trans}
use Rattle.afdx_trace.proofs.lines.Lines.put_out.Goals as goal

pub returns-clause-gone : goal.returns-clause-gone
returns-clause-gone g c = λ start has.
    let contents = g.F.NewFile.contents in
    subst (λ (bytes : List ℕ). Appends (contents start) (contents c.append.new.self) bytes) (sym c.and_all-self.ensures)
    (Appends-trans (contents start) (contents c.args.file.now) (contents c.append.new.self) c.args.self.now.gone.items c.as_bytes-bytes.result.now has c.in_ok-append.ensures)
