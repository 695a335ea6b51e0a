-- Lines of which a file has what went before.
use Rattle.std.specs.Prelude.{ℕ, List, ◌++◌, Option, string_bytes}
use Rattle.std.specs.Io.KnownBytes.{Appends}
use Rattle.afdx_trace.specs.declared.lines.Lines.{Lines}

-- all lines: those that went to a file, and those that are there
abbrev pub whole_of : {Z : Type 0} → Lines Z → List ℕ
whole_of l = l.gone.items ++ string_bytes l.text

-- since the start a file has the lines that went to it
abbrev pub HasGone : {F Z : Type 0} → (F → Option (List ℕ)) → F → F → Lines Z → Type 0
HasGone contents start now l = Appends (contents start) (contents now) l.gone.items
