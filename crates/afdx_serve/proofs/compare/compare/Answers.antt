use Rattle.std.proofs.Common.{◌≡◌, ◌∙◌, length, inl, refl, ap, sym, subst}
use Rattle.std.proofs.KnownBytes.{Keeps-refl}
use Rattle.afdx_folder.specs.Files.{PutsFiles, settled_after}
use Rattle.afdx_recordings.specs.declared.recordings.Recordings.{Recordings}
use Rattle.afdx_compare.specs.Report.{report_of}
use Rattle.afdx_messages.specs.declared.failure.Failure.TheVariants.{Memory, Write}
use Rattle.afdx_serve.specs.Runs.{FailsToPut}
use Rattle.afdx_serve.specs.Compares.{rows_names, rows_texts}
use Rattle.afdx_serve.proofs.CompareLemmas.{not_got_varying, not_found_under, found_in, rows_put, rows_not_put}
use Rattle.afdx_serve.proofs.Errors.{of_error}
use Rattle.afdx_serve.proofs.FileLemmas.{KeepsFiles-trans}
use Rattle.afdx_serve.proofs.compare.compare.Goals as goal

pub returns-in_err-table : goal.returns-in_err-table
returns-in_err-table g c =
    of_error _ _ _ c.in_err-table.field-0.0 c.from_residual.ensures
    (not_got_varying c.args.form c.in_err-table.field-0.0 c.args.compare.now c.args.recordings.now _ _ _ _ _ _ c.in_err-table.ensures.same (Keeps-refl _) c.in_err-table.ensures.got)

pub returns-in_err-findings : goal.returns-in_err-findings
returns-in_err-findings g c =
    let got = c.in_ok-table.ensures.got in
    of_error _ _ _ c.in_err-findings.field-0.0 c.from_residual-in_err-findings.ensures
    (not_found_under c.args.form c.in_err-findings.field-0.0 c.args.compare.now c.args.recordings.now _ _ _ _ _ _ _ _ _ got.0 c.in_ok-table.ensures.same got.1 c.in_err-findings.ensures.same
    (Keeps-refl _)
    c.in_err-findings.ensures.found)

pub returns-in_err-text : goal.returns-in_err-text
returns-in_err-text g c =
    of_error _ _ _ Memory c.from_residual-in_err-text.ensures (inl (KeepsFiles-trans _ _ _ c.in_ok-table.ensures.same c.in_ok-findings.ensures.same), Keeps-refl _)

pub returns-in_err-put_rows : goal.returns-in_err-put_rows
returns-in_err-put_rows g c =
    let got = c.in_ok-table.ensures.got in
    let is = c.in_ok-findings.ensures.found in
    let found = found_in c.args.compare.now c.args.recordings.now _ _ _ _ _ _ _ _ got.0 c.in_ok-table.ensures.same is.0.1 is.0.2 in
    let fails = subst
    (λ (r : Recordings). FailsToPut c.in_err-put_rows.field-0.0 (rows_names c.args.compare.now) (rows_texts c.args.compare.now r c.in_ok-findings.findings.comparison)
    (g.F.Folder.files c.find.new.folder) (g.F.Folder.files c.put_rows.new.folder) (g.F.Folder.failed c.find.new.folder) (g.F.Folder.failed c.put_rows.new.folder))
    is.0.0 c.in_err-put_rows.ensures in
    of_error _ _ _ c.in_err-put_rows.field-0.0 c.from_residual-in_err-put_rows.ensures
    (rows_not_put c.args.compare.now c.args.recordings.now _ _ _ _ _ _ _ _ _ found (KeepsFiles-trans _ _ _ c.in_ok-table.ensures.same c.in_ok-findings.ensures.same) (is.1 ∙ got.1)
    c.args.form c.in_err-put_rows.field-0.0 _ _ (Keeps-refl _) fails)

pub returns-in_err-write_bytes : goal.returns-in_err-write_bytes
returns-in_err-write_bytes g c =
    let got = c.in_ok-table.ensures.got in
    let is = c.in_ok-findings.ensures.found in
    let found = found_in c.args.compare.now c.args.recordings.now _ _ _ _ _ _ _ _ got.0 c.in_ok-table.ensures.same is.0.1 is.0.2 in
    let put = subst
    (λ (r : Recordings). PutsFiles (g.F.Folder.files c.find.new.folder) (g.F.Folder.files c.put_rows.new.folder) (rows_names c.args.compare.now)
    (rows_texts c.args.compare.now r c.in_ok-findings.findings.comparison)
    × (g.F.Folder.failed c.put_rows.new.folder ≡ settled_after (length (rows_names c.args.compare.now)) (g.F.Folder.failed c.find.new.folder)))
    is.0.0 c.in_ok-put_rows.ensures in
    let text = c.in_ok-text.ensures
    ∙ ap (λ (r : Recordings). report_of c.args.form r c.in_ok-findings.findings.from c.in_ok-findings.findings.until c.in_ok-findings.findings.comparison) is.0.0 in
    let written = rw (c.as_bytes.ensures.value, text) at c.in_err-write_bytes.ensures.prefix in
    of_error _ _ _ Write c.from_residual-in_err-write_bytes.ensures (
      _,
      (
        _,
        (
          c.in_ok-findings.findings.from,
          c.in_ok-findings.findings.until,
          c.in_ok-findings.findings.comparison,
          rows_put c.args.compare.now c.args.recordings.now _ _ _ _ _ _ _ _ _ found (KeepsFiles-trans _ _ _ c.in_ok-table.ensures.same c.in_ok-findings.ensures.same) (is.1 ∙ got.1) put.0 put.1,
          refl,
          refl,
        ),
        written,
      ),
    )

pub returns-then-conforms : goal.returns-then-conforms
returns-then-conforms g c =
    let got = c.in_ok-table.ensures.got in
    let is = c.in_ok-findings.ensures.found in
    let found = found_in c.args.compare.now c.args.recordings.now _ _ _ _ _ _ _ _ got.0 c.in_ok-table.ensures.same is.0.1 is.0.2 in
    let put = subst
    (λ (r : Recordings). PutsFiles (g.F.Folder.files c.find.new.folder) (g.F.Folder.files c.put_rows.new.folder) (rows_names c.args.compare.now)
    (rows_texts c.args.compare.now r c.in_ok-findings.findings.comparison)
    × (g.F.Folder.failed c.put_rows.new.folder ≡ settled_after (length (rows_names c.args.compare.now)) (g.F.Folder.failed c.find.new.folder)))
    is.0.0 c.in_ok-put_rows.ensures in
    let text = c.in_ok-text.ensures
    ∙ ap (λ (r : Recordings). report_of c.args.form r c.in_ok-findings.findings.from c.in_ok-findings.findings.until c.in_ok-findings.findings.comparison) is.0.0 in
    let written = rw (c.as_bytes.ensures.value, text) at c.in_ok-write_bytes.ensures.all in (
      _,
      (
        c.in_ok-findings.findings.from,
        c.in_ok-findings.findings.until,
        c.in_ok-findings.findings.comparison,
        rows_put c.args.compare.now c.args.recordings.now _ _ _ _ _ _ _ _ _ found (KeepsFiles-trans _ _ _ c.in_ok-table.ensures.same c.in_ok-findings.ensures.same) (is.1 ∙ got.1) put.0 put.1,
        refl,
        sym c.conforms.ensures ∙ c.if-conforms.true,
      ),
      written,
    )

pub returns : goal.returns
returns g c =
    let got = c.in_ok-table.ensures.got in
    let is = c.in_ok-findings.ensures.found in
    let found = found_in c.args.compare.now c.args.recordings.now _ _ _ _ _ _ _ _ got.0 c.in_ok-table.ensures.same is.0.1 is.0.2 in
    let put = subst
    (λ (r : Recordings). PutsFiles (g.F.Folder.files c.find.new.folder) (g.F.Folder.files c.put_rows.new.folder) (rows_names c.args.compare.now)
    (rows_texts c.args.compare.now r c.in_ok-findings.findings.comparison)
    × (g.F.Folder.failed c.put_rows.new.folder ≡ settled_after (length (rows_names c.args.compare.now)) (g.F.Folder.failed c.find.new.folder)))
    is.0.0 c.in_ok-put_rows.ensures in
    let text = c.in_ok-text.ensures
    ∙ ap (λ (r : Recordings). report_of c.args.form r c.in_ok-findings.findings.from c.in_ok-findings.findings.until c.in_ok-findings.findings.comparison) is.0.0 in
    let written = rw (c.as_bytes.ensures.value, text) at c.in_ok-write_bytes.ensures.all in (
      _,
      (
        c.in_ok-findings.findings.from,
        c.in_ok-findings.findings.until,
        c.in_ok-findings.findings.comparison,
        rows_put c.args.compare.now c.args.recordings.now _ _ _ _ _ _ _ _ _ found (KeepsFiles-trans _ _ _ c.in_ok-table.ensures.same c.in_ok-findings.ensures.same) (is.1 ∙ got.1) put.0 put.1,
        refl,
        sym c.conforms.ensures ∙ c.if-conforms.false,
      ),
      written,
    )
