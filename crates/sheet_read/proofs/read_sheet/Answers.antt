-- `sheet_read::read_sheet` meets its contract: what the first pass counts is checked, and a sheet that passes is read. Assumes nothing.
use mathlib.Core.Path.{◌≡◌, refl, sym, ◌∙◌}
use Rattle.std.proofs.lemmas.Result.{err_from_is_err_and}
use Rattle.item_check.specs.Checks.{accepted}
use Rattle.sheet_row.specs.Lanes.{sheet_of}
use Rattle.sheet_read.specs.Reading.{sheet_verdict}
use Rattle.sheet_read.proofs.Answers.{reads, reads_readable, leaves_read}
use Rattle.sheet_read.proofs.Measures.{measure_verdict_lem}
use Rattle.sheet_read.proofs.read_sheet.Goals as goal

pub fill-requires : goal.fill-requires
fill-requires c =
    let t : accepted ≡ sheet_verdict (sheet_of c.args.text.now) c.args.pool.now c.args.out.now =
    sym c.in_ok-check_measure.was ∙ c.check_measure.ensures ∙ measure_verdict_lem (sheet_of c.args.text.now) c.in_ok-m.m c.args.pool.now c.args.out.now c.in_ok-m.ensures in
    reads_readable ((reads (sheet_of c.args.text.now) c.args.pool.now c.args.out.now).0 (sym t))

pub returns-in_err-check_measure : goal.returns-in_err-check_measure
returns-in_err-check_measure c =
    let t = sym c.in_err-check_measure.was ∙ c.check_measure.ensures ∙ measure_verdict_lem (sheet_of c.args.text.now) c.in_ok-m.m c.args.pool.now c.args.out.now c.in_ok-m.ensures in
    let p = err_from_is_err_and c.from_residual-in_err-check_measure.result c.from_residual-in_err-check_measure.ensures.1 in
    rw (p.1, p.2, ← t) record { result_value = refl; pool_after = refl; out_after = refl }

pub returns : goal.returns
returns c =
    let t : accepted ≡ sheet_verdict (sheet_of c.args.text.now) c.args.pool.now c.args.out.now =
    sym c.in_ok-check_measure.was ∙ c.check_measure.ensures ∙ measure_verdict_lem (sheet_of c.args.text.now) c.in_ok-m.m c.args.pool.now c.args.out.now c.in_ok-m.ensures in
    let all = leaves_read c.args.text.now c.args.pool.now c.args.out.now c.in_ok-m.m c.in_ok-m.ensures t c.fill.ensures.pool_after c.fill.ensures.out_after in
    record { result_value = all.0; pool_after = all.1.0; out_after = all.1.1 }
