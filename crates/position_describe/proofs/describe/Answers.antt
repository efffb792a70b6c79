-- `describe` meets its contract: 1, then 6, then the text. Assumes nothing.
use Prim.Native.Nat.{◌<◌, ◌≤◌}
use mathlib.Core.Path.{◌∙◌}
use native.Mathlib.Omega.{arith}
use lib.ListN.{length}
use borrow.Author.Tests.{lt-ltb, le-ltb}
use Rattle.position_report.specs.Reports.{most_reported}
use Rattle.position_describe.specs.Text.{text_of}
use Rattle.lent_text.proofs.Laws.{stored_whole}
use Rattle.position_describe.proofs.describe.Goals as goal

pub returns-then-report-gt-MAX_REPORTED_POSITIONS : goal.returns-then-report-gt-MAX_REPORTED_POSITIONS
returns-then-report-gt-MAX_REPORTED_POSITIONS c = let t = lt-ltb most_reported c.args.report.count c.if-report-gt-MAX_REPORTED_POSITIONS.true in
    record { result_value = c.refuse.ensures ∙ rw t; out_after = rw t }

pub returns-then-out-n : goal.returns-then-out-n
returns-then-out-n c = let t = le-ltb most_reported c.args.report.count c.if-report-gt-MAX_REPORTED_POSITIONS.false in
    let n : length c.args.out.now < length (text_of c.args.report) = omega (arith, c.put_report-n.ensures.0, c.if-out-n.true) in
    let u = lt-ltb (length c.args.out.now) (length (text_of c.args.report)) n in
    record { result_value = c.refuse-then-out-n.ensures ∙ rw (t, u); out_after = rw (t, u) }

pub returns : goal.returns
returns c = let t = le-ltb most_reported c.args.report.count c.if-report-gt-MAX_REPORTED_POSITIONS.false in
    let n : length (text_of c.args.report) ≤ length c.args.out.now = omega (arith, c.put_report-n.ensures.0, c.if-out-n.false) in
    let u = le-ltb (length c.args.out.now) (length (text_of c.args.report)) n in
    record { result_value = rw (t, u, c.put_report.ensures.0); out_after = rw (t, u) (c.put_report.ensures.1 ∙ stored_whole c.args.out.now (text_of c.args.report) n) }
