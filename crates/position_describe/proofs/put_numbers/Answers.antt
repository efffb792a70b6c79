use mathlib.Core.Path.{◌≡◌, refl, sym, ◌∙◌}
use native.Mathlib.Omega.{arith}
use lib.ListN.{length}
use Rattle.position_report.specs.Reports.{most_reported}
use Rattle.lent_text.proofs.Laws.{stored_none}
use Rattle.position_describe.proofs.Laws.{numbers_none, left_turn, left_whole}
use borrow.Author.Rules.{rules}
use Rattle.position_describe.proofs.put_numbers.Goals as goal

pub returns-then-report-eq0 : goal.returns-then-report-eq0
returns-then-report-eq0 c = rw (c.if-report-eq0.true, numbers_none c.args.report.examples) (refl, sym (stored_none c.args.out.now c.args.at), omega arith)

pub loop-i-init : goal.loop-i-init
loop-i-init c = (refl, omega (arith, c.put_number-n.ensures.2), (let size : length c.args.report.examples ≡ most_reported = search rules in omega arith), refl, refl)

pub loop-i-preserved : goal.loop-i-preserved
loop-i-preserved c =
    let t = left_turn c.loop-i.out c.put_later-n.new.out c.args.report.examples c.args.report.count c.loop-i.i c.args.at c.loop-i.n c.put_later-n.result
    c.loop-i-test.true c.loop-i.invariant.2 c.put_later-n.ensures.0 c.put_later-n.ensures.1 in
    (c.put_later-n.auto.out ∙ c.loop-i.invariant.0, omega (arith, c.put_later-n.ensures.2), c.loop-i.invariant.2, t.0 ∙ c.loop-i.invariant.3, t.1 ∙ c.loop-i.invariant.4)

pub returns : goal.returns
returns c =
    let all = left_whole c.args.out.now c.put_number-n.new.out c.loop-i.out c.args.report c.args.at c.put_number-n.result c.loop-i.n c.loop-i.i (omega arith) c.loop-i.invariant.2
    c.loop-i-test.false c.put_number-n.ensures.0 c.put_number-n.ensures.1 c.loop-i.invariant.3 c.loop-i.invariant.4 in
    (all.0, all.1, omega arith)
