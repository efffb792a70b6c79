-- `item_check::is_sound` meets its contract: nothing is wrong where none of the tests holds. Assumes nothing.
use mathlib.Core.Path.{◌≡◌, sym, ◌∙◌}
use mathlib.Core.Bool.{false, ◌||◌}
use Rattle.query_item.specs.Items.{key_at, item_words}
use Rattle.query_item.specs.Boundaries.{range_of, upright}
use Rattle.item_check.specs.Checks.{malformed, outside}
use Rattle.item_check.proofs.Faults.{key_upright, fault_none, bad_words}
use Rattle.item_check.proofs.is_sound.Goals as goal

-- a key
pub returns-then-code-eq0 : goal.returns-then-code-eq0
returns-then-code-eq0 c = let it = item_words c.args.code c.args.wrapper (key_at c.args.i c.args.m) (key_at c.args.j c.args.n) in
    let good : malformed it || outside c.args.pool.now it ≡ false =
    sym (bad_words c.args.pool.now it)
    ∙ rw (← c.is_malformed.ensures, ← c.are_out.ensures) c.if-is_malformed-are_out.false in
    sym (fault_none (malformed it) (outside c.args.pool.now it) (upright c.args.pool.now (range_of it))
    ∙ rw (good, key_upright c.args.pool.now it c.if-code-eq0.true))

pub returns : goal.returns
returns c = let it = item_words c.args.code c.args.wrapper (key_at c.args.i c.args.m) (key_at c.args.j c.args.n) in
    let good : malformed it || outside c.args.pool.now it ≡ false =
    sym (bad_words c.args.pool.now it)
    ∙ rw (← c.is_malformed.ensures, ← c.are_out.ensures) c.if-is_malformed-are_out.false in
    let stands : c.is_upright.result ≡ upright c.args.pool.now (range_of it) =
    c.is_upright.ensures ∙ rw (c.to_range_set.ensures, c.query_item.ensures) in
    stands ∙ sym (fault_none (malformed it) (outside c.args.pool.now it) (upright c.args.pool.now (range_of it)) ∙ rw good)
