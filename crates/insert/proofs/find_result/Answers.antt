-- `insert::find_result` meets its contract: what is asked and what is not come to the list. Assumes nothing.
use Prim.Native.Nat.{◌-◌}
use native.Mathlib.Omega.{arith}
use Rattle.query_item.specs.Items.{items_from}
use Rattle.item_lists.proofs.Words.{length_items}
use Rattle.insert_merge.proofs.Staying.{length_staying}
use Rattle.insert.proofs.Windows.{asked_merged, asked_stay}
use Rattle.insert.proofs.find_result.Goals as goal

pub overflow_add-result : goal.overflow_add-result
overflow_add-result c = let mid = items_from c.args.words.now c.args.window.now.start (c.args.window.now.end - c.args.window.now.start) in
    omega (
      arith,
      c.find_merged-found.ensures.stay,
      length_staying c.args.pool.now c.args.item mid,
      length_items c.args.words.now c.args.window.now.start (c.args.window.now.end - c.args.window.now.start),
      c.requires.ascends,
      c.requires.within,
    )

pub overflow_add-result-2 : goal.overflow_add-result-2
overflow_add-result-2 c = let mid = items_from c.args.words.now c.args.window.now.start (c.args.window.now.end - c.args.window.now.start) in
    omega (
      arith,
      c.find_merged-found.ensures.stay,
      length_staying c.args.pool.now c.args.item mid,
      length_items c.args.words.now c.args.window.now.start (c.args.window.now.end - c.args.window.now.start),
      c.requires.ascends,
      c.requires.within,
    )

pub returns : goal.returns
returns c = record {
  result = asked_merged _ _ _ _ _ _ c.requires c.find_merged-found.ensures.result;
  stay = asked_stay _ _ _ _ _ _ c.requires c.find_merged-found.ensures.stay;
}
