-- `clip` meets its contract. Assumes nothing.
use mathlib.Core.Path.{refl, sym, ◌∙◌}
use Rattle.position_query.proofs.Ranges.{clipped_of}
use Rattle.position_query.proofs.query.clip.Goals as goal

pub returns-in_default : goal.returns-in_default
returns-in_default c =
    let is = rw c.query_item.ensures at c.to_range_set-set.ensures in
    sym (clipped_of c.args.pool.now c.args.count c.args.item c.to_range_set-set.result _ _ is c.first.ensures refl ∙ rw c.in_default.is)

pub returns-in_default-past : goal.returns-in_default-past
returns-in_default-past c =
    let is = rw c.query_item.ensures at c.to_range_set-set.ensures in
    sym (clipped_of c.args.pool.now c.args.count c.args.item c.to_range_set-set.result _ _ is c.first.ensures c.past.ensures ∙ rw (c.in-Ok.is, c.in_default-past.is))

pub returns : goal.returns
returns c =
    let is = rw c.query_item.ensures at c.to_range_set-set.ensures in
    sym (clipped_of c.args.pool.now c.args.count c.args.item c.to_range_set-set.result _ _ is c.first.ensures c.past.ensures
    ∙ rw (c.in-Ok.is, c.in-Ok-past.is, ← c.min.ensures))
