-- `pool_collect::collect_with` meets its contract: the keys do not fit, or all is written. Assumes nothing.
use Rattle.pool_collect.proofs.Faults.{admitted, checks_accepts}
use Rattle.pool_collect.proofs.Both.{collects_none, collects_all}
use mathlib.Core.Path.{refl}
use native.Mathlib.Omega.{arith}
use borrow.Author.Rules.{rules}
use Rattle.pool_collect.proofs.collect_with.Goals as goal

pub gather_both-requires : goal.gather_both-requires
gather_both-requires c = let ok = admitted c.args.pool.now c.args.fresh.now c.args.ours.now c.args.theirs.now c.requires in (
  record {
    ours_ok = checks_accepts _ _ ok.pool_small ok.ours_ok;
    theirs_ok = checks_accepts _ _ ok.pool_small ok.theirs_ok;
    order_long = search rules;
    table_long = search rules;
    places_long = search rules;
  },
  refl,
  refl,
)

pub returns-then-fresh-used : goal.returns-then-fresh-used
returns-then-fresh-used c = rw c.refuse.ensures (collects_none _ _ _ _ c.requires c.gather_both.ensures.1 c.if-fresh-used.true)

pub write_all-requires : goal.write_all-requires
write_all-requires c = let ok = admitted c.args.pool.now c.args.fresh.now c.args.ours.now c.args.theirs.now c.requires in
    record {
      all = c.gather_both.ensures.0;
      ours_ok = checks_accepts _ _ ok.pool_small ok.ours_ok;
      theirs_ok = checks_accepts _ _ ok.pool_small ok.theirs_ok;
      room = omega (arith, c.gather_both.ensures.1, c.if-fresh-used.false);
    }

pub returns : goal.returns
returns c = collects_all _ _ _ _ c.requires c.gather_both.ensures.1 c.if-fresh-used.false c.write_all.ensures
