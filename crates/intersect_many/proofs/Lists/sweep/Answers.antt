use Prim.Native.Nat.{ℕ, ◌/◌, ◌≤◌, ◌<◌}
use mathlib.Core.Path.{◌≡◌, refl, sym, ◌∙◌}
use mathlib.Core.Bool.{Bool, true, false, ◌&&◌, false≢true}
use mathlib.Core.Logic.{◌⊎◌, inl, inr}
use native.Mathlib.Omega.{arith}
use lib.ListN.{length}
use lib.Dec.{ltb}
use borrow.Author.Tests.{ltb-true, ltb-false}
use Rattle.query_item.specs.Items.{item_size}
use Rattle.item_check.proofs.Laws.{accepted_list}
use Rattle.item_lists.proofs.Written.{left_done, left_finish}
use Rattle.intersect_many.proofs.Rests.{rest_few}
use Rattle.intersect_many.proofs.Room.{both_accepted}
use Rattle.intersect_many.proofs.Swept.{ranks_say, only_end, shared_end, swept_start, swept_turn, swept_before, swept_after, swept_less, swept_greater, swept_equal}
use Rattle.intersect_many.proofs.Stands.{stands_before, stands_after, stands_meets}
use Rattle.intersect_many.proofs.Lists.sweep.Goals as goal

inside : (i j m n : ℕ) → ltb i m && ltb j n ≡ true → (i < m) × (j < n)
inside i j m n e = go (ltb i m) (ltb j n) refl refl e
  where
    go : (s t : Bool) → ltb i m ≡ s → ltb j n ≡ t → s && t ≡ true → (i < m) × (j < n)
    go true t p q e = (ltb-true i m p, ltb-true j n (q ∙ e))
    go false t p q e = absurd (false≢true e)

over : (i j m n : ℕ) → ltb i m && ltb j n ≡ false → (m ≤ i) ⊎ (n ≤ j)
over i j m n e = go (ltb i m) (ltb j n) refl refl e
  where
    go : (s t : Bool) → ltb i m ≡ s → ltb j n ≡ t → s && t ≡ false → (m ≤ i) ⊎ (n ≤ j)
    go true t p q e = inr (ltb-false j n (q ∙ e))
    go false t p q e = inl (ltb-false i m p)

other : {A B : Type 0} → A ⊎ B → B ⊎ A
other (inl a) = inr a
other (inr b) = inl b

pub loop-i-init : goal.loop-i-init
loop-i-init c = (
  swept_start c.args.self.pool.now c.args.self.ours.now c.args.self.theirs.now _ _ _ _
      ((accepted_list c.args.self.pool.now 0 c.args.self.ours.now).0 (both_accepted c.args.self.pool.now c.args.self.ours.now c.args.self.theirs.now c.args.self.accepted).0)
      ((accepted_list c.args.self.pool.now 1 c.args.self.theirs.now).0 (both_accepted c.args.self.pool.now c.args.self.ours.now c.args.self.theirs.now c.args.self.accepted).1)
      refl refl refl c.at-a.ensures.left c.at-b.ensures.left,
  c.at-a.ensures.whole,
  c.at-b.ensures.whole,
)

pub put_set-requires : goal.put_set-requires
put_set-requires c = omega (arith, c.loop-i.invariant.0, inside c.loop-i.i c.loop-i.j (length c.args.self.ours.now / item_size) (length c.args.self.theirs.now / item_size) c.loop-i-test.true)

pub overflow_add-i : goal.overflow_add-i
overflow_add-i c = omega (arith, inside c.loop-i.i c.loop-i.j (length c.args.self.ours.now / item_size) (length c.args.self.theirs.now / item_size) c.loop-i-test.true)

pub loop-i-smaller-in-Before : goal.loop-i-smaller-in-Before
loop-i-smaller-in-Before c = omega (arith, inside c.loop-i.i c.loop-i.j (length c.args.self.ours.now / item_size) (length c.args.self.theirs.now / item_size) c.loop-i-test.true)

pub loop-i-preserved-in-Before : goal.loop-i-preserved-in-Before
loop-i-preserved-in-Before c = let both = inside c.loop-i.i c.loop-i.j (length c.args.self.ours.now / item_size) (length c.args.self.theirs.now / item_size) c.loop-i-test.true in (
  swept_before _ c.loop-i.invariant.0 both.0 both.1 c.loop-i.invariant.1 c.loop-i.invariant.2
      (stands_before c.args.self.pool.now c.loop-i.a.whole c.loop-i.b.whole (sym c.how_they_stand.ensures ∙ c.in-Before.is))
      refl refl c.put_set.ensures c.at-a-in-Before.ensures.left,
  c.at-a-in-Before.ensures.whole,
  c.loop-i.invariant.2,
)

pub put_set-requires-in-After : goal.put_set-requires-in-After
put_set-requires-in-After c = omega (arith, c.loop-i.invariant.0, inside c.loop-i.i c.loop-i.j (length c.args.self.ours.now / item_size) (length c.args.self.theirs.now / item_size) c.loop-i-test.true)

pub overflow_add-j : goal.overflow_add-j
overflow_add-j c = omega (arith, inside c.loop-i.i c.loop-i.j (length c.args.self.ours.now / item_size) (length c.args.self.theirs.now / item_size) c.loop-i-test.true)

pub loop-i-smaller-in-After : goal.loop-i-smaller-in-After
loop-i-smaller-in-After c = omega (arith, inside c.loop-i.i c.loop-i.j (length c.args.self.ours.now / item_size) (length c.args.self.theirs.now / item_size) c.loop-i-test.true)

pub loop-i-preserved-in-After : goal.loop-i-preserved-in-After
loop-i-preserved-in-After c = let both = inside c.loop-i.i c.loop-i.j (length c.args.self.ours.now / item_size) (length c.args.self.theirs.now / item_size) c.loop-i-test.true in (
  swept_after _ c.loop-i.invariant.0 both.0 both.1 c.loop-i.invariant.1 c.loop-i.invariant.2
      (stands_after c.args.self.pool.now c.loop-i.a.whole c.loop-i.b.whole (sym c.how_they_stand.ensures ∙ c.in-After.is))
      refl refl c.put_set-in-After.ensures c.at-b-in-After.ensures.left,
  c.loop-i.invariant.1,
  c.at-b-in-After.ensures.whole,
)

pub emit-n-requires : goal.emit-n-requires
emit-n-requires c = let both = inside c.loop-i.i c.loop-i.j (length c.args.self.ours.now / item_size) (length c.args.self.theirs.now / item_size) c.loop-i-test.true in
    let meets = stands_meets c.args.self.pool.now c.loop-i.a.whole c.loop-i.b.whole _ (sym c.how_they_stand.ensures ∙ c.in-Meets.is) in
    swept_turn _ c.loop-i.invariant.0 both.0 both.1 c.loop-i.invariant.1 c.loop-i.invariant.2 meets.0 meets.1 meets.2

pub right_set-b-requires : goal.right_set-b-requires
right_set-b-requires c = (stands_meets c.args.self.pool.now c.loop-i.a.whole c.loop-i.b.whole _ (sym c.how_they_stand.ensures ∙ c.in-Meets.is)).1

pub overflow_add-i-in-Less : goal.overflow_add-i-in-Less
overflow_add-i-in-Less c = omega (arith, inside c.loop-i.i c.loop-i.j (length c.args.self.ours.now / item_size) (length c.args.self.theirs.now / item_size) c.loop-i-test.true, c.loop-i.invariant.0)

pub loop-i-smaller-in-Less : goal.loop-i-smaller-in-Less
loop-i-smaller-in-Less c = omega (arith, inside c.loop-i.i c.loop-i.j (length c.args.self.ours.now / item_size) (length c.args.self.theirs.now / item_size) c.loop-i-test.true)

pub loop-i-preserved-in-Less : goal.loop-i-preserved-in-Less
loop-i-preserved-in-Less c = let both = inside c.loop-i.i c.loop-i.j (length c.args.self.ours.now / item_size) (length c.args.self.theirs.now / item_size) c.loop-i-test.true in
    let meets = stands_meets c.args.self.pool.now c.loop-i.a.whole c.loop-i.b.whole _ (sym c.how_they_stand.ensures ∙ c.in-Meets.is) in (
      swept_less _ c.loop-i.invariant.0 both.0 both.1 c.loop-i.invariant.1 c.loop-i.invariant.2 c.emit-n.ensures
          (ranks_say c.args.self.pool.now c.loop-i.a.whole.end c.loop-i.b.whole.end (sym meets.0 ∙ c.in-Less.is))
          c.at-a-in-Less.ensures.left c.right_set-b.ensures,
      c.at-a-in-Less.ensures.whole,
      c.loop-i.invariant.2,
    )

pub right_set-a-requires : goal.right_set-a-requires
right_set-a-requires c = (stands_meets c.args.self.pool.now c.loop-i.a.whole c.loop-i.b.whole _ (sym c.how_they_stand.ensures ∙ c.in-Meets.is)).2

pub overflow_add-j-in-Greater : goal.overflow_add-j-in-Greater
overflow_add-j-in-Greater c = omega (arith, inside c.loop-i.i c.loop-i.j (length c.args.self.ours.now / item_size) (length c.args.self.theirs.now / item_size) c.loop-i-test.true, c.loop-i.invariant.0)

pub loop-i-smaller-in-Greater : goal.loop-i-smaller-in-Greater
loop-i-smaller-in-Greater c = omega (arith, inside c.loop-i.i c.loop-i.j (length c.args.self.ours.now / item_size) (length c.args.self.theirs.now / item_size) c.loop-i-test.true)

pub loop-i-preserved-in-Greater : goal.loop-i-preserved-in-Greater
loop-i-preserved-in-Greater c = let both = inside c.loop-i.i c.loop-i.j (length c.args.self.ours.now / item_size) (length c.args.self.theirs.now / item_size) c.loop-i-test.true in
    let meets = stands_meets c.args.self.pool.now c.loop-i.a.whole c.loop-i.b.whole _ (sym c.how_they_stand.ensures ∙ c.in-Meets.is) in (
      swept_greater _ c.loop-i.invariant.0 both.0 both.1 c.loop-i.invariant.1 c.loop-i.invariant.2 c.emit-n.ensures
          (ranks_say c.args.self.pool.now c.loop-i.a.whole.end c.loop-i.b.whole.end (sym meets.0 ∙ c.in-Greater.is))
          c.right_set-a.ensures c.at-b-in-Greater.ensures.left,
      c.loop-i.invariant.1,
      c.at-b-in-Greater.ensures.whole,
    )

pub overflow_add-i-in-Equal : goal.overflow_add-i-in-Equal
overflow_add-i-in-Equal c = omega (arith, inside c.loop-i.i c.loop-i.j (length c.args.self.ours.now / item_size) (length c.args.self.theirs.now / item_size) c.loop-i-test.true)

pub overflow_add-j-in-Equal : goal.overflow_add-j-in-Equal
overflow_add-j-in-Equal c = omega (arith, inside c.loop-i.i c.loop-i.j (length c.args.self.ours.now / item_size) (length c.args.self.theirs.now / item_size) c.loop-i-test.true)

pub loop-i-smaller : goal.loop-i-smaller
loop-i-smaller c = omega (arith, inside c.loop-i.i c.loop-i.j (length c.args.self.ours.now / item_size) (length c.args.self.theirs.now / item_size) c.loop-i-test.true)

pub loop-i-preserved : goal.loop-i-preserved
loop-i-preserved c = let both = inside c.loop-i.i c.loop-i.j (length c.args.self.ours.now / item_size) (length c.args.self.theirs.now / item_size) c.loop-i-test.true in
    let meets = stands_meets c.args.self.pool.now c.loop-i.a.whole c.loop-i.b.whole _ (sym c.how_they_stand.ensures ∙ c.in-Meets.is) in (
      swept_equal _ c.loop-i.invariant.0 both.0 both.1 c.loop-i.invariant.1 c.loop-i.invariant.2 c.emit-n.ensures
          (ranks_say c.args.self.pool.now c.loop-i.a.whole.end c.loop-i.b.whole.end (sym meets.0 ∙ c.in-Equal.is))
          c.at-a-in-Equal.ensures.left c.at-b-in-Equal.ensures.left,
      c.at-a-in-Equal.ensures.whole,
      c.at-b-in-Equal.ensures.whole,
    )

pub put_rest-requires : goal.put_rest-requires
put_rest-requires c = omega (arith, c.loop-i.invariant.0)

pub put_rest-requires-2 : goal.put_rest-requires-2
put_rest-requires-2 c = omega (arith, c.loop-i.invariant.0)

pub shape_of-shared_out : goal.shape_of-shared_out
shape_of-shared_out c = c.loop-i.invariant.0.shared.same

pub returns : goal.returns
returns c = let ended = over c.loop-i.i c.loop-i.j _ _ c.loop-i-test.false in
    record {
      shared = left_done (shared_end c.args.self.pool.now c.args.self.ours.now c.args.self.theirs.now c.loop-i.i c.loop-i.j c.loop-i.invariant.0.shared ended) refl;
      ours_only = left_finish (only_end c.args.self.pool.now c.loop-i.invariant.0.ours_only ended) c.put_rest.ensures;
      theirs_only = left_finish (only_end c.args.self.pool.now c.loop-i.invariant.0.theirs_only (other ended)) c.put_rest-2.ensures;
      few = record {
        shared = omega (arith, c.loop-i.invariant.0.shared_few, c.loop-i.invariant.0.our_in, c.loop-i.invariant.0.their_in);
        ours_only = omega (arith, c.loop-i.invariant.0.ours_few, c.loop-i.invariant.0.our_in, c.loop-i.invariant.0.their_in, c.put_rest.ensures.count, rest_few c.args.self.pool.now c.args.self.ours.now c.loop-i.i c.loop-i.a.left);
        theirs_only = omega (arith, c.loop-i.invariant.0.theirs_few, c.loop-i.invariant.0.our_in, c.loop-i.invariant.0.their_in, c.put_rest-2.ensures.count, rest_few c.args.self.pool.now c.args.self.theirs.now c.loop-i.j c.loop-i.b.left);
      };
    }
