use Rattle.std.proofs.Common.{IsSome, subst, sym, arith, ◌∙◌}
use Rattle.ir_entities.specs.Uses.{place_of}
use Rattle.ir_entities.proofs.RowWalks.{stands_next, renumber_keeps, renumber_more}
use Rattle.ir_entities.proofs.rows.renumber.Goals as goal

pub set_index-requires : goal.set_index-requires
set_index-requires g c =
    let row = c.args.row.now in
    let to = c.loop-index.index in
    let within = c.loop-index-test.true in
    subst IsSome (sym (renumber_keeps (place_of c.args.uses.now) (place_of c.loop-index.uses) row to within c.requires.distinct c.args.from c.loop-index.invariant.0))
    (c.requires.used to _ c.loop-index.invariant.2 (stands_next (place_of c.args.uses.now) (place_of c.loop-index.uses) row to within))

pub loop-index-preserved : goal.loop-index-preserved
loop-index-preserved g c = (
  renumber_more (place_of c.args.uses.now) (place_of c.loop-index.uses) c.args.row.now c.loop-index.index c.loop-index-test.true (place_of c.set_index.new.self)
      c.args.from c.requires.distinct c.loop-index.invariant.2 c.loop-index.invariant.0 c.set_index.ensures.moved.changed c.set_index.ensures.moved.others,
  c.set_index.ensures.definitions ∙ c.loop-index.invariant.1,
  omega (arith, c.loop-index.invariant.2),
)
