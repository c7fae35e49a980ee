use Rattle.std.proofs.Common.{IsSome, subst, sym, ◌∙◌}
use Rattle.ir_entities.specs.Uses.{place_of}
use Rattle.ir_entities.proofs.RowWalks.{stands_next, release_keeps, release_more}
use Rattle.ir_entities.proofs.rows.release.Goals as goal

pub remove-requires : goal.remove-requires
remove-requires g c =
    let row = c.args.row.now in
    let to = c.loop-place.place-index in
    let within = c.loop-place-test.true in
    subst IsSome (sym (release_keeps (place_of c.args.uses.now) (place_of c.loop-place.uses) row to within c.requires.distinct c.loop-place.invariant.0))
    (c.requires.used to _ (stands_next (place_of c.args.uses.now) (place_of c.loop-place.uses) row to within))

pub loop-place-preserved : goal.loop-place-preserved
loop-place-preserved g c = (
  release_more (place_of c.args.uses.now) (place_of c.loop-place.uses) c.args.row.now c.loop-place.place-index c.loop-place-test.true (place_of c.remove.new.self)
      c.loop-place.invariant.0 c.remove.ensures.gone.changed c.remove.ensures.gone.others,
  c.remove.ensures.definitions ∙ c.loop-place.invariant.1,
)
