use Rattle.std.proofs.Common.{◌∙◌, IsSome, get_or, sym, subst}
use Rattle.std.proofs.lemmas.List.{take_more}
use Rattle.std.proofs.lemmas.Option.{slice_get-get_or}
use Rattle.ir_entities.specs.Uses.{place_of}
use Rattle.ir_program.proofs.lists.Slotted.{at_has}
use Rattle.ir_program.proofs.used.Renames.{RenamesEach, still_place, rename-one}
use Rattle.ir_program.proofs.replacing.rename_each.Goals as goal

pub rename-requires-clause-place : goal.rename-requires-clause-place
rename-requires-clause-place g c =
    let place = get_or c.args.places.now c.loop-place.place-index 0 in
    subst IsSome (sym (c.loop-place.invariant.renamed place))
    (still_place c.args.definition _ (place_of c.args.uses.now place) (c.requires.places place (at_has c.args.places.now c.loop-place.place-index place (slice_get-get_or c.args.places.now c.loop-place.place-index 0 c.loop-place-test.true))))

pub loop-place-preserved : goal.loop-place-preserved
loop-place-preserved g c =
    let place = get_or c.args.places.now c.loop-place.place-index 0 in
    record {
      renamed = subst (λ done. RenamesEach (place_of c.args.uses.now) (place_of c.rename.new.self) done c.args.definition)
          (sym (take_more c.args.places.now c.loop-place.place-index 0 c.loop-place-test.true))
          (rename-one (place_of c.args.uses.now) c.loop-place.uses c.rename.new.self _ place c.args.definition c.loop-place.invariant.renamed c.rename.ensures.renamed);
      definitions = c.rename.ensures.definitions ∙ c.loop-place.invariant.definitions;
    }
