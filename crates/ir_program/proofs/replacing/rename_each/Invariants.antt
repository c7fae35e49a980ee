use Rattle.std.proofs.Common.{◌≡◌, take}
use Rattle.ir_entities.specs.Uses.{place_of}
use Rattle.ir_program.proofs.used.Renames.{RenamesEach}
use Rattle.ir_program.proofs.replacing.rename_each.Given as goal

abbrev pub invariant-loop-place : goal.invariant-loop-place
invariant-loop-place g l = record {
  renamed : RenamesEach (place_of l.fn.uses) (place_of l.uses) (take l.place-index l.places) l.definition;
  definitions : l.uses.definitions ≡ l.fn.uses.definitions;
}
