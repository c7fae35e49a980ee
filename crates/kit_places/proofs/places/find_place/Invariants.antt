use Rattle.std.proofs.Common.{◌≡◌, drop, map, IsSome}
use Rattle.ir_names.specs.Identifier.{text_of}
use Rattle.ir_program.specs.Program.{operation_at}
use Rattle.kit_places.specs.Store.{locate}
use Rattle.kit_places.proofs.places.find_place.Given as goal

abbrev pub invariant-loop-i : goal.invariant-loop-i
invariant-loop-i l = record {
  left : locate l.fn.ctx.program l.outer (map text_of (drop l.i l.fn.path)) ≡ locate l.fn.ctx.program l.fn.root
      (map text_of l.fn.path);
  live : IsSome (operation_at l.fn.ctx.program l.outer);
}
