use Rattle.std.proofs.Common.{◌≡◌, take}
use Rattle.ir_program.specs.Program.{type_at}
use Rattle.ir_program.specs.Edits.{EditsOperations}
use Rattle.ir_program.specs.Replacing.{with_chosen}
use Rattle.ir_program.specs.Among.{is_among}
use Rattle.ir_program.proofs.program.Program.replace_uses.Given as goal

abbrev pub invariant-loop-place : goal.invariant-loop-place
invariant-loop-place g l = record {
  edited : EditsOperations l.fn.self l.self (λ p o. record o { operands = with_chosen (is_among (take l.place-index l.places)) l.other p 0 o.operands });
  types : (v : _) → type_at l.self v ≡ type_at l.fn.self v;
  counter : l.self.counter ≡ l.fn.self.counter;
}
