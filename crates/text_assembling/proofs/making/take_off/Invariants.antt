use Rattle.std.proofs.Common.{◌≡◌, ◌≤◌, ◌++◌, List, drop, length, vec_len, vec_capacity}
use Rattle.text_frames.specs.Worlds.{joined}
use Rattle.ir_program.specs.declared.handles.IRNode.{IRNode}
use Rattle.text_frames.specs.building.Made.{lists_of}
use Rattle.text_assembling.proofs.making.take_off.Given as goal

abbrev pub invariant-loop-blocks : goal.invariant-loop-blocks
invariant-loop-blocks l = record {
  rest : (xs ys : List IRNode) → l.initial.loose.items ≡ xs ++ ys → length ys ≡ length (joined (lists_of l.lists))
      → (zs : List IRNode) × (l.loose.items ≡ xs ++ zs) × (length zs ≡ length (joined (lists_of (drop l.blocks-index l.lists))));
  shorter : vec_len l.loose ≤ vec_len l.initial.loose;
  capacity : vec_capacity l.loose ≡ vec_capacity l.initial.loose;
}
