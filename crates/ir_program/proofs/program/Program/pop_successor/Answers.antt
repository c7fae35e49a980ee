use Rattle.std.proofs.Common.{◌≡◌, ◌≤◌, ◌-◌, ◌∙◌, sym, ap, ◌++◌, [], ◌∷◌, List, length, remove, arith}
use Rattle.ir_program.specs.Rows.{successors_at}
use Rattle.ir_program.specs.declared.handles.Ptr.{Ptr}
use Rattle.ir_program.specs.declared.handles.BasicBlock.{BasicBlock}
use Rattle.ir_program.proofs.rows.RowReads.{edited-successors, remove-last}
use Rattle.ir_program.proofs.program.Program.pop_successor.Goals as goal

pub returns-clause-block : goal.returns-clause-block
returns-clause-block g c =
    let some : 1 ≤ c.successor_count.result = c.in_ok-last.ensures.0 in
    let last : c.in_ok-last.last ≡ c.successor_count.result - 1 = c.in_ok-last.ensures.1 in
    let count : c.successor_count.result ≡ length (successors_at c.args.self.now c.args.op) = c.successor_count.ensures in
    remove-last (successors_at c.args.self.now c.args.op) c.in_ok-last.last c.remove_successor.result c.remove_successor.ensures.block (omega arith)
    ∙ ap (λ (xs : List (Ptr BasicBlock)). xs ++ c.remove_successor.result ∷ []) (sym (edited-successors c.args.self.now c.remove_successor.new.self c.args.op (λ xs. remove xs c.in_ok-last.last) c.requires c.remove_successor.ensures.removed))
