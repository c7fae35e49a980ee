use Rattle.std.proofs.Common.{◌≡◌, ◌≤◌, ◌-◌, ◌∙◌, sym, ap, ◌++◌, [], ◌∷◌, List, length, remove, arith}
use Rattle.ir_program.specs.Rows.{operands_at}
use Rattle.ir_program.specs.declared.handles.Value.{Value}
use Rattle.ir_program.proofs.rows.RowReads.{edited-operands, remove-last}
use Rattle.ir_program.proofs.program.Program.pop_operand.Goals as goal

pub returns-clause-value : goal.returns-clause-value
returns-clause-value g c =
    let some : 1 ≤ c.operand_count.result = c.in_ok-last.ensures.0 in
    let last : c.in_ok-last.last ≡ c.operand_count.result - 1 = c.in_ok-last.ensures.1 in
    let count : c.operand_count.result ≡ length (operands_at c.args.self.now c.args.op) = c.operand_count.ensures in
    remove-last (operands_at c.args.self.now c.args.op) c.in_ok-last.last c.remove_operand.result c.remove_operand.ensures.value (omega arith)
    ∙ ap (λ (xs : List Value). xs ++ c.remove_operand.result ∷ []) (sym (edited-operands c.args.self.now c.remove_operand.new.self c.args.op (λ xs. remove xs c.in_ok-last.last) c.requires c.remove_operand.ensures.removed))
