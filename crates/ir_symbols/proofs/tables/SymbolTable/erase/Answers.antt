use Rattle.std.proofs.Common.{◌≡◌, ℕ, Some, slice_get, subst}
use Rattle.ir_program.specs.Lists.{operations_in, StandsInBlock, StandOnce}
use Rattle.ir_symbols.proofs.Kept.{erase_agrees}
use Rattle.ir_symbols.proofs.tables.SymbolTable.erase.Goals as goal

pub returns-clause-agrees : goal.returns-clause-agrees
returns-clause-agrees g c = λ out agrees.
    erase_agrees g.O.SymbolPayload.name_in c.args.ctx.now.program c.erase.new.ctx.program c.args.self.now c.remove.new.self c.args.op
    (subst (λ p. StandOnce (operations_in p)) c.program.ensures c.know_lists.ensures.operations_once)
    (subst (λ p. (block : _) (k : ℕ) (q : _) → slice_get (operations_in p block) k ≡ Some q → StandsInBlock p q block) c.program.ensures c.know_lists.ensures.operations)
    out c.erase.ensures.erased c.remove.ensures.taken agrees
