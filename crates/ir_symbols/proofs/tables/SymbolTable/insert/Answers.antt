use Rattle.std.proofs.Common.{◌≡◌, Some, slice_get, rules, subst}
use Rattle.std.proofs.lemmas.Result.{IfErr-weaker}
use Rattle.ir_symbols.specs.Insertions.{CanInsert, InsertsEntry, IsRefusedBy, HasPlace}
use Rattle.ir_program.specs.Lists.{operations_in, StandsInBlock}
use Rattle.ir_symbols.proofs.Kept.{insert_agrees}
use Rattle.ir_symbols.proofs.tables.SymbolTable.insert.Goals as goal

pub returns-in_err-test-clause-refused : goal.returns-in_err-test-clause-refused
returns-in_err-test-clause-refused g c =
    IfErr-weaker c.from_residual.result (IsRefusedBy g.O.SymbolPayload.name_in c.program-program.result.now c.args.self.now c.args.op c.args.before) _
    (λ e h. subst (λ p. IsRefusedBy g.O.SymbolPayload.name_in p c.args.self.now c.args.op c.args.before e) c.program-program.ensures h) (search rules)

pub put-requires-clause-place : goal.put-requires-clause-place
put-requires-clause-place g c = subst (λ p. HasPlace p c.args.self.now.body c.args.op c.args.before) c.program-program.ensures c.in_ok-test.ensures.ok.place

pub returns-clause-agrees : goal.returns-clause-agrees
returns-clause-agrees g c = λ agrees.
    insert_agrees g.O.SymbolPayload.name_in c.args.ctx.now.program c.put.new.ctx.program c.args.self.now c.put_entry.new.self c.args.op c.args.before
    (subst (λ p. (block : _) (k : _) (q : _) → slice_get (operations_in p block) k ≡ Some q → StandsInBlock p q block) c.program-program.ensures c.know_lists.ensures.operations)
    c.requires.op c.requires.block
    (subst (λ p. CanInsert g.O.SymbolPayload.name_in p c.args.self.now c.args.op c.args.before) c.program-program.ensures c.in_ok-test.ensures.ok)
    (subst (λ p. InsertsEntry g.O.SymbolPayload.name_in p c.args.self.now c.args.op c.put_entry.new.self) c.program-program.ensures c.in_ok-put_entry.ensures.ok)
    agrees c.put.ensures.put
