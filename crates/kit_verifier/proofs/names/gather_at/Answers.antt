use Rattle.std.proofs.Common.{◌↔◌, IfOk, IsTrue, OnOk, subst, sym}
use Rattle.kit_checks.specs.World.{world_of}
use Rattle.kit_verifier.specs.Callees.{IsCallableAt, callables_of}
use Rattle.kit_verifier.specs.Names.{HoldsAt, IsCallAt}
use Rattle.kit_verifier.specs.Sets.{Gains}
use Rattle.kit_verifier.proofs.names.gather_at.Goals as goal

pub returns-in-Operation-clause-holds : goal.returns-in-Operation-clause-holds
returns-in-Operation-clause-holds c =
    subst (λ n. IfOk c.gather_operation.result (λ holds. IsTrue holds ↔ HoldsAt (world_of c.args.ctx.now) c.args.ctx.now.program n))
    (sym c.in-Operation.is) c.gather_operation.ensures.holds

pub returns-in-Operation-clause-callees : goal.returns-in-Operation-clause-callees
returns-in-Operation-clause-callees c =
    subst (λ n. OnOk c.gather_operation.result (Gains (callables_of c.args.callees.now.keys) (callables_of c.gather_operation.new.callees.keys)
    (IsCallableAt (world_of c.args.ctx.now) c.args.ctx.now.program n)))
    (sym c.in-Operation.is) c.gather_operation.ensures.callees

pub returns-in-Operation-clause-calls : goal.returns-in-Operation-clause-calls
returns-in-Operation-clause-calls c =
    subst (λ n. OnOk c.gather_operation.result (Gains c.args.calls.now.items c.gather_operation.new.calls.items
    (IsCallAt (world_of c.args.ctx.now) c.args.ctx.now.program n)))
    (sym c.in-Operation.is) c.gather_operation.ensures.calls

pub returns-in-BasicBlock-clause-holds : goal.returns-in-BasicBlock-clause-holds
returns-in-BasicBlock-clause-holds c =
    subst (λ n. IfOk c.holds_symbols.result (λ holds. IsTrue holds ↔ HoldsAt (world_of c.args.ctx.now) c.args.ctx.now.program n))
    (sym c.in-BasicBlock.is) c.holds_symbols.ensures
