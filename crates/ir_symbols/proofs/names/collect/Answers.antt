use Rattle.std.proofs.Common.{◌≡◌, rules, sym, subst}
use Rattle.std.proofs.lemmas.Result.{IfErr-weaker}
use Rattle.ir_program.specs.Lists.{operations_in}
use Rattle.ir_queries.proofs.Partway.{moved, ended}
use Rattle.ir_symbols.specs.Collecting.{AreSymbolsAmong, IsNamedAlready, IsNotCollectedBy}
use Rattle.ir_symbols.specs.Symbols.{HasSharedName}
use Rattle.ir_symbols.proofs.Entries.{one_more_among, all_among, named_twice, not_collected}
use Rattle.ir_symbols.proofs.names.collect.Goals as goal

pub loop-op-preserved : goal.loop-op-preserved
loop-op-preserved g c =
    let all = operations_in c.args.program.now c.args.block in (
      one_more_among g.O.SymbolPayload.name_in c.args.program.now c.loop-op.yielded c.in-Some.op c.loop-op.names c.put_symbol.new.names c.loop-op.invariant.0 c.in_ok-put_symbol.ensures.ok,
      moved (λ xs. all ≡ xs) c.loop-op.yielded c.loop-op.op-iterator c.next.new.self c.in-Some.op c.in-Some.ensures.steps c.loop-op.invariant.1,
    )

pub returns-in_err-put_symbol-clause-err : goal.returns-in_err-put_symbol-clause-err
returns-in_err-put_symbol-clause-err g c =
    let there = IsNamedAlready g.O.SymbolPayload.name_in c.args.program.now c.loop-op.names c.in-Some.op in
    let shared = HasSharedName g.O.SymbolPayload.name_in c.args.program.now c.args.block in
    IfErr-weaker c.from_residual.result (IsNotCollectedBy there) (IsNotCollectedBy shared)
    (not_collected there shared (named_twice g.O.SymbolPayload.name_in c.args.program.now c.args.block c.know_lists.ensures.operations c.know_lists.ensures.operations_once
    c.loop-op.yielded c.loop-op.op-iterator c.next.new.self c.in-Some.op c.loop-op.names c.loop-op.invariant.1 c.in-Some.ensures.steps c.loop-op.invariant.0))
    (search rules)

pub returns-clause-ok : goal.returns-clause-ok
returns-clause-ok g c =
    let all = operations_in c.args.program.now c.args.block in
    let done : all ≡ c.loop-op.yielded = ended (λ xs. all ≡ xs) c.loop-op.yielded c.loop-op.op-iterator c.in-None.ensures.steps.0 c.loop-op.invariant.1 in
    all_among g.O.SymbolPayload.name_in c.args.program.now c.args.block c.know_lists.ensures.operations c.loop-op.names
    (subst (λ xs. AreSymbolsAmong g.O.SymbolPayload.name_in c.args.program.now xs c.loop-op.names) (sym done) c.loop-op.invariant.0)
