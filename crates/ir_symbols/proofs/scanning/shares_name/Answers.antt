use Rattle.std.proofs.Common.{◌≡◌, ◌++◌, length, Some, slice_get, refl, sym, ap, subst, ◌∙◌, true≢false}
use Rattle.ir_program.specs.Lists.{operations_in}
use Rattle.ir_queries.proofs.Partway.{get-middle, moved, ended}
use Rattle.ir_symbols.proofs.NamesFound.{AreFirst, shares, one_more, shares_none}
use Rattle.ir_symbols.proofs.scanning.shares_name.Goals as goal

pub returns-then-comes_second : goal.returns-then-comes_second
returns-then-comes_second g c =
    let all = operations_in c.args.program.now c.args.block in
    let at : slice_get all (length c.loop-op.yielded) ≡ Some c.in-Some.op = subst (λ xs. slice_get xs (length c.loop-op.yielded) ≡ Some c.in-Some.op)
    (sym (c.loop-op.invariant.1 ∙ ap (λ r. c.loop-op.yielded ++ r) c.in-Some.ensures.steps)) (get-middle c.loop-op.yielded c.next.new.self c.in-Some.op) in (
      λ h. shares g.O.SymbolPayload.name_in c.args.program.now c.args.block c.know_lists.ensures.operations (length c.loop-op.yielded) c.in-Some.op at (c.comes_second.ensures.later c.if-comes_second.true),
      λ s. refl,
    )

pub loop-op-preserved : goal.loop-op-preserved
loop-op-preserved g c =
    let all = operations_in c.args.program.now c.args.block in (
      one_more g.O.SymbolPayload.name_in c.args.program.now all c.loop-op.yielded c.in-Some.op c.loop-op.invariant.0 (c.comes_second.ensures.first c.if-comes_second.false),
      moved (λ xs. all ≡ xs) c.loop-op.yielded c.loop-op.op-iterator c.next.new.self c.in-Some.op c.in-Some.ensures.steps c.loop-op.invariant.1,
    )

pub returns : goal.returns
returns g c =
    let all = operations_in c.args.program.now c.args.block in
    let done : all ≡ c.loop-op.yielded = ended (λ xs. all ≡ xs) c.loop-op.yielded c.loop-op.op-iterator c.in-None.ensures.steps.0 c.loop-op.invariant.1 in (
      λ h. absurd (true≢false (sym h)),
      λ s. absurd (shares_none g.O.SymbolPayload.name_in c.args.program.now c.args.block (subst (λ xs. AreFirst g.O.SymbolPayload.name_in c.args.program.now all xs) (sym done) c.loop-op.invariant.0) s),
    )
