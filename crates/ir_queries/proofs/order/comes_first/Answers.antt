use Rattle.std.proofs.Common.{◌≡◌, ◌≢◌, refl, rules, tests, true≢false, sym}
use Rattle.ir_queries.proofs.FirstOf.{not_before, before_it, neither}
use Rattle.ir_queries.proofs.order.comes_first.Goals as goal

pub returns-then-eq : goal.returns-then-eq
returns-then-eq g c =
    let is : c.in-Some.op ≡ c.args.b = search (rules, tests) in (
      λ h. absurd (true≢false (sym h)),
      λ h. absurd (not_before c.args.program.now c.know_lists.ensures.operations_once c.args.a c.args.b c.args.block _ _ _ c.in-Some.op c.requires.b c.loop-op.invariant c.in-Some.ensures.steps is h),
    )

pub returns-then-eq-2 : goal.returns-then-eq-2
returns-then-eq-2 g c =
    let differ : c.in-Some.op ≢ c.args.b = search (rules, tests) in
    let is : c.in-Some.op ≡ c.args.a = search (rules, tests) in (
      λ h. before_it c.args.program.now c.know_lists.ensures.operations_once c.args.a c.args.b c.args.block _ _ _ c.in-Some.op c.requires.b c.loop-op.invariant c.in-Some.ensures.steps is differ,
      λ h. refl,
    )

pub loop-op-preserved : goal.loop-op-preserved
loop-op-preserved g c =
    let not_second : c.in-Some.op ≢ c.args.b = search (rules, tests) in
    let not_first : c.in-Some.op ≢ c.args.a = search (rules, tests) in
    neither c.loop-op.invariant c.in-Some.ensures.steps not_first not_second
