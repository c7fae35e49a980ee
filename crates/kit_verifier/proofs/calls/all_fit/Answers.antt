use Rattle.std.proofs.Common.{◌≡◌, Some, arith, get_or, length, refl, slice_get, subst, sym, true≢false}
use Rattle.std.proofs.lemmas.Option.{slice_get-get_or}
use Rattle.ir_program.specs.Preorder.{nodes_inside, AreInside}
use Rattle.ir_program.specs.Program.{no_handle}
use Rattle.ir_program.specs.declared.handles.IRNode.TheVariants.{Operation as OperationNode}
use Rattle.ir_trees.specs.Stands.{StandsFor}
use Rattle.ir_trees.proofs.Members.{at_has}
use Rattle.opt_inside.proofs.Around.{HasLists}
use Rattle.kit_checks.specs.World.{world_of}
use Rattle.kit_verifier.proofs.NameRules as names
use Rattle.kit_verifier.proofs.calls.all_fit.Goals as goal

pub loop-call-init : goal.loop-call-init
loop-call-init c = names.fit_none (world_of c.args.ctx.now) c.args.ctx.now.program c.args.root c.args.calls.now

pub calls_fit-requires-clause-inside : goal.calls_fit-requires-clause-inside
calls_fit-requires-clause-inside c =
    names.call_inside (world_of c.args.ctx.now) c.args.ctx.now.program c.args.root c.args.calls.now c.requires.calls _
    (at_has c.args.calls.now c.loop-call.call-index _ (slice_get-get_or c.args.calls.now c.loop-call.call-index no_handle (omega arith)))

pub calls_fit-requires-clause-op : goal.calls_fit-requires-clause-op
calls_fit-requires-clause-op c =
    names.call_live (world_of c.args.ctx.now) c.args.ctx.now.program c.args.root c.requires.root _
    (names.call_inside (world_of c.args.ctx.now) c.args.ctx.now.program c.args.root c.args.calls.now c.requires.calls _
    (at_has c.args.calls.now c.loop-call.call-index _ (slice_get-get_or c.args.calls.now c.loop-call.call-index no_handle (omega arith))))

pub loop-call-preserved : goal.loop-call-preserved
loop-call-preserved c =
    names.fit_more (world_of c.args.ctx.now) c.args.ctx.now.program c.args.root c.args.calls.now c.loop-call.call-index _ c.calls_fit.result
    (slice_get-get_or c.args.calls.now c.loop-call.call-index no_handle (omega arith)) c.if-not-calls_fit.false c.calls_fit.ensures c.loop-call.invariant

pub returns-then-not-calls_fit : goal.returns-then-not-calls_fit
returns-then-not-calls_fit c =
    let p = c.program-program.ensures in
    let lists : HasLists c.program-program.result.now = assumption c.know_lists.ensures in
    let called : slice_get c.args.calls.now c.loop-call.call-index ≡ Some (get_or c.args.calls.now c.loop-call.call-index no_handle) =
    slice_get-get_or c.args.calls.now c.loop-call.call-index no_handle (omega arith) in (
      λ h. absurd (true≢false (sym h)),
      λ found. absurd (names.fit_fails (world_of c.args.ctx.now) c.args.ctx.now.program c.args.root (subst HasLists p lists)
          c.know_tree.ensures.0 (subst (λ x. StandsFor x c.args.root c.know_tree.ensures.0) p c.know_tree.ensures.1) _ c.calls_fit.result
          (names.call_inside (world_of c.args.ctx.now) c.args.ctx.now.program c.args.root c.args.calls.now c.requires.calls _
          (at_has c.args.calls.now c.loop-call.call-index _ called))
          c.if-not-calls_fit.true c.calls_fit.ensures found),
    )

pub returns : goal.returns
returns c =
    let p = c.program-program.ensures in
    let lists : HasLists c.program-program.result.now = assumption c.know_lists.ensures in (
      λ h. names.all_fit (world_of c.args.ctx.now) c.args.ctx.now.program c.args.root (subst HasLists p lists)
          (subst (λ x. AreInside x (OperationNode c.args.root) (nodes_inside x (OperationNode c.args.root))) p c.nodes_inside-inside.ensures.inside)
          c.args.calls.now c.loop-call.call-index (let e : c.loop-call.call-index ≡ length c.args.calls.now = omega arith in e) c.requires.calls c.loop-call.invariant,
      λ found. refl,
    )
