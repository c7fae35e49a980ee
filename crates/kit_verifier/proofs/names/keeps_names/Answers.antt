use Rattle.std.proofs.Common.{subst, sym}
use Rattle.ir_program.specs.Preorder.{nodes_inside, AreInside}
use Rattle.ir_program.specs.declared.handles.IRNode.TheVariants.{Operation as OperationNode}
use Rattle.ir_trees.specs.Stands.{StandsFor}
use Rattle.opt_inside.proofs.Around.{HasLists}
use Rattle.kit_checks.specs.World.{world_of}
use Rattle.kit_verifier.specs.Names.{AreCalls, IsGathered}
use Rattle.kit_verifier.proofs.NameRules.{all_hold, both_kept, each_holds, one_broken}
use Rattle.kit_verifier.proofs.names.keeps_names.Goals as goal

pub returns-in-Some : goal.returns-in-Some
returns-in-Some c =
    let p = c.program-program.ensures in
    let lists : HasLists c.program-program.result.now = assumption c.know_lists.ensures in
    let found = subst (IsGathered (world_of c.args.ctx.now) c.args.ctx.now.program c.args.root) c.in-Some.is c.in_ok-gathered.ensures in
    both_kept (world_of c.args.ctx.now) c.args.ctx.now.program c.args.root c.all_fit.result
    (all_hold (world_of c.args.ctx.now) c.args.ctx.now.program c.args.root (subst HasLists p lists)
    (subst (λ x. AreInside x (OperationNode c.args.root) (nodes_inside x (OperationNode c.args.root))) p c.nodes_inside-inside.ensures.inside)
    found.holds)
    c.all_fit.ensures

pub returns-in-None : goal.returns-in-None
returns-in-None c =
    let p = c.program-program.ensures in
    let lists : HasLists c.program-program.result.now = assumption c.know_lists.ensures in
    let e = subst (IsGathered (world_of c.args.ctx.now) c.args.ctx.now.program c.args.root) c.in-None.is c.in_ok-gathered.ensures in
    one_broken (world_of c.args.ctx.now) c.args.ctx.now.program c.args.root
    (λ kept. e.2 (each_holds (world_of c.args.ctx.now) c.args.ctx.now.program c.args.root (subst HasLists p lists)
    c.know_tree.ensures.0 (subst (λ x. StandsFor x c.args.root c.know_tree.ensures.0) p c.know_tree.ensures.1) kept e.0 e.1))

pub all_fit-requires-clause-calls : goal.all_fit-requires-clause-calls
all_fit-requires-clause-calls c =
    let found = subst (IsGathered (world_of c.args.ctx.now) c.args.ctx.now.program c.args.root) c.in-Some.is c.in_ok-gathered.ensures in
    subst (AreCalls (world_of c.args.ctx.now) c.args.ctx.now.program c.args.root) (sym c.as_slice.ensures.value) found.calls
