use Rattle.std.proofs.Common.{sym, subst}
use Rattle.ir_program.specs.Preorder.{nodes_inside, AreInside, StandOnceEach, IsPreorder}
use Rattle.ir_program.specs.declared.handles.IRNode.TheVariants.{Operation as OperationNode}
use Rattle.std.proofs.Common.{[], ◌∷◌}
use Rattle.opt_inside.proofs.Around.{HasLists}
use Rattle.kit_checks.specs.World.{world_of}
use Rattle.kit_checks.specs.Located.{IsPlaceOf}
use Rattle.kit_checks.specs.Searching.{IsSearched}
use Rattle.ir_program.specs.Lists.{StandsInside}
use Rattle.kit_checks.proofs.Searched.{found_inside, found_nowhere, found_first}
use Rattle.kit_verifier.specs.Tables.{rule_of}
use Rattle.kit_verifier.proofs.search.first_place_by.Goals as goal

pub returns : goal.returns
returns c =
    let p = c.program-program.ensures in
    let lists : HasLists c.program-program.result.now = record {
      operations_once = c.know_lists.ensures.operations_once;
      blocks_once = c.know_lists.ensures.blocks_once;
      regions_once = c.know_lists.ensures.regions_once;
      operations = c.know_lists.ensures.operations;
      blocks = c.know_lists.ensures.blocks;
      regions = c.know_lists.ensures.regions;
      operation_apart = c.know_lists.ensures.operation_apart;
      block_apart = c.know_lists.ensures.block_apart;
    } in
    found_nowhere (world_of c.args.ctx.now) c.args.ctx.now.program c.args.root (rule_of c.args.table.now)
    (subst (λ x. AreInside x (OperationNode c.args.root) (nodes_inside x (OperationNode c.args.root))) p c.nodes_inside-inside.ensures.inside)
    (subst HasLists p lists)
    (subst (IsSearched (world_of c.args.ctx.now) c.args.ctx.now.program c.args.root (rule_of c.args.table.now)) c.in-None.is c.first_operation.ensures)

pub returns-in-Ok : goal.returns-in-Ok
returns-in-Ok c =
    let p = c.program-program.ensures in
    let lists : HasLists c.program-program.result.now = record {
      operations_once = c.know_lists.ensures.operations_once;
      blocks_once = c.know_lists.ensures.blocks_once;
      regions_once = c.know_lists.ensures.regions_once;
      operations = c.know_lists.ensures.operations;
      blocks = c.know_lists.ensures.blocks;
      regions = c.know_lists.ensures.regions;
      operation_apart = c.know_lists.ensures.operation_apart;
      block_apart = c.know_lists.ensures.block_apart;
    } in
    found_first (world_of c.args.ctx.now) c.args.ctx.now.program c.args.root (rule_of c.args.table.now)
    (subst (λ x. AreInside x (OperationNode c.args.root) (nodes_inside x (OperationNode c.args.root))) p c.nodes_inside-inside.ensures.inside)
    (subst HasLists p lists)
    (subst (λ x. StandOnceEach (nodes_inside x (OperationNode c.args.root))) p c.nodes_inside-inside.ensures.once)
    (subst (λ x. IsPreorder x (OperationNode c.args.root ∷ []) (nodes_inside x (OperationNode c.args.root))) p c.nodes_inside-inside.ensures.order)
    c.in-Some.op c.in-Ok.place.children.items
    (subst (IsSearched (world_of c.args.ctx.now) c.args.ctx.now.program c.args.root (rule_of c.args.table.now)) c.in-Some.is c.first_operation.ensures)
    (subst (λ x. IsPlaceOf x c.args.root c.in-Some.op c.in-Ok.place.children.items) p c.in-Ok.ensures)

pub place_of-requires-clause-inside : goal.place_of-requires-clause-inside
place_of-requires-clause-inside c =
    let p = c.program-program.ensures in
    subst (λ x. StandsInside x (OperationNode c.args.root) (OperationNode c.in-Some.op)) (sym p)
    (found_inside (world_of c.args.ctx.now) c.args.ctx.now.program c.args.root (rule_of c.args.table.now)
    (subst (λ x. AreInside x (OperationNode c.args.root) (nodes_inside x (OperationNode c.args.root))) p c.nodes_inside-inside.ensures.inside)
    c.in-Some.op (subst (IsSearched (world_of c.args.ctx.now) c.args.ctx.now.program c.args.root (rule_of c.args.table.now)) c.in-Some.is c.first_operation.ensures))
