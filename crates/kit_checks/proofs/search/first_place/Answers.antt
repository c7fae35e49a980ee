use Rattle.std.proofs.Common.{sym, subst}
use Rattle.ir_program.specs.Preorder.{nodes_inside, AreInside, StandOnceEach, IsPreorder}
use Rattle.ir_program.specs.declared.handles.IRNode.TheVariants.{Operation as OperationNode}
use Rattle.std.proofs.Common.{[], ◌∷◌}
use Rattle.opt_inside.proofs.Around.{HasLists}
use Rattle.kit_checks.specs.World.{world_of}
use Rattle.kit_checks.specs.Located.{IsPlaceOf}
use Rattle.kit_checks.specs.Searching.{IsSearched}
use Rattle.ir_program.specs.Lists.{StandsInside}
use Rattle.kit_checks.proofs.Searched.{found_inside, found_nowhere, found_first}
use Rattle.kit_checks.proofs.search.first_place.Goals as goal

pub returns-in-None : goal.returns-in-None
returns-in-None c =
    let p = c.program-program.ensures in
    let lists : HasLists c.program-program.result.now = record {
      operations_once = c.know_lists.ensures.operations_once;
      blocks_once = c.know_lists.ensures.blocks_once;
      regions_once = c.know_lists.ensures.regions_once;
      operations = c.know_lists.ensures.operations;
      blocks = c.know_lists.ensures.blocks;
      regions = c.know_lists.ensures.regions;
      operation_apart = c.know_lists.ensures.operation_apart;
      block_apart = c.know_lists.ensures.block_apart;
    } in
    found_nowhere (world_of c.args.ctx.now) c.args.ctx.now.program c.args.root c.args.rule
    (subst (λ x. AreInside x (OperationNode c.args.root) (nodes_inside x (OperationNode c.args.root))) p c.nodes_inside-inside.ensures.inside)
    (subst HasLists p lists)
    (subst (IsSearched (world_of c.args.ctx.now) c.args.ctx.now.program c.args.root c.args.rule) c.in-None.is c.in_ok-found.ensures)

pub returns-in_ok-place-in-Some : goal.returns-in_ok-place-in-Some
returns-in_ok-place-in-Some c =
    let p = c.program-program.ensures in
    let lists : HasLists c.program-program.result.now = record {
      operations_once = c.know_lists.ensures.operations_once;
      blocks_once = c.know_lists.ensures.blocks_once;
      regions_once = c.know_lists.ensures.regions_once;
      operations = c.know_lists.ensures.operations;
      blocks = c.know_lists.ensures.blocks;
      regions = c.know_lists.ensures.regions;
      operation_apart = c.know_lists.ensures.operation_apart;
      block_apart = c.know_lists.ensures.block_apart;
    } in
    found_first (world_of c.args.ctx.now) c.args.ctx.now.program c.args.root c.args.rule
    (subst (λ x. AreInside x (OperationNode c.args.root) (nodes_inside x (OperationNode c.args.root))) p c.nodes_inside-inside.ensures.inside)
    (subst HasLists p lists)
    (subst (λ x. StandOnceEach (nodes_inside x (OperationNode c.args.root))) p c.nodes_inside-inside.ensures.once)
    (subst (λ x. IsPreorder x (OperationNode c.args.root ∷ []) (nodes_inside x (OperationNode c.args.root))) p c.nodes_inside-inside.ensures.order)
    c.in-Some.op c.in_ok-place-in-Some.place.children.items
    (subst (IsSearched (world_of c.args.ctx.now) c.args.ctx.now.program c.args.root c.args.rule) c.in-Some.is c.in_ok-found.ensures)
    (subst (λ x. IsPlaceOf x c.args.root c.in-Some.op c.in_ok-place-in-Some.place.children.items) p c.in_ok-place-in-Some.ensures)

pub place_of-requires-clause-inside : goal.place_of-requires-clause-inside
place_of-requires-clause-inside c =
    let p = c.program-program.ensures in
    subst (λ x. StandsInside x (OperationNode c.args.root) (OperationNode c.in-Some.op)) (sym p)
    (found_inside (world_of c.args.ctx.now) c.args.ctx.now.program c.args.root c.args.rule
    (subst (λ x. AreInside x (OperationNode c.args.root) (nodes_inside x (OperationNode c.args.root))) p c.nodes_inside-inside.ensures.inside)
    c.in-Some.op (subst (IsSearched (world_of c.args.ctx.now) c.args.ctx.now.program c.args.root c.args.rule) c.in-Some.is c.in_ok-found.ensures))
