use Rattle.ir_program.specs.Program.{operation_at}
use Rattle.std.proofs.Common.{◌∙◌, ◌∷◌, [], ap, refl, subst, sym, true≢false, IsSome}
use Rattle.ir_program.specs.Lists.{StandsInside, IsLiveNode}
use Rattle.ir_program.specs.Preorder.{nodes_inside, AreInside, IsPreorder, StandOnceEach}
use Rattle.ir_program.specs.declared.handles.IRNode.TheVariants.{Operation as OperationNode}
use Rattle.ir_trees.specs.Stands.{StandsFor}
use Rattle.opt_inside.proofs.Around.{HasLists}
use Rattle.kit_checks.specs.World.{world_of}
use Rattle.kit_checks.specs.declared.rule.Rule.TheVariants.{RootIsModule}
use Rattle.kit_checks.proofs.LocalRules.{all_kept, not_all_kept, walk_begins, walk_goes_on}
use Rattle.kit_checks.proofs.Numbering.{numbering_begins, numbering_goes_on, numbering_orders}
use Rattle.kit_checks.proofs.Searched.{next_inside, next_is_there}
use Rattle.kit_checks.proofs.search.keeps_local_rules.Goals as goal

pub loop-node-init : goal.loop-node-init
loop-node-init c =
    let all = c.into_iter-node-iterator.ensures.into_iter_gives ∙ c.nodes_inside-node-items.ensures.list
    ∙ ap (λ p. nodes_inside p (OperationNode c.args.root)) c.program-program.ensures in (
      walk_begins (world_of c.args.ctx.now) c.args.ctx.now.program c.args.root c.into_iter-node-iterator.result all,
      numbering_begins c.args.ctx.now.program c.args.root c.new-order.result c.into_iter-node-iterator.result all
          c.new-order.ensures,
    )

pub keeps_all_at-requires-clause-inside : goal.keeps_all_at-requires-clause-inside
keeps_all_at-requires-clause-inside c =
    next_inside (world_of c.args.ctx.now) c.args.ctx.now.program c.args.root RootIsModule
    (subst (λ p. AreInside p (OperationNode c.args.root) (nodes_inside p (OperationNode c.args.root)))
    c.program-program.ensures c.nodes_inside-node-items.ensures.inside)
    c.loop-node.node-iterator c.next.new.self c.in-Some.node c.in-Some.ensures.steps
    (c.loop-node.invariant.0 RootIsModule tt)

pub keeps_all_at-requires-clause-live : goal.keeps_all_at-requires-clause-live
keeps_all_at-requires-clause-live c =
    next_is_there (world_of c.args.ctx.now) c.args.ctx.now.program c.args.root RootIsModule
    (subst (λ p. AreInside p (OperationNode c.args.root) (nodes_inside p (OperationNode c.args.root)))
    c.program-program.ensures c.nodes_inside-node-items.ensures.inside)
    c.loop-node.node-iterator c.next.new.self c.in-Some.node c.in-Some.ensures.steps
    (c.loop-node.invariant.0 RootIsModule tt)

pub loop-node-preserved : goal.loop-node-preserved
loop-node-preserved c = (
  walk_goes_on (world_of c.args.ctx.now) c.args.ctx.now.program c.args.root c.loop-node.node-iterator c.next.new.self
      c.in-Some.node c.keeps_all_at.result c.in-Some.ensures.steps c.if-not-keeps_all_at.false c.keeps_all_at.ensures
      c.loop-node.invariant.0,
  numbering_goes_on c.args.ctx.now.program c.args.root
      (subst (λ p. AreInside p (OperationNode c.args.root) (nodes_inside p (OperationNode c.args.root)))
      c.program-program.ensures c.nodes_inside-node-items.ensures.inside)
      (subst (λ p. StandOnceEach (nodes_inside p (OperationNode c.args.root)))
      c.program-program.ensures c.nodes_inside-node-items.ensures.once)
      c.loop-node.order c.number_entity.new.self c.loop-node.number c.in_ok-number.number c.loop-node.node-iterator
      c.next.new.self c.in-Some.node c.in-Some.ensures.steps c.in_ok-number.ensures
      c.in_ok-number_entity.ensures c.loop-node.invariant.1,
)

pub returns-then-not-keeps_all_at : goal.returns-then-not-keeps_all_at
returns-then-not-keeps_all_at c =
    let p = c.program-program.ensures in
    let lists : HasLists c.program-program.result.now = record {
      operations_once = c.know_lists.ensures.operations_once;
      blocks_once = c.know_lists.ensures.blocks_once;
      regions_once = c.know_lists.ensures.regions_once;
      operations = c.know_lists.ensures.operations;
      blocks = c.know_lists.ensures.blocks;
      regions = c.know_lists.ensures.regions;
      operation_apart = c.know_lists.ensures.operation_apart;
      block_apart = c.know_lists.ensures.block_apart;
    } in
    let inside : StandsInside c.args.ctx.now.program (OperationNode c.args.root) c.in-Some.node =
    next_inside (world_of c.args.ctx.now) c.args.ctx.now.program c.args.root RootIsModule
    (subst (λ x. AreInside x (OperationNode c.args.root) (nodes_inside x (OperationNode c.args.root))) p
    c.nodes_inside-node-items.ensures.inside)
    c.loop-node.node-iterator c.next.new.self c.in-Some.node c.in-Some.ensures.steps
    (c.loop-node.invariant.0 RootIsModule tt) in (
      λ holds. absurd (true≢false (sym holds)),
      λ kept. absurd (not_all_kept (world_of c.args.ctx.now) c.args.ctx.now.program c.args.root (subst HasLists p lists)
          c.know_tree.ensures.0 (subst (λ x. StandsFor x c.args.root c.know_tree.ensures.0) p c.know_tree.ensures.1)
          c.in-Some.node inside c.keeps_all_at.result c.if-not-keeps_all_at.true c.keeps_all_at.ensures kept),
    )

pub returns : goal.returns
returns c =
    let p = c.program-program.ensures in
    let lists : HasLists c.program-program.result.now = record {
      operations_once = c.know_lists.ensures.operations_once;
      blocks_once = c.know_lists.ensures.blocks_once;
      regions_once = c.know_lists.ensures.regions_once;
      operations = c.know_lists.ensures.operations;
      blocks = c.know_lists.ensures.blocks;
      regions = c.know_lists.ensures.regions;
      operation_apart = c.know_lists.ensures.operation_apart;
      block_apart = c.know_lists.ensures.block_apart;
    } in (
      λ holds r tested. all_kept (world_of c.args.ctx.now) c.args.ctx.now.program c.args.root (subst HasLists p lists)
          (subst (λ x. AreInside x (OperationNode c.args.root) (nodes_inside x (OperationNode c.args.root))) p
          c.nodes_inside-node-items.ensures.inside)
          c.loop-node.node-iterator c.in-None.ensures.steps.0 c.loop-node.invariant.0 r tested,
      λ kept. refl,
    )

pub know_tree-requires : goal.know_tree-requires
know_tree-requires c = subst (λ p. IsSome (operation_at p c.args.root)) (sym c.program-program.ensures) c.requires

pub nodes_inside-node-items-requires : goal.nodes_inside-node-items-requires
nodes_inside-node-items-requires c = subst (λ p. IsLiveNode p (OperationNode c.args.root)) (sym c.program-program.ensures) c.requires

pub keeps_all_at-requires-clause-order : goal.keeps_all_at-requires-clause-order
keeps_all_at-requires-clause-order c op is =
    numbering_orders c.args.ctx.now.program c.args.root
    (subst (λ p. AreInside p (OperationNode c.args.root) (nodes_inside p (OperationNode c.args.root)))
    c.program-program.ensures c.nodes_inside-node-items.ensures.inside)
    (subst (λ p. StandOnceEach (nodes_inside p (OperationNode c.args.root)))
    c.program-program.ensures c.nodes_inside-node-items.ensures.once)
    (subst (λ p. IsPreorder p (OperationNode c.args.root ∷ []) (nodes_inside p (OperationNode c.args.root)))
    c.program-program.ensures c.nodes_inside-node-items.ensures.order)
    c.loop-node.order c.number_entity.new.self c.loop-node.number c.in_ok-number.number c.loop-node.node-iterator
    c.next.new.self c.in-Some.node c.in-Some.ensures.steps c.in_ok-number.ensures c.in_ok-number_entity.ensures
    c.loop-node.invariant.1 op is
