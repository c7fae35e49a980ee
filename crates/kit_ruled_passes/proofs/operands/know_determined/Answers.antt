use Rattle.std.proofs.Common.{subst}
use Rattle.kit.specs.Context.{KitProgram}
use Rattle.opt_inside.proofs.Around.{HasLists}
use Rattle.opt_inside.specs.Occurring.{OfItsTree, EachFound, EachBlock, IsOccurrence, IsBlockOccurrence, BlockNamesApart}
use Rattle.kit_ruled_passes.proofs.Determined.{none_lacks}
use Rattle.kit_ruled_passes.proofs.FittingEdges.{edge_fits}
use Rattle.kit_ruled_passes.proofs.LocalEdges.{fits_edges}
use Rattle.kit_ruled_passes.proofs.OrderedScopes.{ordered_by_rules}
use Rattle.kit_ruled_passes.proofs.operands.know_determined.Goals as goal

pub returns : goal.returns
returns c =
    let s = c.args.ctx.now in
    let root = c.args.root in
    let program = c.program-program.ensures in
    let lists : HasLists s.program = subst HasLists program
    (record {
      operations_once = c.know_lists.ensures.operations_once;
      blocks_once = c.know_lists.ensures.blocks_once;
      regions_once = c.know_lists.ensures.regions_once;
      operations = c.know_lists.ensures.operations;
      blocks = c.know_lists.ensures.blocks;
      regions = c.know_lists.ensures.regions;
      operation_apart = c.know_lists.ensures.operation_apart;
      block_apart = c.know_lists.ensures.block_apart;
    }) in
    let sound = subst (λ (p : KitProgram). OfItsTree p root (λ u. EachFound u (IsOccurrence p root))) program
    c.know_occurrences.ensures.sound in
    let blocks_sound = subst (λ (p : KitProgram). OfItsTree p root (λ u. EachBlock u (IsBlockOccurrence p root)))
    program c.know_occurrences.ensures.blocks_sound in
    let apart = subst (λ (p : KitProgram). OfItsTree p root (λ u. BlockNamesApart u)) program
    c.know_occurrences.ensures.blocks_one in
    λ t stands k best.
    let fits = fits_edges s root lists t stands c.requires.rules in
    none_lacks t k best (apart t stands)
    (λ o y i ho hy branch leads. edge_fits s.program root fits o y i (sound t stands o ho)
    (blocks_sound t stands y hy) branch leads)
    (ordered_by_rules s t (c.requires.rules t stands))
