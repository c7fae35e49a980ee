use Rattle.std.proofs.Common.{[], ◌∷◌, refl, subst}
use Rattle.ir_program.specs.Program.{Program}
use Rattle.ir_trees.specs.Stands.{StandsFor}
use Rattle.kit.specs.Context.{KitTree}
use Rattle.opt_decide.proofs.SaidAround.{HasValues as Said}
use Rattle.opt_inside.proofs.Around.{HasLists}
use Rattle.opt_inside.proofs.Added.{HasValues}
use Rattle.opt_inside.specs.Around.{CanTellTaken}
use Rattle.opt_trees.specs.Simplify.{OfOperations}
use Rattle.kit.specs.Meaning.{KitOperation, KitBlock}
use Rattle.kit_ruled_passes.proofs.KeptScopes.{nothing_lost}
use Rattle.kit_ruled_passes.proofs.NoCircles.{no_circle}
use Rattle.kit_ruled_passes.proofs.Homes.{IsFirst, homed_regions}
use Rattle.kit_ruled_passes.proofs.refusals.know_no_refusal.Goals as goal

pub returns : goal.returns
returns c =
    let s = c.args.ctx.now in
    let root = c.args.root in
    let program = c.program-program.ensures in
    let lists : HasLists s.program = subst HasLists program
    (record {
      operations_once = c.know_lists.ensures.operations_once;
      blocks_once = c.know_lists.ensures.blocks_once;
      regions_once = c.know_lists.ensures.regions_once;
      operations = c.know_lists.ensures.operations;
      blocks = c.know_lists.ensures.blocks;
      regions = c.know_lists.ensures.regions;
      operation_apart = c.know_lists.ensures.operation_apart;
      block_apart = c.know_lists.ensures.block_apart;
    }) in
    let values : HasValues s.program = subst HasValues program
    (record {
      definer = c.know_values.ensures.definer;
      typed = c.know_values.ensures.typed;
      stands = c.know_values.ensures.stands;
    }) in
    let tree : (t : KitTree) × StandsFor s.program root t =
    subst (λ (p : Program KitOperation KitBlock). (t : KitTree) × StandsFor p root t) program c.know_tree.ensures in
    let said : Said s.program = subst Said program
    (record {
      definer = c.know_values.ensures.definer;
      typed = c.know_values.ensures.typed;
      stands = c.know_values.ensures.stands;
      live = c.know_operands.ensures;
    }) in
    let told : CanTellTaken s.program root =
    subst (λ (p : Program KitOperation KitBlock). CanTellTaken p root) program c.know_taken.ensures in
    record {
      uses = λ untaken loses. nothing_lost s.program root said told tree.0 tree.1 c.requires.scoped untaken loses;
      circles = λ circle. no_circle (IsFirst s.program lists values) (OfOperations (root ∷ [])) tree.0
          (c.requires.scoped.inside tree.0 tree.1)
          (homed_regions s.program lists values tree.1.view.regions tree.0.regions tree.1.regions)
          (circle (OfOperations (root ∷ [])) refl tree.0 tree.1);
    }
