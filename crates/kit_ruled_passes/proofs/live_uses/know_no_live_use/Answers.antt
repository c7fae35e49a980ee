use Rattle.std.proofs.Common.{subst}
use Rattle.ir_program.specs.Program.{Program}
use Rattle.ir_trees.specs.Stands.{StandsFor}
use Rattle.kit.specs.Context.{KitTree}
use Rattle.opt_inside.proofs.Added.{HasValues}
use Rattle.opt_inside.proofs.Around.{HasLists}
use Rattle.kit.specs.Meaning.{KitOperation, KitBlock}
use Rattle.kit_ruled_passes.proofs.NoLiveUse.{no_live_use}
use Rattle.kit_ruled_passes.proofs.live_uses.know_no_live_use.Goals as goal

pub returns : goal.returns
returns c =
    let s = c.args.ctx.now in
    let root = c.args.root in
    let program = c.program-program.ensures in
    let lists : HasLists s.program = subst HasLists program
    (record {
      operations_once = c.know_lists.ensures.operations_once;
      blocks_once = c.know_lists.ensures.blocks_once;
      regions_once = c.know_lists.ensures.regions_once;
      operations = c.know_lists.ensures.operations;
      blocks = c.know_lists.ensures.blocks;
      regions = c.know_lists.ensures.regions;
      operation_apart = c.know_lists.ensures.operation_apart;
      block_apart = c.know_lists.ensures.block_apart;
    }) in
    let values : HasValues s.program = subst HasValues program
    (record {
      definer = c.know_values.ensures.definer;
      typed = c.know_values.ensures.typed;
      stands = c.know_values.ensures.stands;
    }) in
    let tree : (t : KitTree) × StandsFor s.program root t =
    subst (λ (p : Program KitOperation KitBlock). (t : KitTree) × StandsFor p root t) program c.know_tree.ensures in
    no_live_use s.program root lists values (record {
      tree = tree;
      decided_in = c.know_scopes.ensures.decided;
      untaken = c.know_scopes.ensures.untaken c.requires.contained;
      cut_in = c.know_scopes.ensures.cut;
    })
