use Rattle.std.proofs.Common.{subst}
use Rattle.ir_program.specs.Program.{Program}
use Rattle.kit.specs.Meaning.{KitOperation, KitBlock}
use Rattle.kit_ruled_passes.proofs.LeftApart.{IsKnownBefore}
use Rattle.kit_ruled_passes.proofs.PropagatedApart.{propagated_apart}
use Rattle.kit_ruled_passes.proofs.RemovedApart.{removed_apart}
use Rattle.kit_ruled_passes.proofs.SimplifiedApart.{simplified_apart}
use Rattle.kit_optimiser.proofs.LeftOutside.{leaves_rest, part_rest, propagated_outside}
use Rattle.kit_optimiser.proofs.LeftOutside.{simplified_outside, stopped_rest}
use Rattle.kit_optimiser.proofs.outside.know_rest.Goals as goal

pub returns : goal.returns
returns c =
    let old = c.args.ctx.now.program in
    let root = c.args.root in
    let known : IsKnownBefore old root =
    subst (λ (p : Program KitOperation KitBlock). IsKnownBefore p root) c.program-program.ensures
    (record {
      lists = record {
        operations_once = c.know_lists.ensures.operations_once;
        blocks_once = c.know_lists.ensures.blocks_once;
        regions_once = c.know_lists.ensures.regions_once;
        operations = c.know_lists.ensures.operations;
        blocks = c.know_lists.ensures.blocks;
        regions = c.know_lists.ensures.regions;
        operation_apart = c.know_lists.ensures.operation_apart;
        block_apart = c.know_lists.ensures.block_apart;
      };
      values = record {
        definer = c.know_values.ensures.definer;
        typed = c.know_values.ensures.typed;
        stands = c.know_values.ensures.stands;
      };
      live = c.know_operands.ensures;
      tree = c.know_tree.ensures;
    }) in
    let t = known.tree in
    record {
      propagated = λ new answer done. leaves_rest old new root
          (propagated_apart old new root known t.0 t.1 answer (done t.0 t.1)) known.lists
          (propagated_outside old new root known.lists c.requires.contained t.0 t.1 answer (done t.0 t.1));
      propagated_in_part = λ new part. part_rest old new root c.requires.contained t.0 known.lists (part t.0 t.1);
      removed = λ new answer done. leaves_rest old new root
          (removed_apart old new root known t.0 t.1 (done t.0 t.1).made) known.lists (done t.0 t.1).made.outside;
      simplified = λ new done. leaves_rest old new root
          (simplified_apart old new root known t.0 t.1 (done t.0 t.1)) known.lists
          (simplified_outside old new root known.lists c.requires.contained t.0 t.1 (done t.0 t.1));
      stopped = λ new error stopped. stopped_rest old new root known.lists t.0 t.1 error stopped;
    }
