use Rattle.std.proofs.Common.{subst}
use Rattle.ir_program.specs.Program.{Program}
use Rattle.kit.specs.Meaning.{KitOperation, KitBlock}
use Rattle.kit_ruled_passes.proofs.LeftApart.{IsKnownBefore, stays_unentered, stays_contained}
use Rattle.kit_ruled_passes.proofs.PropagatedApart.{propagated_apart}
use Rattle.kit_ruled_passes.proofs.apart.sccp_stays_apart.Goals as goal

pub returns : goal.returns
returns c =
    let s = c.args.ctx.now in
    let root = c.args.root in
    let known : IsKnownBefore s.program root =
    subst (λ (p : Program KitOperation KitBlock). IsKnownBefore p root) c.program-program.ensures
    (record {
      lists = record {
        operations_once = c.know_lists.ensures.operations_once;
        blocks_once = c.know_lists.ensures.blocks_once;
        regions_once = c.know_lists.ensures.regions_once;
        operations = c.know_lists.ensures.operations;
        blocks = c.know_lists.ensures.blocks;
        regions = c.know_lists.ensures.regions;
        operation_apart = c.know_lists.ensures.operation_apart;
        block_apart = c.know_lists.ensures.block_apart;
      };
      values = record {
        definer = c.know_values.ensures.definer;
        typed = c.know_values.ensures.typed;
        stands = c.know_values.ensures.stands;
      };
      live = c.know_operands.ensures;
      tree = c.know_tree.ensures;
    }) in
    let t = known.tree in
    record {
      entered = λ new answer done. stays_unentered s new root
          (propagated_apart s.program new.program root known t.0 t.1 answer (done t.0 t.1));
      contained = λ new answer done. stays_contained s new root
          (propagated_apart s.program new.program root known t.0 t.1 answer (done t.0 t.1)) known;
    }
