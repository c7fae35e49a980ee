use Rattle.std.proofs.Common.{◌≡◌, subst, sym}
use Rattle.ir_program.specs.Lists.{blocks_in}
use Rattle.ir_program.specs.Replacing.{same_block}
use Rattle.ir_program.proofs.used.Renaming.{block-test}
use Rattle.ir_trees.specs.Searched.{AreDistinct}
use Rattle.kit_places.proofs.Rows.{moved}
use Rattle.kit_interpreter.proofs.Sets.{put_next, once_in, tested}
use Rattle.kit_interpreter.proofs.numbering.number_blocks.Goals as goal

pub loop-block-preserved : goal.loop-block-preserved
loop-block-preserved g c =
    let once = once_in (blocks_in c.args.program.now) c.know_lists.ensures.blocks_once c.args.region in
    record {
      listed = moved (λ ps. ps ≡ blocks_in c.args.program.now c.args.region) c.loop-block.yielded _ _
          c.in-Some.block c.in-Some.ensures.steps c.loop-block.invariant.listed;
      keys = put_next same_block (tested same_block block-test) c.loop-block.yielded _ _ c.loop-block.blocks.keys
          c.insert.new.self.keys c.in-Some.block (subst AreDistinct (sym c.loop-block.invariant.listed) once)
          c.in-Some.ensures.steps c.loop-block.invariant.keys c.in_ok-insert.ensures.keys;
    }
