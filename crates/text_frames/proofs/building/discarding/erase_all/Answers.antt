use Rattle.std.proofs.Common.{◌≡◌, Some, slice_get, get_or, subst, ◌∙◌, arith}
use Rattle.std.proofs.lemmas.Option.{slice_get-get_or}
use Rattle.ir_program.specs.Program.{no_handle}
use Rattle.ir_program.specs.declared.handles.IRNode.{IRNode}
use Rattle.ir_program.specs.declared.handles.IRNode.TheVariants.{Operation as OperationNode}
use Rattle.text_dialect.specs.Seen.{seen}
use Rattle.text_frames.proofs.BuildingLemmas.Discarded.{erases_step, left_outside, next_thing_loose, next_unused}
use Rattle.text_frames.proofs.BuildingLemmas.Numbers.{erased_both}
use Rattle.text_frames.proofs.BuildingLemmas.Shown.{payloads_of_both}
use Rattle.text_frames.proofs.BuildingLemmas.Stood.{HasLists, seen_forest}
use Rattle.text_frames.proofs.building.discarding.erase_all.Goals as goal

pub erase_thing-requires-clause-loose : goal.erase_thing-requires-clause-loose
erase_thing-requires-clause-loose g c =
    let lists : HasLists c.program.result.now = assumption c.know_lists.ensures in
    let first : HasLists c.args.ctx.now.program = subst HasLists c.program.ensures lists in
    let x : IRNode = get_or c.args.things.now c.loop-thing.thing-index (OperationNode no_handle) in
    let here : slice_get c.args.things.now c.loop-thing.thing-index ≡ Some x = slice_get-get_or c.args.things.now c.loop-thing.thing-index (OperationNode no_handle) (omega arith) in
    next_thing_loose (seen c.args.ctx.now) (seen c.loop-thing.ctx) (seen_forest c.args.ctx.now first) c.args.things.now c.requires.loose c.loop-thing.thing-index x here c.loop-thing.invariant.gone

pub erase_thing-requires-clause-unused : goal.erase_thing-requires-clause-unused
erase_thing-requires-clause-unused g c =
    let lists : HasLists c.program.result.now = assumption c.know_lists.ensures in
    let first : HasLists c.args.ctx.now.program = subst HasLists c.program.ensures lists in
    let x : IRNode = get_or c.args.things.now c.loop-thing.thing-index (OperationNode no_handle) in
    let here : slice_get c.args.things.now c.loop-thing.thing-index ≡ Some x = slice_get-get_or c.args.things.now c.loop-thing.thing-index (OperationNode no_handle) (omega arith) in
    next_unused (seen c.args.ctx.now) (seen c.loop-thing.ctx) (seen_forest c.args.ctx.now first) c.args.things.now c.requires.loose c.loop-thing.thing-index x here c.loop-thing.invariant.gone c.requires.unused

pub loop-thing-preserved : goal.loop-thing-preserved
loop-thing-preserved g c =
    let lists : HasLists c.program.result.now = assumption c.know_lists.ensures in
    let first : HasLists c.args.ctx.now.program = subst HasLists c.program.ensures lists in
    let x : IRNode = get_or c.args.things.now c.loop-thing.thing-index (OperationNode no_handle) in
    let here : slice_get c.args.things.now c.loop-thing.thing-index ≡ Some x = slice_get-get_or c.args.things.now c.loop-thing.thing-index (OperationNode no_handle) (omega arith) in
    record {
      gone = erases_step (seen c.args.ctx.now) (seen c.loop-thing.ctx) (seen_forest c.args.ctx.now first) c.args.things.now c.requires.loose c.loop-thing.thing-index x here c.loop-thing.invariant.gone (seen c.erase_thing.new.ctx) c.erase_thing.ensures.gone;
      erased = erased_both c.args.ctx.now.program c.loop-thing.ctx.program c.erase_thing.new.ctx.program c.loop-thing.invariant.erased c.erase_thing.ensures.erased;
      payloads = λ start out. payloads_of_both start c.args.ctx.now.program c.loop-thing.ctx.program c.erase_thing.new.ctx.program (c.loop-thing.invariant.payloads start out)
          (c.erase_thing.ensures.payloads start
          (left_outside (seen c.args.ctx.now) (seen c.loop-thing.ctx) (seen_forest c.args.ctx.now first) c.args.things.now c.requires.loose c.loop-thing.thing-index x here c.loop-thing.invariant.gone start out));
      types = c.erase_thing.ensures.types ∙ c.loop-thing.invariant.types;
    }
