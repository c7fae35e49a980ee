use Rattle.std.proofs.Common.{◌≡◌, Some, slice_get, get_or, subst, ◌∙◌, arith}
use Rattle.std.proofs.lemmas.Option.{slice_get-get_or}
use Rattle.ir_program.specs.Program.{no_handle}
use Rattle.ir_program.specs.declared.handles.IRNode.{IRNode}
use Rattle.ir_program.specs.declared.handles.IRNode.TheVariants.{Operation as OperationNode}
use Rattle.text_dialect.specs.Seen.{seen}
use Rattle.text_frames.proofs.BuildingLemmas.Discarded.{drops_step, next_outside, next_there}
use Rattle.text_frames.proofs.BuildingLemmas.Numbers.{erased_both}
use Rattle.text_frames.proofs.BuildingLemmas.Shown.{payloads_of_both}
use Rattle.text_frames.proofs.BuildingLemmas.Stood.{HasLists, seen_forest, there_live, drops_outside, drops_seen}
use Rattle.text_frames.proofs.building.discarding.drop_uses.Goals as goal

pub drop_all_uses-requires : goal.drop_all_uses-requires
drop_all_uses-requires g c =
    let lists : HasLists c.program.result.now = assumption c.know_lists.ensures in
    let first : HasLists c.args.ctx.now.program = subst HasLists c.program.ensures lists in
    let x : IRNode = get_or c.args.things.now c.loop-thing.thing-index (OperationNode no_handle) in
    let here : slice_get c.args.things.now c.loop-thing.thing-index ≡ Some x = slice_get-get_or c.args.things.now c.loop-thing.thing-index (OperationNode no_handle) (omega arith) in
    there_live c.loop-thing.ctx x (next_there (seen c.args.ctx.now) (seen c.loop-thing.ctx) (seen_forest c.args.ctx.now first) c.args.things.now c.requires.loose c.loop-thing.thing-index x here c.loop-thing.invariant.dropped)

pub loop-thing-preserved : goal.loop-thing-preserved
loop-thing-preserved g c =
    let lists : HasLists c.program.result.now = assumption c.know_lists.ensures in
    let first : HasLists c.args.ctx.now.program = subst HasLists c.program.ensures lists in
    let lists_now : HasLists c.program-in-loop-thing.result.now = assumption c.know_lists-in-loop-thing.ensures in
    let now : HasLists c.loop-thing.ctx.program = subst HasLists c.program-in-loop-thing.ensures lists_now in
    let x : IRNode = get_or c.args.things.now c.loop-thing.thing-index (OperationNode no_handle) in
    let here : slice_get c.args.things.now c.loop-thing.thing-index ≡ Some x = slice_get-get_or c.args.things.now c.loop-thing.thing-index (OperationNode no_handle) (omega arith) in
    record {
      dropped = drops_step (seen c.args.ctx.now) (seen c.loop-thing.ctx) (seen c.drop_all_uses.new.self) (seen_forest c.args.ctx.now first) c.args.things.now c.requires.loose c.loop-thing.thing-index x here c.loop-thing.invariant.dropped
          (drops_seen c.loop-thing.ctx c.drop_all_uses.new.self c.drop_all_uses.ensures.types now x c.drop_all_uses.ensures.dropped);
      erased = erased_both c.args.ctx.now.program c.loop-thing.ctx.program c.drop_all_uses.new.self.program c.loop-thing.invariant.erased c.drop_all_uses.ensures.dropped.erased;
      payloads = λ start out. payloads_of_both start c.args.ctx.now.program c.loop-thing.ctx.program c.drop_all_uses.new.self.program (c.loop-thing.invariant.payloads start out)
          (drops_outside c.loop-thing.ctx c.drop_all_uses.new.self x c.drop_all_uses.ensures.dropped start
          (next_outside (seen c.args.ctx.now) (seen c.loop-thing.ctx) (seen_forest c.args.ctx.now first) c.args.things.now c.requires.loose c.loop-thing.thing-index x here c.loop-thing.invariant.dropped start out));
      types = c.drop_all_uses.ensures.types ∙ c.loop-thing.invariant.types;
    }
