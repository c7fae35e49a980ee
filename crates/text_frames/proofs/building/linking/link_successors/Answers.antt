use Rattle.std.proofs.Common.{◌≡◌, ◌∷◌, [], Some, IsSome, slice_get, get_or, refl, sym, subst, ◌∙◌, take, arith}
use Rattle.std.proofs.lemmas.Option.{slice_get-get_or}
use Rattle.ir_program.proofs.made.Frames.{on_err}
use Rattle.ir_program.specs.Program.{no_handle, block_at}
use Rattle.text_dialect.specs.Seen.{seen, seen_block}
use Rattle.text_frames.specs.building.Made.{LinksSuccessors}
use Rattle.text_frames.proofs.BuildingLemmas.Linked.{links_none, links_both, links_still, push_links_block}
use Rattle.text_frames.proofs.BuildingLemmas.Members.{take_step}
use Rattle.text_frames.proofs.BuildingLemmas.Numbers.{gives_none, gives_nothing, gives_still}
use Rattle.text_frames.proofs.BuildingLemmas.Options.{unmapped_there}
use Rattle.text_frames.proofs.BuildingLemmas.Payloads.{payloads_operation, payloads_unchanged}
use Rattle.text_frames.proofs.building.linking.link_successors.Goals as goal

pub loop-block-init : goal.loop-block-init
loop-block-init g c = record {
  linked = links_none (seen c.args.ctx.now) c.args.op;
  numbers = gives_none c.args.ctx.now.program;
  types = refl;
}

pub push_successor-requires-clause-block : goal.push_successor-requires-clause-block
push_successor-requires-clause-block g c =
    let i = c.loop-block.block-index in
    let b = get_or c.args.blocks.now i no_handle in
    unmapped_there seen_block (block_at c.loop-block.ctx.program b)
    (subst IsSome (sym (c.loop-block.invariant.linked.blocks b)) (c.requires.blocks i b (slice_get-get_or c.args.blocks.now i no_handle (omega arith))))

pub returns-in_err-push_successor-clause-err : goal.returns-in_err-push_successor-clause-err
returns-in_err-push_successor-clause-err g c =
    on_err c.from_residual.result (c.loop-block.block-index, omega arith, links_still c.loop-block.ctx c.push_successor.new.ctx c.push_successor.ensures.types (seen c.args.ctx.now) c.args.op [] (take c.loop-block.block-index c.args.blocks.now) c.loop-block.invariant.linked c.in_err-push_successor.ensures.err)

pub returns-in_err-push_successor-clause-numbers : goal.returns-in_err-push_successor-clause-numbers
returns-in_err-push_successor-clause-numbers g c =
    gives_still c.args.ctx.now.program c.loop-block.ctx.program c.push_successor.new.ctx.program 0 c.loop-block.invariant.numbers
    (gives_nothing c.loop-block.ctx.program c.push_successor.new.ctx.program c.in_err-push_successor.ensures.err.counter c.in_err-push_successor.ensures.err.erased
    (payloads_unchanged c.loop-block.ctx.program c.push_successor.new.ctx.program c.in_err-push_successor.ensures.err))

pub loop-block-preserved : goal.loop-block-preserved
loop-block-preserved g c =
    let i = c.loop-block.block-index in
    let b = get_or c.args.blocks.now i no_handle in
    let here : slice_get c.args.blocks.now i ≡ Some b = slice_get-get_or c.args.blocks.now i no_handle (omega arith) in
    let s = seen c.args.ctx.now in
    let u = seen c.push_successor.new.ctx in
    record {
      linked = subst (λ bs. LinksSuccessors s u c.args.op bs) (sym (take_step c.args.blocks.now i b here))
          (links_both s (seen c.loop-block.ctx) u c.args.op [] [] (take i c.args.blocks.now) (b ∷ []) c.loop-block.invariant.linked
          (push_links_block c.loop-block.ctx c.push_successor.new.ctx c.push_successor.ensures.types c.args.op b c.in_ok-push_successor.ensures.pushed));
      numbers = gives_still c.args.ctx.now.program c.loop-block.ctx.program c.push_successor.new.ctx.program 0 c.loop-block.invariant.numbers
          (gives_nothing c.loop-block.ctx.program c.push_successor.new.ctx.program c.push_successor.ensures.values.counter c.in_ok-push_successor.ensures.pushed.erased
          (payloads_operation c.loop-block.ctx.program c.push_successor.new.ctx.program c.args.op _ (λ o. refl) c.in_ok-push_successor.ensures.pushed));
      types = c.push_successor.ensures.types ∙ c.loop-block.invariant.types;
    }
