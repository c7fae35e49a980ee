use Rattle.std.proofs.Common.{◌≡◌, ◌∷◌, [], Some, slice_get, get_or, refl, sym, subst, ◌∙◌, take, arith}
use Rattle.std.proofs.lemmas.Option.{slice_get-get_or}
use Rattle.ir_program.proofs.made.Frames.{on_err}
use Rattle.ir_program.specs.Program.{no_handle}
use Rattle.ir_program.specs.declared.handles.DefiningEntity.TheVariants.{Op as ByOp}
use Rattle.ir_program.specs.declared.handles.Value.{Value}
use Rattle.text_dialect.specs.Seen.{seen}
use Rattle.text_frames.specs.building.Made.{LinksOperands}
use Rattle.text_frames.proofs.BuildingLemmas.Linked.{AreTyped, links_none, links_both, links_still, push_links, defined_live, still_live}
use Rattle.text_frames.proofs.BuildingLemmas.Members.{take_step}
use Rattle.text_frames.proofs.BuildingLemmas.Numbers.{gives_none, gives_nothing, gives_still}
use Rattle.text_frames.proofs.BuildingLemmas.Payloads.{payloads_operation, payloads_unchanged}
use Rattle.text_frames.proofs.building.linking.link_operands.Goals as goal

pub loop-value-init : goal.loop-value-init
loop-value-init g c =
    let typed : AreTyped c.program.result.now = c.know_values.ensures.typed in
    record {
      linked = links_none (seen c.args.ctx.now) c.args.op;
      live = defined_live c.args.ctx.now (subst AreTyped c.program.ensures typed) c.args.values.now c.requires.values;
      numbers = gives_none c.args.ctx.now.program;
      types = refl;
    }

-- what is read past the end
none : Value
none = record { definer = ByOp no_handle; number = 0 }

pub push_operand-requires-clause-value : goal.push_operand-requires-clause-value
unfolding none
push_operand-requires-clause-value g c = c.loop-value.invariant.live c.loop-value.value-index _ (slice_get-get_or c.args.values.now c.loop-value.value-index none (omega arith))

pub returns-in_err-push_operand-clause-err : goal.returns-in_err-push_operand-clause-err
returns-in_err-push_operand-clause-err g c =
    on_err c.from_residual.result (c.loop-value.value-index, omega arith, links_still c.loop-value.ctx c.push_operand.new.ctx c.push_operand.ensures.types (seen c.args.ctx.now) c.args.op (take c.loop-value.value-index c.args.values.now) [] c.loop-value.invariant.linked c.in_err-push_operand.ensures.err)

pub returns-in_err-push_operand-clause-numbers : goal.returns-in_err-push_operand-clause-numbers
returns-in_err-push_operand-clause-numbers g c =
    gives_still c.args.ctx.now.program c.loop-value.ctx.program c.push_operand.new.ctx.program 0 c.loop-value.invariant.numbers
    (gives_nothing c.loop-value.ctx.program c.push_operand.new.ctx.program c.in_err-push_operand.ensures.err.counter c.in_err-push_operand.ensures.err.erased
    (payloads_unchanged c.loop-value.ctx.program c.push_operand.new.ctx.program c.in_err-push_operand.ensures.err))

pub loop-value-preserved : goal.loop-value-preserved
unfolding none
loop-value-preserved g c =
    let i = c.loop-value.value-index in
    let v : Value = get_or c.args.values.now i none in
    let here : slice_get c.args.values.now i ≡ Some v = slice_get-get_or c.args.values.now i none (omega arith) in
    let s = seen c.args.ctx.now in
    let u = seen c.push_operand.new.ctx in
    record {
      linked = subst (λ vs. LinksOperands s u c.args.op vs) (sym (take_step c.args.values.now i v here))
          (links_both s (seen c.loop-value.ctx) u c.args.op (take i c.args.values.now) (v ∷ []) [] [] c.loop-value.invariant.linked
          (push_links c.loop-value.ctx c.push_operand.new.ctx c.push_operand.ensures.types c.args.op v c.in_ok-push_operand.ensures.pushed));
      live = still_live c.loop-value.ctx c.push_operand.new.ctx c.push_operand.ensures.values c.args.values.now c.loop-value.invariant.live;
      numbers = gives_still c.args.ctx.now.program c.loop-value.ctx.program c.push_operand.new.ctx.program 0 c.loop-value.invariant.numbers
          (gives_nothing c.loop-value.ctx.program c.push_operand.new.ctx.program c.push_operand.ensures.values.counter c.in_ok-push_operand.ensures.pushed.erased
          (payloads_operation c.loop-value.ctx.program c.push_operand.new.ctx.program c.args.op _ (λ o. refl) c.in_ok-push_operand.ensures.pushed));
      types = c.push_operand.ensures.types ∙ c.loop-value.invariant.types;
    }
