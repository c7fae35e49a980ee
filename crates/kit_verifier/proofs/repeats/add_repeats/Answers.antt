use Rattle.std.proofs.Common.{◌∙◌, [], ap, subst, sym}
use Rattle.ir_program.specs.Lists.{operations_in}
use Rattle.kit_checks.specs.World.{world_of}
use Rattle.kit_verifier.specs.Repeats.{IsRepeat}
use Rattle.kit_verifier.specs.Sets.{Gains, texts_of}
use Rattle.kit_verifier.proofs.Repeated.{Named, repeats_more, repeats_none}
use Rattle.kit_verifier.proofs.Sets.{Collected, all_done, collected_more, collected_none, gains_none, one_further}
use Rattle.kit_verifier.proofs.repeats.add_repeats.Goals as goal

pub loop-op-init : goal.loop-op-init
loop-op-init c = record {
  listed = c.into_iter-op-iterator.ensures.into_iter_gives ∙ c.operations-op-items.ensures.list ∙ ap (λ p. operations_in p c.args.block) c.program-program.ensures;
  names = subst (λ l. Collected (Named (world_of c.args.ctx.now) c.args.ctx.now.program) [] (texts_of l)) (sym c.with_hasher-names.ensures.empty) (collected_none (Named (world_of c.args.ctx.now) c.args.ctx.now.program));
  repeats = gains_none c.args.repeats.now.keys (IsRepeat (world_of c.args.ctx.now) c.args.ctx.now.program []) (repeats_none (world_of c.args.ctx.now) c.args.ctx.now.program);
}

pub loop-op-preserved : goal.loop-op-preserved
loop-op-preserved c = record {
  listed = one_further (operations_in c.args.ctx.now.program c.args.block) c.loop-op.yielded c.loop-op.op-iterator c.next.new.self c.in-Some.op c.in-Some.ensures.steps c.loop-op.invariant.listed;
  names = collected_more (Named (world_of c.args.ctx.now) c.args.ctx.now.program) c.loop-op.yielded c.in-Some.op (texts_of c.loop-op.names.keys) (texts_of c.add_if_repeat.new.names.keys) c.in_ok-add_if_repeat.ensures.names c.loop-op.invariant.names;
  repeats = repeats_more (world_of c.args.ctx.now) c.args.ctx.now.program c.loop-op.yielded (texts_of c.loop-op.names.keys) c.in-Some.op c.loop-op.invariant.names
      c.args.repeats.now.keys c.loop-op.repeats.keys c.add_if_repeat.new.repeats.keys c.loop-op.invariant.repeats c.in_ok-add_if_repeat.ensures.repeats;
}

pub returns : goal.returns
returns c =
    subst (λ l. Gains c.args.repeats.now.keys c.loop-op.repeats.keys (IsRepeat (world_of c.args.ctx.now) c.args.ctx.now.program l))
    (all_done (operations_in c.args.ctx.now.program c.args.block) c.loop-op.yielded c.loop-op.op-iterator c.in-None.ensures.steps.0 c.loop-op.invariant.listed)
    c.loop-op.invariant.repeats
