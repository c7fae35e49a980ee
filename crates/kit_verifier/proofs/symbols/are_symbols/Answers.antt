use Rattle.std.proofs.Common.{◌∙◌, [], ap, refl, subst, sym, true≢false}
use Rattle.ir_program.specs.Lists.{operations_in}
use Rattle.kit_checks.specs.World.{world_of}
use Rattle.kit_verifier.specs.Names.{AreSymbols}
use Rattle.kit_verifier.specs.Sets.{texts_of}
use Rattle.kit_verifier.proofs.Repeated.{Named}
use Rattle.kit_verifier.proofs.Sets.{Collected, all_done, collected_more, collected_none, one_further}
use Rattle.kit_verifier.proofs.ModuleBlocks.{next_symbol, no_symbols, symbols_more}
use Rattle.kit_verifier.proofs.symbols.are_symbols.Goals as goal

pub loop-op-init : goal.loop-op-init
loop-op-init c = record {
  listed = c.into_iter-op-iterator.ensures.into_iter_gives ∙ c.operations-op-items.ensures.list ∙ ap (λ p. operations_in p c.args.block) c.program-program.ensures;
  names = subst (λ l. Collected (Named (world_of c.args.ctx.now) c.args.ctx.now.program) [] (texts_of l)) (sym c.with_hasher-names.ensures.empty) (collected_none (Named (world_of c.args.ctx.now) c.args.ctx.now.program));
  symbols = no_symbols (world_of c.args.ctx.now) c.args.ctx.now.program;
}

pub loop-op-preserved : goal.loop-op-preserved
loop-op-preserved c = record {
  listed = one_further (operations_in c.args.ctx.now.program c.args.block) c.loop-op.yielded c.loop-op.op-iterator c.next.new.self c.in-Some.op c.in-Some.ensures.steps c.loop-op.invariant.listed;
  names = collected_more (Named (world_of c.args.ctx.now) c.args.ctx.now.program) c.loop-op.yielded c.in-Some.op (texts_of c.loop-op.names.keys) (texts_of c.is_new_symbol.new.names.keys)
      (c.in_ok-is_new.ensures.names c.if-not-is_new.false) c.loop-op.invariant.names;
  symbols = symbols_more (world_of c.args.ctx.now) c.args.ctx.now.program c.loop-op.yielded (texts_of c.loop-op.names.keys) c.in-Some.op c.loop-op.invariant.names
      (c.in_ok-is_new.ensures.is.0 c.if-not-is_new.false) c.loop-op.invariant.symbols;
}

pub returns-then-not-is_new : goal.returns-then-not-is_new
returns-then-not-is_new c = (
  λ h. absurd (true≢false (sym h)),
  λ are. absurd (true≢false
      (sym (c.in_ok-is_new.ensures.is.1
      (next_symbol (world_of c.args.ctx.now) c.args.ctx.now.program c.loop-op.yielded (texts_of c.loop-op.names.keys) c.in-Some.op c.loop-op.invariant.names
      (operations_in c.args.ctx.now.program c.args.block) c.next.new.self
      (one_further (operations_in c.args.ctx.now.program c.args.block) c.loop-op.yielded c.loop-op.op-iterator c.next.new.self c.in-Some.op c.in-Some.ensures.steps c.loop-op.invariant.listed)
      are)) ∙ c.if-not-is_new.true)),
)

pub returns : goal.returns
returns c = (
  λ h. subst (AreSymbols (world_of c.args.ctx.now) c.args.ctx.now.program)
      (all_done (operations_in c.args.ctx.now.program c.args.block) c.loop-op.yielded c.loop-op.op-iterator c.in-None.ensures.steps.0 c.loop-op.invariant.listed)
      c.loop-op.invariant.symbols,
  λ are. refl,
)
