use Rattle.std.proofs.Common.{ℕ, ◌<◌, get_or, sym, subst, rules}
use Rattle.std.specs.Prelude.{Contains}
use Rattle.std.proofs.lemmas.List.{take_all}
use Rattle.opt_rows.specs.Facts.{RunsWithAny}
use Rattle.opt_rows.specs.FactsFound.{Meets}
use Rattle.std.proofs.lemmas.List.Elements.{Contains-get_or}
use Rattle.opt_rows.proofs.FactsEntering.{entered_more}
use Rattle.opt_rows.proofs.facts_found.Found.enter_all.Goals as goal

pub enter-requires-clause-in_range : goal.enter-requires-clause-in_range
enter-requires-clause-in_range g c =
    let v = get_or c.args.blocks.now c.loop-block.block-index 0 in
    subst (λ n. v < n) (sym c.loop-block.invariant.steps.blocks_len) (c.requires.in_range v (Contains-get_or c.args.blocks.now c.loop-block.block-index 0 c.loop-block-test.true))

pub enter-requires-clause-arguments : goal.enter-requires-clause-arguments
enter-requires-clause-arguments g c = λ v t. subst (λ n. v < n) (sym c.loop-block.invariant.steps.values_len) (c.requires.arguments _ v t)

pub loop-block-preserved : goal.loop-block-preserved
loop-block-preserved g c = entered_more c.args.problem.now c.args.self.now c.loop-block.self c.enter.new.self c.args.blocks.now c.loop-block.block-index (get_or c.args.blocks.now c.loop-block.block-index 0) c.loop-block-test.true (search rules) c.loop-block.invariant c.in_ok-enter.ensures

pub returns : goal.returns
returns g c = subst (λ xs. Meets (λ l. (b : ℕ) → Contains xs b → RunsWithAny c.args.problem.now l b) c.args.self.now c.loop-block.self) (take_all c.loop-block.block-index c.args.blocks.now c.loop-block-test.false) c.loop-block.invariant
