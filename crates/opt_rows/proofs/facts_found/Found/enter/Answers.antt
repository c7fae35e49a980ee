use Rattle.std.proofs.Common.{◌≡◌, ◌<◌, sym, subst, ◌∙◌}
use Rattle.std.specs.Prelude.{Contains}
use Rattle.opt_rows.specs.Facts.{arguments_of}
use Rattle.opt_rows.proofs.FactsEntering.{row_at, entered}
use Rattle.opt_rows.proofs.facts_found.Found.enter.Goals as goal

pub give_up-requires-clause-in_range : goal.give_up-requires-clause-in_range
give_up-requires-clause-in_range g c =
    let e : arguments_of c.args.problem.now c.args.block ≡ c.deref.result.now = row_at c.args.problem.now.arguments.items c.args.block c.index.result.now (subst (λ n. c.args.block < n) c.requires.blocks c.requires.in_range) c.index.ensures ∙ sym c.deref.ensures.value in
    λ v t. subst (λ n. v < n) (sym c.in_ok-run.ensures.steps.values_len) (c.requires.arguments v (subst (λ xs. Contains xs v) (sym e) t))

pub returns : goal.returns
returns g c =
    let e : arguments_of c.args.problem.now c.args.block ≡ c.deref.result.now = row_at c.args.problem.now.arguments.items c.args.block c.index.result.now (subst (λ n. c.args.block < n) c.requires.blocks c.requires.in_range) c.index.ensures ∙ sym c.deref.ensures.value in
    entered c.args.problem.now c.args.block c.args.self.now c.run.new.self c.give_up.new.self c.deref.result.now e c.in_ok-run.ensures c.in_ok-give_up.ensures
