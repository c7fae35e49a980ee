use Rattle.std.proofs.Common.{◌≡◌, ◌<◌, length, sym, ◌∙◌, subst, rules}
use Rattle.std.specs.Prelude.{Contains}
use Rattle.opt_rows.specs.FactsFound.{IsNothing}
use Rattle.opt_solvers.proofs.FactsBeginning.{begun}
use Rattle.opt_solvers.proofs.facts.first_found.Goals as goal

pub enter_all-requires-clause-in_range : goal.enter_all-requires-clause-in_range
enter_all-requires-clause-in_range g c = λ b t.
    let e : length c.in_ok-found.found.runs.items ≡ length c.args.problem.now.arguments.items = c.in_ok-found.ensures.blocks_len ∙ (search rules) in
    subst (λ n. b < n) (sym e) (c.requires.problem.entries b (subst (λ xs. Contains xs b) c.deref.ensures.value t))

pub enter_all-requires-clause-arguments : goal.enter_all-requires-clause-arguments
enter_all-requires-clause-arguments g c = λ b v t. subst (λ n. v < n) (sym c.in_ok-found.ensures.values_len) (c.requires.problem.arguments b v t)

pub give_up-requires-clause-in_range : goal.give_up-requires-clause-in_range
give_up-requires-clause-in_range g c = λ v t. subst (λ n. v < n) (sym (c.in_ok-enter_all.ensures.steps.values_len ∙ c.in_ok-found.ensures.values_len)) (c.requires.problem.outside v (subst (λ xs. Contains xs v) c.deref-2.ensures.value t))

pub returns : goal.returns
returns g c =
    let e : c.len.result ≡ length c.args.problem.now.arguments.items = search rules in
    begun c.args.problem.now c.in_ok-found.found c.enter_all.new.self c.give_up.new.self c.deref.result.now c.deref-2.result.now c.deref.ensures.value c.deref-2.ensures.value
    (subst (λ n. IsNothing c.in_ok-found.found n c.args.problem.now.values) e c.in_ok-found.ensures) c.in_ok-enter_all.ensures c.in_ok-give_up.ensures
