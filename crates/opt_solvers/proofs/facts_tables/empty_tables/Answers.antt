use Rattle.std.proofs.Common.{◌≡◌, [], length, replicate, ap, ◌∙◌, rules}
use Rattle.opt_solvers.proofs.facts_tables.empty_tables.Goals as goal

pub returns : goal.returns
returns c =
    let r : c.len.result ≡ length c.args.problem.now.arguments.items = search rules in
    record {
      rows = c.in_ok-with_capacity.ensures ∙ ap (λ n. replicate n []) r;
      readers = c.in_ok-with_capacity-2.ensures;
      slots = c.in_ok-with_capacity-3.ensures;
    }
