use Rattle.std.proofs.Common.{◌≡◌, None, replicate, length, ap, ◌∙◌, rules}
use Rattle.opt_solvers.proofs.facts.begin.Goals as goal

pub returns : goal.returns
returns g c =
    let f : c.len.result ≡ length c.args.problem.now.arguments.items = c.len.ensures ∙ c.args.problem.now.arguments.ok.0 in
    let h : c.in_ok-vec.field-0.items ≡ replicate c.len.result None = search rules in
    record {
      found = c.in_ok-first_found.ensures;
      seen = c.in_ok-new-2.ensures;
      taken = c.in_ok-new.ensures;
      marks = h ∙ ap (λ n. replicate n None) f;
    }
