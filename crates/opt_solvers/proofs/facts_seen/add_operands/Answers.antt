use Rattle.std.proofs.Common.{rules, ◌≡◌, ◌+◌, ◌++◌, ◌∷◌, [], ◌∙◌, false, length, refl, ap, arith}
use Rattle.opt_rows.proofs.Lists.{resized}
use Rattle.opt_solvers.proofs.facts_seen.add_operands.Goals as goal

pub returns : goal.returns
returns c =
    let count = length c.args.operands.now in
    let old = c.args.blank.now in
    let o : c.len.result ≡ length old.found.items = search rules in
    let n : c.len-2.result ≡ length c.resize.new.self.items = search rules in
    record {
      ends = c.in_ok-push.ensures.items ∙ ap (λ k. old.ends.items ++ k ∷ []) n;
      found = resized old.found.items c.resize.new.self.items (c.len.result + count) (length old.found.items) count _ false c.in_ok-resize.ensures.items (omega (arith, o)) refl (search rules);
      missing = c.in_ok-push-2.ensures.items;
    }
