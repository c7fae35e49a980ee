use Rattle.std.proofs.Common.{◌≡◌, true, false, sym, ◌∙◌}
use Rattle.opt_simplify.specs.Removed.{is_listed}
use Rattle.opt_simplify.proofs.RemovedUses.{taken_outside, taken_within}
use Rattle.opt_simplify.proofs.remove_uses.is_taken_outside.Goals as goal

pub returns : goal.returns
returns g c = record {
  taken = λ h. taken_outside c.args.program.now (is_listed c.args.blocks.now) c.know_values.ensures.used c.args.values.now c.requires.all c.in_ok-nodes.nodes.keys c.in_ok-nodes.ensures (c.take_values.ensures.0 h);
  within = λ h. taken_within c.args.program.now (is_listed c.args.blocks.now) c.know_values.ensures.used c.args.values.now c.requires.all c.in_ok-nodes.nodes.keys c.in_ok-nodes.ensures
      (λ t. let e : true ≡ false = sym (c.take_values.ensures.1 t) ∙ h in cc);
}
