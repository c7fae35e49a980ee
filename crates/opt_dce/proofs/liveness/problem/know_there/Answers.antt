use Rattle.opt_dce.proofs.LivenessLemmas.There.{inside_live, block_live, defined_live, definer_below}
use Rattle.opt_dce.proofs.liveness.problem.know_there.Goals as goal

pub returns : goal.returns
returns g c =
    let n = c.requires in
    record {
      operations = λ p l. inside_live c.args.program.now c.args.op p ((n.operations p).0 l);
      blocks = λ b l. block_live c.args.program.now c.args.op b ((n.blocks b).0 l);
      values = λ v l. defined_live c.args.program.now c.args.op c.know_values.ensures.typed v ((n.values v).0 l);
      definers = λ v b l by. (n.blocks b).1 (definer_below c.args.program.now c.args.op c.know_values.ensures.definer v b ((n.values v).0 l) by);
    }
