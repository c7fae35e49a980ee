use Rattle.std.proofs.Common.{subst}
use Rattle.ir_program.specs.Program.{Program}
use Rattle.kit.specs.Meaning.{KitOperation, KitBlock}
use Rattle.kit_pass_rules.proofs.Programs.ProgramDefiners.{definers_apart}
use Rattle.kit_pass_rules.proofs.definers.know_definers.Goals as goal
use Rattle.kit_pass_rules.proofs.Handles.{Told}

told : (c : goal.After-know_occurrences) → Told c.args.ctx.now.program c.args.op
told c =
    let o = c.know_occurrences.ensures in
    let v = c.know_values.ensures in
    subst (λ (p : Program KitOperation KitBlock). Told p c.args.op) c.program-program.ensures (record {
      definer = v.definer;
      typed = v.typed;
      stands = v.stands;
      sound = o.sound;
      one = o.one;
      blocks_sound = o.blocks_sound;
      blocks_one = o.blocks_one;
    })

pub returns : goal.returns
returns c = λ t s. definers_apart c.args.ctx.now.program c.args.op (told c) t s
