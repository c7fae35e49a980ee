use Rattle.std.proofs.Common.{subst}
use Rattle.ir_program.specs.Program.{Program}
use Rattle.kit.specs.Meaning.{KitOperation, KitBlock}
use Rattle.kit_pass_rules.proofs.Handles.{Told, apart, typed_in}
use Rattle.kit_pass_rules.proofs.knowing.know_handles_and_types.Goals as goal

told : (c : goal.After-know_occurrences) → Told c.args.ctx.now.program c.args.op
told c =
    let o = c.know_occurrences.ensures in
    let v = c.know_values.ensures in
    subst (λ (p : Program KitOperation KitBlock). Told p c.args.op) c.program-program.ensures (record {
      definer = v.definer;
      typed = v.typed;
      stands = v.stands;
      sound = o.sound;
      one = o.one;
      blocks_sound = o.blocks_sound;
      blocks_one = o.blocks_one;
    })

pub returns-clause-apart : goal.returns-clause-apart
returns-clause-apart c = λ t s. apart c.args.ctx.now.program c.args.op (told c) t s

pub returns-clause-typed : goal.returns-clause-typed
returns-clause-typed c = λ t s. typed_in c.args.ctx.now.program c.args.op (told c) t s
