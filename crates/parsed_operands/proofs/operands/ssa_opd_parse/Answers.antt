use Rattle.std.proofs.Common.{◌∙◌, ap, inr}
use Rattle.ir_names.specs.Identifier.{text_of}
use Rattle.text_streams.specs.declared.stream.StateStream.{StateStream}
use Rattle.parsed_operands.proofs.OperandLemmas.{name_there}
use Rattle.parsed_operands.proofs.operands.ssa_opd_parse.Goals as goal

pub returns-in-Err-mention : goal.returns-in-Err-mention
returns-in-Err-mention g c =
    let at : g.row.S.Denot → StateStream g.row.S.Denot = λ s. record { position = c.args.stream.now.position; state = s } in
    record {
      stays = record {
        stays = ap at c.in-Ok.ensures.stands.1;
        here = c.fault.ensures.here;
        unconsumed = c.fault.ensures.unconsumed;
      };
      why = inr (inr (record {
        name = text_of c.in-Ok.name;
        there = name_there c.args.stream.now c.parse.new.stream c.in-Ok.name c.in-Ok.ensures;
        error = c.in-Err-mention.error;
        mentions = c.in-Err-mention.ensures;
        is = c.fault.ensures.cause ∙ c.cause_of.ensures;
      }));
    }
