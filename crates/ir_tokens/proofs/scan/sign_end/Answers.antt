use Rattle.ir_characters.specs.Texts.{codes_of}
use Rattle.ir_tokens.proofs.TokenLongest.{in_memory_begins, in_memory_inside, in_memory_longest}
use Rattle.std.proofs.Common.{refl}
use Rattle.ir_tokens.proofs.scan.sign_end.Goals as goal

pub returns-then-is_in_memory : goal.returns-then-is_in_memory
returns-then-is_in_memory c =
    let found = c.if-is_in_memory.ensures in
    record {
      inside = in_memory_inside (codes_of c.args.chars) c.args.at found;
      spelled = (found, refl);
      longest = in_memory_longest (codes_of c.args.chars) c.args.at (in_memory_begins (codes_of c.args.chars) c.args.at found);
    }
