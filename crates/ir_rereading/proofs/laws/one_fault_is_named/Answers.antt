use Rattle.ir_rereading.specs.Texts.{HasFault}
use Rattle.ir_tokens.proofs.FirstFault.{one_named}
use Rattle.ir_rereading.proofs.laws.one_fault_is_named.Goals as goal

pub returns : goal.returns
returns c = record {
  one = λ l cs ts names stop n es f g. one_named (HasFault l cs ts names stop n es) f g;
  either = λ l cs ts names stop n es f named none. none f named.0;
}
