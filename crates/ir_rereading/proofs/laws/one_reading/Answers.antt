use Rattle.std.proofs.Common.{sym, subst}
use Rattle.ir_grammar.specs.Table.{MayFollowPart}
use Rattle.ir_grammar.proofs.Derivations as theory
use Rattle.ir_rereading.proofs.laws.one_reading.Goals as goal

pub returns : goal.returns
returns c g root h ts es fs d e = theory.one_reading g h.predictive d ((λ c' z. subst (λ x. MayFollowPart g root x) (sym z) h.ends), tt) fs e
