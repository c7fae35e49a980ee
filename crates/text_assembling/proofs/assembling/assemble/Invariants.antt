use Rattle.ir_characters.specs.Texts.{codes_of}
use Rattle.ir_tokens.specs.Tokens.{text_between}
use Rattle.text_assembling.proofs.Gathering.{RunsSo}
use Rattle.text_assembling.proofs.assembling.assemble.Given as goal

abbrev pub invariant-loop-index : goal.invariant-loop-index
invariant-loop-index g l = RunsSo g.D.TextDialect.says g.D.TextDialect.values (text_between (codes_of l.source.chars) l.source.starts.now) l.initial.ctx l.ctx l.assembler l.index l.events
