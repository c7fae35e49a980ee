use Rattle.std.proofs.Common.{[]}
use Rattle.ir_grammar.specs.Nesting.{at_root, at_end}
use Rattle.ir_forest.proofs.BuiltTrees.{one_root, built_ended, leads_nests, nests_lead}
use Rattle.ir_forest.proofs.laws.built_root.Goals as goal

pub returns : goal.returns
returns c = record {
  ended = built_ended;
  one = λ values text es h. (one_root values text es h).1;
  nests = λ es h. leads_nests es at_root [] at_end [] h;
  leads = λ es h. nests_lead es at_root [] h;
}
