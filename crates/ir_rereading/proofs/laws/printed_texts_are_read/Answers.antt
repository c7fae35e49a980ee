use Rattle.ir_rereading.proofs.PrintAndRead.{text_again, text_bytes}
use Rattle.ir_rereading.proofs.laws.printed_texts_are_read.Goals as goal

pub returns : goal.returns
returns c = record {
  bytes = λ l can tree text closed of. text_bytes l can tree text closed of;
  read = λ l can g known tree text closed numbered of few. text_again l can tree text closed of numbered g known few;
}
