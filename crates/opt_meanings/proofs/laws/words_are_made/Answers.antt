use Rattle.opt_meanings.proofs.Worded.{sccp_worded, dce_worded, simplify_worded}
use Rattle.opt_meanings.proofs.laws.words_are_made.Goals as goal

pub returns : goal.returns
returns g c = record {
  sccp = λ w d a t after x. sccp_worded w d a t after x;
  dce = λ w d a t after x. dce_worded w d a t after x;
  simplify = λ w d a t after x. simplify_worded w d a t after x;
}
