use Rattle.opt_meanings.proofs.SccpMeant.{sccp_meant}
use Rattle.opt_meanings.proofs.DceMeant.{dce_meant}
use Rattle.opt_meanings.proofs.SimplifyMeant.{simplify_meant}
use Rattle.opt_meanings.proofs.laws.meanings_are_made.Goals as goal

pub returns : goal.returns
returns g c = record {
  sccp = λ m d e meant w t after x. sccp_meant m d e meant w t after x;
  dce = λ m d e meant w t after x. dce_meant m d e meant w t after x;
  simplify = λ m d e meant w t after apart x. simplify_meant m e d meant w t after apart x;
}
