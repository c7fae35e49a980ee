use Rattle.std.proofs.Common.{refl, sym, ◌∙◌}
use Rattle.opt_dce.proofs.LivenessLemmas.Marking.{any_marked}
use Rattle.opt_dce.proofs.liveness.taking.has_mark.Goals as goal

pub returns : goal.returns
returns c = (
  λ e. (any_marked _ refl refl c.args.marks.now).0 (sym c.contains.ensures.value ∙ e),
  λ w. c.contains.ensures.value ∙ (any_marked _ refl refl c.args.marks.now).1 w,
)
