use Rattle.std.proofs.Common.{sym, subst}
use Rattle.opt_inside.specs.Numbered.{numbers_of}
use Rattle.opt_dce.specs.liveness.Problems.{IsPinned, KeepsIf}
use Rattle.opt_dce.proofs.LivenessLemmas.Kept.{keeps_if}
use Rattle.opt_dce.proofs.liveness.keeping.keep_pinned.Goals as goal

pub returns-in_ok-push : goal.returns-in_ok-push
returns-in_ok-push g c =
    subst (KeepsIf (numbers_of c.args.inside.now) (IsPinned c.args.program.now c.args.op c.args.value) c.args.value c.args.kept.now.items) (sym c.in_ok-push.ensures.items)
    (keeps_if (numbers_of c.args.inside.now) (IsPinned c.args.program.now c.args.op c.args.value) c.args.value c.definer_of.result c.args.kept.now.items (c.is_pinned.ensures.0 c.if-is_pinned.true) c.definer_of.ensures)
