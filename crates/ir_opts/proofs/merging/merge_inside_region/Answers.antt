use Rattle.std.proofs.Common.{◌≡◌, sym, subst}
use Rattle.ir_program.specs.declared.handles.Operation.{Operation}
use Rattle.ir_program.specs.declared.handles.Ptr.{Ptr}
use Rattle.ir_opts.specs.Places.{AnswersMerging, IsRootOf}
use Rattle.opt_inside.specs.declared.reach.starts.Start.TheVariants.{Region as AtRegion}
use Rattle.ir_opts.proofs.merging.merge_inside_region.Goals as goal

pub merge_from-requires-clause-fits : goal.merge_from-requires-clause-fits
merge_from-requires-clause-fits g c = c.requires.fits

pub returns-clause-answer : goal.returns-clause-answer
returns-clause-answer g c = λ q h.
    let at = AtRegion c.args.region in
    let old = c.args.ctx.now.program in
    let root = c.root_of_region-root.result in
    let only : (z : Ptr Operation) → IsRootOf old at z → z ≡ root =
    subst (λ m. (z : Ptr Operation) → IsRootOf m at z → z ≡ root) c.program.ensures c.root_of_region-root.ensures.only in
    subst (λ z. AnswersMerging g.D.Meanings.meaning old c.merge_from.new.ctx.program at z c.merge_from.result)
    (sym (only q h)) c.merge_from.ensures.answer
