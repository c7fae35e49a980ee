use Rattle.std.proofs.Common.{◌≡◌, sym, subst}
use Rattle.ir_program.specs.declared.handles.Operation.{Operation}
use Rattle.ir_program.specs.declared.handles.Ptr.{Ptr}
use Rattle.ir_opts.specs.Places.{AnswersRemoval, IsRootOf}
use Rattle.opt_inside.specs.declared.reach.starts.Start.TheVariants.{Region as AtRegion}
use Rattle.ir_opts.proofs.places.remove_blocks_inside_region.Goals as goal

pub returns-clause-answer : goal.returns-clause-answer
returns-clause-answer g c = λ q h.
    let only : (z : Ptr Operation) → IsRootOf c.args.ctx.now.program (AtRegion c.args.region) z → z ≡ c.root_of_region-root.result =
    subst (λ m. (z : Ptr Operation) → IsRootOf m (AtRegion c.args.region) z → z ≡ c.root_of_region-root.result) c.program.ensures c.root_of_region-root.ensures.only in
    subst (λ z. AnswersRemoval g.D.Meanings.meaning c.args.ctx.now.program c.remove_from.new.ctx.program (AtRegion c.args.region) z c.remove_from.result) (sym (only q h)) c.remove_from.ensures.answer
