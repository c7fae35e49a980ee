use Rattle.std.proofs.Common.{◌≡◌, ◌∙◌, Some, None, slice_get, subst, sym}
use Rattle.ir_program.specs.Lists.{StandsInRegion, blocks_in}
use Rattle.kit_checks.proofs.Handles.{not_same}
use Rattle.kit_checks.proofs.Somewhere.{has_first, nowhere}
use Rattle.kit_checks.proofs.naming.spot_of.Goals as goal

pub returns-in_err-block-clause-root : goal.returns-in_err-block-clause-root
returns-in_err-block-clause-root g c s at =
    absurd (nowhere c.args.program.now c.args.root c.args.op s at (not_same c.args.op c.args.root c.eq.result c.eq.ensures c.if-eq.false)
    (λ a it. let e : None ≡ Some it.block = sym c.in_err-block.was ∙ c.parent_block.ensures.only it.block it.in_block in cc))

pub returns-in_err-region-clause-root : goal.returns-in_err-region-clause-root
returns-in_err-region-clause-root g c s at =
    absurd (nowhere c.args.program.now c.args.root c.args.op s at (not_same c.args.op c.args.root c.eq.result c.eq.ensures c.if-eq.false)
    (λ a it.
    let q : Some c.in_ok-block.block ≡ Some it.block = sym c.in_ok-block.was ∙ c.parent_block.ensures.only it.block it.in_block in
    let same : c.in_ok-block.block ≡ it.block = cc in
    let e : None ≡ Some it.region = sym c.in_err-region.was ∙ c.parent_region.ensures.only it.region (subst (λ b. StandsInRegion c.args.program.now b it.region) (sym same) it.in_region) in cc))

pub returns-in_err-entry-clause-root : goal.returns-in_err-entry-clause-root
returns-in_err-entry-clause-root g c s at =
    absurd (nowhere c.args.program.now c.args.root c.args.op s at (not_same c.args.op c.args.root c.eq.result c.eq.ensures c.if-eq.false)
    (λ a it.
    let q : Some c.in_ok-block.block ≡ Some it.block = sym c.in_ok-block.was ∙ c.parent_block.ensures.only it.block it.in_block in
    let same : c.in_ok-block.block ≡ it.block = cc in
    let r : Some c.in_ok-region.region ≡ Some it.region = sym c.in_ok-region.was ∙ c.parent_region.ensures.only it.region (subst (λ b. StandsInRegion c.args.program.now b it.region) (sym same) it.in_region) in
    let region : it.region ≡ c.in_ok-region.region = cc in
    has_first (blocks_in c.args.program.now c.in_ok-region.region) a.number it.block (subst (λ x. slice_get (blocks_in c.args.program.now x) a.number ≡ Some it.block) region it.number)
    (sym c.first_block.ensures.first ∙ c.in_err-entry.was)))
