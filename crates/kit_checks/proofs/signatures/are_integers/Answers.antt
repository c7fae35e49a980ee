use Rattle.std.proofs.Common.{◌∙◌, refl, sym, true≢false}
use Rattle.std.proofs.lemmas.Option.{slice_get-get_or}
use Rattle.kit_checks.specs.Words.{IsInteger}
use Rattle.kit_checks.specs.World.{world_of}
use Rattle.kit_checks.proofs.Everys.{every_more, every_end, not_every, is_every}
use Rattle.kit_checks.proofs.signatures.are_integers.Goals as goal

pub loop-ty-preserved : goal.loop-ty-preserved
loop-ty-preserved c =
    let here = slice_get-get_or c.args.types.now c.loop-ty.ty-index (record { number = 0 }) c.loop-ty-test.true in
    every_more (IsInteger (world_of c.args.ctx.now)) c.args.types.now c.loop-ty.ty-index _ here (c.is_integer.ensures.0 c.if-not-is_integer.false) c.loop-ty.invariant

pub returns-then-not-is_integer : goal.returns-then-not-is_integer
returns-then-not-is_integer c =
    let here = slice_get-get_or c.args.types.now c.loop-ty.ty-index (record { number = 0 }) c.loop-ty-test.true in
    not_every (IsInteger (world_of c.args.ctx.now)) _ c.args.types.now c.loop-ty.ty-index _ refl here (λ h. true≢false (sym (c.is_integer.ensures.1 h) ∙ c.if-not-is_integer.true))

pub returns : goal.returns
returns c =
    is_every (IsInteger (world_of c.args.ctx.now)) _ c.args.types.now refl (every_end (IsInteger (world_of c.args.ctx.now)) c.args.types.now c.loop-ty.ty-index c.loop-ty-test.false c.loop-ty.invariant)
