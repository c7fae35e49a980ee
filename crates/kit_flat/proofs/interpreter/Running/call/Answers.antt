use Rattle.std.proofs.Common.{◌∙◌, sym, ap, subst, refl, [], ◌∷◌, ◌++◌, map, nat_eq}
use Rattle.kit_flat.specs.Machine.{first_frame}
use Rattle.kit_flat.specs.View.{numbers_of, flat_code, frame_view}
use Rattle.kit_flat.specs.Sound.{IsActive}
use Rattle.kit_flat.specs.declared.frames.FlatFrame.{FlatFrame}
use Rattle.kit_flat.proofs.Steps.{calls}
use Rattle.kit_flat.proofs.interpreter.Running.call.Goals as goal

pub returns : goal.returns
returns c =
    let xs = c.as_slice-2.ensures.value ∙ c.in_ok-gather.ensures
    ∙ (λ i. map (numbers_of (c.as_slice.ensures.value i)) c.args.operands.now) in
    calls c.args.code.now.functions.items c.args.self.now c.requires.running c.args.callee c.args.operands.now c.requires.waits _
    (ap frame_view c.replace-caller.ensures.after ∙ c.in_ok-entered.ensures.enters
    ∙ ap (λ l. first_frame nat_eq (flat_code c.args.code.now.functions.items) c.args.callee l 0) xs)
    (subst (IsActive c.args.code.now.functions.items) (sym c.replace-caller.ensures.after) c.in_ok-entered.ensures.active)
    (c.in_ok-push.ensures.items ∙ ap (λ (a : FlatFrame). c.args.self.now.waiting.items ++ a ∷ []) c.replace-caller.ensures.value)
    refl
