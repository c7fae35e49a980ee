use Rattle.std.proofs.Common.{◌≡◌, ◌∙◌, sym, ap, refl, ℕ, List, length, map, nat_eq, arith, Vec, Global}
use Rattle.std.proofs.lemmas.List.{nil_from_length}
use Rattle.kit_flat.specs.Machine.{resumed, Ended}
use Rattle.kit_flat.specs.View.{numbers_of, flat_code, frame_view}
use Rattle.kit_flat.proofs.Steps.{over, return_turn}
use Rattle.kit_flat.proofs.interpreter.Running.leave.Goals as goal

pub returns-in-None : goal.returns-in-None
returns-in-None c =
    let xs = c.in_ok-gather.ensures ∙ (λ i. map (numbers_of (c.as_slice.ensures.value i)) c.args.values.now) in
    let w = c.in-None.ensures.cases in
    let n : length c.args.self.now.waiting.items ≡ 0 = omega (arith, w.0) in
    over c.args.code.now.functions.items c.args.self.now c.requires.running _ (nil_from_length c.args.self.now.waiting.items n)
    ∙ ap (λ (l : List ℕ). Ended l c.args.self.now.emissions.items)
    (sym (ap (λ (v : Vec ℕ Global). v.items) c.replace-numbers.ensures.value ∙ xs))

pub returns-in-Some : goal.returns-in-Some
returns-in-Some c =
    let xs = c.as_slice-in-Some.ensures.value ∙ c.in_ok-gather.ensures
    ∙ (λ i. map (numbers_of (c.as_slice.ensures.value i)) c.args.values.now) in
    return_turn c.args.code.now.functions.items c.args.self.now c.requires.running _ _ c.in-Some.caller c.in-Some.ensures.items
    (c.resume.ensures.resumes ∙ ap (resumed nat_eq (flat_code c.args.code.now.functions.items) (frame_view c.in-Some.caller)) xs)
    c.resume.ensures.active
    refl
