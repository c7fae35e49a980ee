use Rattle.std.proofs.Common.{◌∙◌, sym, ap, subst, refl, ℕ}
use Rattle.std.proofs.lemmas.Option.{slice_get_read}
use Rattle.kit_flat.proofs.Places.{arguments_fit}
use Rattle.kit_flat.proofs.Steps.{followed, goes_along}
use Rattle.kit_flat.specs.View.{count_of}
use Rattle.kit_flat.specs.Sound.{ArgumentsFit}
use Rattle.kit_flat.proofs.interpreter.Running.follow.Goals as goal

pub forward-requires-clause-arguments : goal.forward-requires-clause-arguments
forward-requires-clause-arguments c =
    let e = slice_get_read c.args.code.now.functions.items _ c.args.self.now.top.function
    c.index-function.result.now refl c.requires.running.top_active.within c.index-function.ensures in
    let n = c.requires.running.top_active.sized ∙ ap count_of e in
    subst (λ (k : ℕ). ArgumentsFit k c.index-function.result.now) (sym n)
    (arguments_fit c.args.code.now.functions.items c.requires.sound c.args.self.now.top.function
    c.index-function.result.now e)

pub returns : goal.returns
returns c =
    let e = slice_get_read c.args.code.now.functions.items _ c.args.self.now.top.function
    c.index-function.result.now refl c.requires.running.top_active.within c.index-function.ensures in
    goes_along c.args.code.now.functions.items c.args.self.now c.requires.running _ c.args.edge.now
    (followed c.args.code.now.functions.items c.args.self.now _ c.args.edge.now c.index-function.result.now
    c.requires.running.top_active e refl refl refl c.in_ok-forward.ensures.bound c.in_ok-forward.ensures.len
    refl refl)
