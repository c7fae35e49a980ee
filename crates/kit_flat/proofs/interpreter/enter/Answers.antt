use Rattle.std.proofs.Common.{◌∙◌, sym, ap, subst, refl, ℕ, List, length, nat_eq, Some}
use Rattle.std.specs.Option.{option_map}
use Rattle.std.proofs.lemmas.Option.{slice_get_read}
use Rattle.std.proofs.lemmas.List.{length-replicate}
use Rattle.kit_flat.specs.Machine.{bind_all, arguments_of}
use Rattle.kit_flat.proofs.Places.{arguments_fit, enters_at}
use Rattle.kit_flat.specs.View.{numbers_of, block_view, block_in, count_of}
use Rattle.kit_flat.specs.Sound.{ArgumentsFit}
use Rattle.kit_flat.specs.declared.frames.FlatFrame.{FlatFrame}
use Rattle.kit_flat.proofs.interpreter.enter.Goals as goal

pub bind_arguments-requires : goal.bind_arguments-requires
bind_arguments-requires c =
    let e = slice_get_read c.args.code.now.functions.items _ c.args.function c.index-called.result.now refl
    c.requires.within c.index-called.ensures in
    let i = c.in_ok-values.ensures.items_if_clones_equal (λ y p. p) in
    let n = ap length i ∙ length-replicate {A = ℕ} c.index-called.result.now.values 0 in
    subst (λ (k : ℕ). ArgumentsFit k c.index-called.result.now) (sym n)
    (arguments_fit c.args.code.now.functions.items c.requires.sound c.args.function c.index-called.result.now e)

pub returns-clause-enters : goal.returns-clause-enters
returns-clause-enters c =
    let e = slice_get_read c.args.code.now.functions.items _ c.args.function c.index-called.result.now refl
    c.requires.within c.index-called.ensures in
    let i = c.in_ok-values.ensures.items_if_clones_equal (λ y p. p) in
    let a : FlatFrame = record {
      function = c.args.function;
      block = 0;
      index = 0;
      values =
          c.bind_arguments.new.values;
    } in
    enters_at c.args.code.now.functions.items c.args.function c.index-called.result.now e c.args.arguments.now a
    refl refl refl
    (c.bind_arguments.ensures.bound ∙ ap (λ (l : List ℕ). bind_all nat_eq (numbers_of l)
    (arguments_of (option_map block_view (block_in (Some c.index-called.result.now) 0))) c.args.arguments.now) i)

pub returns-clause-active : goal.returns-clause-active
returns-clause-active c =
    let e = slice_get_read c.args.code.now.functions.items _ c.args.function c.index-called.result.now refl
    c.requires.within c.index-called.ensures in
    let i = c.in_ok-values.ensures.items_if_clones_equal (λ y p. p) in
    let n = ap length i ∙ length-replicate {A = ℕ} c.index-called.result.now.values 0 in
    record { within = c.requires.within; sized = c.bind_arguments.ensures.len ∙ n ∙ sym (ap count_of e) }
