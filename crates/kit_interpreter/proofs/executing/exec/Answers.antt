use Rattle.std.proofs.Common.{◌∙◌, sym, ap, subst, refl, ◌-◌, length, IsSome, arith}
use Rattle.std.proofs.lemmas.Option.{slice_get_read}
use Rattle.kit_places.specs.Store.{function_named}
use Rattle.kit_interpreter.proofs.executing.exec.Goals as goal

pub run_function-requires-clause-named : goal.run_function-requires-clause-named
run_function-requires-clause-named c =
    let n = c.in-Some.ensures.located.nonempty in
    let at = slice_get_read c.args.path.now _ (length c.args.path.now - 1) c.index-path-path.result refl
    (omega (arith, n)) c.index-path-path.is in
    let p = c.in-Some.ensures.located.place c.index-path-path.result at in
    subst IsSome (sym (ap (function_named c.args.ctx.now.program c.in-Some.place.within) c.as_str.ensures.text
    ∙ p.named)) refl

pub run_function-requires-clause-can_run : goal.run_function-requires-clause-can_run
run_function-requires-clause-can_run c = c.requires.can_run c.in-Some.place (sym c.in-Some.ensures.place)

pub returns-in-Ok : goal.returns-in-Ok
returns-in-Ok c =
    let n = c.in-Some.ensures.located.nonempty in
    let at = slice_get_read c.args.path.now _ (length c.args.path.now - 1) c.index-path-path.result refl
    (omega (arith, n)) c.index-path-path.is in
    let p = c.in-Some.ensures.located.place c.index-path-path.result at in (
      c.in-Some.place,
      sym c.in-Some.ensures.place,
      c.if-not-takes.ensures.0 refl,
      c.in-Ok.ensures
          c.in-Some.place.function (ap (function_named c.args.ctx.now.program c.in-Some.place.within)
          c.as_str.ensures.text ∙ p.named),
    )

pub takes-requires : goal.takes-requires
takes-requires c = c.in-Some.ensures.located.function_live

pub run_function-requires-clause-live : goal.run_function-requires-clause-live
run_function-requires-clause-live c = c.in-Some.ensures.located.within_live
