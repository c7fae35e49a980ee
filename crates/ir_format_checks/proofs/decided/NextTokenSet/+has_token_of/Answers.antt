use Rattle.std.proofs.Common.{ap, sym, ◌∙◌}
use Rattle.ir_print.specs.Formats.{steps_of}
use Rattle.ir_format_checks.specs.Test.{meets}
use Rattle.ir_format_checks.specs.Values.{class_of, classes_of}
use Rattle.ir_format_checks.proofs.NextValues.{classes_of-Directives, meets_first}
use Rattle.ir_format_checks.proofs.decided.NextTokenSet.+has_token_of.Goals as goal

pub returns-then-all_begin : goal.returns-then-all_begin
returns-then-all_begin t c =
    let named = ap classes_of c.in-Directives.is ∙ classes_of-Directives c.in-Directives.directives c.in-Directives.outer in
    c.if-all_begin.true ∙ sym (ap (λ n. meets n (class_of c.args.class)) named
    ∙ meets_first (steps_of c.in-Directives.directives.now) (classes_of c.in-Directives.outer.now) (class_of c.args.class) (sym c.all_begin.ensures ∙ c.if-all_begin.true))
