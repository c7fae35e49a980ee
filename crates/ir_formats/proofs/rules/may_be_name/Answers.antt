use Rattle.std.proofs.Common.{◌≡◌, false, ◌∙◌, sym, arith}
use Rattle.std.specs.Prelude.{nat_lt}
use Rattle.std.proofs.lemmas.Bool.Decides.{nat_tests}
use Rattle.ir_formats.proofs.Makes.{name_at, name_past}
use Rattle.ir_formats.proofs.rules.may_be_name.Goals as goal

pub returns-then-number-words : goal.returns-then-number-words
returns-then-number-words c =
    let large : nat_lt c.args.kind 7 ≡ false = grind (arith, nat_tests) in
    rw large (c.is_valid.ensures ∙ sym (name_at c.args.words.now _ _ c.if-number-words.true))

pub returns-else-number-words : goal.returns-else-number-words
returns-else-number-words c =
    let large : nat_lt c.args.kind 7 ≡ false = grind (arith, nat_tests) in
    rw large (sym (name_past c.args.words.now _ c.if-number-words.false))
