use Rattle.std.proofs.lemmas.Result.{IfOk-from_err}
use Rattle.std.proofs.Common.{◌≡◌, sym, subst, arith, length, refl, Some}
use Rattle.std.proofs.lemmas.Bool.Decides.{nat_tests}
use Rattle.ir_print.specs.Shown.{ShowsParts}
use Rattle.kit.specs.Says.{says, refused_attribute}
use Rattle.kit.proofs.Integers.{integer_made, length_refused, width_refused, values_refused, number_refused, range_refused, second_of_two}
use Rattle.kit.proofs.Made.{two_items, refused_at, memory_refuses_none}
use Rattle.kit.proofs.attributes.make_integer.Goals as goal

pub returns-clause-made : goal.returns-clause-made
returns-clause-made c = λ types new ps h.
    let many : length c.args.parts.now ≡ 2 = grind (arith, nat_tests) in
    let two = two_items c.args.parts.now c.index-parts-0.result c.index-parts-1.result (omega arith) (omega arith) c.index-parts-0.is c.index-parts-1.is in
    integer_made types new c.index-parts-0.result c.index-parts-1.result c.in-Some-number_in.number _ ps (sym c.in-Some.ensures) (sym c.in-Some-number_in.ensures) c.in-Some-bits_of.ensures.0 c.in-Some-bits_of.ensures.1
    (subst (λ parts. ShowsParts says types parts ps) two h)

pub returns-clause-types : goal.returns-clause-types
returns-clause-types c = c.instantiate_key.ensures.keeps

pub returns-clause-program : goal.returns-clause-program
returns-clause-program c = c.instantiate_key.ensures.program

pub returns-in_err-ty-clause-types : goal.returns-in_err-ty-clause-types
returns-in_err-ty-clause-types c = c.instantiate_key.ensures.keeps

pub returns-in_err-ty-clause-program : goal.returns-in_err-ty-clause-program
returns-in_err-ty-clause-program c = c.instantiate_key.ensures.program

pub returns-clause-refused : goal.returns-clause-refused
returns-clause-refused c = λ types ps h i e. cc

pub returns-then-parts-ne2-clause-refused : goal.returns-then-parts-ne2-clause-refused
returns-then-parts-ne2-clause-refused c = λ types ps h i e. refused_at (λ j. refused_attribute 0 ps ≡ Some j) 0 (length_refused types c.args.parts.now ps (λ two. grind (arith, nat_tests)) h) i e

pub returns-then-not-has_values-clause-refused : goal.returns-then-not-has_values-clause-refused
returns-then-not-has_values-clause-refused c = λ types ps h i e.
    let many : length c.args.parts.now ≡ 2 = grind (arith, nat_tests) in
    let two = second_of_two c.args.parts.now c.index-parts-1.result many c.index-parts-1.is in
    refused_at (λ j. refused_attribute 0 ps ≡ Some j) 1 (values_refused types two.0 c.index-parts-1.result c.in-Some.integer ps (sym c.in-Some.ensures) (λ v. let f = c.if-not-has_values.ensures.1 v in cc) (subst (λ parts. ShowsParts says types parts ps) two.1 h)) i e

pub returns-in_default-clause-refused : goal.returns-in_default-clause-refused
returns-in_default-clause-refused c = λ types ps h i e.
    let many : length c.args.parts.now ≡ 2 = grind (arith, nat_tests) in
    let two = second_of_two c.args.parts.now c.index-parts-1.result many c.index-parts-1.is in
    refused_at (λ j. refused_attribute 0 ps ≡ Some j) 1 (width_refused types two.0 c.index-parts-1.result ps (sym c.in_default.ensures) (subst (λ parts. ShowsParts says types parts ps) two.1 h)) i e

pub returns-in_default-number_in-clause-refused : goal.returns-in_default-number_in-clause-refused
returns-in_default-number_in-clause-refused c = λ types ps h i e.
    let many : length c.args.parts.now ≡ 2 = grind (arith, nat_tests) in
    let two = two_items c.args.parts.now c.index-parts-0.result c.index-parts-1.result (omega arith) (omega arith) c.index-parts-0.is c.index-parts-1.is in
    refused_at (λ j. refused_attribute 0 ps ≡ Some j) 0 (number_refused types c.index-parts-0.result c.index-parts-1.result c.in-Some.integer ps (sym c.in-Some.ensures) (c.if-not-has_values.ensures.0 refl) (sym c.in_default-number_in.ensures) (subst (λ parts. ShowsParts says types parts ps) two h)) i e

pub returns-in_default-bits_of-clause-refused : goal.returns-in_default-bits_of-clause-refused
returns-in_default-bits_of-clause-refused c = λ types ps h i e.
    let many : length c.args.parts.now ≡ 2 = grind (arith, nat_tests) in
    let two = two_items c.args.parts.now c.index-parts-0.result c.index-parts-1.result (omega arith) (omega arith) c.index-parts-0.is c.index-parts-1.is in
    refused_at (λ j. refused_attribute 0 ps ≡ Some j) 0 (range_refused types c.index-parts-0.result c.index-parts-1.result c.in-Some.integer c.in-Some-number_in.number ps (sym c.in-Some.ensures) (c.if-not-has_values.ensures.0 refl) (sym c.in-Some-number_in.ensures) c.in_default-bits_of.ensures (subst (λ parts. ShowsParts says types parts ps) two h)) i e

pub returns-then-parts-ne2-clause-types : goal.returns-then-parts-ne2-clause-types
returns-then-parts-ne2-clause-types c = λ ty key e. (e, refl)

pub returns-then-not-has_values-clause-types : goal.returns-then-not-has_values-clause-types
returns-then-not-has_values-clause-types c = λ ty key e. (e, refl)

pub returns-in_default-clause-types : goal.returns-in_default-clause-types
returns-in_default-clause-types c = λ ty key e. (e, refl)

pub returns-in_default-number_in-clause-types : goal.returns-in_default-number_in-clause-types
returns-in_default-number_in-clause-types c = λ ty key e. (e, refl)

pub returns-in_default-bits_of-clause-types : goal.returns-in_default-bits_of-clause-types
returns-in_default-bits_of-clause-types c = λ ty key e. (e, refl)

pub returns-then-parts-ne2-clause-program : goal.returns-then-parts-ne2-clause-program
returns-then-parts-ne2-clause-program c = refl

pub returns-then-not-has_values-clause-program : goal.returns-then-not-has_values-clause-program
returns-then-not-has_values-clause-program c = refl

pub returns-in_default-clause-program : goal.returns-in_default-clause-program
returns-in_default-clause-program c = refl

pub returns-in_default-number_in-clause-program : goal.returns-in_default-number_in-clause-program
returns-in_default-number_in-clause-program c = refl

pub returns-in_default-bits_of-clause-program : goal.returns-in_default-bits_of-clause-program
returns-in_default-bits_of-clause-program c = refl

pub returns-then-parts-ne2-clause-made : goal.returns-then-parts-ne2-clause-made
returns-then-parts-ne2-clause-made c = λ types new ps h. tt

pub returns-then-not-has_values-clause-made : goal.returns-then-not-has_values-clause-made
returns-then-not-has_values-clause-made c = λ types new ps h. tt

pub returns-in_default-clause-made : goal.returns-in_default-clause-made
returns-in_default-clause-made c = λ types new ps h. tt

pub returns-in_default-number_in-clause-made : goal.returns-in_default-number_in-clause-made
returns-in_default-number_in-clause-made c = λ types new ps h. tt

pub returns-in_default-bits_of-clause-made : goal.returns-in_default-bits_of-clause-made
returns-in_default-bits_of-clause-made c = λ types new ps h. tt

pub bits_of-requires : goal.bits_of-requires
bits_of-requires c = tt

pub bounds-parts-1 : goal.bounds-parts-1
bounds-parts-1 c = let many : length c.args.parts.now ≡ 2 = grind (arith, nat_tests) in omega (arith, many)

pub returns-in_err-ty-clause-made : goal.returns-in_err-ty-clause-made
returns-in_err-ty-clause-made c = λ types new ps h. IfOk-from_err _ _ c.from_residual.ensures.0

pub returns-in_err-ty-clause-refused : goal.returns-in_err-ty-clause-refused
returns-in_err-ty-clause-refused c = λ types ps h i e. memory_refuses_none c.from_residual.result c.from_residual.ensures.1 i e
