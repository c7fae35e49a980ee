use Rattle.std.proofs.Common.{option_map, sym, ap, subst}
use Rattle.ir_names.specs.Identifier.{text_of}
use Rattle.kit.specs.Parts.{AreGivenNameParts}
use Rattle.kit.proofs.parts.given_name_parts.Goals as goal

pub returns-in_ok-vec-in-Some : goal.returns-in_ok-vec-in-Some
returns-in_ok-vec-in-Some c =
    subst (λ o. AreGivenNameParts c.in_ok-vec-in-Some.field-0.items o) (sym (ap (option_map text_of) c.in-Some.is))
    (c.in_ok-try_clone-in-Some.field-0, c.in_ok-try_clone-in-Some.ensures, c.in_ok-inner-in-Some.inner, c.in_ok-vec-in-Some.ensures.items, c.in_ok-inner-in-Some.ensures.items)

pub returns-in_ok-vec-in-None : goal.returns-in_ok-vec-in-None
returns-in_ok-vec-in-None c =
    subst (λ o. AreGivenNameParts c.in_ok-vec-in-None.field-0.items o) (sym (ap (option_map text_of) c.in-None.is))
    (c.new.result, c.in_ok-vec-in-None.ensures.items, c.new.ensures.items)
