use Rattle.std.proofs.Common.{refl, sym, ap, ◌∙◌}
use Rattle.ir_print.specs.Formats.{steps_of}
use Rattle.ir_format_checks.specs.Test.{is_decided}
use Rattle.ir_format_checks.proofs.Exact.{accepted_is, accepted_was}
use Rattle.ir_format_checks.proofs.check.check_format.Goals as goal

pub returns-then-not-are_made : goal.returns-then-not-are_made
returns-then-not-are_made c =
    ((λ h. absurd (cc)), λ a. sym c.if-not-are_made.true ∙ (c.are_made.ensures ∙ (accepted_was c.args.sort (steps_of c.args.format.now) a).0))

pub returns-then-not-all_decided : goal.returns-then-not-all_decided
returns-then-not-all_decided c =
    let format = steps_of c.args.format.now in
    ((λ h. absurd (cc)), λ a. sym c.if-not-all_decided.true ∙ (c.all_decided.ensures ∙ (ap (λ n. is_decided format n) c.behind.ensures ∙ (accepted_was c.args.sort format a).1)))

pub returns : goal.returns
returns c =
    let format = steps_of c.args.format.now in (
      (λ h. accepted_is c.args.sort format (sym c.are_made.ensures ∙ c.if-not-are_made.false)
          (sym (c.all_decided.ensures ∙ ap (λ n. is_decided format n) c.behind.ensures) ∙ c.if-not-all_decided.false)),
      λ a. refl,
    )
