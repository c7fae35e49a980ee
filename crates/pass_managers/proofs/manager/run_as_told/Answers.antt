use Rattle.std.proofs.Common.{rules, ◌≡◌}
use Rattle.std.specs.Prelude.{Err}
use Rattle.pass_managers.specs.Running.{manager, skipped, full, refused, spoiled, filled, ran}
use Rattle.pass_managers.proofs.manager.run_as_told.Goals as goal

pub returns-then-is_pass_manager : goal.returns-then-is_pass_manager
returns-then-is_pass_manager g c = manager (search rules) c.run.ensures

pub returns-then-skips : goal.returns-then-skips
returns-then-skips g c = skipped (search rules) (search rules) (record { unchanged = c.new.ensures.status; lists_none = c.new.ensures.listed })

pub returns-then-count : goal.returns-then-count
returns-then-count g c = full (search rules) (search rules) (search rules)

pub returns-in_err-verify_if : goal.returns-in_err-verify_if
returns-in_err-verify_if g c =
    let error : c.from_residual.result ≡ Err c.in_err-verify_if.field-0.0 = search rules in
    rw error (refused (search rules) (search rules) (search rules) (search rules) c.in_err-verify_if.ensures.refused)

pub returns-in_err-verify_if-2 : goal.returns-in_err-verify_if-2
returns-in_err-verify_if-2 g c =
    let error : c.from_residual-in_err-verify_if-2.result ≡ Err c.in_err-verify_if-2.field-0.0 = search rules in
    rw error (spoiled (record {
      no_manager = search rules;
      wanted = search rules;
      room = search rules;
      before = λ h. c.in_ok-verify_if.ensures.accepted (rw (c.verifies_before.ensures, c.name-name.ensures) h);
    }) c.run-answer.ensures (search rules) c.in_err-verify_if-2.ensures.refused)

pub returns-then-count-2 : goal.returns-then-count-2
returns-then-count-2 g c =
    filled (record {
      no_manager = search rules;
      wanted = search rules;
      room = search rules;
      before = λ h. c.in_ok-verify_if.ensures.accepted (rw (c.verifies_before.ensures, c.name-name.ensures) h);
    }) c.run-answer.ensures
    (λ h. c.in_ok-verify_if-2.ensures.accepted (rw (c.verifies_after-verifies_after.ensures, c.name-name.ensures) h)) (search rules)

pub returns : goal.returns
returns g c =
    ran (record {
      no_manager = search rules;
      wanted = search rules;
      room = search rules;
      before = λ h. c.in_ok-verify_if.ensures.accepted (rw (c.verifies_before.ensures, c.name-name.ensures) h);
    }) c.run-answer.ensures
    (λ h. c.in_ok-verify_if-2.ensures.accepted (rw (c.verifies_after-verifies_after.ensures, c.name-name.ensures) h)) (search rules) (search rules)
