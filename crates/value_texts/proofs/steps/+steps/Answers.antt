use Rattle.std.proofs.Common.{rules, ◌≡◌, ◌-◌, ◌+◌, ◌∙◌, ℕ, suc, List, true, false, Err, length, drop, refl, sym, ap, subst, arith}
use Rattle.std.specs.Str.{trim}
use Rattle.std.proofs.lemmas.Option.{slice_get_read}
use Rattle.std.proofs.lemmas.Result.{on_ok_weaker, IfErr-weaker}
use Rattle.ir_print.proofs.FormatSteps.{step_of-Literal, step_of-List, step_of-Choice, step_of-Attribute, step_of-Type, step_of-Name, step_of-Number, step_of-Digits, step_of-Width, step_of-Text, step_of-Mark}
use Rattle.ir_print.specs.Formats.{step_of, steps_of, choices_of, Step, a_value, list_of, choice_of}
use Rattle.text_streams.specs.Positions.{left}
use Rattle.value_texts.specs.Following.{Begins}
use Rattle.value_texts.specs.Only.{HasTextOf, IsDeepStep, RefusesStep, RefusesSteps}
use Rattle.value_texts.specs.Progress.{TakesWord, TakesStep}
use Rattle.value_texts.proofs.Taking.{one_step, word_step, steps_first, steps_next, steps_last, list_first, list_next, list_one, list_empty, list_same, choice_one, member_taken, value_one, steps_at, steps_past, ended, steps_refused, first_refused, next_refused, chosen_refused, inside_refused, made_refused, too_deep}
use Rattle.value_texts.proofs.Formats.{alternative_at, alternative_within, flat_step}
use Rattle.value_texts.proofs.Readings.{none_said, none_made, no_word, no_choice_at, no_value_token, no_value_kind}
use Rattle.value_texts.proofs.steps.+steps.Goals as goal
use Rattle.value_texts.proofs.steps.+steps.Goals.{read_list-then-branch+in_ok-read_member+in_ok-take_word+else-branch-2, read_list-else-branch}

pub read_choice-returns-clause-took : goal.read_choice-returns-clause-took
read_choice-returns-clause-took g t c =
    let found = alternative_at c.args.alternatives.now c.in-Some.number c.in-Some-get.format.now (slice_get_read c.args.alternatives.now (length c.args.alternatives.now) c.in-Some.number c.in-Some-get.format.now refl c.in-Some-get.ensures.lookup.3.0 c.in-Some-get.ensures.lookup.1) in
    choice_one g.M.ValueMaker.formats g.M.ValueMaker.values g.M.ValueMaker.leaf_in c.args.left (g.M.ValueMaker.shows c.read_steps.new.store) (choices_of c.args.alternatives.now) (steps_of c.in-Some-get.format.now.now) c.in-Some.number c.args.progress.now c.new-inner.result c.read_steps.new.progress _
    c.follow.new.self.parts c.choice.result found (rw c.in-Some.is at c.in_ok-number.ensures) c.new-inner.ensures.parts c.new-inner.ensures.at c.in_ok-read_steps.ensures.took c.follow.ensures.parts c.in_ok-push.ensures.items c.in_ok-follow.ensures.at (c.choice.ensures c.read_steps.new.store)

pub read_list-loop-members-init : goal.read_list-loop-members-init
read_list-loop-members-init g t c = (
  list_first g.M.ValueMaker.formats g.M.ValueMaker.values g.M.ValueMaker.leaf_in c.args.left (g.M.ValueMaker.shows c.read_member.new.store) (steps_of c.args.member.now) c.args.separator.now c.new-members.result.items c.read_member.new.members.items c.args.progress.now c.read_member.new.progress
      c.new-members.ensures.items c.in_ok-read_member.ensures.took,
  c.read_member.ensures.keeps,
)

pub read_list-loop-members-preserved : goal.read_list-loop-members-preserved
read_list-loop-members-preserved g t c =
    let w = c.args.separator.now in (
      list_next g.M.ValueMaker.formats g.M.ValueMaker.values g.M.ValueMaker.leaf_in c.args.left (g.M.ValueMaker.shows c.loop-members.store) (g.M.ValueMaker.shows c.read_member-in-loop-members.new.store)
          (g.met.M.ValueMaker.later c.loop-members.store c.read_member-in-loop-members.new.store c.read_member-in-loop-members.ensures.keeps)
          (steps_of c.args.member.now) w c.loop-members.members.items c.read_member-in-loop-members.new.members.items c.args.progress.now c.loop-members.progress c.take_word.new.self c.read_member-in-loop-members.new.progress
          c.loop-members.invariant.0 (subst (TakesWord w c.loop-members.progress c.take_word.new.self) c.if-branch-2.true c.in_ok-take_word.ensures) c.in_ok-read_member-2.ensures.took,
      g.met.M.ValueMaker.both c.args.store.now c.loop-members.store c.read_member-in-loop-members.new.store c.loop-members.invariant.1 c.read_member-in-loop-members.ensures.keeps,
    )

pub read_list-returns-clause-took : goal.read_list-returns-clause-took
read_list-returns-clause-took g t c = λ printed.
    let m = steps_of c.args.member.now in
    let w = c.args.separator.now in
    elim c.if-branch.branch [
      | read_list-then-branch+in_ok-read_member+in_ok-take_word+else-branch-2 b ↦
          list_one g.M.ValueMaker.formats g.M.ValueMaker.values g.M.ValueMaker.leaf_in c.args.left (g.M.ValueMaker.shows c.if-branch.store) m printed w c.if-branch.members.items c.args.progress.now c.if-branch.progress _ c.list.result
          (list_same g.M.ValueMaker.formats g.M.ValueMaker.values g.M.ValueMaker.leaf_in c.args.left g.M.ValueMaker.shows b.loop-members.store c.if-branch.store m w b.loop-members.members c.if-branch.members c.args.progress.now b.loop-members.progress c.if-branch.progress
          b.store-is b.members-is (b.progress-is ∙ (subst (TakesWord w b.loop-members.progress b.take_word.new.self) b.if-branch-2.false b.in_ok-take_word.ensures).0) b.loop-members.invariant.0)
          (subst (Begins (left c.args.progress.now.at) m) b.if-branch.true c.in_ok-begins_at.ensures)
          (ended w b.loop-members.progress b.take_word.new.self c.if-branch.progress b.progress-is (subst (TakesWord w b.loop-members.progress b.take_word.new.self) b.if-branch-2.false b.in_ok-take_word.ensures))
          c.in_ok-push.ensures.items refl (c.list.ensures c.if-branch.store)
      | read_list-else-branch b ↦
          list_empty g.M.ValueMaker.formats g.M.ValueMaker.values g.M.ValueMaker.leaf_in c.args.left (g.M.ValueMaker.shows c.if-branch.store) m printed w c.if-branch.members.items c.args.progress.now c.if-branch.progress _ c.list.result
          (ap (λ xs. xs.items) b.members-is ∙ c.new-members.ensures.items) b.progress-is (subst (Begins (left c.args.progress.now.at) m) b.if-branch.false c.in_ok-begins_at.ensures)
          c.in_ok-push.ensures.items refl (c.list.ensures c.if-branch.store)
    ]

pub read_member-returns-clause-took : goal.read_member-returns-clause-took
read_member-returns-clause-took g t c =
    member_taken g.M.ValueMaker.formats g.M.ValueMaker.values g.M.ValueMaker.leaf_in c.args.left (g.M.ValueMaker.shows c.read_steps.new.store) (steps_of c.args.member.now) c.args.members.now.items c.push.new.self.items c.read_steps.new.progress.parts c.args.progress.now c.new-inner.result c.read_steps.new.progress c.follow.new.self
    c.new-inner.ensures.parts c.new-inner.ensures.at c.in_ok-read_steps.ensures.took refl c.in_ok-push.ensures.items c.follow.ensures.parts c.in_ok-follow.ensures.at

pub read_step-returns-then-branch-clause-took : goal.read_step-returns-then-branch-clause-took
read_step-returns-then-branch-clause-took g t c =
    let old = c.args.progress.now in
    let new = c.take_word.new.self in
    let R = g.M.ValueMaker.shows c.args.store.now in
    let took = subst (λ (w : List ℕ). TakesWord w old new true) c.trim.ensures.trim (subst (TakesWord c.trim.result.now old new) c.if-branch.true c.in_ok-take_word-in-Literal.ensures) in
    subst (λ (s : Step). TakesStep g.M.ValueMaker.formats g.M.ValueMaker.values g.M.ValueMaker.leaf_in R c.args.left s old new) (sym (ap step_of c.in-Literal.is ∙ step_of-Literal c.in-Literal.text))
    (word_step g.M.ValueMaker.formats g.M.ValueMaker.values g.M.ValueMaker.leaf_in c.args.left R c.in-Literal.text.now (trim c.in-Literal.text.now) old new took)

pub read_step-returns-in-Attribute-clause-took : goal.read_step-returns-in-Attribute-clause-took
read_step-returns-in-Attribute-clause-took g t c = on_ok_weaker c.read_value.result (λ took.
    subst (λ (s : Step). TakesStep g.M.ValueMaker.formats g.M.ValueMaker.values g.M.ValueMaker.leaf_in (g.M.ValueMaker.shows c.read_value.new.store) c.args.left s c.args.progress.now c.read_value.new.progress) (sym (ap step_of c.in-Attribute.is ∙ step_of-Attribute))
    (one_step g.M.ValueMaker.formats g.M.ValueMaker.values g.M.ValueMaker.leaf_in c.args.left (g.M.ValueMaker.shows c.read_value.new.store) _ c.args.progress.now c.read_value.new.progress took)) c.read_value.ensures.took

pub read_step-returns-in-Type-clause-took : goal.read_step-returns-in-Type-clause-took
read_step-returns-in-Type-clause-took g t c = on_ok_weaker c.read_value-in-Type.result (λ took.
    subst (λ (s : Step). TakesStep g.M.ValueMaker.formats g.M.ValueMaker.values g.M.ValueMaker.leaf_in (g.M.ValueMaker.shows c.read_value-in-Type.new.store) c.args.left s c.args.progress.now c.read_value-in-Type.new.progress) (sym (ap step_of c.in-Type.is ∙ step_of-Type))
    (one_step g.M.ValueMaker.formats g.M.ValueMaker.values g.M.ValueMaker.leaf_in c.args.left (g.M.ValueMaker.shows c.read_value-in-Type.new.store) _ c.args.progress.now c.read_value-in-Type.new.progress took)) c.read_value-in-Type.ensures.took

pub read_step-returns-in-Name-clause-took : goal.read_step-returns-in-Name-clause-took
read_step-returns-in-Name-clause-took g t c = on_ok_weaker c.read_leaf.result (λ took.
    subst (λ (s : Step). TakesStep g.M.ValueMaker.formats g.M.ValueMaker.values g.M.ValueMaker.leaf_in (g.M.ValueMaker.shows c.args.store.now) c.args.left s c.args.progress.now c.read_leaf.new.progress) (sym (ap step_of c.in-Name.is ∙ step_of-Name))
    (one_step g.M.ValueMaker.formats g.M.ValueMaker.values g.M.ValueMaker.leaf_in c.args.left (g.M.ValueMaker.shows c.args.store.now) _ c.args.progress.now c.read_leaf.new.progress took)) (c.read_leaf.ensures.took c.args.store.now c.args.left)

pub read_step-returns-in-Number-clause-took : goal.read_step-returns-in-Number-clause-took
read_step-returns-in-Number-clause-took g t c = on_ok_weaker c.read_leaf-in-Number.result (λ took.
    subst (λ (s : Step). TakesStep g.M.ValueMaker.formats g.M.ValueMaker.values g.M.ValueMaker.leaf_in (g.M.ValueMaker.shows c.args.store.now) c.args.left s c.args.progress.now c.read_leaf-in-Number.new.progress) (sym (ap step_of c.in-Number.is ∙ step_of-Number))
    (one_step g.M.ValueMaker.formats g.M.ValueMaker.values g.M.ValueMaker.leaf_in c.args.left (g.M.ValueMaker.shows c.args.store.now) _ c.args.progress.now c.read_leaf-in-Number.new.progress took)) (c.read_leaf-in-Number.ensures.took c.args.store.now c.args.left)

pub read_step-returns-in-Digits-clause-took : goal.read_step-returns-in-Digits-clause-took
read_step-returns-in-Digits-clause-took g t c = on_ok_weaker c.read_leaf-in-Digits.result (λ took.
    subst (λ (s : Step). TakesStep g.M.ValueMaker.formats g.M.ValueMaker.values g.M.ValueMaker.leaf_in (g.M.ValueMaker.shows c.args.store.now) c.args.left s c.args.progress.now c.read_leaf-in-Digits.new.progress) (sym (ap step_of c.in-Digits.is ∙ step_of-Digits))
    (one_step g.M.ValueMaker.formats g.M.ValueMaker.values g.M.ValueMaker.leaf_in c.args.left (g.M.ValueMaker.shows c.args.store.now) _ c.args.progress.now c.read_leaf-in-Digits.new.progress took)) (c.read_leaf-in-Digits.ensures.took c.args.store.now c.args.left)

pub read_step-returns-in-Width-clause-took : goal.read_step-returns-in-Width-clause-took
read_step-returns-in-Width-clause-took g t c = on_ok_weaker c.read_leaf-in-Width.result (λ took.
    subst (λ (s : Step). TakesStep g.M.ValueMaker.formats g.M.ValueMaker.values g.M.ValueMaker.leaf_in (g.M.ValueMaker.shows c.args.store.now) c.args.left s c.args.progress.now c.read_leaf-in-Width.new.progress) (sym (ap step_of c.in-Width.is ∙ step_of-Width))
    (one_step g.M.ValueMaker.formats g.M.ValueMaker.values g.M.ValueMaker.leaf_in c.args.left (g.M.ValueMaker.shows c.args.store.now) _ c.args.progress.now c.read_leaf-in-Width.new.progress took)) (c.read_leaf-in-Width.ensures.took c.args.store.now c.args.left)

pub read_step-returns-in-Text-clause-took : goal.read_step-returns-in-Text-clause-took
read_step-returns-in-Text-clause-took g t c = on_ok_weaker c.read_leaf-in-Text.result (λ took.
    subst (λ (s : Step). TakesStep g.M.ValueMaker.formats g.M.ValueMaker.values g.M.ValueMaker.leaf_in (g.M.ValueMaker.shows c.args.store.now) c.args.left s c.args.progress.now c.read_leaf-in-Text.new.progress) (sym (ap step_of c.in-Text.is ∙ step_of-Text))
    (one_step g.M.ValueMaker.formats g.M.ValueMaker.values g.M.ValueMaker.leaf_in c.args.left (g.M.ValueMaker.shows c.args.store.now) _ c.args.progress.now c.read_leaf-in-Text.new.progress took)) (c.read_leaf-in-Text.ensures.took c.args.store.now c.args.left)

pub read_step-returns-in-Mark-clause-took : goal.read_step-returns-in-Mark-clause-took
read_step-returns-in-Mark-clause-took g t c = on_ok_weaker c.read_leaf-in-Mark.result (λ took.
    subst (λ (s : Step). TakesStep g.M.ValueMaker.formats g.M.ValueMaker.values g.M.ValueMaker.leaf_in (g.M.ValueMaker.shows c.args.store.now) c.args.left s c.args.progress.now c.read_leaf-in-Mark.new.progress) (sym (ap step_of c.in-Mark.is ∙ step_of-Mark))
    (one_step g.M.ValueMaker.formats g.M.ValueMaker.values g.M.ValueMaker.leaf_in c.args.left (g.M.ValueMaker.shows c.args.store.now) _ c.args.progress.now c.read_leaf-in-Mark.new.progress took)) (c.read_leaf-in-Mark.ensures.took c.args.store.now c.args.left)

pub read_step-returns-else-lists-eq0-clause-took : goal.read_step-returns-else-lists-eq0-clause-took
read_step-returns-else-lists-eq0-clause-took g t c =
    let R = g.M.ValueMaker.shows c.read_list.new.store in
    let old = c.args.progress.now in
    let new = c.read_list.new.progress in
    on_ok_weaker c.read_list.result (λ took.
    subst (λ (s : Step). TakesStep g.M.ValueMaker.formats g.M.ValueMaker.values g.M.ValueMaker.leaf_in R c.args.left s old new)
    (sym (ap step_of c.in-List.is ∙ (step_of-List c.in-List.member c.in-List.separator ∙ ap (λ (w : List ℕ). list_of (steps_of c.in-List.member.now) c.in-List.separator.now w) (sym c.trim-in-List.ensures.trim))))
    (one_step g.M.ValueMaker.formats g.M.ValueMaker.values g.M.ValueMaker.leaf_in c.args.left R _ old new took)) (c.read_list.ensures.took c.in-List.separator.now)

pub read_step-returns-else-lists-eq0-2-clause-took : goal.read_step-returns-else-lists-eq0-2-clause-took
read_step-returns-else-lists-eq0-2-clause-took g t c =
    let R = g.M.ValueMaker.shows c.read_choice.new.store in
    let old = c.args.progress.now in
    let new = c.read_choice.new.progress in
    on_ok_weaker c.read_choice.result (λ took.
    subst (λ (s : Step). TakesStep g.M.ValueMaker.formats g.M.ValueMaker.values g.M.ValueMaker.leaf_in R c.args.left s old new) (sym (ap step_of c.in-Choice.is ∙ step_of-Choice c.in-Choice.alternatives))
    (one_step g.M.ValueMaker.formats g.M.ValueMaker.values g.M.ValueMaker.leaf_in c.args.left R _ old new took)) c.read_choice.ensures.took

pub read_steps-loop-directive-init : goal.read_steps-loop-directive-init
read_steps-loop-directive-init g t c = (
  steps_first g.M.ValueMaker.formats g.M.ValueMaker.values g.M.ValueMaker.leaf_in c.args.left (g.M.ValueMaker.shows c.args.store.now) (steps_of c.args.format.now) c.args.progress.now,
  g.met.M.ValueMaker.same c.args.store.now,
)

pub read_steps-loop-directive-preserved : goal.read_steps-loop-directive-preserved
read_steps-loop-directive-preserved g t c = (
  steps_next g.M.ValueMaker.formats g.M.ValueMaker.values g.M.ValueMaker.leaf_in c.args.left (g.M.ValueMaker.shows c.loop-directive.store) (g.M.ValueMaker.shows c.read_step.new.store)
      (g.met.M.ValueMaker.later c.loop-directive.store c.read_step.new.store c.read_step.ensures.keeps)
      (step_of c.directive-item.result) (steps_of c.args.format.now) _ c.args.progress.now c.loop-directive.progress c.read_step.new.progress
      (rw (steps_at c.args.format.now c.loop-directive.directive-index c.directive-item.result (omega arith) c.directive-item.is) at c.loop-directive.invariant.0) c.in_ok-read_step.ensures.took,
  g.met.M.ValueMaker.both c.args.store.now c.loop-directive.store c.read_step.new.store c.loop-directive.invariant.1 c.read_step.ensures.keeps,
)

pub read_steps-returns-clause-took : goal.read_steps-returns-clause-took
read_steps-returns-clause-took g t c = steps_last g.M.ValueMaker.formats g.M.ValueMaker.values g.M.ValueMaker.leaf_in c.args.left (g.M.ValueMaker.shows c.loop-directive.store) (steps_of c.args.format.now) _ c.args.progress.now c.loop-directive.progress
    (steps_past c.args.format.now c.loop-directive.directive-index (omega arith)) c.loop-directive.invariant.0

pub read_value-returns-clause-took : goal.read_value-returns-clause-took
read_value-returns-clause-took g t c =
    let lexeme = rw c.in-Some.is at c.in_ok-token.ensures in
    let named = c.in-Some-kind_named.ensures.found in
    value_one g.M.ValueMaker.formats g.M.ValueMaker.values g.M.ValueMaker.leaf_in (c.args.left - 1) (g.M.ValueMaker.shows c.read_steps.new.store) (g.M.ValueMaker.shows c.value.new.store) c.args.left (omega (arith, c.if-left-eq0.false)) c.args.sort
    (steps_of c.in-Some-kind_named.format.now) c.in-Some-kind_named.number c.args.progress.now c.new-inner.result c.read_steps.new.progress _ c.in-Some.token c.in-Ok.part
    (record { lexeme = lexeme; class = named.dotted_name }) named c.new-inner.ensures.parts c.new-inner.ensures.at c.in_ok-read_steps.ensures.took
    (λ ts shown. c.in-Ok.ensures.made ts (rw c.deref.ensures.value shown)) c.in_ok-put.ensures.parts refl

pub read_choice-returns-in_default-clause-refuses : goal.read_choice-returns-in_default-clause-refuses
read_choice-returns-in_default-clause-refuses g t c = λ good flat.
    let cs = choices_of c.args.alternatives.now in
    none_said c.syntax.result c.args.left (HasTextOf g.M.ValueMaker.formats g.M.ValueMaker.values g.M.ValueMaker.leaf_in (choice_of cs) (left c.args.progress.now.at)) (IsDeepStep g.M.ValueMaker.formats g.M.ValueMaker.values g.M.ValueMaker.leaf_in (choice_of cs) (left c.args.progress.now.at)) c.syntax.ensures
    (no_choice_at g.M.ValueMaker.formats g.M.ValueMaker.values g.M.ValueMaker.leaf_in cs (left c.args.progress.now.at) (rw c.in_default.is at c.in_ok-number.ensures))

pub read_choice-returns-in_default-get-clause-refuses : goal.read_choice-returns-in_default-get-clause-refuses
read_choice-returns-in_default-get-clause-refuses g t c = λ good flat.
    let chooses = rw c.in-Some.is at c.in_ok-number.ensures in
    let within = alternative_within c.args.alternatives.now c.in-Some.number chooses.chosen.0 chooses.chosen.1 in
    let past = c.in_default-get.ensures.lookup in
    absurd (omega (arith, within, past))

pub read_choice-returns-in_err-read_steps-clause-refuses : goal.read_choice-returns-in_err-read_steps-clause-refuses
read_choice-returns-in_err-read_steps-clause-refuses g t c =
    let found = alternative_at c.args.alternatives.now c.in-Some.number c.in-Some-get.format.now (slice_get_read c.args.alternatives.now (length c.args.alternatives.now) c.in-Some.number c.in-Some-get.format.now refl c.in-Some-get.ensures.lookup.3.0 c.in-Some-get.ensures.lookup.1) in
    let cs = choices_of c.args.alternatives.now in
    let a = steps_of c.in-Some-get.format.now.now in
    IfErr-weaker c.from_residual-in_err-read_steps.result (RefusesSteps g.M.ValueMaker.formats g.M.ValueMaker.values g.M.ValueMaker.leaf_in a c.new-inner.result.at c.args.left c.args.lists) _ (λ fault h good flat.
    chosen_refused g.M.ValueMaker.formats g.M.ValueMaker.values g.M.ValueMaker.leaf_in c.args.left cs c.in-Some.number a c.args.progress.now.at c.new-inner.result.at c.args.left c.args.lists fault good found (rw c.in-Some.is at c.in_ok-number.ensures) c.new-inner.ensures.at flat h)
    (search rules)

pub read_list-returns-in_err-read_member-clause-refuses : goal.read_list-returns-in_err-read_member-clause-refuses
read_list-returns-in_err-read_member-clause-refuses g t c = λ printed.
    let m = steps_of c.args.member.now in
    let begins = subst (Begins (left c.args.progress.now.at) m) c.if-branch.true c.in_ok-begins_at.ensures in
    IfErr-weaker c.from_residual-in_err-read_member.result (RefusesSteps g.M.ValueMaker.formats g.M.ValueMaker.values g.M.ValueMaker.leaf_in m c.args.progress.now.at c.args.left c.args.lists) _ (λ fault h good flat.
    first_refused g.M.ValueMaker.formats g.M.ValueMaker.values g.M.ValueMaker.leaf_in c.args.left m printed c.args.separator.now c.args.progress.now.at c.args.left fault begins (h good flat))
    (search rules)

pub read_list-returns-in_err-read_member-2-clause-refuses : goal.read_list-returns-in_err-read_member-2-clause-refuses
read_list-returns-in_err-read_member-2-clause-refuses g t c = λ printed.
    let m = steps_of c.args.member.now in
    let w = c.args.separator.now in
    let begins = subst (Begins (left c.args.progress.now.at) m) c.if-branch.true c.in_ok-begins_at.ensures in
    IfErr-weaker c.from_residual-in_err-read_member-2.result (RefusesSteps g.M.ValueMaker.formats g.M.ValueMaker.values g.M.ValueMaker.leaf_in m c.take_word.new.self.at c.args.left c.args.lists) _ (λ fault h good flat.
    next_refused g.M.ValueMaker.formats g.M.ValueMaker.values g.M.ValueMaker.leaf_in c.args.left (g.M.ValueMaker.shows c.loop-members.store) m printed w c.loop-members.members.items c.args.progress.now c.loop-members.progress c.take_word.new.self c.args.left fault good begins
    c.loop-members.invariant.0 (subst (TakesWord w c.loop-members.progress c.take_word.new.self) c.if-branch-2.true c.in_ok-take_word.ensures) (h good flat))
    (search rules)

pub read_step-returns-else-branch-clause-refuses : goal.read_step-returns-else-branch-clause-refuses
read_step-returns-else-branch-clause-refuses g t c = λ good flat.
    let old = c.args.progress.now in
    let new = c.take_word.new.self in
    let text = c.in-Literal.text.now in
    let missed = subst (λ (w : List ℕ). TakesWord w old new false) c.trim.ensures.trim (subst (TakesWord c.trim.result.now old new) c.if-branch.false c.in_ok-take_word-in-Literal.ensures) in
    none_said c.syntax.result c.args.left (HasTextOf g.M.ValueMaker.formats g.M.ValueMaker.values g.M.ValueMaker.leaf_in (step_of c.args.directive) (left old.at)) (IsDeepStep g.M.ValueMaker.formats g.M.ValueMaker.values g.M.ValueMaker.leaf_in (step_of c.args.directive) (left old.at)) c.syntax.ensures
    (subst (λ (s : Step). (most : ℕ) → HasTextOf g.M.ValueMaker.formats g.M.ValueMaker.values g.M.ValueMaker.leaf_in s (left old.at) most → ⊥) (sym (ap step_of c.in-Literal.is ∙ step_of-Literal c.in-Literal.text))
    (no_word g.M.ValueMaker.formats g.M.ValueMaker.values g.M.ValueMaker.leaf_in text (trim text) (left old.at) missed.1))

pub read_step-returns-else-lists-eq0-clause-refuses : goal.read_step-returns-else-lists-eq0-clause-refuses
read_step-returns-else-lists-eq0-clause-refuses g t c =
    let m = steps_of c.in-List.member.now in
    let w = c.trim-in-List.result.now in
    let is : step_of c.args.directive ≡ list_of m c.in-List.separator.now w =
    ap step_of c.in-List.is ∙ (step_of-List c.in-List.member c.in-List.separator ∙ ap (λ (x : List ℕ). list_of m c.in-List.separator.now x) (sym c.trim-in-List.ensures.trim)) in
    let deep : suc (c.args.lists - 1) ≡ c.args.lists = omega (arith, c.if-lists-eq0.false) in
    IfErr-weaker c.read_list.result (λ fault. RefusesStep g.M.ValueMaker.formats g.M.ValueMaker.values g.M.ValueMaker.leaf_in (list_of m c.in-List.separator.now w) c.args.progress.now.at c.args.left (suc (c.args.lists - 1)) fault) _ (λ fault h.
    subst (λ (s : Step). RefusesStep g.M.ValueMaker.formats g.M.ValueMaker.values g.M.ValueMaker.leaf_in s c.args.progress.now.at c.args.left c.args.lists fault) (sym is)
    (subst (λ (n : ℕ). RefusesStep g.M.ValueMaker.formats g.M.ValueMaker.values g.M.ValueMaker.leaf_in (list_of m c.in-List.separator.now w) c.args.progress.now.at c.args.left n fault) deep h))
    (c.read_list.ensures.refuses c.in-List.separator.now)

pub read_step-returns-else-lists-eq0-2-clause-refuses : goal.read_step-returns-else-lists-eq0-2-clause-refuses
read_step-returns-else-lists-eq0-2-clause-refuses g t c =
    let cs = choices_of c.in-Choice.alternatives.now in
    let is : step_of c.args.directive ≡ choice_of cs = ap step_of c.in-Choice.is ∙ step_of-Choice c.in-Choice.alternatives in
    let deep : suc (c.args.lists - 1) ≡ c.args.lists = omega (arith, c.if-lists-eq0-2.false) in
    IfErr-weaker c.read_choice.result (λ fault. RefusesStep g.M.ValueMaker.formats g.M.ValueMaker.values g.M.ValueMaker.leaf_in (choice_of cs) c.args.progress.now.at c.args.left (suc (c.args.lists - 1)) fault) _ (λ fault h.
    subst (λ (s : Step). RefusesStep g.M.ValueMaker.formats g.M.ValueMaker.values g.M.ValueMaker.leaf_in s c.args.progress.now.at c.args.left c.args.lists fault) (sym is)
    (subst (λ (n : ℕ). RefusesStep g.M.ValueMaker.formats g.M.ValueMaker.values g.M.ValueMaker.leaf_in (choice_of cs) c.args.progress.now.at c.args.left n fault) deep h))
    c.read_choice.ensures.refuses

pub read_steps-returns-in_err-read_step-clause-refuses : goal.read_steps-returns-in_err-read_step-clause-refuses
read_steps-returns-in_err-read_step-clause-refuses g t c =
    let format = c.args.format.now in
    let i = c.loop-directive.directive-index in
    let s = step_of c.directive-item.result in
    IfErr-weaker c.from_residual.result (RefusesStep g.M.ValueMaker.formats g.M.ValueMaker.values g.M.ValueMaker.leaf_in s c.loop-directive.progress.at c.args.left c.args.lists) _ (λ fault h good flat.
    steps_refused g.M.ValueMaker.formats g.M.ValueMaker.values g.M.ValueMaker.leaf_in c.args.left (g.M.ValueMaker.shows c.loop-directive.store) s (steps_of format) (steps_of (drop (i + 1) format)) c.args.progress.now c.loop-directive.progress c.args.left fault good
    (rw (steps_at format i c.directive-item.result (omega arith) c.directive-item.is) at c.loop-directive.invariant.0)
    (h good (flat_step format i c.args.lists c.directive-item.result (omega arith) c.directive-item.is flat)))
    (search rules)

pub read_value-returns-in_default-clause-refuses : goal.read_value-returns-in_default-clause-refuses
read_value-returns-in_default-clause-refuses g t c = λ lists good flat.
    none_said c.syntax.result c.args.left (HasTextOf g.M.ValueMaker.formats g.M.ValueMaker.values g.M.ValueMaker.leaf_in (a_value c.args.sort) (left c.args.progress.now.at)) (IsDeepStep g.M.ValueMaker.formats g.M.ValueMaker.values g.M.ValueMaker.leaf_in (a_value c.args.sort) (left c.args.progress.now.at)) c.syntax.ensures
    (no_value_token g.M.ValueMaker.formats g.M.ValueMaker.values g.M.ValueMaker.leaf_in c.args.sort (left c.args.progress.now.at) (rw c.in_default.is at c.in_ok-token.ensures))

pub read_value-returns-in_default-kind_named-clause-refuses : goal.read_value-returns-in_default-kind_named-clause-refuses
read_value-returns-in_default-kind_named-clause-refuses g t c = λ lists good flat.
    let lexeme = rw c.in-Some.is at c.in_ok-token.ensures in
    none_said c.syntax-in_default-kind_named.result c.args.left (HasTextOf g.M.ValueMaker.formats g.M.ValueMaker.values g.M.ValueMaker.leaf_in (a_value c.args.sort) (left c.args.progress.now.at)) (IsDeepStep g.M.ValueMaker.formats g.M.ValueMaker.values g.M.ValueMaker.leaf_in (a_value c.args.sort) (left c.args.progress.now.at)) c.syntax-in_default-kind_named.ensures
    (no_value_kind g.M.ValueMaker.formats g.M.ValueMaker.values g.M.ValueMaker.leaf_in c.args.sort c.args.progress.now.at c.in-Some.token lexeme (c.in_default-kind_named.ensures.absent refl good.few))

pub read_value-returns-in_err-read_steps-clause-refuses : goal.read_value-returns-in_err-read_steps-clause-refuses
read_value-returns-in_err-read_steps-clause-refuses g t c = λ lists.
    let lexeme = rw c.in-Some.is at c.in_ok-token.ensures in
    let named = c.in-Some-kind_named.ensures.found in
    let format = steps_of c.in-Some-kind_named.format.now in
    IfErr-weaker c.from_residual-in_err-read_steps.result (RefusesSteps g.M.ValueMaker.formats g.M.ValueMaker.values g.M.ValueMaker.leaf_in format c.new-inner.result.at (c.args.left - 1) 64) _ (λ fault h good flat.
    inside_refused g.M.ValueMaker.formats g.M.ValueMaker.values g.M.ValueMaker.leaf_in (c.args.left - 1) c.args.left (omega (arith, c.if-left-eq0.false)) c.args.sort format c.in-Some-kind_named.number c.args.progress.now.at c.new-inner.result.at c.in-Some.token fault good
    (record { lexeme = lexeme; class = named.dotted_name }) named c.new-inner.ensures.at h)
    (search rules)

pub read_value-returns-in-Err-clause-refuses : goal.read_value-returns-in-Err-clause-refuses
read_value-returns-in-Err-clause-refuses g t c = λ lists good flat.
    let lexeme = rw c.in-Some.is at c.in_ok-token.ensures in
    let named = c.in-Some-kind_named.ensures.found in
    none_made c.in-Err.refusal c.refused.result c.args.left (HasTextOf g.M.ValueMaker.formats g.M.ValueMaker.values g.M.ValueMaker.leaf_in (a_value c.args.sort) (left c.args.progress.now.at)) (IsDeepStep g.M.ValueMaker.formats g.M.ValueMaker.values g.M.ValueMaker.leaf_in (a_value c.args.sort) (left c.args.progress.now.at)) c.refused.ensures (λ i e.
    made_refused g.M.ValueMaker.formats g.M.ValueMaker.values g.M.ValueMaker.leaf_in (c.args.left - 1) (g.M.ValueMaker.shows c.read_steps.new.store) c.args.sort (steps_of c.in-Some-kind_named.format.now) c.in-Some-kind_named.number c.args.progress.now.at c.new-inner.result c.read_steps.new.progress
    c.in-Some.token i good (record { lexeme = lexeme; class = named.dotted_name }) named c.new-inner.ensures.parts c.new-inner.ensures.at c.in_ok-read_steps.ensures.took
    (λ ts shown. c.in-Err.ensures.refused ts i (rw c.deref.ensures.value shown) (ap Err e)))

pub read_value-returns-then-left-eq0-clause-refuses : goal.read_value-returns-then-left-eq0-clause-refuses
read_value-returns-then-left-eq0-clause-refuses g t c = λ lists good flat.
    let lexeme = rw c.in-Some.is at c.in_ok-token.ensures in
    let named = c.in-Some-kind_named.ensures.found in
    too_deep g.M.ValueMaker.formats g.M.ValueMaker.values g.M.ValueMaker.leaf_in c.args.left c.args.sort (steps_of c.in-Some-kind_named.format.now) c.in-Some-kind_named.number c.args.progress.now.at c.in-Some.token.start c.in-Some.token (omega (arith, c.if-left-eq0.true))
    (record { lexeme = lexeme; class = named.dotted_name }) named
