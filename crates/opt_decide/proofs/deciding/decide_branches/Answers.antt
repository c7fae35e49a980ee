use Rattle.std.proofs.Common.{IsSome, refl, sym, ◌∙◌, subst}
use Rattle.std.proofs.lemmas.Bool.{eqb-true}
use Rattle.ir_program.specs.Program.{operation_at}
use Rattle.ir_program.proofs.made.Frames.{on_err}
use Rattle.opt_inside.proofs.Around.{HasLists}
use Rattle.opt_decide.specs.Phase.{HasDecided, HasDecidedSome}
use Rattle.opt_decide.specs.Planned.{AreDecisions}
use Rattle.opt_decide.proofs.Carried.{none_decided, empty_list, no_empty}
use Rattle.opt_decide.proofs.Ground.{Ground, nothing_done, part_done, branches_decided, edges_local, edges_fit, exact_none, exact_some}
use Rattle.opt_handles.proofs.Handles.{handles_same}
use Rattle.opt_decide.proofs.HandlesDecided.{all_handles, part_handles}
use Rattle.opt_decide.proofs.TreesDecided.{nothing_carried, all_carried}
use Rattle.opt_decide.proofs.deciding.decide_branches.Goals as goal

pub returns-in_err-decisions-clause-part : goal.returns-in_err-decisions-clause-part
returns-in_err-decisions-clause-part g c = on_err c.from_residual.result (nothing_done g.D.Meanings.meaning c.args.ctx.now.program c.args.ctx.now.program c.args.op)

pub returns-in_err-decisions-clause-handles : goal.returns-in_err-decisions-clause-handles
returns-in_err-decisions-clause-handles g c = handles_same c.args.ctx.now.program c.args.op

pub returns-in_err-carry_out-clause-handles : goal.returns-in_err-carry_out-clause-handles
returns-in_err-carry_out-clause-handles g c =
    let d = g.D.Meanings.meaning in
    let p = c.args.ctx.now.program in
    part_handles d p c.carry_out.new.ctx.program c.args.op (part_done d p c.carry_out.new.ctx.program c.args.op c.in_ok-decisions.decisions.items
    (subst (λ z. AreDecisions d z c.args.op c.in_ok-decisions.decisions.items) c.program-program.ensures c.in_ok-decisions.ensures)
    (subst (HasDecidedSome d p c.carry_out.new.ctx.program) c.deref.ensures.value c.in_err-carry_out.ensures.part))

pub returns-then-is_empty : goal.returns-then-is_empty
returns-then-is_empty g c =
    let d = g.D.Meanings.meaning in
    let op = c.args.op in
    let p = c.args.ctx.now.program in
    let ds = c.in_ok-decisions.decisions.items in
    let known : HasLists c.program-program.result.now = assumption c.know_lists.ensures in
    let ground : Ground d p op = subst (λ z. Ground d z op) c.program-program.ensures (record {
      law = g.met.D.OptDialect.lawful;
      root = subst (λ z. IsSome (operation_at z op)) (sym c.program-program.ensures) c.requires.live;
      lists = known;
      values = record { definer = c.know_values.ensures.definer; typed = c.know_values.ensures.typed; stands = c.know_values.ensures.stands; live = c.know_operands.ensures };
      told = c.know_taken.ensures;
      tree = c.know_tree.ensures;
      sound = c.know_occurrences.ensures.sound;
      found = c.know_occurrences.ensures.found;
    }) in
    let are : AreDecisions d p op ds = subst (λ z. AreDecisions d z op ds) c.program-program.ensures c.in_ok-decisions.ensures in
    let empty = empty_list ds (sym c.in_ok-decisions.decisions.ok.0 ∙ eqb-true _ _ (sym c.is_empty.ensures ∙ c.if-is_empty.true)) in
    let has : HasDecided d p p ds = subst (HasDecided d p p) (sym empty) (none_decided d p) in
    record {
      decided = branches_decided d p p op ground ds are has;
      exact = exact_none d p p op ground ds are empty;
      part = record {};
      local = λ h. h;
      fits = λ h. h;
      carried = nothing_carried d p op ds ground.lists are empty;
      unchanged = λ e. refl;
      error = record {};
      handles = handles_same p op;
      types = refl;
      numbers = refl;
    }

pub carry_out-requires : goal.carry_out-requires
carry_out-requires g c =
    subst (AreDecisions g.D.Meanings.meaning c.args.ctx.now.program c.args.op) (sym c.deref.ensures.value)
    (subst (λ p. AreDecisions g.D.Meanings.meaning p c.args.op c.in_ok-decisions.decisions.items) c.program-program.ensures c.in_ok-decisions.ensures)

pub returns-in_err-carry_out-clause-part : goal.returns-in_err-carry_out-clause-part
returns-in_err-carry_out-clause-part g c =
    let d = g.D.Meanings.meaning in
    let p = c.args.ctx.now.program in
    on_err c.from_residual-in_err-carry_out.result (part_done d p c.carry_out.new.ctx.program c.args.op c.in_ok-decisions.decisions.items
    (subst (λ z. AreDecisions d z c.args.op c.in_ok-decisions.decisions.items) c.program-program.ensures c.in_ok-decisions.ensures)
    (subst (HasDecidedSome d p c.carry_out.new.ctx.program) c.deref.ensures.value c.in_err-carry_out.ensures.part))

pub returns : goal.returns
returns g c =
    let d = g.D.Meanings.meaning in
    let op = c.args.op in
    let p = c.args.ctx.now.program in
    let q = c.carry_out.new.ctx.program in
    let ds = c.in_ok-decisions.decisions.items in
    let known : HasLists c.program-program.result.now = assumption c.know_lists.ensures in
    let ground : Ground d p op = subst (λ z. Ground d z op) c.program-program.ensures (record {
      law = g.met.D.OptDialect.lawful;
      root = subst (λ z. IsSome (operation_at z op)) (sym c.program-program.ensures) c.requires.live;
      lists = known;
      values = record { definer = c.know_values.ensures.definer; typed = c.know_values.ensures.typed; stands = c.know_values.ensures.stands; live = c.know_operands.ensures };
      told = c.know_taken.ensures;
      tree = c.know_tree.ensures;
      sound = c.know_occurrences.ensures.sound;
      found = c.know_occurrences.ensures.found;
    }) in
    let are : AreDecisions d p op ds = subst (λ z. AreDecisions d z op ds) c.program-program.ensures c.in_ok-decisions.ensures in
    let some = no_empty ds _ c.in_ok-decisions.decisions.ok.0 (sym c.is_empty.ensures ∙ c.if-is_empty.false) in
    let has : HasDecided d p q ds = subst (HasDecided d p q) c.deref.ensures.value c.in_ok-carry_out.ensures.done in
    record {
      decided = branches_decided d p q op ground ds are has;
      exact = exact_some d p q op ground ds are some;
      part = record {};
      local = edges_local d p q op ground ds are has;
      fits = edges_fit d p q op ground ds are has;
      carried = all_carried d p q op ds ground.lists are some has;
      unchanged = λ e. absurd (cc);
      error = record {};
      handles = all_handles d p q op ds are has;
      types = c.carry_out.ensures.types;
      numbers = c.carry_out.ensures.numbers;
    }
