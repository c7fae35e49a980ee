use Rattle.std.proofs.Common.{ℕ, Bool, List, sym, ap, subst}
use Rattle.ir_entities.specs.Uses.{Uses, AreNamingPlaces}
use Rattle.ir_program.specs.Program.{Program}
use Rattle.ir_program.specs.Replacing.{MayAnswerOfUse}
use Rattle.ir_program.specs.Spots.{operand_use}
use Rattle.ir_program.specs.declared.handles.Use.{Use}
use Rattle.ir_program.specs.declared.handles.Value.{Value}
use Rattle.ir_program.proofs.used.Choices.{IsChoosing, choosing-none, choosing-all, choosing-left, choosing-taken, choosing-next}
use Rattle.ir_program.proofs.used.NamedUses.{named-place}
use Rattle.ir_program.proofs.program.Program.choose_operands.Goals as goal

pub loop-place-preserved-in-Continue-1 : goal.loop-place-preserved-in-Continue-1
loop-place-preserved-in-Continue-1 g c =
    let answers : ℕ → Bool → Type 0 = λ q. MayAnswerOfUse {F = g.row.F.Denot} {P = Program g.row.O.Denot g.row.B.Denot} {U = Use Value} g.F.Fn c.args.predicate.now c.args.self.now (operand_use c.args.self.now q) in
    let so_far = subst (λ (rest : List ℕ). IsChoosing {K = Value} c.args.self.now.values c.args.thread answers rest c.loop-place.chosen.items) c.in-Some.ensures.steps c.loop-place.invariant.2 in (
      tt,
      tt,
      subst (λ (chosen : List ℕ). IsChoosing {K = Value} c.args.self.now.values c.args.thread answers c.next.new.self chosen) (sym c.in_ok-push.ensures.items)
          (choosing-taken c.args.self.now.values c.args.thread answers c.in-Some.place c.next.new.self c.loop-place.chosen.items so_far
          (subst (answers c.in-Some.place) c.if-chooses_operand.true c.chooses_operand.ensures)),
    )

pub loop-place-init : goal.loop-place-init
loop-place-init g c =
    let answers : ℕ → Bool → Type 0 = λ q. MayAnswerOfUse {F = g.row.F.Denot} {P = Program g.row.O.Denot g.row.B.Denot} {U = Use Value} g.F.Fn c.args.predicate.now c.args.self.now (operand_use c.args.self.now q) in
    let uses = subst (λ (u : Uses (Value)). AreNamingPlaces u c.args.thread c.iter-place-items.result) (ap (λ (p : Program g.row.O.Denot g.row.B.Denot). p.values) c.self.view_is) c.iter-place-items.ensures.uses in
    rw (c.into_iter-place-iterator.ensures.into_iter_gives, c.new-chosen.ensures.items) (tt, tt, choosing-none c.args.self.now.values c.args.thread answers c.iter-place-items.result uses)

pub loop-place-preserved : goal.loop-place-preserved
loop-place-preserved g c =
    let answers : ℕ → Bool → Type 0 = λ q. MayAnswerOfUse {F = g.row.F.Denot} {P = Program g.row.O.Denot g.row.B.Denot} {U = Use Value} g.F.Fn c.args.predicate.now c.args.self.now (operand_use c.args.self.now q) in
    let so_far = subst (λ (rest : List ℕ). IsChoosing {K = Value} c.args.self.now.values c.args.thread answers rest c.loop-place.chosen.items) c.in-Some.ensures.steps c.loop-place.invariant.2 in (
      tt,
      tt,
      choosing-left c.args.self.now.values c.args.thread answers c.in-Some.place c.next.new.self c.loop-place.chosen.items so_far (subst (answers c.in-Some.place) c.if-chooses_operand.false c.chooses_operand.ensures),
    )

pub chooses_operand-requires : goal.chooses_operand-requires
chooses_operand-requires g c =
    let answers : ℕ → Bool → Type 0 = λ q. MayAnswerOfUse {F = g.row.F.Denot} {P = Program g.row.O.Denot g.row.B.Denot} {U = Use Value} g.F.Fn c.args.predicate.now c.args.self.now (operand_use c.args.self.now q) in
    let so_far = subst (λ (rest : List ℕ). IsChoosing {K = Value} c.args.self.now.values c.args.thread answers rest c.loop-place.chosen.items) c.in-Some.ensures.steps c.loop-place.invariant.2 in record {
      place = named-place c.args.self.now.values c.in-Some.place c.args.thread (choosing-next c.args.self.now.values c.args.thread answers c.in-Some.place c.next.new.self c.loop-place.chosen.items so_far);
      callable = c.requires.callable;
    }

pub returns : goal.returns
returns g c =
    let answers : ℕ → Bool → Type 0 = λ q. MayAnswerOfUse {F = g.row.F.Denot} {P = Program g.row.O.Denot g.row.B.Denot} {U = Use Value} g.F.Fn c.args.predicate.now c.args.self.now (operand_use c.args.self.now q) in
    record {
      among = c.loop-place.invariant.2.among;
      answered = choosing-all c.args.self.now.values c.args.thread answers c.loop-place.place-iterator c.loop-place.chosen.items c.in-None.ensures.steps.0 c.loop-place.invariant.2;
    }
