use Rattle.std.proofs.Common.{List, [], IsSome, refl, sym, ◌∙◌, subst, take, get_or}
use Rattle.std.proofs.lemmas.Option.{slice_get-get_or}
use Rattle.ir_program.specs.Program.{OperationView, no_handle}
use Rattle.ir_program.specs.Edits.{EditsOperations}
use Rattle.ir_program.specs.Replacing.{with_chosen}
use Rattle.ir_program.specs.Among.{is_among}
use Rattle.ir_program.specs.declared.handles.Use.{Use}
use Rattle.ir_program.specs.declared.handles.Value.{Value}
use Rattle.ir_program.specs.declared.handles.DefiningEntity.TheVariants.{Op as ByOp}
use Rattle.ir_program.proofs.made.AddSteps.{take-next}
use Rattle.ir_program.proofs.used.ReplacedUses.{edits-none, edits-within, edits-next}
use Rattle.ir_program.proofs.program.Program.replace_uses.Goals as goal

-- what a list of uses has past its end
abbrev none : Use Value
none = record { user_op = no_handle; index = 0; def = record { definer = ByOp no_handle; number = 0 } }

pub loop-place-init : goal.loop-place-init
loop-place-init g c = record {
  edited = edits-none (λ (o : OperationView _). o.operands) (λ o xs. record o { operands = xs }) (λ o xs. refl) (λ o xs ys. refl) (λ o. refl) c.args.other c.args.self.now (is_among []) (λ u. refl);
  types = λ v. refl;
  counter = refl;
}

pub replace_operand-requires-clause-within : goal.replace_operand-requires-clause-within
replace_operand-requires-clause-within g c =
    edits-within (λ (o : OperationView _). o.operands) (λ o xs. record o { operands = xs }) (λ o xs. refl) (λ o xs ys. refl) (λ o. refl) c.args.other c.args.self.now c.loop-place.self (is_among (take c.loop-place.place-index c.args.places.now))
    (get_or c.args.places.now c.loop-place.place-index none)
    (c.requires.places c.loop-place.place-index _ (slice_get-get_or c.args.places.now c.loop-place.place-index none c.loop-place-test.true)) c.loop-place.invariant.edited

pub replace_operand-requires-clause-value : goal.replace_operand-requires-clause-value
replace_operand-requires-clause-value g c = subst IsSome (sym (c.loop-place.invariant.types c.args.other)) c.requires.other

pub loop-place-preserved : goal.loop-place-preserved
loop-place-preserved g c =
    let place = get_or c.args.places.now c.loop-place.place-index none in
    let here = slice_get-get_or c.args.places.now c.loop-place.place-index none c.loop-place-test.true in
    record {
      edited = subst (λ (us : List (Use Value)). EditsOperations c.args.self.now c.replace_operand.new.self (λ p o. record o { operands = with_chosen (is_among us) c.args.other p 0 o.operands }))
          (take-next c.args.places.now c.loop-place.place-index place here)
          (edits-next (λ (o : OperationView _). o.operands) (λ o xs. record o { operands = xs }) (λ o xs. refl) (λ o xs ys. refl) (λ o. refl) c.args.other c.args.self.now c.loop-place.self c.replace_operand.new.self
          (take c.loop-place.place-index c.args.places.now) place (c.requires.places c.loop-place.place-index place here) c.loop-place.invariant.edited c.replace_operand.ensures.replaced);
      types = λ v. c.replace_operand.ensures.values.types v ∙ c.loop-place.invariant.types v;
      counter = c.replace_operand.ensures.values.counter ∙ c.loop-place.invariant.counter;
    }
