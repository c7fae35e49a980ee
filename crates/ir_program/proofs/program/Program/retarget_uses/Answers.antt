use Rattle.std.proofs.Common.{List, [], IsSome, refl, sym, ◌∙◌, subst, take, get_or}
use Rattle.std.proofs.lemmas.Option.{slice_get-get_or}
use Rattle.ir_program.specs.Program.{OperationView, no_handle}
use Rattle.ir_program.specs.Edits.{EditsOperations}
use Rattle.ir_program.specs.Replacing.{with_chosen}
use Rattle.ir_program.specs.Among.{is_among}
use Rattle.ir_program.specs.declared.handles.Use.{Use}
use Rattle.ir_program.specs.declared.handles.Ptr.{Ptr}
use Rattle.ir_program.specs.declared.handles.BasicBlock.{BasicBlock}
use Rattle.ir_program.proofs.made.AddSteps.{take-next}
use Rattle.ir_program.proofs.used.ReplacedUses.{edits-none, edits-within, edits-next}
use Rattle.ir_program.proofs.program.Program.retarget_uses.Goals as goal

-- what a list of uses has past its end
abbrev none : Use (Ptr BasicBlock)
none = record { user_op = no_handle; index = 0; def = no_handle }

pub loop-place-init : goal.loop-place-init
loop-place-init g c = record {
  edited = edits-none (λ (o : OperationView _). o.successors) (λ o xs. record o { successors = xs }) (λ o xs. refl) (λ o xs ys. refl) (λ o. refl) c.args.other c.args.self.now (is_among []) (λ u. refl);
  types = λ v. refl;
  counter = refl;
}

pub replace_successor-requires-clause-within : goal.replace_successor-requires-clause-within
replace_successor-requires-clause-within g c =
    edits-within (λ (o : OperationView _). o.successors) (λ o xs. record o { successors = xs }) (λ o xs. refl) (λ o xs ys. refl) (λ o. refl) c.args.other c.args.self.now c.loop-place.self (is_among (take c.loop-place.place-index c.args.places.now))
    (get_or c.args.places.now c.loop-place.place-index none)
    (c.requires.places c.loop-place.place-index _ (slice_get-get_or c.args.places.now c.loop-place.place-index none c.loop-place-test.true)) c.loop-place.invariant.edited

pub replace_successor-requires-clause-block : goal.replace_successor-requires-clause-block
replace_successor-requires-clause-block g c = subst IsSome (sym (c.loop-place.invariant.edited.blocks c.args.other)) c.requires.other

pub loop-place-preserved : goal.loop-place-preserved
loop-place-preserved g c =
    let place = get_or c.args.places.now c.loop-place.place-index none in
    let here = slice_get-get_or c.args.places.now c.loop-place.place-index none c.loop-place-test.true in
    record {
      edited = subst (λ (us : List (Use (Ptr BasicBlock))). EditsOperations c.args.self.now c.replace_successor.new.self (λ p o. record o { successors = with_chosen (is_among us) c.args.other p 0 o.successors }))
          (take-next c.args.places.now c.loop-place.place-index place here)
          (edits-next (λ (o : OperationView _). o.successors) (λ o xs. record o { successors = xs }) (λ o xs. refl) (λ o xs ys. refl) (λ o. refl) c.args.other c.args.self.now c.loop-place.self c.replace_successor.new.self
          (take c.loop-place.place-index c.args.places.now) place (c.requires.places c.loop-place.place-index place here) c.loop-place.invariant.edited c.replace_successor.ensures.replaced);
      types = λ v. c.replace_successor.ensures.values.types v ∙ c.loop-place.invariant.types v;
      counter = c.replace_successor.ensures.values.counter ∙ c.loop-place.invariant.counter;
    }
