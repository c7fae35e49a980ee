-- From phase to phase: the root is there, and is where looking begins; where nothing is done, and where it stops.
use Rattle.std.proofs.Common.{◌≡◌, ◌↔◌, ◌⊎◌, ⊎_elim, [], ◌∷◌, Result, Ok, Err, IfErr, IsSome, refl, sym, subst, ap, ◌∙◌}
use Rattle.std.specs.Prelude.{IsErrAnd}
use Rattle.ir_program.specs.Program.{Program, operation_at}
use Rattle.ir_program.specs.declared.handles.Ptr.{Ptr}
use Rattle.ir_program.specs.declared.handles.Operation.{Operation}
use Rattle.ir_trees.specs.Stands.{by_handle, in_program, ProgramHead, ProgramTree, StandsFor}
use Rattle.opt_trees.specs.Dialect.{Dialect}
use Rattle.opt_trees.specs.Simplify.{StartingRegions, OfOperations, all_of}
use Rattle.opt_dialect.specs.Statuses.{either}
use Rattle.opt_dialect.specs.declared.status.IRStatus.{IRStatus}
use Rattle.opt_dialect.specs.declared.status.IRStatus.TheVariants.{Unchanged, Changed}
use Rattle.opt_dialect.specs.declared.status.OptError.{OptError}
use Rattle.opt_dialect.specs.declared.status.OptError.TheVariants.{LiveUse, Memory}
use Rattle.opt_inside.specs.reach.Starts.{IsStartIn}
use Rattle.opt_inside.specs.declared.reach.starts.Start.TheVariants.{Operation as AtOperation}
use Rattle.opt_decide.specs.Phase.{HasNoneDecided}
use Rattle.opt_simplify.specs.Refusals.{HasNoneUnreached, LosesUses}
use Rattle.ir_opts.specs.joining.Answers.{HasCircle, HasNoneJoinable}
use Rattle.ir_opts.specs.Simplified.{Decides, HasNothingToDo, Removes, StopsAt, while_removing, loses_uses, while_joining, comes_back}

module _ {O B : Type 0} (c : Program O B) (op : Ptr Operation) (t : ProgramTree O B) (stands : StandsFor c op t) where
  pub is_there : IsSome (operation_at c op)
  is_there = subst (λ o. IsSome o) (sym stands.there) refl

  -- all regions of the root of its tree are visited first where looking begins at the operation
  pub begins : IsStartIn c (AtOperation op) (all_of t)
  begins = let place : ProgramHead O B → StartingRegions by_handle = λ h. OfOperations (h.name ∷ []) in ap place stands.head

both_unchanged : (a b : IRStatus) → either a b ≡ Unchanged → (a ≡ Unchanged) × (b ≡ Unchanged)
both_unchanged Unchanged b e = (refl, e)
both_unchanged Changed b e = cc

unchanged_together : (a b : IRStatus) → a ≡ Unchanged → b ≡ Unchanged → either a b ≡ Unchanged
unchanged_together Unchanged b p q = q
unchanged_together Changed b p q = cc

-- the status is `Unchanged` where that of each phase is, and then no phase changed what the next one saw
module _ {O B A : Type 0} (d : Dialect (in_program O B) A) (old decided cut : Program O B) (op : Ptr Operation) where
  pub nothing_done : (a b c status : IRStatus)
      → (a ≡ Unchanged) ↔ HasNoneDecided d old op → (a ≡ Unchanged → decided ≡ old)
      → (b ≡ Unchanged) ↔ HasNoneUnreached d decided op (AtOperation op) → (b ≡ Unchanged → cut ≡ decided)
      → (c ≡ Unchanged) ↔ HasNoneJoinable d cut op (AtOperation op)
      → status ≡ either (either a b) c
      → (status ≡ Unchanged) ↔ HasNothingToDo d old op
  nothing_done a b c status first same second alike third is = (
    λ e. let all = both_unchanged (either a b) c (sym is ∙ e) in
        let two = both_unchanged a b all.0 in
        record {
          none_decided = first.0 two.0;
          none_unreached = subst (λ z. HasNoneUnreached d z op (AtOperation op)) (same two.0) (second.0 two.1);
          none_joinable =
              subst (λ z. HasNoneJoinable d z op (AtOperation op)) (alike two.1 ∙ same two.0) (third.0 all.1);
        },
    λ none. let p = first.1 none.none_decided in
        let q = second.1 (subst (λ z. HasNoneUnreached d z op (AtOperation op)) (sym (same p)) none.none_unreached) in
        let r = third.1 (subst (λ z. HasNoneJoinable d z op (AtOperation op)) (sym (alike q ∙ same p)) none.none_joinable) in
        is ∙ unchanged_together (either a b) c (unchanged_together a b p q) r,
  )

-- what holds of the error that a call gave holds of the one that is handed on
handed_on : {X : Type 0} (r : Result X OptError) (e : OptError) (P : OptError → Type 0) → IsErrAnd r (λ x. x ≡ e) → P e
    → IfErr r P
handed_on (Ok x) e P is h = absurd is
handed_on (Err x) e P is h = subst P (sym is) h

module _ {X O B A : Type 0} (d : Dialect (in_program O B) A) (old decided : Program O B) (op : Ptr Operation)
    (decides : Decides d old decided op) (r : Result X OptError) (e : OptError) (is : IsErrAnd r (λ x. x ≡ e)) where
  -- an error in the second phase, which changed nothing
  pub removing_stops : {new : Program O B} → new ≡ decided
      → (e ≡ Memory) ⊎ ((e ≡ LiveUse) × LosesUses d decided op (AtOperation op)) → IfErr r (StopsAt d old new op)
  removing_stops {new} kept why = handed_on r e (StopsAt d old new op) is
      (subst (λ p. StopsAt d old p op e) (sym kept)
      (⊎_elim
      (λ (short : e ≡ Memory). while_removing short decides)
      (λ (lost : (e ≡ LiveUse) × LosesUses d decided op (AtOperation op)). loses_uses lost.0 decides lost.1)
      why))

  -- an error in the third phase, which changed nothing
  pub joining_stops : (cut : Program O B) → Removes d decided cut op → {new : Program O B} → new ≡ cut
      → (e ≡ Memory) ⊎ ((e ≡ LiveUse) × HasCircle d cut op (AtOperation op)) → IfErr r (StopsAt d old new op)
  joining_stops cut removes {new} kept why = handed_on r e (StopsAt d old new op) is
      (subst (λ p. StopsAt d old p op e) (sym kept)
      (⊎_elim
      (λ (short : e ≡ Memory). while_joining short decided decides removes)
      (λ (back : (e ≡ LiveUse) × HasCircle d cut op (AtOperation op)).
      comes_back back.0 decided decides removes back.1)
      why))
