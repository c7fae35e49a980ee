-- The blocks of the operations that have a block as a successor, use by use.
use Rattle.std.proofs.Common.{◌≡◌, ⊎_elim, ℕ, ◌<◌, ◌+◌, List, [], ◌∷◌, ◌++◌, length, Option, Some, None, IsSome, option_map, unwrap_or, slice_get, refl, sym, ap, ◌∙◌, subst, arith}
use Rattle.std.proofs.lemmas.List.{length-append}
use Rattle.std.proofs.lemmas.Option.{slice_get_within}
use Rattle.ir_program.specs.Program.{Program, OperationView, operation_at}
use Rattle.ir_program.specs.Lists.{StandsInBlock}
use Rattle.ir_program.specs.Uses.{IsBlockUse}
use Rattle.ir_program.specs.declared.handles.Ptr.{Ptr}
use Rattle.ir_program.specs.declared.handles.BasicBlock.{BasicBlock}
use Rattle.ir_program.specs.declared.handles.Use.{Use}
use Rattle.ir_queries.specs.Predecessors.{AreUserBlocks}
use Rattle.ir_queries.proofs.Partway.{get-last, get-within}

module _ {O B : Type 0} (c : Program O B) where
  -- the operation of a use that stands is there
  pub user_live : (u : Use (Ptr BasicBlock)) → IsBlockUse c u → IsSome (operation_at c u.user_op)
  user_live u given = by (operation_at c u.user_op) given
    where
      by : (o : Option (OperationView O)) → slice_get (unwrap_or (option_map (λ (v : OperationView O). v.successors) o) []) u.index ≡ Some u.def → IsSome o
      by None e = cc
      by (Some v) e = refl

  -- one use more, and its block
  pub next_user : (us : List (Use (Ptr BasicBlock))) (bs : List (Ptr BasicBlock)) (u : Use (Ptr BasicBlock)) (b : Ptr BasicBlock) → AreUserBlocks c us bs → StandsInBlock c u.user_op b → AreUserBlocks c (us ++ u ∷ []) (bs ++ b ∷ [])
  next_user us bs u b so_far here = record {
    count = length-append bs (b ∷ []) ∙ ap (λ n. n + 1) so_far.count ∙ sym (length-append us (u ∷ []));
    stand = λ i v d e f. ⊎_elim
        (λ (old : slice_get us i ≡ Some v). ⊎_elim
        (λ (its : slice_get bs i ≡ Some d). so_far.stand i v d old its)
        (λ (last : (i ≡ length bs) × (d ≡ b)). let within : i < length us = slice_get_within us i v old in absurd (omega (arith, so_far.count, last.0)))
        (get-last bs b i d f))
        (λ (new : (i ≡ length us) × (v ≡ u)). ⊎_elim
        (λ (its : slice_get bs i ≡ Some d). let within : i < length bs = slice_get_within bs i d its in absurd (omega (arith, so_far.count, new.0)))
        (λ (last : (i ≡ length bs) × (d ≡ b)). subst (λ x. StandsInBlock c x.user_op d) (sym new.1) (subst (StandsInBlock c u.user_op) (sym last.1) here))
        (get-last bs b i d f))
        (get-last us u i v e);
  }

  -- one use more that is of no operation of `from`
  pub none_next : (from : Ptr BasicBlock) (us : List (Use (Ptr BasicBlock))) (u : Use (Ptr BasicBlock)) → ((k : ℕ) (v : Use (Ptr BasicBlock)) → slice_get us k ≡ Some v → StandsInBlock c v.user_op from → ⊥) → (StandsInBlock c u.user_op from → ⊥)
      → (k : ℕ) (v : Use (Ptr BasicBlock)) → slice_get (us ++ u ∷ []) k ≡ Some v → StandsInBlock c v.user_op from → ⊥
  none_next from us u so_far not k v e stands = ⊎_elim
      (λ (old : slice_get us k ≡ Some v). so_far k v old stands)
      (λ (new : (k ≡ length us) × (v ≡ u)). not (subst (λ x. StandsInBlock c x.user_op from) new.1 stands))
      (get-last us u k v e)

  -- the only block in which the operation of a use stands is at the index of the use
  pub block-at : (us : List (Use (Ptr BasicBlock))) (bs : List (Ptr BasicBlock)) (i : ℕ) (u : Use (Ptr BasicBlock)) (b : Ptr BasicBlock) → slice_get us i ≡ Some u → ((d : Ptr BasicBlock) → StandsInBlock c u.user_op d → d ≡ b) → AreUserBlocks c us bs → slice_get bs i ≡ Some b
  block-at us bs i u b at only are =
      let within : i < length us = slice_get_within us i u at in
      let less : i < length bs = omega (arith, are.count) in
      let there = get-within bs i less in
      there.1 ∙ ap Some (only there.0 (are.stand i u there.0 at there.1))
