-- What the last operation of a block tells of how the block goes on.
use Rattle.std.proofs.Common.{◌≡◌, suc, ◌-◌, true, List, [], ◌∷◌, ◌++◌, length, Some, IsSome, option_map, unwrap_or, slice_get, refl, sym, ap, ◌∙◌, arith}
use Rattle.std.proofs.lemmas.List.{length-append}
use Rattle.ir_program.specs.Lists.{operations_in}
use Rattle.ir_program.specs.Program.{Program, OperationView, operation_at}
use Rattle.ir_program.specs.Rows.{successors_at}
use Rattle.ir_program.specs.declared.handles.Ptr.{Ptr}
use Rattle.ir_program.specs.declared.handles.Operation.{Operation}
use Rattle.ir_program.specs.declared.handles.BasicBlock.{BasicBlock}
use Rattle.ir_trees.specs.Stands.{in_program}
use Rattle.opt_trees.specs.Dialect.{Dialect}
use Rattle.opt_chains.specs.Exits.{IsBareExit}
use Rattle.opt_chains.specs.Merging.{front}
use Rattle.opt_chains.proofs.MergeLists.{none_listed, something}

module _ {X : Type 0} where
  -- a list with a last is its front and that
  pub with_last : (xs : List X) (x : X) → slice_get xs (length xs - 1) ≡ Some x → xs ≡ front xs ++ x ∷ []
  with_last [] x h = absurd (none_listed (length {A = X} [] - 1) x h)
  with_last (y ∷ []) x h = let e : Some y ≡ Some x = h in let s : y ≡ x = cc in ap (λ z. z ∷ []) s
  with_last (y ∷ (z ∷ zs)) x h =
      let n : length (y ∷ (z ∷ zs)) - 1 ≡ suc (length (z ∷ zs) - 1) = omega arith in
      let g : slice_get (y ∷ (z ∷ zs)) (suc (length (z ∷ zs) - 1)) ≡ Some x = ap (slice_get (y ∷ (z ∷ zs))) (sym n) ∙ h in
      ap (λ l. y ∷ l) (with_last (z ∷ zs) x g)

  pub last_is : (xs us : List X) (x : X) → xs ≡ us ++ x ∷ [] → slice_get xs (length xs - 1) ≡ Some x
  last_is xs us x e =
      let n : length (us ++ x ∷ []) - 1 ≡ length us = omega (arith, length-append us (x ∷ [])) in
      ap (λ l. slice_get l (length l - 1)) e ∙ ap (slice_get (us ++ x ∷ [])) n ∙ at_end us x where
        at_end : (vs : List X) (y : X) → slice_get (vs ++ y ∷ []) (length vs) ≡ Some y
        at_end [] y = refl
        at_end (v ∷ vs) y = at_end vs y

  pub no_length : (xs : List X) → length xs ≡ 0 → xs ≡ []
  no_length [] e = refl
  no_length (x ∷ xs) e = absurd (omega arith)

  pub one_length : (xs : List X) (x : X) → length xs ≡ 1 → slice_get xs 0 ≡ Some x → xs ≡ x ∷ []
  one_length [] x n h = absurd (none_listed 0 x h)
  one_length (y ∷ []) x n h = let e : Some y ≡ Some x = h in let s : y ≡ x = cc in ap (λ z. z ∷ []) s
  one_length (y ∷ (z ∷ zs)) x n h = absurd (omega arith)

module _ {O B A : Type 0} (d : Dialect (in_program O B) A) (c : Program O B) where
  pub bare_exit_is : (b : Ptr BasicBlock) (p : Ptr Operation) (t : Ptr BasicBlock) → slice_get (operations_in c b) (length (operations_in c b) - 1) ≡ Some p → IsSome (operation_at c p)
      → ((v : OperationView O) → operation_at c p ≡ Some v → (d.is_branch v.payload ≡ true) × (v.results ≡ []) × (v.regions ≡ [])) → length (successors_at c p) ≡ 1 → slice_get (successors_at c p) 0 ≡ Some t → IsBareExit d c b p t
  bare_exit_is b p t last live bare one at =
      let v = something (operation_at c p) live in
      let is = bare v.0 v.1 in
      record {
        ends = with_last (operations_in c b) p last;
        view = v.0;
        there = v.1;
        branches = is.0;
        results = is.1;
        regions = is.2;
        successors = sym (ap (λ o. unwrap_or (option_map (λ (x : OperationView O). x.successors) o) []) v.1) ∙ one_length (successors_at c p) t one at;
      }

  -- and the other way round
  pub exit_last : (b : Ptr BasicBlock) (p : Ptr Operation) (t : Ptr BasicBlock) → IsBareExit d c b p t → slice_get (operations_in c b) (length (operations_in c b) - 1) ≡ Some p
  exit_last b p t exit = last_is (operations_in c b) (front (operations_in c b)) p exit.ends

  pub exit_successors : (b : Ptr BasicBlock) (p : Ptr Operation) (t : Ptr BasicBlock) → IsBareExit d c b p t → successors_at c p ≡ t ∷ []
  exit_successors b p t exit = ap (λ o. unwrap_or (option_map (λ (x : OperationView O). x.successors) o) []) exit.there ∙ exit.successors
