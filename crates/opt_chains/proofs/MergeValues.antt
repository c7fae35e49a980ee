-- Values put in place of arguments one after the other.
use Rattle.std.proofs.Common.{◌≡◌, ◌≢◌, ◌⊎◌, ℕ, zero, suc, Bool, true, false, cond, List, [], ◌∷◌, ◌++◌, map, take, Option, Some, None, IsSome, option_map, slice_get, refl, sym, ap, ◌∙◌, subst, ◌+◌}
use Rattle.ir_program.specs.Program.{Program, OperationView, operation_at, IsLiveValue}
use Rattle.ir_program.specs.Edits.{KeepsValues}
use Rattle.ir_program.specs.UseEdits.{ReplacesValue}
use Rattle.ir_program.specs.Replacing.{same_value, replacing}
use Rattle.ir_program.specs.declared.handles.Value.{Value}
use Rattle.ir_program.proofs.used.Renaming.{value-test}
use Rattle.ir_trees.specs.Searched.{Lists}
use Rattle.opt_handles.proofs.Handles.{erased_none, erased_twice}
use Rattle.opt_chains.specs.MergedValues.{standing, AreFinal, TakesInstead}
use Rattle.opt_chains.specs.declared.merge_values.StandIn.{StandIn}
use Rattle.opt_chains.proofs.MergeLists.{none_listed}
use Rattle.opt_chains.proofs.MergeSteps.{take_more}

same_or_other : (v w : Value) → (v ≡ w) ⊎ (v ≢ w)
same_or_other = value-test.decide

-- one stand-in more, which is none of the arguments before
standing_more : (ss : List StandIn) (s : StandIn) (v : Value) → ((u : StandIn) → Lists ss u → u.value ≢ s.argument) → replacing s.argument s.value (standing ss v) ≡ standing (ss ++ s ∷ []) v
standing_more [] s v apart = refl
standing_more (u ∷ ss) s v apart = by_case (same_value v u.argument) (standing_more ss s v (λ x h. apart x (suc h.0, h.1))) where
  by_case : (b : Bool) → replacing s.argument s.value (standing ss v) ≡ standing (ss ++ s ∷ []) v → replacing s.argument s.value (cond b u.value (standing ss v)) ≡ cond b u.value (standing (ss ++ s ∷ []) v)
  by_case true ih = ap (λ b. cond b s.value u.value) (value-test.no u.value s.argument (apart u (zero, refl)))
  by_case false ih = ih

map_both : {X Y Z : Type 0} (f : X → Y) (g : Y → Z) (h : X → Z) (xs : List X) → ((x : X) → g (f x) ≡ h x) → map g (map f xs) ≡ map h xs
map_both f g h [] e = refl
map_both f g h (x ∷ xs) e = let a = e x in let b = map_both f g h xs e in λ i. a i ∷ b i

map_same : {X : Type 0} (f : X → X) (xs : List X) → ((x : X) → f x ≡ x) → map f xs ≡ xs
map_same f [] e = refl
map_same f (x ∷ xs) e = let a = e x in let b = map_same f xs e in λ i. a i ∷ b i

pub below_taken : {X : Type 0} (xs : List X) (n k : ℕ) (x : X) → slice_get (take n xs) k ≡ Some x → slice_get xs k ≡ Some x
below_taken xs zero k x h = absurd (none_listed k x h)
below_taken [] (suc n) k x h = h
below_taken (y ∷ xs) (suc n) zero x h = h
below_taken (y ∷ xs) (suc n) (suc k) x h = below_taken xs n k x h

module _ {O B : Type 0} where
  pub none_instead : (c : Program O B) → TakesInstead c c (standing [])
  none_instead c = record { operations = λ p. each (operation_at c p); blocks = λ b. refl; regions = λ r. refl; erased = erased_none c } where
    each : (o : Option (OperationView O)) → o ≡ option_map (λ (v : OperationView O). record v { operands = map (standing []) v.operands }) o
    each None = refl
    each (Some v) = ap (λ l. Some (record v { operands = l })) (sym (map_same (standing []) v.operands (λ x. refl)))

  pub one_instead : (old mid new : Program O B) (ss : List StandIn) (i : ℕ) (s : StandIn) → slice_get ss i ≡ Some s → AreFinal ss → TakesInstead old mid (standing (take i ss)) → ReplacesValue mid new s.argument s.value → TakesInstead old new (standing (take (i + 1) ss))
  one_instead old mid new ss i s here fixed done step = subst (λ l. TakesInstead old new (standing l)) (sym (take_more ss i s here)) (record {
    operations = λ p. step.edited p ∙ ap (option_map (λ (v : OperationView O). record v { operands = map (replacing s.argument s.value) v.operands })) (done.operations p) ∙ both (operation_at old p);
    blocks = λ b. step.blocks b ∙ done.blocks b;
    regions = λ r. step.regions r ∙ done.regions r;
    erased = erased_twice old mid new done.erased step.erased;
  }) where
    both : (o : Option (OperationView O)) → option_map (λ (v : OperationView O). record v { operands = map (replacing s.argument s.value) v.operands }) (option_map (λ (v : OperationView O). record v { operands = map (standing (take i ss)) v.operands }) o)
        ≡ option_map (λ (v : OperationView O). record v { operands = map (standing (take i ss ++ s ∷ [])) v.operands }) o
    both None = refl
    both (Some v) = ap (λ l. Some (record v { operands = l })) (map_both (standing (take i ss)) (replacing s.argument s.value) (standing (take i ss ++ s ∷ [])) v.operands
        (λ x. standing_more (take i ss) s x (λ u h. fixed u s (h.0, below_taken ss i h.0 u h.1) (i, here))))

  pub still_there : (old mid : Program O B) (v : Value) → KeepsValues old mid → IsLiveValue old v → IsLiveValue mid v
  still_there old mid v keeps live = subst IsSome (sym (keeps.types v)) live

  pub keeps_both : (old mid new : Program O B) → KeepsValues old mid → KeepsValues mid new → KeepsValues old new
  keeps_both old mid new a b = record { types = λ v. b.types v ∙ a.types v; counter = b.counter ∙ a.counter }

  pub keeps_all : (c : Program O B) → KeepsValues c c
  keeps_all c = record { types = λ v. refl; counter = refl }
