-- An edit after an edit, and what a loop that adds one at a time has added.
use Rattle.std.proofs.Common.{◌≡◌, ℕ, zero, suc, ◌+◌, ◌<◌, List, [], ◌∷◌, ◌++◌, length, take, Option, Some, None, IsSome, option_map, slice_get, Result, Ok, Err, OnErr, refl, sym, ap, ◌∙◌, subst, arith, append_assoc, append-nil, length-append}
use Rattle.ir_base.specs.declared.types.TypeHandle.{TypeHandle}
use Rattle.ir_program.specs.Program.{Program, OperationView, BlockView, operation_at, block_at, type_at}
use Rattle.ir_program.specs.Edits.{EditsOperation, EditsBlock, KeepsErased, IsUnchanged}
use Rattle.ir_program.specs.Definers.{DefinesValue}
use Rattle.ir_program.specs.Adds.{SomeCame, numbered_values, AddsResults, AddsArguments, AddsOperands, AddsSuccessors}
use Rattle.ir_program.specs.declared.handles.Ptr.{Ptr}
use Rattle.ir_program.specs.declared.handles.Operation.{Operation}
use Rattle.ir_program.specs.declared.handles.BasicBlock.{BasicBlock}
use Rattle.ir_program.specs.declared.handles.Value.{Value}
use Rattle.ir_program.specs.declared.handles.DefiningEntity.{DefiningEntity}
use Rattle.ir_program.specs.declared.handles.DefiningEntity.TheVariants.{Op as ByOp, Block as ByBlock}
use Rattle.ir_program.proofs.lists.Slotted.{map_of_some}

pub map-then : {X : Type 0} (f g h : X → X) → ((x : X) → g (f x) ≡ h x) → (o : Option X) → option_map g (option_map f o) ≡ option_map h o
map-then f g h same None = refl
map-then f g h same (Some x) = ap Some (same x)

pub map-same_as : {X : Type 0} (f : X → X) → ((x : X) → x ≡ f x) → (o : Option X) → o ≡ option_map f o
map-same_as f same None = refl
map-same_as f same (Some x) = ap Some (same x)

pub some_there : {X : Type 0} (o : Option X) (x : X) → o ≡ Some x → IsSome o
some_there o x e = subst IsSome (sym e) refl

take_more : {X : Type 0} (xs : List X) (i : ℕ) (x : X) → slice_get xs i ≡ Some x → take (suc i) xs ≡ take i xs ++ x ∷ []
take_more [] i x h = cc
take_more (y ∷ xs) zero x h = let is : y ≡ x = cc in rw is refl
take_more (y ∷ xs) (suc i) x h = ap (λ l. y ∷ l) (take_more xs i x h)

-- what is taken with one more
pub take-next : {X : Type 0} (xs : List X) (i : ℕ) (x : X) → slice_get xs i ≡ Some x → take i xs ++ x ∷ [] ≡ take (i + 1) xs
take-next xs i x h = sym (take_more xs i x h) ∙ (let on : suc i ≡ i + 1 = omega arith in ap (λ n. take n xs) on)

-- what came before an error came
pub some-came : {T E X : Type 0} (r : Result T E) (xs : List X) (Came : List X → Type 0) (n : ℕ) → n < length xs → Came (take n xs) → OnErr r (SomeCame xs Came)
some-came (Ok x) xs Came n lt came = tt
some-came (Err e) xs Came n lt came = (n, lt, came)

numbered-push : (e : DefiningEntity) (n : ℕ) (tys : List TypeHandle) (ty : TypeHandle) → numbered_values e n (tys ++ ty ∷ []) ≡ numbered_values e n tys ++ record { value = record { definer = e; number = n + length tys }; ty = ty } ∷ []
numbered-push e n [] ty = let on : n ≡ n + 0 = omega arith in ap (λ (m : ℕ). record { value = record { definer = e; number = m }; ty = ty } ∷ []) on
numbered-push e n (x ∷ tys) ty =
    let on : suc n + length tys ≡ n + suc (length tys) = omega arith in
    ap (λ l. record { value = record { definer = e; number = n }; ty = x } ∷ l) (numbered-push e (suc n) tys ty ∙ ap (λ (m : ℕ). numbered_values e (suc n) tys ++ record { value = record { definer = e; number = m }; ty = ty } ∷ []) on)

module _ {O B : Type 0} where
  pub kept-erased : (c : Program O B) → KeepsErased c c
  kept-erased c = record { operations = λ k s. s; blocks = λ k s. s; regions = λ k s. s }

  pub erased-then : (a b c : Program O B) → KeepsErased a b → KeepsErased b c → KeepsErased a c
  erased-then a b c f g = record { operations = λ k s. g.operations k (f.operations k s); blocks = λ k s. g.blocks k (f.blocks k s); regions = λ k s. g.regions k (f.regions k s) }

  pub edit-then : (a b c : Program O B) (p : Ptr Operation) (f g h : OperationView O → OperationView O) → ((o : OperationView O) → g (f o) ≡ h o) → EditsOperation a b p f → EditsOperation b c p g → EditsOperation a c p h
  edit-then a b c p f g h same first second = record {
    edited = second.edited ∙ ap (option_map g) first.edited ∙ map-then f g h same (operation_at a p);
    others = λ q ne. second.others q ne ∙ first.others q ne;
    blocks = λ q. second.blocks q ∙ first.blocks q;
    regions = λ q. second.regions q ∙ first.regions q;
    erased = erased-then a b c first.erased second.erased;
  }

  pub edit-none : (c : Program O B) (p : Ptr Operation) (f : OperationView O → OperationView O) → ((o : OperationView O) → o ≡ f o) → EditsOperation c c p f
  edit-none c p f same = record { edited = map-same_as f same (operation_at c p); others = λ q ne. refl; blocks = λ q. refl; regions = λ q. refl; erased = kept-erased c }

  pub edit-there : (a b : Program O B) (p : Ptr Operation) (f : OperationView O → OperationView O) → EditsOperation a b p f → IsSome (operation_at a p) → IsSome (operation_at b p)
  edit-there a b p f edits there = subst IsSome (sym edits.edited) (map_of_some f (operation_at a p) there)

  -- what changed nothing before an edit leaves the edit as it is
  pub unchanged-then : (a b c : Program O B) → IsUnchanged b c → (p : Ptr Operation) (f : OperationView O → OperationView O) → EditsOperation a b p f → EditsOperation a c p f
  unchanged-then a b c same p f edits = record {
    edited = same.operations p ∙ edits.edited;
    others = λ q ne. same.operations q ∙ edits.others q ne;
    blocks = λ q. same.blocks q ∙ edits.blocks q;
    regions = λ q. same.regions q ∙ edits.regions q;
    erased = erased-then a b c edits.erased same.erased;
  }

  pub block_edit-then : (a b c : Program O B) (p : Ptr BasicBlock) (f g h : BlockView B → BlockView B) → ((o : BlockView B) → g (f o) ≡ h o) → EditsBlock a b p f → EditsBlock b c p g → EditsBlock a c p h
  block_edit-then a b c p f g h same first second = record {
    edited = second.edited ∙ ap (option_map g) first.edited ∙ map-then f g h same (block_at a p);
    others = λ q ne. second.others q ne ∙ first.others q ne;
    operations = λ q. second.operations q ∙ first.operations q;
    regions = λ q. second.regions q ∙ first.regions q;
    erased = erased-then a b c first.erased second.erased;
  }

  pub block_edit-there : (a b : Program O B) (p : Ptr BasicBlock) (f : BlockView B → BlockView B) → EditsBlock a b p f → IsSome (block_at a p) → IsSome (block_at b p)
  block_edit-there a b p f edits there = subst IsSome (sym edits.edited) (map_of_some f (block_at a p) there)

  pub block_unchanged-then : (a b c : Program O B) → IsUnchanged b c → (p : Ptr BasicBlock) (f : BlockView B → BlockView B) → EditsBlock a b p f → EditsBlock a c p f
  block_unchanged-then a b c same p f edits = record {
    edited = same.blocks p ∙ edits.edited;
    others = λ q ne. same.blocks q ∙ edits.others q ne;
    operations = λ q. same.operations q ∙ edits.operations q;
    regions = λ q. same.regions q ∙ edits.regions q;
    erased = erased-then a b c edits.erased same.erased;
  }

  pub results-none : (c : Program O B) (p : Ptr Operation) → AddsResults c c p []
  results-none c p = record { edited = edit-none c p _ (λ o. ap (λ l. record o { results = l }) (sym (append-nil o.results))); others = λ v ne. refl; earlier = λ v lt. refl; counter = omega arith }

  pub arguments-none : (c : Program O B) (p : Ptr BasicBlock) → AddsArguments c c p []
  arguments-none c p = record {
    edited = record { edited = map-same_as _ (λ (o : BlockView B). ap (λ l. record o { arguments = l }) (sym (append-nil o.arguments))) (block_at c p); others = λ q ne. refl; operations = λ q. refl; regions = λ q. refl; erased = kept-erased c };
    others = λ v ne. refl;
    earlier = λ v lt. refl;
    counter = omega arith;
  }

  pub operands-none : (c : Program O B) (p : Ptr Operation) → AddsOperands c c p []
  operands-none c p = record { edited = edit-none c p _ (λ o. ap (λ l. record o { operands = l }) (sym (append-nil o.operands))); types = λ v. refl; counter = refl }

  pub successors-none : (c : Program O B) (p : Ptr Operation) → AddsSuccessors c c p []
  successors-none c p = record { edited = edit-none c p _ (λ o. ap (λ l. record o { successors = l }) (sym (append-nil o.successors))); types = λ v. refl; counter = refl }

  pub operands-next : (a b c : Program O B) (p : Ptr Operation) (vs : List Value) (v : Value) → AddsOperands a b p vs → EditsOperation b c p (λ (o : OperationView O). record o { operands = o.operands ++ v ∷ [] }) → ((x : Value) → type_at c x ≡ type_at b x) → c.counter ≡ b.counter → AddsOperands a c p (vs ++ v ∷ [])
  operands-next a b c p vs v adds edits types counter = record {
    edited = edit-then a b c p _ _ _ (λ o. ap (λ l. record o { operands = l }) (append_assoc o.operands vs (v ∷ []))) adds.edited edits;
    types = λ x. types x ∙ adds.types x;
    counter = counter ∙ adds.counter;
  }

  pub successors-next : (a b c : Program O B) (p : Ptr Operation) (bs : List (Ptr BasicBlock)) (x : Ptr BasicBlock) → AddsSuccessors a b p bs → EditsOperation b c p (λ (o : OperationView O). record o { successors = o.successors ++ x ∷ [] }) → ((v : Value) → type_at c v ≡ type_at b v) → c.counter ≡ b.counter → AddsSuccessors a c p (bs ++ x ∷ [])
  successors-next a b c p bs x adds edits types counter = record {
    edited = edit-then a b c p _ _ _ (λ o. ap (λ l. record o { successors = l }) (append_assoc o.successors bs (x ∷ []))) adds.edited edits;
    types = λ v. types v ∙ adds.types v;
    counter = counter ∙ adds.counter;
  }

  pub results-next : (a b c : Program O B) (p : Ptr Operation) (tys : List TypeHandle) (ty : TypeHandle) (v : Value) → AddsResults a b p tys → v ≡ record { definer = ByOp p; number = b.counter } → DefinesValue b c v ty → c.counter ≡ b.counter + 1
      → EditsOperation b c p (λ (o : OperationView O). record o { results = o.results ++ (record { value = v; ty = ty }) ∷ [] }) → AddsResults a c p (tys ++ ty ∷ [])
  results-next a b c p tys ty v adds is defines counter edits = record {
    edited = edit-then a b c p _ _ _ (λ o. ap (λ l. record o { results = l }) (append_assoc o.results (numbered_values (ByOp p) a.counter tys) _ ∙ ap (λ l. o.results ++ l) last)) adds.edited edits;
    others = λ x ne. defines.others x (λ e. ne (ap (λ (y : Value). y.definer) (e ∙ is))) ∙ adds.others x ne;
    earlier = λ x lt. defines.others x (λ e. let n : x.number ≡ b.counter = ap (λ (y : Value). y.number) (e ∙ is) in let m : b.counter ≡ a.counter + length tys = adds.counter in absurd (omega (arith, n, m, lt))) ∙ adds.earlier x lt;
    counter = let m : b.counter ≡ a.counter + length tys = adds.counter in let l : length (tys ++ ty ∷ []) ≡ length tys + 1 = length-append tys (ty ∷ []) in omega (arith, m, l, counter);
  }
    where
      last : numbered_values (ByOp p) a.counter tys ++ (record { value = v; ty = ty }) ∷ [] ≡ numbered_values (ByOp p) a.counter (tys ++ ty ∷ [])
      last = ap (λ (x : Value). numbered_values (ByOp p) a.counter tys ++ (record { value = x; ty = ty }) ∷ []) (is ∙ ap (λ (n : ℕ). record { definer = ByOp p; number = n }) adds.counter) ∙ sym (numbered-push (ByOp p) a.counter tys ty)

  pub arguments-next : (a b c : Program O B) (p : Ptr BasicBlock) (tys : List TypeHandle) (ty : TypeHandle) (v : Value) → AddsArguments a b p tys → v ≡ record { definer = ByBlock p; number = b.counter } → DefinesValue b c v ty → c.counter ≡ b.counter + 1
      → EditsBlock b c p (λ (o : BlockView B). record o { arguments = o.arguments ++ (record { value = v; ty = ty }) ∷ [] }) → AddsArguments a c p (tys ++ ty ∷ [])
  arguments-next a b c p tys ty v adds is defines counter edits = record {
    edited = block_edit-then a b c p _ _ _ (λ o. ap (λ l. record o { arguments = l }) (append_assoc o.arguments (numbered_values (ByBlock p) a.counter tys) _ ∙ ap (λ l. o.arguments ++ l) last)) adds.edited edits;
    others = λ x ne. defines.others x (λ e. ne (ap (λ (y : Value). y.definer) (e ∙ is))) ∙ adds.others x ne;
    earlier = λ x lt. defines.others x (λ e. let n : x.number ≡ b.counter = ap (λ (y : Value). y.number) (e ∙ is) in let m : b.counter ≡ a.counter + length tys = adds.counter in absurd (omega (arith, n, m, lt))) ∙ adds.earlier x lt;
    counter = let m : b.counter ≡ a.counter + length tys = adds.counter in let l : length (tys ++ ty ∷ []) ≡ length tys + 1 = length-append tys (ty ∷ []) in omega (arith, m, l, counter);
  }
    where
      last : numbered_values (ByBlock p) a.counter tys ++ (record { value = v; ty = ty }) ∷ [] ≡ numbered_values (ByBlock p) a.counter (tys ++ ty ∷ [])
      last = ap (λ (x : Value). numbered_values (ByBlock p) a.counter tys ++ (record { value = x; ty = ty }) ∷ []) (is ∙ ap (λ (n : ℕ). record { definer = ByBlock p; number = n }) adds.counter) ∙ sym (numbered-push (ByBlock p) a.counter tys ty)

  -- where nothing changed since, the same was added
  pub results-still : (a b c : Program O B) (p : Ptr Operation) (tys : List TypeHandle) → IsUnchanged b c → ((v : Value) → type_at c v ≡ type_at b v) → AddsResults a b p tys → AddsResults a c p tys
  results-still a b c p tys same types adds = record { edited = unchanged-then a b c same p _ adds.edited; others = λ v ne. types v ∙ adds.others v ne; earlier = λ v lt. types v ∙ adds.earlier v lt; counter = same.counter ∙ adds.counter }

  pub arguments-still : (a b c : Program O B) (p : Ptr BasicBlock) (tys : List TypeHandle) → IsUnchanged b c → ((v : Value) → type_at c v ≡ type_at b v) → AddsArguments a b p tys → AddsArguments a c p tys
  arguments-still a b c p tys same types adds = record { edited = block_unchanged-then a b c same p _ adds.edited; others = λ v ne. types v ∙ adds.others v ne; earlier = λ v lt. types v ∙ adds.earlier v lt; counter = same.counter ∙ adds.counter }

  pub operands-still : (a b c : Program O B) (p : Ptr Operation) (vs : List Value) → IsUnchanged b c → ((v : Value) → type_at c v ≡ type_at b v) → AddsOperands a b p vs → AddsOperands a c p vs
  operands-still a b c p vs same types adds = record { edited = unchanged-then a b c same p _ adds.edited; types = λ v. types v ∙ adds.types v; counter = same.counter ∙ adds.counter }

  pub successors-still : (a b c : Program O B) (p : Ptr Operation) (bs : List (Ptr BasicBlock)) → IsUnchanged b c → ((v : Value) → type_at c v ≡ type_at b v) → AddsSuccessors a b p bs → AddsSuccessors a c p bs
  successors-still a b c p bs same types adds = record { edited = unchanged-then a b c same p _ adds.edited; types = λ v. types v ∙ adds.types v; counter = same.counter ∙ adds.counter }
