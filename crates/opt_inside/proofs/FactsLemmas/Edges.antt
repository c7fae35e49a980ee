-- Rows of operations.
use Rattle.std.proofs.Common.{◌≡◌, ⊎_elim, ℕ, ◌<◌, ◌≤◌, Bool, true, false, cond, List, [], ◌∷◌, length, Option, None, Some, IsSome, slice_get, unwrap_or, option_map, refl, sym, ap, ◌∙◌, arith}
use Rattle.std.specs.Prelude.{map, filter, nat_lt}
use Rattle.std.proofs.lemmas.Option.{slice_get_cases}
use Rattle.ir_program.specs.Program.{Program, OperationView, operation_at, results_at}
use Rattle.ir_program.specs.Rows.{operands_at, successors_at}
use Rattle.ir_program.specs.Lent.{payload_at}
use Rattle.ir_program.specs.Lists.{StandsInBlock, regions_in}
use Rattle.ir_program.specs.declared.handles.Ptr.{Ptr}
use Rattle.ir_program.specs.declared.handles.Operation.{Operation}
use Rattle.ir_program.specs.declared.handles.BasicBlock.{BasicBlock}
use Rattle.ir_program.specs.declared.handles.Value.{Value}
use Rattle.ir_trees.specs.Stands.{in_program}
use Rattle.opt_rows.specs.OperationRows.{BranchEdge, Row}
use Rattle.opt_trees.specs.Occurrences.{cons_if, picks}
use Rattle.opt_trees.specs.Dialect.{Dialect}
use Rattle.opt_inside.specs.Numbered.{Numbers}
use Rattle.opt_inside.specs.facts.Problem.{value_number, block_number, values_of, role_of, edges_if, branches_to, entries_in, IsEdge, IsEdgeCount, AreForwarded, AreEdges, IsRowOfOperation}

is_less : (i n : ℕ) → i < n → nat_lt i n ≡ true
is_less i n h = grind arith

isnt_less : (i n : ℕ) → n ≤ i → nat_lt i n ≡ false
isnt_less i n h = grind arith

-- indices within a list pick what all pick
pub within_picks : {X : Type 0} (xs : List X) (is : List ℕ) → map (slice_get xs) (filter (λ i. nat_lt i (length xs)) is) ≡ map Some (picks xs is)
within_picks xs [] = refl
within_picks {X} xs (i ∷ is) = ⊎_elim
    (λ (h : (x : X) × (i < length xs) × (slice_get xs i ≡ Some x) × (_ ≡ x)). here h.0 (is_less i (length xs) h.1) h.2 (within_picks xs is))
    (λ (h : (length xs ≤ i) × (slice_get xs i ≡ None)). past (isnt_less i (length xs) h.0) h.1 (within_picks xs is))
    (slice_get_cases xs i).1
  where
    rest : List ℕ
    rest = filter (λ i. nat_lt i (length xs)) is

    here : (x : X) → nat_lt i (length xs) ≡ true → slice_get xs i ≡ Some x → map (slice_get xs) (filter (λ i. nat_lt i (length xs)) is) ≡ map Some (picks xs is) → map (slice_get xs) (filter (λ i. nat_lt i (length xs)) (i ∷ is)) ≡ map Some (picks xs (i ∷ is))
    here x less at ih =
        ap (λ b. map (slice_get xs) (cond b (i ∷ filter (λ i. nat_lt i (length xs)) is) (filter (λ i. nat_lt i (length xs)) is))) less
        ∙ ap (λ o. o ∷ map (slice_get xs) (filter (λ i. nat_lt i (length xs)) is)) at ∙ ap (λ os. Some x ∷ os) ih
        ∙ ap (λ o. map Some (cons_if o (picks xs is))) (sym at)

    past : nat_lt i (length xs) ≡ false → slice_get xs i ≡ None → map (slice_get xs) (filter (λ i. nat_lt i (length xs)) is) ≡ map Some (picks xs is) → map (slice_get xs) (filter (λ i. nat_lt i (length xs)) (i ∷ is)) ≡ map Some (picks xs (i ∷ is))
    past less at ih =
        ap (λ b. map (slice_get xs) (cond b (i ∷ filter (λ i. nat_lt i (length xs)) is) (filter (λ i. nat_lt i (length xs)) is))) less ∙ ih
        ∙ ap (λ o. map Some (cons_if o (picks xs is))) (sym at)

-- what is there is something
pub shown : {X : Type 0} (o : Option X) → IsSome o → (x : X) × (o ≡ Some x)
shown None h = absurd (cc)
shown (Some x) h = (x, refl)

edge_of : (b : Bool) (bs : List (Ptr BasicBlock)) (i count : ℕ) → count ≡ length (edges_if b bs) → i < count → edges_if b bs ≡ bs
edge_of true bs i count e h = refl
edge_of false bs i count e h = absurd (omega (arith, e, h))

module _ {O B A : Type 0} (d : Dialect (in_program O B) A) (c : Program O B) (n : Numbers) (p : Ptr Operation) where
  pub edge_within : IsSome (operation_at c p) → (i count : ℕ) → IsEdgeCount d c p count → i < count → i < length (successors_at c p)
  edge_within live i count is h =
      let v = shown (operation_at c p) live in
      let all = edge_of (d.is_branch v.0.payload) v.0.successors i count (is v.0 v.1) h in
      let row = ap (λ (w : Option (OperationView O)). unwrap_or (option_map (λ (o : OperationView O). o.successors) w) []) v.1 in
      let e = ap length all in let f = ap length row in let g = is v.0 v.1 in omega (arith, e, f, g, h)

  -- the edge at an index
  pub edge_there : (o : OperationView O) → operation_at c p ≡ Some o → (i count : ℕ) → IsEdgeCount d c p count → i < count → (s : Ptr BasicBlock) → slice_get (successors_at c p) i ≡ Some s → slice_get (branches_to d o) i ≡ Some s
  edge_there o there i count is h s at =
      let row = ap (λ (w : Option (OperationView O)). unwrap_or (option_map (λ (v : OperationView O). v.successors) w) []) there in
      ap (λ bs. slice_get bs i) (edge_of (d.is_branch o.payload) o.successors i count (is o there) h ∙ sym row) ∙ at

  pub edge_is : (o : OperationView O) → operation_at c p ≡ Some o → (i : ℕ) (s : Ptr BasicBlock) (e : BranchEdge) → e.target ≡ block_number n s
      → AreForwarded d c p i e.forwards → IsEdge d n o i s e
  edge_is o there i s e target forwards =
      let row = ap (λ (w : Option (OperationView O)). unwrap_or (option_map (λ (v : OperationView O). v.operands) w) []) there in
      record {
        target = target;
        forwards = ap (map (slice_get o.operands)) (forwards o.payload (ap (option_map (λ (v : OperationView O). v.payload)) there) ∙ ap (λ (vs : List Value). filter (λ j. nat_lt j (length vs)) (d.forwards o.payload (length vs) i)) row)
            ∙ within_picks o.operands (d.forwards o.payload (length o.operands) i);
      }

  pub row_is : IsSome (operation_at c p) → (r : Row) → ((b : Ptr BasicBlock) → StandsInBlock c p b → r.block ≡ block_number n b) → (w : O) → payload_at c p ≡ Some w → r.role ≡ role_of (d.is_foldable w) (d.is_branch w)
      → r.operands ≡ map (value_number n) (operands_at c p) → r.results ≡ map (value_number n) (values_of (results_at c p))
      → AreEdges d c n p r.edges → r.entries ≡ map (block_number n) (entries_in c (regions_in c p)) → IsRowOfOperation d c n p r
  row_is live r block w payload role operands results edges entries =
      let v = shown (operation_at c p) live in
      let same : w ≡ v.0.payload = let e : Some w ≡ Some v.0.payload = sym payload ∙ ap (option_map (λ (o : OperationView O). o.payload)) v.1 in cc in
      record {
        view = v.0;
        there = v.1;
        block = block;
        role = role ∙ ap (λ x. role_of (d.is_foldable x) (d.is_branch x)) same;
        operands = operands ∙ ap (λ (x : Option (OperationView O)). map (value_number n) (unwrap_or (option_map (λ (o : OperationView O). o.operands) x) [])) v.1;
        results = results ∙ ap (λ (x : Option (OperationView O)). map (value_number n) (values_of (unwrap_or (option_map (λ (o : OperationView O). o.results) x) []))) v.1;
        edges = edges v.0 v.1;
        entries = entries ∙ ap (λ (x : Option (OperationView O)). map (block_number n) (entries_in c (unwrap_or (option_map (λ (o : OperationView O). o.regions) x) []))) v.1;
      }
