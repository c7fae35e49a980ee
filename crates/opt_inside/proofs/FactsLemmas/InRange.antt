-- The numbers of the problem are in range.
use Rattle.std.proofs.Common.{◌≡◌, ℕ, zero, suc, ◌<◌, ◌≤◌, Bool, true, false, List, [], ◌∷◌, length, Option, None, Some, IsSome, slice_get, unwrap_or, option_map, refl, sym, ap, ◌∙◌, subst, arith}
use Rattle.std.specs.Prelude.{map, not, Contains}
use Rattle.std.specs.declared.vec.Vec.{Vec}
use Rattle.std.specs.declared.alloc.Global.{Global}
use Rattle.std.proofs.lemmas.List.{length-map}
use Rattle.std.proofs.lemmas.List.Sums.{prefix_len-le-length}
use Rattle.std.proofs.lemmas.Option.{none-some, same_Some, slice_get_within}
use Rattle.ir_program.specs.Program.{Program, OperationView, arguments_at}
use Rattle.ir_program.specs.Lists.{regions_in, itself}
use Rattle.ir_program.specs.Replacing.{same_value, same_block}
use Rattle.ir_program.specs.declared.handles.Ptr.{Ptr}
use Rattle.ir_program.specs.declared.handles.Operation.{Operation}
use Rattle.ir_program.specs.declared.handles.BasicBlock.{BasicBlock}
use Rattle.ir_program.specs.declared.handles.Value.{Value}
use Rattle.ir_program.proofs.used.Renaming.{block-test}
use Rattle.ir_trees.specs.Searched.{Lists}
use Rattle.ir_trees.specs.Stands.{in_program}
use Rattle.opt_rows.specs.OperationRows.{Row}
use Rattle.opt_rows.specs.declared.facts_problem.FactsProblem.{FactsProblem}
use Rattle.opt_rows.specs.Facts.{IsRow, IsProblem}
use Rattle.opt_trees.specs.Occurrences.{Has, picks}
use Rattle.opt_trees.specs.Dialect.{Dialect}
use Rattle.opt_inside.specs.Numbered.{Numbers}
use Rattle.opt_inside.specs.facts.Problem.{value_number, block_number, values_of, edges_if, entries_in, IsRowOfOperation, IsFactsProblemOf}
use Rattle.opt_inside.specs.facts.Folds.{operation_if, operation_numbered}
use Rattle.opt_inside.proofs.FactsLemmas.Places.{placed}
use Rattle.opt_inside.proofs.FactsLemmas.Members.{made_of, contains_lists, picked_within}
use Rattle.opt_inside.proofs.FactsLemmas.Below.{block_around}
use Rattle.opt_inside.proofs.FactsLemmas.Setting.{IsSet, entries_below, listed}

-- an edge is that of a successor
pub successor_of : (branch : Bool) (bs : List (Ptr BasicBlock)) (j : ℕ) (b : Ptr BasicBlock) → slice_get (edges_if branch bs) j ≡ Some b → slice_get bs j ≡ Some b
successor_of true bs j b e = e
successor_of false bs j b e = absurd (none-some b e)

module _ {O B A : Type 0} (d : Dialect (in_program O B) A) (c : Program O B) (op : Ptr Operation) (n : Numbers) (p : FactsProblem) (s : IsSet d c op n p) where
  value_in_range : (v : Value) → value_number n v < p.values
  value_in_range v = let le : value_number n v ≤ length n.values = prefix_len-le-length (λ w. not (same_value v w)) n.values in let e = s.problem.values in omega (arith, le, e)

  block_in_range : (b : Ptr BasicBlock) → Lists n.blocks b → block_number n b < length p.arguments.items
  block_in_range b l = let at = s.problem.arguments.onto (block_number n b) b (placed same_block block-test n.blocks b l) in slice_get_within p.arguments.items (block_number n b) at.0 at.1

  values_in_range : (vs : List Value) (ns : List ℕ) → ns ≡ map (value_number n) vs → (v : ℕ) → Contains ns v → v < p.values
  values_in_range vs ns e v h = let m = made_of (value_number n) vs ns v e h in subst (λ x. x < p.values) m.2 (value_in_range m.0)

  blocks_in_range : (bs : List (Ptr BasicBlock)) (ns : List ℕ) → ((b : Ptr BasicBlock) → Has b bs → Lists n.blocks b) → ns ≡ map (block_number n) bs → (b : ℕ) → Contains ns b → b < length p.arguments.items
  blocks_in_range bs ns all e b h = let m = made_of (block_number n) bs ns b e h in subst (λ x. x < length p.arguments.items) m.2 (block_in_range m.0 (all m.0 m.1))

  row_in_range : (i : ℕ) (q : Ptr Operation) (r : Row) → slice_get n.operations i ≡ Some q → IsRowOfOperation d c n q r → IsRow p r
  row_in_range i q r at is =
      let below = (s.numbered.operations q).0 (i, at) in
      let around = block_around c op q below in
      let row = ap (λ (v : Option (OperationView O)). unwrap_or (option_map (λ (w : OperationView O). w.successors) v) []) is.there in
      let regions = ap (λ (v : Option (OperationView O)). unwrap_or (option_map (λ (w : OperationView O). w.regions) v) []) is.there in
      record {
        block = subst (λ x. x < length p.arguments.items) (sym (is.block around.0 around.1)) (block_in_range around.0 (listed d c op n p s around.0 around.2));
        operands = values_in_range is.view.operands r.operands is.operands;
        results = values_in_range (values_of is.view.results) r.results is.results;
        targets = λ e h.
            let l = contains_lists r.edges e h in
            let b = is.edges.from l.0 e l.1 in
            let succ = successor_of (d.is_branch is.view.payload) is.view.successors l.0 b.0 b.1 in
            subst (λ x. x < length p.arguments.items) (sym b.2.target) (block_in_range b.0 (listed d c op n p s b.0 (s.leads q b.0 below (l.0, ap (λ bs. slice_get bs l.0) row ∙ succ))));
        forwards = λ e j h f.
            let l = contains_lists r.edges e h in
            let b = is.edges.from l.0 e l.1 in
            let w = picked_within (λ (v : Value). v) is.view.operands (picks is.view.operands (d.forwards is.view.payload (length is.view.operands) l.0)) e.forwards j b.2.forwards f in
            let len : length r.operands ≡ length is.view.operands = ap length is.operands ∙ length-map is.view.operands (value_number n) in
            omega (arith, w, len);
        entries = blocks_in_range (entries_in c is.view.regions) r.entries (λ b h. listed d c op n p s b (entries_below c op s.held q below.inside b (subst (λ rs. Has b (entries_in c rs)) (sym regions) h))) is.entries;
      }

  arguments_in_range : (b : ℕ) (o : Option (Vec ℕ Global)) → slice_get p.arguments.items b ≡ o → (v : ℕ) → Contains (unwrap_or (option_map (λ (w : Vec ℕ Global). w.items) o) []) v → v < p.values
  arguments_in_range b None e v h = absurd (none-some v (contains_lists [] v h).1)
  arguments_in_range b (Some w) e v h = let at = s.problem.arguments.from b w e in values_in_range (values_of (arguments_at c at.0)) w.items at.2 v h

  pub in_range : IsProblem p
  in_range = record {
    rows = λ r h.
        let l = contains_lists p.rows r h in
        let q = s.problem.rows.from l.0 r l.1 in
        row_in_range l.0 q.0 r q.1 q.2;
    arguments = λ b v h. arguments_in_range b (slice_get p.arguments.items b) refl v h;
    entries = blocks_in_range (entries_in c (regions_in c op)) p.entries.items (λ b h. listed d c op n p s b (entries_below c op s.held op itself b h)) s.problem.entries;
    outside = λ v h.
        let l = contains_lists p.outside.items v h in
        let is : length n.values ≡ v = only l.0 v (ap (λ xs. slice_get xs l.0) (sym s.problem.outside) ∙ l.1) in
        let e = s.problem.values in omega (arith, is, e);
  }
    where
      only : (j v : ℕ) → slice_get (length n.values ∷ []) j ≡ Some v → length n.values ≡ v
      only zero v e = same_Some (length n.values) v e
      only (suc j) v e = cc

-- the operation of each row can be asked
pub can_be_asked : {O B A : Type 0} (d : Dialect (in_program O B) A) (c : Program O B) (op : Ptr Operation) (n : Numbers) (p : FactsProblem) (operations : List (Ptr Operation)) → operations ≡ n.operations → IsFactsProblemOf d c op n p
    → (i : ℕ) (r : Row) → slice_get p.rows i ≡ Some r → IsSome (operation_numbered c operations i)
can_be_asked d c op n p operations e problem i r at =
    let q = problem.rows.from i r at in
    let there = ap (λ ps. operation_numbered c ps i) e ∙ ap (operation_if c) q.1 ∙ q.2.there in
    subst IsSome (sym there) refl
