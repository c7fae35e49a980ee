-- The rewriting that puts constants in makes of a tree what putting them in does, with their handles as names.
use Rattle.std.proofs.Common.{◌≡◌, List, [], ◌∷◌, map, Option, Some, None, option_map, refl, sym, ap, ◌∙◌}
use Rattle.std.proofs.lemmas.List.{map-id}
use Rattle.ir_base.specs.declared.types.TypeHandle.{TypeHandle}
use Rattle.ir_program.specs.Program.{no_handle}
use Rattle.ir_program.specs.declared.handles.Ptr.{Ptr}
use Rattle.ir_program.specs.declared.handles.Operation.{Operation}
use Rattle.ir_program.specs.declared.handles.Value.{Value}
use Rattle.ir_trees.specs.Trees.{Defined, Sort, Operations, Tree, end, operation, block, region}
use Rattle.ir_trees.specs.Stands.{by_handle, in_program, ProgramHead, ProgramLabel, ProgramTree}
use Rattle.ir_trees.specs.Renames.{Maps, rename_defined, rename_head, rename_label, rename, rename_root}
use Rattle.ir_trees.specs.Rewrites.{joined, rewritten, rewritten_root}
use Rattle.opt_trees.specs.Dialect.{Dialect}
use Rattle.opt_trees.specs.Sccp.{Name, Old, New, fresh, used_as, constant_before, put_one, put_results, put_arguments, old_head, old_label, put, put_root}
use Rattle.opt_sccp.specs.Placed.{Placed, PlacedFor, used_for, renamed, constant_if, for_results, for_arguments, puts_constants}

-- the constant, and its operation's handle
abbrev pub constant_in : {O A : Type 0} → Option (Placed O A) → Option A
constant_in o = option_map (λ x. x.made.constant) o

abbrev pub handle_in : {O A : Type 0} → Option (Placed O A) → Ptr Operation
handle_in None = no_handle
handle_in (Some x) = x.op

module _ {O A : Type 0} (f : PlacedFor O A) where
  abbrev pub operation_name : Name (Ptr Operation) Value → Ptr Operation
  operation_name (Old p) = p
  operation_name (New v) = handle_in (f v)

  abbrev pub value_name : Name Value Value → Value
  value_name (Old v) = v
  value_name (New v) = used_for v (f v)

  abbrev pub names : Maps (fresh by_handle) by_handle
  names = record { operation = operation_name; block = λ b. b; value = value_name }

-- a list of operations and nothing behind it
joined_end : {O B : Type 0} (t : Tree by_handle (in_program O B) Operations) → joined t end ≡ t
joined_end end = refl
joined_end (operation h rs rest) = ap (λ r. operation h rs r) (joined_end rest)

module _ {O B A : Type 0} (d : Dialect (in_program O B) A) (f : PlacedFor O A) (makes : (v : Value) (x : Placed O A) → f v ≡ Some x → d.constant x.made.constant ≡ Some x.content) where
  abbrev pub made : Value → Option A
  made v = constant_in (f v)

  one_name : (v : Value) (o : Option (Placed O A)) → f v ≡ o → value_name f (used_as v (constant_in o)) ≡ used_for v o
  one_name v None e = refl
  one_name v (Some x) e = ap (λ o. used_for v o) e

  pub used_names : (v : Value) → value_name f (used_as v (made v)) ≡ used_for v (f v)
  used_names v = one_name v (f v) refl

  one_same : (v : Value) (o : Option (Placed O A)) → f v ≡ o → (t : Tree (fresh by_handle) (in_program O B) Operations)
      → rename (names f) (put_one {N = by_handle} d v (constant_in o) t) ≡ constant_if d o (rename (names f) t)
  one_same v None e t = refl
  one_same v (Some x) e t =
      ap (λ c. rename (names f) (constant_before {N = by_handle} d v x.made.constant c t)) (makes v x e)
      ∙ (λ i. operation (record { name = handle_in (e i); content = x.content; results = record { name = used_for v (e i); holds = d.constant_type x.made.constant } ∷ []; operands = []; successors = [] }) end (rename (names f) t))

  joined_if : (o : Option (Placed O A)) (a b : Tree by_handle (in_program O B) Operations) → joined (constant_if d o a) b ≡ constant_if d o (joined a b)
  joined_if None a b = refl
  joined_if (Some x) a b = refl

  results_same : (vs : List (Defined Value TypeHandle)) (t : Tree (fresh by_handle) (in_program O B) Operations)
      → rename (names f) (put_results {N = by_handle} d made vs t) ≡ joined (for_results d f vs) (rename (names f) t)
  results_same [] t = refl
  results_same (v ∷ vs) t = one_same v.name (f v.name) refl (put_results {N = by_handle} d made vs t)
      ∙ ap (λ r. constant_if d (f v.name) r) (results_same vs t)
      ∙ sym (joined_if (f v.name) (for_results d f vs) (rename (names f) t))

  arguments_same : (vs : List (Defined Value TypeHandle)) (t : Tree (fresh by_handle) (in_program O B) Operations)
      → rename (names f) (put_arguments {N = by_handle} d made vs t) ≡ for_arguments d f vs (rename (names f) t)
  arguments_same [] t = refl
  arguments_same (v ∷ vs) t = arguments_same vs (put_one {N = by_handle} d v.name (made v.name) t)
      ∙ ap (λ r. for_arguments d f vs r) (one_same v.name (f v.name) refl t)

  arguments_joined : (vs : List (Defined Value TypeHandle)) (a b : Tree by_handle (in_program O B) Operations) → joined (for_arguments d f vs a) b ≡ for_arguments d f vs (joined a b)
  arguments_joined [] a b = refl
  arguments_joined (v ∷ vs) a b = arguments_joined vs (constant_if d (f v.name) a) b ∙ ap (λ r. for_arguments d f vs r) (joined_if (f v.name) a b)

  old_results : (vs : List (Defined Value TypeHandle)) → map (rename_defined (value_name f)) (map (rename_defined Old) vs) ≡ vs
  old_results [] = refl
  old_results (v ∷ vs) = ap (λ r. v ∷ r) (old_results vs)

  old_operands : (vs : List Value) → map (value_name f) (map (λ v. used_as v (made v)) vs) ≡ renamed f vs
  old_operands [] = refl
  old_operands (v ∷ vs) = λ i. used_names v i ∷ old_operands vs i

  heads_same : (h : ProgramHead O B) → rename_head (names f) (old_head {N = by_handle} made h) ≡ record h { operands = renamed f h.operands }
  heads_same h = λ i. record { name = h.name; content = h.content; results = old_results h.results i; operands = old_operands h.operands i; successors = map-id h.successors i }

  labels_same : (l : ProgramLabel O B) → rename_label (names f) (old_label {N = by_handle} l) ≡ l
  labels_same l = λ i. record { name = l.name; content = l.content; arguments = old_results l.arguments i }

  same : {s : Sort} (t : Tree by_handle (in_program O B) s) → rename (names f) (put {N = by_handle} d made t) ≡ rewritten (puts_constants d f) t
  same end = refl
  same (operation h rs rest) =
      results_same h.results (operation (old_head {N = by_handle} made h) (put {N = by_handle} d made rs) (put {N = by_handle} d made rest))
      ∙ (λ i. joined (for_results d f h.results) (operation (heads_same h i) (same rs i) (same rest i)))
  same (block l ops rest) =
      let inner = arguments_same l.arguments (put {N = by_handle} d made ops)
      ∙ ap (λ r. for_arguments d f l.arguments r) (same ops ∙ sym (joined_end (rewritten (puts_constants d f) ops)))
      ∙ sym (arguments_joined l.arguments end (joined (rewritten (puts_constants d f) ops) end)) in
      λ i. block (labels_same l i) (inner i) (same rest i)
  same (region bs rest) = λ i. region (same bs i) (same rest i)

  -- so it is for a root
  pub same_root : (t : ProgramTree O B) → rename_root (names f) (put_root {N = by_handle} d made t) ≡ rewritten_root (puts_constants d f) t
  same_root t = λ i. record { head = heads_same t.head i; regions = same t.regions i }
