-- What deciding makes of the head of an operation.
use Rattle.std.proofs.Common.{◌≡◌, ℕ, Bool, true, false, List, [], ◌∷◌, map, Option, Some, None, unwrap_or, option_map, refl, sym, ap, ◌∙◌}
use Rattle.std.specs.Prelude.{is_some, not, ◌&&◌, if◌then◌else◌}
use Rattle.ir_program.specs.Program.{Program, TypedValue, OperationView, operation_at}
use Rattle.ir_program.specs.declared.handles.Ptr.{Ptr}
use Rattle.ir_program.specs.declared.handles.Operation.{Operation}
use Rattle.ir_program.specs.declared.handles.Region.{Region}
use Rattle.ir_trees.specs.Stands.{by_handle, in_program, ProgramHead, head_of, defined_by, AreTree, no_regions, first_region}
use Rattle.ir_trees.specs.Trees.{Regions, Tree}
use Rattle.opt_trees.specs.Dialect.{Dialect}
use Rattle.opt_trees.specs.Simplify.{is_empty, is_end, is_bare, along_edge, decide_head}
use Rattle.opt_decide.specs.Planned.{can_decide, edge_if, known_alone, picked_edge}

reordered : (a b c e : Bool) → ((a && (b && c)) && e) ≡ (a && (e && (b && c)))
reordered true true true true = refl
reordered true true true false = refl
reordered true true false true = refl
reordered true true false false = refl
reordered true false c true = refl
reordered true false c false = refl
reordered false b c e = refl

empty_too : (ts : List TypedValue) → is_empty (map defined_by ts) ≡ is_empty ts
empty_too [] = refl
empty_too (t ∷ ts) = refl

-- nothing decided: the head stays
pub head_stays : {O B A : Type 0} (d : Dialect (in_program O B) A) (o : Option ℕ) (c : Option O) (h : ProgramHead O B) → (if is_some c then o else None) ≡ None → along_edge d h o c ≡ h
head_stays d None c h e = refl
head_stays d (Some i) None h e = refl
head_stays d (Some i) (Some c) h e = cc

module _ {O B A : Type 0} (d : Dialect (in_program O B) A) (old : Program O B) where
  end_too : (rs : List (Ptr Region)) (t : Tree by_handle (in_program O B) Regions) → AreTree old Regions rs t → is_end t ≡ is_empty rs
  end_too _ _ no_regions = refl
  end_too _ _ (first_region r rs v bs rest there inner later) = refl

  either : (h : ProgramHead O B) (b : Bool) (e : Option ℕ) (c : Option O) → (if b then along_edge d h e c else h) ≡ along_edge d h (if b then e else None) c
  either h true e c = refl
  either h false e c = refl

  -- an operation becomes the unconditional branch along the edge that is picked, if one is
  pub head_turned : (p : Ptr Operation) (v : OperationView O) (rs : Tree by_handle (in_program O B) Regions) → operation_at old p ≡ Some v → AreTree old Regions v.regions rs
      → decide_head d (known_alone d old) (head_of {B = B} p v) rs ≡ along_edge d (head_of {B = B} p v) (picked_edge d old p) d.plain
  head_turned p v rs there inner =
      let h : ProgramHead O B = head_of {B = B} p v in
      let test : (is_bare d h rs && not (d.is_plain v.payload)) ≡ can_decide d (Some v) =
      (λ i. (d.is_branch v.payload && (empty_too v.results i && end_too v.regions rs inner i)) && not (d.is_plain v.payload))
      ∙ reordered (d.is_branch v.payload) (is_empty v.results) (is_empty v.regions) (not (d.is_plain v.payload)) in
      let edge : Option ℕ = d.edge v.payload (map (known_alone d old) v.operands) in
      ap (λ b. if b then along_edge d h edge d.plain else h) test
      ∙ either h (can_decide d (Some v)) edge d.plain
      ∙ ap (λ o. along_edge d h (if can_decide d o then edge_if d (map (known_alone d old) (unwrap_or (option_map (λ (x : OperationView O). x.operands) o) [])) o else None) d.plain) (sym there)
