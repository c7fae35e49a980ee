-- The operations of a tree, each with its place, come in walk order one after the other, as the entities inside the root do.
use Rattle.std.proofs.Common.{◌≡◌, inl, inr, ⊎_elim, ℕ, zero, suc, ◌<◌, List, [], ◌∷◌, ◌++◌, map, Some, option_map, unwrap_or, refl, sym, ap, ◌∙◌, subst, arith}
use Rattle.std.proofs.lemmas.List.{map-append}
use Rattle.std.proofs.lemmas.Simd.{map-map}
use Rattle.ir_program.specs.Preorder.{nodes_in, IsPreorder, nothing, more}
use Rattle.ir_program.specs.Program.{Program, OperationView, BlockView, RegionView, operation_at, block_at, region_at}
use Rattle.ir_program.specs.declared.handles.IRNode.{IRNode}
use Rattle.ir_program.specs.declared.handles.IRNode.TheVariants.{Operation as OperationNode, Region as RegionNode, BasicBlock as BlockNode}
use Rattle.ir_program.specs.declared.handles.Ptr.{Ptr}
use Rattle.ir_program.specs.declared.handles.Operation.{Operation}
use Rattle.ir_program.specs.declared.handles.Region.{Region}
use Rattle.ir_program.specs.declared.handles.BasicBlock.{BasicBlock}
use Rattle.ir_trees.specs.Stands.{Handles, ProgramTree, AreTree, no_operations, no_blocks, no_regions, first_operation, first_block, first_region, StandsFor}
use Rattle.ir_trees.specs.Trees.{Sort, Operations, Blocks, Regions, end, operation, block, region}
use Rattle.ir_trees.specs.Places.{AnOperation, reached, at_place}
use Rattle.ir_trees.proofs.Grown.{nodes}
use Rattle.ir_trees.proofs.Members.{Has, has_front, has_back, has_either, has_map, has_made}
use Rattle.ir_trees.proofs.Picked.{operations_among, operations_joined}
use Rattle.kit_checks.specs.Sites.{Listed, IsBefore}

-- an operation of a list with the indices by which it is reached
pub record Entry : Type 0 where
  pub first : ℕ
  pub path : List ℕ
  pub name : Ptr Operation

abbrev pub name_of : Entry → Ptr Operation
name_of e = e.name

abbrev pub place_of : Entry → List ℕ
place_of e = e.first ∷ e.path

abbrev inside : Entry → Entry
inside e = record { first = zero; path = e.first ∷ e.path; name = e.name }

abbrev onward : Entry → Entry
onward e = record { first = suc e.first; path = e.path; name = e.name }

abbrev pub entries : {O B : Type 0} {s : Sort} → Listed O B s → List Entry
entries end = []
entries (operation h rs rest) = record { first = zero; path = []; name = h.name } ∷ (map inside (entries rs) ++ map onward (entries rest))
entries (block l ops rest) = map inside (entries ops) ++ map onward (entries rest)
entries (region bs rest) = map inside (entries bs) ++ map onward (entries rest)

-- each before all that come behind it
abbrev pub AreInOrder : List Entry → Type 0
AreInOrder [] = Unit {0}
AreInOrder (e ∷ es) = ((f : Entry) → Has f es → IsBefore (place_of e) (place_of f)) × AreInOrder es

inside_order : (es : List Entry) → AreInOrder es → AreInOrder (map inside es)
inside_order [] h = tt
inside_order (e ∷ es) h = (
  λ f has. let m = has_made inside es f has in subst (λ (x : Entry). IsBefore (place_of (inside e)) (place_of x)) (sym m.2) (inr (refl, h.0 m.0 m.1)),
  inside_order es h.1,
)

onward_before : (e f : Entry) → IsBefore (place_of e) (place_of f) → IsBefore (place_of (onward e)) (place_of (onward f))
onward_before e f h = ⊎_elim (λ (less : e.first < f.first). inl (omega arith)) (λ same. inr (ap suc same.0, same.1)) h

onward_order : (es : List Entry) → AreInOrder es → AreInOrder (map onward es)
onward_order [] h = tt
onward_order (e ∷ es) h = (
  λ f has. let m = has_made onward es f has in subst (λ (x : Entry). IsBefore (place_of (onward e)) (place_of x)) (sym m.2) (onward_before e m.0 (h.0 m.0 m.1)),
  onward_order es h.1,
)

joined_order : (es fs : List Entry) → AreInOrder es → AreInOrder fs → ((e f : Entry) → Has e es → Has f fs → IsBefore (place_of e) (place_of f)) → AreInOrder (es ++ fs)
joined_order [] fs a b across = b
joined_order (e ∷ es) fs a b across = (
  λ f has. ⊎_elim (a.0 f) (across e f (inl refl)) (has_either es fs f has),
  joined_order es fs a.1 b (λ x y h. across x y (inr h)),
)

parts_order : (es fs : List Entry) → AreInOrder es → AreInOrder fs → AreInOrder (map inside es ++ map onward fs)
parts_order es fs a b = joined_order (map inside es) (map onward fs) (inside_order es a) (onward_order fs b) (λ e f x y.
    let m = has_made inside es e x in
    let n = has_made onward fs f y in
    let start : e.first ≡ zero = ap (λ (d : Entry). d.first) m.2 in
    let behind : f.first ≡ suc n.0.first = ap (λ (d : Entry). d.first) n.2 in
    inl (omega arith))

part_behind : (es fs : List Entry) (p : Ptr Operation) (f : Entry) → Has f (map inside es ++ map onward fs) → IsBefore (zero ∷ []) (place_of f)
part_behind es fs p f has = ⊎_elim
    (λ a. let m = has_made inside es f a in subst (λ (x : Entry). IsBefore (zero ∷ []) (place_of x)) (sym m.2) (inr (refl, tt)))
    (λ b. let m = has_made onward fs f b in let behind : f.first ≡ suc m.0.first = ap (λ (d : Entry). d.first) m.2 in inl (omega arith))
    (has_either (map inside es) (map onward fs) f has)

pub entries_order : {O B : Type 0} {s : Sort} (t : Listed O B s) → AreInOrder (entries t)
entries_order end = tt
entries_order (operation h rs rest) = (part_behind (entries rs) (entries rest) h.name, parts_order (entries rs) (entries rest) (entries_order rs) (entries_order rest))
entries_order (block l ops rest) = parts_order (entries ops) (entries rest) (entries_order ops) (entries_order rest)
entries_order (region bs rest) = parts_order (entries bs) (entries rest) (entries_order bs) (entries_order rest)

-- the names of the entries are those of the operations, in preorder
names_joined : (es fs : List Entry) → map name_of (map inside es ++ map onward fs) ≡ map name_of es ++ map name_of fs
names_joined es fs = map-append name_of (map inside es) (map onward fs) ∙ (λ i. map-map name_of inside es i ++ map-map name_of onward fs i)

module _ {O B : Type 0} (c : Program O B) where
  in_operation : (e : IRNode) (p : Ptr Operation) (v : OperationView O) → e ≡ OperationNode p → operation_at c p ≡ Some v → nodes_in c e ≡ nodes Regions v.regions
  in_operation e p v same there = ap (nodes_in c) same ∙ ap (λ o. map RegionNode (unwrap_or (option_map (λ (x : OperationView O). x.regions) o) [])) there

  in_block : (e : IRNode) (b : Ptr BasicBlock) (v : BlockView B) → e ≡ BlockNode b → block_at c b ≡ Some v → nodes_in c e ≡ nodes Operations v.operations
  in_block e b v same there = ap (nodes_in c) same ∙ ap (λ o. map OperationNode (unwrap_or (option_map (λ (x : BlockView B). x.operations) o) [])) there

  in_region : (e : IRNode) (r : Ptr Region) (v : RegionView) → e ≡ RegionNode r → region_at c r ≡ Some v → nodes_in c e ≡ nodes Blocks v.blocks
  in_region e r v same there = ap (nodes_in c) same ∙ ap (λ o. map BlockNode (unwrap_or (option_map (λ (x : RegionView). x.blocks) o) [])) there

  in_order : (s : Sort) (hs : Handles s) (t : Listed O B s) (es ns : List IRNode) → AreTree c s hs t → IsPreorder c es ns → es ≡ nodes s hs → map name_of (entries t) ≡ operations_among ns
  in_order _ _ _ _ _ no_operations nothing same = refl
  in_order _ _ _ _ _ no_blocks nothing same = refl
  in_order _ _ _ _ _ no_regions nothing same = refl
  in_order _ _ _ _ _ no_operations (more e es within rest d ds) same = absurd (cc)
  in_order _ _ _ _ _ no_blocks (more e es within rest d ds) same = absurd (cc)
  in_order _ _ _ _ _ no_regions (more e es within rest d ds) same = absurd (cc)
  in_order _ _ _ _ _ (first_operation p ps v rs left there below behind) nothing same = absurd (cc)
  in_order _ _ _ _ _ (first_block p ps v rs left there below behind) nothing same = absurd (cc)
  in_order _ _ _ _ _ (first_region p ps v rs left there below behind) nothing same = absurd (cc)
  in_order _ _ _ _ _ (first_operation p ps v rs left there below behind) (more e es within rest d ds) same =
      let first : e ≡ OperationNode p = cc in
      let a = in_order Regions v.regions rs (nodes_in c e) within below d (in_operation e p v first there) in
      let b = in_order Operations ps left es rest behind ds cc in
      ap (λ l. p ∷ l) (names_joined (entries rs) (entries left) ∙ (λ k. a k ++ b k) ∙ sym (operations_joined within rest)) ∙ sym (ap (λ x. operations_among (x ∷ (within ++ rest))) first)
  in_order _ _ _ _ _ (first_block p ps v ops left there below behind) (more e es within rest d ds) same =
      let first : e ≡ BlockNode p = cc in
      let a = in_order Operations v.operations ops (nodes_in c e) within below d (in_block e p v first there) in
      let b = in_order Blocks ps left es rest behind ds cc in
      names_joined (entries ops) (entries left) ∙ (λ k. a k ++ b k) ∙ sym (operations_joined within rest) ∙ sym (ap (λ x. operations_among (x ∷ (within ++ rest))) first)
  in_order _ _ _ _ _ (first_region p ps v bs left there below behind) (more e es within rest d ds) same =
      let first : e ≡ RegionNode p = cc in
      let a = in_order Blocks v.blocks bs (nodes_in c e) within below d (in_region e p v first there) in
      let b = in_order Regions ps left es rest behind ds cc in
      names_joined (entries bs) (entries left) ∙ (λ k. a k ++ b k) ∙ sym (operations_joined within rest) ∙ sym (ap (λ x. operations_among (x ∷ (within ++ rest))) first)

-- the root as a list of one operation
abbrev pub alone : {O B : Type 0} → ProgramTree O B → Listed O B Operations
alone t = operation t.head t.regions end

pub alone_stands : {O B : Type 0} (c : Program O B) (op : Ptr Operation) (t : ProgramTree O B) → StandsFor c op t → AreTree c Operations (op ∷ []) (alone t)
alone_stands {O} {B} c op t s =
    subst (λ h. AreTree c Operations (op ∷ []) (operation h t.regions end)) (sym s.head) (first_operation op [] s.view t.regions end s.there s.regions no_operations)

pub root_order : {O B : Type 0} (c : Program O B) (op : Ptr Operation) (t : ProgramTree O B) → StandsFor c op t → (ns : List IRNode) → IsPreorder c (OperationNode op ∷ []) ns → map name_of (entries (alone t)) ≡ operations_among ns
root_order c op t s ns order = in_order c Operations (op ∷ []) (alone t) (OperationNode op ∷ []) ns (alone_stands c op t s) order refl

-- an operation at a place is an entry
front : (es fs : List Entry) (e : Entry) → Has e es → Has (inside e) (map inside es ++ map onward fs)
front es fs e h = has_front (map inside es) (map onward fs) (inside e) (has_map inside es e h)

back : (es fs : List Entry) (e : Entry) → Has e fs → Has (onward e) (map inside es ++ map onward fs)
back es fs e h = has_back (map inside es) (map onward fs) (onward e) (has_map onward fs e h)

module _ {O B : Type 0} where
  entry_reached : {s : Sort} (t : Listed O B s) (k : ℕ) (p : List ℕ) (u : ProgramTree O B) → reached t k p ≡ Some (AnOperation u) → Has (record { first = k; path = p; name = u.head.name }) (entries t)
  entry_reached end k p u e = cc
  entry_reached (operation h rs rest) zero [] u e =
      let root : ProgramTree O B = record { head = h; regions = rs } in
      let same : root ≡ u = cc in
      inl (ap (λ (x : ProgramTree O B). record { first = zero; path = []; name = x.head.name }) (sym same))
  entry_reached (operation h rs rest) zero (k ∷ p) u e = inr (front (entries rs) (entries rest) _ (entry_reached rs k p u e))
  entry_reached (operation h rs rest) (suc n) p u e = inr (back (entries rs) (entries rest) _ (entry_reached rest n p u e))
  entry_reached (block l ops rest) zero [] u e = cc
  entry_reached (block l ops rest) zero (k ∷ p) u e = front (entries ops) (entries rest) _ (entry_reached ops k p u e)
  entry_reached (block l ops rest) (suc n) p u e = back (entries ops) (entries rest) _ (entry_reached rest n p u e)
  entry_reached (region bs rest) zero [] u e = cc
  entry_reached (region bs rest) zero (k ∷ p) u e = front (entries bs) (entries rest) _ (entry_reached bs k p u e)
  entry_reached (region bs rest) (suc n) p u e = back (entries bs) (entries rest) _ (entry_reached rest n p u e)

  from_root : (t : ProgramTree O B) (p : List ℕ) → reached (alone t) zero p ≡ at_place t p
  from_root t [] = refl
  from_root t (k ∷ p) = refl

  pub entry_at : (t : ProgramTree O B) (p : List ℕ) (u : ProgramTree O B) → at_place t p ≡ Some (AnOperation u) → Has (record { first = zero; path = p; name = u.head.name }) (entries (alone t))
  entry_at t p u e = entry_reached (alone t) zero p u (from_root t p ∙ e)

-- walk order is strict
pub not_both : (p q : List ℕ) → IsBefore p q → IsBefore q p → ⊥
not_both [] [] a b = a
not_both [] (k ∷ q) a b = b
not_both (j ∷ p) [] a b = a
not_both (j ∷ p) (k ∷ q) a b = ⊎_elim
    (λ (x : j < k). ⊎_elim (λ (y : k < j). omega arith) (λ (y : (k ≡ j) × IsBefore q p). let e = y.0 in omega arith) b)
    (λ (x : (j ≡ k) × IsBefore p q). let d = x.0 in ⊎_elim (λ (y : k < j). omega arith) (λ (y : (k ≡ j) × IsBefore q p). not_both p q x.1 y.1) b)
    a

pub not_itself : (p : List ℕ) → IsBefore p p → ⊥
not_itself p h = not_both p p h h
