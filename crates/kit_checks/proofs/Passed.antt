-- Blocks of regions, and regions of operations, that pass a test one after the other.
use Rattle.std.proofs.Common.{◌≡◌, ◌≢◌, inl, inr, ⊎_elim, ◌↔◌, Bool, true, false, List, [], ◌∷◌, ◌++◌, map, Some, None, IsTrue, slice_get, refl, sym, ap, ◌∙◌, subst, append_assoc}
use Rattle.std.proofs.lemmas.List.{append-nil}
use Rattle.std.proofs.lemmas.Bool.{false≢true}
use Rattle.ir_program.specs.Lists.{blocks_in, regions_in, operations_in}
use Rattle.ir_program.specs.Program.{Program}
use Rattle.ir_program.specs.declared.handles.Ptr.{Ptr}
use Rattle.ir_program.specs.declared.handles.Operation.{Operation}
use Rattle.ir_program.specs.declared.handles.Region.{Region}
use Rattle.ir_program.specs.declared.handles.BasicBlock.{BasicBlock}
use Rattle.ir_trees.specs.Stands.{ProgramTree, AreTree, StandsFor, no_operations, first_operation}
use Rattle.ir_trees.specs.Trees.{Operations}
use Rattle.ir_trees.proofs.Members.{Has, at_has, has_at, has_front, has_back, has_either}
use Rattle.kit_checks.specs.Passing.{OfBody, OfRegion}
use Rattle.kit_checks.specs.Sites.{Listed, Body, operation_list, block_list, region_list}
use Rattle.kit_checks.specs.Words.{Every, joined, bodies_of}
use Rattle.kit_checks.proofs.Down.{block_listed, region_listed, regions_are, operations_are}
use Rattle.kit_checks.proofs.Upward.{block_tree, region_tree}

-- these are left of a list, and it holds of those that were seen
module _ {X : Type 0} (P : X → Type 0) (all : List X) where
  pub record IsSeen (left : List X) : Type 0 where
    pub done : List X
    pub parts : all ≡ done ++ left
    pub each : (x : X) → Has x done → P x

  pub seen_none : (left : List X) → left ≡ all → IsSeen left
  seen_none left is = record { done = []; parts = sym is; each = λ x has. absurd has }

  pub seen_more : (was left : List X) (x : X) → was ≡ x ∷ left → P x → IsSeen was → IsSeen left
  seen_more was left x is here h = record {
    done = h.done ++ x ∷ [];
    parts = h.parts ∙ ap (λ l. h.done ++ l) is ∙ sym (append_assoc h.done (x ∷ []) left);
    each = λ y has. ⊎_elim (h.each y) (λ new. ⊎_elim (λ same. subst P (sym same) here) (λ none. absurd none) new) (has_either h.done (x ∷ []) y has);
  }

  pub seen_all : (left : List X) → left ≡ [] → IsSeen left → (x : X) → Has x all → P x
  seen_all left is h x has = h.each x (subst (Has x) (h.parts ∙ ap (λ l. h.done ++ l) is ∙ append-nil h.done) has)

  pub next_has : (was left : List X) (x : X) → was ≡ x ∷ left → IsSeen was → Has x all
  next_has was left x is h = subst (Has x) (sym (h.parts ∙ ap (λ l. h.done ++ l) is)) (has_back h.done (x ∷ left) x (inl refl))

-- each member by index, and each member
pub every_has : {X : Type 0} (P : X → Type 0) (xs : List X) → Every P xs → (x : X) → Has x xs → P x
every_has P xs every x has = let at = has_at xs x has in every at.0 x at.1

pub has_every : {X : Type 0} (P : X → Type 0) (xs : List X) → ((x : X) → Has x xs → P x) → Every P xs
has_every P xs all k x here = all x (at_has xs k x here)

pub in_joined : {X Y : Type 0} (f : X → List Y) (xs : List X) (x : X) (y : Y) → Has x xs → Has y (f x) → Has y (joined (map f xs))
in_joined f [] x y a b = absurd a
in_joined f (z ∷ xs) x y a b = ⊎_elim
    (λ same. has_front (f z) (joined (map f xs)) y (subst (λ w. Has y (f w)) same b))
    (λ rest. has_back (f z) (joined (map f xs)) y (in_joined f xs x y rest b))
    a

pub from_joined : {X Y : Type 0} (f : X → List Y) (xs : List X) (y : Y) → Has y (joined (map f xs)) → (x : X) × Has x xs × Has y (f x)
from_joined f [] y h = absurd h
from_joined f (z ∷ xs) y h = ⊎_elim
    (λ here. (z, inl refl, here))
    (λ rest. let m = from_joined f xs y rest in (m.0, inr m.1, m.2))
    (has_either (f z) (joined (map f xs)) y h)

module _ {O B : Type 0} (c : Program O B) (P : Body O B → Type 0) where
  -- the block passes, whatever tree it is
  abbrev pub BlockGood : Ptr BasicBlock → Type 0
  BlockGood b = OfBody c b P

  abbrev pub RegionGood : Ptr Region → Type 0
  RegionGood r = OfRegion c r (λ blocks. Every P (block_list blocks))

  pub good_if : (b : Ptr BasicBlock) (is : Bool) → is ≡ true → OfBody c b (λ x. IsTrue is ↔ P x) → BlockGood b
  good_if b is holds tells x at = (tells x at).0 holds

  pub region_good_if : (r : Ptr Region) (is : Bool) → is ≡ true → OfRegion c r (λ blocks. IsTrue is ↔ Every P (block_list blocks)) → RegionGood r
  region_good_if r is holds tells x at = (tells x at).0 holds

  pub all_blocks : (r : Ptr Region) → ((b : Ptr BasicBlock) → Has b (blocks_in c r) → BlockGood b) → OfRegion c r (λ blocks. IsTrue true ↔ Every P (block_list blocks))
  all_blocks r all blocks at = (
    λ h k body here. let l = block_listed c (blocks_in c r) blocks at.listed k body here in all body.label.name (at_has (blocks_in c r) k body.label.name l.0) body l.1,
    λ h. refl,
  )

  pub bad_block : (r : Ptr Region) (b : Ptr BasicBlock) (is : Bool) → Has b (blocks_in c r) → is ≡ false → OfBody c b (λ x. IsTrue is ↔ P x) → OfRegion c r (λ blocks. IsTrue false ↔ Every P (block_list blocks))
  bad_block r b is has fails tells blocks at = (
    λ h. absurd (false≢true h),
    λ every.
        let k = has_at (blocks_in c r) b has in
        let body = block_tree c (blocks_in c r) blocks at.listed k.0 b k.1 in
        absurd (false≢true (sym fails ∙ (tells body.0 body.2).1 (every k.0 body.0 body.1))),
  )

  pub all_regions : (op : Ptr Operation) → ((r : Ptr Region) → Has r (regions_in c op) → RegionGood r) → (u : ProgramTree O B) → StandsFor c op u → IsTrue true ↔ Every P (bodies_of u)
  all_regions op all u s = (
    λ h. has_every P (bodies_of u) (λ body has.
        let m = from_joined block_list (region_list u.regions) body has in
        let k = has_at (region_list u.regions) m.0 m.1 in
        let r = region_listed c s.view.regions u.regions s.regions k.0 m.0 k.1 in
        every_has P (block_list m.0) (all r.0 (at_has (regions_in c op) k.0 r.0 (subst (λ l. slice_get l k.0 ≡ Some r.0) (regions_are c op u s) r.1)) m.0 r.2) body m.2),
    λ h. refl,
  )

  pub bad_region : (op : Ptr Operation) (r : Ptr Region) (is : Bool) → Has r (regions_in c op) → is ≡ false → OfRegion c r (λ blocks. IsTrue is ↔ Every P (block_list blocks)) →
      (u : ProgramTree O B) → StandsFor c op u → IsTrue false ↔ Every P (bodies_of u)
  bad_region op r is has fails tells u s = (
    λ h. absurd (false≢true h),
    λ every.
        let k = has_at (regions_in c op) r has in
        let t = region_tree c s.view.regions u.regions s.regions k.0 r (subst (λ l. slice_get l k.0 ≡ Some r) (sym (regions_are c op u s)) k.1) in
        absurd (false≢true (sym fails ∙ (tells t.0 t.2).1 (has_every P (block_list t.0) (λ body here.
        every_has P (bodies_of u) every body (in_joined block_list (region_list u.regions) t.0 body (at_has (region_list u.regions) k.0 t.0 t.1) here))))),
  )

-- the first operation of a block, and its list
module _ {O B : Type 0} (c : Program O B) where
  none_listed : (ps : List (Ptr Operation)) (ops : Listed O B Operations) → AreTree c Operations ps ops → slice_get ps 0 ≡ None → operation_list ops ≡ []
  none_listed _ _ no_operations h = refl
  none_listed _ _ (first_operation p ps v rs rest there below behind) h = cc

  some_listed : (ps : List (Ptr Operation)) (ops : Listed O B Operations) (p : Ptr Operation) → AreTree c Operations ps ops → slice_get ps 0 ≡ Some p → operation_list ops ≢ []
  some_listed _ _ q no_operations h e = cc
  some_listed _ _ q (first_operation p ps v rs rest there below behind) h e = cc

  pub is_empty : (b : Ptr BasicBlock) → slice_get (operations_in c b) 0 ≡ None → OfBody c b (λ x. IsTrue false ↔ (operation_list x.operations ≢ []))
  is_empty b none x at = (
    λ h. absurd (false≢true h),
    λ filled. absurd (filled (none_listed at.view.operations x.operations at.operations (ap (λ l. slice_get l 0) (operations_are c b x at) ∙ none))),
  )

  pub is_filled : (b : Ptr BasicBlock) (p : Ptr Operation) → slice_get (operations_in c b) 0 ≡ Some p → OfBody c b (λ x. IsTrue true ↔ (operation_list x.operations ≢ []))
  is_filled b p some x at = (
    λ h. some_listed at.view.operations x.operations p at.operations (ap (λ l. slice_get l 0) (operations_are c b x at) ∙ some),
    λ h. refl,
  )
