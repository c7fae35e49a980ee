-- Trees that are the same up to names are the same under a renaming of all names.
use Rattle.std.proofs.Common.{◌≡◌, ◌≢◌, ◌⊎◌, ◌↔◌, ℕ, zero, suc, List, [], ◌∷◌, ◌++◌, map, Some, option_map, slice_get}
use Rattle.std.proofs.Common.{refl, sym, ap, ◌∙◌, inl, inr, ⊎_elim}
use Rattle.std.proofs.lemmas.Option.{slice_get-map}
use Rattle.std.proofs.lemmas.Simd.{map-map}
use Rattle.ir_trees.specs.Names.{Names, Contents}
use Rattle.ir_trees.specs.Renames.{Maps, rename_defined, rename_head, rename_label, rename, rename_root, own_names}
use Rattle.ir_trees.specs.Renames.{names_of, values_at, values_in, blocks_in, values_of, blocks_of, RepeatAlike, IsSameUpToNames, HaveTests}
use Rattle.ir_trees.specs.Searched.{heads_in, operation_names}
use Rattle.ir_trees.specs.Trees.{Defined, Head, Label, Sort, Tree, end, operation, block, region, Root}
use Rattle.ir_trees.proofs.Alike.{nothing, AsLong}
use Rattle.ir_trees.proofs.Renamed.{operation_names_renamed, blocks_renamed, values_renamed}
use Rattle.ir_trees.proofs.Same.{renaming_found}
use Rattle.opt_trees.specs.Occurrences.{Injection, Renaming, maps}
use Rattle.opt_trees.proofs.Lists.{some_same}

-- a map of all names, and the way back
pub record Permutation (X : Type 0) : Type 0 where
  pub fun : X → X
  pub inv : X → X
  pub there : (x : X) → inv (fun x) ≡ x
  pub back : (x : X) → fun (inv x) ≡ x

module _ {X : Type 0} (test : (x y : X) → (x ≡ y) ⊎ (x ≢ y)) where
  -- the one for the other, and the other for the one
  abbrev swap : X → X → X → X
  swap a b x = ⊎_elim (λ _. b) (λ _. ⊎_elim (λ _. a) (λ _. x) (test x b)) (test x a)

  -- it makes the one the other
  swap_left : (a b x : X) → x ≡ a → swap a b x ≡ b
  swap_left a b x e = elim (test x a) as (λ q. ⊎_elim (λ _. b) (λ _. ⊎_elim (λ _. a) (λ _. x) (test x b)) q ≡ b) [
    | inl same ↦ refl
    | inr differ ↦ absurd (differ e)
  ]

  -- it makes the other the one
  swap_right : (a b x : X) → x ≡ b → swap a b x ≡ a
  swap_right a b x e = elim (test x a) as (λ q. ⊎_elim (λ _. b) (λ _. ⊎_elim (λ _. a) (λ _. x) (test x b)) q ≡ a) [
    | inl same ↦ sym e ∙ same
    | inr differ ↦ elim (test x b) as (λ q. ⊎_elim (λ _. a) (λ _. x) q ≡ a) [
      | inl same ↦ refl
      | inr apart ↦ absurd (apart e)
    ]
  ]

  -- what is neither stays
  swap_neither : (a b x : X) → (x ≢ a) → (x ≢ b) → swap a b x ≡ x
  swap_neither a b x f g = elim (test x a) as (λ q. ⊎_elim (λ _. b) (λ _. ⊎_elim (λ _. a) (λ _. x) (test x b)) q ≡ x) [
    | inl same ↦ absurd (f same)
    | inr differ ↦ elim (test x b) as (λ q. ⊎_elim (λ _. a) (λ _. x) q ≡ x) [
      | inl same ↦ absurd (g same)
      | inr apart ↦ refl
    ]
  ]

  -- what is the one exactly where it is the other stays
  swap_both : (a b x : X) → (x ≡ a ↔ x ≡ b) → swap a b x ≡ x
  swap_both a b x h = ⊎_elim
      (λ e. swap_left a b x e ∙ sym (h.0 e))
      (λ f. swap_neither a b x f (λ e. f (h.1 e)))
      (test x a)

  -- twice it changes nothing
  swap_twice : (a b x : X) → swap a b (swap a b x) ≡ x
  swap_twice a b x = ⊎_elim
      (λ e. ap (swap a b) (swap_left a b x e) ∙ swap_right a b b refl ∙ sym e)
      (λ f. ⊎_elim
      (λ e. ap (swap a b) (swap_right a b x e) ∙ swap_left a b a refl ∙ sym e)
      (λ g. ap (swap a b) (swap_neither a b x f g) ∙ swap_neither a b x f g)
      (test x b))
      (test x a)

  -- a list in which the one stands exactly where the other does stays
  swap_all : (a b : X) (ys : List X) → ((k : ℕ) (z : X) → slice_get ys k ≡ Some z → (z ≡ a ↔ z ≡ b)) →
      map (swap a b) ys ≡ ys
  swap_all a b [] h = refl
  swap_all a b (y ∷ ys) h = λ i. swap_both a b y (h zero y refl) i ∷ swap_all a b ys (λ k z e. h (suc k) z e) i

  -- each for itself
  map_own : (xs : List X) → map (λ (x : X). x) xs ≡ xs
  map_own [] = refl
  map_own (x ∷ xs) = ap (λ l. x ∷ l) (map_own xs)

  -- what the map makes of a list it makes of what stands at each index
  there_at : (f : Permutation X) (xs ys : List X) → map f.fun xs ≡ ys → (k : ℕ) → option_map f.fun (slice_get xs k) ≡ slice_get ys k
  there_at f xs ys e k = sym (slice_get-map f.fun xs k) ∙ ap (λ l. slice_get l k) e

  -- the way back leads the list back
  back_all : (f : Permutation X) (xs ys : List X) → map f.fun xs ≡ ys → map f.inv ys ≡ xs
  back_all f xs ys e =
      ap (map f.inv) (sym e) ∙ map-map f.inv f.fun xs ∙ ap (λ g. map g xs) (λ i x. f.there x i) ∙ map_own xs

  -- at each index, too
  back_at : (f : Permutation X) (xs ys : List X) → map f.fun xs ≡ ys → (k : ℕ) → option_map f.inv (slice_get ys k) ≡ slice_get xs k
  back_at f xs ys e k = sym (slice_get-map f.inv ys k) ∙ ap (λ l. slice_get l k) (back_all f xs ys e)

  -- the map of the rests, with the first swapped into its place
  further : (x y : X) (f : Permutation X) → Permutation X
  further x y f = record {
    fun = λ z. swap (f.fun x) y (f.fun z);
    inv = λ z. f.inv (swap (f.fun x) y z);
    there = λ z. ap f.inv (swap_twice (f.fun x) y (f.fun z)) ∙ f.there z;
    back = λ z. ap (swap (f.fun x) y) (f.back (swap (f.fun x) y z)) ∙ swap_twice (f.fun x) y z;
  }

  -- it does it for the longer lists
  further_is : (x y : X) (xs ys : List X) (f : Permutation X) → map f.fun xs ≡ ys → RepeatAlike (x ∷ xs) (y ∷ ys) →
      map (further x y f).fun (x ∷ xs) ≡ y ∷ ys
  unfolding further
  further_is x y xs ys f e alike =
      let as_first : (k : ℕ) (z : X) → slice_get ys k ≡ Some z → z ≡ f.fun x → z ≡ y = λ k z at same.
      let old : slice_get xs k ≡ Some x =
      sym (back_at f xs ys e k) ∙ ap (option_map f.inv) at ∙ ap Some (ap f.inv same ∙ f.there x) in
      let new : Some y ≡ slice_get ys k = (alike zero (suc k)).0 (sym old) in
      some_same z y (sym at ∙ sym new) in
      let as_other : (k : ℕ) (z : X) → slice_get ys k ≡ Some z → z ≡ y → z ≡ f.fun x = λ k z at same.
      let old : Some x ≡ slice_get xs k = (alike zero (suc k)).1 (ap Some (sym same) ∙ sym at) in
      some_same z (f.fun x) (sym at ∙ sym (there_at f xs ys e k) ∙ ap (option_map f.fun) (sym old)) in
      let rest : map (λ z. swap (f.fun x) y (f.fun z)) xs ≡ ys =
      sym (map-map (swap (f.fun x) y) f.fun xs) ∙ ap (map (swap (f.fun x) y)) e
      ∙ swap_all (f.fun x) y ys (λ k z at. (as_first k z at, as_other k z at)) in
      λ i. swap_left (f.fun x) y (f.fun x) refl i ∷ rest i

  -- of lists of one length that are the same at the same indices the one is the other under a map of all
  pub permutation : (xs ys : List X) → AsLong xs ys → RepeatAlike xs ys → (f : Permutation X) × (map f.fun xs ≡ ys)
  permutation [] [] long alike = (record { fun = λ x. x; inv = λ x. x; there = λ x. refl; back = λ x. refl }, refl)
  permutation [] (y ∷ ys) long alike = cc
  permutation (x ∷ xs) [] long alike = cc
  permutation (x ∷ xs) (y ∷ ys) long alike =
      let r = permutation xs ys (let rest : AsLong xs ys = cc in rest) (λ j k. alike (suc j) (suc k)) in
      (further x y r.0, further_is x y xs ys r.0 r.1 alike)

-- a map of all names keeps them apart
abbrev pub injection : {X : Type 0} → Permutation X → Injection X X
injection f = record {
  to = f.fun;
  back = λ y. Some (f.inv y);
  there = λ x. ap Some (f.there x);
  from = λ y x e. ap f.fun (sym (some_same (f.inv y) x e)) ∙ f.back y;
}

-- what two maps make of a list is the same where it is of its parts
parts : {X Y : Type 0} (f g : X → Y) (xs ys : List X) → map f (xs ++ ys) ≡ map g (xs ++ ys) →
    (map f xs ≡ map g xs) × (map f ys ≡ map g ys)
parts f g [] ys e = (refl, e)
parts f g (x ∷ xs) ys e =
    let first : f x ≡ g x = cc in
    let more : map f (xs ++ ys) ≡ map g (xs ++ ys) = cc in
    let r = parts f g xs ys more in
    (λ i. first i ∷ r.0 i, r.1)

-- maps that make the same of the names of definitions make the same of the definitions
definitions_alike : {V W T : Type 0} (f g : V → W) (ds : List (Defined V T)) → map f (names_of ds) ≡ map g (names_of ds) →
    map (rename_defined {T = T} f) ds ≡ map (rename_defined {T = T} g) ds
definitions_alike f g [] e = refl
definitions_alike f g (d ∷ ds) e =
    let first : f d.name ≡ g d.name = cc in
    let more : map f (names_of ds) ≡ map g (names_of ds) = cc in
    let rest = definitions_alike f g ds more in
    λ i. record { name = first i; holds = d.holds } ∷ rest i

-- maps that make the same of a tree's names make the same of the tree
module _ {N M : Names} {S : Contents} (f g : Maps N M) where
  -- of an operation
  head_alike : (h : Head N S) → f.operation h.name ≡ g.operation h.name → map f.block h.successors ≡ map g.block h.successors →
      map f.value (values_at h) ≡ map g.value (values_at h) → rename_head f h ≡ rename_head g h
  head_alike h n b v =
      let r = parts f.value g.value (names_of h.results) h.operands v in
      let results = definitions_alike f.value g.value h.results r.0 in
      λ i. record { name = n i; content = h.content; results = results i; operands = r.1 i; successors = b i }

  -- of a block
  label_alike : (l : Label N S) → f.block l.name ≡ g.block l.name →
      map f.value (names_of l.arguments) ≡ map g.value (names_of l.arguments) → rename_label f l ≡ rename_label g l
  label_alike l b v =
      let arguments = definitions_alike f.value g.value l.arguments v in
      λ i. record { name = b i; content = l.content; arguments = arguments i }

  -- the names that the maps give operations
  abbrev by_f : Head N S → M.operation
  by_f h = f.operation h.name

  abbrev by_g : Head N S → M.operation
  by_g h = g.operation h.name

  -- of a list
  tree_alike : {s : Sort} (t : Tree N S s) → map by_f (heads_in t) ≡ map by_g (heads_in t) →
      map f.block (blocks_in t) ≡ map g.block (blocks_in t) → map f.value (values_in t) ≡ map g.value (values_in t) →
      rename f t ≡ rename g t
  tree_alike end n b v = refl
  tree_alike (operation h rs rest) n b v =
      let name : f.operation h.name ≡ g.operation h.name = cc in
      let names : map by_f (heads_in rs ++ heads_in rest) ≡ map by_g (heads_in rs ++ heads_in rest) = cc in
      let ns = parts by_f by_g (heads_in rs) (heads_in rest) names in
      let b1 = parts f.block g.block h.successors (blocks_in rs ++ blocks_in rest) b in
      let b2 = parts f.block g.block (blocks_in rs) (blocks_in rest) b1.1 in
      let v1 = parts f.value g.value (values_at h) (values_in rs ++ values_in rest) v in
      let v2 = parts f.value g.value (values_in rs) (values_in rest) v1.1 in
      let first = head_alike h name b1.0 v1.0 in
      let inner = tree_alike rs ns.0 b2.0 v2.0 in
      let later = tree_alike rest ns.1 b2.1 v2.1 in
      λ i. operation (first i) (inner i) (later i)
  tree_alike (block l ops rest) n b v =
      let name : f.block l.name ≡ g.block l.name = cc in
      let below : map f.block (blocks_in ops ++ blocks_in rest) ≡ map g.block (blocks_in ops ++ blocks_in rest) = cc in
      let ns = parts by_f by_g (heads_in ops) (heads_in rest) n in
      let b2 = parts f.block g.block (blocks_in ops) (blocks_in rest) below in
      let v1 = parts f.value g.value (names_of l.arguments) (values_in ops ++ values_in rest) v in
      let v2 = parts f.value g.value (values_in ops) (values_in rest) v1.1 in
      let first = label_alike l name v1.0 in
      let inner = tree_alike ops ns.0 b2.0 v2.0 in
      let later = tree_alike rest ns.1 b2.1 v2.1 in
      λ i. block (first i) (inner i) (later i)
  tree_alike (region bs rest) n b v =
      let ns = parts by_f by_g (heads_in bs) (heads_in rest) n in
      let b2 = parts f.block g.block (blocks_in bs) (blocks_in rest) b in
      let v2 = parts f.value g.value (values_in bs) (values_in rest) v in
      let inner = tree_alike bs ns.0 b2.0 v2.0 in
      let later = tree_alike rest ns.1 b2.1 v2.1 in
      λ i. region (inner i) (later i)

  -- of a root
  root_alike : (t : Root N S) → map f.operation (operation_names t) ≡ map g.operation (operation_names t) →
      map f.block (blocks_of t) ≡ map g.block (blocks_of t) → map f.value (values_of t) ≡ map g.value (values_of t) →
      rename_root f t ≡ rename_root g t
  root_alike t n b v =
      let name : f.operation t.head.name ≡ g.operation t.head.name = cc in
      let below : map f.operation (map (λ (h : Head N S). h.name) (heads_in t.regions))
      ≡ map g.operation (map (λ (h : Head N S). h.name) (heads_in t.regions)) = cc in
      let names : map by_f (heads_in t.regions) ≡ map by_g (heads_in t.regions) =
      sym (map-map f.operation (λ (h : Head N S). h.name) (heads_in t.regions)) ∙ below
      ∙ map-map g.operation (λ (h : Head N S). h.name) (heads_in t.regions) in
      let bs = parts f.block g.block t.head.successors (blocks_in t.regions) b in
      let vs = parts f.value g.value (values_at t.head) (values_in t.regions) v in
      let first = head_alike t.head name bs.0 vs.0 in
      let inner = tree_alike t.regions names bs.1 vs.1 in
      λ i. record { head = first i; regions = inner i }

-- what a map makes of a list is as long as the list
long_map : {X Y : Type 0} (f : X → Y) (xs : List X) (ys : List Y) → ys ≡ map f xs → AsLong xs ys
long_map {X} {Y} f xs ys e = sym (map-map (nothing {X = Y}) f xs) ∙ ap (map (nothing {X = Y})) (sym e)

-- trees that are the same up to names are the same under a renaming of all names
pub permuted : {N : Names} {S : Contents} (t u : Root N S) → HaveTests N → IsSameUpToNames t u →
    (r : Renaming N N) × (rename_root (maps r) t ≡ u)
permuted {N} t u tests s =
    let m = renaming_found tests own_names t u s in
    let names : operation_names u ≡ map m.0.operation (operation_names t) =
    ap operation_names (sym m.2) ∙ operation_names_renamed m.0 t in
    let blocks : blocks_of u ≡ map m.0.block (blocks_of t) = ap blocks_of (sym m.2) ∙ blocks_renamed m.0 t in
    let values : values_of u ≡ map m.0.value (values_of t) = ap values_of (sym m.2) ∙ values_renamed m.0 t in
    let long = long_map m.0.operation (operation_names t) (operation_names u) names in
    let o = permutation tests.operation (operation_names t) (operation_names u) long s.operations in
    let b = permutation tests.block (blocks_of t) (blocks_of u) (long_map m.0.block (blocks_of t) (blocks_of u) blocks) s.blocks in
    let v = permutation tests.value (values_of t) (values_of u) (long_map m.0.value (values_of t) (values_of u) values) s.values in
    let r : Renaming N N = record { operation = injection o.0; block = injection b.0; value = injection v.0 } in
    (r, root_alike (maps r) m.0 t (o.1 ∙ names) (b.1 ∙ blocks) (v.1 ∙ values) ∙ m.2)
