-- In preorder an operation comes behind those that are around it.
use Rattle.std.proofs.Common.{◌≡◌, ◌⊎◌, inl, inr, ⊎_elim, ℕ, zero, suc, ◌+◌, ◌<◌, List, [], ◌∷◌, ◌++◌, length, Some, slice_get, refl, sym, ap, subst, ◌∙◌, arith}
use Rattle.std.specs.Prelude.{option_map}
use Rattle.std.proofs.lemmas.Option.{same_Some, slice_get-map}
use Rattle.ir_program.specs.Program.{Program}
use Rattle.ir_program.specs.Lists.{StandsInside, StandsInBlock, StandsInRegion, StandsInOperation, itself, in_region, in_operation}
use Rattle.ir_program.specs.declared.handles.IRNode.TheVariants.{Operation as OperationNode, BasicBlock as BlockNode}
use Rattle.ir_program.specs.declared.handles.Ptr.{Ptr}
use Rattle.ir_program.specs.declared.handles.Operation.{Operation}
use Rattle.ir_program.specs.declared.handles.BasicBlock.{BasicBlock}
use Rattle.ir_program.specs.declared.handles.Region.{Region}
use Rattle.ir_trees.specs.Names.{Names, Contents}
use Rattle.ir_trees.specs.Stands.{ProgramTree}
use Rattle.ir_trees.specs.Trees.{Sort, Operations, Blocks, Regions, Tree, end, operation, block, region}
use Rattle.ir_trees.proofs.Members.{at_has}
use Rattle.opt_trees.specs.Occurrences.{Has, Inside, Occurrence, inner, next_block, next_region, at_root, occurrences_in, occurrences_of}
use Rattle.opt_inside.specs.Numbered.{Numbers, NumbersInside}
use Rattle.opt_inside.specs.Occurring.{Found}
use Rattle.opt_inside.proofs.Around.{HasLists}
use Rattle.opt_dce.proofs.LivenessLemmas.Ground.{Occurs, none_or}
use Rattle.opt_dce.proofs.LivenessLemmas.Partway.{at_front}

-- what stands in two lists, one behind the other, stands in one of them
at_either : {X : Type 0} (xs ys : List X) (k : ℕ) (x : X) → slice_get (xs ++ ys) k ≡ Some x → (slice_get xs k ≡ Some x) ⊎ ((j : ℕ) × (length xs + j ≡ k) × (slice_get ys j ≡ Some x))
at_either [] ys k x e = inr (k, omega arith, e)
at_either (y ∷ xs) ys zero x e = inl e
at_either (y ∷ xs) ys (suc k) x e = ⊎_elim (λ a. inl a) (λ b. inr (b.0, (let at = b.1 in omega arith), b.2)) (at_either xs ys k x e)

at_back : {X : Type 0} (xs ys : List X) (j : ℕ) (x : X) → slice_get ys j ≡ Some x → slice_get (xs ++ ys) (length xs + j) ≡ Some x
at_back {X} xs ys j x e = by xs (length xs + j) refl
  where
    by : (us : List X) (k : ℕ) → length us + j ≡ k → slice_get (us ++ ys) k ≡ Some x
    by [] k at = let same : j ≡ k = omega arith in subst (λ i. slice_get ys i ≡ Some x) same e
    by (u ∷ us) zero at = absurd (omega arith)
    by (u ∷ us) (suc k) at = by us k (omega arith)

-- what is around a list, below the root
abbrev AroundOf : (N : Names) (S : Contents) (s : Sort) → Inside N S s → List N.operation
AroundOf N S Operations i = i.spot.around
AroundOf N S Blocks i = i.around
AroundOf N S Regions i = i.around

module _ {N : Names} {S : Contents} where
  -- an operation of this name stands before the index
  record IsBefore (os : List (Occurrence N S)) (k : ℕ) (a : N.operation) : Type 0 where
    at : ℕ
    lower : at < k
    it : Occurrence N S
    here : slice_get os at ≡ Some it
    name : it.head.name ≡ a

  in_front : (os qs : List (Occurrence N S)) (k : ℕ) (a : N.operation) → IsBefore os k a → IsBefore (os ++ qs) k a
  in_front os qs k a b = record { at = b.at; lower = b.lower; it = b.it; here = at_front os qs b.at b.it b.here; name = b.name }

  behind : (os qs : List (Occurrence N S)) (j k : ℕ) (a : N.operation) → length os + j ≡ k → IsBefore qs j a → IsBefore (os ++ qs) k a
  behind os qs j k a e b = record { at = length os + b.at; lower = (let lt = b.lower in omega arith); it = b.it; here = at_back os qs b.at b.it b.here; name = b.name }

  one_more : (o : Occurrence N S) (os : List (Occurrence N S)) (k : ℕ) (a : N.operation) → IsBefore os k a → IsBefore (o ∷ os) (suc k) a
  one_more o os k a b = record { at = suc b.at; lower = (let lt = b.lower in omega arith); it = b.it; here = b.here; name = b.name }

  before : (s : Sort) (u : Tree N S s) (i : Inside N S s) (k : ℕ) (o : Occurrence N S) → slice_get (occurrences_in u i) k ≡ Some o → (a : N.operation) → Has a o.site.spot.around → Has a (AroundOf N S s i) ⊎ IsBefore (occurrences_in u i) k a
  before _ end i k o h a has = absurd (cc h)
  before _ (operation h rs rest) i zero o e a has =
      let same : record { site = i; head = h; regions = rs } ≡ o = same_Some (record { site = i; head = h; regions = rs }) o e in
      inl (subst (λ (z : Occurrence N S). Has a z.site.spot.around) (sym same) has)
  before _ (operation h rs rest) i (suc k) o e a has = ⊎_elim
      (λ front. ⊎_elim
      (λ up. ⊎_elim
      (λ own. inr (record { at = zero; lower = omega arith; it = record { site = i; head = h; regions = rs }; here = refl; name = sym own }))
      (λ more. inl more)
      up)
      (λ b. inr (one_more (record { site = i; head = h; regions = rs }) (occurrences_in rs (inner h i) ++ occurrences_in rest i) k a (in_front (occurrences_in rs (inner h i)) (occurrences_in rest i) k a b)))
      (before Regions rs (inner h i) k o front a has))
      (λ back. ⊎_elim
      (λ up. inl up)
      (λ b. inr (one_more (record { site = i; head = h; regions = rs }) (occurrences_in rs (inner h i) ++ occurrences_in rest i) k a (behind (occurrences_in rs (inner h i)) (occurrences_in rest i) back.0 k a back.1 b)))
      (before Operations rest i back.0 o back.2 a has))
      (at_either (occurrences_in rs (inner h i)) (occurrences_in rest i) k o e)
  before _ (block l ops rest) i k o e a has = ⊎_elim
      (λ front. ⊎_elim
      (λ up. inl up)
      (λ b. inr (in_front (occurrences_in ops (record { spot = i; label = l })) (occurrences_in rest (next_block i)) k a b))
      (before Operations ops (record { spot = i; label = l }) k o front a has))
      (λ back. ⊎_elim
      (λ up. inl up)
      (λ b. inr (behind (occurrences_in ops (record { spot = i; label = l })) (occurrences_in rest (next_block i)) back.0 k a back.1 b))
      (before Blocks rest (next_block i) back.0 o back.2 a has))
      (at_either (occurrences_in ops (record { spot = i; label = l })) (occurrences_in rest (next_block i)) k o e)
  before _ (region bs rest) i k o e a has = ⊎_elim
      (λ front. ⊎_elim
      (λ up. inl up)
      (λ b. inr (in_front (occurrences_in bs i) (occurrences_in rest (next_region i)) k a b))
      (before Blocks bs i k o front a has))
      (λ back. ⊎_elim
      (λ up. inl up)
      (λ b. inr (behind (occurrences_in bs i) (occurrences_in rest (next_region i)) back.0 k a back.1 b))
      (before Regions rest (next_region i) back.0 o back.2 a has))
      (at_either (occurrences_in bs i) (occurrences_in rest (next_region i)) k o e)

-- an operation has a higher number than the one that it is directly in
pub parents_first : {O B : Type 0} (c : Program O B) (op : Ptr Operation) (n : Numbers) → HasLists c → NumbersInside c op n → (t : ProgramTree O B) → Occurs c op t → (i j : ℕ) (p q : Ptr Operation) (b : Ptr BasicBlock) (r : Ptr Region) → slice_get n.operations i ≡ Some p → slice_get n.operations j ≡ Some q → StandsInBlock c p b → StandsInRegion c b r → StandsInOperation c r q → j < i
parents_first {O} {B} c op n lists numbers t f i j p q b r at_p at_q in_b in_r in_q =
    let order = (numbers.in_preorder t f.root).operations in
    let name : Found O B → Ptr Operation = (λ (o : Found O B). o.head.name) in
    let listed : (k : ℕ) → slice_get n.operations k ≡ option_map name (slice_get (occurrences_of t) k) = (λ k. ap (λ l. slice_get l k) order ∙ slice_get-map name (occurrences_of t) k) in
    ⊎_elim
    (λ none. let gone = listed i ∙ ap (option_map name) none in absurd (cc (gone, at_p)))
    (λ o.
    let named : o.0.head.name ≡ p = same_Some o.0.head.name p (sym (ap (option_map name) o.1) ∙ (sym (listed i) ∙ at_p)) in
    let s = f.sound o.0 (at_has (occurrences_of t) i o.0 o.1) in
    let here : StandsInBlock c p o.0.site.label.name = subst (λ z. StandsInBlock c z o.0.site.label.name) named s.in_block in
    let block_is : b ≡ o.0.site.label.name = (lists.operations_once p b o.0.site.label.name in_b.index here.index in_b.here here.here).0 in
    let inner_is : StandsInside c (OperationNode q) (BlockNode b) = in_region b r in_r (in_operation r q in_q itself) in
    let has = (s.spot.around q).1 ((numbers.operations q).0 (j, at_q), subst (λ z. StandsInside c (OperationNode q) (BlockNode z)) block_is inner_is) in
    ⊎_elim
    (λ root. absurd root)
    (λ w.
    let at : slice_get n.operations w.at ≡ Some q = listed w.at ∙ (ap (option_map name) w.here ∙ ap Some w.name) in
    let same : w.at ≡ j = numbers.operations_once w.at j q at at_q in
    let lt = w.lower in
    omega arith)
    (before Regions t.regions (at_root t) i o.0 o.1 q has))
    (none_or (slice_get (occurrences_of t) i))
