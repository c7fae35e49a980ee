-- What the most precise facts know a value to be is what some operation folds to, so its type is that of a result.
use Rattle.std.proofs.Common.{◌≡◌, ℕ, zero, suc, Bool, true, false, cond, List, [], ◌∷◌, map, Option, Some, None, slice_get, refl, sym, ap, ◌∙◌, subst}
use Rattle.std.specs.Prelude.{nat_lt}
use Rattle.ir_base.specs.declared.types.TypeHandle.{TypeHandle}
use Rattle.ir_trees.specs.Names.{Names}
use Rattle.ir_trees.specs.Renames.{names_of, holding}
use Rattle.ir_trees.specs.Trees.{Head, Sort, Tree, end, operation, block, region, Root}
use Rattle.opt_rows.specs.declared.known.Known.{Known}
use Rattle.opt_rows.specs.declared.known.Known.TheVariants.{Undetermined, One, Any}
use Rattle.opt_rows.specs.Known.{AtOrBelow, and_known, asked, answer, AllBelow, AllAny}
use Rattle.opt_trees.specs.Dialect.{Dialect, Lawful}
use Rattle.opt_trees.specs.Facts.{Facts, Asked, FoldClosed, EdgeClosed, BranchClosed, forwarded, EntriesRun, IsClosed, IsMostPrecise}
use Rattle.opt_trees.specs.Occurrences.{Has, types_of, Occurrence, BlockOccurrence, occurrences_of, block_occurrences_of}

module _ {C L A : Type 0} (d : Dialect (holding C L TypeHandle) A) (count : ℕ) where
  abbrev IsTyped : A → Type 0
  IsTyped a = nat_lt (d.constant_type a).number count ≡ true

  -- constants of known types alone
  abbrev only : Known A → Known A
  only Undetermined = Undetermined
  only Any = Any
  only (One a) = cond (nat_lt (d.constant_type a).number count) (One a) Undetermined

  one_typed : (a : A) → IsTyped a → only (One a) ≡ One a
  one_typed a h = ap (λ b. cond b (One a) Undetermined) h

  below_itself : (x : Known A) → AtOrBelow x x
  below_itself Undetermined = tt
  below_itself Any = tt
  below_itself (One a) = refl

  below_top : (x : Known A) → AtOrBelow x Undetermined
  below_top Undetermined = tt
  below_top Any = tt
  below_top (One a) = tt

  only_below : (x y : Known A) → AtOrBelow x y → AtOrBelow (only x) (only y)
  only_below Any y h = tt
  only_below Undetermined Undetermined h = tt
  only_below Undetermined (One b) h = absurd h
  only_below Undetermined Any h = absurd h
  only_below (One a) Undetermined h = below_top (only (One a))
  only_below (One a) (One b) h = subst (λ c. AtOrBelow (only (One a)) (only (One c))) h (below_itself (only (One a)))
  only_below (One a) Any h = absurd h

  answer_below : (x : Known A) (o : Option A) → ((a : A) → o ≡ Some a → IsTyped a) → AtOrBelow x (answer o) → AtOrBelow (only x) (answer o)
  answer_below Any o t h = tt
  answer_below Undetermined None t h = absurd h
  answer_below Undetermined (Some b) t h = absurd h
  answer_below (One a) None t h = absurd h
  answer_below (One a) (Some b) t h = subst (λ z. AtOrBelow z (One b)) (sym (one_typed a (subst IsTyped (sym h) (t b refl)))) h

  all_below : {V : Type 0} (f : V → Known A) (vs : List V) (xs : List (Option A)) → ((i : ℕ) (a : A) → slice_get xs i ≡ Some (Some a) → IsTyped a) → AllBelow f vs (map answer xs) → AllBelow (λ v. only (f v)) vs (map answer xs)
  all_below f [] xs t h = tt
  all_below f (v ∷ vs) [] t h = tt
  all_below f (v ∷ vs) (x ∷ xs) t h = (answer_below (f v) x (λ a e. t zero a (ap Some e)) h.0, all_below f vs xs (λ i a e. t (suc i) a e) h.1)

  all_forwarded : {V : Type 0} (f : V → Known A) (vs ws : List V) → AllBelow f vs (map f ws) → AllBelow (λ v. only (f v)) vs (map (λ v. only (f v)) ws)
  all_forwarded f [] ws h = tt
  all_forwarded f (v ∷ vs) [] h = tt
  all_forwarded f (v ∷ vs) (w ∷ ws) h = (only_below (f v) (f w) h.0, all_forwarded f vs ws h.1)

  all_any : {V : Type 0} (f : V → Known A) (vs : List V) → AllAny f vs → AllAny (λ v. only (f v)) vs
  all_any f [] h = tt
  all_any f (v ∷ vs) h = (ap only h.0, all_any f vs h.1)

  -- where operands are asked that are left, they answer the same
  one_asked : (x : Known A) (q p : Asked A) (xs : List (Option A)) → ((ys : List (Option A)) → q ≡ Some ys → p ≡ Some ys) → and_known (only x) q ≡ Some xs → and_known x p ≡ Some xs
  one_asked Undetermined q p xs same h = cc
  one_asked Any None p xs same h = cc
  one_asked Any (Some ys) p xs same h = ap (λ z. and_known Any z) (same ys refl) ∙ h
  one_asked (One a) q p xs same h = by (nat_lt (d.constant_type a).number count) q same h
    where
      by : (b : Bool) (q : Asked A) → ((ys : List (Option A)) → q ≡ Some ys → p ≡ Some ys) → and_known (cond b (One a) Undetermined) q ≡ Some xs → and_known (One a) p ≡ Some xs
      by false q same h = cc
      by true None same h = cc
      by true (Some ys) same h = ap (λ z. and_known (One a) z) (same ys refl) ∙ h

  same_asked : {V : Type 0} (f : V → Known A) (vs : List V) (xs : List (Option A)) → asked (map (λ v. only (f v)) vs) ≡ Some xs → asked (map f vs) ≡ Some xs
  same_asked f [] xs h = h
  same_asked f (v ∷ vs) xs h = one_asked (f v) (asked (map (λ v. only (f v)) vs)) (asked (map f vs)) xs (λ ys e. same_asked f vs ys e) h

  module _ (N : Names) (k : Facts N A) where
    abbrev left : Facts N A
    left = record { runs = k.runs; of = λ v. only (k.of v) }

    entries_left : {s : Sort} (t : Tree N (holding C L TypeHandle) s) → EntriesRun k t → EntriesRun left t
    entries_left end h = tt
    entries_left (operation h rs rest) e = tt
    entries_left (block l ops rest) e = (e.0, all_any k.of (names_of l.arguments) e.1)
    entries_left (region bs rest) e = (entries_left bs e.0, entries_left rest e.1)

    module _ (lawful : Lawful d) (h : Head N (holding C L TypeHandle)) (typed : (a : A) (i : ℕ) → slice_get (types_of h.results) i ≡ Some (d.constant_type a) → IsTyped a) where
      folds_left : (b : Bool) (q p : Asked A) → ((ys : List (Option A)) → q ≡ Some ys → p ≡ Some ys) → FoldClosed d k.of h b p → FoldClosed d left.of h b q
      folds_left false q p same f = all_any k.of (names_of h.results) f
      folds_left true None p same f = tt
      folds_left true (Some xs) p same f = all_below k.of (names_of h.results) (d.fold h.content (types_of h.results) xs) (λ i a e. typed a i (lawful.fold_types h.content (types_of h.results) xs i a e))
          (subst (λ z. FoldClosed d k.of h true z) (same xs refl) f)

      goes_left : (bs : List (BlockOccurrence N (holding C L TypeHandle))) (b : Bool) (q p : Asked A) → ((ys : List (Option A)) → q ≡ Some ys → p ≡ Some ys) → BranchClosed d bs k h b p → BranchClosed d bs left h b q
      goes_left bs false q p same f = tt
      goes_left bs true None p same f = tt
      goes_left bs true (Some xs) p same f = λ i b at feasible.
          let e : EdgeClosed d bs k h i b = subst (λ z. BranchClosed d bs k h true z) (same xs refl) f i b at feasible in
          record { target = e.target; arguments = λ x has named. all_forwarded k.of (names_of x.label.arguments) (forwarded d h i) (e.arguments x has named) }

    closed_left : (t : Root N (holding C L TypeHandle)) → Lawful d → ((o : Occurrence N (holding C L TypeHandle)) → Has o (occurrences_of t) → (a : A) (i : ℕ) → slice_get (types_of o.head.results) i ≡ Some (d.constant_type a) → IsTyped a)
        → IsClosed d t k → IsClosed d t left
    closed_left t lawful typed closed = record {
      entries = entries_left t.regions closed.entries;
      outside = λ v none. ap only (closed.outside v none);
      inside = λ o has runs.
          let g = closed.inside o has runs in
          record {
            folds = folds_left lawful o.head (typed o has) (d.is_foldable o.head.content) (asked (map left.of o.head.operands)) (asked (map k.of o.head.operands)) (λ ys e. same_asked k.of o.head.operands ys e) g.folds;
            goes = goes_left lawful o.head (typed o has) (block_occurrences_of t) (d.is_branch o.head.content) (asked (map left.of o.head.operands)) (asked (map k.of o.head.operands)) (λ ys e. same_asked k.of o.head.operands ys e) g.goes;
            entries = entries_left o.regions g.entries;
          };
    }

    -- each constant has a known type
    pub constants_typed : (t : Root N (holding C L TypeHandle)) → Lawful d → ((o : Occurrence N (holding C L TypeHandle)) → Has o (occurrences_of t) → (a : A) (i : ℕ) → slice_get (types_of o.head.results) i ≡ Some (d.constant_type a) → IsTyped a)
        → IsMostPrecise d t k → (v : N.value) (a : A) → k.of v ≡ One a → nat_lt (d.constant_type a).number count ≡ true
    constants_typed t lawful typed best v a known = by (nat_lt (d.constant_type a).number count) refl
      where
        above : AtOrBelow (only (k.of v)) (k.of v)
        above = (best.best left (closed_left t lawful typed best.closed)).above v

        by : (b : Bool) → nat_lt (d.constant_type a).number count ≡ b → b ≡ true
        by true e = refl
        by false e = absurd (subst (λ b. AtOrBelow (cond b (One a) Undetermined) (One a)) e (subst (λ x. AtOrBelow (only x) x) known above))
