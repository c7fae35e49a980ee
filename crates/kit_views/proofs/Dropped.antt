-- What is left of operands where those go that are forwarded to arguments of a set.
use Rattle.std.proofs.Common.{◌≡◌, inl, inr, ℕ, suc, ◌+◌, ◌<◌, Bool, true, false, List, [], ◌∷◌, ◌++◌, map, length, Option, Some, refl, ap, ◌∙◌, arith}
use Rattle.std.specs.Prelude.{slice_get, if◌then◌else◌}
use Rattle.ir_trees.specs.Renames.{names_of}
use Rattle.ir_trees.specs.Names.{Names}
use Rattle.ir_trees.specs.Trees.{Defined}
use Rattle.opt_trees.specs.Dialect.{drop}
use Rattle.opt_trees.specs.Dce.{Gone, gone_at, Slot}
use Rattle.opt_trees.specs.Occurrences.{Has}
use Rattle.kit_behaviour.specs.Facts.{all_forwarded}
use Rattle.kit_behaviour.specs.Machine.{AllEdges, Edge, Fun, arguments_in}
use Rattle.kit_behaviour.specs.RemovedValues.{live, pick, thin_edge}
use Rattle.kit_behaviour.specs.Rules.{EdgeFits}
use Rattle.kit_behaviour.specs.Scopes.{SameLength}
use Rattle.kit.specs.Dropped.{kept}
use Rattle.kit_views.proofs.Forwarded.{start}

pub drop_none : {X : Type 0} (p : ℕ → Bool) (xs : List X) → ((i : ℕ) → p i ≡ false) → drop p xs ≡ xs
drop_none p [] h = refl
drop_none p (x ∷ xs) h = ap (λ b. if b then drop (λ i. p (suc i)) xs else x ∷ drop (λ i. p (suc i)) xs) (h 0) ∙ ap (λ l. x ∷ l) (drop_none (λ i. p (suc i)) xs (λ i. h (suc i)))

-- the first stay, and of the others goes what q says
pub drop_behind : {X : Type 0} (p q : ℕ → Bool) (xs ys : List X) → ((i : ℕ) → i < length xs → p i ≡ false) → ((i k : ℕ) → i ≡ length xs + k → p i ≡ q k) → drop p (xs ++ ys) ≡ xs ++ drop q ys
drop_behind p q [] ys h k = alike p q ys (λ i. k i i (omega arith))
  where
    alike : {X : Type 0} (p q : ℕ → Bool) (ys : List X) → ((i : ℕ) → p i ≡ q i) → drop p ys ≡ drop q ys
    alike p q [] h = refl
    alike p q (y ∷ ys) h = λ j. if h 0 j then alike (λ i. p (suc i)) (λ i. q (suc i)) ys (λ i. h (suc i)) j else y ∷ alike (λ i. p (suc i)) (λ i. q (suc i)) ys (λ i. h (suc i)) j
drop_behind p q (x ∷ xs) ys h k =
    ap (λ b. if b then drop (λ i. p (suc i)) (xs ++ ys) else x ∷ drop (λ i. p (suc i)) (xs ++ ys)) (h 0 (omega arith))
    ∙ ap (λ l. x ∷ l) (drop_behind (λ i. p (suc i)) q xs ys (λ i e. h (suc i) (omega (arith, e))) (λ i n e. k (suc i) n (omega (arith, e))))

module _ {V : Type 0} (D : V → Bool) where
  pub drop_pick : (p q : ℕ → Bool) (ts gs rest : List V) → SameLength ts gs → ((i : ℕ) (t : V) → slice_get ts i ≡ Some t → p i ≡ D t) → ((i k : ℕ) → i ≡ length gs + k → p i ≡ q k) → drop p (gs ++ rest) ≡ pick D ts gs ++ drop q rest
  drop_pick p q [] [] rest s h k = drop_behind p q [] rest (λ i e. absurd (omega (arith, e))) k
  drop_pick p q [] (g ∷ gs) rest s h k = absurd s
  drop_pick p q (t ∷ ts) [] rest s h k = absurd s
  drop_pick p q (t ∷ ts) (g ∷ gs) rest s h k =
      ap (λ b. if b then drop (λ i. p (suc i)) (gs ++ rest) else g ∷ drop (λ i. p (suc i)) (gs ++ rest)) (h 0 t refl)
      ∙ step (D t) (drop_pick (λ i. p (suc i)) q ts gs rest s (λ i. h (suc i)) (λ i n e. k (suc i) n (omega (arith, e))))
    where
      step : (b : Bool) → drop (λ i. p (suc i)) (gs ++ rest) ≡ pick D ts gs ++ drop q rest → (if b then drop (λ i. p (suc i)) (gs ++ rest) else g ∷ drop (λ i. p (suc i)) (gs ++ rest)) ≡ (if b then pick D ts gs else g ∷ pick D ts gs) ++ drop q rest
      step true e = e
      step false e = ap (λ l. g ∷ l) e

  pub drop_edges : (F : Option (Fun V)) (es : List (Edge V)) (p : ℕ → Bool) (s : ℕ) → AllEdges (EdgeFits F) es → ((j : ℕ) (e : Edge V) (n i : ℕ) (t : V) → slice_get es j ≡ Some e → slice_get (arguments_in F e.target) n ≡ Some t → s + i ≡ start es s j + n → p i ≡ D t) → drop p (all_forwarded es) ≡ all_forwarded (map (thin_edge F D) es)
  drop_edges F [] p s fits h = refl
  drop_edges F (e ∷ es) p s fits h =
      drop_pick p (λ k. p (length e.forwards + k)) (arguments_in F e.target) e.forwards (all_forwarded es) fits.0.count (λ i t q. h 0 e i i t refl q refl) (λ i k q. ap p q)
      ∙ ap (λ l. pick D (arguments_in F e.target) e.forwards ++ l)
      (drop_edges F es (λ k. p (length e.forwards + k)) (s + length e.forwards) fits.1 (λ j x n i t at ta q. h (suc j) x n (length e.forwards + i) t at ta (omega (arith, q))))

  pub kept_pick : (p : ℕ → Bool) (s : ℕ) (ts gs : List V) → SameLength ts gs → ((i k : ℕ) (t : V) → slice_get ts i ≡ Some t → k ≡ s + i → p k ≡ D t) → kept p s (length gs) ≡ length (pick D ts gs)
  kept_pick p s [] [] m h = refl
  kept_pick p s [] (g ∷ gs) m h = absurd m
  kept_pick p s (t ∷ ts) [] m h = absurd m
  kept_pick p s (t ∷ ts) (g ∷ gs) m h =
      ap (λ b. if b then kept p (suc s) (length gs) else suc (kept p (suc s) (length gs))) (h 0 s t refl (omega arith))
      ∙ step (D t) (kept_pick p (suc s) ts gs m (λ i k u q e. h (suc i) k u q (omega (arith, e))))
    where
      step : (b : Bool) → kept p (suc s) (length gs) ≡ length (pick D ts gs) → (if b then kept p (suc s) (length gs) else suc (kept p (suc s) (length gs))) ≡ length (if b then pick D ts gs else g ∷ pick D ts gs)
      step true e = e
      step false e = ap suc e

pub live_names : {N : Names} {T : Type 0} (g : Gone N) (D : N.value → Bool) (vs : List (Defined N.value T)) → ((v : N.value) → Has v (names_of vs) → g.item (Slot v) ≡ D v) → names_of (drop (λ i. gone_at g (slice_get vs i)) vs) ≡ live D (names_of vs)
live_names g D [] h = refl
live_names {N} {T} g D (x ∷ vs) h =
    ap (λ b. names_of (if b then drop (λ i. gone_at g (slice_get vs i)) vs else x ∷ drop (λ i. gone_at g (slice_get vs i)) vs)) (h x.name (inl refl))
    ∙ step (D x.name) (live_names g D vs (λ v i. h v (inr i)))
  where
    step : (b : Bool) → names_of (drop (λ i. gone_at g (slice_get vs i)) vs) ≡ live D (names_of vs) → names_of (if b then drop (λ i. gone_at g (slice_get vs i)) vs else x ∷ drop (λ i. gone_at g (slice_get vs i)) vs) ≡ (if b then live D (names_of vs) else x.name ∷ live D (names_of vs))
    step true e = e
    step false e = ap (λ l. x.name ∷ l) e
