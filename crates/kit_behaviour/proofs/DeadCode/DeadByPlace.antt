-- Sets that hold the dead values, said of names and of places.
use Rattle.std.proofs.Common.{◌≡◌, ◌⊎◌, ⊎_elim, inl, inr, ℕ, suc, Bool, true, false, List, [], ◌∷◌, ◌++◌, Option, Some}
use Rattle.std.proofs.Common.{refl, sym, ap, ◌∙◌, subst}
use Rattle.std.specs.Prelude.{map, slice_get, if◌then◌else◌, not, ◌&&◌}
use Rattle.kit_behaviour.specs.Machine.{AllEdges, Edge, Op, Const, Calc, Emit, Call, Branch, Return, Block, Fun}
use Rattle.kit_behaviour.specs.Machine.{ops_left, arguments_of, arguments_in}
use Rattle.kit_behaviour.specs.Renaming.{rename_edge, rename_op, AllNamed, EdgeNamed, OpNamed, OpsNamed, same_block}
use Rattle.kit_behaviour.specs.Scopes.{In, all_defs, is_in}
use Rattle.kit_behaviour.specs.RemovedValues.{may_trap}
use Rattle.kit_behaviour.specs.DeadValues.{forwards_dead, edges_dead, use_dead, ops_use_dead, blocks_use_dead}
use Rattle.kit_behaviour.specs.DeadValues.{all_uses_dead, pure_results, candidates, may_die, HoldsDead}
use Rattle.kit_behaviour.specs.Numbering.{place_block, place_fun, HasPlace, AnyBlock, NamesAreDefined}
use Rattle.kit_behaviour.specs.Places.{Place, same_place}
use Rattle.kit_behaviour.proofs.Behaviour.EdgeLemmas.{map_append}
use Rattle.kit_behaviour.proofs.Behaviour.FiniteLists.{is_in_in}
use Rattle.kit_behaviour.proofs.Behaviour.FrameLemmas.{IsSameness}
use Rattle.kit_behaviour.proofs.Numbering.DefinedNames.{has_place}
use Rattle.kit_behaviour.proofs.Numbering.NumberingBehaviour.{place_name, place_takes, apart}
use Rattle.kit_behaviour.proofs.Numbering.NumberingRules.{all_map}
use Rattle.kit_behaviour.proofs.Numbering.PlaceEquality.{place_law}
use Rattle.kit_behaviour.proofs.Propagation.FactsAfterwards.{and_true, and_first, and_second}
use Rattle.kit_behaviour.proofs.Propagation.ScopeLemmas.{in_append, in_split}

in_is : {V : Type 0} (same : V → V → Bool) → IsSameness same → (v : V) (xs : List V) → In v xs →
    is_in same v xs ≡ true
in_is same law v [] i = absurd i
in_is same law v (x ∷ xs) i =
    ⊎_elim
    (λ e. ap (λ b. if b then true else is_in same v xs) (ap (same v) (sym e) ∙ law.same_true v))
    (λ k. by_test (same v x) (in_is same law v xs k))
    i
  where
    by_test : (b : Bool) → is_in same v xs ≡ true → (if b then true else is_in same v xs) ≡ true
    by_test true h = refl
    by_test false h = h

module _ {V : Type 0} (same : V → V → Bool) (law : IsSameness same) where
  pure_in : (w : V) (ops : List (Op V)) → In w (pure_results ops) → In w (all_defs ops)
  pure_in w [] i = absurd i
  pure_in w (Const r n ∷ ops) i = ⊎_elim (λ e. inl e) (λ k. inr (pure_in w ops k)) i
  pure_in w (Calc a t r x y ∷ ops) i = by_trap (may_trap a) i (pure_in w ops)
    where
      by_trap : (b : Bool) → In w (if b then pure_results ops else r ∷ pure_results ops) →
          (In w (pure_results ops) → In w (all_defs ops)) → (w ≡ r) ⊎ In w (all_defs ops)
      by_trap true j ih = inr (ih j)
      by_trap false j ih = ⊎_elim (λ e. inl e) (λ k. inr (ih k)) j
  pure_in w (Emit x ∷ ops) i = pure_in w ops i
  pure_in w (Call rs c xs ∷ ops) i = in_append w rs (all_defs ops) (inr (pure_in w ops i))
  pure_in w (Branch s xs e es ∷ ops) i = pure_in w ops i
  pure_in w (Return xs ∷ ops) i = pure_in w ops i

  candidate_in : (w : V) (ks : List (Block V)) → In w (candidates ks) →
      (b : ℕ) × (In w (arguments_of (slice_get ks b)) ⊎ In w (all_defs (ops_left (slice_get ks b) 0)))
  candidate_in w [] i = absurd i
  candidate_in w (k ∷ ks) i =
      ⊎_elim
      (λ l. (0, inl l))
      (λ r. ⊎_elim (λ l. (0, inr (pure_in w k.ops l))) (λ z. let h = candidate_in w ks z in (suc h.0, h.1))
      (in_split w (pure_results k.ops) (candidates ks) r))
      (in_split w k.arguments (pure_results k.ops ++ candidates ks) i)

  module _ (g : Fun V) (defined : NamesAreDefined same (Some g)) where
    abbrev r : V → Place
    r = place_name same law (Some g)

    abbrev N : V → Type 0
    N = HasPlace same (Some g)

    abbrev G : Option (Fun Place)
    G = place_fun same (Some g)

    is_under : (v : V) → N v → (xs : List V) → AllNamed N xs → is_in same_place (r v) (map r xs) ≡ is_in same v xs
    is_under v nv [] h = refl
    is_under v nv (x ∷ xs) h =
        λ i. if apart same law (Some g) v x nv h.0 i then true else is_under v nv xs h.1 i

    pure_under : (ops : List (Op V)) → pure_results (map (rename_op r same_block) ops) ≡ map r (pure_results ops)
    pure_under [] = refl
    pure_under (Const w n ∷ ops) = ap (λ l. r w ∷ l) (pure_under ops)
    pure_under (Calc a t w x y ∷ ops) = by_trap (may_trap a) (pure_under ops)
      where
        by_trap : (b : Bool) → pure_results (map (rename_op r same_block) ops) ≡ map r (pure_results ops) →
            (if b then pure_results (map (rename_op r same_block) ops)
            else r w ∷ pure_results (map (rename_op r same_block) ops))
            ≡ map r (if b then pure_results ops else w ∷ pure_results ops)
        by_trap true h = h
        by_trap false h = ap (λ l. r w ∷ l) h
    pure_under (Emit x ∷ ops) = pure_under ops
    pure_under (Call ws c xs ∷ ops) = pure_under ops
    pure_under (Branch s xs e es ∷ ops) = pure_under ops
    pure_under (Return xs ∷ ops) = pure_under ops

    candidates_under : (ks : List (Block V)) → candidates (map (place_block r) ks) ≡ map r (candidates ks)
    candidates_under [] = refl
    candidates_under (k ∷ ks) =
        (λ i. map r k.arguments ++ (pure_under k.ops i ++ candidates_under ks i))
        ∙ ap (λ l. map r k.arguments ++ l) (sym (map_append r (pure_results k.ops) (candidates ks)))
        ∙ sym (map_append r k.arguments (pure_results k.ops ++ candidates ks))

    -- a place among these is that of one of these names
    came : (a : Place) (xs : List V) → is_in same_place a (map r xs) ≡ true → (w : V) × In w xs × (a ≡ r w)
    came a [] e = absurd (cc e)
    came a (x ∷ xs) e = by_test (same_place a (r x)) refl (came a xs)
      where
        by_test : (b : Bool) → same_place a (r x) ≡ b →
            (is_in same_place a (map r xs) ≡ true → (w : V) × In w xs × (a ≡ r w)) →
            (w : V) × In w (x ∷ xs) × (a ≡ r w)
        by_test true h ih = (x, inl refl, place_law.true_same a (r x) h)
        by_test false h ih =
            let z = ih (sym (ap (λ b. if b then true else is_in same_place a (map r xs)) h) ∙ e) in
            (z.0, inr z.1, z.2)

    -- a set of names, and a set of places that says the same of the names that are defined
    module _ (d : V → Bool) (z : Place → Bool) (agree : (x : V) → N x → z (r x) ≡ d x) where
      module _ (v : V) (nv : N v) where
        forwards_under : (ts gs : List V) → AllNamed N ts → AllNamed N gs →
            forwards_dead same_place z (r v) (map r ts) (map r gs) ≡ forwards_dead same d v ts gs
        forwards_under [] gs n h = refl
        forwards_under (t ∷ ts) [] n h = refl
        forwards_under (t ∷ ts) (x ∷ gs) n h =
            λ i. (if apart same law (Some g) v x nv h.0 i then agree t n.0 i else true)
            && forwards_under ts gs n.1 h.1 i

        edges_under : (es : List (Edge V)) → AllEdges (EdgeNamed N AnyBlock) es →
            edges_dead same_place G z (r v) (map (rename_edge r same_block) es) ≡ edges_dead same (Some g) d v es
        edges_under [] h = refl
        edges_under (e ∷ es) h =
            ap (λ ts. forwards_dead same_place z (r v) ts (map r e.forwards)
            && edges_dead same_place G z (r v) (map (rename_edge r same_block) es))
            (place_takes same law (Some g) e.target)
            ∙ (λ i. forwards_under (arguments_in (Some g) e.target) e.forwards (defined.arguments e.target) h.0.1 i
            && edges_under es h.1 i)

        use_under : (op : Op V) → OpNamed N AnyBlock op →
            use_dead same_place G z (r v) (rename_op r same_block op) ≡ use_dead same (Some g) d v op
        use_under (Const w n) h = refl
        use_under (Calc a t w x y) h =
            λ i. if is_under v nv (x ∷ y ∷ []) (h.1, (h.2, tt)) i
            then (if may_trap a then false else agree w h.0 i) else true
        use_under (Emit x) h = ap not (is_under v nv (x ∷ []) (h, tt))
        use_under (Call ws c xs) h = ap not (is_under v nv xs h.1)
        use_under (Branch s xs e es) h = λ i. not (is_under v nv xs h.0 i) && edges_under (e ∷ es) h.1 i
        use_under (Return xs) h = ap not (is_under v nv xs h)

        ops_under : (ops : List (Op V)) → OpsNamed N AnyBlock ops →
            ops_use_dead same_place G z (r v) (map (rename_op r same_block) ops) ≡ ops_use_dead same (Some g) d v ops
        ops_under [] h = refl
        ops_under (op ∷ ops) h = λ i. use_under op h.0 i && ops_under ops h.1 i

        blocks_under : (ks : List (Block V)) → ((b : ℕ) → OpsNamed N AnyBlock (ops_left (slice_get ks b) 0)) →
            blocks_use_dead same_place G z (r v) (map (place_block r) ks) ≡ blocks_use_dead same (Some g) d v ks
        blocks_under [] h = refl
        blocks_under (k ∷ ks) h = λ i. ops_under k.ops (h 0) i && blocks_under ks (λ b. h (suc b)) i

        -- no argument of the entry, said of the name and of its place
        entry_under : not (is_in same_place (r v) (arguments_in G 0)) ≡ not (is_in same v (arguments_in (Some g) 0))
        entry_under =
            ap (λ l. not (is_in same_place (r v) l)) (place_takes same law (Some g) 0)
            ∙ ap not (is_under v nv (arguments_in (Some g) 0) (defined.arguments 0))

        uses_under : all_uses_dead same_place G z (r v) ≡ all_uses_dead same (Some g) d v
        uses_under = blocks_under g (λ x. defined.ops x)

      -- the set of places holds the dead values where the set of names does, and the other way round
      pub holds_there : HoldsDead same (Some g) d → HoldsDead same_place G z
      holds_there holds a h =
          let may = and_first (may_die same_place G a) (all_uses_dead same_place G z a) h in
          let unused = and_second (may_die same_place G a) (all_uses_dead same_place G z a) h in
          let free = and_first (not (is_in same_place a (arguments_in G 0)))
          (is_in same_place a (candidates (map (place_block r) g))) may in
          let cand = and_second (not (is_in same_place a (arguments_in G 0)))
          (is_in same_place a (candidates (map (place_block r) g))) may in
          let c = came a (candidates g) (sym (ap (is_in same_place a) (candidates_under g)) ∙ cand) in
          let b = candidate_in c.0 g c.1 in
          let nw = has_place same law (Some g) b.0 c.0 b.1 in
          let stays : not (is_in same c.0 (arguments_in (Some g) 0)) ≡ true =
          sym (entry_under c.0 nw) ∙ ap (λ x. not (is_in same_place x (arguments_in G 0))) (sym c.2) ∙ free in
          let uses : all_uses_dead same (Some g) d c.0 ≡ true =
          sym (uses_under c.0 nw) ∙ ap (all_uses_dead same_place G z) (sym c.2) ∙ unused in
          ap z c.2 ∙ agree c.0 nw
          ∙ holds c.0 (and_true _ _ (and_true _ _ stays (in_is same law c.0 (candidates g) c.1)) uses)

      pub holds_back : HoldsDead same_place G z → HoldsDead same (Some g) d
      holds_back holds v h =
          let may = and_first (may_die same (Some g) v) (all_uses_dead same (Some g) d v) h in
          let unused = and_second (may_die same (Some g) v) (all_uses_dead same (Some g) d v) h in
          let free = and_first (not (is_in same v (arguments_in (Some g) 0))) (is_in same v (candidates g)) may in
          let cand = is_in_in same law v (candidates g)
          (and_second (not (is_in same v (arguments_in (Some g) 0))) (is_in same v (candidates g)) may) in
          let b = candidate_in v g cand in
          let nv = has_place same law (Some g) b.0 v b.1 in
          let there : is_in same_place (r v) (candidates (map (place_block r) g)) ≡ true =
          in_is same_place place_law (r v) (candidates (map (place_block r) g))
          (subst (In (r v)) (sym (candidates_under g)) (all_map r v (candidates g) cand)) in
          sym (agree v nv)
          ∙ holds (r v) (and_true _ _ (and_true _ _ (entry_under v nv ∙ free) there) (uses_under v nv ∙ unused))
