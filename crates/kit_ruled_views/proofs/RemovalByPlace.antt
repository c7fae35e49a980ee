-- Removal of dead values from a function whose values have any names is, by places, removal of dead values from the
-- function whose values are named by their places.
use Rattle.std.proofs.Common.{◌≡◌, ◌⊎◌, ⊎_elim, inl, inr, ℕ, suc, Bool, true, false, List, [], ◌∷◌, ◌++◌, Option, Some}
use Rattle.std.proofs.Common.{None, refl, sym, ap, ◌∙◌}
use Rattle.std.specs.Prelude.{map, slice_get, if◌then◌else◌, not, ◌&&◌, unwrap_or}
use Rattle.kit_behaviour.specs.Machine.{AllEdges, Edge, Op, Const, Calc, Emit, Call, Branch, Return, Block, Fun}
use Rattle.kit_behaviour.specs.Machine.{ops_left, arguments_of, arguments_in}
use Rattle.kit_behaviour.specs.Renaming.{rename_edge, rename_op, same_block, AllNamed}
use Rattle.kit_behaviour.specs.Renaming.{EdgeNamed, OpNamed, OpsNamed}
use Rattle.kit_behaviour.specs.Scopes.{In, all_defs, is_in}
use Rattle.kit_behaviour.specs.RemovedValues.{may_trap, thin}
use Rattle.kit_behaviour.specs.DeadValues.{forwards_dead, edges_dead, use_dead, ops_use_dead, blocks_use_dead}
use Rattle.kit_behaviour.specs.DeadValues.{all_uses_dead, pure_results, candidates, may_die, HoldsDead, IsDeadSet}
use Rattle.kit_behaviour.specs.Numbering.{place_block, place_fun, HasPlace, AnyBlock, NamesAreDefined}
use Rattle.kit_behaviour.specs.Places.{Place, Arg, same_place}
use Rattle.kit_behaviour.proofs.Behaviour.FrameLemmas.{IsSameness}
use Rattle.kit_behaviour.proofs.Behaviour.EdgeLemmas.{map_append}
use Rattle.kit_behaviour.proofs.Numbering.PlaceEquality.{place_law}
use Rattle.kit_behaviour.proofs.Numbering.NumberingBehaviour.{at_place, place_name, place_takes, apart}
use Rattle.kit_behaviour.proofs.Numbering.NumberingRules.{name_at}
use Rattle.kit_behaviour.proofs.Numbering.DefinedNames.{has_place}
use Rattle.kit_behaviour.proofs.Propagation.ScopeLemmas.{in_append, in_split}
use Rattle.kit_behaviour.proofs.Propagation.FactsAfterwards.{and_true, and_first, and_second}
use Rattle.kit_behaviour.proofs.ControlFlow.NamedCommuting.{blocks_thinned}
use Rattle.kit_behaviour.proofs.ControlFlow.NamedPlacing.{AreNamed, thinned_named, placed_on}

-- where the two have the same members, both or none
both_and : (a b c d : Bool) → a ≡ c → b ≡ d → a && b ≡ c && d
both_and a b c d e f = λ i. e i && f i

module _ {V : Type 0} (same : V → V → Bool) (law : IsSameness same) where
  in_is : (v : V) (xs : List V) → In v xs → is_in same v xs ≡ true
  in_is v [] i = absurd i
  in_is v (x ∷ xs) i =
      ⊎_elim
      (λ e. ap (λ b. if b then true else is_in same v xs) (ap (same v) (sym e) ∙ law.same_true v))
      (λ k. by_test (same v x) (in_is v xs k))
      i
    where
      by_test : (b : Bool) → is_in same v xs ≡ true → (if b then true else is_in same v xs) ≡ true
      by_test true h = refl
      by_test false h = h

  is_there : (v : V) (xs : List V) → is_in same v xs ≡ true → In v xs
  is_there v [] e = absurd (cc e)
  is_there v (x ∷ xs) e = by_test (same v x) refl e (is_there v xs)
    where
      by_test : (b : Bool) → same v x ≡ b → (if b then true else is_in same v xs) ≡ true
          → (is_in same v xs ≡ true → In v xs) → (v ≡ x) ⊎ In v xs
      by_test true t h ih = inl (law.true_same v x t)
      by_test false t h ih = inr (ih h)

  pure_in : (w : V) (ops : List (Op V)) → In w (pure_results ops) → In w (all_defs ops)
  pure_in w [] i = absurd i
  pure_in w (Const r n ∷ ops) i = ⊎_elim (λ e. inl e) (λ k. inr (pure_in w ops k)) i
  pure_in w (Calc a t r x y ∷ ops) i = by_trap (may_trap a) i (pure_in w ops)
    where
      by_trap : (b : Bool) → In w (if b then pure_results ops else r ∷ pure_results ops)
          → (In w (pure_results ops) → In w (all_defs ops)) → (w ≡ r) ⊎ In w (all_defs ops)
      by_trap true j ih = inr (ih j)
      by_trap false j ih = ⊎_elim (λ e. inl e) (λ k. inr (ih k)) j
  pure_in w (Emit x ∷ ops) i = pure_in w ops i
  pure_in w (Call rs c xs ∷ ops) i = in_append w rs (all_defs ops) (inr (pure_in w ops i))
  pure_in w (Branch s xs e es ∷ ops) i = pure_in w ops i
  pure_in w (Return xs ∷ ops) i = pure_in w ops i

  candidate_in : (w : V) (ks : List (Block V)) → In w (candidates ks)
      → (b : ℕ) × (In w (arguments_of (slice_get ks b)) ⊎ In w (all_defs (ops_left (slice_get ks b) 0)))
  candidate_in w [] i = absurd i
  candidate_in w (k ∷ ks) i =
      ⊎_elim
      (λ l. (0, inl l))
      (λ r. ⊎_elim (λ l. (0, inr (pure_in w k.ops l))) (λ z. let h = candidate_in w ks z in (suc h.0, h.1))
      (in_split w (pure_results k.ops) (candidates ks) r))
      (in_split w k.arguments (pure_results k.ops ++ candidates ks) i)

  module _ (g : Fun V) (defined : NamesAreDefined same (Some g)) where
    abbrev r : V → Place
    r = place_name same law (Some g)

    abbrev N : V → Type 0
    N = HasPlace same (Some g)

    abbrev G : Option (Fun Place)
    G = place_fun same (Some g)

    -- a set of places and a set of names that agree on the names that have places
    module _ (e : Place → Bool) (d : V → Bool) (agree : (x : V) → N x → e (r x) ≡ d x) where
      module _ (v : V) (nv : N v) where
        is_under : (xs : List V) → AllNamed N xs → is_in same_place (r v) (map r xs) ≡ is_in same v xs
        is_under [] h = refl
        is_under (x ∷ xs) h =
            ap (λ b. if b then true else is_in same_place (r v) (map r xs)) (apart same law (Some g) v x nv h.0)
            ∙ ap (λ t. if same v x then true else t) (is_under xs h.1)

        forwards_under : (ts gs : List V) → AllNamed N ts → AllNamed N gs
            → forwards_dead same_place e (r v) (map r ts) (map r gs) ≡ forwards_dead same d v ts gs
        forwards_under [] gs n h = refl
        forwards_under (t ∷ ts) [] n h = refl
        forwards_under (t ∷ ts) (x ∷ gs) n h =
            let a : same_place (r v) (r x) ≡ same v x = apart same law (Some g) v x nv h.0 in
            λ i. (if a i then agree t n.0 i else true) && forwards_under ts gs n.1 h.1 i

        edges_under : (es : List (Edge V)) → AllEdges (EdgeNamed N AnyBlock) es
            → edges_dead same_place G e (r v) (map (rename_edge r same_block) es) ≡ edges_dead same (Some g) d v es
        edges_under [] h = refl
        edges_under (q ∷ es) h =
            both_and (forwards_dead same_place e (r v) (arguments_in G q.target) (map r q.forwards))
            (edges_dead same_place G e (r v) (map (rename_edge r same_block) es))
            (forwards_dead same d v (arguments_in (Some g) q.target) q.forwards) (edges_dead same (Some g) d v es)
            (ap (λ ts. forwards_dead same_place e (r v) ts (map r q.forwards)) (place_takes same law (Some g) q.target)
            ∙ forwards_under (arguments_in (Some g) q.target) q.forwards (defined.arguments q.target) h.0.1)
            (edges_under es h.1)

        use_under : (op : Op V) → OpNamed N AnyBlock op
            → use_dead same_place G e (r v) (rename_op r same_block op) ≡ use_dead same (Some g) d v op
        use_under (Const w n) h = refl
        use_under (Calc a t w x y) h =
            λ i. if is_under (x ∷ y ∷ []) (h.1, (h.2, tt)) i then (if may_trap a then false else agree w h.0 i) else
            true
        use_under (Emit x) h = ap not (is_under (x ∷ []) (h, tt))
        use_under (Call ws c xs) h = ap not (is_under xs h.1)
        use_under (Branch s xs q es) h = λ i. not (is_under xs h.0 i) && edges_under (q ∷ es) h.1 i
        use_under (Return xs) h = ap not (is_under xs h)

        ops_under : (ops : List (Op V)) → OpsNamed N AnyBlock ops
            → ops_use_dead same_place G e (r v) (map (rename_op r same_block) ops) ≡ ops_use_dead same (Some g) d v ops
        ops_under [] h = refl
        ops_under (op ∷ ops) h = λ i. use_under op h.0 i && ops_under ops h.1 i

        blocks_under : (ks : List (Block V)) → ((b : ℕ) → OpsNamed N AnyBlock (ops_left (slice_get ks b) 0))
            → blocks_use_dead same_place G e (r v) (map (place_block r) ks) ≡ blocks_use_dead same (Some g) d v ks
        blocks_under [] h = refl
        blocks_under (k ∷ ks) h = λ i. ops_under k.ops (h 0) i && blocks_under ks (λ b. h (suc b)) i

    pure_under : (ops : List (Op V)) → pure_results (map (rename_op r same_block) ops) ≡ map r (pure_results ops)
    pure_under [] = refl
    pure_under (Const w n ∷ ops) = ap (λ l. r w ∷ l) (pure_under ops)
    pure_under (Calc a t w x y ∷ ops) = by_trap (may_trap a) (pure_under ops)
      where
        by_trap : (b : Bool) → pure_results (map (rename_op r same_block) ops) ≡ map r (pure_results ops)
            → (if b then pure_results (map (rename_op r same_block) ops) else r w ∷ pure_results
            (map (rename_op r same_block) ops)) ≡ map r (if b then pure_results ops else w ∷ pure_results ops)
        by_trap true h = h
        by_trap false h = ap (λ l. r w ∷ l) h
    pure_under (Emit x ∷ ops) = pure_under ops
    pure_under (Call ws c xs ∷ ops) = pure_under ops
    pure_under (Branch s xs e es ∷ ops) = pure_under ops
    pure_under (Return xs ∷ ops) = pure_under ops

    candidates_under : (ks : List (Block V)) → candidates (map (place_block r) ks) ≡ map r (candidates ks)
    candidates_under [] = refl
    candidates_under (k ∷ ks) =
        (λ i. map r k.arguments ++ (pure_under k.ops i ++ candidates_under ks i))
        ∙ ap (λ l. map r k.arguments ++ l) (sym (map_append r (pure_results k.ops) (candidates ks)))
        ∙ sym (map_append r k.arguments (pure_results k.ops ++ candidates ks))

    -- a place among these is that of one of these names
    came : (a : Place) (xs : List V) → is_in same_place a (map r xs) ≡ true → (w : V) × In w xs × (a ≡ r w)
    came a [] e = absurd (cc e)
    came a (x ∷ xs) e = by_test (same_place a (r x)) refl (came a xs)
      where
        by_test : (b : Bool) → same_place a (r x) ≡ b
            → (is_in same_place a (map r xs) ≡ true → (w : V) × In w xs × (a ≡ r w))
            → (w : V) × In w (x ∷ xs) × (a ≡ r w)
        by_test true h ih = (x, inl refl, place_law.true_same a (r x) h)
        by_test false h ih =
            let z = ih (sym (ap (λ b. if b then true else is_in same_place a (map r xs)) h) ∙ e) in
            (z.0, inr z.1, z.2)

    candidate_has : (v : V) → In v (candidates g) → N v
    candidate_has v i = let b = candidate_in v g i in has_place same law (Some g) b.0 v b.1

    -- a set of places that holds the dead, of names
    names_hold : (e : Place → Bool) → HoldsDead same_place G e → HoldsDead same (Some g) (λ v. e (r v))
    names_hold e holds v h =
        let d : V → Bool = λ x. e (r x) in
        let may = and_first (may_die same (Some g) v) (all_uses_dead same (Some g) d v) h in
        let uses = and_second (may_die same (Some g) v) (all_uses_dead same (Some g) d v) h in
        let args : List V = arguments_in (Some g) 0 in
        let free = and_first (not (is_in same v args)) (is_in same v (candidates g)) may in
        let cand = and_second (not (is_in same v args)) (is_in same v (candidates g)) may in
        let nv = candidate_has v (is_there v (candidates g) cand) in
        let all_candidates : AllNamed N (candidates g) = each_has (candidates g) (λ x i. candidate_has x i) in
        holds (r v)
        (and_true _ _
        (and_true _ _
        (ap not (ap (is_in same_place (r v)) (place_takes same law (Some g) 0)
        ∙ is_under e d (λ x n. refl) v nv args (defined.arguments 0)) ∙ free)
        (ap (is_in same_place (r v)) (candidates_under g)
        ∙ is_under e d (λ x n. refl) v nv (candidates g) all_candidates ∙ cand))
        (blocks_under e d (λ x n. refl) v nv g (λ b. defined.ops b) ∙ uses))
      where
        each_has : (xs : List V) → ((x : V) → In x xs → N x) → AllNamed N xs
        each_has [] h = tt
        each_has (x ∷ xs) h = (h x (inl refl), each_has xs (λ y i. h y (inr i)))

    module _ (d : V → Bool) (is_dead : IsDeadSet same (Some g) d) where
      -- the name at a place is in the set
      abbrev dead_named : Place → Option V → Bool
      dead_named a None = false
      dead_named a (Some v) = same_place (r v) a && d v

      -- the places of the set
      abbrev pub placed_dead : Place → Bool
      placed_dead a = dead_named a (name_at (Some g) a)

      pub agrees : (v : V) → N v → placed_dead (r v) ≡ d v
      agrees v n =
          let here : r v ≡ n.0 = ap (λ o. unwrap_or o (Arg 0 0)) n.1 in
          ap (dead_named (r v)) (ap (name_at (Some g)) here ∙ at_place same law g v n.0 n.1)
          ∙ ap (λ b. b && d v) (place_law.same_true (r v))

      holds_placed : HoldsDead same_place G placed_dead
      holds_placed a h =
          let args : List V = arguments_in (Some g) 0 in
          let may = and_first (may_die same_place G a) (all_uses_dead same_place G placed_dead a) h in
          let unused = and_second (may_die same_place G a) (all_uses_dead same_place G placed_dead a) h in
          let free = and_first (not (is_in same_place a (arguments_in G 0)))
          (is_in same_place a (candidates (map (place_block r) g))) may in
          let cand = and_second (not (is_in same_place a (arguments_in G 0)))
          (is_in same_place a (candidates (map (place_block r) g))) may in
          let c = came a (candidates g) (sym (ap (is_in same_place a) (candidates_under g)) ∙ cand) in
          let nw = candidate_has c.0 c.1 in
          let stays : not (is_in same c.0 args) ≡ true =
          ap not (sym (is_under placed_dead d agrees c.0 nw args (defined.arguments 0))
          ∙ ap (λ x. is_in same_place x (map r args)) (sym c.2)
          ∙ sym (ap (is_in same_place a) (place_takes same law (Some g) 0))) ∙ free in
          let uses : blocks_use_dead same (Some g) d c.0 g ≡ true =
          sym (blocks_under placed_dead d agrees c.0 nw g (λ b. defined.ops b))
          ∙ ap (λ x. blocks_use_dead same_place G placed_dead x (map (place_block r) g)) (sym c.2) ∙ unused in
          ap placed_dead c.2 ∙ agrees c.0 nw
          ∙ is_dead.holds c.0 (and_true _ _ (and_true _ _ stays (in_is c.0 (candidates g) c.1)) uses)

      least_placed : (e : Place → Bool) → HoldsDead same_place G e → (a : Place) → placed_dead a ≡ true → e a ≡ true
      least_placed e holds a h = by_name (name_at (Some g) a) h
        where
          by_name : (o : Option V) → dead_named a o ≡ true → e a ≡ true
          by_name None q = absurd (cc q)
          by_name (Some v) q =
              ap e (sym (place_law.true_same (r v) a (and_first (same_place (r v) a) (d v) q)))
              ∙ is_dead.least (λ x. e (r x)) (names_hold e holds) v (and_second (same_place (r v) a) (d v) q)

      pub dead_placed : IsDeadSet same_place G placed_dead
      dead_placed = record { holds = holds_placed; least = least_placed }

      all_named : AreNamed N (Some g)
      all_named = record { ops = defined.ops; arguments = defined.arguments }

      -- what is left, by places
      pub thin_placed : place_fun same (thin d (Some g)) ≡ place_fun same_place (thin placed_dead G)
      thin_placed =
          let h : Option (Fun V) = thin d (Some g) in
          let named : AreNamed N h = thinned_named N d (Some g) all_named in
          sym (placed_on same same_place r N (apart same law (Some g)) h named)
          ∙ ap (place_fun same_place)
          (ap Some (sym (blocks_thinned r N d placed_dead agrees g defined.arguments g defined.ops defined.arguments)))
