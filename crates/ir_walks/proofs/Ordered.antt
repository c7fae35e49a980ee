-- A walk calls in the order of places.
use Rattle.std.proofs.Common.{◌≡◌, ◌⊎◌, inl, inr, ⊎_elim, ℕ, zero, suc, ◌<◌, List, [], ◌∷◌, ◌++◌, slice_get, Some, refl, sym, ap, ◌∙◌, subst, arith}
use Rattle.std.specs.Prelude.{Contains}
use Rattle.std.proofs.lemmas.List.Elements.{Contains-append_left, Contains-append_right}
use Rattle.ir_program.specs.Preorder.{StandOnceEach, nodes_in}
use Rattle.ir_program.specs.Program.{Program}
use Rattle.ir_program.specs.declared.handles.IRNode.{IRNode}
use Rattle.ir_walks.specs.declared.config.Order.TheVariants.{PreOrder, PostOrder}
use Rattle.ir_walks.specs.declared.config.WalkConfig.{WalkConfig}
use Rattle.ir_walks.specs.declared.results.WalkContinue.TheVariants.{Advance, Skip}
use Rattle.ir_walks.specs.Levels.{IsCalledFirst, IsCalledLast, level_of, members}
use Rattle.ir_walks.specs.Walks.{Call, called_nodes, IsWalk, nothing, skipped, first, last}
use Rattle.ir_walks.specs.Places.{Holds, IsBefore, holder_first, holder_last, by_position, IsCalled, IsWalkOf}
use Rattle.ir_walks.proofs.Sequences.{OfEach, InTurn, each_map, each_append, each_of, turn_map, turn_append, turn_get, in_pairs, contains_here, contains_there, contains_get, directed_at, compare, got_from}
use Rattle.ir_walks.proofs.Trees.{Within, it, deeper, IsTree, through, inside, member_in, disjoint, below_apart}

-- b stands in one of these, or is one
pub record WithinOne {O B : Type 0} (c : Program O B) (es : List IRNode) (b : IRNode) : Type 0 where
  pub place : ℕ
  pub one : IRNode
  pub here : slice_get es place ≡ Some one
  pub within : Within c one b

-- a is or stands in an earlier one of these than b
pub record Across {O B : Type 0} (c : Program O B) (es : List IRNode) (a b : IRNode) : Type 0 where
  pub one : WithinOne c es a
  pub two : WithinOne c es b
  pub earlier : one.place < two.place

module _ {O B : Type 0} (c : Program O B) (config : WalkConfig) where
  -- b stands in a
  abbrev pub Below : IRNode → IRNode → Type 0
  Below a b = WithinOne c (members c config a) b

  -- what is known of a call and a later one: the one that holds the other was gone into
  pub data Precedes (a b : Call) : Type 0 where
    gone_into : IsCalledFirst config a.0 → a.1 ≡ Advance → Below a.0 b.0 → Precedes a b
    left : IsCalledLast config b.0 → Below b.0 a.0 → Precedes a b
    beside : (d : IRNode) → Across c (members c config d) a.0 b.0 → Precedes a b

  abbrev Either : List IRNode → Call → Call → Type 0
  Either es a b = Precedes a b ⊎ Across c es a.0 b.0

  abbrev first_one : (e : IRNode) (es : List IRNode) (b : IRNode) → Within c e b → WithinOne c (e ∷ es) b
  first_one e es b w = record { place = 0; one = e; here = refl; within = w }

  abbrev later_one : (e : IRNode) (es : List IRNode) (b : IRNode) → WithinOne c es b → WithinOne c (e ∷ es) b
  later_one e es b w = record { place = suc w.place; one = w.one; here = w.here; within = w.within }

  pub below_within : (e b : IRNode) → Below e b → Within c e b
  below_within e b w = let m = member_in c config e w.one w.place w.here in through c e w.one b (deeper e w.one m.0 m.1 it) w.within

  across_first : (e : IRNode) (es : List IRNode) (a b : IRNode) → Within c e a → WithinOne c es b → Across c (e ∷ es) a b
  across_first e es a b w v = record { one = first_one e es a w; two = later_one e es b v; earlier = omega arith }

  across_later : (e : IRNode) (es : List IRNode) (a b : IRNode) → Across c es a b → Across c (e ∷ es) a b
  across_later e es a b x = record { one = later_one e es a x.one; two = later_one e es b x.two; earlier = let h = x.earlier in omega arith }

  -- each call is of one of the nodes, or of one inside
  pub each_within : (es : List IRNode) (cs : List Call) → IsWalk c config es cs → OfEach (λ (d : Call). WithinOne c es d.0) cs
  each_within _ _ nothing = tt
  each_within _ _ (skipped e es rest p w) = (first_one e es e it, each_map (λ (d : Call). WithinOne c es d.0) (λ (d : Call). WithinOne c (e ∷ es) d.0) (λ d m. later_one e es d.0 m) rest (each_within es rest w))
  each_within _ _ (first e es inner rest p i w) =
      let P : Call → Type 0 = λ (d : Call). WithinOne c (e ∷ es) d.0 in (
        first_one e es e it,
        each_append P inner rest
            (each_map (λ (d : Call). Below e d.0) P (λ d m. first_one e es d.0 (below_within e d.0 m)) inner (each_within (members c config e) inner i))
            (each_map (λ (d : Call). WithinOne c es d.0) P (λ d m. later_one e es d.0 m) rest (each_within es rest w)),
      )
  each_within _ _ (last e es inner rest a p i w) =
      let P : Call → Type 0 = λ (d : Call). WithinOne c (e ∷ es) d.0 in
      each_append P inner ((e, a) ∷ rest)
      (each_map (λ (d : Call). Below e d.0) P (λ d m. first_one e es d.0 (below_within e d.0 m)) inner (each_within (members c config e) inner i))
      (first_one e es e it, each_map (λ (d : Call). WithinOne c es d.0) P (λ d m. later_one e es d.0 m) rest (each_within es rest w))

  -- each call and each later one
  in_order : (es : List IRNode) (cs : List Call) → IsWalk c config es cs → InTurn (Either es) cs
  in_order _ _ nothing = tt
  in_order _ _ (skipped e es rest p w) = (
    each_map (λ (d : Call). WithinOne c es d.0) (Either (e ∷ es) (e, Skip)) (λ d m. inr (across_first e es e d.0 it m)) rest (each_within es rest w),
    turn_map (Either es) (Either (e ∷ es)) (λ a b r. ⊎_elim (λ y. inl y) (λ z. inr (across_later e es a.0 b.0 z)) r) rest (in_order es rest w),
  )
  in_order _ _ (first e es inner rest p i w) =
      let R : Call → Call → Type 0 = Either (e ∷ es) in
      let here : OfEach (λ (d : Call). Below e d.0) inner = each_within (members c config e) inner i in
      let there : OfEach (λ (d : Call). WithinOne c es d.0) rest = each_within es rest w in
      let onwards : (a : Call) → Within c e a.0 → OfEach (R a) rest = λ a v. each_map (λ (d : Call). WithinOne c es d.0) (R a) (λ d m. inr (across_first e es a.0 d.0 v m)) rest there in (
        each_append (R (e, Advance)) inner rest
            (each_map (λ (d : Call). Below e d.0) (R (e, Advance)) (λ d m. inl (gone_into p refl m)) inner here)
            (onwards (e, Advance) it),
        turn_append R inner rest
            (turn_map (Either (members c config e)) R (λ a b r. ⊎_elim (λ y. inl y) (λ z. inl (beside e z)) r) inner (in_order (members c config e) inner i))
            (turn_map (Either es) R (λ a b r. ⊎_elim (λ y. inl y) (λ z. inr (across_later e es a.0 b.0 z)) r) rest (in_order es rest w))
            (each_map (λ (d : Call). Below e d.0) (λ d. OfEach (R d) rest) (λ d m. onwards d (below_within e d.0 m)) inner here),
      )
  in_order _ _ (last e es inner rest a p i w) =
      let R : Call → Call → Type 0 = Either (e ∷ es) in
      let here : OfEach (λ (d : Call). Below e d.0) inner = each_within (members c config e) inner i in
      let there : OfEach (λ (d : Call). WithinOne c es d.0) rest = each_within es rest w in
      let onwards : (b : Call) → Within c e b.0 → OfEach (R b) rest = λ b v. each_map (λ (d : Call). WithinOne c es d.0) (R b) (λ d m. inr (across_first e es b.0 d.0 v m)) rest there in
      turn_append R inner ((e, a) ∷ rest)
      (turn_map (Either (members c config e)) R (λ b d r. ⊎_elim (λ y. inl y) (λ z. inl (beside e z)) r) inner (in_order (members c config e) inner i))
      (onwards (e, a) it, turn_map (Either es) R (λ b d r. ⊎_elim (λ y. inl y) (λ z. inr (across_later e es b.0 d.0 z)) r) rest (in_order es rest w))
      (each_map (λ (d : Call). Below e d.0) (λ d. OfEach (R d) ((e, a) ∷ rest)) (λ d m. (inl (left p m), onwards d (below_within e d.0 m))) inner here)

  -- it was called, or it stands in one that was skipped
  abbrev pub IsAccounted : List Call → IRNode → Type 0
  IsAccounted calls b = IsCalled c config calls b ⊎ ((a : IRNode) × IsCalledFirst config a × Contains calls (a, Skip) × Below a b)

  more_accounted : (cs ds : List Call) → ((d : Call) → Contains cs d → Contains ds d) → (b : IRNode) → IsAccounted cs b → IsAccounted ds b
  more_accounted cs ds f b h = ⊎_elim (λ k. inl (k.0, f (b, k.0) k.1)) (λ k. inr (k.0, k.1, f (k.0, Skip) k.2, k.3)) h

  inner_or_itself : (e b : IRNode) → Within c e b → (b ≡ e) ⊎ Below e b
  inner_or_itself e _ it = inl refl
  inner_or_itself e _ (deeper d b k h w) = ⊎_elim
      (λ (s : d ≡ e). let m = directed_at (level_of config e).direction (nodes_in c e) k b (subst (λ z. slice_get (nodes_in c z) k ≡ Some b) s h) in inr (record { place = m.0; one = b; here = m.1; within = it }))
      (λ (v : Below e d). inr (record { place = v.place; one = v.one; here = v.here; within = deeper d b k h v.within }))
      (inner_or_itself e d w)

  accounted : (es : List IRNode) (cs : List Call) → IsWalk c config es cs → (b : IRNode) → WithinOne c es b → IsAccounted cs b
  accounted es cs w b v = at es cs w v.place v.one v.here v.within where
    at : (es : List IRNode) (cs : List Call) → IsWalk c config es cs → (place : ℕ) (one : IRNode) → slice_get es place ≡ Some one → Within c one b → IsAccounted cs b
    at _ _ nothing place one h v = cc
    at _ _ (skipped e es rest p w) zero one h v =
        let is : e ≡ one = cc in
        ⊎_elim (λ (s : b ≡ e). inl (Skip, subst (λ z. Contains ((e, Skip) ∷ rest) (z, Skip)) (sym s) (contains_here (e, Skip) rest)))
        (λ u. inr (e, p, contains_here (e, Skip) rest, u)) (inner_or_itself e b (subst (λ z. Within c z b) (sym is) v))
    at _ _ (skipped e es rest p w) (suc place) one h v = more_accounted rest ((e, Skip) ∷ rest) (λ d m. contains_there (e, Skip) rest d m) b (at es rest w place one h v)
    at _ _ (first e es inner rest p i w) zero one h v =
        let is : e ≡ one = cc in
        ⊎_elim (λ (s : b ≡ e). inl (Advance, subst (λ z. Contains ((e, Advance) ∷ (inner ++ rest)) (z, Advance)) (sym s) (contains_here (e, Advance) (inner ++ rest))))
        (λ u. more_accounted inner ((e, Advance) ∷ (inner ++ rest)) (λ d m. contains_there (e, Advance) (inner ++ rest) d (Contains-append_left inner rest d m)) b
        (at (members c config e) inner i u.place u.one u.here u.within)) (inner_or_itself e b (subst (λ z. Within c z b) (sym is) v))
    at _ _ (first e es inner rest p i w) (suc place) one h v = more_accounted rest ((e, Advance) ∷ (inner ++ rest)) (λ d m. contains_there (e, Advance) (inner ++ rest) d (Contains-append_right inner rest d m)) b (at es rest w place one h v)
    at _ _ (last e es inner rest a p i w) zero one h v =
        let is : e ≡ one = cc in
        ⊎_elim (λ (s : b ≡ e). inl (a, subst (λ z. Contains (inner ++ (e, a) ∷ rest) (z, a)) (sym s) (Contains-append_right inner ((e, a) ∷ rest) (e, a) (contains_here (e, a) rest))))
        (λ u. more_accounted inner (inner ++ (e, a) ∷ rest) (λ d m. Contains-append_left inner ((e, a) ∷ rest) d m) b
        (at (members c config e) inner i u.place u.one u.here u.within)) (inner_or_itself e b (subst (λ z. Within c z b) (sym is) v))
    at _ _ (last e es inner rest a p i w) (suc place) one h v = more_accounted rest (inner ++ (e, a) ∷ rest) (λ d m. Contains-append_right inner ((e, a) ∷ rest) d (contains_there (e, a) rest d m)) b (at es rest w place one h v)

  never_across : (x a b : IRNode) → Across c (x ∷ []) a b → ⊥
  never_across x a b z = from z.two.place z.two.here z.earlier where
    from : (n : ℕ) → slice_get (x ∷ []) n ≡ Some z.two.one → z.one.place < n → ⊥
    from zero h l = absurd (omega (arith, l))
    from (suc n) h l = cc

  only_one : (x b : IRNode) → WithinOne c (x ∷ []) b → Within c x b
  only_one x b w = from w.place w.here where
    from : (n : ℕ) → slice_get (x ∷ []) n ≡ Some w.one → Within c x b
    from zero h = let is : w.one ≡ x = cc in subst (λ z. Within c z b) is w.within
    from (suc n) h = cc

  module _ (tree : IsTree c) where
    below_not : (a b : IRNode) → Below a b → Within c b a → ⊥
    below_not a b w v = below_apart c config tree a w.one b w.place w.here w.within v

    holds : (a b : IRNode) → Below a b → Holds c config a b
    holds a b w = ((λ (s : a ≡ b). below_not a b w (subst (Within c b) (sym s) it)), tree.outside a b (below_within a b w))

    holds_below : (a b : IRNode) → Holds c config a b → Below a b
    holds_below a b h = ⊎_elim (λ (s : b ≡ a). absurd (h.0 (sym s))) (λ w. w) (inner_or_itself a b (inside c a b h.1))

    across_not : (d a b : IRNode) → Across c (members c config d) a b → Within c a b → ⊥
    across_not d a b x w = disjoint c config tree d x.one.one x.two.one b x.one.place x.two.place x.one.here x.two.here (λ s. let l = x.earlier in absurd (omega (arith, l, s))) (through c x.one.one a b x.one.within w) x.two.within

    across_nor : (d a b : IRNode) → Across c (members c config d) a b → Within c b a → ⊥
    across_nor d a b x w = disjoint c config tree d x.one.one x.two.one a x.one.place x.two.place x.one.here x.two.here (λ s. let l = x.earlier in absurd (omega (arith, l, s))) x.one.within (through c x.two.one b a x.two.within w)

    is_before : (a b : Call) → Precedes a b → IsBefore c config a.0 b.0
    is_before a b (gone_into p s w) = holder_first p (holds a.0 b.0 w)
    is_before a b (left p w) = holder_last p (holds b.0 a.0 w)
    is_before a b (beside d x) = by_position d (record {
      with_a = x.one.one;
      with_b = x.two.one;
      place = x.one.place;
      later = x.two.place;
      first = x.one.here;
      second = x.two.here;
      has_a = tree.outside x.one.one a.0 x.one.within;
      has_b = tree.outside x.two.one b.0 x.two.within;
      earlier = x.earlier;
    })

    -- no node precedes itself
    not_twice : (a b : Call) → Precedes a b → a.0 ≡ b.0 → ⊥
    not_twice a b (gone_into p s w) same = below_not a.0 b.0 w (subst (λ z. Within c z a.0) same it)
    not_twice a b (left p w) same = below_not b.0 a.0 w (subst (λ z. Within c z b.0) (sym same) it)
    not_twice a b (beside d x) same = across_not d a.0 b.0 x (subst (Within c a.0) same it)

    both_orders : (e : IRNode) → IsCalledFirst config e → IsCalledLast config e → ⊥
    both_orders e p q = let s : PreOrder ≡ PostOrder = sym p ∙ q in cc

    -- what stands in one that was skipped is called neither before nor after it
    not_after : (a b : Call) → Precedes a b → a.1 ≡ Skip → Below a.0 b.0 → ⊥
    not_after a b (gone_into p s w) skips u = let no : Advance ≡ Skip = sym s ∙ skips in cc
    not_after a b (left p w) skips u = below_not a.0 b.0 u (below_within b.0 a.0 w)
    not_after a b (beside d x) skips u = across_not d a.0 b.0 x (below_within a.0 b.0 u)

    not_before : (a b : Call) → Precedes a b → IsCalledFirst config b.0 → Below b.0 a.0 → ⊥
    not_before a b (gone_into p s w) q u = below_not a.0 b.0 w (below_within b.0 a.0 u)
    not_before a b (left p w) q u = both_orders b.0 q p
    not_before a b (beside d x) q u = across_nor d a.0 b.0 x (below_within b.0 a.0 u)

    module _ (x : IRNode) (cs : List Call) (w : IsWalk c config (x ∷ []) cs) where
      precedes : InTurn Precedes cs
      precedes = turn_map (Either (x ∷ [])) Precedes (λ a b r. ⊎_elim (λ y. y) (λ z. absurd (never_across x a.0 b.0 z)) r) cs (in_order (x ∷ []) cs w)

      called_once : StandOnceEach (called_nodes cs)
      called_once j k e h i =
          let g = got_from (λ (d : Call). d.0) cs j e h in
          let f = got_from (λ (d : Call). d.0) cs k e i in
          one_of j k (λ lt. not_twice g.0 f.0 (turn_get Precedes cs precedes j k g.0 f.0 lt g.1 f.1) (sym g.2 ∙ f.2))
          (λ lt. not_twice f.0 g.0 (turn_get Precedes cs precedes k j f.0 g.0 lt f.1 g.1) (sym f.2 ∙ g.2))
        where
          one_of : (j k : ℕ) → (j < k → ⊥) → (k < j → ⊥) → j ≡ k
          one_of j k a b = ⊎_elim (λ lt. absurd (a lt)) (λ r. ⊎_elim (λ e. e) (λ lt. absurd (b lt)) r) (compare j k)

      not_skipped : (a b : Call) → Contains cs a → Contains cs b → IsCalledFirst config a.0 → a.1 ≡ Skip → Below a.0 b.0 → ⊥
      not_skipped a b m n p skips u =
          let i = contains_get cs a m.0 m.1 m.2 in
          let j = contains_get cs b n.0 n.1 n.2 in
          ⊎_elim (λ lt. not_after a b (turn_get Precedes cs precedes i.0 j.0 a b lt i.1 j.1) skips u)
          (λ r. ⊎_elim (λ e. same i.0 j.0 i.1 j.1 e) (λ lt. not_before b a (turn_get Precedes cs precedes j.0 i.0 b a lt j.1 i.1) p u) r) (compare i.0 j.0)
        where
          same : (i j : ℕ) → slice_get cs i ≡ Some a → slice_get cs j ≡ Some b → i ≡ j → ⊥
          same i j h k e =
              let both : Some a ≡ Some b = sym h ∙ ap (slice_get cs) e ∙ k in
              let one : a ≡ b = cc in
              below_not a.0 b.0 u (subst (λ (z : Call). Within c z.0 a.0) one it)

      pub walk_of : IsWalkOf c config x cs
      walk_of = record {
        order = in_pairs (λ (a b : Call). IsBefore c config a.0 b.0) cs (turn_map Precedes (λ (a b : Call). IsBefore c config a.0 b.0) is_before cs precedes);
        once = called_once;
        exactly = λ e. (
          (λ k. (
            tree.outside x e (only_one x e (each_of (λ (d : Call). WithinOne c (x ∷ []) d.0) cs (each_within (x ∷ []) cs w) (e, k.0) k.1)),
            λ s. not_skipped (s.0, Skip) (e, k.0) s.2 k.1 s.1 refl (holds_below s.0 e s.3),
          )),
          (λ h. ⊎_elim (λ k. k) (λ s. absurd (h.1 (s.0, s.1, s.2, holds s.0 e s.3))) (accounted (x ∷ []) cs w e (first_one x [] e (inside c x e h.0)))),
        );
        either = λ e h. ⊎_elim (λ k. inl k) (λ s. inr (s.0, s.1, s.2, holds s.0 e s.3)) (accounted (x ∷ []) cs w e (first_one x [] e (inside c x e h)));
        nested = w;
      }
