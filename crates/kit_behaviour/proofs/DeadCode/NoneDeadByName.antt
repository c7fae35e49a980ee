-- After the removal nothing is dead.
use Rattle.std.proofs.Common.{◌≡◌, ◌⊎◌, ⊎_elim, inl, inr, Bool, true, false, List, [], ◌∷◌, ◌++◌, Option, Some, None, refl, sym, ap, ◌∙◌, subst}
use Rattle.std.specs.Prelude.{if◌then◌else◌, not, map}
use Rattle.kit_behaviour.specs.Machine.{Edge, Op, Const, Calc, Emit, Call, Branch, Return, Block, Fun, arguments_in}
use Rattle.kit_behaviour.specs.RemovedValues.{thin_edge, may_trap, goes, live, pick, thin_op, thin_ops, thin_block, thin}
use Rattle.kit_behaviour.specs.DeadValues.{edges_dead, forwards_dead, use_dead, ops_use_dead, blocks_use_dead, all_uses_dead, pure_results, candidates, may_die, HoldsDead, IsDeadSet}
use Rattle.kit_behaviour.specs.Scopes.{is_in}
use Rattle.kit_behaviour.proofs.Behaviour.FrameLemmas.{IsSameness}
use Rattle.kit_behaviour.proofs.DeadCode.RemovalBehaviour.{thin_takes}
use Rattle.kit_behaviour.proofs.Propagation.FactsAfterwards.{and_true, and_first, and_second}

module _ {V : Type 0} (same : V → V → Bool) (law : IsSameness same) (f : Option (Fun V)) (d : V → Bool) (v : V) where
  abbrev none : V → Bool
  none w = false

  is_append : (xs ys : List V) → (is_in same v xs ≡ true) ⊎ (is_in same v ys ≡ true) → is_in same v (xs ++ ys) ≡ true
  is_append [] ys h = ⊎_elim (λ a. absurd (cc a)) (λ b. b) h
  is_append (x ∷ xs) ys h = by_test (same v x) h (is_append xs ys)
    where
      by_test : (b : Bool) → ((if b then true else is_in same v xs) ≡ true) ⊎ (is_in same v ys ≡ true) → ((is_in same v xs ≡ true) ⊎ (is_in same v ys ≡ true) → is_in same v (xs ++ ys) ≡ true) → (if b then true else is_in same v (xs ++ ys)) ≡ true
      by_test true g ih = refl
      by_test false g ih = ih g

  is_split : (xs ys : List V) → is_in same v (xs ++ ys) ≡ true → (is_in same v xs ≡ true) ⊎ (is_in same v ys ≡ true)
  is_split [] ys h = inr h
  is_split (x ∷ xs) ys h = by_test (same v x) h (is_split xs ys)
    where
      by_test : (b : Bool) → (if b then true else is_in same v (xs ++ ys)) ≡ true → (is_in same v (xs ++ ys) ≡ true → (is_in same v xs ≡ true) ⊎ (is_in same v ys ≡ true)) → ((if b then true else is_in same v xs) ≡ true) ⊎ (is_in same v ys ≡ true)
      by_test true g ih = inl refl
      by_test false g ih = ih g

  -- what stays was there, and is not of the set
  abbrev Was : List V → Type 0
  Was xs = (is_in same v xs ≡ true) × (d v ≡ false)

  was_more : (x : V) (xs : List V) → Was xs → Was (x ∷ xs)
  was_more x xs h = (by_test (same v x), h.1)
    where
      by_test : (b : Bool) → (if b then true else is_in same v xs) ≡ true
      by_test true = refl
      by_test false = h.0

  was_head : (x : V) (xs ys : List V) → d x ≡ false → is_in same v (x ∷ xs) ≡ true → (is_in same v xs ≡ true → Was ys) → Was (x ∷ ys)
  was_head x xs ys e h ih = by_test (same v x) refl
    where
      by_test : (b : Bool) → same v x ≡ b → Was (x ∷ ys)
      by_test true t = (ap (λ b. if b then true else is_in same v ys) t, ap d (law.true_same v x t) ∙ e)
      by_test false t = was_more x ys (ih (sym (ap (λ b. if b then true else is_in same v xs) t) ∙ h))

  live_was : (ts : List V) → is_in same v (live d ts) ≡ true → Was ts
  live_was [] h = absurd (cc h)
  live_was (t ∷ ts) h = by_test (d t) refl (live_was ts)
    where
      by_test : (b : Bool) → d t ≡ b → (is_in same v (live d ts) ≡ true → Was ts) → Was (t ∷ ts)
      by_test true e ih = was_more t ts (ih (sym (ap (λ b. is_in same v (if b then live d ts else t ∷ live d ts)) e) ∙ h))
      by_test false e ih = was_head t (live d ts) ts e (sym (ap (λ b. is_in same v (if b then live d ts else t ∷ live d ts)) e) ∙ h) ih

  pure_was : (ops : List (Op V)) → is_in same v (pure_results (thin_ops f d ops)) ≡ true → Was (pure_results ops)
  pure_was [] h = absurd (cc h)
  pure_was (Const r n ∷ ops) h = by_test (d r) refl (pure_was ops)
    where
      by_test : (b : Bool) → d r ≡ b → (is_in same v (pure_results (thin_ops f d ops)) ≡ true → Was (pure_results ops)) → Was (r ∷ pure_results ops)
      by_test true e ih = was_more r (pure_results ops) (ih (sym (ap (λ b. is_in same v (pure_results (if b then thin_ops f d ops else Const r n ∷ thin_ops f d ops))) e) ∙ h))
      by_test false e ih = was_head r (pure_results (thin_ops f d ops)) (pure_results ops) e (sym (ap (λ b. is_in same v (pure_results (if b then thin_ops f d ops else Const r n ∷ thin_ops f d ops))) e) ∙ h) ih
  pure_was (Calc a w r x y ∷ ops) h = by_test (may_trap a) refl (d r) refl (pure_was ops)
    where
      by_test : (t : Bool) → may_trap a ≡ t → (b : Bool) → d r ≡ b → (is_in same v (pure_results (thin_ops f d ops)) ≡ true → Was (pure_results ops)) → Was (if may_trap a then pure_results ops else r ∷ pure_results ops)
      by_test true q b e ih =
          let g = sym (ap (λ t. is_in same v (pure_results (if (if t then false else d r) then thin_ops f d ops else Calc a w r x y ∷ thin_ops f d ops))) q ∙ ap (λ t. is_in same v (if t then pure_results (thin_ops f d ops) else r ∷ pure_results (thin_ops f d ops))) q) ∙ h in
          subst (λ t. Was (if t then pure_results ops else r ∷ pure_results ops)) (sym q) (ih g)
      by_test false q true e ih =
          let g = sym (ap (λ t. is_in same v (pure_results (if (if t then false else d r) then thin_ops f d ops else Calc a w r x y ∷ thin_ops f d ops))) q ∙ ap (λ b. is_in same v (pure_results (if b then thin_ops f d ops else Calc a w r x y ∷ thin_ops f d ops))) e) ∙ h in
          subst (λ t. Was (if t then pure_results ops else r ∷ pure_results ops)) (sym q) (was_more r (pure_results ops) (ih g))
      by_test false q false e ih =
          let g = sym (ap (λ t. is_in same v (pure_results (if (if t then false else d r) then thin_ops f d ops else Calc a w r x y ∷ thin_ops f d ops))) q ∙ ap (λ b. is_in same v (pure_results (if b then thin_ops f d ops else Calc a w r x y ∷ thin_ops f d ops))) e ∙ ap (λ t. is_in same v (if t then pure_results (thin_ops f d ops) else r ∷ pure_results (thin_ops f d ops))) q) ∙ h in
          subst (λ t. Was (if t then pure_results ops else r ∷ pure_results ops)) (sym q) (was_head r (pure_results (thin_ops f d ops)) (pure_results ops) e g ih)
  pure_was (Emit x ∷ ops) h = pure_was ops h
  pure_was (Call rs k xs ∷ ops) h = pure_was ops h
  pure_was (Branch s xs e es ∷ ops) h = pure_was ops h
  pure_was (Return xs ∷ ops) h = pure_was ops h

  candidates_were : (ks : List (Block V)) → is_in same v (candidates (map (thin_block f d) ks)) ≡ true → Was (candidates ks)
  candidates_were [] h = absurd (cc h)
  candidates_were (k ∷ ks) h =
      let rest = pure_results (thin_ops f d k.ops) ++ candidates (map (thin_block f d) ks) in
      ⊎_elim
      (λ a. let w = live_was k.arguments a in (is_append k.arguments (pure_results k.ops ++ candidates ks) (inl w.0), w.1))
      (λ b. ⊎_elim
      (λ a. let w = pure_was k.ops a in (is_append k.arguments (pure_results k.ops ++ candidates ks) (inr (is_append (pure_results k.ops) (candidates ks) (inl w.0))), w.1))
      (λ c. let w = candidates_were ks c in (is_append k.arguments (pure_results k.ops ++ candidates ks) (inr (is_append (pure_results k.ops) (candidates ks) (inr w.0))), w.1))
      (is_split (pure_results (thin_ops f d k.ops)) (candidates (map (thin_block f d) ks)) b))
      (is_split (live d k.arguments) rest h)

  -- what is not used by what stays was used by the set alone

  unless : (b : Bool) (c c' : Bool) → (c ≡ true → ⊥) → (if b then c else true) ≡ true → (if b then c' else true) ≡ true
  unless true c c' f h = absurd (f h)
  unless false c c' f h = refl

  not_true : false ≡ true → ⊥
  not_true e = cc e

  forwards_were : (ts gs : List V) → forwards_dead same none v (live d ts) (pick d ts gs) ≡ true → forwards_dead same d v ts gs ≡ true
  forwards_were [] gs h = refl
  forwards_were (t ∷ ts) [] h = refl
  forwards_were (t ∷ ts) (g ∷ gs) h = by_test (d t) refl (forwards_were ts gs)
    where
      by_test : (b : Bool) → d t ≡ b → (forwards_dead same none v (live d ts) (pick d ts gs) ≡ true → forwards_dead same d v ts gs ≡ true) → forwards_dead same d v (t ∷ ts) (g ∷ gs) ≡ true
      by_test true e ih =
          let h1 = sym (ap (λ b. forwards_dead same none v (if b then live d ts else t ∷ live d ts) (if b then pick d ts gs else g ∷ pick d ts gs)) e) ∙ h in
          and_true _ _ (either (same v g) (d t) e) (ih h1)
        where
          either : (b c : Bool) → c ≡ true → (if b then c else true) ≡ true
          either true c q = q
          either false c q = refl
      by_test false e ih =
          let h1 = sym (ap (λ b. forwards_dead same none v (if b then live d ts else t ∷ live d ts) (if b then pick d ts gs else g ∷ pick d ts gs)) e) ∙ h in
          and_true _ _ (unless (same v g) false (d t) not_true (and_first (if same v g then false else true) (forwards_dead same none v (live d ts) (pick d ts gs)) h1)) (ih (and_second (if same v g then false else true) _ h1))

  edge_were : (e : Edge V) → forwards_dead same none v (arguments_in (thin d f) e.target) (pick d (arguments_in f e.target) e.forwards) ≡ true → forwards_dead same d v (arguments_in f e.target) e.forwards ≡ true
  edge_were e h = forwards_were (arguments_in f e.target) e.forwards (ap (λ ts. forwards_dead same none v ts (pick d (arguments_in f e.target) e.forwards)) (sym (thin_takes d f e.target)) ∙ h)

  edges_were : (es : List (Edge V)) → edges_dead same (thin d f) none v (map (thin_edge f d) es) ≡ true → edges_dead same f d v es ≡ true
  edges_were [] h = refl
  edges_were (e ∷ es) h =
      let a = forwards_dead same none v (arguments_in (thin d f) e.target) (pick d (arguments_in f e.target) e.forwards) in
      let b = edges_dead same (thin d f) none v (map (thin_edge f d) es) in
      and_true _ _ (edge_were e (and_first a b h)) (edges_were es (and_second a b h))

  use_was : (op : Op V) → use_dead same (thin d f) none v (thin_op f d op) ≡ true → use_dead same f d v op ≡ true
  use_was (Const r n) h = refl
  use_was (Calc a w r x y) h = unless (is_in same v (x ∷ y ∷ [])) (if may_trap a then false else false) (if may_trap a then false else d r) (λ q. no_way (may_trap a) q) h
    where
      no_way : (b : Bool) → (if b then false else false) ≡ true → ⊥
      no_way true q = cc q
      no_way false q = cc q
  use_was (Emit x) h = h
  use_was (Call rs c xs) h = h
  use_was (Branch s xs e es) h =
      let t = not (is_in same v xs) in
      and_true _ _ (and_first t (edges_dead same (thin d f) none v (map (thin_edge f d) (e ∷ es))) h) (edges_were (e ∷ es) (and_second t (edges_dead same (thin d f) none v (map (thin_edge f d) (e ∷ es))) h))
  use_was (Return xs) h = h

  gone_uses : (op : Op V) → goes d op ≡ true → use_dead same f d v op ≡ true
  gone_uses (Const r n) h = refl
  gone_uses (Calc a w r x y) h = either (is_in same v (x ∷ y ∷ [])) (if may_trap a then false else d r) h
    where
      either : (b c : Bool) → c ≡ true → (if b then c else true) ≡ true
      either true c q = q
      either false c q = refl
  gone_uses (Emit x) h = absurd (cc h)
  gone_uses (Call rs c xs) h = absurd (cc h)
  gone_uses (Branch s xs e es) h = absurd (cc h)
  gone_uses (Return xs) h = absurd (cc h)

  ops_were : (ops : List (Op V)) → ops_use_dead same (thin d f) none v (thin_ops f d ops) ≡ true → ops_use_dead same f d v ops ≡ true
  ops_were [] h = refl
  ops_were (op ∷ ops) h = by_test (goes d op) refl (ops_were ops)
    where
      by_test : (b : Bool) → goes d op ≡ b → (ops_use_dead same (thin d f) none v (thin_ops f d ops) ≡ true → ops_use_dead same f d v ops ≡ true) → ops_use_dead same f d v (op ∷ ops) ≡ true
      by_test true e ih = and_true _ _ (gone_uses op e) (ih (sym (ap (λ b. ops_use_dead same (thin d f) none v (if b then thin_ops f d ops else thin_op f d op ∷ thin_ops f d ops)) e) ∙ h))
      by_test false e ih =
          let h1 = sym (ap (λ b. ops_use_dead same (thin d f) none v (if b then thin_ops f d ops else thin_op f d op ∷ thin_ops f d ops)) e) ∙ h in
          and_true _ _ (use_was op (and_first _ (ops_use_dead same (thin d f) none v (thin_ops f d ops)) h1)) (ih (and_second (use_dead same (thin d f) none v (thin_op f d op)) _ h1))

  blocks_were : (ks : List (Block V)) → blocks_use_dead same (thin d f) none v (map (thin_block f d) ks) ≡ true → blocks_use_dead same f d v ks ≡ true
  blocks_were [] h = refl
  blocks_were (k ∷ ks) h =
      let a = ops_use_dead same (thin d f) none v (thin_ops f d k.ops) in
      let b = blocks_use_dead same (thin d f) none v (map (thin_block f d) ks) in
      and_true _ _ (ops_were k.ops (and_first a b h)) (blocks_were ks (and_second a b h))

  live_is : (ts : List V) → d v ≡ false → is_in same v ts ≡ true → is_in same v (live d ts) ≡ true
  live_is [] e h = h
  live_is (t ∷ ts) e h = by_test (d t) refl (same v t) refl (live_is ts e)
    where
      by_test : (b : Bool) → d t ≡ b → (c : Bool) → same v t ≡ c → (is_in same v ts ≡ true → is_in same v (live d ts) ≡ true) → is_in same v (if d t then live d ts else t ∷ live d ts) ≡ true
      by_test true q true s ih = let bad : true ≡ false = sym q ∙ ap d (sym (law.true_same v t s)) ∙ e in absurd (cc bad)
      by_test true q false s ih = ap (λ b. is_in same v (if b then live d ts else t ∷ live d ts)) q ∙ ih (sym (ap (λ b. if b then true else is_in same v ts) s) ∙ h)
      by_test false q true s ih = ap (λ b. is_in same v (if b then live d ts else t ∷ live d ts)) q ∙ ap (λ b. if b then true else is_in same v (live d ts)) s
      by_test false q false s ih =
          ap (λ b. is_in same v (if b then live d ts else t ∷ live d ts)) q ∙ ap (λ b. if b then true else is_in same v (live d ts)) s
          ∙ ih (sym (ap (λ b. if b then true else is_in same v ts) s) ∙ h)

not_swap : (a b : Bool) → (b ≡ true → a ≡ true) → not a ≡ true → not b ≡ true
not_swap a true f h = let x : false ≡ true = sym (ap not (f refl)) ∙ h in absurd (cc x)
not_swap a false f h = refl

-- the empty set holds what it must, so the least set is empty
pub none_dead : {V : Type 0} (same : V → V → Bool) → IsSameness same → (f : Option (Fun V)) (d : V → Bool) → IsDeadSet same f d → HoldsDead same (thin d f) (λ v. false)
none_dead same law None d dead v h = absurd (cc h)
none_dead same law (Some f) d dead v h =
    let g = Some (map (thin_block (Some f) d) f) in
    let may = and_first (may_die same g v) (all_uses_dead same g (λ w. false) v) h in
    let unused = and_second (may_die same g v) (all_uses_dead same g (λ w. false) v) h in
    let not_entry = and_first (not (is_in same v (arguments_in g 0))) (is_in same v (candidates (map (thin_block (Some f) d) f))) may in
    let was = candidates_were same law (Some f) d v f (and_second (not (is_in same v (arguments_in g 0))) (is_in same v (candidates (map (thin_block (Some f) d) f))) may) in
    let stays : not (is_in same v (arguments_in (Some f) 0)) ≡ true =
    not_swap (is_in same v (arguments_in g 0)) (is_in same v (arguments_in (Some f) 0)) (λ i. ap (is_in same v) (thin_takes d (Some f) 0) ∙ live_is same law (Some f) d v (arguments_in (Some f) 0) was.1 i) not_entry in
    let all = blocks_were same law (Some f) d v f unused in
    let dies = dead.holds v (and_true _ _ (and_true _ _ stays was.0) all) in
    sym was.1 ∙ dies
