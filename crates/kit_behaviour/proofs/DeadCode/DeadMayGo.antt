-- The least set may go.
use Rattle.std.proofs.Common.{◌≡◌, ℕ, zero, suc, Bool, true, false, List, [], ◌∷◌, Option, Some, None, refl, sym, ap, ◌∙◌}
use Rattle.std.specs.Prelude.{if◌then◌else◌, not, ◌&&◌, slice_get}
use Rattle.kit_behaviour.specs.Machine.{AllEdges, Edge, Op, Const, Calc, Emit, Call, Branch, Return, Block, Fun, ops_left, left_in, arguments_in}
use Rattle.kit_behaviour.specs.RemovedValues.{EdgeLive, may_trap, goes, AllLive, GivesLive, OpLive, OpsLive, SetMayGo}
use Rattle.kit_behaviour.specs.DeadValues.{edges_dead, forwards_dead, use_dead, ops_use_dead, blocks_use_dead, all_uses_dead, may_die, HoldsDead, IsDeadSet}
use Rattle.kit_behaviour.specs.Scopes.{is_in}
use Rattle.kit_behaviour.proofs.Behaviour.FrameLemmas.{IsSameness}
use Rattle.kit_behaviour.proofs.Propagation.FactsAfterwards.{and_true, and_first, and_second}

abbrev Within : {V : Type 0} → (V → Bool) → (V → Bool) → Type 0
Within {V} d e = (v : V) → d v ≡ true → e v ≡ true

if_true : (b c c' : Bool) → (c ≡ true → c' ≡ true) → (if b then c else true) ≡ true → (if b then c' else true) ≡ true
if_true true c c' f h = f h
if_true false c c' f h = refl

if_false : (b c c' : Bool) → (c ≡ true → c' ≡ true) → (if b then false else c) ≡ true → (if b then false else c') ≡ true
if_false true c c' f h = h
if_false false c c' f h = f h

module _ {V : Type 0} (same : V → V → Bool) (f : Option (Fun V)) (d e : V → Bool) (within : Within d e) (v : V) where
  forwards_more : (ts gs : List V) → forwards_dead same d v ts gs ≡ true → forwards_dead same e v ts gs ≡ true
  forwards_more [] gs h = refl
  forwards_more (t ∷ ts) [] h = refl
  forwards_more (t ∷ ts) (g ∷ gs) h =
      and_true _ _ (if_true (same v g) (d t) (e t) (within t) (and_first _ (forwards_dead same d v ts gs) h)) (forwards_more ts gs (and_second (if same v g then d t else true) _ h))

  edges_more : (es : List (Edge V)) → edges_dead same f d v es ≡ true → edges_dead same f e v es ≡ true
  edges_more [] h = refl
  edges_more (x ∷ es) h =
      and_true _ _ (forwards_more (arguments_in f x.target) x.forwards (and_first (forwards_dead same d v (arguments_in f x.target) x.forwards) (edges_dead same f d v es) h)) (edges_more es (and_second (forwards_dead same d v (arguments_in f x.target) x.forwards) (edges_dead same f d v es) h))

  use_more : (op : Op V) → use_dead same f d v op ≡ true → use_dead same f e v op ≡ true
  use_more (Const r n) h = refl
  use_more (Calc a w r x y) h = if_true (is_in same v (x ∷ y ∷ [])) (if may_trap a then false else d r) (if may_trap a then false else e r) (if_false (may_trap a) (d r) (e r) (within r)) h
  use_more (Emit x) h = h
  use_more (Call rs c xs) h = h
  use_more (Branch s xs x es) h =
      and_true _ _ (and_first (not (is_in same v xs)) (edges_dead same f d v (x ∷ es)) h) (edges_more (x ∷ es) (and_second (not (is_in same v xs)) (edges_dead same f d v (x ∷ es)) h))
  use_more (Return xs) h = h

  ops_more : (ops : List (Op V)) → ops_use_dead same f d v ops ≡ true → ops_use_dead same f e v ops ≡ true
  ops_more [] h = refl
  ops_more (op ∷ ops) h =
      and_true _ _ (use_more op (and_first (use_dead same f d v op) (ops_use_dead same f d v ops) h)) (ops_more ops (and_second (use_dead same f d v op) (ops_use_dead same f d v ops) h))

  blocks_more : (ks : List (Block V)) → blocks_use_dead same f d v ks ≡ true → blocks_use_dead same f e v ks ≡ true
  blocks_more [] h = refl
  blocks_more (k ∷ ks) h =
      and_true _ _ (ops_more k.ops (and_first (ops_use_dead same f d v k.ops) (blocks_use_dead same f d v ks) h)) (blocks_more ks (and_second (ops_use_dead same f d v k.ops) (blocks_use_dead same f d v ks) h))

pub all_more : {V : Type 0} (same : V → V → Bool) (f : Option (Fun V)) (d e : V → Bool) → Within d e → (v : V) → all_uses_dead same f d v ≡ true → all_uses_dead same f e v ≡ true
all_more same None d e w v h = refl
all_more same (Some f) d e w v h = blocks_more same (Some f) d e w v f h

-- a member of the least set may be dead, and all its uses are: else the others would do
pub member_dies : {V : Type 0} (same : V → V → Bool) (f : Option (Fun V)) (d : V → Bool) → IsDeadSet same f d → (v : V) → d v ≡ true → may_die same f v && all_uses_dead same f d v ≡ true
member_dies {V} same f d dead = dead.least (λ v. may_die same f v && all_uses_dead same f d v) holds
  where
    holds : HoldsDead same f (λ v. may_die same f v && all_uses_dead same f d v)
    holds v h =
        and_true _ _ (and_first (may_die same f v) (all_uses_dead same f (λ w. may_die same f w && all_uses_dead same f d w) v) h)
        (all_more same f (λ w. may_die same f w && all_uses_dead same f d w) d dead.holds v (and_second (may_die same f v) _ h))

module _ {V : Type 0} (same : V → V → Bool) (law : IsSameness same) (f : Option (Fun V)) (d : V → Bool) where
  -- by whether v is in the set
  by_member : (v : V) → (d v ≡ true → ⊥) → d v ≡ false
  by_member v h = by_test (d v) refl
    where
      by_test : (b : Bool) → d v ≡ b → d v ≡ false
      by_test true e = absurd (h e)
      by_test false e = e

  head_in : (v : V) (xs : List V) → is_in same v (v ∷ xs) ≡ true
  head_in v xs = ap (λ b. if b then true else is_in same v xs) (law.same_true v)

  tail_in : (v x : V) (xs : List V) → is_in same v xs ≡ true → is_in same v (x ∷ xs) ≡ true
  tail_in v x xs h = by_test (same v x)
    where
      by_test : (b : Bool) → (if b then true else is_in same v xs) ≡ true
      by_test true = refl
      by_test false = h

  not_both : (b : Bool) → not b ≡ true → b ≡ true → ⊥
  not_both b n h = let x : false ≡ true = ap not (sym h) ∙ n in cc x

  -- none of these is used by what stays
  all_live : (xs : List V) → ((x : V) → is_in same x xs ≡ true → d x ≡ true → ⊥) → AllLive d xs
  all_live [] h = tt
  all_live (x ∷ xs) h = (by_member x (h x (head_in x xs)), all_live xs (λ y i. h y (tail_in y x xs i)))

  gives_live : (ts gs : List V) → ((v : V) → d v ≡ true → forwards_dead same d v ts gs ≡ true) → GivesLive d ts gs
  gives_live [] gs h = tt
  gives_live (t ∷ ts) [] h = tt
  gives_live (t ∷ ts) (g ∷ gs) h = (
    λ live. by_member g (λ m.
        let a = and_first (if same g g then d t else true) (forwards_dead same d g ts gs) (h g m) in
        let b : d t ≡ true = sym (ap (λ z. if z then d t else true) (law.same_true g)) ∙ a in
        let bad : false ≡ true = sym live ∙ b in cc bad),
    gives_live ts gs (λ v m. and_second (if same v g then d t else true) (forwards_dead same d v ts gs) (h v m)),
  )

  edges_live : (es : List (Edge V)) → ((v : V) → d v ≡ true → edges_dead same f d v es ≡ true) → AllEdges (EdgeLive f d) es
  edges_live [] h = tt
  edges_live (e ∷ es) h = (
    gives_live (arguments_in f e.target) e.forwards (λ v m. and_first (forwards_dead same d v (arguments_in f e.target) e.forwards) (edges_dead same f d v es) (h v m)),
    edges_live es (λ v m. and_second (forwards_dead same d v (arguments_in f e.target) e.forwards) (edges_dead same f d v es) (h v m)),
  )

  op_live : (op : Op V) → ((v : V) → d v ≡ true → use_dead same f d v op ≡ true) → goes d op ≡ false → OpLive f d op
  op_live (Const r n) h stays = tt
  op_live (Calc a w r x y) h stays =
      (by_member x (λ m. bad x m (head_in x (y ∷ []))), by_member y (λ m. bad y m (tail_in y x (y ∷ []) (head_in y []))))
    where
      bad : (z : V) → d z ≡ true → is_in same z (x ∷ y ∷ []) ≡ true → ⊥
      bad z m i =
          let u : (if may_trap a then false else d r) ≡ true = sym (ap (λ b. if b then (if may_trap a then false else d r) else true) i) ∙ h z m in
          let w : false ≡ true = sym stays ∙ u in cc w
  op_live (Emit x) h stays = by_member x (λ m. not_both (is_in same x (x ∷ [])) (h x m) (head_in x []))
  op_live (Call rs c xs) h stays = all_live xs (λ x i m. not_both (is_in same x xs) (h x m) i)
  op_live (Branch s xs e es) h stays = (
    all_live xs (λ x i m. not_both (is_in same x xs) (and_first (not (is_in same x xs)) (edges_dead same f d x (e ∷ es)) (h x m)) i),
    edges_live (e ∷ es) (λ v m. and_second (not (is_in same v xs)) (edges_dead same f d v (e ∷ es)) (h v m)),
  )
  op_live (Return xs) h stays = all_live xs (λ x i m. not_both (is_in same x xs) (h x m) i)

  ops_live : (ops : List (Op V)) → ((v : V) → d v ≡ true → ops_use_dead same f d v ops ≡ true) → OpsLive f d ops
  ops_live [] h = tt
  ops_live (op ∷ ops) h = (
    op_live op (λ v m. and_first (use_dead same f d v op) (ops_use_dead same f d v ops) (h v m)),
    ops_live ops (λ v m. and_second (use_dead same f d v op) (ops_use_dead same f d v ops) (h v m)),
  )

  block_of : (ks : List (Block V)) (b : ℕ) (v : V) → blocks_use_dead same f d v ks ≡ true → ops_use_dead same f d v (ops_left (slice_get ks b) 0) ≡ true
  block_of [] b v h = refl
  block_of (k ∷ ks) zero v h = and_first (ops_use_dead same f d v k.ops) (blocks_use_dead same f d v ks) h
  block_of (k ∷ ks) (suc b) v h = block_of ks b v (and_second (ops_use_dead same f d v k.ops) (blocks_use_dead same f d v ks) h)

left_use : {V : Type 0} (same : V → V → Bool) (law : IsSameness same) (f : Option (Fun V)) (d : V → Bool) (b : ℕ) (v : V) → all_uses_dead same f d v ≡ true → ops_use_dead same f d v (left_in f b 0) ≡ true
left_use same law None d b v h = refl
left_use same law (Some f) d b v h = block_of same law (Some f) d f b v h

entry_stays : {V : Type 0} (same : V → V → Bool) (f : Option (Fun V)) (v : V) → may_die same f v ≡ true → not (is_in same v (arguments_in f 0)) ≡ true
entry_stays same None v h = absurd (cc h)
entry_stays same (Some f) v h = and_first (not (is_in same v (arguments_in (Some f) 0))) _ h

pub dead_may_go : {V : Type 0} (same : V → V → Bool) → IsSameness same → (f : Option (Fun V)) (d : V → Bool) → IsDeadSet same f d → SetMayGo d f
dead_may_go same law f d dead =
    record {
      entry = all_live same law f d (arguments_in f 0) (λ x i m. not_both same law f d (is_in same x (arguments_in f 0)) (entry_stays same f x (and_first (may_die same f x) (all_uses_dead same f d x) (member_dies same f d dead x m))) i);
      uses = λ b. ops_live same law f d (left_in f b 0) (λ v m. left_use same law f d b v (and_second (may_die same f v) (all_uses_dead same f d v) (member_dies same f d dead v m)));
    }
