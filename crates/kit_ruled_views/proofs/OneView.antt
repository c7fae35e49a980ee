-- A tree has one flat view at most.
use Rattle.std.proofs.Common.{◌≡◌, ℕ, List, [], ◌∷◌, ◌++◌, map, take, drop, Option, Some, slice_get, refl, sym, ap, ◌∙◌}
use Rattle.std.proofs.Common.{subst, arith}
use Rattle.std.proofs.lemmas.List.{append-nil, take_at, drop_at}
use Rattle.ir_trees.specs.Names.{Names, Contents}
use Rattle.ir_trees.specs.Searched.{AreDistinct}
use Rattle.ir_trees.specs.Trees.{Head, Operations, Blocks, Tree, end, operation, block, region, Root}
use Rattle.kit_ops.specs.declared.arithmetic.Comparison.TheVariants as comparison
use Rattle.kit_ops.specs.declared.kinds.KitOp.{KitOp}
use Rattle.kit_ops.specs.declared.kinds.KitOp.TheVariants as ops
use Rattle.kit_behaviour.specs.Machine.{Arith, Calculated, Compared, Edge, Select, Plain, Nonzero}
use Rattle.kit_behaviour.specs.Machine.{Cases, Op, Const, Calc, Emit, Call, Branch, Return, Fun}
use Rattle.kit_views.specs.FlatView.{kind_of, IsFlatBranch, IsOp, AreOps, AreFlatBlocks, names_in, IsView}
use Rattle.kit_views.specs.Reading.{Reading}

-- ---- kinds

-- the arithmetic or the comparison of a kind
abbrev arith_of : KitOp → Arith
arith_of (ops.Arithmetic a) = Calculated a
arith_of (ops.Comparison c) = Compared c
arith_of _ = Compared comparison.Equal

arith_back : (f : Arith) → arith_of (kind_of f) ≡ f
arith_back (Calculated a) = refl
arith_back (Compared c) = refl

-- kinds of operations that a flat function tells apart, and of the operations that are none of these
abbrev family : KitOp → ℕ
family ops.Constant = 1
family (ops.Arithmetic a) = 2
family (ops.Comparison a) = 2
family ops.Emit = 3
family ops.Call = 4
family ops.Br = 5
family ops.CondBr = 6
family ops.Return = 7
family ops.Module = 0
family ops.Func = 0
family ops.ForwardRef = 0

abbrev select_family : Select → ℕ
select_family Plain = 5
select_family Nonzero = 6
select_family (Cases ns) = 8

abbrev op_family : {V : Type 0} → Op V → ℕ
op_family (Const v n) = 1
op_family (Calc f w v x y) = 2
op_family (Emit x) = 3
op_family (Call rs c xs) = 4
op_family (Branch s xs e es) = select_family s
op_family (Return xs) = 7

calc_family : (f : Arith) → family (kind_of f) ≡ 2
calc_family (Calculated a) = refl
calc_family (Compared c) = refl

-- ---- lists

first_same : {X : Type 0} (x y : X) (xs ys : List X) → x ∷ xs ≡ y ∷ ys → x ≡ y
first_same x y xs ys e = cc

rest_same : {X : Type 0} (x y : X) (xs ys : List X) → x ∷ xs ≡ y ∷ ys → xs ≡ ys
rest_same x y xs ys e = cc

some_first : {X : Type 0} (xs : List X) (o : Option X) (os : List (Option X)) → map Some xs ≡ o ∷ os
    → (x : X) × (o ≡ Some x)
some_first [] o os e = cc
some_first (x ∷ xs) o os e = let same : o ≡ Some x = cc in (x, same)

-- an index of a block that is there
target_same : {B : Type 0} (names : List B) → AreDistinct names → (bs : List B) (i j : ℕ) (os qs : List (Option B))
    → map Some bs ≡ slice_get names i ∷ os → map Some bs ≡ slice_get names j ∷ qs → i ≡ j
target_same names apart bs i j os qs a b =
    let x = some_first bs (slice_get names i) os a in
    apart i j x.0 x.1 (sym (first_same (slice_get names i) (slice_get names j) os qs (sym a ∙ b)) ∙ x.1)

module _ {N : Names} {S : Contents} (r : Reading S) (names : List N.block) (apart : AreDistinct names) where
  -- ---- operations

  module _ (h : Head N S) where
    in_family : (p : Op N.value) → IsOp r names h p → family (r.kind h.content) ≡ op_family p
    in_family (Const v n) is = ap family is.0.kind
    in_family (Calc f w v x y) is = ap family is.0.kind ∙ calc_family f
    in_family (Emit x) is = ap family is.kind
    in_family (Call rs c xs) is = ap family is.0.kind
    in_family (Branch Plain xs e es) is = ap family is.0.kind
    in_family (Branch Nonzero xs e es) is = ap family is.0.kind
    in_family (Branch (Cases ns) xs e es) is = absurd is
    in_family (Return xs) is = ap family is.kind

    -- a branch of one edge forwards all operands
    record IsPlain (p : Op N.value) : Type 0 where
      target : ℕ
      leads : map Some h.successors ≡ slice_get names target ∷ []
      is : p ≡ Branch Plain [] (record { target = target; forwards = h.operands }) []

    plain_is : (xs : List N.value) (e : Edge N.value) (es : List (Edge N.value)) → IsFlatBranch r names h Plain xs e es
        → IsPlain (Branch Plain xs e es)
    plain_is (x ∷ xs) e es is = absurd (omega (arith, is.1))
    plain_is [] e (g ∷ es) is = absurd (omega (arith, is.2))
    plain_is [] e [] is = record {
      target = e.target;
      leads = is.0.successors;
      is = let all : e.forwards ≡ h.operands = sym (append-nil e.forwards) ∙ sym is.0.operands in
          λ i. Branch Plain [] (record { target = e.target; forwards = all i }) [];
    }

    -- a branch of two edges forwards what is behind the condition, along the first edge as much as is read
    record IsChoice (p : Op N.value) : Type 0 where
      first : ℕ
      second : ℕ
      leads : map Some h.successors ≡ slice_get names first ∷ slice_get names second ∷ []
      is : p ≡ Branch Nonzero (take 1 h.operands)
          (record { target = first; forwards = take (r.first h.content) (drop 1 h.operands) })
          (record { target = second; forwards = drop (r.first h.content) (drop 1 h.operands) } ∷ [])

    choice_is : (xs : List N.value) (e : Edge N.value) (es : List (Edge N.value))
        → IsFlatBranch r names h Nonzero xs e es → IsChoice (Branch Nonzero xs e es)
    choice_is [] e es is = absurd (omega (arith, is.1))
    choice_is (x ∷ y ∷ xs) e es is = absurd (omega (arith, is.1))
    choice_is (x ∷ []) e [] is = absurd (omega (arith, is.2))
    choice_is (x ∷ []) e (g ∷ f ∷ es) is = absurd (omega (arith, is.2))
    choice_is (x ∷ []) e (g ∷ []) is =
        let n : ℕ = r.first h.content in
        let behind : drop 1 h.operands ≡ e.forwards ++ (g.forwards ++ []) = ap (drop 1) is.0.operands in
        let a : x ∷ [] ≡ take 1 h.operands = ap (take 1) (sym is.0.operands) in
        let b : e.forwards ≡ take n (drop 1 h.operands) =
        sym (take_at e.forwards (g.forwards ++ []) n (sym is.3)) ∙ ap (take n) (sym behind) in
        let c : g.forwards ≡ drop n (drop 1 h.operands) =
        sym (append-nil g.forwards) ∙ sym (drop_at e.forwards (g.forwards ++ []) n (sym is.3))
        ∙ ap (drop n) (sym behind) in
        record {
          first = e.target;
          second = g.target;
          leads = is.0.successors;
          is = λ i. Branch Nonzero (a i) (record { target = e.target; forwards = b i })
              (record { target = g.target; forwards = c i } ∷ []);
        }

    one_plain : (p q : Op N.value) → IsPlain p → IsPlain q → p ≡ q
    one_plain p q a b =
        let t : a.target ≡ b.target = target_same names apart h.successors a.target b.target [] [] a.leads b.leads in
        a.is ∙ (λ i. Branch Plain [] (record { target = t i; forwards = h.operands }) []) ∙ sym b.is

    one_choice : (p q : Op N.value) → IsChoice p → IsChoice q → p ≡ q
    one_choice p q a b =
        let t : a.first ≡ b.first = target_same names apart h.successors a.first b.first (slice_get names a.second ∷ [])
        (slice_get names b.second ∷ []) a.leads b.leads in
        let u : a.second ≡ b.second = target_same names apart (drop 1 h.successors) a.second b.second [] []
        (behind_first h.successors a.first a.second a.leads) (behind_first h.successors b.first b.second b.leads) in
        a.is
        ∙ (λ i. Branch Nonzero (take 1 h.operands)
        (record { target = t i; forwards = take (r.first h.content) (drop 1 h.operands) })
        (record { target = u i; forwards = drop (r.first h.content) (drop 1 h.operands) } ∷ []))
        ∙ sym b.is
      where
        behind_first : (bs : List N.block) (i j : ℕ) → map Some bs ≡ slice_get names i ∷ slice_get names j ∷ []
            → map Some (drop 1 bs) ≡ slice_get names j ∷ []
        behind_first [] i j e = cc
        behind_first (b ∷ bs) i j e = rest_same (Some b) (slice_get names i) (map Some bs) (slice_get names j ∷ []) e

    one_branch : (s t : Select) (xs ys : List N.value) (e g : Edge N.value) (es gs : List (Edge N.value))
        → select_family s ≡ select_family t → IsFlatBranch r names h s xs e es → IsFlatBranch r names h t ys g gs
        → Branch s xs e es ≡ Branch t ys g gs
    one_branch Plain Plain xs ys e g es gs same a b =
        one_plain (Branch Plain xs e es) (Branch Plain ys g gs) (plain_is xs e es a) (plain_is ys g gs b)
    one_branch Nonzero Nonzero xs ys e g es gs same a b =
        one_choice (Branch Nonzero xs e es) (Branch Nonzero ys g gs) (choice_is xs e es a) (choice_is ys g gs b)
    one_branch (Cases ns) t xs ys e g es gs same a b = absurd a
    one_branch s (Cases ns) xs ys e g es gs same a b = absurd b
    one_branch _ _ xs ys e g es gs same a b = absurd (omega (arith, same))

    -- an operation is one of a flat function at most
    one_op : (p q : Op N.value) → op_family p ≡ op_family q → IsOp r names h p → IsOp r names h q → p ≡ q
    one_op (Const v n) (Const w m) same a b =
        let e : v ≡ w = first_same v w [] [] (sym a.0.results ∙ b.0.results) in
        let f : n ≡ m = sym a.1 ∙ b.1 in
        λ i. Const (e i) (f i)
    one_op (Calc f w v x y) (Calc f2 w2 v2 x2 y2) same a b =
        let ef : f ≡ f2 = sym (arith_back f) ∙ ap arith_of (sym a.0.kind ∙ b.0.kind) ∙ arith_back f2 in
        let ew : w ≡ w2 = first_same w w2 [] [] (sym a.1 ∙ b.1) in
        let ev : v ≡ v2 = first_same v v2 [] [] (sym a.0.results ∙ b.0.results) in
        let exs : x ∷ y ∷ [] ≡ x2 ∷ y2 ∷ [] = sym a.0.operands ∙ b.0.operands in
        let ex : x ≡ x2 = first_same x x2 (y ∷ []) (y2 ∷ []) exs in
        let ey : y ≡ y2 = first_same y y2 [] [] (rest_same x x2 (y ∷ []) (y2 ∷ []) exs) in
        λ i. Calc (ef i) (ew i) (ev i) (ex i) (ey i)
    one_op (Emit x) (Emit y) same a b = ap Emit (first_same x y [] [] (sym a.operands ∙ b.operands))
    one_op (Call rs c xs) (Call rs2 c2 xs2) same a b =
        let er : rs ≡ rs2 = sym a.0.results ∙ b.0.results in
        let ec : c ≡ c2 = sym a.1 ∙ b.1 in
        let ex : xs ≡ xs2 = sym a.0.operands ∙ b.0.operands in
        λ i. Call (er i) (ec i) (ex i)
    one_op (Branch s xs e es) (Branch t ys g gs) same a b = one_branch s t xs ys e g es gs same a b
    one_op (Return xs) (Return ys) same a b = ap Return (sym a.operands ∙ b.operands)
    one_op (Branch Plain xs e es) _ same a b = absurd (omega (arith, same))
    one_op (Branch Nonzero xs e es) _ same a b = absurd (omega (arith, same))
    one_op (Branch (Cases ns) xs e es) _ same a b = absurd a
    one_op _ (Branch Plain xs e es) same a b = absurd (omega (arith, same))
    one_op _ (Branch Nonzero xs e es) same a b = absurd (omega (arith, same))
    one_op _ (Branch (Cases ns) xs e es) same a b = absurd b
    one_op _ _ same a b = absurd (omega (arith, same))

  -- ---- lists

  one_ops : (os : Tree N S Operations) (ps qs : List (Op N.value)) → AreOps r names os ps → AreOps r names os qs → ps
      ≡ qs
  one_ops end [] [] a b = refl
  one_ops end [] (q ∷ qs) a b = absurd b
  one_ops end (p ∷ ps) qs a b = absurd a
  one_ops (operation h rs more) [] qs a b = absurd a
  one_ops (operation h rs more) (p ∷ ps) [] a b = absurd b
  one_ops (operation h rs more) (p ∷ ps) (q ∷ qs) a b =
      let same : op_family p ≡ op_family q = sym (in_family h p a.1) ∙ in_family h q b.1 in
      λ i. one_op h p q same a.1 b.1 i ∷ one_ops more ps qs a.2 b.2 i

  pub one_blocks : (bs : Tree N S Blocks) (ks js : Fun N.value) → AreFlatBlocks r names bs ks → AreFlatBlocks r names bs js
      → ks ≡ js
  one_blocks end [] [] a b = refl
  one_blocks end [] (j ∷ js) a b = absurd b
  one_blocks end (k ∷ ks) js a b = absurd a
  one_blocks (block l os more) [] js a b = absurd a
  one_blocks (block l os more) (k ∷ ks) [] a b = absurd b
  one_blocks (block l os more) (k ∷ ks) (j ∷ js) a b =
      let arguments : k.arguments ≡ j.arguments = sym a.0 ∙ b.0 in
      λ i. record { arguments = arguments i; ops = one_ops os k.ops j.ops a.1 b.1 i } ∷ one_blocks more ks js a.2 b.2 i

one_tree : {N : Names} {S : Contents} (bs cs : Tree N S Blocks) → region bs end ≡ region cs end → bs ≡ cs
one_tree bs cs e = cc

pub one_view : {N : Names} {S : Contents} (r : Reading S) (t : Root N S) (f g : Fun N.value) → (view : IsView r t f)
    → IsView r t g → AreDistinct (names_in view.blocks) → f ≡ g
one_view r t f g view other apart =
    let same : other.blocks ≡ view.blocks = one_tree other.blocks view.blocks (sym other.region ∙ view.region) in
    one_blocks r (names_in view.blocks) apart view.blocks f g view.are
    (subst (λ bs. AreFlatBlocks r (names_in bs) bs g) same other.are)
