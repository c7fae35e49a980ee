-- Going over lists of what has numbers of 64 bits.
use Rattle.std.proofs.Common.{◌≡◌, ◌⊎◌, inl, inr, ⊎_elim, ℕ, zero, suc, ◌<◌, ◌^◌, List, [], ◌∷◌, ◌++◌, Some, option_map, unwrap_or, slice_get, refl, sym, ap, subst, ◌∙◌}
use Rattle.std.proofs.lemmas.List.{append_assoc, append-nil}
use Rattle.ir_program.specs.Program.{TypedValue, operation_at, block_at, value_in}
use Rattle.ir_program.specs.declared.handles.IRNode.{IRNode}
use Rattle.ir_program.specs.declared.handles.IRNode.TheVariants.{Operation as OperationNode, Region as RegionNode, BasicBlock as BlockNode}
use Rattle.ir_program.specs.declared.handles.Ptr.{Ptr}
use Rattle.ir_program.specs.declared.handles.Operation.{Operation}
use Rattle.ir_program.specs.declared.handles.Value.{Value}
use Rattle.text_dialect.specs.Seen.{SeenOperation, SeenBlock, seen, seen_operation, seen_block}
use Rattle.text_rereading.specs.Numbers.{HasSmallNode, HasSmallNodes}
use Rattle.text_rereading.specs.Places.{HasSmallNumbers, AreSmallInside}
use Rattle.text_rereading.proofs.KnownPlaces.{ContextOf, KeepsLists, mapped, stands_inside}

-- ---- up to an index

-- the values of the list up to here have numbers of 64 bits
abbrev pub AreSmallUpTo : List Value → ℕ → Type 0
AreSmallUpTo vs m = (k : ℕ) (v : Value) → k < m → slice_get vs k ≡ Some v → v.number < 2 ^ 64

abbrev pub DefinesSmallUpTo : List TypedValue → ℕ → Type 0
DefinesSmallUpTo vs m = (k : ℕ) (v : Value) → k < m → value_in vs k ≡ Some v → v.number < 2 ^ 64

-- ---- things

-- the things of the list in front of these are so
pub record HasBefore (P : IRNode → Type 0) (all rest : List IRNode) : Type 0 where
  pub front : List IRNode
  pub whole : all ≡ front ++ rest
  pub each : (k : ℕ) (e : IRNode) → slice_get front k ≡ Some e → P e

in_front : (xs ys : List IRNode) (k : ℕ) (x : IRNode) → slice_get (xs ++ ys) k ≡ Some x
    → (slice_get xs k ≡ Some x) ⊎ ((j : ℕ) × (slice_get ys j ≡ Some x))
in_front [] ys k x e = inr (k, e)
in_front (y ∷ xs) ys zero x e = inl e
in_front (y ∷ xs) ys (suc k) x e = in_front xs ys k x e

one_of : (y : IRNode) (k : ℕ) (x : IRNode) → slice_get (y ∷ []) k ≡ Some x → y ≡ x
one_of y zero x e = cc
one_of y (suc k) x e = absurd (cc)

front_of : (xs : List IRNode) (e : IRNode) (rest : List IRNode) → (k : ℕ) × (slice_get (xs ++ e ∷ rest) k ≡ Some e)
front_of [] e rest = (0, refl)
front_of (x ∷ xs) e rest = let m = front_of xs e rest in (suc m.0, m.1)

module _ (P : IRNode → Type 0) (all : List IRNode) where
  pub before_all : (rest : List IRNode) → rest ≡ all → HasBefore P all rest
  before_all rest is = record { front = []; whole = sym is; each = λ k e f. absurd (cc) }

  pub before_next : (was rest : List IRNode) (e : IRNode) → was ≡ e ∷ rest → P e → HasBefore P all was
      → HasBefore P all rest
  before_next was rest e is here h = record {
    front = h.front ++ e ∷ [];
    whole = h.whole ∙ ap (λ l. h.front ++ l) is ∙ sym (append_assoc h.front (e ∷ []) rest);
    each = λ k x f. ⊎_elim
        (λ (a : slice_get h.front k ≡ Some x). h.each k x a)
        (λ (a : (j : ℕ) × (slice_get (e ∷ []) j ≡ Some x)). subst P (one_of e a.0 x a.1) here)
        (in_front h.front (e ∷ []) k x f);
  }

  -- the next one is one of all
  pub next_at : (was rest : List IRNode) (e : IRNode) → was ≡ e ∷ rest → HasBefore P all was
      → (k : ℕ) × (slice_get all k ≡ Some e)
  next_at was rest e is h =
      let m = front_of h.front e rest in
      (m.0, ap (λ xs. slice_get xs m.0) (h.whole ∙ ap (λ l. h.front ++ l) is) ∙ m.1)

  -- where none is left, all are so
  pub at_end : (rest : List IRNode) → rest ≡ [] → HasBefore P all rest → (k : ℕ) (e : IRNode)
      → slice_get all k ≡ Some e → P e
  at_end rest is h k e f =
      h.each k e (ap (λ xs. slice_get xs k) (sym (h.whole ∙ ap (λ l. h.front ++ l) is ∙ append-nil h.front)) ∙ f)

module _ {D TypeKind AttrKind TypeBody Saved Location OpKind Attr TypeKey : Type 0}
    (c : ContextOf D TypeKind AttrKind TypeBody Saved Location OpKind Attr TypeKey) where
  seen_small : (e : IRNode) → HasSmallNode c.program e → HasSmallNumbers (seen c) e
  seen_small (OperationNode p) h = λ o e.
      let m = mapped seen_operation (operation_at c.program p) o e in (
        (λ k v f. h.0 k v
            (ap (λ x. value_in (unwrap_or (option_map (λ y. y.results) x) []) k) m.1
            ∙ ap (λ (y : SeenOperation OpKind Attr). value_in y.results k) m.2 ∙ f)),
        (λ k v f. h.1 k v
            (ap (λ x. slice_get (unwrap_or (option_map (λ y. y.operands) x) []) k) m.1
            ∙ ap (λ (y : SeenOperation OpKind Attr). slice_get y.operands k) m.2 ∙ f)),
      )
  seen_small (RegionNode r) h = tt
  seen_small (BlockNode b) h = λ v e.
      let m = mapped seen_block (block_at c.program b) v e in (
        h.0,
        h.1,
        (λ k w f. h.2 k w
            (ap (λ x. value_in (unwrap_or (option_map (λ y. y.arguments) x) []) k) m.1
            ∙ ap (λ (y : SeenBlock). value_in y.arguments k) m.2 ∙ f)),
      )

  pub small_inside : (root : Ptr Operation) → KeepsLists c.program → HasSmallNodes c.program root
      → AreSmallInside (seen c) root
  small_inside root lists h e i = seen_small e (h e (stands_inside c lists (OperationNode root) e i))
