-- Lists in which nothing comes twice, and lists one behind the other.
use Rattle.std.proofs.Common.{◌≡◌, ◌∙◌, ℕ, zero, suc, ◌+◌, ◌⊎◌, inl, inr, List, [], ◌∷◌, ◌++◌, map, length, Some, slice_get, refl, sym, ap, subst, append_assoc, append-nil, arith}
use Rattle.std.proofs.lemmas.List.{map-append}
use Rattle.text_frames.specs.Worlds.{joined}
use Rattle.ir_program.specs.declared.handles.BasicBlock.{BasicBlock}
use Rattle.ir_program.specs.declared.handles.IRNode.TheVariants.{BasicBlock as BlockNode}
use Rattle.ir_program.specs.declared.handles.Ptr.{Ptr}
use Rattle.text_frames.specs.building.Loose.{ListsAreApart}
use Rattle.text_frames.specs.Raised.{block_nodes}
use Rattle.text_frames.proofs.LaterWorlds.{get_left}
use Rattle.text_frames.proofs.Rising.{get_below, some_is}

-- nothing comes twice
abbrev pub AreOnce : {X : Type 0} → List X → Type 0
AreOnce {X} xs = (j k : ℕ) (x : X) → slice_get xs j ≡ Some x → slice_get xs k ≡ Some x → j ≡ k

-- ---- one list behind another

pub get_shifted : {X : Type 0} (xs ys : List X) (i : ℕ) (x : X) → slice_get ys i ≡ Some x → slice_get (xs ++ ys) (length xs + i) ≡ Some x
get_shifted [] ys i x h = let same : i ≡ 0 + i = omega arith in subst (λ (n : ℕ). slice_get ys n ≡ Some x) same h
get_shifted (y ∷ xs) ys i x h =
    let same : suc (length xs + i) ≡ suc (length xs) + i = omega arith in
    subst (λ (n : ℕ). slice_get (y ∷ (xs ++ ys)) n ≡ Some x) same (get_shifted xs ys i x h)

-- what is in two lists is in the first, or in the second behind that
pub get_either : {X : Type 0} (xs ys : List X) (k : ℕ) (x : X) → slice_get (xs ++ ys) k ≡ Some x
    → (slice_get xs k ≡ Some x) ⊎ ((j : ℕ) × (slice_get ys j ≡ Some x) × (k ≡ length xs + j))
get_either [] ys k x h = inr (k, h, omega arith)
get_either (y ∷ xs) ys zero x h = inl h
get_either (y ∷ xs) ys (suc k) x h = elim (get_either xs ys k x h) [ inl e ↦ inl e | inr e ↦ inr (e.0, e.1, omega (arith, e.2)) ]

pub only_one : {X : Type 0} (x : X) (j : ℕ) (y : X) → slice_get (x ∷ []) j ≡ Some y → (j ≡ 0) × (x ≡ y)
only_one x zero y h = (refl, some_is x y h)
only_one x (suc j) y h = cc

pub get_image : {X Y : Type 0} (F : X → Y) (xs : List X) (i : ℕ) (x : X) → slice_get xs i ≡ Some x → slice_get (map F xs) i ≡ Some (F x)
get_image F [] i x e = cc
get_image F (y ∷ xs) zero x e = cc
get_image F (y ∷ xs) (suc i) x e = get_image F xs i x e

-- ---- nothing comes twice

pub once_left : {X : Type 0} (xs ys : List X) → AreOnce (xs ++ ys) → AreOnce xs
once_left xs ys h j k x a b = h j k x (get_left xs ys j x a) (get_left xs ys k x b)

pub once_right : {X : Type 0} (xs ys : List X) → AreOnce (xs ++ ys) → AreOnce ys
once_right xs ys h j k x a b = let e = h (length xs + j) (length xs + k) x (get_shifted xs ys j x a) (get_shifted xs ys k x b) in omega (arith, e)

pub once_apart : {X : Type 0} (xs ys : List X) → AreOnce (xs ++ ys) → (j k : ℕ) (x : X) → slice_get xs j ≡ Some x → slice_get ys k ≡ Some x → ⊥
once_apart xs ys h j k x a b =
    let e = h j (length xs + k) x (get_left xs ys j x a) (get_shifted xs ys k x b) in
    let lt = get_below xs j x a in
    omega (arith, e, lt)

pub once_image : {X Y : Type 0} (F : X → Y) (xs : List X) → AreOnce (map F xs) → AreOnce xs
once_image F xs h j k x a b = h j k (F x) (get_image F xs j x a) (get_image F xs k x b)

-- one more that isn't among them
pub once_put : {X : Type 0} (xs : List X) (y : X) → AreOnce xs → ((k : ℕ) → slice_get xs k ≡ Some y → ⊥) → AreOnce (xs ++ y ∷ [])
once_put xs y h none j k x a b = go (get_either xs (y ∷ []) j x a) (get_either xs (y ∷ []) k x b)
  where
    go : (slice_get xs j ≡ Some x) ⊎ ((i : ℕ) × (slice_get (y ∷ []) i ≡ Some x) × (j ≡ length xs + i))
        → (slice_get xs k ≡ Some x) ⊎ ((i : ℕ) × (slice_get (y ∷ []) i ≡ Some x) × (k ≡ length xs + i)) → j ≡ k
    go (inl c) (inl d) = h j k x c d
    go (inl c) (inr d) = absurd (none j (c ∙ ap (λ z. Some z) (sym (only_one y d.0 x d.1).1)))
    go (inr c) (inl d) = absurd (none k (d ∙ ap (λ z. Some z) (sym (only_one y c.0 x c.1).1)))
    go (inr c) (inr d) = let l = (only_one y c.0 x c.1).0 in let r = (only_one y d.0 x d.1).0 in omega (arith, c.2, d.2, l, r)

-- ---- lists of lists

pub in_concat : {X : Type 0} (xss : List (List X)) (i k : ℕ) (xs : List X) (x : X) → slice_get xss i ≡ Some xs → slice_get xs k ≡ Some x → (j : ℕ) × (slice_get (joined xss) j ≡ Some x)
in_concat [] i k xs x h e = cc
in_concat (ys ∷ xss) zero k xs x h e = (k, get_left ys (joined xss) k x (ap (λ (zs : List _). slice_get zs k) (some_is ys xs h) ∙ e))
in_concat (ys ∷ xss) (suc i) k xs x h e = let more = in_concat xss i k xs x h e in (length ys + more.0, get_shifted ys (joined xss) more.0 x more.1)

-- what is in all of them is in one
pub of_concat : {X : Type 0} (xss : List (List X)) (j : ℕ) (x : X) → slice_get (joined xss) j ≡ Some x
    → (i : ℕ) × (k : ℕ) × (xs : List X) × (slice_get xss i ≡ Some xs) × (slice_get xs k ≡ Some x)
of_concat [] j x h = cc
of_concat (ys ∷ xss) j x h = elim (get_either ys (joined xss) j x h) [
  | inl e ↦ (0, j, ys, refl, e)
  | inr e ↦ (let more = of_concat xss e.0 x e.1 in (suc more.0, more.1, more.2, more.3, more.4))
]

pub once_lists : {E : Type 0} (pss : List (List (Ptr E))) → AreOnce (joined pss) → ListsAreApart pss
once_lists [] h i j k l ps qs p a b c d = cc
once_lists (rs ∷ pss) h zero zero k l ps qs p a b c d =
    let e : rs ≡ ps = some_is rs ps a in
    let f : rs ≡ qs = some_is rs qs b in
    (refl, once_left rs (joined pss) h k l p (ap (λ (zs : List _). slice_get zs k) e ∙ c) (ap (λ (zs : List _). slice_get zs l) f ∙ d))
once_lists (rs ∷ pss) h zero (suc j) k l ps qs p a b c d =
    let e : rs ≡ ps = some_is rs ps a in
    let more = in_concat pss j l qs p b d in
    absurd (once_apart rs (joined pss) h k more.0 p (ap (λ (zs : List _). slice_get zs k) e ∙ c) more.1)
once_lists (rs ∷ pss) h (suc i) zero k l ps qs p a b c d =
    let f : rs ≡ qs = some_is rs qs b in
    let more = in_concat pss i k ps p a c in
    absurd (once_apart rs (joined pss) h l more.0 p (ap (λ (zs : List _). slice_get zs l) f ∙ d) more.1)
once_lists (rs ∷ pss) h (suc i) (suc j) k l ps qs p a b c d =
    let more = once_lists pss (once_right rs (joined pss) h) i j k l ps qs p a b c d in
    (ap suc more.0, more.1)

concat_append : {X : Type 0} (xs ys : List (List X)) → joined (xs ++ ys) ≡ joined xs ++ joined ys
concat_append [] ys = refl
concat_append {X} (x ∷ xs) ys = ap (λ (l : List X). x ++ l) (concat_append xs ys) ∙ sym (append_assoc x (joined xs) (joined ys))

module _ {X Y : Type 0} (F : X → List Y) where
  pub concat_parts : (xs ys : List X) → joined (map F (xs ++ ys)) ≡ joined (map F xs) ++ joined (map F ys)
  concat_parts xs ys = ap joined (map-append F xs ys) ∙ concat_append (map F xs) (map F ys)

  -- one more at the end
  pub concat_put : (xs : List X) (x : X) → joined (map F (xs ++ x ∷ [])) ≡ joined (map F xs) ++ F x
  concat_put xs x = concat_parts xs (x ∷ []) ∙ ap (λ (l : List Y). joined (map F xs) ++ l) (append-nil (F x))

  -- one more at the end that has none
  pub concat_empty : (xs : List X) (x : X) → F x ≡ [] → joined (map F (xs ++ x ∷ [])) ≡ joined (map F xs)
  concat_empty xs x e = concat_put xs x ∙ (ap (λ (l : List Y). joined (map F xs) ++ l) e ∙ append-nil (joined (map F xs)))

  -- two more at the end
  pub concat_two : (xs : List X) (x y : X) → joined (map F ((xs ++ x ∷ []) ++ y ∷ [])) ≡ joined (map F xs) ++ (F x ++ F y)
  concat_two xs x y = concat_put (xs ++ x ∷ []) y ∙ (ap (λ (l : List Y). l ++ F y) (concat_put xs x) ∙ append_assoc (joined (map F xs)) (F x) (F y))

-- ---- blocks by their handles of any sort

pub nodes_append : (bs cs : List (Ptr BasicBlock)) → block_nodes (bs ++ cs) ≡ block_nodes bs ++ block_nodes cs
nodes_append bs cs = map-append BlockNode bs cs

pub nodes_put : (bs : List (Ptr BasicBlock)) (b : Ptr BasicBlock) → block_nodes (bs ++ b ∷ []) ≡ block_nodes bs ++ BlockNode b ∷ []
nodes_put bs b = nodes_append bs (b ∷ [])
