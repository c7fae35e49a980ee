-- Texts that are joined, one after the other.
use Rattle.std.proofs.Common.{◌≡◌, ℕ, zero, suc, ◌+◌, ◌<◌, List, [], ◌∷◌, ◌++◌, length, map, take, get_or, slice_get, Some, None, refl, sym, ap, ◌∙◌, arith, append_assoc}
use Rattle.std.specs.Prelude.{codes}
use Rattle.std.specs.List.{flat_map}
use Rattle.std.proofs.lemmas.List.{append-nil, take_more, flat_map_more}
use Rattle.ir_program.specs.Program.{TypedValue, value_in}
use Rattle.ir_program.specs.declared.handles.Value.{Value}
use Rattle.debug_printing.specs.DebugTexts.{value_name, separator_before, joined, results_text, successors_text}

-- what stands behind these texts before a further one
abbrev sign_behind : List (List ℕ) → List ℕ
sign_behind [] = []
sign_behind (t ∷ ts) = codes ", "

joined_push : (ts : List (List ℕ)) (t : List ℕ) → joined (ts ++ t ∷ []) ≡ joined ts ++ (sign_behind ts ++ t)
joined_push [] t = append-nil t
joined_push (s ∷ ts) t =
    let f : List ℕ → List ℕ = λ text. codes ", " ++ text in
    ap (λ z. s ++ z) (sym (flat_map_more f [] ts t)) ∙ sym (append_assoc s (flat_map f ts) (f t))

sign_of_taken : (ts : List (List ℕ)) (i : ℕ) → i < length ts → sign_behind (take i ts) ≡ separator_before i
sign_of_taken ts zero h = refl
sign_of_taken [] (suc i) h = absurd (omega (arith, h))
sign_of_taken (t ∷ ts) (suc i) h = refl

-- the text at an index
pub there : (ts : List (List ℕ)) (i : ℕ) → i < length ts → slice_get ts i ≡ Some (get_or ts i [])
there [] i h = absurd (omega (arith, h))
there (t ∷ ts) zero h = refl
there (t ∷ ts) (suc i) h = there ts i (omega (arith, h))

-- the texts up to an index, and the one there behind them
pub joined_more : (ts : List (List ℕ)) (i : ℕ) → i < length ts → joined (take i ts) ++ (separator_before i ++ get_or ts i []) ≡ joined (take (i + 1) ts)
joined_more ts i h =
    ap (λ z. joined (take i ts) ++ (z ++ get_or ts i [])) (sym (sign_of_taken ts i h))
    ∙ sym (joined_push (take i ts) (get_or ts i []))
    ∙ ap joined (sym (take_more ts i [] h))

-- the name of what is at an index
pub name_at : {X : Type 0} (f : X → List ℕ) (xs : List X) (i : ℕ) (x : X) (name : List ℕ) → slice_get xs i ≡ Some x → slice_get (map f xs) i ≡ Some name → f x ≡ name
name_at f [] i x name h n = let no : None ≡ Some x = h in cc
name_at f (y ∷ ys) zero x name h n = let same : y ≡ x = cc in let is : f y ≡ name = cc in ap f (sym same) ∙ is
name_at f (y ∷ ys) (suc i) x name h n = name_at f ys i x name h n

-- the same of a result
pub result_name_at : (ts : List TypedValue) (i : ℕ) (v : Value) (name : List ℕ) → value_in ts i ≡ Some v → slice_get (map (λ (t : TypedValue). value_name t.value) ts) i ≡ Some name → value_name v ≡ name
result_name_at [] i v name h n = let no : None ≡ Some v = h in cc
result_name_at (t ∷ ts) zero v name h n = let same : t.value ≡ v = cc in let is : value_name t.value ≡ name = cc in ap value_name (sym same) ∙ is
result_name_at (t ∷ ts) (suc i) v name h n = result_name_at ts i v name h n

-- texts of rows that may be empty
pub no_results : (ts : List (List ℕ)) → length ts ≡ 0 → [] ≡ results_text ts
no_results [] h = refl
no_results (t ∷ ts) h = absurd (omega (arith, h))

pub some_results : (ts : List (List ℕ)) → (length ts ≡ 0 → ⊥) → joined ts ++ codes " = " ≡ results_text ts
some_results [] h = absurd (h refl)
some_results (t ∷ ts) h = refl

pub no_successors : (ts : List (List ℕ)) → length ts ≡ 0 → [] ≡ successors_text ts
no_successors [] h = refl
no_successors (t ∷ ts) h = absurd (omega (arith, h))

pub some_successors : (ts : List (List ℕ)) → (length ts ≡ 0 → ⊥) → (codes " [" ++ joined ts) ++ codes "]" ≡ successors_text ts
some_successors [] h = absurd (h refl)
some_successors (t ∷ ts) h = append_assoc (codes " [") (joined (t ∷ ts)) (codes "]")
