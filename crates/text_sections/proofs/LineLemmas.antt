-- The lines of a section.
use Rattle.std.proofs.Common.{arith, ◌≡◌, ◌∙◌, ℕ, zero, suc, ◌+◌, ◌≤◌, drop, Bool, true, false, List, [], ◌∷◌, ◌++◌, map, cond, length, refl, sym, ap, subst, append-nil, add-one, slice_get, Some}
use Rattle.std.proofs.lemmas.Option.{none-some, same_Some}
use Rattle.std.specs.Prelude.{codes, flat_map}
use Rattle.std.proofs.lemmas.Grind.{flat_map-append}
use Rattle.std.proofs.lemmas.List.{length-map}
use Rattle.ir_print.specs.Layout.{mark_text}
use Rattle.ir_outlines.specs.Marks.{Beside, is_marked, marked}
use Rattle.ir_outlines.specs.Section.{Sharing, Entry, entry, entries_of, indexed, once_of, section_of, single}
use Rattle.text_sections.specs.Lines.{item_lines, once_lines, AddsLine}
use Rattle.text_sections.specs.Texts.{Token, sign, attribute, entry_tokens, line_tokens, section_tokens}
use Rattle.text_sections.proofs.TextLemmas.{Adds, adds_both, sign_added, sign_ends}

-- what is left of a list from one of its members on
pub drop_there : {X : Type 0} (xs : List X) (i : ℕ) (x : X) → slice_get xs i ≡ Some x → drop i xs ≡ x ∷ drop (i + 1) xs
drop_there {X = X} xs i x is = rw add-one (by xs i is)
  where
    by : (xs : List X) (i : ℕ) → slice_get xs i ≡ Some x → drop i xs ≡ x ∷ drop (suc i) xs
    by [] i is = absurd (none-some x is)
    by (y ∷ ys) zero is = ap (λ z. z ∷ ys) (same_Some y x is)
    by (y ∷ ys) (suc i) is = by ys i is

module _ {A L : Type 0} where
  pub line_added : (pa : A → List ℕ → Type 0) (pl : L → List ℕ → Type 0) (a : A) (n : ℕ) (old new : List ℕ) → AddsLine (pa a) n old new → Adds pa pl old (line_tokens (n, single a)) new
  line_added pa pl a n old new h =
      let b = (old ++ mark_text n) ++ codes " = " in
      let end : Adds pa pl b (attribute a ∷ sign (codes "\n") ∷ []) new = (b ++ h.0, (h.0, h.1, refl), sign_ends pa pl (codes "\n") (b ++ h.0) new h.2) in
      sign_added pa pl (mark_text n) old (old ++ mark_text n) new (sign (codes " = ") ∷ attribute a ∷ sign (codes "\n") ∷ []) refl
      (sign_added pa pl (codes " = ") (old ++ mark_text n) b new (attribute a ∷ sign (codes "\n") ∷ []) refl end)

  indexed_both : (xs ys : List (Entry A L)) (n : ℕ) → indexed n (xs ++ ys) ≡ indexed n xs ++ indexed (n + length xs) ys
  indexed_both [] ys n = ap (λ m. indexed m ys) (omega arith)
  indexed_both (x ∷ xs) ys n = ap (λ es. (n, x) ∷ es) (indexed_both xs ys (n + 1) ∙ ap (λ m. indexed (n + 1) xs ++ indexed m ys) (omega arith))

  pub marked_one : (b : Beside A L) → length (marked (b ∷ [])) ≤ 1
  marked_one b = by (is_marked b)
    where
      by : (m : Bool) → length (cond m (b ∷ []) []) ≤ 1
      by true = omega arith
      by false = omega arith

  module _ (d : Sharing A) where
    -- one item more
    pub lines-next : (base : ℕ) (once : List A) (b : Beside A L) (bs : List (Beside A L)) (n : ℕ)
        → item_lines d base once n (b ∷ bs) ≡ item_lines d base once n (b ∷ []) ++ item_lines d base once (n + length (marked (b ∷ []))) bs
    lines-next base once b bs n = by (is_marked b)
      where
        by : (m : Bool) → flat_map line_tokens (indexed n (map (entry d base once) (cond m (b ∷ marked bs) (marked bs))))
            ≡ flat_map line_tokens (indexed n (map (entry d base once) (cond m (b ∷ []) []))) ++ item_lines d base once (n + length (cond m (b ∷ []) [])) bs
        by true = ap (λ ts. ts ++ item_lines d base once (n + 1) bs) (sym (append-nil (line_tokens (n, entry d base once b))))
        by false = ap (λ m. item_lines d base once m bs) (omega arith)

    by_marked : (ms : List (Beside A L)) (once : List A) → (length ms ≡ 0 → ⊥)
        → section_tokens (indexed 0 (map (entry d (length ms) once) ms ++ map single once))
        ≡ sign (codes "\noutlined_attributes:\n") ∷ flat_map line_tokens (indexed 0 (map (entry d (length ms) once) ms ++ map single once))
    by_marked [] once some = absurd (some refl)
    by_marked (m ∷ ms) once some = refl

    -- a section by its lines
    pub section_lines : (bs : List (Beside A L)) → (length (marked bs) ≡ 0 → ⊥)
        → section_tokens (section_of d bs) ≡ sign (codes "\noutlined_attributes:\n")
        ∷ (item_lines d (length (marked bs)) (once_of d (marked bs)) 0 bs ++ once_lines (length (marked bs)) (once_of d (marked bs)))
    section_lines bs some =
        let ms = marked bs in
        let once = once_of d ms in
        let es = map (entry d (length ms) once) ms in
        by_marked ms once some ∙ ap (λ ts. sign (codes "\noutlined_attributes:\n") ∷ ts)
        (ap (flat_map line_tokens) (indexed_both es (map single once) 0 ∙ ap (λ m. indexed 0 es ++ indexed m (map single once)) (omega (arith, length-map ms (entry d (length ms) once))))
        ∙ flat_map-append line_tokens (indexed 0 es) (indexed (length ms) (map single once)))

    -- a section without entries
    pub section_empty : (bs : List (Beside A L)) → length (marked bs) ≡ 0 → section_tokens (section_of d bs) ≡ []
    section_empty bs none = by (marked bs) none
      where
        by : (ms : List (Beside A L)) → length ms ≡ 0 → section_tokens (indexed 0 (entries_of d ms)) ≡ []
        by [] e = refl
        by (m ∷ ms) e = absurd (omega (arith, e))

    module _ (pa : A → List ℕ → Type 0) (pl : L → List ℕ → Type 0) (base : ℕ) (once : List A) (b : Beside A L) (n : ℕ) where
      abbrev lines_if : Bool → List (Token A L)
      lines_if m = flat_map line_tokens (indexed n (map (entry d base once) (cond m (b ∷ []) [])))

      -- the line of a marked item
      pub item_line_added : (old a e new : List ℕ) → is_marked b ≡ true → a ≡ (old ++ mark_text n) ++ codes " = "
          → Adds pa pl a (entry_tokens (entry d base once b)) e → new ≡ e ++ codes "\n" → Adds pa pl old (item_lines d base once n (b ∷ [])) new
      item_line_added old a e new is begun said ended =
          subst (λ m. Adds pa pl old (lines_if m) new) (sym is)
          (subst (λ ts. Adds pa pl old ts new) (sym (append-nil (line_tokens (n, entry d base once b))))
          (sign_added pa pl (mark_text n) old (old ++ mark_text n) new (sign (codes " = ") ∷ (entry_tokens (entry d base once b) ++ sign (codes "\n") ∷ [])) refl
          (sign_added pa pl (codes " = ") (old ++ mark_text n) a new (entry_tokens (entry d base once b) ++ sign (codes "\n") ∷ []) begun
          (adds_both pa pl a e new (entry_tokens (entry d base once b)) (sign (codes "\n") ∷ []) said (sign_ends pa pl (codes "\n") e new ended)))))

      -- no line of one that isn't
      pub item_line_skipped : (old : List ℕ) → is_marked b ≡ false → Adds pa pl old (item_lines d base once n (b ∷ [])) old
      item_line_skipped old is = subst (λ m. Adds pa pl old (lines_if m) old) (sym is) refl
