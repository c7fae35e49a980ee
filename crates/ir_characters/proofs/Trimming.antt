-- Texts without the white space at their end.
use Rattle.std.proofs.Common.{◌≡◌, ℕ, ◌+◌, ◌-◌, ◌<◌, ◌≤◌, Bool, true, false, ◌&&◌, List, [], ◌∷◌, ◌++◌, length, take, slice_index, arith, refl, sym, ◌∙◌, ap}
use Rattle.std.specs.Char.{is_whitespace}
use Rattle.std.specs.List.{list_all}
use Rattle.std.proofs.lemmas.List.{take_more}
use Rattle.std.proofs.lemmas.List.Folds.{list_all-append}
use Rattle.ir_characters.specs.Texts.{trimmed}

-- a test and `true`
and_true : (b : Bool) → (b && true) ≡ b
and_true true = refl
and_true false = refl

-- a test and `false`
and_false : (b : Bool) → (b && false) ≡ false
and_false true = refl
and_false false = refl

-- nothing is left of white space
pub trimmed_all_white : (cs : List ℕ) → list_all is_whitespace cs ≡ true → trimmed cs ≡ []
trimmed_all_white [] white = refl
trimmed_all_white (c ∷ cs) white = rw white refl

-- white space behind a text is cut off
pub trimmed_white_behind : (cs white : List ℕ) → list_all is_whitespace white ≡ true → trimmed (cs ++ white) ≡ trimmed cs
trimmed_white_behind [] white all = trimmed_all_white white all
trimmed_white_behind (c ∷ cs) white all =
    let same : list_all is_whitespace (cs ++ white) ≡ list_all is_whitespace cs =
    list_all-append is_whitespace cs white ∙ (ap (λ b. list_all is_whitespace cs && b) all ∙ and_true _) in
    let rest : trimmed (cs ++ white) ≡ trimmed cs = trimmed_white_behind cs white all in
    rw (same, rest) refl

-- a text that ends in no white space stays as it is
pub trimmed_visible_end : (cs : List ℕ) (c : ℕ) → is_whitespace c ≡ false → trimmed (cs ++ c ∷ []) ≡ cs ++ c ∷ []
trimmed_visible_end [] c visible = rw visible refl
trimmed_visible_end (b ∷ cs) c visible =
    let some : list_all is_whitespace (b ∷ (cs ++ c ∷ [])) ≡ false =
    list_all-append is_whitespace (b ∷ cs) (c ∷ []) ∙ (ap (λ w. list_all is_whitespace (b ∷ cs) && (w && true)) visible ∙ and_false _) in
    rw some (ap (λ more. b ∷ more) (trimmed_visible_end cs c visible))

-- a front by its last character
front_at : (cs : List ℕ) (end : ℕ) → 0 < end → end ≤ length cs → take end cs ≡ take (end - 1) cs ++ slice_index cs (end - 1) ∷ []
front_at cs end some inside =
    let same : end ≡ (end - 1) + 1 = omega arith in
    ap (λ (n : ℕ). take n cs) same ∙ take_more cs (end - 1) 0 (omega arith)

-- one white character less at the end
pub trimmed_one_less : (cs : List ℕ) (end : ℕ) → 0 < end → end ≤ length cs → is_whitespace (slice_index cs (end - 1)) ≡ true
    → trimmed (take (end - 1) cs) ≡ trimmed (take end cs)
trimmed_one_less cs end some inside white =
    let shorter : trimmed (take (end - 1) cs ++ slice_index cs (end - 1) ∷ []) ≡ trimmed (take (end - 1) cs) =
    trimmed_white_behind (take (end - 1) cs) (slice_index cs (end - 1) ∷ []) (rw white refl) in
    sym (ap trimmed (front_at cs end some inside) ∙ shorter)

-- the front that ends in no white space stays as it is
pub trimmed_front : (cs : List ℕ) (end : ℕ) → 0 < end → end ≤ length cs → is_whitespace (slice_index cs (end - 1)) ≡ false
    → trimmed (take end cs) ≡ take end cs
trimmed_front cs end some inside visible =
    let same = front_at cs end some inside in
    ap trimmed same ∙ (trimmed_visible_end (take (end - 1) cs) (slice_index cs (end - 1)) visible ∙ sym same)

-- so does the front without characters
pub trimmed_none : (cs : List ℕ) (end : ℕ) → end ≤ 0 → trimmed (take end cs) ≡ take end cs
trimmed_none cs end none = let same : end ≡ 0 = omega arith in rw same refl
