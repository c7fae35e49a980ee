-- Edges of operations that stand one after the other, as they are taken.
use Rattle.std.proofs.Common.{◌≡◌, ℕ, ◌+◌, Bool, List, [], ◌∷◌, ◌++◌, Some, length, get_or, map, refl, sym, ap, ◌∙◌, subst, arith}
use Rattle.std.specs.Prelude.{slice_get}
use Rattle.std.proofs.lemmas.List.{length-append, map-append}
use Rattle.std.proofs.lemmas.Option.{slice_get_read}
use Rattle.opt_rows.specs.OperationRows.{Row}
use Rattle.opt_rows.specs.Rows.{rows_from, AreEnds, row_at}
use Rattle.opt_rows.specs.FactsTaken.{untaken}
use Rattle.opt_rows.proofs.Rows.{row_more, ends_more, StandsAt, entry_in, entry_read}

-- no edge of these operations is taken
pub record IsUntaken (rows : List Row) (es : List ℕ) (ts : List Bool) : Type 0 where
  pub ends : AreEnds 0 es (length ts)
  pub rows_are : rows_from 0 es ts ≡ map untaken rows

pub untaken_begins : (es : List ℕ) (ts : List Bool) → es ≡ [] → ts ≡ [] → IsUntaken [] es ts
untaken_begins es ts e t = record {
  ends = subst (λ (xs : List ℕ). AreEnds 0 xs (length ts)) (sym e) (sym (ap length t));
  rows_are = ap (λ (xs : List ℕ). rows_from 0 xs ts) e;
}

-- nor of one more
pub untaken_more : (rows : List Row) (r : Row) (es fs : List ℕ) (ts us : List Bool) (n : ℕ) → us ≡ ts ++ untaken r → fs ≡ es ++ n ∷ [] → n ≡ length us → IsUntaken rows es ts → IsUntaken (rows ++ r ∷ []) fs us
untaken_more rows r es fs ts us n u f l s = record {
  ends = subst (λ (xs : List ℕ). AreEnds 0 xs (length us)) (sym f) (subst (λ (k : ℕ). AreEnds 0 (es ++ n ∷ []) k) l (ends_more 0 es (length ts) n (omega (arith, l, len)) s.ends));
  rows_are = ap (λ (xs : List ℕ). rows_from 0 xs us) f ∙ (ap (rows_from 0 (es ++ n ∷ [])) u ∙ (row_more 0 es ts (untaken r) n (l ∙ len) s.ends
      ∙ (ap (λ (rs : List (List Bool)). rs ++ untaken r ∷ []) s.rows_are ∙ sym (map-append untaken rows (r ∷ [])))));
}
  where
    len : length us ≡ length ts + length (untaken r)
    len = ap length u ∙ length-append ts (untaken r)

-- whether an edge is taken, read in the list of all
pub mark_read : (rows : List (List Bool)) (es : List ℕ) (ts : List Bool) (k i start : ℕ) (b : Bool) → rows_from 0 es ts ≡ rows → AreEnds 0 es (length ts) → StandsAt es ts k i start → b ≡ get_or ts (start + i) b → slice_get (row_at rows k) i ≡ Some b
mark_read rows es ts k i start b v a s e =
    subst (λ (rs : List (List Bool)). slice_get (row_at rs k) i ≡ Some b) v
    (slice_get_read (row_at (rows_from 0 es ts) k) (length (row_at (rows_from 0 es ts) k)) i b refl (entry_in es ts k i start a s) (e ∙ sym (entry_read es ts k i start a s b)))
